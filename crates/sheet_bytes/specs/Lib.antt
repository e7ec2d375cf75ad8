pub mod Layout
pub mod Claims
pub mod Put
