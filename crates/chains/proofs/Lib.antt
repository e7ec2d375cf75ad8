pub mod Growth
pub mod Laws
