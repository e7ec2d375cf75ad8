pub mod Complement
pub mod Numbers
pub mod Back
