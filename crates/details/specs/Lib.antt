pub mod Stepped
