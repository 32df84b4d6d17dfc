pub mod Values
pub mod Secrecy
pub mod Doubling
