pub mod Fips203
pub mod Split
pub mod Accepted
