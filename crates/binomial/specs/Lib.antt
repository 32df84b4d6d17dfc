pub mod Signed
pub mod Sets
pub mod Weight
pub mod Fips204
pub mod Half
pub mod SetsFit
pub mod SetLaws
