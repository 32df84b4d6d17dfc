pub mod Centring
pub mod Half
pub mod SetsFit
