pub mod Laws
pub mod Words
pub mod Translation
pub mod Joint
pub mod Blocks
