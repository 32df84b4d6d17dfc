pub mod Overwrite
pub mod Laws
pub mod Positions
pub mod PositionLaws
pub mod Rows
pub mod Blocks
pub mod Columns
