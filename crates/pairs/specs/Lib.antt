pub mod Pairs
pub mod Sums
pub mod Integers
pub mod PairLaws
pub mod Rows
