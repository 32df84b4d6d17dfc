pub mod Sample
pub mod Totals
