pub mod Text
pub mod TextLaws
pub mod Room
