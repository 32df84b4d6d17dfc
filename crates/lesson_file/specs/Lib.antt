pub mod Records
pub mod RecordLaws
pub mod Layouts
