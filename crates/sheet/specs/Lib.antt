pub mod Sheets
pub mod Reading
pub mod Contents
pub mod Views
pub mod Rest
