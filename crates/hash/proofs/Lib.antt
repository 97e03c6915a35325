pub mod Growing
pub mod Ends
pub mod Absorbed
pub mod Grown
pub mod Closed
pub mod Joins
pub mod Rows
