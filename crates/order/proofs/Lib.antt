pub mod Keys
pub mod Listing
pub mod Openings
pub mod Ranges
