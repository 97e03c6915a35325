pub mod Single
pub mod Told
