pub mod Words
pub mod Buffer
pub mod Steps
pub mod Blocks
pub mod Hex
