pub mod Meaning
pub mod Turned
pub mod Bytes
