pub mod Digests
pub mod Messages
