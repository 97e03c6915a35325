pub mod Cuts
pub mod Bytes
pub mod Walked
pub mod Traced
