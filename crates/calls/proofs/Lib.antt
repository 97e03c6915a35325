pub mod Running
pub mod Filled
