pub mod Lined
pub mod Relieved
pub mod Best
