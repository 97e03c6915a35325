pub mod Schedule
pub mod Phased
pub mod Parts
pub mod Computed
