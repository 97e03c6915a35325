pub mod Window
pub mod Phased
pub mod Parts
pub mod Computed
