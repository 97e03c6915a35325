pub mod Bitwise
pub mod Looped
pub mod Padding
pub mod Hashed
pub mod Standard1
pub mod Standard256
pub mod Stated
pub mod Computed
