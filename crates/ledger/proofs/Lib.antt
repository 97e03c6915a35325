pub mod Granted
pub mod Changed
pub mod Shown
pub mod Answering
pub mod Rooms
