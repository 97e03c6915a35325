pub mod Places
pub mod Written
pub mod Faultless
pub mod Laws
pub mod Puts
pub mod Opened
