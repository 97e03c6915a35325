pub mod Ledgers
pub mod Calls
pub mod Told
