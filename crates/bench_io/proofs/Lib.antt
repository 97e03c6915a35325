pub mod ByMark
pub mod Printed
