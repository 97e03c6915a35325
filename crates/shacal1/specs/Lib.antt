pub mod Shacal1
pub mod Phases
pub mod Known
pub mod Laws
