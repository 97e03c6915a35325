pub mod Shacal2
pub mod Phases
pub mod Known
pub mod Laws
