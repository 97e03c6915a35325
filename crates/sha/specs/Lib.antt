pub mod Standards
pub mod Sha
pub mod Claims
pub mod Answers
pub mod Known
