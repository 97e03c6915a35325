pub mod Practice
pub mod Laws
