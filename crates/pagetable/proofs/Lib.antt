mod Hands
pub mod Unique
