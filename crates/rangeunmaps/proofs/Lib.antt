pub mod Looks
pub mod Steps
pub mod Calls
pub mod Faults
