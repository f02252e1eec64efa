pub mod Calls
pub mod Counts
pub mod Probes
pub mod Rows
pub mod Takes
pub mod Words
pub mod Surveying
pub mod Writing
