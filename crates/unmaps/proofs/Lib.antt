pub mod Frees
pub mod Prunes
pub mod Tests
pub mod Unmaps
