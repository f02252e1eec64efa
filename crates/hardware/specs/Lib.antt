pub mod Machine
pub mod Meanings
pub mod Examples
pub mod Isolation
pub mod Plans
pub mod Trees
pub mod Watch
