pub mod Walks
pub mod Ends
pub mod WalkLaws
pub mod Steps
pub mod Reaches
