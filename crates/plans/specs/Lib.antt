pub mod Plan
pub mod Steps
