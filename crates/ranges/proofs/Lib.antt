pub mod Pieces
pub mod Tests
