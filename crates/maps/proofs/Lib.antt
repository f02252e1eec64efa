pub mod Takes
pub mod Links
pub mod Tests
pub mod Maps
