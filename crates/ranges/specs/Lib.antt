pub mod Stretches
pub mod StretchLaws
pub mod Zeros
pub mod RowWalks
