pub mod Words
pub mod Host
pub mod Below
pub mod Bits
pub mod Parts
