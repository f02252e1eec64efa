pub mod Made
pub mod Below
pub mod Bits
pub mod Laws
pub mod Parts
