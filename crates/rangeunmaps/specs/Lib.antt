pub mod Dones
