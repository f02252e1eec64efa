pub mod HostLaws
pub mod Says
