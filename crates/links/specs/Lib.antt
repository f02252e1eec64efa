pub mod Trees
pub mod TreeLaws
