pub mod Rows
pub mod Surveys
