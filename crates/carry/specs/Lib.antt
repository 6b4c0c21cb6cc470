pub mod Carried
pub mod ActLaws
