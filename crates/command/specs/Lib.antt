pub mod Reply
pub mod Injective
pub mod CodeSecrecy
pub mod RunExists
pub mod CodeSurvival
