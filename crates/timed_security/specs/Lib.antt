pub mod IssuedCommand
pub mod IssuedCommandLaws
