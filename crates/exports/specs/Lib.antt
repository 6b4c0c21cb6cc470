pub mod Exports
pub mod ExportedCommandLaws
pub mod RefusedExports
pub mod Lengths
pub mod ExportedAnswer
pub mod ExportedMending
