pub mod Examples
pub mod SessionExamples
