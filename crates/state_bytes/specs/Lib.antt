pub mod StateBytes
pub mod StateLaws
pub mod WrittenState
