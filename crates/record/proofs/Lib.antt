pub mod DecoderLaws
pub mod NumberLaws
