pub mod DigitLaws
pub mod NamedLaws
