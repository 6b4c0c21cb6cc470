pub mod RefusalNumber
pub mod DecodedRecord
pub mod DataLaws
pub mod HeadLaws
