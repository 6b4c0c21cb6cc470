pub mod Scan
pub mod Found
