pub mod Report
pub mod Counter
pub mod Password
pub mod Cryptogram
