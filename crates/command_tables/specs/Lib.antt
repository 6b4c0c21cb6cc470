-- What single commands show since the requests came, computed, to be compared with them.
pub mod Attempts
pub mod ClosedBytes
pub mod BusyCards
