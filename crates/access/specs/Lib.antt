pub mod VolatileState
pub mod Register
pub mod Permissions
pub mod Column
