-- What runs show, computed, to be compared with the requests.
pub mod NamedZones
pub mod WrittenSessions
pub mod MendedSessions
pub mod TornWrites
