pub mod ZonePage
