pub mod ConfigurationPage
