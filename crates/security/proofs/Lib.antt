pub mod CounterLaws
mod CryptogramLaws
mod PasswordLaws
