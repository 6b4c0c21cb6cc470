pub mod TimedState
