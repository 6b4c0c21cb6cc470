-- Demand 3 over the model.

-- the words of its statements
pub mod Along
pub mod Secret
-- the final statements
pub mod CardSecrecy
-- what proves them: two cards under one command and under a list of calls, for any device; then the AT88SC1608's two claims
pub mod Agree
pub mod TwoRows
pub mod Unwinding
pub mod TwoRuns
pub mod Flow
pub mod Rights
pub mod Claims
pub mod ReadPassword
pub mod Authentication
