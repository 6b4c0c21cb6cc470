-- What single commands show on whole cards, computed, to be compared with the paper.

-- how records are tried, and what a trial unfolds
pub mod Computed
pub mod Trials
-- the paper's cases A to L, its six mistakes, and records at the edges
pub mod Cases
pub mod Mistakes
pub mod EdgeRecords
