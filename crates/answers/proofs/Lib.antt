-- The laws. Of tests (`Tests`) and of checks in sequence (`Verdicts`); the theorems: the laws of activity (`Greatest`), and that each contract
-- determines its outcome.
pub mod Tests
pub mod Verdicts
pub mod Greatest
pub mod Determined
