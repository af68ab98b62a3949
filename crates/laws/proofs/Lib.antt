-- `SafeOrders` is the order theorem, and says in words what it says; `CannotBeDropped` shows why its premise is there. `Commute` and `TwoOrders`
-- are its proof. `Refusals` says what a run answers and what a refused one leaves, `Nested` what an inner run leaves of the outer marks, `OwnPart`
-- what a run leaves of a stage's state, `TwoOutputs` what Pan writes. `Listed` proves the table of listed cases.
pub mod Commute
pub mod TwoOrders
pub mod SafeOrders
pub mod Refusals
pub mod Nested
pub mod OwnPart
pub mod TwoOutputs
pub mod Listed
pub mod CannotBeDropped
