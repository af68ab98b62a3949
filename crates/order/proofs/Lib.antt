-- The trace law, and what follows from it for checks along an order.
pub mod Trace
pub mod Checks
