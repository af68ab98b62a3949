-- For tests: what the contracts of `stream` cite, a place, and what writing makes of it. Assumes nothing.
pub mod Place
