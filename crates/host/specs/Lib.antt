-- What a host sees: what each exported function answers and leaves, over the definitions of `flat`, `magnetron` and `engine`.
pub mod Host
