-- `Quote` has what the contracts cite, `QuoteLaws` what it comes to.
pub mod Quote
pub mod QuoteLaws
