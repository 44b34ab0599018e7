-- `Insert` and `Retire` have what the contracts cite, `PlaceLaws` and `RetireLaws` the laws of the stores.
pub mod Retire
pub mod Insert
