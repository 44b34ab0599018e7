-- `Start` and `StartRows` have what the contracts cite, `StartLaws` what they say.
pub mod Start
pub mod StartRows
pub mod StartLaws
