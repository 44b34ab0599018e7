-- `Apply` has the definitions, the others the laws.
pub mod Apply
pub mod Walks
pub mod Turns
pub mod Origins
pub mod ApplyRows
