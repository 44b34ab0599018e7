pub mod Reading
pub mod ReadingParts
pub mod ReadingLaws
pub mod Decimal
pub mod DecimalLaws
pub mod RowLaws
pub mod Listing
pub mod ListingLaws
