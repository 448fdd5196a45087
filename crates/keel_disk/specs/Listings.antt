-- Listings of a directory, as `keel_base` has them.
pub use Rattle.keel_base.specs.Listings.{IsListing, size_listed}
