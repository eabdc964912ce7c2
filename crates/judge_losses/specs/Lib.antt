pub mod Places
pub mod Mended
pub mod Texts
pub use Places.{AreMissing, Fills, IsPlaceOf, going, missing, missing_at, none, whole}
pub use Mended.{IsMended, Mender, unmended_by}
pub use Texts.{AreMissingOf}
pub use declared.place.Place.{Place}
pub use declared.unmended.Unmended.{Unmended}
