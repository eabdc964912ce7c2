pub mod Parties
pub mod Views
pub mod Texts
pub use declared.views.fed.Fed.{Fed}
pub use declared.views.held.Held.{Held}
pub use declared.views.party.Party.{Party}
pub use declared.texts.noted.Noted.{Noted}
