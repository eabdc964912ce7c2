pub mod Accused
pub mod Accusing
pub mod Cleared
pub mod Worked
pub use Accused.{IsAccusation, is_doubtful_there}
pub use Accusing.{AccusesNobody, IsServerKnown, TellsOf}
pub use Cleared.{BothSaw, HasAddresses, IsOpenedIn, IsSentThere, IsServedIn, IsTransferIn, IsWith}
