pub mod Apart
pub mod Worked
pub use Rattle.audit_spared.specs.Fair.Apart.{AreApart, AreUnasked, is_own_request, stays, wholly_without, without}
pub use Rattle.audit_spared.specs.Fair.Worked.{block_1}
