pub mod Final
pub mod Worked
pub use Rattle.audit_spared.specs.Finality.Final.{AreSameDoubts, IsFinal, IsSilent, opened}
