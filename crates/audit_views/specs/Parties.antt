pub mod Naming
pub use Rattle.audit_views.specs.Parties.Naming.{AreBytes, IsAddress, address_of, host_name}
