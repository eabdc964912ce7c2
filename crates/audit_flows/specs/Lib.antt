pub mod Lines
pub mod Transfers
pub use declared.lines.doubts.Doubts.{Doubts}
pub use declared.lines.endpoint.Address.{Address}
pub use declared.lines.endpoint.Address.TheVariants.{V4, V6}
pub use declared.lines.endpoint.Endpoint.{Endpoint}
pub use declared.lines.history.History.{History}
pub use declared.lines.history.Progress.{Progress}
pub use declared.lines.line.Line.{Line}
pub use declared.lines.line.Talk.{Talk}
pub use declared.lines.line.Talked.{Talked}
pub use declared.lines.place.Place.{Place}
pub use declared.lines.place.Place.TheVariants.{Apart, Beside, Nowhere, Opens, Repeats, Talks}
pub use declared.lines.place.Transfer.{Transfer}
pub use declared.transfers.attribution.Attributed.{Attributed}
pub use declared.transfers.attribution.Attribution.{Attribution}
pub use declared.transfers.attribution.AttributionFault.{AttributionFault}
pub use declared.transfers.attribution.Served.{Served}
pub use declared.transfers.attribution.Strayed.{Strayed}
pub use declared.transfers.doubted.TransferDoubts.{TransferDoubts}
pub use declared.transfers.views.TransferEnds.{TransferEnds}
