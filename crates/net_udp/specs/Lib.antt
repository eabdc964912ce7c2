pub mod Frames
pub mod Fragments
pub mod Copies
pub mod Recording
pub use declared.frames.checksum.Checksum.{Checksum}
pub use declared.frames.checksum.Checksum.TheVariants.{Absent, Partial, Right, Wrong}
pub use declared.frames.extension.Upper.{Upper}
pub use declared.frames.fault.FrameFault.{FrameFault}
pub use declared.frames.fault.FrameFault.TheVariants.{Cut}
pub use declared.frames.fault.UdpFault.{UdpFault}
pub use declared.frames.fault.UdpFault.TheVariants.{Port}
pub use declared.frames.link.LinkContent.{LinkContent}
pub use declared.frames.link.LinkType.{LinkType}
pub use declared.frames.link.LinkType.TheVariants.{Cooked, CookedTwo, Ethernet, Loop, Null, Raw, RawIpv4, RawIpv6}
pub use declared.frames.link.Network.TheVariants.{Ipv4, Ipv6}
pub use declared.frames.packet.Direction.{Direction}
pub use declared.frames.packet.Direction.TheVariants.{In, Out, Unknown}
pub use declared.frames.packet.Fragment.{Fragment}
pub use declared.frames.packet.IpPacket.{IpPacket}
pub use declared.frames.packet.UdpDatagram.{UdpDatagram}
pub use declared.fragments.extent.Extent.{Extent}
pub use declared.fragments.outcome.Outcome.{Outcome}
pub use declared.copies.interface.Interface.{Interface}
pub use declared.recording.fate.Fate.{Fate}
pub use declared.recording.fate.Fate.TheVariants.{Discarded, Left}
pub use declared.recording.fate.LeftOut.{LeftOut}
pub use declared.recording.fate.LeftOut.TheVariants.{Frame}
pub use declared.recording.likeness.Likeness.{Likeness}
pub use declared.recording.likeness.Likeness.TheVariants.{New}
pub use declared.recording.senders.Maker.{Maker}
pub use declared.recording.sent.Sent.{Sent}
