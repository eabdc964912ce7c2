pub mod Alike
pub mod Brought
pub mod Fates
pub mod Checked
pub mod Discards
pub mod Senders
pub mod History
pub mod Accounts
pub mod Contents
pub mod OneWay
pub mod Worked
pub use Rattle.net_udp.specs.Recording.Alike.{Comes, IsLike, WantsToHold, interface_of, is_copy, likeness_by, recorded}
pub use Rattle.net_udp.specs.Recording.Brought.{BroughtState, DoesNothing, IsNoPart, IsPart, LetsGoOld, MakesRoom, Takes, TakesPart, Wants, WantsPart, arrival_of, key_of, key_protocol, may_overlap, nothing_brought}
pub use Rattle.net_udp.specs.Recording.Fates.{HasFault, IsDatagram, IsFate, IsFateBy, IsFateOf, Says, content_of, direction_of, sharers}
pub use Rattle.net_udp.specs.Recording.Checked.{HasDatagram, IsChecksum, IsSent, IsSentBy, IsSentOf, checksum_told}
pub use Rattle.net_udp.specs.Recording.Discards.{HasSent, IsDiscarded}
pub use Rattle.net_udp.specs.Recording.Senders.{IsKnown, IsUnknown, Knows, Makers, WantsToKnow, discarded_by, learned, maker_of, same_host}
pub use Rattle.net_udp.specs.Recording.History.{Continues, EventState, IsHistory, RecordingState, RefusedTells, StandsFor, Step, WantsNext, frames_of, packets_of, sent_in, standing_of, waiting, with_step}
pub use Rattle.net_udp.specs.Recording.Accounts.{IsIn, IsSettled, IsTold, IsWaiting, NoneTwice, ToldOneWay, WaitsAt}
pub use Rattle.net_udp.specs.Recording.Contents.{IsBrought, IsPutTogether}
pub use Rattle.net_udp.specs.Recording.OneWay.{AreToldAlike, IsRead, IsReadTo, IsSameDatagram, IsSameFate, frames_at}
pub use Rattle.net_udp.specs.Recording.Worked.{across_bytes, across_part, across_step, begun_bytes, begun_named, begun_part, begun_set, begun_step, cooked_sent, cooked_step, data_key, data_of_ipv6, ethernet_step, first_bytes, first_of, first_part, first_set, first_step, frame_of_ipv6, icmp_content, icmp_frame, last_bytes, left_bytes, left_packet, last_named, last_of_icmp, last_part, last_step, part_of_icmp, raw_frame, raw_step, recorded_at, recorded_first, recorded_raw, sent_with, spoilt_acknowledgement, spoilt_bytes, spoilt_packet, torn_set, worked_content, worked_key, worked_time}
