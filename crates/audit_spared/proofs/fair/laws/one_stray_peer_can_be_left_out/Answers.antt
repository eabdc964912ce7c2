use Rattle.std.proofs.Common.{[]}
use Rattle.tftp_packet.specs.Hosts.{same_peer}
use Rattle.audit_spared.proofs.FairLemmas.LeftOut.{one_apart, lawful_without, shown_without}
use Rattle.audit_spared.proofs.fair.laws.one_stray_peer_can_be_left_out.Goals as goal

pub returns-clause-lawful : goal.returns-clause-lawful
returns-clause-lawful c h peer datagrams other lawful = lawful_without h (same_peer peer) [] datagrams (one_apart peer datagrams other) lawful

pub returns-clause-shows : goal.returns-clause-shows
returns-clause-shows c h m peer datagrams other shows = shown_without h m (same_peer peer) [] datagrams (one_apart peer datagrams other) shows
