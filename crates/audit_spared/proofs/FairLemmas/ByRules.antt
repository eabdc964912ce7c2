-- What is left of a capture passes by the rules too, and means by them what the capture did.
use Rattle.std.proofs.Common.{Bool, List, ◌++◌, reverse}
use Rattle.tftp_packet.specs.Hosts.{Datagram, Header, PeerId}
use Rattle.law_model.specs.Model.{Meaning}
use Rattle.law_end.specs.{OneEnded, Meant}
use Rattle.law_end.proofs.Whole.TwoEnds.{lawful, whole}
use Rattle.audit_spared.specs.Fair.{without, AreApart}
use Rattle.audit_spared.proofs.FairLemmas.LeftOut.{lawful_without, shown_by_without}

pub passes_without : (h : Header) (out : PeerId → Bool) (old new : List Datagram) → AreApart out (old ++ new) → OneEnded h (reverse (old ++ new)) → OneEnded h (reverse (old ++ without h out new))
passes_without h out old new apart passes = (lawful h (old ++ without h out new)).0 (lawful_without h out old new apart ((lawful h (old ++ new)).1 passes))

pub meant_without : (h : Header) (m : Meaning) (out : PeerId → Bool) (old new : List Datagram) → AreApart out (old ++ new) → Meant h (reverse (old ++ new)) m → Meant h (reverse (old ++ without h out new)) m
meant_without h m out old new apart meant =
    let (wire, shown) = (whole h m (old ++ new)).0 meant in (whole h m (old ++ without h out new)).1 (wire, shown_by_without h m wire out old new apart shown)
