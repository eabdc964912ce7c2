-- What the end that gets the file would keep of a lawful capture between the ends is lawful there.
use Rattle.std.proofs.Common.{◌≡◌, List, inr, sym, subst, ap, ◌∙◌, map}
use Rattle.tftp_packet.specs.{RequestParts}
use Rattle.law_model.specs.Model.Roles.{receiver_of}
use Rattle.law_end.specs.{says_some, OneEnded}
use Rattle.law_tap.specs.{TapDatagram, TapSides, AreApart, kept_of, tap_tests, transfer_between, BreaksNoTapRule, FirstTapAsked, header_at, kept_between, recorded_at}
use Rattle.law_tap.proofs.TapRouted.{Carried, mains, transfer_is}
use Rattle.law_tap.proofs.TapRecorded.{datagram_in, datagrams_each, kept_map, mains_carried, pair_tests}
use Rattle.law_tap.proofs.TapLawful.{mains_lawful, parted, rights}
use Rattle.law_tap.proofs.TapMade.{ended_kept}

pub kept_lawful : (s : TapSides) → AreApart s → (tapped : List TapDatagram) → BreaksNoTapRule s tapped → (asked : RequestParts) → FirstTapAsked s (transfer_between s tapped) asked
    → OneEnded (header_at s asked.side) (kept_between s asked.side (transfer_between s tapped))
kept_lawful s apart tapped passes asked first =
    let x = parted s apart tapped passes in
    let cs : List Carried = mains x.division in
    let each = mains_carried s says_some x.division x.labels in
    let lawful = mains_lawful s apart x.division x.labels (subst (BreaksNoTapRule s) (sym x.whole) passes) in
    let same : transfer_between s tapped ≡ map datagram_in cs = ap (transfer_between s) (sym x.whole) ∙ transfer_is s apart x.division x.labels in
    let first_in : FirstTapAsked s (map datagram_in cs) asked = subst (λ (l : List TapDatagram). FirstTapAsked s l asked) same first in
    let r = receiver_of asked.side in
    let kept : kept_of (tap_tests s) r (map datagram_in cs) ≡ map datagram_in (kept_of pair_tests r cs) = kept_map datagram_in pair_tests (tap_tests s) r cs (datagrams_each s apart cs each) in
    subst (λ (l : List TapDatagram). OneEnded (header_at s asked.side) (kept_between s asked.side l)) (sym same)
    (subst (λ (l : List TapDatagram). OneEnded (header_at s asked.side) (map (recorded_at s r) l)) (sym kept)
    (ended_kept s apart asked cs each lawful (rights s apart asked cs lawful each (inr first_in)) (inr first_in)))
