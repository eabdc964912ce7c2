-- What a capture between the ends shows is what the end that gets the file would show of what it would keep.
use Rattle.std.proofs.Common.{◌≡◌, ℕ, true, List, [], ◌∷◌, Contains, inr, refl, sym, subst, ap, ◌∙◌, map, reverse}
use Rattle.std.proofs.lemmas.List.{reverse-reverse}
use Rattle.std.specs.List.{list_any}
use Rattle.tftp_packet.specs.{RequestParts, End}
use Rattle.tftp_packet.specs.Hosts.{Datagram, Header}
use Rattle.law_model.specs.Model.{Meaning, blksize_of, request_of, block_count, Ack, Data, HasSent, HasTaken, IsView, IsOneSided}
use Rattle.law_model.specs.Model.Machines.{receiver_of, sender_of}
use Rattle.law_model.proofs.ModelLemmas.Members.{contains_none}
use Rattle.law_model.proofs.ModelLemmas.OneSided.{view_one_sided}
use Rattle.law_model.proofs.ModelLemmas.MadeRuns.{one_sided_view}
use Rattle.law_end.specs.{ShowsBy, datagrams_of, view_in, says_of, AreRouted, says_some}
use Rattle.law_end.proofs.Division.Parted.{parts_of}
use Rattle.law_end.proofs.Division.OneDivision.{run_divides, division_one}
use Rattle.law_end.proofs.Division.Routed.{routed_by, told_of}
use Rattle.law_tap.specs.{Pass, as_at, MayPassEach, IsWholeAtTap, TapDatagram, TapSides, AreApart, ShowsBetween, passed_of, kept_of, pass_tests, kept_at, tap_tests, transfer_between, BreaksNoTapRule, FirstTapAsked, header_at, kept_between, recorded_at}
use Rattle.law_tap.proofs.Replays.{tap_view_is}
use Rattle.law_tap.proofs.Passed.{sent_passed, at_sent, at_took}
use Rattle.law_tap.proofs.OneTapDivision.{labels_some}
use Rattle.law_tap.proofs.KeptOf.{kept_there}
use Rattle.law_tap.proofs.TapKept.{has_kept, kept_one_sided}
use Rattle.law_tap.proofs.TapBack.{kept_tells}
use Rattle.law_tap.proofs.TapBefore.{first_asked_is}
use Rattle.law_tap.proofs.TapLaw.{said_labels}
use Rattle.law_tap.proofs.TapLawful.{asks_is, mains_lawful, parted, rights}
use Rattle.law_tap.proofs.TapMade.{known_kept, told_some}
use Rattle.law_tap.proofs.TapRecorded.{Each, IsCarried, datagram_in, datagrams_each, kept_each, kept_map, mains_carried, pair_tests, pass_in, passed_is, passes_each, placed, placed_datagrams, placed_routes, placed_starts, placed_view}
use Rattle.law_tap.proofs.TapRouted.{Carried, mains, transfer_is}
use Rattle.law_tap.proofs.TapRun.{in_times, request_one, says_all, says_each}
use Rattle.law_tap.proofs.TapRunsBreak.{kept_known}
use Rattle.law_tap.proofs.Wholes.{blocks_passed}
use Rattle.law_tap.proofs.AtReceiver.{not_sender}
use Rattle.law_tap.proofs.InOrder.{other_of}
use Rattle.judge_tap.proofs.OwnFound.{asked_there}

module _ (s : TapSides) (apart : AreApart s) (tapped : List TapDatagram) (asked : RequestParts) (first : FirstTapAsked s (transfer_between s tapped) asked) where
  abbrev captured : List Datagram
  captured = kept_between s asked.side (transfer_between s tapped)

  -- ---- from the end to the tap

  pub shown_between : BreaksNoTapRule s tapped → (m : Meaning) (wire : List ℕ) → ShowsBy (header_at s asked.side) m wire (reverse captured) → ShowsBetween s m wire tapped
  shown_between passes m wire shown =
      let h : Header = header_at s asked.side in
      let r : End = receiver_of asked.side in
      let x = parted s apart tapped passes in
      let cs : List Carried = mains x.division in
      let ks : List Carried = kept_of pair_tests r cs in
      let each = mains_carried s says_some x.division x.labels in
      let lawful = mains_lawful s apart x.division x.labels (subst (BreaksNoTapRule s) (sym x.whole) passes) in
      let same : transfer_between s tapped ≡ map datagram_in cs = ap (transfer_between s) (sym x.whole) ∙ transfer_is s apart x.division x.labels in
      let first_in : FirstTapAsked s (map datagram_in cs) asked = subst (λ (l : List TapDatagram). FirstTapAsked s l asked) same first in
      let some : list_any pair_tests.asks cs ≡ true = sym (asks_is s apart cs each) ∙ asked_there s (map datagram_in cs) asked first_in in
      let right = rights s apart asked cs lawful each (inr first_in) in
      let known = known_kept s apart asked cs each lawful right (inr first_in) in
      let kept : captured ≡ datagrams_of (placed s r ks)
      = ap (λ (l : List TapDatagram). map (recorded_at s r) (kept_of (tap_tests s) r l)) same ∙ ap (map (recorded_at s r)) (kept_map datagram_in pair_tests (tap_tests s) r cs (datagrams_each s apart cs each)) ∙ sym (placed_datagrams s r ks) in
      let d = shown.seen.dressed in
      let own : IsOneSided m wire r (view_in d.division) = view_one_sided m wire r (view_in d.division) (subst (IsView m wire r) (sym d.main) shown.seen.run) in
      let run = run_divides h m wire d.ids d.division d.labels own in
      let one : d.division ≡ placed s r ks = division_one h d.division (placed s r ks) (d.whole ∙ reverse-reverse captured ∙ kept) (routed_by h says_some told_some d.ids d.division run.0 run.1)
      (placed_routes s apart says_some told_some r ks (kept_each (IsCarried s says_some) pair_tests r cs each) known) in
      let says = says_each s apart asked m wire r ks (subst (AreRouted h m wire) one (routed_by h (says_of m wire) (told_of m wire) d.ids d.division d.labels run.1)) in
      let request : asked ≡ request_of m = request_one s apart asked m wire r cs right some says in
      let side : asked.side ≡ m.side = ap (λ (q : RequestParts). q.side) request in
      let view : view_in (placed s r ks) ≡ as_at r (map pass_in ks) = placed_view s r ks in
      let own_kept : IsOneSided m wire r (as_at r (map pass_in ks)) = subst (IsOneSided m wire r) view (subst (λ v. IsOneSided m wire r (view_in v)) one own) in
      let own_at : IsOneSided m wire (receiver_of m.side) (as_at (receiver_of m.side) (map pass_in (kept_of pair_tests (receiver_of m.side) cs)))
      = subst (λ v. IsOneSided m wire (receiver_of v) (as_at (receiver_of v) (map pass_in (kept_of pair_tests (receiver_of v) cs)))) side own_kept in
      let kept_passes = kept_map pass_in pair_tests pass_tests (receiver_of m.side) cs (passes_each cs) in
      let may : MayPassEach m wire (map pass_in cs)
      = (kept_tells m wire (map pass_in cs)).1 (subst (λ l. IsOneSided m wire (receiver_of m.side) (as_at (receiver_of m.side) l)) (sym kept_passes) own_at, in_times s apart asked m wire side cs each lawful right (inr first_in) own_at) in
      let acknowledged : HasSent (as_at r (map pass_in ks)) (Ack (block_count (blksize_of m) wire)) = subst (λ v. HasSent v (Ack (block_count (blksize_of m) wire))) (sym shown_view ∙ ap view_in one ∙ view) (shown.complete.acknowledged (ap receiver_of side)) in
      let there : Contains (map pass_in cs) (record { from = r; packet = Ack (block_count (blksize_of m) wire) })
      = kept_there pass_tests r (map pass_in cs) _ (subst (λ l. Contains l (record { from = r; packet = Ack (block_count (blksize_of m) wire) })) (sym (kept_map pass_in pair_tests pass_tests r cs (passes_each cs))) (sent_passed r (Ack (block_count (blksize_of m) wire)) (map pass_in ks) acknowledged)) in
      record {
        seen = record {
          fits = shown.seen.fits;
          passed = passed_of x.division;
          view = (tap_view_is m wire (passed_of x.division)).1 (subst (MayPassEach m wire) (sym (passed_is x.division)) may);
          dressed = record { division = x.division; whole = x.whole; main = refl; labels = said_labels s m wire x.division x.labels (says_all s apart asked m wire r cs request each right says) };
        };
        whole = subst (λ (l : List Pass). IsWholeAtTap m wire l) (sym (passed_is x.division)) (subst (λ e. Contains (map pass_in cs) (record { from = e; packet = Ack (block_count (blksize_of m) wire) })) (ap receiver_of side) there);
      }
    where
      shown_view : view_in shown.seen.dressed.division ≡ shown.seen.view
      shown_view = shown.seen.dressed.main

  -- ---- from the tap to the end

  pub shown_at_end : (m : Meaning) (wire : List ℕ) → ShowsBetween s m wire tapped → ShowsBy (header_at s asked.side) m wire (reverse captured)
  shown_at_end m wire shown =
      let seen = shown.seen in
      let division = seen.dressed.division in
      let labels = seen.dressed.labels in
      let cs : List Carried = mains division in
      let each = mains_carried s (says_of m wire) division labels in
      let some = labels_some s m wire division labels in
      let same : transfer_between s tapped ≡ map datagram_in cs = ap (transfer_between s) (sym seen.dressed.whole) ∙ transfer_is s apart division some in
      let first_in : FirstTapAsked s (map datagram_in cs) asked = subst (λ (l : List TapDatagram). FirstTapAsked s l asked) same first in
      let side : asked.side ≡ m.side = ap (λ (q : RequestParts). q.side) (first_asked_is s m wire cs each asked first_in) in
      subst (λ v. ShowsBy (header_at s v) m wire (reverse (kept_between s v (transfer_between s tapped)))) (sym side)
      (subst (λ (l : List TapDatagram). ShowsBy (header_at s m.side) m wire (reverse (kept_between s m.side l))) (sym same) (by_side cs each (mains_carried s says_some division some)
      (subst (MayPassEach m wire) (sym seen.dressed.main ∙ passed_is division) ((tap_view_is m wire seen.passed).0 seen.view)) (subst (λ (l : List Pass). IsWholeAtTap m wire l) (sym seen.dressed.main ∙ passed_is division) shown.whole)))
    where
      by_side : (cs : List Carried) → Each (IsCarried s (says_of m wire)) cs → Each (IsCarried s says_some) cs → MayPassEach m wire (map pass_in cs) → IsWholeAtTap m wire (map pass_in cs)
          → ShowsBy (header_at s m.side) m wire (reverse (kept_between s m.side (map datagram_in cs)))
      by_side cs each some may whole =
          let r : End = receiver_of m.side in
          let h : Header = header_at s m.side in
          let last : ℕ = block_count (blksize_of m) wire in
          let ks : List Carried = kept_of pair_tests r cs in
          let passes : kept_at r (map pass_in cs) ≡ map pass_in ks = kept_map pass_in pair_tests pass_tests r cs (passes_each cs) in
          let known = kept_known s apart m wire shown.seen.fits r cs may in
          let carried = kept_each (IsCarried s (says_of m wire)) pair_tests r cs each in
          let own : IsOneSided m wire r (view_in (placed s r ks)) = subst (IsOneSided m wire r) (ap (as_at r) passes ∙ sym (placed_view s r ks)) (kept_one_sided m wire (map pass_in cs) may) in
          let routed = placed_routes s apart (says_of m wire) (told_of m wire) r ks carried known in
          let p = parts_of h m wire (placed s r ks) routed (placed_starts s apart r ks known) in
          let kept : kept_between s m.side (map datagram_in cs) ≡ datagrams_of (placed s r ks)
          = ap (map (recorded_at s r)) (kept_map datagram_in pair_tests (tap_tests s) r cs (datagrams_each s apart cs some)) ∙ sym (placed_datagrams s r ks) in
          let view : as_at r (kept_at r (map pass_in cs)) ≡ view_in (placed s r ks) = ap (as_at r) passes ∙ sym (placed_view s r ks) in
          record {
            seen = record {
              fits = shown.seen.fits;
              view = view_in (placed s r ks);
              run = one_sided_view m wire r (view_in (placed s r ks)) own;
              dressed = record { ids = p.0; division = placed s r ks; whole = sym kept ∙ sym (reverse-reverse (kept_between s m.side (map datagram_in cs))); main = refl; labels = p.1 };
            };
            complete = record {
              took = λ is k low high. subst (λ v. HasTaken v (Data k)) view (at_took r (Data k) (kept_at r (map pass_in cs)) (subst (λ e. Contains (kept_at r (map pass_in cs)) (record { from = e; packet = Data k })) (other_of m.side) (has_kept r (map pass_in cs) (sender_of m.side) (Data k) refl (blocks_passed m wire (map pass_in cs) may whole k low high))));
              acknowledged = λ is. subst (λ v. HasSent v (Ack last)) view (at_sent r (Ack last) (kept_at r (map pass_in cs)) (has_kept r (map pass_in cs) r (Ack last) refl whole));
              was_told = λ is. absurd (not_sender m.side is);
            };
          }

-- where nothing of the transfer has passed, the last ACK has not
pub never_shown : (s : TapSides) → AreApart s → (tapped : List TapDatagram) → transfer_between s tapped ≡ [] → (m : Meaning) (wire : List ℕ) → ShowsBetween s m wire tapped → ⊥
never_shown s apart tapped none m wire shown =
    let division = shown.seen.dressed.division in
    let same : map datagram_in (mains division) ≡ [] = sym (transfer_is s apart division (labels_some s m wire division shown.seen.dressed.labels)) ∙ ap (transfer_between s) shown.seen.dressed.whole ∙ none in
    let nothing : mains division ≡ [] = by (mains division) same in
    contains_none (record { from = receiver_of m.side; packet = Ack (block_count (blksize_of m) wire) })
    (subst (λ (l : List Pass). IsWholeAtTap m wire l) (sym shown.seen.dressed.main ∙ passed_is division ∙ ap (map pass_in) nothing) shown.whole)
  where
    by : (cs : List Carried) → map datagram_in cs ≡ [] → cs ≡ []
    by [] is = refl
    by (c ∷ cs) is = absurd (cc)
