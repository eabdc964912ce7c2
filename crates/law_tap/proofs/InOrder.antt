-- What is lawful at a tap, and in order from the receiver, breaks no rule when it is read as a capture at the receiver.
use Rattle.std.proofs.Common.{◌≡◌, ℕ, List, Contains, refl, sym, subst, reverse}
use Rattle.tftp_packet.specs.{Side, Get, Put, End}
use Rattle.tftp_packet.specs.Hosts.{Datagram, Header}
use Rattle.law_model.specs.Model.{Meaning, blksize_of, block_count, Data, Ack, IsOneSided, IsComplete}
use Rattle.law_model.specs.Model.Machines.{other_end, sender_of, receiver_of}
use Rattle.law_model.proofs.ModelLemmas.MadeRuns.{one_sided_view}
use Rattle.law_end.specs.{Fits, IsDressed, IsSeen, ShowsBy, OneEnded}
use Rattle.law_end.proofs.Whole.TwoEnds.{rules}
use Rattle.law_tap.specs.{Pass, as_at, IsTapView, IsWholeAtTap, KeepsOrderEach}
use Rattle.law_tap.proofs.Replays.{tap_view_is}
use Rattle.law_tap.proofs.Passed.{at_sent, at_took}
use Rattle.law_tap.proofs.Wholes.{blocks_passed}
use Rattle.law_tap.proofs.AtReceiver.{receiver_is, not_sender}

pub other_of : (side : Side) → sender_of side ≡ other_end (receiver_of side)
other_of Get = refl
other_of Put = refl

module _ (h : Header) (m : Meaning) (wire : List ℕ) (passed : List Pass) (datagrams : List Datagram) where
  pub seen_in_order : Fits h.rollover m wire → h.named ≡ receiver_of m.side → IsTapView m wire passed → KeepsOrderEach h.named (as_at h.named passed) → IsDressed h m wire (as_at h.named passed) datagrams → IsSeen h m wire datagrams
  seen_in_order fits at view order dressed = record {
    fits = fits;
    view = as_at h.named passed;
    run = one_sided_view m wire h.named (as_at h.named passed) (subst (λ e. IsOneSided m wire e (as_at e passed)) (sym at)
        ((receiver_is m wire passed).1 ((tap_view_is m wire passed).0 view, subst (λ e. KeepsOrderEach e (as_at e passed)) at order)));
    dressed = dressed;
  }

  pub breaks_none : Fits h.rollover m wire → h.named ≡ receiver_of m.side → IsTapView m wire passed → KeepsOrderEach h.named (as_at h.named passed) → IsDressed h m wire (as_at h.named passed) datagrams → OneEnded h (reverse datagrams)
  breaks_none fits at view order dressed = (rules h m wire datagrams (seen_in_order fits at view order dressed)).0

  complete_at : (e : End) → e ≡ receiver_of m.side → IsTapView m wire passed → IsWholeAtTap m wire passed → IsComplete m wire e (as_at e passed)
  complete_at e is view whole = subst (λ x. IsComplete m wire x (as_at x passed)) (sym is) (record {
    took = λ same k low high. at_took (receiver_of m.side) (Data k) passed (subst (λ x. Contains passed (record { from = x; packet = Data k })) (other_of m.side) (blocks_passed m wire passed ((tap_view_is m wire passed).0 view) whole k low high));
    acknowledged = λ same. at_sent (receiver_of m.side) (Ack (block_count (blksize_of m) wire)) passed whole;
    was_told = λ same. absurd (not_sender m.side same);
  })

  pub shown_in_order : Fits h.rollover m wire → h.named ≡ receiver_of m.side → IsTapView m wire passed → KeepsOrderEach h.named (as_at h.named passed) → IsDressed h m wire (as_at h.named passed) datagrams → IsWholeAtTap m wire passed → ShowsBy h m wire datagrams
  unfolding seen_in_order
  shown_in_order fits at view order dressed whole = record { seen = seen_in_order fits at view order dressed; complete = complete_at h.named at view whole }
