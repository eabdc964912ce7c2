-- What is lawful at an end is lawful at a tap, and what is whole there is whole here.
use Rattle.std.proofs.Common.{◌≡◌, ℕ, List, [], ◌∷◌, Contains, inl, inr, refl, sym, subst, ap, ◌∙◌}
use Rattle.tftp_packet.specs.{Side, Get, Put, End, Client, Server}
use Rattle.tftp_packet.specs.Hosts.{Datagram, Header}
use Rattle.law_model.specs.Model.{Meaning, blksize_of, block_count, Sent, Took, MachinePacket, Ack, History, HasTaken}
use Rattle.law_model.specs.Model.Machines.{other_end, sender_of, receiver_of}
use Rattle.law_model.proofs.ModelLemmas.Members.{contains_first, contains_later, contains_cases, contains_none}
use Rattle.law_model.proofs.ModelLemmas.OtherEnd.{other_receives}
use Rattle.law_end.specs.{IsSeen, ShowsBy, Label, Main, Stray, Division, view_in, HasLabel, HaveLabels, TransferIds}
use Rattle.law_end.specs.Dress.{StrayAnswer}
use Rattle.law_tap.specs.{pass_of, tapped_at, IsWholeAtTap, AreCarried, IsSeenAtTap, ShowsAtTap, mains_at}
use Rattle.law_tap.proofs.Beside.{view_is_tapped, sent_passed}

module _ (m : Meaning) (wire : List ℕ) (header : Header) (ids : TransferIds) where
  carried_label : (d : Datagram) (label : Label) (earlier : Division) → HasLabel header m wire ids earlier d label
      → AreCarried m wire (tapped_at header.named (view_in earlier)) (mains_at header.named earlier)
      → AreCarried m wire (tapped_at header.named (view_in (record { datagram = d; label = label } ∷ earlier))) (mains_at header.named (record { datagram = d; label = label } ∷ earlier))
  carried_label d (Main (Sent p)) earlier has before = (refl, has.spells, before)
  carried_label d (Main (Took p)) earlier has before = (refl, has.spells, before)
  carried_label d Stray earlier has before = before
  carried_label d StrayAnswer earlier has before = before

  carried_mains : (division : Division) → HaveLabels header m wire ids division → AreCarried m wire (tapped_at header.named (view_in division)) (mains_at header.named division)
  carried_mains [] labels = tt
  carried_mains (p ∷ division) labels = carried_label p.datagram p.label division labels.0 (carried_mains division labels.1)

pub seen_at_tap : (h : Header) (m : Meaning) (wire : List ℕ) (datagrams : List Datagram) (s : IsSeen h m wire datagrams) → IsSeenAtTap h.rollover m wire (mains_at h.named s.dressed.division)
seen_at_tap h m wire datagrams s = record {
  fits = s.fits;
  passed = tapped_at h.named s.view;
  view = view_is_tapped m wire h.named s.view s.run;
  carried = subst (λ v. AreCarried m wire (tapped_at h.named v) (mains_at h.named s.dressed.division)) s.dressed.main (carried_mains m wire h s.dressed.ids s.dressed.division s.dressed.labels);
}

-- ---- what is whole

other_passed : (e : End) (h : History) (p : MachinePacket) → HasTaken h p → Contains (tapped_at e h) (record { from = other_end e; packet = p })
other_passed e [] p at = absurd (contains_none (Took p) at)
other_passed e (d ∷ h) p at = elim (contains_cases d h (Took p) at) [
  | inl now ↦ subst (λ x. Contains (pass_of e x ∷ tapped_at e h) (record { from = other_end e; packet = p })) (sym now) (contains_first (record { from = other_end e; packet = p }) (tapped_at e h))
  | inr before ↦ contains_later (pass_of e d) (tapped_at e h) (record { from = other_end e; packet = p }) (other_passed e h p before)
]

data Role (e : End) (side : Side) : Type 0 where
  Sends : e ≡ sender_of side → Role e side
  Receives : e ≡ receiver_of side → Role e side

role : (e : End) (side : Side) → Role e side
role Client Get = Receives refl
role Client Put = Sends refl
role Server Get = Sends refl
role Server Put = Receives refl

whole_passed : (h : Header) (m : Meaning) (wire : List ℕ) (datagrams : List Datagram) (s : ShowsBy h m wire datagrams) → Role h.named m.side → IsWholeAtTap m wire (tapped_at h.named s.seen.view)
whole_passed h m wire datagrams s (Sends is) =
    let last = block_count (blksize_of m) wire in
    let from : other_end h.named ≡ receiver_of m.side = ap other_end is ∙ other_receives m.side in
    subst (λ x. Contains (tapped_at h.named s.seen.view) (record { from = x; packet = Ack last })) from (other_passed h.named s.seen.view (Ack last) (s.complete.was_told is))
whole_passed h m wire datagrams s (Receives is) =
    let last = block_count (blksize_of m) wire in
    subst (λ x. Contains (tapped_at h.named s.seen.view) (record { from = x; packet = Ack last })) is (sent_passed h.named s.seen.view (Ack last) (s.complete.acknowledged is))

pub shown_at_tap : (h : Header) (m : Meaning) (wire : List ℕ) (datagrams : List Datagram) (s : ShowsBy h m wire datagrams) → ShowsAtTap h.rollover m wire (mains_at h.named s.seen.dressed.division)
unfolding seen_at_tap
shown_at_tap h m wire datagrams s = record { seen = seen_at_tap h m wire datagrams s.seen; whole = whole_passed h m wire datagrams s (role h.named m.side) }
