-- What is whole at a tap: each block has passed, the receiver has all of them, and the sender may have been told.
use Rattle.std.proofs.Common.{◌≡◌, ℕ, ◌≤◌, List, ◌∷◌, Contains, refl, sym, subst, ap}
use Rattle.tftp_packet.specs.{Side, Get, Put, End, Client, Server}
use Rattle.law_model.specs.Model.{Meaning, blksize_of, block_count, Deed, Sent, Took, MachinePacket, Data, Ack, HasSent, HasTaken, view_of, IsComplete}
use Rattle.law_model.specs.Model.Machines.{other_end, sender_of, receiver_of}
use Rattle.law_model.proofs.ModelLemmas.Members.{contains_first}
use Rattle.law_model.proofs.ModelLemmas.OtherEnd.{other_other, other_sends, other_receives}
use Rattle.law_tap.specs.{Pass, TapStep, Does, Passes, did, passed_in, IsTappedRun, IsTapView, as_at, MayPassEach, IsWholeAtTap}
use Rattle.law_tap.proofs.Halves.{IsHalf, moment}
use Rattle.law_tap.proofs.HalfComes.{came_was_sent}
use Rattle.law_tap.proofs.Passed.{at_sent, at_took, took_passed}
use Rattle.law_tap.proofs.Projects.{half_of}
use Rattle.law_tap.proofs.Comes.{comes, ack_backed}
use Rattle.law_tap.proofs.AtReceiver.{not_sender}

module _ (m : Meaning) (wire : List ℕ) where
  pub blocks_passed : (passed : List Pass) → MayPassEach m wire passed → IsWholeAtTap m wire passed → (k : ℕ) → 1 ≤ k → k ≤ block_count (blksize_of m) wire → Contains passed (record { from = sender_of m.side; packet = Data k })
  blocks_passed passed may whole k low high =
      let e = receiver_of m.side in
      let backed = ack_backed m wire e (block_count (blksize_of m) wire) (as_at e passed) (comes m wire e passed may) (at_sent e (Ack (block_count (blksize_of m) wire)) passed whole) in
      subst (λ x. Contains passed (record { from = x; packet = Data k })) (other_sends m.side) (took_passed e (Data k) passed (backed.blocks k low high))

  -- what passed its end has sent
  passed_was_sent : (e : End) (p : MachinePacket) (steps : List TapStep) → IsTappedRun m wire steps → Contains (passed_in steps) (record { from = e; packet = p }) → HasSent (did e steps) p
  passed_was_sent e p steps run at =
      let h = half_of m wire e steps run in
      let turned : IsHalf m wire (other_end (other_end e)) h.half = subst (λ x. IsHalf m wire x h.half) (sym (other_other e)) h.run in
      let there : Contains (passed_in steps) (record { from = other_end (other_end e); packet = p }) = subst (λ x. Contains (passed_in steps) (record { from = x; packet = p })) (sym (other_other e)) at in
      let sent = came_was_sent m wire h.half (other_end e) turned p (subst (λ v. HasTaken v p) (sym h.tap) (at_took (other_end e) p (passed_in steps) there)) in
      subst (λ v. HasSent v p) h.own (subst (λ x. HasSent (view_of x h.half) p) (other_other e) sent)

  -- what passed may pass again
  pub passes_again : (x : Pass) (passed : List Pass) → Contains passed x → IsTapView m wire passed → IsTapView m wire (x ∷ passed)
  passes_again x passed at (steps, run, is) = (
    Passes x.from x.packet ∷ steps,
    (passed_was_sent x.from x.packet steps run (subst (λ l. Contains l x) (sym is) at), run),
    ap (λ l. x ∷ l) is,
  )

  pub receiver_complete : (steps : List TapStep) → IsTappedRun m wire steps → IsWholeAtTap m wire (passed_in steps) → IsComplete m wire (receiver_of m.side) (did (receiver_of m.side) steps)
  receiver_complete steps run whole =
      let e = receiver_of m.side in
      let last = block_count (blksize_of m) wire in
      let sent = passed_was_sent e (Ack last) steps run whole in
      let h = half_of m wire e steps run in
      let past = moment m wire h.half e (Sent (Ack last)) h.run (subst (λ v. HasSent v (Ack last)) (sym h.own) sent) in
      record {
        took = λ is k low high. subst (λ v. HasTaken v (Data k)) h.own (past.kept e (Took (Data k)) (past.allowed.taken k low high));
        acknowledged = λ is. sent;
        was_told = λ is. absurd (not_sender m.side is);
      }

  own_more : (e : End) (d : Deed) (steps : List TapStep) → did e (Does e d ∷ steps) ≡ d ∷ did e steps
  own_more Client d steps = refl
  own_more Server d steps = refl

  other_same : (side : Side) (d : Deed) (steps : List TapStep) → did (receiver_of side) (Does (sender_of side) d ∷ steps) ≡ did (receiver_of side) steps
  other_same Get d steps = refl
  other_same Put d steps = refl

  pub both_complete : (passed : List Pass) → IsTapView m wire passed → IsWholeAtTap m wire passed
      → (steps : List TapStep) × IsTappedRun m wire steps × (passed_in steps ≡ passed)
      × IsComplete m wire (receiver_of m.side) (did (receiver_of m.side) steps) × IsComplete m wire (sender_of m.side) (did (sender_of m.side) steps)
  both_complete passed (steps, run, is) whole =
      let last = block_count (blksize_of m) wire in
      let there : IsWholeAtTap m wire (passed_in steps) = subst (IsWholeAtTap m wire) (sym is) whole in
      let told : Contains (passed_in steps) (record { from = other_end (sender_of m.side); packet = Ack last }) = subst (λ x. Contains (passed_in steps) (record { from = x; packet = Ack last })) (sym (other_receives m.side)) there in
      let taken : HasTaken (did (sender_of m.side) (Does (sender_of m.side) (Took (Ack last)) ∷ steps)) (Ack last) = subst (λ v. HasTaken v (Ack last)) (sym (own_more (sender_of m.side) (Took (Ack last)) steps)) (contains_first (Took (Ack last)) (did (sender_of m.side) steps)) in (
        Does (sender_of m.side) (Took (Ack last)) ∷ steps,
        (told, run),
        is,
        subst (IsComplete m wire (receiver_of m.side)) (sym (other_same m.side (Took (Ack last)) steps)) (receiver_complete steps run there),
        record {
          took = λ same k low high. absurd (not_sender m.side (sym same));
          acknowledged = λ same. absurd (not_sender m.side (sym same));
          was_told = λ same. taken;
        },
      )
