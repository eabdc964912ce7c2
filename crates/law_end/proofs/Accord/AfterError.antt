-- What one side does is nothing after an ERROR, but that ERROR again; and what breaks no rule is not, either.
use Rattle.std.proofs.Common.{◌≡◌, ℕ, Bool, true, false, List, ◌∷◌, Contains, inl, inr, refl, sym, subst, ap, ◌∙◌}
use Rattle.std.proofs.lemmas.Bool.{true≢false}
use Rattle.tftp_packet.specs.{Message}
use Rattle.tftp_packet.specs.Hosts.{Header}
use Rattle.tftp_packet.specs.{Dir, In, Out}
use Rattle.law_model.specs.Model.{Meaning, MachinePacket, Error, Deed, Sent, Took, HasSent, HasTaken, NoErrorSent, message_of, MaySend, is_error, MayCome, IsOneSided}
use Rattle.law_model.specs.Rules.{transfer_of, Passed}
use Rattle.law_model.proofs.ModelLemmas.Cut.{sends_before_error}
use Rattle.law_end.specs.{Division, datagrams_of, view_in, dir_of, packet_of, AreRouted, GoesOn}
use Rattle.law_end.proofs.Accord.PassedIsDone.{passed_told, told_passed}

error_only : (m : Meaning) (wire : List ℕ) (q : MachinePacket) (code : ℕ) (text : List ℕ) → message_of m wire q ≡ Message.Error code text → q ≡ Error code text
error_only m wire (Error c t) code text e = cc
error_only m wire _ code text e = absurd (cc)

module _ (h : Header) (m : Meaning) (wire : List ℕ) (division : Division) (routed : AreRouted h m wire division) where
  came_so : (code : ℕ) (text : List ℕ) (dir : Dir) (stop : Message) → stop ≡ Message.Error code text → Passed dir stop (transfer_of h (datagrams_of division))
      → (deed : Deed) × Contains (view_in division) deed × (dir_of deed ≡ dir) × (packet_of deed ≡ Error code text)
  came_so code text dir stop is p =
      let (deed, at, way, says) = passed_told h m wire division routed dir stop p in
      (deed, at, way, error_only m wire (packet_of deed) code text (says ∙ is))

  sent_error : (code : ℕ) (text : List ℕ) (stop : Message) → stop ≡ Message.Error code text → Passed Out stop (transfer_of h (datagrams_of division)) → HasSent (view_in division) (Error code text)
  sent_error code text stop is p = by (came_so code text Out stop is p) where
    by : ((deed : Deed) × Contains (view_in division) deed × (dir_of deed ≡ Out) × (packet_of deed ≡ Error code text)) → HasSent (view_in division) (Error code text)
    by (Sent q, at, way, same) = subst (HasSent (view_in division)) same at
    by (Took q, at, way, same) = absurd (cc)

  taken_error : (code : ℕ) (text : List ℕ) (stop : Message) → stop ≡ Message.Error code text → Passed In stop (transfer_of h (datagrams_of division)) → HasTaken (view_in division) (Error code text)
  taken_error code text stop is p = by (came_so code text In stop is p) where
    by : ((deed : Deed) × Contains (view_in division) deed × (dir_of deed ≡ In) × (packet_of deed ≡ Error code text)) → HasTaken (view_in division) (Error code text)
    by (Took q, at, way, same) = subst (HasTaken (view_in division)) same at
    by (Sent q, at, way, same) = absurd (cc)

  -- no lawful deed goes on after an ERROR
  pub stays_silent : (deed : Deed) → IsOneSided m wire h.named (deed ∷ view_in division) → GoesOn (transfer_of h (datagrams_of division)) (dir_of deed) (message_of m wire (packet_of deed)) → ⊥
  stays_silent (Sent p) own (stop, (code, text, is), passed, differs, which) = by (is_error p) refl where
    at : HasSent (view_in division) (Error code text)
    at = sent_error code text stop is passed

    again : (q : MachinePacket) → is_error q ≡ true → MaySend m wire h.named (view_in division) q → message_of m wire p ≡ message_of m wire q → ⊥
    again (Error c t) e may it = let (one, other) = may.same code text at in let all : message_of m wire p ≡ stop = cc in differs all
    again _ e may it = true≢false (sym e)

    by : (b : Bool) → is_error p ≡ b → ⊥
    by true e = again p e own.0 refl
    by false e = sends_before_error m wire h.named (view_in division) p e own.0 code text at
  stays_silent (Took p) own (stop, (code, text, is), passed, differs, inl out) = absurd (cc)
  stays_silent (Took p) own (stop, (code, text, is), passed, differs, inr (c, t, it)) =
      let at = taken_error code text stop is passed in
      let may = subst (MayCome m wire h.named (view_in division)) (error_only m wire p c t it) own.0 in
      let (one, other) = may.same code text at in
      let all : message_of m wire p ≡ stop = cc in
      differs all

  -- a packet that goes out and is not one after an ERROR: this end has sent none
  pub none_sent_before : (p : MachinePacket) → is_error p ≡ false → (GoesOn (transfer_of h (datagrams_of division)) Out (message_of m wire p) → ⊥) → NoErrorSent (view_in division)
  none_sent_before p plain stays code text at = stays (
    Message.Error code text,
    (code, text, refl),
    told_passed h m wire division routed (Sent (Error code text)) at,
    λ same. true≢false (sym (ap is_error (error_only m wire p code text same)) ∙ plain),
    inl refl,
  )
