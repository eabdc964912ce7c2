-- What an end did in a run is lawful as far as that end can know.
use Rattle.std.proofs.Common.{◌≡◌, ℕ, Bool, true, false, List, [], ◌∷◌, inl, inr, refl, sym, subst, ap}
use Rattle.std.proofs.lemmas.Bool.{true≢false}
use Rattle.tftp_packet.specs.{Side, Get, Put, End, Client, Server}
use Rattle.law_model.specs.Model.{Meaning, Deed, Sent, Took, MachinePacket, Req, Oack, Data, Ack, Error, History, HasSent, HasTaken, IsStartedOn, MayAckZeroOn, MaySend, Step, view_of, MayFollow, IsRun, IsView, is_error, LetsStartOn, LetsAckZeroOn, MayComeData, MayComeAck, MayComeError, MayCome, IsOneSided}
use Rattle.law_model.specs.Model.Machines.{other_end}
use Rattle.law_model.proofs.ModelLemmas.Moments.{moment, taken_was_sent}
use Rattle.law_model.proofs.ModelLemmas.Blocks.{block_in_window, block_of_sender, acknowledged_was_taken, ack_of_receiver}
use Rattle.law_model.proofs.ModelLemmas.Starts.{oack_answers, data_started, zero_answers}
use Rattle.law_model.proofs.ModelLemmas.OtherEnd.{other_other, sender_other, receiver_other, client_other, server_other}
use Rattle.law_model.proofs.ModelLemmas.Cut.{sends_before_error, one_error, cut}

-- ---- from a run: what the other end has sent might come

module _ (m : Meaning) (wire : List ℕ) (steps : List Step) (run : IsRun m wire steps) (e : End) where
  -- what the other end took, this one sent
  back : (p : MachinePacket) → HasTaken (view_of (other_end e) steps) p → HasSent (view_of e steps) p
  back p at = subst (λ x. HasSent (view_of x steps) p) (other_other e) (taken_was_sent m wire steps run (other_end e) p at)

  lets_start : (side : Side) → IsStartedOn side m (view_of (other_end e) steps) → LetsStartOn side m (view_of e steps)
  lets_start Get s = elim s [ inl plain ↦ inl (plain.0, back Req plain.1) | inr oacked ↦ inr (oacked.0, back (Ack 0) oacked.1) ]
  lets_start Put s = elim s [ inl plain ↦ inl (plain.0, back (Ack 0) plain.1) | inr oacked ↦ inr (oacked.0, back Oack oacked.1) ]

  lets_zero : (side : Side) → MayAckZeroOn side m (view_of (other_end e) steps) → LetsAckZeroOn side m (view_of e steps)
  lets_zero Get z = (z.0, back Oack z.1)
  lets_zero Put z = elim z [ inl plain ↦ inl (plain.0, back Req plain.1) | inr oacked ↦ inr (oacked.0, oacked.1, back (Data oacked.1) oacked.2) ]

  data_may_come : (k : ℕ) → HasSent (view_of (other_end e) steps) (Data k) → MayComeData m wire e (view_of e steps) k
  data_may_come k at =
      let past = moment m wire steps (other_end e) (Sent (Data k)) run at in
      let own = block_of_sender m wire steps run (other_end e) k at in
      let w = block_in_window m wire steps run k (subst (λ x. HasSent (view_of x steps) (Data k)) own.0 at) in
      let a = w.0 in
      record {
        receiver = sender_other e m.side own.0;
        from_one = past.allowed.from_one;
        in_wire = own.1;
        started = lets_start m.side (data_started m wire steps run (other_end e) k at);
        in_window = (a, elim w.1 [ inl none ↦ inl none | inr taken ↦ inr (back (Ack a) (subst (λ x. HasTaken (view_of x steps) (Ack a)) (sym own.0) taken)) ], w.3);
      }

  ack_may_come : (j : ℕ) → HasSent (view_of (other_end e) steps) (Ack j) → MayComeAck m e (view_of e steps) j
  ack_may_come j at = record {
    sender = receiver_other e m.side (ack_of_receiver m wire steps run (other_end e) j at);
    zero = λ none. lets_zero m.side (zero_answers m wire steps run (other_end e) (subst (λ i. HasSent (view_of (other_end e) steps) (Ack i)) none at));
    sent = λ k low high. back (Data k) (acknowledged_was_taken m wire steps run (other_end e) j k at low high);
  }

  error_may_come : (code : ℕ) (text : List ℕ) → HasSent (view_of (other_end e) steps) (Error code text) → MayComeError e (view_of e steps) code text
  error_may_come code text at =
      let past = moment m wire steps (other_end e) (Sent (Error code text)) run at in
      record {
        asked = λ is. back Req (past.kept (other_end e) (Took Req) (past.allowed.was_asked (ap other_end is)));
        same = λ c words took. one_error m wire steps run (other_end e) c code words text (taken_was_sent m wire steps run e (Error c words) took) at;
      }

sent_may_come : (m : Meaning) (wire : List ℕ) (steps : List Step) → IsRun m wire steps → (e : End) (p : MachinePacket) → HasSent (view_of (other_end e) steps) p → MayCome m wire e (view_of e steps) p
sent_may_come m wire steps run e Req at = client_other e (moment m wire steps (other_end e) (Sent Req) run at).allowed.client
sent_may_come m wire steps run e Oack at =
    let answer = oack_answers m wire steps run (other_end e) at in
    record { client = server_other e answer.0; agreed = answer.1; asked = back m wire steps run e Req answer.2 }
sent_may_come m wire steps run e (Data k) at =
    let c = cut m wire steps run e in
    subst (λ v. MayComeData m wire e v k) c.view (data_may_come m wire c.before c.run e k (c.sent (Data k) refl at))
sent_may_come m wire steps run e (Ack j) at =
    let c = cut m wire steps run e in
    subst (λ v. MayComeAck m e v j) c.view (ack_may_come m wire c.before c.run e j (c.sent (Ack j) refl at))
sent_may_come m wire steps run e (Error code text) at = error_may_come m wire steps run e code text at

deed_one_sided : (m : Meaning) (wire : List ℕ) (steps : List Step) → IsRun m wire steps → (e : End) (d : Deed) → MayFollow m wire steps e d → IsOneSided m wire e (view_of e steps) → IsOneSided m wire e (d ∷ view_of e steps)
deed_one_sided m wire steps run e (Sent p) may before = (may, before)
deed_one_sided m wire steps run e (Took p) may before = (sent_may_come m wire steps run e p may, before)

step_one_sided : (m : Meaning) (wire : List ℕ) (steps : List Step) → IsRun m wire steps → (e a : End) (d : Deed) → MayFollow m wire steps a d → IsOneSided m wire e (view_of e steps) → IsOneSided m wire e (view_of e (record { actor = a; deed = d } ∷ steps))
step_one_sided m wire steps run Client Client d may before = deed_one_sided m wire steps run Client d may before
step_one_sided m wire steps run Client Server d may before = before
step_one_sided m wire steps run Server Client d may before = before
step_one_sided m wire steps run Server Server d may before = deed_one_sided m wire steps run Server d may before

run_one_sided : (m : Meaning) (wire : List ℕ) (e : End) (steps : List Step) → IsRun m wire steps → IsOneSided m wire e (view_of e steps)
run_one_sided m wire e [] run = tt
run_one_sided m wire e (s ∷ steps) run = step_one_sided m wire steps run.1 e s.actor s.deed run.0 (run_one_sided m wire e steps run.1)

pub view_one_sided : (m : Meaning) (wire : List ℕ) (e : End) (h : History) → IsView m wire e h → IsOneSided m wire e h
view_one_sided m wire e h (steps, run, is) = subst (IsOneSided m wire e) is (run_one_sided m wire e steps run)

-- after an ERROR comes that ERROR again, or nothing
error_same : (m : Meaning) (wire : List ℕ) (e : End) (h : History) (p : MachinePacket) (b : Bool) → is_error p ≡ b → MaySend m wire e h p → (code : ℕ) (text : List ℕ) → HasSent h (Error code text) → p ≡ Error code text
error_same m wire e h p false plain may code text at = absurd (sends_before_error m wire e h p plain may code text at)
error_same m wire e h (Error c t) true is may code text at = let same = may.same code text at in let one = same.0 in let other = same.1 in cc
error_same m wire e h Req true is may code text at = absurd (true≢false (sym is))
error_same m wire e h Oack true is may code text at = absurd (true≢false (sym is))
error_same m wire e h (Data k) true is may code text at = absurd (true≢false (sym is))
error_same m wire e h (Ack j) true is may code text at = absurd (true≢false (sym is))

pub error_again : (m : Meaning) (wire : List ℕ) (e : End) (p : MachinePacket) (h : History) (code : ℕ) (text : List ℕ) → IsView m wire e (Sent p ∷ h) → HasSent h (Error code text) → p ≡ Error code text
error_again m wire e p h code text view at = error_same m wire e h p (is_error p) refl (view_one_sided m wire e (Sent p ∷ h) view).0 code text at
