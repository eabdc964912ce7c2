-- What passes the tap from an end might come to the other one, had that one sent just what passed from it.
use Rattle.std.proofs.Common.{◌≡◌, ℕ, true, false, List, [], ◌∷◌, inl, inr, refl, sym, subst, ap, ◌∙◌}
use Rattle.tftp_packet.specs.{Side, Get, Put, End, Client, Server}
use Rattle.law_model.specs.Model.{Meaning, Deed, Sent, Took, MachinePacket, Req, Oack, Data, Ack, Error, HasSent, HasTaken, IsStartedOn, MayAckZeroOn, MaySend, Step, view_of, MayFollow, is_error, heard, LetsStartOn, LetsAckZeroOn, MayComeData, MayComeAck, MayComeError, MayCome}
use Rattle.law_model.specs.Model.Machines.{other_end}
use Rattle.law_model.proofs.ModelLemmas.Members.{contains_none}
use Rattle.law_model.proofs.ModelLemmas.Views.{view_later, view_cases}
use Rattle.law_model.proofs.ModelLemmas.Stops.{stopped, either, heard_all, heard_stopped, stopped_took}
use Rattle.law_model.proofs.ModelLemmas.Cut.{sends_before_error}
use Rattle.law_model.proofs.ModelLemmas.OtherEnd.{sender_other, receiver_other, client_other, server_other, other_other, by_other, other_view}
use Rattle.law_tap.proofs.Halves.{IsOpen, IsHalf, Moment, moment, taken_had_passed}

-- ---- without the ERRORs: what the end has sent, e being the other one

module _ (m : Meaning) (wire : List ℕ) (steps : List Step) (e : End) (run : IsHalf m wire (other_end e) steps) where
  back : (p : MachinePacket) → HasTaken (view_of (other_end e) steps) p → HasSent (view_of e steps) p
  back p at = subst (λ x. HasSent (view_of x steps) p) (other_other e) (taken_had_passed m wire steps (other_end e) run p at)

  past_back : (d : Deed) (past : Moment m wire steps (other_end e) d) (p : MachinePacket) → HasTaken (view_of (other_end e) past.earlier) p → HasSent (view_of e steps) p
  past_back d past p at = back p (past.kept (other_end e) (Took p) at)

  data_may_come : (k : ℕ) → HasSent (view_of (other_end e) steps) (Data k) → MayComeData m wire e (view_of e steps) k
  data_may_come k at =
      let past = moment m wire steps (other_end e) (Sent (Data k)) run at in
      let w = past.allowed.in_window in
      record {
        receiver = sender_other e m.side past.allowed.sender;
        from_one = past.allowed.from_one;
        in_wire = past.allowed.in_wire;
        started = start past m.side past.allowed.started;
        in_window = (w.0, elim w.1 [ inl none ↦ inl none | inr taken ↦ inr (past_back (Sent (Data k)) past (Ack w.0) taken) ], w.3);
      }
    where
      start : (past : Moment m wire steps (other_end e) (Sent (Data k))) (side : Side) → IsStartedOn side m (view_of (other_end e) past.earlier) → LetsStartOn side m (view_of e steps)
      start past Get s = elim s [ inl plain ↦ inl (plain.0, past_back (Sent (Data k)) past Req plain.1) | inr oacked ↦ inr (oacked.0, past_back (Sent (Data k)) past (Ack 0) oacked.1) ]
      start past Put s = elim s [ inl plain ↦ inl (plain.0, past_back (Sent (Data k)) past (Ack 0) plain.1) | inr oacked ↦ inr (oacked.0, past_back (Sent (Data k)) past Oack oacked.1) ]

  ack_may_come : (j : ℕ) → HasSent (view_of (other_end e) steps) (Ack j) → MayComeAck m e (view_of e steps) j
  ack_may_come j at =
      let past = moment m wire steps (other_end e) (Sent (Ack j)) run at in
      record {
        sender = receiver_other e m.side past.allowed.receiver;
        zero = λ none. lets past m.side (past.allowed.zero none);
        sent = λ k low high. past_back (Sent (Ack j)) past (Data k) (past.allowed.taken k low high);
      }
    where
      lets : (past : Moment m wire steps (other_end e) (Sent (Ack j))) (side : Side) → MayAckZeroOn side m (view_of (other_end e) past.earlier) → LetsAckZeroOn side m (view_of e steps)
      lets past Get z = (z.0, past_back (Sent (Ack j)) past Oack z.1)
      lets past Put z = elim z [ inl plain ↦ inl (plain.0, past_back (Sent (Ack j)) past Req plain.1) | inr oacked ↦ inr (oacked.0, oacked.1, past_back (Sent (Ack j)) past (Data oacked.1) oacked.2) ]

-- the ERRORs of the end are one
one_error : (m : Meaning) (wire : List ℕ) (steps : List Step) (x : End) → IsHalf m wire x steps → (c d : ℕ) (t u : List ℕ) → HasSent (view_of x steps) (Error c t) → HasSent (view_of x steps) (Error d u) → (c ≡ d) × (t ≡ u)
one_error m wire [] x run c d t u one other = absurd (contains_none (Sent (Error c t)) one)
one_error m wire (s ∷ steps) x run c d t u one other = elim (view_cases x s.actor s.deed steps (Sent (Error c t)) one) [
  | inl now ↦ elim (view_cases x s.actor s.deed steps (Sent (Error d u)) other) [
    | inl too ↦ let is : Error c t ≡ Error d u = cc in (cc, cc)
    | inr before ↦ let same = (subst (MayFollow m wire steps x) now.1 (run.0.own now.0)).same d u before in (sym same.0, sym same.1)
  ]
  | inr before ↦ elim (view_cases x s.actor s.deed steps (Sent (Error d u)) other) [
    | inl now ↦ (subst (MayFollow m wire steps x) now.1 (run.0.own now.0)).same c t before
    | inr too ↦ one_error m wire steps x run.1 c d t u before too
  ]
]

-- what came from the end, e being the other one, it had sent
pub came_was_sent : (m : Meaning) (wire : List ℕ) (steps : List Step) (e : End) → IsHalf m wire (other_end e) steps → (p : MachinePacket) → HasTaken (view_of e steps) p → HasSent (view_of (other_end e) steps) p
came_was_sent m wire [] e run p at = absurd (contains_none (Took p) at)
came_was_sent m wire (s ∷ steps) e run p at = view_later (other_end e) s.actor s.deed steps (Sent p) (elim (view_cases e s.actor s.deed steps (Took p) at) [
  | inl now ↦ subst (IsOpen (view_of (other_end e) steps)) now.1 (run.0.tap (now.0 ∙ sym (other_other e)))
  | inr before ↦ came_was_sent m wire steps e run.1 p before
])

error_may_come : (m : Meaning) (wire : List ℕ) (steps : List Step) (e : End) → IsHalf m wire (other_end e) steps → (code : ℕ) (text : List ℕ) → HasSent (view_of (other_end e) steps) (Error code text) → MayComeError e (view_of e steps) code text
error_may_come m wire steps e run code text at =
    let past = moment m wire steps (other_end e) (Sent (Error code text)) run at in
    record {
      asked = λ is. past_back m wire steps e run (Sent (Error code text)) past Req (past.allowed.was_asked (ap other_end is));
      same = λ c words took. one_error m wire steps (other_end e) run c code words text (came_was_sent m wire steps e run (Error c words) took) at;
    }

-- ---- the run before the end's first ERROR passed: all that passed later from it, but ERRORs, had been sent by then

record Cut (m : Meaning) (wire : List ℕ) (steps : List Step) (e : End) : Type 0 where
  before : List Step
  run : IsHalf m wire (other_end e) before
  view : view_of e before ≡ heard (view_of e steps)
  sent : (p : MachinePacket) → is_error p ≡ false → HasSent (view_of (other_end e) steps) p → HasSent (view_of (other_end e) before) p

step_heard : (e a : End) (d : Deed) (steps : List Step) → stopped (view_of e (record { actor = a; deed = d } ∷ steps)) ≡ true → heard (view_of e (record { actor = a; deed = d } ∷ steps)) ≡ heard (view_of e steps)
step_heard Client Client d steps over = heard_stopped d (view_of Client steps) over
step_heard Server Server d steps over = heard_stopped d (view_of Server steps) over
step_heard _ _ d steps over = refl

silent_after : (m : Meaning) (wire : List ℕ) (steps : List Step) (e : End) → IsHalf m wire (other_end e) steps → (p : MachinePacket) → is_error p ≡ false → MaySend m wire (other_end e) (view_of (other_end e) steps) p → stopped (view_of e steps) ≡ true → ⊥
silent_after m wire steps e run p plain may over =
    let took = stopped_took (view_of e steps) over in
    sends_before_error m wire (other_end e) (view_of (other_end e) steps) p plain may took.0 took.1 (came_was_sent m wire steps e run (Error took.0 took.1) took.2)

cut : (m : Meaning) (wire : List ℕ) (steps : List Step) (e : End) → IsHalf m wire (other_end e) steps → Cut m wire steps e
cut m wire [] e run = record { before = []; run = tt; view = refl; sent = λ p plain at. at }
cut m wire (s ∷ steps) e run = elim (either (view_of e (s ∷ steps))) [
  | inl over ↦
      let c = cut m wire steps e run.1 in
      record {
        before = c.before;
        run = c.run;
        view = c.view ∙ sym (step_heard e s.actor s.deed steps over);
        sent = λ p plain at. c.sent p plain (elim (view_cases (other_end e) s.actor s.deed steps (Sent p) at) [ inl now ↦ absurd (late p plain now over) | inr before ↦ before ]);
      }
  | inr going ↦ record { before = s ∷ steps; run = run; view = sym (heard_all (view_of e (s ∷ steps)) going); sent = λ p plain at. at }
]
  where
    late : (p : MachinePacket) → is_error p ≡ false → (s.actor ≡ other_end e) × (s.deed ≡ Sent p) → stopped (view_of e (s ∷ steps)) ≡ true → ⊥
    late p plain now over =
        let here : stopped (view_of e (by_other e s.deed steps)) ≡ true = subst (λ x. stopped (view_of e (record { actor = x; deed = s.deed } ∷ steps)) ≡ true) now.0 over in
        silent_after m wire steps e run.1 p plain (subst (MayFollow m wire steps (other_end e)) now.1 (run.0.own now.0)) (subst (λ v. stopped v ≡ true) (other_view e s.deed steps) here)

pub sent_may_come : (m : Meaning) (wire : List ℕ) (steps : List Step) (e : End) → IsHalf m wire (other_end e) steps → (p : MachinePacket) → HasSent (view_of (other_end e) steps) p → MayCome m wire e (view_of e steps) p
sent_may_come m wire steps e run Req at = client_other e (moment m wire steps (other_end e) (Sent Req) run at).allowed.client
sent_may_come m wire steps e run Oack at =
    let past = moment m wire steps (other_end e) (Sent Oack) run at in
    record { client = server_other e past.allowed.server; agreed = past.allowed.agreed; asked = past_back m wire steps e run (Sent Oack) past Req past.allowed.asked }
sent_may_come m wire steps e run (Data k) at =
    let c = cut m wire steps e run in
    subst (λ v. MayComeData m wire e v k) c.view (data_may_come m wire c.before e c.run k (c.sent (Data k) refl at))
sent_may_come m wire steps e run (Ack j) at =
    let c = cut m wire steps e run in
    subst (λ v. MayComeAck m e v j) c.view (ack_may_come m wire c.before e c.run j (c.sent (Ack j) refl at))
sent_may_come m wire steps e run (Error code text) at = error_may_come m wire steps e run code text at
