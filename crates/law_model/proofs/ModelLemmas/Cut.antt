-- What an end sent before its ERROR, which is all that it sent but that ERROR; and its ERRORs are one.
use Rattle.std.proofs.Common.{◌≡◌, ℕ, true, false, List, [], ◌∷◌, inl, inr, refl, sym, subst, ◌∙◌}
use Rattle.std.proofs.lemmas.Bool.{true≢false}
use Rattle.tftp_packet.specs.{End, Client, Server}
use Rattle.law_model.specs.Model.{Meaning, Deed, Sent, MachinePacket, Req, Oack, Data, Ack, Error, History, HasSent, MaySend, NoErrorSent, Step, view_of, IsRun, is_error, heard}
use Rattle.law_model.specs.Model.Machines.{other_end}
use Rattle.law_model.proofs.ModelLemmas.Stops.{stopped, either, heard_all, heard_stopped, stopped_took}
use Rattle.law_model.proofs.ModelLemmas.Members.{contains_none}
use Rattle.law_model.proofs.ModelLemmas.Views.{view_cases}
use Rattle.law_model.proofs.ModelLemmas.Moments.{follow_same, taken_was_sent}
use Rattle.law_model.proofs.ModelLemmas.OtherEnd.{by_other, other_view}

pub sends_before_error : (m : Meaning) (wire : List ℕ) (e : End) (h : History) (p : MachinePacket) → is_error p ≡ false → MaySend m wire e h p → NoErrorSent h
sends_before_error m wire e h (Error code text) plain may = absurd (true≢false plain)
sends_before_error m wire e h _ plain may = may.no_error

-- the ERRORs of an end are one
pub one_error : (m : Meaning) (wire : List ℕ) (steps : List Step) → IsRun m wire steps → (e : End) (c d : ℕ) (t u : List ℕ) → HasSent (view_of e steps) (Error c t) → HasSent (view_of e steps) (Error d u) → (c ≡ d) × (t ≡ u)
one_error m wire [] run e c d t u one other = absurd (contains_none (Sent (Error c t)) one)
one_error m wire (s ∷ steps) run e c d t u one other = elim (view_cases e s.actor s.deed steps (Sent (Error c t)) one) [
  | inl now ↦ elim (view_cases e s.actor s.deed steps (Sent (Error d u)) other) [
    | inl too ↦ let is : Error c t ≡ Error d u = cc in (cc, cc)
    | inr before ↦ let same = (follow_same m wire steps s.actor e s.deed (Sent (Error c t)) now run.0).same d u before in (sym same.0, sym same.1)
  ]
  | inr before ↦ elim (view_cases e s.actor s.deed steps (Sent (Error d u)) other) [
    | inl now ↦ (follow_same m wire steps s.actor e s.deed (Sent (Error d u)) now run.0).same c t before
    | inr too ↦ one_error m wire steps run.1 e c d t u before too
  ]
]

-- the run before this end took an ERROR: all that came later, but ERRORs, had been sent by then
pub record Cut (m : Meaning) (wire : List ℕ) (steps : List Step) (e : End) : Type 0 where
  pub before : List Step
  pub run : IsRun m wire before
  pub view : view_of e before ≡ heard (view_of e steps)
  pub sent : (p : MachinePacket) → is_error p ≡ false → HasSent (view_of (other_end e) steps) p → HasSent (view_of (other_end e) before) p

step_heard : (e a : End) (d : Deed) (steps : List Step) → stopped (view_of e (record { actor = a; deed = d } ∷ steps)) ≡ true → heard (view_of e (record { actor = a; deed = d } ∷ steps)) ≡ heard (view_of e steps)
step_heard Client Client d steps over = heard_stopped d (view_of Client steps) over
step_heard Server Server d steps over = heard_stopped d (view_of Server steps) over
step_heard _ _ d steps over = refl

-- once its ERROR has come to this end, the other one sends nothing else
silent_after : (m : Meaning) (wire : List ℕ) (steps : List Step) → IsRun m wire steps → (e : End) (p : MachinePacket) → is_error p ≡ false → MaySend m wire (other_end e) (view_of (other_end e) steps) p → stopped (view_of e steps) ≡ true → ⊥
silent_after m wire steps run e p plain may over =
    let took = stopped_took (view_of e steps) over in
    sends_before_error m wire (other_end e) (view_of (other_end e) steps) p plain may took.0 took.1 (taken_was_sent m wire steps run e (Error took.0 took.1) took.2)

pub cut : (m : Meaning) (wire : List ℕ) (steps : List Step) → IsRun m wire steps → (e : End) → Cut m wire steps e
cut m wire [] run e = record { before = []; run = tt; view = refl; sent = λ p plain at. at }
cut m wire (s ∷ steps) run e = elim (either (view_of e (s ∷ steps))) [
  | inl over ↦
      let c = cut m wire steps run.1 e in
      record {
        before = c.before;
        run = c.run;
        view = c.view ∙ sym (step_heard e s.actor s.deed steps over);
        sent = λ p plain at. c.sent p plain (elim (view_cases (other_end e) s.actor s.deed steps (Sent p) at) [ inl now ↦ absurd (late p plain now over) | inr before ↦ before ]);
      }
  | inr going ↦ record { before = s ∷ steps; run = run; view = sym (heard_all (view_of e (s ∷ steps)) going); sent = λ p plain at. at }
]
  where
    late : (p : MachinePacket) → is_error p ≡ false → (s.actor ≡ other_end e) × (s.deed ≡ Sent p) → stopped (view_of e (s ∷ steps)) ≡ true → ⊥
    late p plain now over =
        let here : stopped (view_of e (by_other e s.deed steps)) ≡ true = subst (λ x. stopped (view_of e (record { actor = x; deed = s.deed } ∷ steps)) ≡ true) now.0 over in
        silent_after m wire steps run.1 e p plain (follow_same m wire steps s.actor (other_end e) s.deed (Sent p) now run.0) (subst (λ v. stopped v ≡ true) (other_view e s.deed steps) here)
