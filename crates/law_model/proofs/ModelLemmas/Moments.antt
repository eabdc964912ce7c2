-- The moment of a deed: what had been done before it, and what its end was allowed to do then.
use Rattle.std.proofs.Common.{◌≡◌, ℕ, List, [], ◌∷◌, Contains, inl, inr, subst}
use Rattle.tftp_packet.specs.{End}
use Rattle.law_model.specs.Model.{Meaning, Deed, Sent, Took, MachinePacket, History, HasSent, HasTaken, Step, view_of, MayFollow, IsRun, IsView}
use Rattle.law_model.specs.Model.Machines.{other_end}
use Rattle.law_model.proofs.ModelLemmas.Members.{contains_none}
use Rattle.law_model.proofs.ModelLemmas.Views.{view_later, view_cases, view_split}

pub record Moment (m : Meaning) (wire : List ℕ) (steps : List Step) (e : End) (d : Deed) : Type 0 where
  pub earlier : List Step
  pub run : IsRun m wire earlier
  pub allowed : MayFollow m wire earlier e d
  pub kept : (other : End) (x : Deed) → Contains (view_of other earlier) x → Contains (view_of other steps) x

pub follow_same : (m : Meaning) (wire : List ℕ) (earlier : List Step) (a e : End) (p d : Deed) → (a ≡ e) × (p ≡ d) → MayFollow m wire earlier a p → MayFollow m wire earlier e d
follow_same m wire earlier a e p d same may = subst (λ x. MayFollow m wire earlier x d) same.0 (subst (λ x. MayFollow m wire earlier a x) same.1 may)

moment_now : (m : Meaning) (wire : List ℕ) (s : Step) (steps : List Step) (e : End) (d : Deed) → IsRun m wire (s ∷ steps) → (s.actor ≡ e) × (s.deed ≡ d) → Moment m wire (s ∷ steps) e d
moment_now m wire s steps e d run same = record {
  earlier = steps;
  run = run.1;
  allowed = follow_same m wire steps s.actor e s.deed d same run.0;
  kept = λ other x at. view_later other s.actor s.deed steps x at;
}

moment_before : (m : Meaning) (wire : List ℕ) (s : Step) (steps : List Step) (e : End) (d : Deed) → Moment m wire steps e d → Moment m wire (s ∷ steps) e d
moment_before m wire s steps e d past = record {
  earlier = past.earlier;
  run = past.run;
  allowed = past.allowed;
  kept = λ other x at. view_later other s.actor s.deed steps x (past.kept other x at);
}

pub moment : (m : Meaning) (wire : List ℕ) (steps : List Step) (e : End) (d : Deed) → IsRun m wire steps → Contains (view_of e steps) d → Moment m wire steps e d
moment m wire [] e d run at = absurd (contains_none d at)
moment m wire (s ∷ steps) e d run at = elim (view_cases e s.actor s.deed steps d at) [
  | inl same ↦ moment_now m wire s steps e d run same
  | inr before ↦ moment_before m wire s steps e d (moment m wire steps e d run.1 before)
]

-- what an end took the other end sent
pub taken_was_sent : (m : Meaning) (wire : List ℕ) (steps : List Step) → IsRun m wire steps → (e : End) (p : MachinePacket) → HasTaken (view_of e steps) p → HasSent (view_of (other_end e) steps) p
taken_was_sent m wire steps run e p at =
    let past = moment m wire steps e (Took p) run at in
    past.kept (other_end e) (Sent p) past.allowed

earlier_view_of : (m : Meaning) (wire : List ℕ) (steps : List Step) (e : End) (last : Deed) (before : History) → IsRun m wire steps → view_of e steps ≡ last ∷ before → IsView m wire e before
earlier_view_of m wire [] e last before run is = absurd (cc)
earlier_view_of m wire (s ∷ steps) e last before run is = elim (view_split e s.actor s.deed steps last before is) [
  | inl rest ↦ (steps, run.1, rest)
  | inr same ↦ earlier_view_of m wire steps e last before run.1 same
]

pub earlier_view : (m : Meaning) (wire : List ℕ) (e : End) (last : Deed) (before : History) → IsView m wire e (last ∷ before) → IsView m wire e before
earlier_view m wire e last before (steps, run, is) = earlier_view_of m wire steps e last before run is
