-- From a tapped run to each end and the tap.
use Rattle.std.proofs.Common.{◌≡◌, ℕ, List, [], ◌∷◌, refl, sym, subst, ap, ◌∙◌}
use Rattle.tftp_packet.specs.{End, Client, Server}
use Rattle.law_model.specs.Model.{Meaning, Deed, Sent, Took, MachinePacket, HasSent, MaySend, Step, view_of, MayFollow, MayCome}
use Rattle.law_model.specs.Model.Machines.{other_end}
use Rattle.law_model.proofs.ModelLemmas.OtherEnd.{other_other, by_own, by_other, own_view, other_view, hidden_view}
use Rattle.law_tap.specs.{Pass, TapStep, Does, Passes, did, passed_in, MayBeNext, IsTappedRun, IsTapView, deed_at, as_at, MayPass, MayPassEach}
use Rattle.law_tap.proofs.Halves.{IsOpen, IsHalf, half_own, half_tap}
use Rattle.law_tap.proofs.HalfComes.{sent_may_come}
use Rattle.law_tap.proofs.Passed.{at_sent}

-- what the end x did, and what the tap passed as a deed of the other one
pub record Half (m : Meaning) (wire : List ℕ) (x : End) (steps : List TapStep) : Type 0 where
  pub half : List Step
  pub run : IsHalf m wire x half
  pub own : view_of x half ≡ did x steps
  pub tap : view_of (other_end x) half ≡ as_at (other_end x) (passed_in steps)

module _ (m : Meaning) (wire : List ℕ) where
  -- a deed of this end
  own_step : (x : End) (d : Deed) (steps : List TapStep) → MayBeNext m wire steps (Does x d) → did x (Does x d ∷ steps) ≡ d ∷ did x steps → Half m wire x steps → Half m wire x (Does x d ∷ steps)
  own_step x d steps may more h = record {
    half = by_own x d h.half;
    run = (half_own m wire x h.half d (allowed d may), h.run);
    own = own_view x d h.half ∙ ap (λ v. d ∷ v) h.own ∙ sym more;
    tap = hidden_view x d h.half ∙ h.tap;
  }
    where
      allowed : (d : Deed) → MayBeNext m wire steps (Does x d) → MayFollow m wire h.half x d
      allowed (Sent p) may = subst (λ v. MaySend m wire x v p) (sym h.own) may
      allowed (Took p) may = subst (λ v. HasSent v p) (sym h.tap) (at_sent (other_end x) p (passed_in steps) may)

  other_step : (x a : End) (d : Deed) (steps : List TapStep) → did x (Does a d ∷ steps) ≡ did x steps → Half m wire x steps → Half m wire x (Does a d ∷ steps)
  other_step x a d steps same h = record { half = h.half; run = h.run; own = h.own ∙ sym same; tap = h.tap }

  hidden_other : (x : End) (d : Deed) (half : List Step) → view_of (other_end x) (by_other x d half) ≡ d ∷ view_of (other_end x) half
  hidden_other Client d half = refl
  hidden_other Server d half = refl

  pass_step : (x : End) (d : Deed) (f : End) (p : MachinePacket) (steps : List TapStep) → deed_at (other_end x) f p ≡ d → ((h : Half m wire x steps) → IsOpen (view_of x h.half) d) → did x (Passes f p ∷ steps) ≡ did x steps → Half m wire x steps → Half m wire x (Passes f p ∷ steps)
  pass_step x d f p steps is free same h = record {
    half = by_other x d h.half;
    run = (half_tap m wire x h.half d (free h), h.run);
    own = other_view x d h.half ∙ h.own ∙ sym same;
    tap = hidden_other x d h.half ∙ ap (λ v. d ∷ v) h.tap ∙ ap (λ y. y ∷ as_at (other_end x) (passed_in steps)) (sym is);
  }

  step_half : (x : End) (s : TapStep) (steps : List TapStep) → MayBeNext m wire steps s → Half m wire x steps → Half m wire x (s ∷ steps)
  step_half Client (Does Client d) steps may h = own_step Client d steps may refl h
  step_half Client (Does Server d) steps may h = other_step Client Server d steps refl h
  step_half Server (Does Client d) steps may h = other_step Server Client d steps refl h
  step_half Server (Does Server d) steps may h = own_step Server d steps may refl h
  step_half Client (Passes Client p) steps may h = pass_step Client (Took p) Client p steps refl (λ g. subst (λ v. HasSent v p) (sym g.own) may) refl h
  step_half Client (Passes Server p) steps may h = pass_step Client (Sent p) Server p steps refl (λ g. tt) refl h
  step_half Server (Passes Client p) steps may h = pass_step Server (Sent p) Client p steps refl (λ g. tt) refl h
  step_half Server (Passes Server p) steps may h = pass_step Server (Took p) Server p steps refl (λ g. subst (λ v. HasSent v p) (sym g.own) may) refl h

  pub half_of : (x : End) (steps : List TapStep) → IsTappedRun m wire steps → Half m wire x steps
  half_of x [] run = record { half = []; run = tt; own = refl; tap = refl }
  half_of x (s ∷ steps) run = step_half x s steps run.0 (half_of x steps run.1)

  -- what an end has sent may pass
  pub sent_may_pass : (e : End) (p : MachinePacket) (steps : List TapStep) → IsTappedRun m wire steps → HasSent (did e steps) p → MayPass m wire (passed_in steps) e p
  sent_may_pass e p steps run at =
      let h = half_of e steps run in
      let turned : IsHalf m wire (other_end (other_end e)) h.half = subst (λ x. IsHalf m wire x h.half) (sym (other_other e)) h.run in
      let sent : HasSent (view_of (other_end (other_end e)) h.half) p = subst (λ x. HasSent (view_of x h.half) p) (sym (other_other e)) (subst (λ v. HasSent v p) (sym h.own) at) in
      subst (λ v. MayCome m wire (other_end e) v p) h.tap (sent_may_come m wire h.half (other_end e) turned p sent)

  pub run_may_pass : (steps : List TapStep) → IsTappedRun m wire steps → MayPassEach m wire (passed_in steps)
  run_may_pass [] run = tt
  run_may_pass (Does e d ∷ steps) run = run_may_pass steps run.1
  run_may_pass (Passes e p ∷ steps) run = (sent_may_pass e p steps run.1 run.0, run_may_pass steps run.1)

  pub view_may_pass : (passed : List Pass) → IsTapView m wire passed → MayPassEach m wire passed
  view_may_pass passed (steps, run, is) = subst (MayPassEach m wire) is (run_may_pass steps run)
