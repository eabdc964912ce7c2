-- What may pass, an end beside the tap can have sent: its ERROR is the last thing that it sends, and the tap passes the rest then.
use Rattle.std.proofs.Common.{◌≡◌, ℕ, Bool, true, false, List, [], ◌∷◌, inl, inr, refl, sym, subst, ap, ◌∙◌, ◌↔◌}
use Rattle.tftp_packet.specs.{End, Client, Server}
use Rattle.law_model.specs.Model.{Meaning, Deed, Sent, Took, MachinePacket, Req, Oack, Data, Ack, Error, History, HasSent, HasTaken, Step, view_of, is_error, heard}
use Rattle.law_model.specs.Model.Machines.{other_end}
use Rattle.law_model.proofs.ModelLemmas.Members.{contains_first, contains_later}
use Rattle.law_model.proofs.ModelLemmas.Views.{view_first, view_later}
use Rattle.law_model.proofs.ModelLemmas.Stops.{either, heard_all, heard_stopped, Stop}
use Rattle.law_model.proofs.ModelLemmas.OtherEnd.{by_own, by_other, own_view, other_view}
use Rattle.law_tap.specs.{Pass, IsTapView, as_at, MayPassEach}
use Rattle.law_tap.proofs.Halves.{IsOpen, IsHalf, half_own}
use Rattle.law_tap.proofs.Comes.{Comes, comes, stop}
use Rattle.law_tap.proofs.Builds.{Built, known, build, tap_follow}
use Rattle.law_tap.proofs.Joins.{join}
use Rattle.law_tap.proofs.Projects.{view_may_pass}

record Replayed (m : Meaning) (wire : List ℕ) (e : End) (base : List Step) (h : History) : Type 0 where
  steps : List Step
  run : IsHalf m wire (other_end e) steps
  view : view_of e steps ≡ h
  kept : (p : MachinePacket) → HasSent (view_of (other_end e) base) p → HasSent (view_of (other_end e) steps) p

module _ (m : Meaning) (wire : List ℕ) (e : End) (base : List Step) (base_run : IsHalf m wire (other_end e) base) where
  next : (d : Deed) (h : History) → ((p : MachinePacket) → HasTaken (d ∷ h) p → HasSent (view_of (other_end e) base) p) → Replayed m wire e base h → Replayed m wire e base (d ∷ h)
  next d h given r = record {
    steps = by_own e d r.steps;
    run = (tap_follow m wire e r.steps d (may d given), r.run);
    view = own_view e d r.steps ∙ ap (λ v. d ∷ v) r.view;
    kept = λ p at. view_later (other_end e) e d r.steps (Sent p) (r.kept p at);
  }
    where
      may : (d : Deed) → ((p : MachinePacket) → HasTaken (d ∷ h) p → HasSent (view_of (other_end e) base) p) → IsOpen (view_of (other_end e) r.steps) d
      may (Sent p) given = tt
      may (Took p) given = r.kept p (given p (contains_first (Took p) h))

  replay : (h : History) → view_of e base ≡ heard h → ((p : MachinePacket) → HasTaken h p → HasSent (view_of (other_end e) base) p) → Replayed m wire e base h
  replay [] view given = record { steps = base; run = base_run; view = view; kept = λ p at. at }
  replay (d ∷ h) view given = elim (either (d ∷ h)) [
    | inl over ↦ next d h given (replay h (view ∙ heard_stopped d h over) (λ p at. given p (contains_later d h (Took p) at)))
    | inr going ↦ record { steps = base; run = base_run; view = view ∙ heard_all (d ∷ h) going; kept = λ p at. at }
  ]

-- the end and the tap have this history
abbrev HasHalf : Meaning → List ℕ → End → History → Type 0
HasHalf m wire e h = (steps : List Step) × IsHalf m wire (other_end e) steps × (view_of e steps ≡ h)

last_error : (m : Meaning) (wire : List ℕ) (e : End) (h : History) → Stop e h → (b : Built m wire e h)
    → (other_end e ≡ Client → HasSent (view_of (other_end e) b.steps) Req) → (other_end e ≡ Server → HasTaken (view_of (other_end e) b.steps) Req) → HasHalf m wire e h
last_error m wire e h s b asked was_asked =
    let r = replay m wire e (by_other e (Sent (Error s.code s.text)) b.steps)
    (half_own m wire (other_end e) b.steps (Sent (Error s.code s.text)) (record { asked = asked; was_asked = was_asked; same = λ c words at. absurd (b.silent c words at) }), b.run)
    h (other_view e (Sent (Error s.code s.text)) b.steps ∙ b.view) (λ p at. by p (is_error p) refl at) in
    (r.steps, r.run, r.view)
  where
    now : (c : ℕ) (words : List ℕ) → HasTaken h (Error c words) → HasSent (view_of (other_end e) (by_other e (Sent (Error s.code s.text)) b.steps)) (Error c words)
    now c words at =
        let same = s.only c words at in
        let is : Error s.code s.text ≡ Error c words = cc in
        subst (HasSent (view_of (other_end e) (by_other e (Sent (Error s.code s.text)) b.steps))) is (view_first (other_end e) (Sent (Error s.code s.text)) b.steps)

    earlier : (p : MachinePacket) → is_error p ≡ false → HasTaken h p → HasSent (view_of (other_end e) (by_other e (Sent (Error s.code s.text)) b.steps)) p
    earlier p plain at = view_later (other_end e) (other_end e) (Sent (Error s.code s.text)) b.steps (Sent p) (b.given p plain at)

    by : (p : MachinePacket) (x : Bool) → is_error p ≡ x → HasTaken h p → HasSent (view_of (other_end e) (by_other e (Sent (Error s.code s.text)) b.steps)) p
    by p false plain at = earlier p plain at
    by (Error c words) true is at = now c words at
    by Req true is at = earlier Req refl at
    by Oack true is at = earlier Oack refl at
    by (Data k) true is at = earlier (Data k) refl at
    by (Ack j) true is at = earlier (Ack j) refl at

pub half_of_comes : (m : Meaning) (wire : List ℕ) (e : End) (h : History) → Comes m wire e h → HasHalf m wire e h
half_of_comes m wire e h all = elim (either h) [
  | inl over ↦ ends e refl (stop m wire e h all over)
  | inr going ↦ (b.steps, b.run, b.view ∙ heard_all h going)
]
  where
    b : Built m wire e h
    b = build m wire e h all

    ends : (x : End) → e ≡ x → Stop e h → HasHalf m wire e h
    ends Client client s = last_error m wire e h s b (λ is. let both : Server ≡ Client = sym (ap other_end client) ∙ is in absurd (cc)) (λ is. known m wire e h all b Req (s.asked client))
    ends Server server s = last_error m wire e h s b (λ is. b.asked server) (λ is. let both : Client ≡ Server = sym (ap other_end server) ∙ is in absurd (cc))

pub passes_are_tapped : (m : Meaning) (wire : List ℕ) (passed : List Pass) → MayPassEach m wire passed → IsTapView m wire passed
passes_are_tapped m wire passed may =
    let c = half_of_comes m wire Server (as_at Server passed) (comes m wire Server passed may) in
    let s = half_of_comes m wire Client (as_at Client passed) (comes m wire Client passed may) in
    let j = join m wire c.0 c.1 s.0 passed s.1 c.2 s.2 in
    (j.steps, j.run, j.tap)

pub tap_view_is : (m : Meaning) (wire : List ℕ) (passed : List Pass) → IsTapView m wire passed ↔ MayPassEach m wire passed
tap_view_is m wire passed = (view_may_pass m wire passed, passes_are_tapped m wire passed)
