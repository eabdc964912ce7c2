-- A history that one end might have is what it did in some run: the ERROR of the other end is its last step, and then this
-- end does the rest.
use Rattle.std.proofs.Common.{◌≡◌, ℕ, Bool, true, false, List, [], ◌∷◌, inl, inr, refl, sym, subst, ap, ◌∙◌}
use Rattle.tftp_packet.specs.{End, Client, Server}
use Rattle.law_model.specs.Model.{Meaning, Deed, Sent, Took, MachinePacket, Req, Oack, Data, Ack, Error, History, HasSent, HasTaken, MaySend, Step, view_of, MayFollow, IsRun, IsView, is_error, heard, IsOneSided}
use Rattle.law_model.specs.Model.Machines.{other_end}
use Rattle.law_model.proofs.ModelLemmas.Members.{contains_first, contains_later}
use Rattle.law_model.proofs.ModelLemmas.Views.{view_first, view_later}
use Rattle.law_model.proofs.ModelLemmas.Stops.{either, heard_all, heard_stopped, lawful_tail, Stop, stop}
use Rattle.law_model.proofs.ModelLemmas.OtherEnd.{by_own, by_other, own_view, other_view}
use Rattle.law_model.proofs.ModelLemmas.HiddenEnd.{Built, known, offer_req, build}

record Replayed (m : Meaning) (wire : List ℕ) (e : End) (base : List Step) (h : History) : Type 0 where
  steps : List Step
  run : IsRun m wire steps
  view : view_of e steps ≡ h
  kept : (p : MachinePacket) → HasSent (view_of (other_end e) base) p → HasSent (view_of (other_end e) steps) p

module _ (m : Meaning) (wire : List ℕ) (e : End) (base : List Step) (base_run : IsRun m wire base) where
  next : (d : Deed) (h : History) → IsOneSided m wire e (d ∷ h) → ((p : MachinePacket) → HasTaken (d ∷ h) p → HasSent (view_of (other_end e) base) p) → Replayed m wire e base h → Replayed m wire e base (d ∷ h)
  next d h lawful given r = record {
    steps = by_own e d r.steps;
    run = (may d lawful given, r.run);
    view = own_view e d r.steps ∙ ap (λ v. d ∷ v) r.view;
    kept = λ p at. view_later (other_end e) e d r.steps (Sent p) (r.kept p at);
  }
    where
      may : (d : Deed) → IsOneSided m wire e (d ∷ h) → ((p : MachinePacket) → HasTaken (d ∷ h) p → HasSent (view_of (other_end e) base) p) → MayFollow m wire r.steps e d
      may (Sent p) lawful given = subst (λ v. MaySend m wire e v p) (sym r.view) lawful.0
      may (Took p) lawful given = r.kept p (given p (contains_first (Took p) h))

  replay : (h : History) → IsOneSided m wire e h → view_of e base ≡ heard h → ((p : MachinePacket) → HasTaken h p → HasSent (view_of (other_end e) base) p) → Replayed m wire e base h
  replay [] lawful view given = record { steps = base; run = base_run; view = view; kept = λ p at. at }
  replay (d ∷ h) lawful view given = elim (either (d ∷ h)) [
    | inl over ↦ next d h lawful given (replay h (lawful_tail m wire e d h lawful) (view ∙ heard_stopped d h over) (λ p at. given p (contains_later d h (Took p) at)))
    | inr going ↦ record { steps = base; run = base_run; view = view ∙ heard_all (d ∷ h) going; kept = λ p at. at }
  ]

-- the other end ends with its ERROR
last_error : (m : Meaning) (wire : List ℕ) (e : End) (h : History) → IsOneSided m wire e h → Stop e h → (b : Built m wire e h)
    → (other_end e ≡ Client → HasSent (view_of (other_end e) b.steps) Req) → (other_end e ≡ Server → HasTaken (view_of (other_end e) b.steps) Req) → IsView m wire e h
last_error m wire e h lawful s b asked was_asked =
    let r = replay m wire e (by_other e (Sent (Error s.code s.text)) b.steps)
    (record { asked = asked; was_asked = was_asked; same = λ c words at. absurd (b.silent c words at) }, b.run)
    h lawful (other_view e (Sent (Error s.code s.text)) b.steps ∙ b.view) (λ p at. by p (is_error p) refl at) in
    (r.steps, r.run, r.view)
  where
    now : (c : ℕ) (words : List ℕ) → HasTaken h (Error c words) → HasSent (view_of (other_end e) (by_other e (Sent (Error s.code s.text)) b.steps)) (Error c words)
    now c words at =
        let same = s.only c words at in
        let is : Error s.code s.text ≡ Error c words = cc in
        subst (HasSent (view_of (other_end e) (by_other e (Sent (Error s.code s.text)) b.steps))) is (view_first (other_end e) (Sent (Error s.code s.text)) b.steps)

    earlier : (p : MachinePacket) → is_error p ≡ false → HasTaken h p → HasSent (view_of (other_end e) (by_other e (Sent (Error s.code s.text)) b.steps)) p
    earlier p plain at = view_later (other_end e) (other_end e) (Sent (Error s.code s.text)) b.steps (Sent p) (b.given p plain at)

    by : (p : MachinePacket) (x : Bool) → is_error p ≡ x → HasTaken h p → HasSent (view_of (other_end e) (by_other e (Sent (Error s.code s.text)) b.steps)) p
    by p false plain at = earlier p plain at
    by (Error c words) true is at = now c words at
    by Req true is at = earlier Req refl at
    by Oack true is at = earlier Oack refl at
    by (Data k) true is at = earlier (Data k) refl at
    by (Ack j) true is at = earlier (Ack j) refl at

pub one_sided_view : (m : Meaning) (wire : List ℕ) (e : End) (h : History) → IsOneSided m wire e h → IsView m wire e h
one_sided_view m wire e h lawful = elim (either h) [
  | inl over ↦ ends e refl (stop m wire e h lawful over)
  | inr going ↦ (b.steps, b.run, b.view ∙ heard_all h going)
]
  where
    b : Built m wire e h
    b = build m wire e h lawful

    ends : (x : End) → e ≡ x → Stop e h → IsView m wire e h
    ends Client client s = last_error m wire e h lawful s b (λ is. let both : Server ≡ Client = sym (ap other_end client) ∙ is in absurd (cc)) (λ is. known m wire e h b Req (s.asked client))
    ends Server server s = let o = offer_req m wire e h b server in last_error m wire e h lawful s o.built (λ is. o.sent) (λ is. let both : Client ≡ Server = sym (ap other_end server) ∙ is in absurd (cc))
