-- What passed, as each end's history.
use Rattle.std.proofs.Common.{◌≡◌, List, [], ◌∷◌, Contains, inl, inr, refl, sym, subst}
use Rattle.tftp_packet.specs.{End, Client, Server}
use Rattle.law_model.specs.Model.Machines.{other_end}
use Rattle.law_model.specs.Model.{Sent, Took, MachinePacket, HasSent, HasTaken}
use Rattle.law_model.proofs.ModelLemmas.Members.{contains_first, contains_later, contains_cases, contains_none}
use Rattle.law_tap.specs.{Pass, deed_at, as_at}

pub sent_at : (e : End) (p : MachinePacket) → deed_at e e p ≡ Sent p
sent_at Client p = refl
sent_at Server p = refl

pub took_at : (e : End) (p : MachinePacket) → deed_at e (other_end e) p ≡ Took p
took_at Client p = refl
took_at Server p = refl

-- a deed at an end tells the pass
is_sent : (e f : End) (p q : MachinePacket) → deed_at e f q ≡ Sent p → (f ≡ e) × (q ≡ p)
is_sent Client Client p q is = (refl, cc)
is_sent Server Server p q is = (refl, cc)
is_sent _ _ p q is = absurd (cc)

is_took : (e f : End) (p q : MachinePacket) → deed_at e f q ≡ Took p → (f ≡ other_end e) × (q ≡ p)
is_took Client Server p q is = (refl, cc)
is_took Server Client p q is = (refl, cc)
is_took _ _ p q is = absurd (cc)

same_pass : (x : Pass) (f : End) (p : MachinePacket) → x.from ≡ f → x.packet ≡ p → x ≡ record { from = f; packet = p }
same_pass x f p one other = rw (sym one, sym other) refl

pub at_sent : (e : End) (p : MachinePacket) (passed : List Pass) → Contains passed (record { from = e; packet = p }) → HasSent (as_at e passed) p
at_sent e p [] at = absurd (contains_none _ at)
at_sent e p (x ∷ passed) at = elim (contains_cases x passed _ at) [
  | inl now ↦ subst (λ y. HasSent (deed_at e y.from y.packet ∷ as_at e passed) p) (sym now) (subst (λ d. HasSent (d ∷ as_at e passed) p) (sym (sent_at e p)) (contains_first (Sent p) (as_at e passed)))
  | inr before ↦ contains_later (deed_at e x.from x.packet) (as_at e passed) (Sent p) (at_sent e p passed before)
]

pub at_took : (e : End) (p : MachinePacket) (passed : List Pass) → Contains passed (record { from = other_end e; packet = p }) → HasTaken (as_at e passed) p
at_took e p [] at = absurd (contains_none _ at)
at_took e p (x ∷ passed) at = elim (contains_cases x passed _ at) [
  | inl now ↦ subst (λ y. HasTaken (deed_at e y.from y.packet ∷ as_at e passed) p) (sym now) (subst (λ d. HasTaken (d ∷ as_at e passed) p) (sym (took_at e p)) (contains_first (Took p) (as_at e passed)))
  | inr before ↦ contains_later (deed_at e x.from x.packet) (as_at e passed) (Took p) (at_took e p passed before)
]

pub sent_passed : (e : End) (p : MachinePacket) (passed : List Pass) → HasSent (as_at e passed) p → Contains passed (record { from = e; packet = p })
sent_passed e p [] at = absurd (contains_none _ at)
sent_passed e p (x ∷ passed) at = elim (contains_cases (deed_at e x.from x.packet) (as_at e passed) (Sent p) at) [
  | inl now ↦ let is = is_sent e x.from p x.packet now in subst (Contains (x ∷ passed)) (same_pass x e p is.0 is.1) (contains_first x passed)
  | inr before ↦ contains_later x passed _ (sent_passed e p passed before)
]

pub took_passed : (e : End) (p : MachinePacket) (passed : List Pass) → HasTaken (as_at e passed) p → Contains passed (record { from = other_end e; packet = p })
took_passed e p [] at = absurd (contains_none _ at)
took_passed e p (x ∷ passed) at = elim (contains_cases (deed_at e x.from x.packet) (as_at e passed) (Took p) at) [
  | inl now ↦ let is = is_took e x.from p x.packet now in subst (Contains (x ∷ passed)) (same_pass x (other_end e) p is.0 is.1) (contains_first x passed)
  | inr before ↦ contains_later x passed _ (took_passed e p passed before)
]
