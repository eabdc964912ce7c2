-- How often a packet was sent and taken.
use Rattle.std.proofs.Common.{◌≡◌, ◌⊎◌, ℕ, zero, suc, [], ◌∷◌, Contains, inl, inr, refl, sym, subst, ◌∙◌, arith}
use Rattle.law_model.specs.Model.{Deed, Sent, Took, MachinePacket, History, HasSent, HasTaken}
use Rattle.law_model.proofs.ModelLemmas.Members.{contains_first, contains_later, contains_cases, contains_none}
use Rattle.law_pair.specs.{IsOpen, AreMerged, Times, PassedSoOften}
use Rattle.law_pair.proofs.Merged.{turned, to_client_went}

times_one : (h : History) (d : Deed) (n k : ℕ) → Times h d n → Times h d k → n ≡ k
times_one [] d n k one other = one ∙ sym other
times_one (e ∷ h) d n k one other = elim one [
  | inl now ↦ elim other [ inl too ↦ let same = times_one h d now.1 too.1 now.3 too.3 in let a = now.2 in let b = too.2 in omega arith | inr none ↦ absurd (none.0 now.0) ]
  | inr none ↦ elim other [ inl now ↦ absurd (none.0 now.0) | inr too ↦ times_one h d n k none.1 too.1 ]
]

some_times : (h : History) (d : Deed) (n : ℕ) → Times h d (suc n) → Contains h d
some_times [] d n is = absurd (omega arith)
some_times (e ∷ h) d n is = elim is [ inl now ↦ subst (Contains (e ∷ h)) now.0 (contains_first e h) | inr none ↦ contains_later e h d (some_times h d n none.1) ]

never : (h : History) (d : Deed) → Times h d 0 → Contains h d → ⊥
never [] d is at = contains_none d at
never (e ∷ h) d is at = elim is [ inl now ↦ let a = now.2 in absurd (omega arith) | inr none ↦ elim (contains_cases e h d at) [ inl same ↦ none.0 same | inr before ↦ never h d none.1 before ] ]

-- what was taken had been sent
took_was_sent : (p : MachinePacket) (d : Deed) (own other : History) → IsOpen other d → HasTaken (d ∷ own) p → HasSent other p ⊎ HasTaken own p
took_was_sent p d own other now at = elim (contains_cases d own (Took p) at) [ inl same ↦ inl (subst (IsOpen other) same now) | inr before ↦ inr before ]

pub client_took : (client server : History) → AreMerged client server → (p : MachinePacket) → HasTaken client p → HasSent server p
client_took client server merged p =
    to_client_went IsOpen (λ h. HasTaken h p) (λ h. HasSent h p) (contains_none (Took p)) (λ d h at. contains_later d h (Sent p) at) (took_was_sent p) client server merged

pub server_took : (client server : History) → AreMerged client server → (p : MachinePacket) → HasTaken server p → HasSent client p
server_took client server merged = client_took server client (turned IsOpen client server merged)

pub passed_one : (from to : History) (p : MachinePacket) (sent taken n k : ℕ) → PassedSoOften from to p sent taken → PassedSoOften from to p n k → (sent ≡ n) × (taken ≡ k)
passed_one from to p sent taken n k one other = (times_one from (Sent p) sent n one.went other.went, times_one to (Took p) taken k one.came other.came)

pub none_to_client : (client server : History) (p : MachinePacket) (taken : ℕ) → AreMerged client server → PassedSoOften server client p 0 taken → taken ≡ 0
none_to_client client server p zero merged passed = refl
none_to_client client server p (suc n) merged passed = absurd (never server (Sent p) passed.went (client_took client server merged p (some_times client (Took p) n passed.came)))

pub none_to_server : (client server : History) (p : MachinePacket) (taken : ℕ) → AreMerged client server → PassedSoOften client server p 0 taken → taken ≡ 0
none_to_server client server p taken merged = none_to_client server client p taken (turned IsOpen client server merged)
