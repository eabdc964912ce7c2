-- Where the window is at most half_round a round, what is not late is near.
use Rattle.std.proofs.Common.{◌≡◌, ℕ, zero, suc, ◌≤◌, ◌⊎◌, Bool, true, false, List, [], ◌∷◌, Contains, if◌then◌else◌, inl, inr, refl, sym, subst, ap, ◌∙◌, arith}
use Rattle.std.specs.List.{list_any}
use Rattle.tftp_packet.specs.{End}
use Rattle.law_model.specs.Model.{Meaning, windowsize_of, MachinePacket, Req, Oack, Data, Ack, Error, Deed, Sent, Took, History, IsOneSided, heard, takes_error}
use Rattle.law_model.proofs.ModelLemmas.Members.{contains_cases, contains_later, contains_none}
use Rattle.law_end.specs.{packet_of}
use Rattle.tftp_packet.specs.{Rollover}
use Rattle.tftp_packet.specs.Rounds.{half_round}
use Rattle.tftp_packet.proofs.RoundsLemmas.Positions.{around_is_near}
use Rattle.law_rollover.specs.{IsNearPacket, IsTimelyPacket, AreNear, IsTimely, high_of, higher_of}

higher_more : (p : MachinePacket) (high : ℕ) → high ≤ higher_of p high
higher_more Req high = omega arith
higher_more Oack high = omega arith
higher_more (Data k) high = omega arith
higher_more (Ack j) high = omega arith
higher_more (Error code text) high = omega arith

pub data_below : (h : History) (d : Deed) (k : ℕ) → packet_of d ≡ Data k → Contains h d → k ≤ high_of h
data_below [] d k is at = absurd (contains_none d at)
data_below (e ∷ h) d k is at = elim (contains_cases e h d at) [
  | inl same ↦ let here : packet_of e ≡ Data k = ap packet_of same ∙ is in subst (λ p. k ≤ higher_of p (high_of h)) (sym here) (omega arith)
  | inr before ↦ let low = data_below h d k is before in let more = higher_more (packet_of e) (high_of h) in omega arith
]

-- what was heard was done
was_heard : (h : History) (d : Deed) → Contains (heard h) d → Contains h d
was_heard [] d at = at
was_heard (e ∷ h) d at = by (list_any takes_error (e ∷ h)) at (λ before. was_heard h d before) where
  by : (b : Bool) → Contains (if b then heard h else e ∷ h) d → (Contains (heard h) d → Contains h d) → Contains (e ∷ h) d
  by true at more = contains_later e h d (more at)
  by false at more = at

module _ (m : Meaning) (wire : List ℕ) (e : End) where
  -- an ACK is of a block that has passed before
  ack_low : (d : Deed) (h : History) → IsOneSided m wire e (d ∷ h) → (j : ℕ) → d ≡ Sent (Ack j) ⊎ d ≡ Took (Ack j) → j ≤ high_of h
  ack_low d h own zero is = omega arith
  ack_low d h own (suc j) (inl is) =
      let now : IsOneSided m wire e (Sent (Ack (suc j)) ∷ h) = subst (λ x. IsOneSided m wire e (x ∷ h)) is own in
      data_below h (Took (Data (suc j))) (suc j) refl (now.0.taken (suc j) (omega arith) (omega arith))
  ack_low d h own (suc j) (inr is) =
      let now : IsOneSided m wire e (Took (Ack (suc j)) ∷ h) = subst (λ x. IsOneSided m wire e (x ∷ h)) is own in
      data_below h (Sent (Data (suc j))) (suc j) refl (was_heard h (Sent (Data (suc j))) (now.0.sent (suc j) (omega arith) (omega arith)))

  earlier : (d : Deed) (h : History) → IsOneSided m wire e (d ∷ h) → IsOneSided m wire e h
  earlier (Sent p) h own = own.1
  earlier (Took p) h own = own.1

  ack_below : (h : History) → IsOneSided m wire e h → (d : Deed) (j : ℕ) → d ≡ Sent (Ack j) ⊎ d ≡ Took (Ack j) → Contains h d → j ≤ high_of h
  ack_below [] own d j is at = absurd (contains_none d at)
  ack_below (x ∷ h) own d j is at =
      let more = higher_more (packet_of x) (high_of h) in
      elim (contains_cases x h d at) [
        | inl same ↦ let low = ack_low x h own j (same_ack same is) in omega arith
        | inr before ↦ let low = ack_below h (earlier x h own) d j is before in omega arith
      ]
    where
      same_ack : x ≡ d → d ≡ Sent (Ack j) ⊎ d ≡ Took (Ack j) → x ≡ Sent (Ack j) ⊎ x ≡ Took (Ack j)
      same_ack same (inl is) = inl (same ∙ is)
      same_ack same (inr is) = inr (same ∙ is)

  pub near_deed : (r : Rollover) → windowsize_of m ≤ half_round → (d : Deed) (h : History) → IsOneSided m wire e (d ∷ h) → IsTimelyPacket (high_of h) (packet_of d) → IsNearPacket r (high_of h) (packet_of d)
  near_deed r few (Sent Req) h own timely = tt
  near_deed r few (Took Req) h own timely = tt
  near_deed r few (Sent Oack) h own timely = tt
  near_deed r few (Took Oack) h own timely = tt
  near_deed r few (Sent (Error code text)) h own timely = tt
  near_deed r few (Took (Error code text)) h own timely = tt
  near_deed r few (Sent (Ack j)) h own timely = let low = ack_low (Sent (Ack j)) h own j (inl refl) in around_is_near r (high_of h) j timely (omega arith)
  near_deed r few (Took (Ack j)) h own timely = let low = ack_low (Took (Ack j)) h own j (inr refl) in around_is_near r (high_of h) j timely (omega arith)
  near_deed r few (Sent (Data k)) h own timely =
      let (a, given, above, within) = own.0.in_window in
      let low : a ≤ high_of h = elim given [ inl none ↦ omega (arith, none) | inr took ↦ ack_below h own.1 (Took (Ack a)) a (inr refl) took ] in
      around_is_near r (high_of h) k timely (omega arith)
  near_deed r few (Took (Data k)) h own timely =
      let (a, given, within) = own.0.in_window in
      let low : a ≤ high_of h = elim given [ inl none ↦ omega (arith, none) | inr sent ↦ ack_below h own.1 (Sent (Ack a)) a (inl refl) (was_heard h (Sent (Ack a)) sent) ] in
      around_is_near r (high_of h) k timely (omega arith)

  pub all_timely : (r : Rollover) → windowsize_of m ≤ half_round → (h : History) → IsOneSided m wire e h → IsTimely h → AreNear r h
  all_timely r few [] own timely = tt
  all_timely r few (d ∷ h) own timely = (near_deed r few d h own timely.0, all_timely r few h (earlier d h own) timely.1)
