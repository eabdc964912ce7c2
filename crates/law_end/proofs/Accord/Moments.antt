-- What a one-sided history tells of the moment when a deed was done.
use Rattle.std.proofs.Common.{◌≡◌, ℕ, zero, suc, ◌+◌, ◌-◌, ◌<◌, ◌≤◌, List, [], ◌∷◌, Contains, inl, inr, sym, subst, arith}
use Rattle.std.proofs.lemmas.Bool.{cases_eq}
use Rattle.tftp_packet.specs.{End, Client, Server}
use Rattle.law_model.specs.Model.{Meaning, windowsize_of, MachinePacket, Req, Oack, Data, Ack, Deed, Sent, Took, History, HasSent, HasTaken, IsAcknowledged, MaySend, MayCome, IsOneSided}
use Rattle.law_model.specs.Model.Roles.{sender_of, receiver_of}
use Rattle.law_model.proofs.ModelLemmas.Stops.{heard_done}
use Rattle.law_model.proofs.ModelLemmas.Members.{contains_later, contains_cases, contains_none}

module _ (m : Meaning) (wire : List ℕ) (e : End) where
  abbrev pub Keeps : History → History → Type 0
  Keeps before v = (x : Deed) → Contains before x → Contains v x

  -- when a packet was sent its end might send it, after deeds that are in the history
  pub sent_moment : (v : History) → IsOneSided m wire e v → (p : MachinePacket) → HasSent v p → (before : History) × MaySend m wire e before p × Keeps before v
  sent_moment [] own p at = absurd (contains_none (Sent p) at)
  sent_moment (Sent q ∷ v) own p at = elim (contains_cases (Sent q) v (Sent p) at) [
    | inl same ↦ let is : q ≡ p = cc in (v, subst (MaySend m wire e v) is own.0, λ x there. contains_later (Sent q) v x there)
    | inr past ↦ let (before, may, kept) = sent_moment v own.1 p past in (before, may, λ x there. contains_later (Sent q) v x (kept x there))
  ]
  sent_moment (Took q ∷ v) own p at = elim (contains_cases (Took q) v (Sent p) at) [
    | inl same ↦ absurd (cc)
    | inr past ↦ let (before, may, kept) = sent_moment v own.1 p past in (before, may, λ x there. contains_later (Took q) v x (kept x there))
  ]

  -- and when one was taken it might come
  pub took_moment : (v : History) → IsOneSided m wire e v → (p : MachinePacket) → HasTaken v p → (before : History) × MayCome m wire e before p × Keeps before v
  took_moment [] own p at = absurd (contains_none (Took p) at)
  took_moment (Took q ∷ v) own p at = elim (contains_cases (Took q) v (Took p) at) [
    | inl same ↦ let is : q ≡ p = cc in (v, subst (MayCome m wire e v) is own.0, λ x there. contains_later (Took q) v x there)
    | inr past ↦ let (before, may, kept) = took_moment v own.1 p past in (before, may, λ x there. contains_later (Took q) v x (kept x there))
  ]
  took_moment (Sent q ∷ v) own p at = elim (contains_cases (Sent q) v (Took p) at) [
    | inl same ↦ absurd (cc)
    | inr past ↦ let (before, may, kept) = took_moment v own.1 p past in (before, may, λ x there. contains_later (Sent q) v x (kept x there))
  ]

  module _ (v : History) (own : IsOneSided m wire e v) where
    -- so each packet tells which end it was
    pub who_sent_ack : (j : ℕ) → HasSent v (Ack j) → e ≡ receiver_of m.side
    who_sent_ack j at = (sent_moment v own (Ack j) at).1.receiver

    pub who_took_ack : (j : ℕ) → HasTaken v (Ack j) → e ≡ sender_of m.side
    who_took_ack j at = (took_moment v own (Ack j) at).1.sender

    pub who_sent_data : (k : ℕ) → HasSent v (Data k) → e ≡ sender_of m.side
    who_sent_data k at = (sent_moment v own (Data k) at).1.sender

    pub who_took_data : (k : ℕ) → HasTaken v (Data k) → e ≡ receiver_of m.side
    who_took_data k at = (took_moment v own (Data k) at).1.receiver

    pub who_sent_oack : HasSent v Oack → e ≡ Server
    who_sent_oack at = (sent_moment v own Oack at).1.server

    pub who_took_oack : HasTaken v Oack → e ≡ Client
    who_took_oack at = (took_moment v own Oack at).1.client

    pub who_sent_request : HasSent v Req → e ≡ Client
    who_sent_request at = (sent_moment v own Req at).1.client

    pub who_took_request : HasTaken v Req → e ≡ Server
    who_took_request at = (took_moment v own Req at).1

    -- the blocks are sent in order
    pub sent_below : (k j : ℕ) → HasSent v (Data k) → 1 ≤ j → j ≤ k → HasSent v (Data j)
    sent_below zero j at low up = absurd (omega (arith, low, up))
    sent_below (suc n) j at low up = elim (cases_eq j (suc n)) [
      | inl is ↦ subst (λ i. HasSent v (Data i)) (sym is) at
      | inr other ↦
          let (before, may, kept) = sent_moment v own (Data (suc n)) at in
          elim may.in_order [
            | inl one ↦ absurd (omega (arith, one, low, up, other))
            | inr next ↦ let is : suc n - 1 ≡ n = omega arith in sent_below n j (subst (λ i. HasSent v (Data i)) is (kept (Sent (Data (suc n - 1))) next)) low (omega (arith, up, other))
          ]
    ]

    pub sent_in_window : (k : ℕ) → HasSent v (Data k) → (a : ℕ) × IsAcknowledged v a × (a < k) × (k ≤ a + windowsize_of m)
    sent_in_window k at =
        let (before, may, kept) = sent_moment v own (Data k) at in
        let w = may.in_window in
        (w.0, elim w.1 [ inl none ↦ inl none | inr ack ↦ inr (kept (Took (Ack w.0)) ack) ], w.2, w.3)

    pub acknowledged_was_sent : (j k : ℕ) → HasTaken v (Ack j) → 1 ≤ k → k ≤ j → HasSent v (Data k)
    acknowledged_was_sent j k at low up =
        let (before, may, kept) = took_moment v own (Ack j) at in kept (Sent (Data k)) (heard_done before (Sent (Data k)) (may.sent k low up))
