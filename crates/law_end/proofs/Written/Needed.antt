-- What a one-sided history has, at either end, where a block has passed: the request and its answer, and for a block the
-- ACK that let it go.
use Rattle.std.proofs.Common.{◌≡◌, ℕ, ◌+◌, ◌<◌, ◌≤◌, ◌⊎◌, List, [], ◌∷◌, inl, inr, refl, subst, arith}
use Rattle.std.proofs.lemmas.Bool.{cases_lt}
use Rattle.tftp_packet.specs.{Get, Put, End}
use Rattle.law_model.specs.Model.{Meaning, NothingAgreed, windowsize_of, MachinePacket, Req, Oack, Data, Ack, Deed, Sent, Took, History, HasSent, HasTaken, IsStartedOn, MayAckZeroOn, heard, LetsStartOn, LetsAckZeroOn, MayComeData, MayCome, IsOneSided}
use Rattle.law_model.proofs.ModelLemmas.Stops.{heard_done}
use Rattle.law_model.proofs.ModelLemmas.Members.{contains_later, contains_cases, contains_none}
use Rattle.law_end.proofs.Accord.Moments.{sent_moment, took_moment, sent_in_window}

-- it went this way or the other
abbrev pub HasPassed : History → MachinePacket → Type 0
HasPassed v p = HasSent v p ⊎ HasTaken v p

abbrev pub LetGo : Meaning → History → ℕ → Type 0
LetGo m v k = (a : ℕ) × ((a ≡ 0) ⊎ HasPassed v (Ack a)) × (a < k) × (k ≤ a + windowsize_of m)

let_go_later : (m : Meaning) (d : Deed) (v : History) (k : ℕ) → LetGo m v k → LetGo m (d ∷ v) k
let_go_later m d v k (a, given, less, near) = (
  a,
  elim given [
    | inl none ↦ inl none
    | inr acked ↦ inr (elim acked [ inl x ↦ inl (contains_later d v (Sent (Ack a)) x) | inr x ↦ inr (contains_later d v (Took (Ack a)) x) ])
  ],
  less,
  near,
)

module _ (m : Meaning) (wire : List ℕ) (e : End) where
  -- of a block that was taken more than once, the first time counts
  took_let_go : (k : ℕ) → 1 ≤ k → (v : History) → IsOneSided m wire e v → HasTaken v (Data k) → LetGo m v k
  took_let_go k low [] own at = absurd (contains_none (Took (Data k)) at)
  took_let_go k low (Sent p ∷ v) own at = elim (contains_cases (Sent p) v (Took (Data k)) at) [
    | inl same ↦ absurd (cc)
    | inr before ↦ let_go_later m (Sent p) v k (took_let_go k low v own.1 before)
  ]
  took_let_go k low (Took p ∷ v) own at = elim (contains_cases (Took p) v (Took (Data k)) at) [
    | inl same ↦
        let is : p ≡ Data k = cc in
        let may : MayComeData m wire e (heard v) k = subst (λ q. MayCome m wire e v q) is own.0 in
        let (a, given_heard, near) = may.in_window in
        let given : (a ≡ 0) ⊎ HasSent v (Ack a) = elim given_heard [ inl none ↦ inl none | inr sent ↦ inr (heard_done v (Sent (Ack a)) sent) ] in
        elim (cases_lt a k) [
          | inl less ↦ (a, elim given [ inl none ↦ inl none | inr sent ↦ inr (inl (contains_later (Took p) v (Sent (Ack a)) sent)) ], less, near)
          | inr more ↦ elim given [
            | inl none ↦ absurd (omega (arith, none, low, more))
            | inr sent ↦
                let (before, ack, kept) = sent_moment m wire e v own.1 (Ack a) sent in
                let_go_later m (Took p) v k (took_let_go k low v own.1 (kept (Took (Data k)) (ack.taken k low more)))
          ]
        ]
    | inr before ↦ let_go_later m (Took p) v k (took_let_go k low v own.1 before)
  ]

  module _ (v : History) (own : IsOneSided m wire e v) where
    pub let_go : (k : ℕ) → 1 ≤ k → HasPassed v (Data k) → LetGo m v k
    let_go k low passed = elim passed [
      | inl sent ↦
          let (a, given, less, near) = sent_in_window m wire e v own k sent in
          (a, elim given [ inl none ↦ inl none | inr took ↦ inr (inr took) ], less, near)
      | inr took ↦ took_let_go k low v own took
    ]

    asked_oack : HasPassed v Oack → HasPassed v Req
    asked_oack passed = elim passed [
      | inl sent ↦ let (before, may, kept) = sent_moment m wire e v own Oack sent in inr (kept (Took Req) may.asked)
      | inr took ↦ let (before, may, kept) = took_moment m wire e v own Oack took in inl (kept (Sent Req) may.asked)
    ]

    -- ACK 0 of a read answers the OACK
    zero_get : m.side ≡ Get → HasPassed v (Ack 0) → HasPassed v Oack
    zero_get get passed = elim passed [
      | inl sent ↦
          let (before, may, kept) = sent_moment m wire e v own (Ack 0) sent in
          let z : MayAckZeroOn Get m before = subst (λ s. MayAckZeroOn s m before) get (may.zero refl) in
          inr (kept (Took Oack) z.1)
      | inr took ↦
          let (before, may, kept) = took_moment m wire e v own (Ack 0) took in
          let z : LetsAckZeroOn Get m (heard before) = subst (λ s. LetsAckZeroOn s m (heard before)) get (may.zero refl) in
          inl (kept (Sent Oack) (heard_done before (Sent Oack) z.1))
    ]

    -- with nothing agreed, that of a write answers the request
    zero_put : m.side ≡ Put → NothingAgreed m → HasPassed v (Ack 0) → HasPassed v Req
    zero_put put none passed = elim passed [
      | inl sent ↦
          let (before, may, kept) = sent_moment m wire e v own (Ack 0) sent in
          let z : MayAckZeroOn Put m before = subst (λ s. MayAckZeroOn s m before) put (may.zero refl) in
          elim z [ inl plain ↦ inr (kept (Took Req) plain.1) | inr some ↦ absurd (some.0 none) ]
      | inr took ↦
          let (before, may, kept) = took_moment m wire e v own (Ack 0) took in
          let z : LetsAckZeroOn Put m (heard before) = subst (λ s. LetsAckZeroOn s m (heard before)) put (may.zero refl) in
          elim z [ inl plain ↦ inl (kept (Sent Req) (heard_done before (Sent Req) plain.1)) | inr some ↦ absurd (some.0 none) ]
    ]

    first_get : m.side ≡ Get → (k : ℕ) → HasPassed v (Data k) → (NothingAgreed m × HasPassed v Req) ⊎ HasPassed v (Ack 0)
    first_get get k passed = elim passed [
      | inl sent ↦
          let (before, may, kept) = sent_moment m wire e v own (Data k) sent in
          let s : IsStartedOn Get m before = subst (λ s. IsStartedOn s m before) get may.started in
          elim s [ inl plain ↦ inl (plain.0, inr (kept (Took Req) plain.1)) | inr some ↦ inr (inr (kept (Took (Ack 0)) some.1)) ]
      | inr took ↦
          let (before, may, kept) = took_moment m wire e v own (Data k) took in
          let s : LetsStartOn Get m (heard before) = subst (λ s. LetsStartOn s m (heard before)) get may.started in
          elim s [
            | inl plain ↦ inl (plain.0, inl (kept (Sent Req) (heard_done before (Sent Req) plain.1)))
            | inr some ↦ inr (inl (kept (Sent (Ack 0)) (heard_done before (Sent (Ack 0)) some.1)))
          ]
    ]

    first_put : m.side ≡ Put → (k : ℕ) → HasPassed v (Data k) → (NothingAgreed m × HasPassed v (Ack 0)) ⊎ HasPassed v Oack
    first_put put k passed = elim passed [
      | inl sent ↦
          let (before, may, kept) = sent_moment m wire e v own (Data k) sent in
          let s : IsStartedOn Put m before = subst (λ s. IsStartedOn s m before) put may.started in
          elim s [ inl plain ↦ inl (plain.0, inr (kept (Took (Ack 0)) plain.1)) | inr some ↦ inr (inr (kept (Took Oack) some.1)) ]
      | inr took ↦
          let (before, may, kept) = took_moment m wire e v own (Data k) took in
          let s : LetsStartOn Put m (heard before) = subst (λ s. LetsStartOn s m (heard before)) put may.started in
          elim s [
            | inl plain ↦ inl (plain.0, inl (kept (Sent (Ack 0)) (heard_done before (Sent (Ack 0)) plain.1)))
            | inr some ↦ inr (inl (kept (Sent Oack) (heard_done before (Sent Oack) some.1)))
          ]
    ]

    -- a read: the request, and with something agreed the OACK and ACK 0
    pub opened_get : m.side ≡ Get → (k : ℕ) → HasPassed v (Data k) → HasPassed v Req × (NothingAgreed m ⊎ (HasPassed v Oack × HasPassed v (Ack 0)))
    opened_get get k passed = elim (first_get get k passed) [
      | inl plain ↦ (plain.1, inl plain.0)
      | inr acked ↦ let answered = zero_get get acked in (asked_oack answered, inr (answered, acked))
    ]

    -- a write: the request and one answer
    pub opened_put : m.side ≡ Put → (k : ℕ) → HasPassed v (Data k) → HasPassed v Req × ((NothingAgreed m × HasPassed v (Ack 0)) ⊎ HasPassed v Oack)
    opened_put put k passed = elim (first_put put k passed) [
      | inl plain ↦ (zero_put put plain.0 plain.1, inl plain)
      | inr oacked ↦ (asked_oack oacked, inr oacked)
    ]
