-- What a server may do next after a part of what it did, where the part is lawful itself and has all that is near.
use Rattle.std.proofs.Common.{◌≡◌, ℕ, ◌+◌, ◌-◌, ◌<◌, ◌≤◌, List, [], ◌∷◌, inl, inr, sym, subst, arith}
use Rattle.std.proofs.lemmas.Bool.{cases_eq}
use Rattle.tftp_packet.specs.{Server}
use Rattle.law_model.specs.Model.{Meaning, blksize_of, block_count, windowsize_of, MachinePacket, Data, Ack, Error, IsAcknowledged, Sent, Took, History, HasSent, HasTaken, IsOneSided, MaySendData, MaySendAck, MayCome, MayComeData, MayComeAck, heard}
use Rattle.law_model.specs.Model.Roles.{sender_of, receiver_of}
use Rattle.law_model.proofs.ModelLemmas.Stops.{heard_done, heard_more}
use Rattle.law_model.proofs.ModelLemmas.Members.{contains_cases, contains_none}
use Rattle.law_end.proofs.Accord.HeardAnswer.{heard_own}
use Rattle.law_end.proofs.Accord.Moments.{sent_moment, took_moment, sent_below}
use Rattle.law_end.proofs.Accord.FirstReply.{sent_data, took_data}

-- near block or ACK n: those with this number and above, and the one before
abbrev pub IsNear : ℕ → MachinePacket → Type 0
IsNear n (Data k) = n ≤ k + 1
IsNear n (Ack j) = n ≤ j + 1
IsNear n _ = ⊥

-- The part has what is near; and of the whole are its blocks and ERRORs.
pub record IsNearPart (n : ℕ) (whole part : History) : Type 0 where
  pub sent : (q : MachinePacket) → IsNear n q → HasSent whole q → HasSent part q
  pub took : (q : MachinePacket) → IsNear n q → HasTaken whole q → HasTaken part q
  pub used : (q : MachinePacket) → IsNear n q → HasSent (heard whole) q → HasSent (heard part) q
  pub blocks : (k : ℕ) → HasSent part (Data k) → HasSent whole (Data k)
  pub errors : (code : ℕ) (text : List ℕ) → HasSent part (Error code text) → HasSent whole (Error code text)

-- what an ACK acknowledges was taken
pub acked_taken : (m : Meaning) (wire : List ℕ) (v : History) → IsOneSided m wire Server v → (a k : ℕ) → HasSent v (Ack a) → 1 ≤ k → k ≤ a → HasTaken v (Data k)
acked_taken m wire v own a k at low up = let (before, may, kept) = sent_moment m wire Server v own (Ack a) at in kept (Took (Data k)) (may.taken k low up)

-- what an ACK acknowledges was sent before an ERROR came
pub acked_heard : (m : Meaning) (wire : List ℕ) (v : History) → IsOneSided m wire Server v → (a k : ℕ) → HasTaken v (Ack a) → 1 ≤ k → k ≤ a → HasSent (heard v) (Data k)
acked_heard m wire [] own a k at low up = absurd (contains_none (Took (Ack a)) at)
acked_heard m wire (Took q ∷ v) own a k at low up = heard_more (Took q) v (Sent (Data k)) (elim (contains_cases (Took q) v (Took (Ack a)) at) [
  | inl same ↦ let is : q ≡ Ack a = cc in (subst (MayCome m wire Server v) is own.0).sent k low up
  | inr before ↦ acked_heard m wire v own.1 a k before low up
])
acked_heard m wire (Sent q ∷ v) own a k at low up = heard_more (Sent q) v (Sent (Data k)) (elim (contains_cases (Sent q) v (Took (Ack a)) at) [
  | inl same ↦ absurd (cc)
  | inr before ↦ acked_heard m wire v own.1 a k before low up
])

-- The part may be of another meaning of the same side: each in lock step, and block n is one in either.
module _ (m : Meaning) (wire : List ℕ) (o : Meaning) (wire_o : List ℕ) (side : m.side ≡ o.side) (one : windowsize_of m ≡ 1) (one_o : windowsize_of o ≡ 1) (whole part : History) (n : ℕ) (two : 2 ≤ n)
    (within : n ≤ block_count (blksize_of m) wire → n ≤ block_count (blksize_of o) wire_o) (near : IsNearPart n whole part) (own : IsOneSided o wire_o Server part) where
  heard_part : IsOneSided o wire_o Server (heard part)
  heard_part = heard_own o wire_o Server part own

  -- ---- on a read

  pub block_goes : MaySendData m wire Server whole n → MaySendData o wire_o Server part n
  block_goes may = record {
    sender = subst (λ s. Server ≡ sender_of s) side may.sender;
    no_error = λ code text at. may.no_error code text (near.errors code text at);
    from_one = may.from_one;
    in_wire = within may.in_wire;
    started = sent_data o wire_o Server (n - 1) part own before;
    in_order = inr before;
    in_window = window;
    in_step = λ is higher at. may.in_step one higher (near.blocks higher at);
  } where
    before : HasSent part (Data (n - 1))
    before = elim may.in_order [
      | inl is ↦ absurd (omega (arith, is, two))
      | inr there ↦ near.sent (Data (n - 1)) (omega (arith, two)) there
    ]

    window : (a : ℕ) × IsAcknowledged part a × (a < n) × (n ≤ a + windowsize_of o)
    window =
        let w = may.in_window in
        let low = w.2 in
        let high = w.3 in (
          w.0,
          inr (elim w.1 [
            | inl none ↦ absurd (omega (arith, none, two, high, one))
            | inr taken ↦ near.took (Ack w.0) (omega (arith, high, one)) taken
          ]),
          low,
          omega (arith, high, one, one_o),
        )

  pub ack_comes : MayComeAck m Server (heard whole) n → MayComeAck o Server (heard part) n
  ack_comes may = record {
    sender = subst (λ s. Server ≡ sender_of s) side may.sender;
    zero = λ is. absurd (omega (arith, is, two));
    sent = λ k low up. sent_below o wire_o Server (heard part) heard_part n k (near.used (Data n) (omega arith) (may.sent n (omega (arith, two)) (omega arith))) low up;
  }

  -- ---- on a write

  pub block_comes : MayComeData m wire Server (heard whole) n → MayComeData o wire_o Server (heard part) n
  block_comes may =
      let w = may.in_window in
      let high = w.2 in
      let sent : HasSent (heard part) (Ack w.0) = elim w.1 [
        | inl none ↦ absurd (omega (arith, none, two, high, one))
        | inr there ↦ near.used (Ack w.0) (omega (arith, high, one)) there
      ] in record {
        receiver = subst (λ s. Server ≡ receiver_of s) side may.receiver;
        from_one = may.from_one;
        in_wire = within may.in_wire;
        started = took_data o wire_o Server 1 (heard part) heard_part (acked_taken o wire_o (heard part) heard_part w.0 1 sent (omega arith) (omega (arith, two, high, one)));
        in_window = (w.0, inr sent, omega (arith, high, one, one_o));
      }

  pub ack_goes : MaySendAck m Server whole n → MaySendAck o Server part n
  ack_goes may = record {
    receiver = subst (λ s. Server ≡ receiver_of s) side may.receiver;
    no_error = λ code text at. may.no_error code text (near.errors code text at);
    zero = λ is. absurd (omega (arith, is, two));
    taken = λ k low up. elim (cases_eq k n) [
      | inl is ↦ subst (λ i. HasTaken part (Data i)) (sym is) top
      | inr other ↦ below k low up other
    ];
  } where
    top : HasTaken part (Data n)
    top = near.took (Data n) (omega arith) (may.taken n (omega (arith, two)) (omega arith))

    below : (k : ℕ) → 1 ≤ k → k ≤ n → (k ≡ n → ⊥) → HasTaken part (Data k)
    below k low up other =
        let (before, come, kept) = took_moment o wire_o Server part own (Data n) top in
        let w = come.in_window in
        let high = w.2 in
        elim w.1 [
          | inl none ↦ absurd (omega (arith, none, two, high, one_o))
          | inr there ↦ acked_taken o wire_o part own w.0 k (kept (Sent (Ack w.0)) (heard_done before (Sent (Ack w.0)) there)) low (omega (arith, up, other, high, one_o))
        ]
