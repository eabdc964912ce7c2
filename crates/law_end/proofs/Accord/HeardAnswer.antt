-- A server that had sent anything when an ERROR came had sent its answer, or never sends it.
use Rattle.std.proofs.Common.{◌≡◌, ◌⊎◌, ℕ, zero, suc, false, List, [], ◌∷◌, Contains, inl, inr, refl, sym, subst, arith}
use Rattle.tftp_packet.specs.{Side, Get, Put, End, Client, Server}
use Rattle.law_model.specs.Model.{Meaning, NothingAgreed, SomethingAgreed, MachinePacket, Req, Oack, Data, Ack, Error, Deed, Sent, Took, History, HasSent, HasTaken, IsStartedOn, MayAckZeroOn, MaySend, is_error, heard, LetsStartOn, LetsAckZeroOn, IsOneSided}
use Rattle.law_model.specs.Model.Machines.{sender_of, receiver_of}
use Rattle.law_model.proofs.ModelLemmas.Stops.{either, heard_all, heard_stopped, heard_done, lawful_tail}
use Rattle.law_model.proofs.ModelLemmas.Members.{contains_later, contains_cases, contains_none}
use Rattle.law_model.proofs.ModelLemmas.Cut.{sends_before_error}
use Rattle.law_end.proofs.Accord.FirstReply.{sent_data, took_data, sent_zero, took_zero}

pub heard_own : (m : Meaning) (wire : List ℕ) (e : End) (h : History) → IsOneSided m wire e h → IsOneSided m wire e (heard h)
heard_own m wire e [] own = tt
heard_own m wire e (d ∷ h) own = elim (either (d ∷ h)) [
  | inl over ↦ subst (IsOneSided m wire e) (sym (heard_stopped d h over)) (heard_own m wire e h (lawful_tail m wire e d h own))
  | inr going ↦ subst (IsOneSided m wire e) (sym (heard_all (d ∷ h) going)) own
]

-- what an end sends that has sent an ERROR, it had sent before
sent_before : (m : Meaning) (wire : List ℕ) (e : End) (h : History) → IsOneSided m wire e h → (code : ℕ) (text : List ℕ) → HasSent (heard h) (Error code text) → (p : MachinePacket) → is_error p ≡ false → HasSent h p → HasSent (heard h) p
sent_before m wire e [] own code text stop p plain at = absurd (contains_none (Sent p) at)
sent_before m wire e (d ∷ h) own code text stop p plain at = elim (either (d ∷ h)) [
  | inl over ↦
      let stop_before : HasSent (heard h) (Error code text) = subst (λ v. HasSent v (Error code text)) (heard_stopped d h over) stop in
      subst (λ v. HasSent v p) (sym (heard_stopped d h over)) (elim (contains_cases d h (Sent p) at) [
        | inl same ↦ absurd (sends_before_error m wire e h p plain (subst (λ x. IsOneSided m wire e (x ∷ h)) same own).0 code text (heard_done h (Sent (Error code text)) stop_before))
        | inr before ↦ sent_before m wire e h (lawful_tail m wire e d h own) code text stop_before p plain before
      ])
  | inr going ↦ subst (λ v. HasSent v p) (sym (heard_all (d ∷ h) going)) at
]

-- what an end had sent by then tells of what it was allowed
allowed : (m : Meaning) (wire : List ℕ) (e : End) (h : History) → IsOneSided m wire e h → (p : MachinePacket) → HasSent h p → (earlier : History) × MaySend m wire e earlier p × ((x : Deed) → Contains earlier x → Contains h x)
allowed m wire e [] own p at = absurd (contains_none (Sent p) at)
allowed m wire e (d ∷ h) own p at = elim (contains_cases d h (Sent p) at) [
  | inl same ↦ (h, (subst (λ x. IsOneSided m wire e (x ∷ h)) same own).0, λ x was. contains_later d h x was)
  | inr before ↦ let a = allowed m wire e h (lawful_tail m wire e d h own) p before in (a.0, a.1, λ x was. contains_later d h x (a.2 x was))
]

module _ (m : Meaning) (wire : List ℕ) (h : History) (own : IsOneSided m wire Server h) where
  past : IsOneSided m wire Server (heard h)
  past = heard_own m wire Server h own

  took_block : m.side ≡ Put → (k : ℕ) → HasTaken (heard h) (Data k) → LetsStartOn Put m (heard h)
  took_block put k at = subst (λ side. LetsStartOn side m (heard h)) put (took_data m wire Server k (heard h) past at)

  acked : m.side ≡ Put → (j : ℕ) → HasSent (heard h) (Ack j) → (j ≡ 0) ⊎ LetsStartOn Put m (heard h)
  acked put zero at = inl refl
  acked put (suc j) at =
      let a = allowed m wire Server (heard h) past (Ack (suc j)) at in
      inr (took_block put 1 (a.2 (Took (Data 1)) (a.1.taken 1 (omega arith) (omega arith))))

  -- A server that had sent anything when an ERROR came had sent the OACK, if it sends one at all.
  pub oack_heard : SomethingAgreed m → (q : MachinePacket) → HasSent (heard h) q → HasSent h Oack → HasSent (heard h) Oack
  oack_heard some Req at oack = let a = allowed m wire Server (heard h) past Req at in let e : Server ≡ Client = a.1.client in absurd (cc)
  oack_heard some Oack at oack = at
  oack_heard some (Error code text) at oack = sent_before m wire Server h own code text at Oack refl oack
  oack_heard some (Data k) at oack = by m.side refl where
    by : (side : Side) → m.side ≡ side → HasSent (heard h) Oack
    by Get get = elim (subst (λ side. IsStartedOn side m (heard h)) get (sent_data m wire Server k (heard h) past at)) [
      | inl plain ↦ absurd (some plain.0)
      | inr acked ↦ (subst (λ side. LetsAckZeroOn side m (heard h)) get (took_zero m wire Server (heard h) past acked.1)).1
    ]
    by Put put = let a = allowed m wire Server (heard h) past (Data k) at in let e : Server ≡ sender_of Put = subst (λ side. Server ≡ sender_of side) put a.1.sender in absurd (cc)
  oack_heard some (Ack j) at oack = by m.side refl where
    agreed : LetsStartOn Put m (heard h) → HasSent (heard h) Oack
    agreed s = elim s [ inl plain ↦ absurd (some plain.0) | inr answered ↦ answered.1 ]

    by : (side : Side) → m.side ≡ side → HasSent (heard h) Oack
    by Get get = let a = allowed m wire Server (heard h) past (Ack j) at in let e : Server ≡ receiver_of Get = subst (λ side. Server ≡ receiver_of side) get a.1.receiver in absurd (cc)
    by Put put = elim (acked put j at) [
      | inl none ↦ elim (subst (λ side. MayAckZeroOn side m (heard h)) put (sent_zero m wire Server (heard h) past (subst (λ i. HasSent (heard h) (Ack i)) none at))) [
        | inl plain ↦ absurd (some plain.0)
        | inr block ↦ agreed (took_block put block.1 block.2)
      ]
      | inr started ↦ agreed started
    ]

  -- and on a write without options its ACK 0
  pub zero_heard : NothingAgreed m → m.side ≡ Put → (q : MachinePacket) → HasSent (heard h) q → HasSent h (Ack 0) → HasSent (heard h) (Ack 0)
  zero_heard none put Req at ack = let a = allowed m wire Server (heard h) past Req at in let e : Server ≡ Client = a.1.client in absurd (cc)
  zero_heard none put Oack at ack = let a = allowed m wire Server (heard h) past Oack at in absurd (a.1.agreed none)
  zero_heard none put (Error code text) at ack = sent_before m wire Server h own code text at (Ack 0) refl ack
  zero_heard none put (Data k) at ack = let a = allowed m wire Server (heard h) past (Data k) at in let e : Server ≡ sender_of Put = subst (λ side. Server ≡ sender_of side) put a.1.sender in absurd (cc)
  zero_heard none put (Ack j) at ack = elim (acked put j at) [
    | inl same ↦ subst (λ i. HasSent (heard h) (Ack i)) same at
    | inr started ↦ elim started [ inl plain ↦ plain.1 | inr agreed ↦ absurd (agreed.0 none) ]
  ]
