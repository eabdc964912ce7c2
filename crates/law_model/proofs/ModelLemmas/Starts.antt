-- How a transfer begins: the request, what answers it, and the first block.
use Rattle.std.proofs.Common.{◌≡◌, ℕ, ◌+◌, ◌-◌, ◌<◌, ◌≤◌, ◌⊎◌, List, zero, suc, inl, inr, refl, sym, subst, arith}
use Rattle.tftp_packet.specs.{Side, Get, Put, End, Client, Server}
use Rattle.law_model.specs.Model.{Meaning, SomethingAgreed, NothingAgreed, windowsize_of, Sent, Took, MachinePacket, Req, Oack, Data, Ack, Error, History, HasSent, HasTaken, IsAcknowledged, IsStarted, IsStartedOn, MayAckZero, MayAckZeroOn, Step, view_of, IsRun, SenderSent, SenderTook, ReceiverSent, ReceiverTook}
use Rattle.law_model.specs.Model.Machines.{sender_of, receiver_of}
use Rattle.law_model.proofs.ModelLemmas.Moments.{moment, taken_was_sent}
use Rattle.law_model.proofs.ModelLemmas.Blocks.{block_in_window, block_of_sender, ack_of_receiver}

-- every packet that was taken stays taken
abbrev Keeps : History → History → Type 0
Keeps before after = (p : MachinePacket) → HasTaken before p → HasTaken after p

started_kept : (side : Side) (m : Meaning) (before after : History) → Keeps before after → IsStartedOn side m before → IsStartedOn side m after
started_kept Get m before after keeps started = elim started [ inl plain ↦ inl (plain.0, keeps Req plain.1) | inr oacked ↦ inr (oacked.0, keeps (Ack 0) oacked.1) ]
started_kept Put m before after keeps started = elim started [ inl plain ↦ inl (plain.0, keeps (Ack 0) plain.1) | inr oacked ↦ inr (oacked.0, keeps Oack oacked.1) ]

zero_kept : (side : Side) (m : Meaning) (before after : History) → Keeps before after → MayAckZeroOn side m before → MayAckZeroOn side m after
zero_kept Get m before after keeps may = (may.0, keeps Oack may.1)
zero_kept Put m before after keeps may = elim may [ inl plain ↦ inl (plain.0, keeps Req plain.1) | inr oacked ↦ inr (oacked.0, oacked.1, keeps (Data oacked.1) oacked.2) ]

pub oack_answers : (m : Meaning) (wire : List ℕ) (steps : List Step) → IsRun m wire steps → (e : End) → HasSent (view_of e steps) Oack → (e ≡ Server) × SomethingAgreed m × HasTaken (view_of e steps) Req
oack_answers m wire steps run e at =
    let past = moment m wire steps e (Sent Oack) run at in
    (past.allowed.server, past.allowed.agreed, past.kept e (Took Req) past.allowed.asked)

pub data_started : (m : Meaning) (wire : List ℕ) (steps : List Step) → IsRun m wire steps → (e : End) (k : ℕ) → HasSent (view_of e steps) (Data k) → IsStarted m (view_of e steps)
data_started m wire steps run e k at =
    let past = moment m wire steps e (Sent (Data k)) run at in
    started_kept m.side m (view_of e past.earlier) (view_of e steps) (λ p. past.kept e (Took p)) past.allowed.started

pub zero_answers : (m : Meaning) (wire : List ℕ) (steps : List Step) → IsRun m wire steps → (e : End) → HasSent (view_of e steps) (Ack 0) → MayAckZero m (view_of e steps)
zero_answers m wire steps run e at =
    let past = moment m wire steps e (Sent (Ack 0)) run at in
    zero_kept m.side m (view_of e past.earlier) (view_of e steps) (λ p. past.kept e (Took p)) (past.allowed.zero refl)

pub step_by_step : (m : Meaning) (wire : List ℕ) (steps : List Step) → IsRun m wire steps → (k : ℕ) → windowsize_of m ≡ 1 → SenderSent m steps (Data k) → IsAcknowledged (view_of (sender_of m.side) steps) (k - 1)
step_by_step m wire steps run k one at =
    let w = block_in_window m wire steps run k at in
    let low : w.0 < k = w.2 in
    let high : k ≤ w.0 + windowsize_of m = w.3 in
    let next : w.0 ≡ k - 1 = omega arith in
    subst (IsAcknowledged (view_of (sender_of m.side) steps)) next w.1

-- a read with options: the server took ACK 0, which answers an OACK
pub read_agreed : (m : Meaning) (wire : List ℕ) (steps : List Step) → IsRun m wire steps → m.side ≡ Get → SomethingAgreed m → (k : ℕ) → HasSent (view_of Server steps) (Data k) → HasSent (view_of Client steps) (Ack 0) × HasTaken (view_of Client steps) Oack
read_agreed m wire steps run get some k at =
    let started : IsStartedOn Get m (view_of Server steps) = subst (λ side. IsStartedOn side m (view_of Server steps)) get (data_started m wire steps run Server k at) in
    let took : HasTaken (view_of Server steps) (Ack 0) = elim started [ inl plain ↦ absurd (some plain.0) | inr oacked ↦ oacked.1 ] in
    let sent = taken_was_sent m wire steps run Server (Ack 0) took in
    let may : MayAckZeroOn Get m (view_of Client steps) = subst (λ side. MayAckZeroOn side m (view_of Client steps)) get (zero_answers m wire steps run Client sent) in
    (sent, may.1)

pub write_agreed : (m : Meaning) (wire : List ℕ) (steps : List Step) → IsRun m wire steps → m.side ≡ Put → SomethingAgreed m → (k : ℕ) → HasSent (view_of Client steps) (Data k) → HasTaken (view_of Client steps) Oack
write_agreed m wire steps run put some k at =
    let started : IsStartedOn Put m (view_of Client steps) = subst (λ side. IsStartedOn side m (view_of Client steps)) put (data_started m wire steps run Client k at) in
    elim started [ inl plain ↦ absurd (some plain.0) | inr oacked ↦ oacked.1 ]

pub write_plain : (m : Meaning) (wire : List ℕ) (steps : List Step) → IsRun m wire steps → m.side ≡ Put → NothingAgreed m → (k : ℕ) → HasSent (view_of Client steps) (Data k) → HasTaken (view_of Client steps) (Ack 0)
write_plain m wire steps run put none k at =
    let started : IsStartedOn Put m (view_of Client steps) = subst (λ side. IsStartedOn side m (view_of Client steps)) put (data_started m wire steps run Client k at) in
    elim started [ inl plain ↦ plain.1 | inr oacked ↦ absurd (oacked.0 none) ]

-- the request was sent
abbrev Asked : List Step → Type 0
Asked steps = HasSent (view_of Client steps) Req

asked_by_req : (m : Meaning) (wire : List ℕ) (steps : List Step) → IsRun m wire steps → HasTaken (view_of Server steps) Req → Asked steps
asked_by_req m wire steps run took = taken_was_sent m wire steps run Server Req took

asked_by_oack : (m : Meaning) (wire : List ℕ) (steps : List Step) → IsRun m wire steps → HasTaken (view_of Client steps) Oack → Asked steps
asked_by_oack m wire steps run took = asked_by_req m wire steps run (oack_answers m wire steps run Server (taken_was_sent m wire steps run Client Oack took)).2

-- the client's first block on a write
asked_by_start : (m : Meaning) (wire : List ℕ) (steps : List Step) → IsRun m wire steps → m.side ≡ Put → IsStartedOn Put m (view_of Client steps) → Asked steps
asked_by_start m wire steps run put started = elim started [
  | inl plain ↦
      let sent = taken_was_sent m wire steps run Client (Ack 0) plain.1 in
      let may : MayAckZeroOn Put m (view_of Server steps) = subst (λ side. MayAckZeroOn side m (view_of Server steps)) put (zero_answers m wire steps run Server sent) in
      elim may [ inl asked ↦ asked_by_req m wire steps run asked.1 | inr oacked ↦ absurd (oacked.0 plain.0) ]
  | inr oacked ↦ asked_by_oack m wire steps run oacked.1
]

asked_by_block : (m : Meaning) (wire : List ℕ) (steps : List Step) → IsRun m wire steps → m.side ≡ Put → (k : ℕ) → HasTaken (view_of Server steps) (Data k) → Asked steps
asked_by_block m wire steps run put k took =
    let sent = taken_was_sent m wire steps run Server (Data k) took in
    asked_by_start m wire steps run put (subst (λ side. IsStartedOn side m (view_of Client steps)) put (data_started m wire steps run Client k sent))

server_is_sender : (side : Side) → Server ≡ sender_of side → side ≡ Get
server_is_sender Get e = refl
server_is_sender Put e = absurd (cc)

server_is_receiver : (side : Side) → Server ≡ receiver_of side → side ≡ Put
server_is_receiver Get e = absurd (cc)
server_is_receiver Put e = refl

asked_by_data : (m : Meaning) (wire : List ℕ) (steps : List Step) → IsRun m wire steps → m.side ≡ Get → IsStartedOn Get m (view_of Server steps) → Asked steps
asked_by_data m wire steps run get started = elim started [
  | inl plain ↦ asked_by_req m wire steps run plain.1
  | inr oacked ↦
      let sent = taken_was_sent m wire steps run Server (Ack 0) oacked.1 in
      let may : MayAckZeroOn Get m (view_of Client steps) = subst (λ side. MayAckZeroOn side m (view_of Client steps)) get (zero_answers m wire steps run Client sent) in
      asked_by_oack m wire steps run may.1
]

asked_by_ack : (m : Meaning) (wire : List ℕ) (steps : List Step) → IsRun m wire steps → m.side ≡ Put → (j : ℕ) → HasSent (view_of Server steps) (Ack j) → Asked steps
asked_by_ack m wire steps run put zero at =
    let may : MayAckZeroOn Put m (view_of Server steps) = subst (λ side. MayAckZeroOn side m (view_of Server steps)) put (zero_answers m wire steps run Server at) in
    elim may [ inl asked ↦ asked_by_req m wire steps run asked.1 | inr oacked ↦ asked_by_block m wire steps run put oacked.1 oacked.2 ]
asked_by_ack m wire steps run put (suc j) at =
    let past = moment m wire steps Server (Sent (Ack (suc j))) run at in
    let took = past.kept Server (Took (Data 1)) (past.allowed.taken 1 (omega arith) (omega arith)) in
    asked_by_block m wire steps run put 1 took

pub asked_first : (m : Meaning) (wire : List ℕ) (steps : List Step) → IsRun m wire steps → (p : MachinePacket) → HasSent (view_of Server steps) p → Asked steps
asked_first m wire steps run Req at = let e = (moment m wire steps Server (Sent Req) run at).allowed.client in absurd (cc)
asked_first m wire steps run Oack at = asked_by_req m wire steps run (oack_answers m wire steps run Server at).2
asked_first m wire steps run (Data k) at =
    let get = server_is_sender m.side (block_of_sender m wire steps run Server k at).0 in
    asked_by_data m wire steps run get (subst (λ side. IsStartedOn side m (view_of Server steps)) get (data_started m wire steps run Server k at))
asked_first m wire steps run (Ack j) at = asked_by_ack m wire steps run (server_is_receiver m.side (ack_of_receiver m wire steps run Server j at)) j at
asked_first m wire steps run (Error code text) at =
    let past = moment m wire steps Server (Sent (Error code text)) run at in
    asked_by_req m wire steps run (past.kept Server (Took Req) (past.allowed.was_asked refl))

-- the client sends no more than requests and an ERROR before something has come
abbrev Came : List Step → Type 0
Came steps = (q : MachinePacket) × HasTaken (view_of Client steps) q

started_came : (side : Side) (m : Meaning) (steps : List Step) → Client ≡ sender_of side → IsStartedOn side m (view_of Client steps) → Came steps
started_came Get m steps client started = absurd (cc)
started_came Put m steps client started = elim started [ inl plain ↦ (Ack 0, plain.1) | inr oacked ↦ (Oack, oacked.1) ]

zero_came : (side : Side) (m : Meaning) (steps : List Step) → Client ≡ receiver_of side → MayAckZeroOn side m (view_of Client steps) → Came steps
zero_came Get m steps client may = (Oack, may.1)
zero_came Put m steps client may = absurd (cc)

ack_came : (m : Meaning) (wire : List ℕ) (steps : List Step) → IsRun m wire steps → (j : ℕ) → HasSent (view_of Client steps) (Ack j) → Came steps
ack_came m wire steps run zero at = zero_came m.side m steps (ack_of_receiver m wire steps run Client 0 at) (zero_answers m wire steps run Client at)
ack_came m wire steps run (suc j) at =
    let past = moment m wire steps Client (Sent (Ack (suc j))) run at in
    (Data 1, past.kept Client (Took (Data 1)) (past.allowed.taken 1 (omega arith) (omega arith)))

pub only_requests_first : (m : Meaning) (wire : List ℕ) (steps : List Step) → IsRun m wire steps → (p : MachinePacket) → HasSent (view_of Client steps) p → (p ≡ Req) ⊎ ((code : ℕ) × (text : List ℕ) × (p ≡ Error code text)) ⊎ Came steps
only_requests_first m wire steps run Req at = inl refl
only_requests_first m wire steps run Oack at = let e = (moment m wire steps Client (Sent Oack) run at).allowed.server in absurd (cc)
only_requests_first m wire steps run (Data k) at = inr (inr (started_came m.side m steps (block_of_sender m wire steps run Client k at).0 (data_started m wire steps run Client k at)))
only_requests_first m wire steps run (Ack j) at = inr (inr (ack_came m wire steps run j at))
only_requests_first m wire steps run (Error code text) at = inr (inl (code, text, refl))

-- nothing goes before the request
pub client_asked_first : (m : Meaning) (wire : List ℕ) (steps : List Step) → IsRun m wire steps → (p : MachinePacket) → HasSent (view_of Client steps) p → Asked steps
client_asked_first m wire steps run p at = elim (only_requests_first m wire steps run p at) [
  | inl asks ↦ subst (HasSent (view_of Client steps)) asks at
  | inr later ↦ elim later [
    | inl stops ↦
        let past = moment m wire steps Client (Sent (Error stops.0 stops.1)) run (subst (HasSent (view_of Client steps)) stops.2 at) in
        past.kept Client (Sent Req) (past.allowed.asked refl)
    | inr came ↦ asked_first m wire steps run came.0 (taken_was_sent m wire steps run Client came.0 came.1)
  ]
]

-- the same by the roles of the ends
pub read_follows : (m : Meaning) (wire : List ℕ) (steps : List Step) → IsRun m wire steps → (k : ℕ) → m.side ≡ Get → SomethingAgreed m → SenderSent m steps (Data k) → ReceiverSent m steps (Ack 0) × ReceiverTook m steps Oack
read_follows m wire steps run k get some at =
    let server : HasSent (view_of Server steps) (Data k) = subst (λ side. HasSent (view_of (sender_of side) steps) (Data k)) get at in
    let both = read_agreed m wire steps run get some k server in
    (subst (λ side. HasSent (view_of (receiver_of side) steps) (Ack 0)) (sym get) both.0, subst (λ side. HasTaken (view_of (receiver_of side) steps) Oack) (sym get) both.1)

pub write_follows : (m : Meaning) (wire : List ℕ) (steps : List Step) → IsRun m wire steps → (k : ℕ) → m.side ≡ Put → SomethingAgreed m → SenderSent m steps (Data k) → SenderTook m steps Oack
write_follows m wire steps run k put some at =
    let client : HasSent (view_of Client steps) (Data k) = subst (λ side. HasSent (view_of (sender_of side) steps) (Data k)) put at in
    subst (λ side. HasTaken (view_of (sender_of side) steps) Oack) (sym put) (write_agreed m wire steps run put some k client)

pub plain_write_follows : (m : Meaning) (wire : List ℕ) (steps : List Step) → IsRun m wire steps → (k : ℕ) → m.side ≡ Put → NothingAgreed m → SenderSent m steps (Data k) → SenderTook m steps (Ack 0)
plain_write_follows m wire steps run k put none at =
    let client : HasSent (view_of Client steps) (Data k) = subst (λ side. HasSent (view_of (sender_of side) steps) (Data k)) put at in
    subst (λ side. HasTaken (view_of (sender_of side) steps) (Ack 0)) (sym put) (write_plain m wire steps run put none k client)
