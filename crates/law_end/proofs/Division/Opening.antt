-- How a one-sided history begins: with the client's request, unless an ERROR comes to a server first; and no deed in it is
-- a request of the server.
use Rattle.std.proofs.Common.{◌≡◌, ℕ, zero, suc, List, [], ◌∷◌, inl, inr, refl, subst, arith}
use Rattle.tftp_packet.specs.{Side, Get, Put, End, Client, Server}
use Rattle.law_model.specs.Model.{Meaning, MachinePacket, Req, Oack, Data, Ack, Deed, Sent, Took, History, HasSent, HasTaken, IsStartedOn, MayAckZeroOn, Error, LetsStartOn, LetsAckZeroOn, IsOneSided}
use Rattle.law_model.proofs.ModelLemmas.Members.{contains_none}
use Rattle.law_end.specs.{request_at, request_back, Starts}

-- ---- the first deed of a client

none_sent : {P : Type 0} (p : MachinePacket) → HasSent [] p → P
none_sent p at = absurd (contains_none (Sent p) at)

none_taken : {P : Type 0} (p : MachinePacket) → HasTaken [] p → P
none_taken p at = absurd (contains_none (Took p) at)

no_start : (side : Side) (m : Meaning) → IsStartedOn side m [] → ⊥
no_start Get m s = elim s [ inl x ↦ none_taken Req x.1 | inr x ↦ none_taken (Ack 0) x.1 ]
no_start Put m s = elim s [ inl x ↦ none_taken (Ack 0) x.1 | inr x ↦ none_taken Oack x.1 ]

no_lets_start : (side : Side) (m : Meaning) → LetsStartOn side m [] → ⊥
no_lets_start Get m s = elim s [ inl x ↦ none_sent Req x.1 | inr x ↦ none_sent (Ack 0) x.1 ]
no_lets_start Put m s = elim s [ inl x ↦ none_sent (Ack 0) x.1 | inr x ↦ none_sent Oack x.1 ]

no_lets_zero : (side : Side) (m : Meaning) → LetsAckZeroOn side m [] → ⊥
no_lets_zero Get m z = none_sent Oack z.1
no_lets_zero Put m z = elim z [ inl x ↦ none_sent Req x.1 | inr x ↦ none_sent (Data x.1) x.2 ]

no_zero_at_client : (side : Side) (m : Meaning) → MayAckZeroOn side m [] → ⊥
no_zero_at_client Get m z = none_taken Oack z.1
no_zero_at_client Put m z = elim z [ inl x ↦ none_taken Req x.1 | inr x ↦ none_taken (Data x.1) x.2 ]

-- a client begins with its request
pub client_first : (m : Meaning) (wire : List ℕ) (d : Deed) → IsOneSided m wire Client (d ∷ []) → d ≡ Sent Req
client_first m wire (Sent Req) may = refl
client_first m wire (Sent Oack) may = none_taken Req may.0.asked
client_first m wire (Sent (Data k)) may = absurd (no_start m.side m may.0.started)
client_first m wire (Sent (Ack zero)) may = absurd (no_zero_at_client m.side m (may.0.zero refl))
client_first m wire (Sent (Ack (suc j))) may = none_taken (Data 1) (may.0.taken 1 (omega arith) (omega arith))
client_first m wire (Took Req) may = let e : Client ≡ Server = may.0 in absurd (cc)
client_first m wire (Took Oack) may = none_sent Req may.0.asked
client_first m wire (Took (Data k)) may = absurd (no_lets_start m.side m may.0.started)
client_first m wire (Took (Ack zero)) may = absurd (no_lets_zero m.side m (may.0.zero refl))
client_first m wire (Took (Ack (suc j))) may = none_sent (Data 1) (may.0.sent 1 (omega arith) (omega arith))
client_first m wire (Sent (Error code text)) may = none_sent Req (may.0.asked refl)
client_first m wire (Took (Error code text)) may = none_sent Req (may.0.asked refl)

-- a server begins by taking one, unless an ERROR comes first
pub server_first : (m : Meaning) (wire : List ℕ) (d : Deed) → IsOneSided m wire Server (d ∷ []) → ((code : ℕ) (text : List ℕ) → d ≡ Took (Error code text) → ⊥) → d ≡ Took Req
server_first m wire (Took Req) may none = refl
server_first m wire (Sent Req) may none = let e : Server ≡ Client = may.0.client in absurd (cc)
server_first m wire (Sent Oack) may none = none_taken Req may.0.asked
server_first m wire (Sent (Data k)) may none = absurd (no_start m.side m may.0.started)
server_first m wire (Sent (Ack zero)) may none = absurd (no_zero_at_client m.side m (may.0.zero refl))
server_first m wire (Sent (Ack (suc j))) may none = none_taken (Data 1) (may.0.taken 1 (omega arith) (omega arith))
server_first m wire (Took Oack) may none = let e : Server ≡ Client = may.0.client in absurd (cc)
server_first m wire (Took (Data k)) may none = absurd (no_lets_start m.side m may.0.started)
server_first m wire (Took (Ack zero)) may none = absurd (no_lets_zero m.side m (may.0.zero refl))
server_first m wire (Took (Ack (suc j))) may none = none_sent (Data 1) (may.0.sent 1 (omega arith) (omega arith))
server_first m wire (Sent (Error code text)) may none = none_taken Req (may.0.was_asked refl)
server_first m wire (Took (Error code text)) may none = absurd (none code text refl)

-- ---- a one-sided history starts so

-- no ERROR comes first
abbrev pub NoErrorFirst : History → Type 0
NoErrorFirst [] = Unit {0}
NoErrorFirst (deed ∷ v) = (v ≡ [] → (code : ℕ) (text : List ℕ) → deed ≡ Took (Error code text) → ⊥) × NoErrorFirst v

one_starts : (m : Meaning) (wire : List ℕ) (e : End) (deed : Deed) → IsOneSided m wire e (deed ∷ []) → (e ≡ Server → (code : ℕ) (text : List ℕ) → deed ≡ Took (Error code text) → ⊥) → deed ≡ request_at e
one_starts m wire Client deed own none = client_first m wire deed own
one_starts m wire Server deed own none = server_first m wire deed own (none refl)

pub none_back : (m : Meaning) (wire : List ℕ) (e : End) (v : History) → IsOneSided m wire e (request_back e ∷ v) → ⊥
none_back m wire Client v own = let e : Client ≡ Server = own.0 in cc
none_back m wire Server v own = let e : Server ≡ Client = own.0.client in cc

own_tail : (m : Meaning) (wire : List ℕ) (e : End) (deed : Deed) (v : History) → IsOneSided m wire e (deed ∷ v) → IsOneSided m wire e v
own_tail m wire e (Sent p) v own = own.1
own_tail m wire e (Took p) v own = own.1

-- so a one-sided history starts with the client's request, where no ERROR comes to a server first
pub one_sided_starts : (m : Meaning) (wire : List ℕ) (e : End) (v : History) → IsOneSided m wire e v → (e ≡ Server → NoErrorFirst v) → Starts e v
one_sided_starts m wire e [] own none = tt
one_sided_starts m wire e (deed ∷ v) own none = (
  record {
    first = λ is. one_starts m wire e deed (subst (λ x. IsOneSided m wire e (deed ∷ x)) is own) (λ server. (none server).0 is);
    not_back = λ is. none_back m wire e v (subst (λ x. IsOneSided m wire e (x ∷ v)) is own);
  },
  one_sided_starts m wire e v (own_tail m wire e deed v own) (λ server. (none server).1),
)
