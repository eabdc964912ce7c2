-- Which end sends which kind of message.
use Rattle.std.proofs.Common.{◌≡◌, ℕ, List, refl, sym, ◌∙◌}
use Rattle.tftp_packet.specs.{OptionMap, Message, RequestParts, Side, Get, Put, End, Client, Server}
use Rattle.tftp_packet.specs.{In, Out}
use Rattle.law_model.specs.Model.Roles.{sender_of, receiver_of}
use Rattle.law_model.specs.Rules.{author_of}
use Rattle.law_end.specs.{IsWrongKind}

-- ---- who sends what

pub data_out_who : (e : End) (side : Side) (k : ℕ) (bytes : List ℕ) → (IsWrongKind (author_of e Out) side (Message.Data k bytes) → ⊥) → e ≡ sender_of side
data_out_who Client Put k bytes right = refl
data_out_who Server Get k bytes right = refl
data_out_who _ _ k bytes right = absurd (right tt)

pub data_in_who : (e : End) (side : Side) (k : ℕ) (bytes : List ℕ) → (IsWrongKind (author_of e In) side (Message.Data k bytes) → ⊥) → e ≡ receiver_of side
data_in_who Client Put k bytes right = absurd (right tt)
data_in_who Server Get k bytes right = absurd (right tt)
data_in_who _ _ k bytes right = refl

pub ack_out_who : (e : End) (side : Side) (j : ℕ) → (IsWrongKind (author_of e Out) side (Message.Ack j) → ⊥) → e ≡ receiver_of side
ack_out_who Client Put j right = absurd (right tt)
ack_out_who Server Get j right = absurd (right tt)
ack_out_who _ _ j right = refl

pub ack_in_who : (e : End) (side : Side) (j : ℕ) → (IsWrongKind (author_of e In) side (Message.Ack j) → ⊥) → e ≡ sender_of side
ack_in_who Client Put j right = refl
ack_in_who Server Get j right = refl
ack_in_who _ _ j right = absurd (right tt)

pub oack_out_who : (e : End) (side : Side) (o : OptionMap) → (IsWrongKind (author_of e Out) side (Message.Oack o) → ⊥) → e ≡ Server
oack_out_who Client Get o right = absurd (right tt)
oack_out_who Client Put o right = absurd (right tt)
oack_out_who Server side o right = refl

pub oack_in_who : (e : End) (side : Side) (o : OptionMap) → (IsWrongKind (author_of e In) side (Message.Oack o) → ⊥) → e ≡ Client
oack_in_who Client side o right = refl
oack_in_who Server Get o right = absurd (right tt)
oack_in_who Server Put o right = absurd (right tt)

pub request_out_who : (e : End) (side : Side) (r : RequestParts) → (IsWrongKind (author_of e Out) side (Message.Request r) → ⊥) → e ≡ Client
request_out_who Client side r right = refl
request_out_who Server Get r right = absurd (right tt)
request_out_who Server Put r right = absurd (right tt)

pub request_in_who : (e : End) (side : Side) (r : RequestParts) → (IsWrongKind (author_of e In) side (Message.Request r) → ⊥) → e ≡ Server
request_in_who Client Get r right = absurd (right tt)
request_in_who Client Put r right = absurd (right tt)
request_in_who Server side r right = refl

pub two_parts : (side : Side) (e : End) → e ≡ sender_of side → e ≡ receiver_of side → ⊥
two_parts Get e one other = let both : Server ≡ Client = sym one ∙ other in cc
two_parts Put e one other = let both : Client ≡ Server = sym one ∙ other in cc

pub two_ends : (e : End) → e ≡ Client → e ≡ Server → ⊥
two_ends e one other = let both : Client ≡ Server = sym one ∙ other in cc

-- ---- what an end sends is of no wrong kind

pub request_kind : (side : Side) (r : RequestParts) → IsWrongKind Client side (Message.Request r) → ⊥
request_kind Get r wrong = wrong
request_kind Put r wrong = wrong

pub oack_kind : (side : Side) (o : OptionMap) → IsWrongKind Server side (Message.Oack o) → ⊥
oack_kind Get o wrong = wrong
oack_kind Put o wrong = wrong

pub data_kind_out : (side : Side) (k : ℕ) (bytes : List ℕ) → IsWrongKind (author_of (sender_of side) Out) side (Message.Data k bytes) → ⊥
data_kind_out Get k bytes wrong = wrong
data_kind_out Put k bytes wrong = wrong

pub data_kind_in : (side : Side) (k : ℕ) (bytes : List ℕ) → IsWrongKind (author_of (receiver_of side) In) side (Message.Data k bytes) → ⊥
data_kind_in Get k bytes wrong = wrong
data_kind_in Put k bytes wrong = wrong

pub ack_kind_out : (side : Side) (j : ℕ) → IsWrongKind (author_of (receiver_of side) Out) side (Message.Ack j) → ⊥
ack_kind_out Get j wrong = wrong
ack_kind_out Put j wrong = wrong

pub ack_kind_in : (side : Side) (j : ℕ) → IsWrongKind (author_of (sender_of side) In) side (Message.Ack j) → ⊥
ack_kind_in Get j wrong = wrong
ack_kind_in Put j wrong = wrong
