-- The tests by which a route is computed: when they hold.
use Rattle.std.proofs.Common.{◌≡◌, ◌⊎◌, ℕ, Bool, true, false, List, ◌∷◌, Option, Some, None, inl, inr, refl, sym, subst, ap, ◌∙◌, ◌||◌, ◌==◌, bytes_eq}
use Rattle.std.proofs.lemmas.Bool.{false≢true, eqb-true, eq-eqb, false_from_ne_true, and_from, and_parts}
use Rattle.std.proofs.lemmas.Slice.Eq.{bytes_eq-Decides}
use Rattle.tftp_packet.specs.{Message, RequestParts, Spells, side_opcode, opcode_of, Side, Get, Put}
use Rattle.tftp_packet.specs.Hosts.{Datagram, PeerId, same_peer}
use Rattle.tftp_packet.specs.{In, Out}
use Rattle.law_model.specs.Model.{Meaning, MachinePacket, Req, Oack, Data, Ack, message_of, Error}
use Rattle.law_model.specs.Rules.{goes_out, comes_in, begins_request, begins_error, first_of, or_this}
use Rattle.law_end.specs.{Saying}
use Rattle.law_end.proofs.FirstBroken.FirstRequests.{first_stays}

-- ---- tests that hold

pub same_true : (a b : ℕ) → a ≡ b → (a == b) ≡ true
same_true a b e = eq-eqb a b e

pub out_true : (d : Datagram) → d.dir ≡ Out → goes_out d ≡ true
out_true d e = rw e refl

pub in_false : (d : Datagram) → d.dir ≡ In → goes_out d ≡ false
in_false d e = rw e refl

pub in_true : (d : Datagram) → d.dir ≡ In → comes_in d ≡ true
in_true d e = rw e refl

pub out_false : (d : Datagram) → d.dir ≡ Out → comes_in d ≡ false
out_false d e = rw e refl

pub request_begins : (payload : List ℕ) (r : RequestParts) → Spells payload (Message.Request r) → ((opcode_of payload == 1) || (opcode_of payload == 2)) ≡ true
request_begins payload r s = by r.side payload s.1.bytes where
  by : {rest : List ℕ} (side : Side) (p : List ℕ) → p ≡ 0 ∷ side_opcode side ∷ rest → ((opcode_of p == 1) || (opcode_of p == 2)) ≡ true
  by Get p is = subst (λ x. ((opcode_of x == 1) || (opcode_of x == 2)) ≡ true) (sym is) refl
  by Put p is = subst (λ x. ((opcode_of x == 1) || (opcode_of x == 2)) ≡ true) (sym is) refl

pub other_begins : (m : Meaning) (wire : List ℕ) (payload : List ℕ) (p : MachinePacket) → (p ≡ Req → ⊥) → Spells payload (message_of m wire p) → ((opcode_of payload == 1) || (opcode_of payload == 2)) ≡ false
other_begins m wire payload Req other s = absurd (other refl)
other_begins m wire payload Oack other s = subst (λ p. ((opcode_of p == 1) || (opcode_of p == 2)) ≡ false) (sym s.1.bytes) refl
other_begins m wire payload (Data k) other (b, (x, y, pair, is)) = subst (λ p. ((opcode_of p == 1) || (opcode_of p == 2)) ≡ false) (sym is) refl
other_begins m wire payload (Ack j) other (b, (x, y, pair, is)) = subst (λ p. ((opcode_of p == 1) || (opcode_of p == 2)) ≡ false) (sym is) refl
other_begins m wire payload (Error code text) other (b, (x, y, pair, string, is)) = subst (λ p. ((opcode_of p == 1) || (opcode_of p == 2)) ≡ false) (sym is) refl

pub error_begins : (d : Datagram) (code : ℕ) (text : List ℕ) → Spells d.payload (Message.Error code text) → (begins_request d ≡ false) × (begins_error d ≡ true)
error_begins d code text (b, (x, y, pair, string, is)) = (
  subst (λ p. ((opcode_of p == 1) || (opcode_of p == 2)) ≡ false) (sym is) refl,
  subst (λ p. (opcode_of p == 5) ≡ true) (sym is) refl,
)

-- ---- the first that passes a test

pub two_ways : (o : Option Datagram) → (o ≡ None) ⊎ ((x : Datagram) × (o ≡ Some x))
two_ways None = inl refl
two_ways (Some x) = inr (x, refl)

module _ (test : Datagram → Bool) where
  pub now : (d : Datagram) (ds : List Datagram) → test d ≡ true → (x : Datagram) × (first_of test (d ∷ ds) ≡ Some x)
  now d ds t = elim (two_ways (first_of test ds)) [
    | inl none ↦ (d, ap (λ o. or_this o (test d) d) none ∙ ap (λ b. or_this None b d) t)
    | inr some ↦ (some.0, first_stays test d some.0 ds some.1)
  ]

-- ---- peers: the same exactly if they are equal

pub same_is : (a b : PeerId) → a ≡ b → same_peer a b ≡ true
same_is a b e = and_from _ _ (eq-eqb a.port b.port (ap (λ (p : PeerId). p.port) e)) ((bytes_eq-Decides a.host b.host).1 (ap (λ (p : PeerId). p.host) e))

pub is_same : (a b : PeerId) → same_peer a b ≡ true → a ≡ b
is_same a b e =
    let parts = and_parts (a.port == b.port) (bytes_eq a.host b.host) e in
    let host = (bytes_eq-Decides a.host b.host).0 parts.1 in
    let port = eqb-true a.port b.port parts.0 in
    λ i. record { host = host i; port = port i }

pub apart_is : (a b : PeerId) → same_peer a b ≡ false → a ≡ b → ⊥
apart_is a b differs e = false≢true (sym differs ∙ same_is a b e)

pub other_peer : (a b : PeerId) → (a ≡ b → ⊥) → same_peer a b ≡ false
other_peer a b differs = false_from_ne_true (same_peer a b) (λ e. differs (is_same a b e))

-- ---- what begins as a request

pub record IsTold (says : Saying) : Type 0 where
  pub request : (payload : List ℕ) → says Req payload → ((opcode_of payload == 1) || (opcode_of payload == 2)) ≡ true
  pub other : (p : MachinePacket) → (p ≡ Req → ⊥) → (payload : List ℕ) → says p payload → ((opcode_of payload == 1) || (opcode_of payload == 2)) ≡ false
