-- What a payload says of its number and its kind, and which end says it on which side.
use Rattle.std.proofs.Common.{◌≡◌, ℕ, ◌+◌, ◌*◌, ◌≤◌, ◌&&◌, ◌||◌, not, nat_eq, nat_le, Bool, true, false, List, [], ◌∷◌, inl, inr, refl, sym, ap, subst, ◌∙◌, arith, if◌then◌else◌}
use Rattle.std.proofs.lemmas.Bool.{false≢true, and_parts, eqb-true, leb-false, or_cases}
use Rattle.tftp_packet.specs.{Message, OptionMap, Side, Get, Put, Spells}
use Rattle.tftp_packet.specs.{Dir, In, Out}
use Rattle.audit_flows.specs.Lines.{begins_error, begins_oack, begins_request, is_ack, is_ack_0, is_block, number_of, passes_in, sends_blocks}
use Rattle.audit_flows.specs.Lines.Recording.{is_answer, is_data_1}
use Rattle.audit_flows.proofs.LinesLemmas.Lines.{by_test}

-- ---- payloads

-- a payload's number is this, which two bytes hold
abbrev pub IsNumber : List ℕ → ℕ → Type 0
IsNumber payload n = (number_of payload ≡ n) × (n ≤ 65535)

pub block_told : (payload : List ℕ) (k : ℕ) (bytes : List ℕ) → Spells payload (Message.Data k bytes) → 1 ≤ k → (is_block payload ≡ true) × (number_of payload ≡ k)
block_told payload k bytes (b, (x, y, place, is)) low =
    let whole = place.1 in
    let some : nat_le 1 (256 * x + y) ≡ true = by_test (nat_le 1 (256 * x + y)) (λ t. t) (λ off. let less = leb-false 1 (256 * x + y) off in absurd (omega (arith, less, whole, low))) in (
      subst (λ p. is_block p ≡ true) (sym is) some,
      subst (λ p. number_of p ≡ k) (sym is) (ap (λ b. if b || false then 256 * x + y else 0) some ∙ sym whole),
    )

pub ack_told : (payload : List ℕ) (j : ℕ) → Spells payload (Message.Ack j) → (is_block payload ≡ false) × (is_ack payload ≡ true) × (number_of payload ≡ j)
ack_told payload j (b, (x, y, place, is)) =
    let whole = place.1 in (
      subst (λ p. is_block p ≡ false) (sym is) refl,
      subst (λ p. is_ack p ≡ true) (sym is) refl,
      subst (λ p. number_of p ≡ j) (sym is) (sym whole),
    )

pub passes_block : (w e : Bool) (p : List ℕ) → is_block p ≡ true → sends_blocks w e ≡ true → passes_in w e p ≡ true
passes_block w e p a b = λ i. (a i && b i) || (is_ack p && not (b i)) || (begins_oack p && not e) || begins_error p

pub passes_ack : (w e : Bool) (p : List ℕ) → is_block p ≡ false → is_ack p ≡ true → sends_blocks w e ≡ false → passes_in w e p ≡ true
passes_ack w e p a b d = λ i. (a i && d i) || (b i && not (d i)) || (begins_oack p && not e) || begins_error p

pub error_told : (payload : List ℕ) (code : ℕ) (text : List ℕ) → Spells payload (Message.Error code text) → ((w e : Bool) → passes_in w e payload ≡ true) × IsNumber payload 0
error_told payload code text (b, (x, y, pair, string, is)) = (
  (λ w e. subst (λ p. passes_in w e p ≡ true) (sym is) refl),
  (subst (λ p. number_of p ≡ 0) (sym is) refl, omega arith),
)

pub oack_told : (payload : List ℕ) (options : OptionMap) → Spells payload (Message.Oack options) → ((w : Bool) → passes_in w false payload ≡ true) × IsNumber payload 0
oack_told payload options says = (
  (λ w. subst (λ p. passes_in w false p ≡ true) (sym says.1.bytes) refl),
  (subst (λ p. number_of p ≡ 0) (sym says.1.bytes) refl, omega arith),
)

-- a block that answers is DATA 1, and an ACK that does is ACK 0
pub answers_block : (payload : List ℕ) (k : ℕ) (bytes : List ℕ) → Spells payload (Message.Data k bytes) → is_answer payload ≡ true → (k ≡ 1) × (is_data_1 payload ≡ true)
answers_block payload k bytes (b, (x, y, place, e)) is =
    let first : (nat_eq 0 x && (nat_eq 1 y && true)) ≡ true = subst (λ l. is_answer l ≡ true) e is in
    let parts = and_parts (nat_eq 0 x) (nat_eq 1 y && true) first in
    let more = and_parts (nat_eq 1 y) true parts.1 in
    let left : 0 ≡ x = eqb-true 0 x parts.0 in
    let right : 1 ≡ y = eqb-true 1 y more.0 in
    let whole = place.1 in
    (omega (arith, left, right, whole), subst (λ l. is_data_1 l ≡ true) (sym e) first)

pub answers_ack : (payload : List ℕ) (j : ℕ) → Spells payload (Message.Ack j) → is_answer payload ≡ true → j ≡ 0
answers_ack payload j (b, (x, y, place, e)) is =
    let either : ((nat_eq x 0 && (nat_eq y 0 && true)) || false) ≡ true = subst (λ l. is_answer l ≡ true) e is in
    elim (or_cases (nat_eq x 0 && (nat_eq y 0 && true)) false either) [
      | inl first ↦
          let parts = and_parts (nat_eq x 0) (nat_eq y 0 && true) first in
          let more = and_parts (nat_eq y 0) true parts.1 in
          let left : x ≡ 0 = eqb-true x 0 parts.0 in
          let right : y ≡ 0 = eqb-true y 0 more.0 in
          let whole = place.1 in
          omega (arith, left, right, whole)
      | inr none ↦ absurd (false≢true none)
    ]

pub zero_acks : (payload : List ℕ) → Spells payload (Message.Ack 0) → is_ack_0 payload ≡ true
zero_acks payload (b, (x, y, place, e)) =
    let whole = place.1 in
    let left : x ≡ 0 = omega (arith, whole) in
    let right : y ≡ 0 = omega (arith, whole) in
    subst (λ l. is_ack_0 l ≡ true) (sym (e ∙ (λ i. 0 ∷ 4 ∷ left i ∷ right i ∷ []))) refl

-- ---- which end says what, on which side

abbrev pub writes_of : Side → Bool
writes_of Get = false
writes_of Put = true

-- a block or an ACK that goes so on such a side
abbrev pub IsRight : Side → Dir → Message → Type 0
IsRight side In (Message.Data k bytes) = (1 ≤ k) × (side ≡ Put)
IsRight side Out (Message.Data k bytes) = (1 ≤ k) × (side ≡ Get)
IsRight side In (Message.Ack j) = side ≡ Get
IsRight side Out (Message.Ack j) = side ≡ Put
IsRight side dir _ = ⊥

pub right_plain : (side : Side) (dir : Dir) (x : Message) (payload : List ℕ) → IsRight side dir x → Spells payload x → begins_request payload ≡ false
right_plain side In (Message.Data k bytes) payload right (b, (x, y, pair, is)) = subst (λ p. begins_request p ≡ false) (sym is) refl
right_plain side Out (Message.Data k bytes) payload right (b, (x, y, pair, is)) = subst (λ p. begins_request p ≡ false) (sym is) refl
right_plain side In (Message.Ack j) payload right (b, (x, y, pair, is)) = subst (λ p. begins_request p ≡ false) (sym is) refl
right_plain side Out (Message.Ack j) payload right (b, (x, y, pair, is)) = subst (λ p. begins_request p ≡ false) (sym is) refl
right_plain side In (Message.Request r) payload right says = absurd right
right_plain side Out (Message.Request r) payload right says = absurd right
right_plain side In (Message.Error code text) payload right says = absurd right
right_plain side Out (Message.Error code text) payload right says = absurd right
right_plain side In (Message.Oack options) payload right says = absurd right
right_plain side Out (Message.Oack options) payload right says = absurd right

pub far_enough : (b : Bool) (k n : ℕ) → n ≤ 65535 → n ≤ k + 1 → n ≤ (if b then 65535 else k) + 1
far_enough true k n low near = omega (arith, low)
far_enough false k n low near = near
