-- What a payload says by numbers is what it says with blocks in their place.
use Rattle.std.proofs.Common.{ne_eqb, ◌≡◌, ◌≢◌, ℕ, ◌+◌, ◌*◌, ◌/◌, ◌%◌, ◌<◌, ◌≤◌, ◌==◌, ◌&&◌, ◌||◌, Bool, true, false, if◌then◌else◌, List, [], ◌∷◌, length, inl, inr, refl, sym, subst, ap, ◌∙◌, arith}
use Rattle.std.specs.List.{AllByRecursion}
use Rattle.tftp_packet.specs.{Message, OptionMap, RequestParts, Spells, Side, Get, Put, opcode_of, side_opcode}
use Rattle.law_model.specs.Model.{Meaning, MachinePacket, Req, Oack, Data, Ack, Error, message_of, blksize_of, block}
use Rattle.law_end.specs.{BeginsAsRequest, says_of}
use Rattle.tftp_packet.specs.{Rollover}
use Rattle.tftp_packet.specs.Rounds.{IsNear, first_of, number_of, position_of}
use Rattle.law_rollover.specs.{IsNearPacket, carries_number, says_by_number, unrolled_payload, with_place}
use Rattle.std.proofs.lemmas.Bool.{cases_eq}
use Rattle.tftp_packet.proofs.RoundsLemmas.Turns.{low_numbers}
use Rattle.tftp_packet.proofs.RoundsLemmas.Positions.{has_number, is_near, low_is_near, read_back}
use Rattle.law_rollover.proofs.Unrolling.{data_unrolled, ack_unrolled, others_stay, opcode_stays, length_stays}

-- ---- payloads without a number

no_number : (payload : List ℕ) (o : ℕ) → opcode_of payload ≡ o → ((o == 3) || ((o == 4) && (length payload == 4))) ≡ false → carries_number payload ≡ false
no_number payload o is none = ap (λ x. (x == 3) || ((x == 4) && (length payload == 4))) is ∙ none

request_opcode : (side : Side) (rest payload : List ℕ) → payload ≡ 0 ∷ side_opcode side ∷ rest → carries_number payload ≡ false
request_opcode Get rest payload is = no_number payload 1 (ap opcode_of is) refl
request_opcode Put rest payload is = no_number payload 2 (ap opcode_of is) refl

module _ (r : Rollover) (high : ℕ) where
  -- ---- the number of a block, where the payload is bytes

  data_of : (c e : ℕ) (rest : List ℕ) → AllByRecursion (λ b. b < 256) (0 ∷ 3 ∷ c ∷ e ∷ rest) → (k : ℕ) (bytes : List ℕ)
      → Spells (unrolled_payload r high (0 ∷ 3 ∷ c ∷ e ∷ rest)) (Message.Data k bytes)
      → Spells (0 ∷ 3 ∷ c ∷ e ∷ rest) (Message.Data (number_of (first_of r) k) bytes) × IsNear (first_of r) high k
  data_of c e rest all k bytes (some, (x, y, place, layout)) =
      let n = 256 * c + e in
      let j = position_of r high n in
      let is : 0 ∷ 3 ∷ j / 256 ∷ j % 256 ∷ rest ≡ 0 ∷ 3 ∷ x ∷ y ∷ bytes = layout in
      let third : j / 256 ≡ x = cc in
      let fourth : j % 256 ≡ y = cc in
      let after : rest ≡ bytes = cc in
      let low = all.1.1.0 in
      let last = all.1.1.1.0 in
      let small : n ≤ 65535 = omega (arith, low, last) in
      let whole = place.1 in
      let same : k ≡ j = omega (arith, third, fourth, whole) in (
        ((all.0, (all.1.0, (last, all.1.1.1.1))), (c, e, (last, ap (number_of (first_of r)) same ∙ has_number r high n small), ap (λ b. 0 ∷ 3 ∷ c ∷ e ∷ b) after)),
        subst (IsNear (first_of r) high) (sym same) (is_near r high n small),
      )

  data_back : (payload : List ℕ) → AllByRecursion (λ b. b < 256) payload → (k : ℕ) (bytes : List ℕ)
      → Spells (unrolled_payload r high payload) (Message.Data k bytes)
      → Spells payload (Message.Data (number_of (first_of r) k) bytes) × IsNear (first_of r) high k
  data_back [] all k bytes (some, (x, y, place, layout)) = absurd (cc)
  data_back (a ∷ []) all k bytes (some, (x, y, place, layout)) = absurd (cc)
  data_back (a ∷ b ∷ []) all k bytes (some, (x, y, place, layout)) =
      let long = ap length layout in let stays = length_stays r high (a ∷ b ∷ []) in absurd (omega (arith, long, stays))
  data_back (a ∷ b ∷ c ∷ []) all k bytes (some, (x, y, place, layout)) =
      let long = ap length layout in let stays = length_stays r high (a ∷ b ∷ c ∷ []) in absurd (omega (arith, long, stays))
  data_back (a ∷ b ∷ c ∷ e ∷ rest) all k bytes (some, (x, y, place, layout)) =
      let opcode = sym (opcode_stays r high (a ∷ b ∷ c ∷ e ∷ rest)) ∙ ap opcode_of layout in
      let low = all.1.0 in
      let first : a ≡ 0 = omega (arith, opcode, low) in
      let second : b ≡ 3 = omega (arith, opcode, first) in
      subst (λ a. AllByRecursion (λ b. b < 256) (a ∷ b ∷ c ∷ e ∷ rest) → Spells (unrolled_payload r high (a ∷ b ∷ c ∷ e ∷ rest)) (Message.Data k bytes)
      → Spells (a ∷ b ∷ c ∷ e ∷ rest) (Message.Data (number_of (first_of r) k) bytes) × IsNear (first_of r) high k) (sym first)
      (subst (λ b. AllByRecursion (λ b. b < 256) (0 ∷ b ∷ c ∷ e ∷ rest) → Spells (unrolled_payload r high (0 ∷ b ∷ c ∷ e ∷ rest)) (Message.Data k bytes)
      → Spells (0 ∷ b ∷ c ∷ e ∷ rest) (Message.Data (number_of (first_of r) k) bytes) × IsNear (first_of r) high k) (sym second)
      (λ all spells. data_of c e rest all k bytes spells)) all (some, (x, y, place, layout))

  ack_of : (c e : ℕ) → AllByRecursion (λ b. b < 256) (0 ∷ 4 ∷ c ∷ e ∷ []) → (k : ℕ)
      → Spells (unrolled_payload r high (0 ∷ 4 ∷ c ∷ e ∷ [])) (Message.Ack k)
      → Spells (0 ∷ 4 ∷ c ∷ e ∷ []) (Message.Ack (number_of (first_of r) k)) × IsNear (first_of r) high k
  ack_of c e all k (some, (x, y, place, layout)) =
      let n = 256 * c + e in
      let j = position_of r high n in
      let is : 0 ∷ 4 ∷ j / 256 ∷ j % 256 ∷ [] ≡ 0 ∷ 4 ∷ x ∷ y ∷ [] = layout in
      let third : j / 256 ≡ x = cc in
      let fourth : j % 256 ≡ y = cc in
      let low = all.1.1.0 in
      let last = all.1.1.1.0 in
      let small : n ≤ 65535 = omega (arith, low, last) in
      let whole = place.1 in
      let same : k ≡ j = omega (arith, third, fourth, whole) in (
        ((all.0, (all.1.0, (last, all.1.1.1.1))), (c, e, (last, ap (number_of (first_of r)) same ∙ has_number r high n small), refl)),
        subst (IsNear (first_of r) high) (sym same) (is_near r high n small),
      )

  ack_back : (payload : List ℕ) → AllByRecursion (λ b. b < 256) payload → (k : ℕ)
      → Spells (unrolled_payload r high payload) (Message.Ack k)
      → Spells payload (Message.Ack (number_of (first_of r) k)) × IsNear (first_of r) high k
  ack_back [] all k (some, (x, y, place, layout)) = absurd (cc)
  ack_back (a ∷ []) all k (some, (x, y, place, layout)) = absurd (cc)
  ack_back (a ∷ b ∷ []) all k (some, (x, y, place, layout)) =
      let long = ap length layout in let stays = length_stays r high (a ∷ b ∷ []) in absurd (omega (arith, long, stays))
  ack_back (a ∷ b ∷ c ∷ []) all k (some, (x, y, place, layout)) =
      let long = ap length layout in let stays = length_stays r high (a ∷ b ∷ c ∷ []) in absurd (omega (arith, long, stays))
  ack_back (a ∷ b ∷ c ∷ e ∷ f ∷ rest) all k (some, (x, y, place, layout)) =
      let long = ap length layout in let stays = length_stays r high (a ∷ b ∷ c ∷ e ∷ f ∷ rest) in absurd (omega (arith, long, stays))
  ack_back (a ∷ b ∷ c ∷ e ∷ []) all k (some, (x, y, place, layout)) =
      let opcode = sym (opcode_stays r high (a ∷ b ∷ c ∷ e ∷ [])) ∙ ap opcode_of layout in
      let low = all.1.0 in
      let first : a ≡ 0 = omega (arith, opcode, low) in
      let second : b ≡ 4 = omega (arith, opcode, first) in
      subst (λ a. AllByRecursion (λ b. b < 256) (a ∷ b ∷ c ∷ e ∷ []) → Spells (unrolled_payload r high (a ∷ b ∷ c ∷ e ∷ [])) (Message.Ack k)
      → Spells (a ∷ b ∷ c ∷ e ∷ []) (Message.Ack (number_of (first_of r) k)) × IsNear (first_of r) high k) (sym first)
      (subst (λ b. AllByRecursion (λ b. b < 256) (0 ∷ b ∷ c ∷ e ∷ []) → Spells (unrolled_payload r high (0 ∷ b ∷ c ∷ e ∷ [])) (Message.Ack k)
      → Spells (0 ∷ b ∷ c ∷ e ∷ []) (Message.Ack (number_of (first_of r) k)) × IsNear (first_of r) high k) (sym second)
      (λ all spells. ack_of c e all k spells)) all (some, (x, y, place, layout))

module _ (r : Rollover) (high : ℕ) (payload : List ℕ) where
  abbrev now : List ℕ
  now = unrolled_payload r high payload

  same : (o : ℕ) → opcode_of payload ≡ o → ((o == 3) || ((o == 4) && (length payload == 4))) ≡ false → now ≡ payload
  same o is none = others_stay r high payload (no_number payload o is none)

  back : (o : ℕ) → opcode_of now ≡ o → ((o == 3) || ((o == 4) && (length payload == 4))) ≡ false → now ≡ payload
  back o is none = same o (sym (opcode_stays r high payload) ∙ is) none

  -- a request, an OACK, and what is too short for a block or of another length than an ACK
  pub request_stays : (asked : RequestParts) → Spells payload (Message.Request asked) → now ≡ payload
  request_stays asked (all, request) = others_stay r high payload (request_opcode _ _ payload request.bytes)

  pub oack_stays : (options : OptionMap) → Spells payload (Message.Oack options) → now ≡ payload
  oack_stays options (all, oack) = same 6 (ap opcode_of oack.bytes) refl

  pub begins_back : BeginsAsRequest now → BeginsAsRequest payload
  begins_back (rest, inl is) = (rest, inl (sym (back 1 (ap opcode_of is) refl) ∙ is))
  begins_back (rest, inr is) = (rest, inr (sym (back 2 (ap opcode_of is) refl) ∙ is))

  pub begins_on : BeginsAsRequest payload → BeginsAsRequest now
  begins_on (rest, inl is) = (rest, inl (same 1 (ap opcode_of is) refl ∙ is))
  begins_on (rest, inr is) = (rest, inr (same 2 (ap opcode_of is) refl ∙ is))

  pub error_on : (code : ℕ) (text : List ℕ) → Spells payload (Message.Error code text) → Spells now (Message.Error code text)
  error_on code text (all, (x, y, pair, string, layout)) =
      subst (λ p. Spells p (Message.Error code text)) (sym (same 5 (ap opcode_of layout) refl)) (all, (x, y, pair, string, layout))

  pub error_back : (code : ℕ) (text : List ℕ) → Spells now (Message.Error code text) → Spells payload (Message.Error code text)
  error_back code text (all, (x, y, pair, string, layout)) =
      subst (λ p. Spells p (Message.Error code text)) (back 5 (ap opcode_of layout) refl) (all, (x, y, pair, string, layout))

  module _ (m : Meaning) (wire : List ℕ) where
    -- ---- from numbers to blocks

    pub says_on : (p : MachinePacket) → IsNearPacket r high p → says_by_number r m wire p payload → says_of m wire p now
    says_on Req near (all, request) =
        subst (λ p. Spells p (message_of m wire Req)) (sym (others_stay r high payload (request_opcode _ _ payload request.bytes))) (all, request)
    says_on Oack near (all, oack) =
        subst (λ p. Spells p (message_of m wire Oack)) (sym (same 6 (ap opcode_of oack.bytes) refl)) (all, oack)
    says_on (Data k) near spells =
        subst (λ j. Spells now (Message.Data j (block (blksize_of m) wire k))) (read_back r high k near)
        (data_unrolled r high (number_of (first_of r) k) (block (blksize_of m) wire k) payload spells)
    says_on (Ack j) near spells =
        subst (λ j. Spells now (Message.Ack j)) (read_back r high j near) (ack_unrolled r high (number_of (first_of r) j) payload spells)
    says_on (Error code text) near spells = error_on code text spells

    -- ---- and back, where the payload is bytes

    module _ (bytes : AllByRecursion (λ b. b < 256) payload) where
      pub says_back : (p : MachinePacket) → says_of m wire p now → says_by_number r m wire p payload × IsNearPacket r high p
      says_back Req (all, request) = (subst (λ p. Spells p (message_of m wire Req)) (by (m.side) request.bytes) (all, request), tt) where
        by : {rest : List ℕ} (side : Side) → now ≡ 0 ∷ side_opcode side ∷ rest → now ≡ payload
        by Get is = back 1 (ap opcode_of is) refl
        by Put is = back 2 (ap opcode_of is) refl
      says_back Oack (all, oack) = (subst (λ p. Spells p (message_of m wire Oack)) (back 6 (ap opcode_of oack.bytes) refl) (all, oack), tt)
      says_back (Data k) spells = data_back r high payload bytes k (block (blksize_of m) wire k) spells
      says_back (Ack j) spells = ack_back r high payload bytes j spells
      says_back (Error code text) spells = (error_back code text spells, tt)

-- ---- what is neither a block nor an ACK

short_stays : (f : ℕ → ℕ) (payload : List ℕ) → length payload < 4 → with_place f payload ≡ payload
short_stays f [] short = refl
short_stays f (a ∷ []) short = refl
short_stays f (a ∷ b ∷ []) short = refl
short_stays f (a ∷ b ∷ c ∷ []) short = refl
short_stays f (a ∷ b ∷ c ∷ d ∷ rest) short = absurd (omega (arith, short))

pub neither_stays : (r : Rollover) (high : ℕ) (payload : List ℕ) → (opcode_of payload ≡ 3 → length payload < 4) → (opcode_of payload ≡ 4 → length payload ≢ 4)
    → unrolled_payload r high payload ≡ payload
neither_stays r high payload block ack = elim (cases_eq (opcode_of payload) 3) [
  | inl three ↦ by (carries_number payload) (short_stays (position_of r high) payload (block three))
  | inr other ↦ elim (cases_eq (opcode_of payload) 4) [
    | inl four ↦ others_stay r high payload (no_number payload 4 four (ne_eqb (length payload) 4 (ack four)))
    | inr further ↦ others_stay r high payload (both (ne_eqb (opcode_of payload) 3 other) (ne_eqb (opcode_of payload) 4 further))
  ]
] where
  by : (b : Bool) → with_place (position_of r high) payload ≡ payload → (if b then with_place (position_of r high) payload else payload) ≡ payload
  by true stays = stays
  by false stays = refl

  both : (opcode_of payload == 3) ≡ false → (opcode_of payload == 4) ≡ false → carries_number payload ≡ false
  both three four = ap (λ x. x || ((opcode_of payload == 4) && (length payload == 4))) three ∙ ap (λ x. x && (length payload == 4)) four

-- ---- before anything has passed

placed_itself : (f : ℕ → ℕ) → ((n : ℕ) → n ≤ 65535 → f n ≡ n) → (payload : List ℕ) → AllByRecursion (λ b. b < 256) payload → with_place f payload ≡ payload
placed_itself f itself [] all = refl
placed_itself f itself (a ∷ []) all = refl
placed_itself f itself (a ∷ b ∷ []) all = refl
placed_itself f itself (a ∷ b ∷ x ∷ []) all = refl
placed_itself f itself (a ∷ b ∷ x ∷ y ∷ rest) all =
    let low = all.1.1.0 in
    let last = all.1.1.1.0 in
    let is : f (256 * x + y) ≡ 256 * x + y = itself (256 * x + y) (omega (arith, low, last)) in
    let third : f (256 * x + y) / 256 ≡ x = omega (arith, is, last) in
    let fourth : f (256 * x + y) % 256 ≡ y = omega (arith, is, last) in
    ap (λ k. a ∷ b ∷ k ∷ f (256 * x + y) % 256 ∷ rest) third ∙ ap (λ k. a ∷ b ∷ x ∷ k ∷ rest) fourth

pub first_stays : (r : Rollover) (payload : List ℕ) → AllByRecursion (λ b. b < 256) payload → unrolled_payload r 0 payload ≡ payload
first_stays r payload all = by (carries_number payload) where
  itself : (n : ℕ) → n ≤ 65535 → position_of r 0 n ≡ n
  itself n small = ap (position_of r 0) (sym (low_numbers (first_of r) n small)) ∙ read_back r 0 n (low_is_near r 0 n small (omega (arith)))

  by : (b : Bool) → (if b then with_place (position_of r 0) payload else payload) ≡ payload
  by true = placed_itself (position_of r 0) itself payload all
  by false = refl
