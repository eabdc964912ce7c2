-- No capture that shows a meaning is shorter than the normal one.
use Rattle.std.proofs.Common.{◌≡◌, ℕ, zero, suc, ◌+◌, ◌-◌, ◌*◌, ◌/◌, ◌<◌, ◌≤◌, ◌⊎◌, List, [], ◌∷◌, map as each, length, Contains, inl, inr, refl, sym, subst, ap, ◌∙◌, arith, div-add-mod', mod-lt, suc-mul, div-lt_iff_lt-mul, le-div_iff_mul-le, mul-le-mul_right}
use Rattle.std.proofs.lemmas.List.{length-map, length-reverse}
use Rattle.std.proofs.lemmas.Bool.{cases_lt}
use Rattle.std.specs.FinMap as finite
use Rattle.std.specs.FinMap.{len-empty}
use Rattle.std.specs.Ordering.{nat_cmp}
use Rattle.std.specs.Cmp.Lexicographic.{slice_cmp}
use Rattle.tftp_packet.specs.{OptionValue, Side, Get, Put, End}
use Rattle.tftp_packet.specs.Hosts.{Datagram, Header}
use Rattle.law_model.specs.Model.{Meaning, NothingAgreed, blksize_of, windowsize_of, block_count, MachinePacket, Req, Oack, Data, Ack, Error, Deed, Sent, Took, History, IsOneSided, IsComplete}
use Rattle.law_model.proofs.ModelLemmas.Members.{contains_first, contains_later, contains_cases, contains_none}
use Rattle.law_model.proofs.ModelLemmas.OneSided.{view_one_sided}
use Rattle.law_end.specs.Dress.{StrayAnswer}
use Rattle.law_end.specs.{Label, Main, Stray, Division, view_in, packet_of, ShowsBy, wire_of}
use Rattle.tftp_normal.specs.{window_count, opening_count, normal_count}
use Rattle.tftp_normal.proofs.Counted.{at_least}
use Rattle.law_end.proofs.Written.Passed.{each_block, last_ack, first, some_block}
use Rattle.law_end.proofs.Written.Needed.{HasPassed, let_go, opened_get, opened_put}

contains_map : {A B : Type 0} (f : A → B) (x : A) (xs : List A) → Contains xs x → Contains (each f xs) (f x)
contains_map f x [] at = absurd (contains_none x at)
contains_map f x (y ∷ xs) at = elim (contains_cases y xs x at) [
  | inl is ↦ subst (λ z. Contains (f y ∷ each f xs) (f z)) is (contains_first (f y) (each f xs))
  | inr later ↦ contains_later (f y) (each f xs) (f x) (contains_map f x xs later)
]

view_one : (datagram : Datagram) (label : Label) (division : Division) → length (view_in division) ≤ length division → length (view_in (record { datagram = datagram; label = label } ∷ division)) ≤ suc (length division)
view_one datagram (Main deed) division rest = omega (arith, rest)
view_one datagram Stray division rest = omega (arith, rest)
view_one datagram StrayAnswer division rest = omega (arith, rest)

view_length : (division : Division) → length (view_in division) ≤ length division
view_length [] = omega arith
view_length (p ∷ division) = view_one p.datagram p.label division (view_length division)

-- the windows that hold n blocks
pub windows_hold : (n w : ℕ) → 1 ≤ w → (n ≤ window_count w n * w) × (window_count w n * w < n + w)
windows_hold n w some =
    let all = div-add-mod' (n + w - 1) w in
    let less = mod-lt (n + w - 1) {m = w} some in
    (omega (arith, all, less), omega (arith, all, less))

-- the number of the window of an ACK, from 0
in_window : (w i j : ℕ) → 1 ≤ w → i * w < suc j → suc j ≤ i * w + w → j / w ≡ i
in_window w i j some low high =
    let more : suc i * w ≡ i * w + w = suc-mul i w in
    let up : j / w < suc i = (div-lt_iff_lt-mul some).1 (omega arith) in
    let down : i ≤ j / w = (le-div_iff_mul-le some).1 (omega arith) in
    omega arith

get_count : (agreed : ℕ) → opening_count Get agreed ≤ 3
get_count zero = omega arith
get_count (suc more) = omega arith

nothing_get : (agreed : ℕ) → agreed ≡ 0 → opening_count Get agreed ≤ 1
nothing_get zero is = omega arith
nothing_get (suc more) is = absurd (omega (arith, is))

-- each packet that is needed has a number of its own
abbrev code : (w n c zero_code : ℕ) → MachinePacket → ℕ
code w n c zero_code Req = 0
code w n c zero_code Oack = n + c + 1
code w n c zero_code (Data k) = k
code w n c zero_code (Ack zero) = zero_code
code w n c zero_code (Ack (suc j)) = n + 1 + j / w
code w n c zero_code (Error error text) = 0

module _ (m : Meaning) (wire : List ℕ) (e : End) (v : History) (own : IsOneSided m wire e v) (complete : IsComplete m wire e v) where
  abbrev n : ℕ
  n = block_count (blksize_of m) wire

  abbrev w : ℕ
  w = windowsize_of m

  abbrev c : ℕ
  c = window_count w n

  some : 1 ≤ w
  some = some_block m wire e v own complete

  -- for each window, from 0, the ACK that the next one, or the end, needs
  window_ack : (i : ℕ) → i < c → (j : ℕ) × HasPassed v (Ack (suc j)) × (i * w < suc j) × (suc j ≤ i * w + w)
  window_ack i low =
      let more : suc i * w ≡ i * w + w = suc-mul i w in
      let held = windows_hold n w some in
      let within : suc i * w ≤ c * w = mul-le-mul_right w low in
      elim (cases_lt (suc i * w) n) [
        | inl next ↦
            let (a, given, less, near) = let_go m wire e v own (suc i * w + 1) (omega arith) (each_block m wire e v own complete (suc i * w + 1) (omega arith) (omega (arith, next))) in
            elim given [ inl none ↦ absurd (omega (arith, none, near, more, some)) | inr passed ↦ by a passed (omega (arith, near, more)) (omega (arith, less, more)) ]
        | inr end ↦ by n (last_ack m wire e v own complete) (omega (arith, within, more, held.1)) (omega (arith, end, more))
      ]
    where
      by : (a : ℕ) → HasPassed v (Ack a) → i * w < a → a ≤ i * w + w → (j : ℕ) × HasPassed v (Ack (suc j)) × (i * w < suc j) × (suc j ≤ i * w + w)
      by zero passed above under = absurd (omega (arith, above))
      by (suc j) passed above under = (j, passed, above, under)

  module _ (zero_code : ℕ) where
    abbrev number : Deed → ℕ
    number d = code w n c zero_code (packet_of d)

    passed_number : (p : MachinePacket) → HasPassed v p → Contains (each number v) (code w n c zero_code p)
    passed_number p passed = elim passed [
      | inl sent ↦ contains_map number (Sent p) v sent
      | inr took ↦ contains_map number (Took p) v took
    ]

    base : HasPassed v Req → (i : ℕ) → i < n + c + 1 → Contains (each number v) i
    base asked zero low = passed_number Req asked
    base asked (suc i) low = elim (cases_lt i n) [
      | inl block ↦ passed_number (Data (suc i)) (each_block m wire e v own complete (suc i) (omega arith) (omega (arith, block)))
      | inr more ↦
          let (j, passed, above, under) = window_ack (i - n) (omega (arith, low, more)) in
          let is : n + 1 + j / w ≡ suc i = (let at = in_window w (i - n) j some above under in omega (arith, at, more)) in
          subst (Contains (each number v)) is (passed_number (Ack (suc j)) passed)
    ]

    enough : (l : ℕ) → ((i : ℕ) → i < l → Contains (each number v) i) → l ≤ length v
    enough l all = subst (λ x. l ≤ x) (length-map v number) (at_least l (each number v) all)

  one_more : (i l : ℕ) → i < suc l → (i < l) ⊎ (l ≡ i)
  one_more i l low = elim (cases_lt i l) [ inl less ↦ inl less | inr more ↦ inr (omega arith) ]

  -- a read with options, a write, and a read without
  get_some : HasPassed v Req → HasPassed v Oack → HasPassed v (Ack 0) → n + c + 3 ≤ length v
  get_some asked answered acked = enough (n + c + 2) (n + c + 3) (λ i low. elim (one_more i (n + c + 2) (omega arith)) [
    | inl less ↦ elim (one_more i (n + c + 1) (omega arith)) [
      | inl base_one ↦ base (n + c + 2) asked i base_one
      | inr is ↦ subst (Contains (each (number (n + c + 2)) v)) is (passed_number (n + c + 2) Oack answered)
    ]
    | inr is ↦ subst (Contains (each (number (n + c + 2)) v)) is (passed_number (n + c + 2) (Ack 0) acked)
  ])

  put_one : HasPassed v Req → (NothingAgreed m × HasPassed v (Ack 0)) ⊎ HasPassed v Oack → n + c + 2 ≤ length v
  put_one asked answered = enough (n + c + 1) (n + c + 2) (λ i low. elim (one_more i (n + c + 1) (omega arith)) [
    | inl less ↦ base (n + c + 1) asked i less
    | inr is ↦ subst (Contains (each (number (n + c + 1)) v)) is
        (elim answered [ inl acked ↦ passed_number (n + c + 1) (Ack 0) acked.1 | inr oacked ↦ passed_number (n + c + 1) Oack oacked ])
  ])

  get_none : HasPassed v Req → n + c + 1 ≤ length v
  get_none asked = enough 0 (n + c + 1) (base 0 asked)

  by_side : (side : Side) → m.side ≡ side → opening_count side (finite.len m.agreed) + n + c ≤ length v
  by_side Get is = let (asked, answer) = opened_get m wire e v own is 1 (first m wire e v own complete) in elim answer [
    | inl none ↦
        let low = nothing_get (finite.len m.agreed) (ap finite.len none ∙ len-empty (slice_cmp nat_cmp) OptionValue) in
        let all = get_none asked in
        omega (arith, low, all)
    | inr some ↦ let low = get_count (finite.len m.agreed) in let all = get_some asked some.0 some.1 in omega (arith, low, all)
  ]
  by_side Put is = let (asked, answer) = opened_put m wire e v own is 1 (first m wire e v own complete) in let all = put_one asked answer in omega (arith, all)

  pub needed : opening_count m.side (finite.len m.agreed) + n + c ≤ length v
  needed = by_side m.side refl

pub count_is_least : (h : Header) (m : Meaning) (datagrams : List Datagram) → ShowsBy h m (wire_of m) datagrams → normal_count m ≤ length datagrams
count_is_least h m datagrams shown =
    let seen = shown.seen in
    let dressed = seen.dressed in
    let all = needed m (wire_of m) h.named seen.view (view_one_sided m (wire_of m) h.named seen.view seen.run) shown.complete in
    let main = ap length dressed.main in
    let less = view_length dressed.division in
    let same : length dressed.division ≡ length datagrams = sym (length-map dressed.division (λ p. p.datagram)) ∙ ap length dressed.whole ∙ length-reverse datagrams in
    omega (arith, all, main, less, same)
