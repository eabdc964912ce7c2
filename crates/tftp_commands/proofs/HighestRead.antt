-- The highest block, with one datagram more.
use Rattle.std.proofs.Common.{◌≡◌, ◌⊎◌, inl, inr, ℕ, ◌<◌, max, Bool, true, false, List, [], ◌∷◌, length, if◌then◌else◌, refl, sym, ap, subst, arith}
use Rattle.std.proofs.lemmas.Bool.{cases_lt}
use Rattle.tftp_packet.specs.{Dir, In, Out, Message, Spells, opcode_of}
use Rattle.tftp_packet.specs.Hosts.{Datagram, Header}
use Rattle.law_model.specs.Rules.{HasPassed, IsHigh, is_of_transfer, route_of, transfer_of}
use Rattle.law_end.proofs.Spelled.{spelled_once}

-- ---- what has passed

later : (m : Message) (ds : List Datagram) (d : Datagram) → HasPassed m ds → HasPassed m (d ∷ ds)
later m ds d (inl p) = inl (inr p)
later m ds d (inr p) = inr (inr p)

now_or_before : (m : Message) (ds : List Datagram) (d : Datagram) → HasPassed m (d ∷ ds) → Spells d.payload m ⊎ HasPassed m ds
now_or_before m ds d (inl (inl now)) = inl now.1
now_or_before m ds d (inl (inr before)) = inr (inl before)
now_or_before m ds d (inr (inl now)) = inl now.1
now_or_before m ds d (inr (inr before)) = inr (inr before)

now_passed : (m : Message) (ds : List Datagram) (d : Datagram) → Spells d.payload m → HasPassed m (d ∷ ds)
now_passed m ds d spells = by d.dir refl where
  by : (dir : Dir) → d.dir ≡ dir → HasPassed m (d ∷ ds)
  by In is = inl (inl (is, spells))
  by Out is = inr (inl (is, spells))

-- ---- the highest block

abbrev pub SaysNoBlock : List ℕ → Type 0
SaysNoBlock payload = (k : ℕ) (bytes : List ℕ) → Spells payload (Message.Data k bytes) → ⊥

abbrev IsBlockOf : List Datagram → ℕ → Type 0
IsBlockOf ds k = (bytes : List ℕ) × HasPassed (Message.Data k bytes) ds

pub none_high : IsHigh [] 0
none_high = record { member = inl refl; most = λ n some. absurd (elim some.1 [ inl in_none ↦ in_none | inr out_none ↦ out_none ]) }

pub high_stays : (ds : List Datagram) (d : Datagram) (high : ℕ) → IsHigh ds high → SaysNoBlock d.payload → IsHigh (d ∷ ds) high
high_stays ds d high is none = record {
  member = elim is.member as (λ _. (high ≡ 0) ⊎ IsBlockOf (d ∷ ds) high) [
    | inl zero ↦ inl zero
    | inr some ↦ inr (some.0, later (Message.Data high some.0) ds d some.1)
  ];
  most = λ n some. elim (now_or_before (Message.Data n some.0) ds d some.1) [
    | inl now ↦ absurd (none n some.0 now)
    | inr before ↦ is.most n (some.0, before)
  ];
}

number_in : (a b : ℕ) (xs ys : List ℕ) → Message.Data a xs ≡ Message.Data b ys → a ≡ b
number_in a b xs ys e = cc

pub high_rises : (ds : List Datagram) (d : Datagram) (high k : ℕ) (bytes : List ℕ) → IsHigh ds high → Spells d.payload (Message.Data k bytes) → IsHigh (d ∷ ds) (max high k)
high_rises ds d high k bytes is spells = record {
  member = elim (cases_lt high k) as (λ _. (max high k ≡ 0) ⊎ IsBlockOf (d ∷ ds) (max high k)) [
    | inl more ↦
        let top : k ≡ max high k = omega (arith, more) in
        inr (subst (IsBlockOf (d ∷ ds)) top (bytes, now_passed (Message.Data k bytes) ds d spells))
    | inr less ↦
        let top : high ≡ max high k = omega (arith, less) in
        elim is.member as (λ _. (max high k ≡ 0) ⊎ IsBlockOf (d ∷ ds) (max high k)) [
          | inl zero ↦ inl (omega (arith, zero, top))
          | inr some ↦ inr (subst (IsBlockOf (d ∷ ds)) top (some.0, later (Message.Data high some.0) ds d some.1))
        ]
  ];
  most = λ n some. elim (now_or_before (Message.Data n some.0) ds d some.1) [
    | inl now ↦
        let same : n ≡ k = number_in n k some.0 bytes (spelled_once d.payload (Message.Data n some.0) (Message.Data k bytes) now spells) in
        omega (arith, same)
    | inr before ↦ let low = is.most n (some.0, before) in omega (arith, low)
  ];
}

-- ---- of the transfer

module _ (h : Header) (earlier : List Datagram) (d : Datagram) where
  by_route : (b : Bool) → is_of_transfer (route_of h earlier d) ≡ b → transfer_of h (d ∷ earlier) ≡ (if b then d ∷ transfer_of h earlier else transfer_of h earlier)
  by_route b is = ap (λ x. if x then d ∷ transfer_of h earlier else transfer_of h earlier) is

  pub high_apart : (high : ℕ) → IsHigh (transfer_of h earlier) high → is_of_transfer (route_of h earlier d) ≡ false → IsHigh (transfer_of h (d ∷ earlier)) high
  high_apart high is apart = subst (λ (ds : List Datagram). IsHigh ds high) (sym (by_route false apart)) is

  pub high_same : (high : ℕ) → IsHigh (transfer_of h earlier) high → SaysNoBlock d.payload → IsHigh (transfer_of h (d ∷ earlier)) high
  high_same high is none = by (is_of_transfer (route_of h earlier d)) refl where
    by : (b : Bool) → is_of_transfer (route_of h earlier d) ≡ b → IsHigh (transfer_of h (d ∷ earlier)) high
    by true one = subst (λ (ds : List Datagram). IsHigh ds high) (sym (by_route true one)) (high_stays (transfer_of h earlier) d high is none)
    by false apart = high_apart high is apart

  pub high_more : (high k : ℕ) (bytes : List ℕ) → IsHigh (transfer_of h earlier) high → is_of_transfer (route_of h earlier d) ≡ true → Spells d.payload (Message.Data k bytes)
      → IsHigh (transfer_of h (d ∷ earlier)) (max high k)
  high_more high k bytes is one spells = subst (λ (ds : List Datagram). IsHigh ds (max high k)) (sym (by_route true one)) (high_rises (transfer_of h earlier) d high k bytes is spells)

-- ---- payloads that are no block

pub opcode_is : (k : ℕ) (bytes payload : List ℕ) → Spells payload (Message.Data k bytes) → opcode_of payload ≡ 3
opcode_is k bytes payload (all, (x, y, place, layout)) = ap opcode_of layout

pub other_opcode : (payload : List ℕ) → (opcode_of payload ≡ 3 → ⊥) → SaysNoBlock payload
other_opcode payload other k bytes spells = other (opcode_is k bytes payload spells)

pub too_short : (payload : List ℕ) → (opcode_of payload ≡ 3 → length payload < 4) → SaysNoBlock payload
too_short payload short k bytes (all, (x, y, place, layout)) =
    let few = short (ap opcode_of layout) in
    let long = ap length layout in
    omega (arith, few, long)
