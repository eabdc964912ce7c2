-- The highest block of the transfer, with one datagram more, and how high it can be.
use Rattle.std.proofs.Common.{◌≡◌, ◌⊎◌, inl, inr, ℕ, ◌<◌, ◌≤◌, max, true, false, List, [], ◌∷◌, length, Option, Some, None, refl, sym, ap, subst, arith}
use Rattle.std.proofs.lemmas.Bool.{cases_lt}
use Rattle.tftp_packet.specs.{Dir, In, Out, Message, Spells, opcode_of}
use Rattle.tftp_packet.specs.Hosts.{Datagram, Header}
use Rattle.tftp_packet.specs.Rounds.{greatest_of}
use Rattle.tftp_packet.specs.{Rollover}
use Rattle.law_model.specs.{NoReply}
use Rattle.law_model.specs.Rules.{HasPassed, IsHigh, is_of_transfer, route_of, transfer_of}
use Rattle.law_end.specs.{Agrees, Begins, OneEnded, plain_terms, terms_after}
use Rattle.law_end.proofs.Spelled.{spelled_once}
use Rattle.law_end.proofs.Soundness.Settled.{settled}
use Rattle.law_end.proofs.FirstBroken.FirstAnswered.{main_none, main_some}
use Rattle.tftp_judge.specs.Kept.{Exchange}
use Rattle.tftp_judge.specs.{Agreed, Begun, IsExchange, IsKept, Transfer, Unanswered}

-- ---- what has passed

later : (m : Message) (ds : List Datagram) (d : Datagram) → HasPassed m ds → HasPassed m (d ∷ ds)
later m ds d (inl p) = inl (inr p)
later m ds d (inr p) = inr (inr p)

now_or_before : (m : Message) (ds : List Datagram) (d : Datagram) → HasPassed m (d ∷ ds) → Spells d.payload m ⊎ HasPassed m ds
now_or_before m ds d (inl (inl now)) = inl now.1
now_or_before m ds d (inl (inr before)) = inr (inl before)
now_or_before m ds d (inr (inl now)) = inl now.1
now_or_before m ds d (inr (inr before)) = inr (inr before)

now_passed : (m : Message) (ds : List Datagram) (d : Datagram) → Spells d.payload m → HasPassed m (d ∷ ds)
now_passed m ds d spells = by d.dir refl where
  by : (dir : Dir) → d.dir ≡ dir → HasPassed m (d ∷ ds)
  by In is = inl (inl (is, spells))
  by Out is = inr (inl (is, spells))

-- ---- the highest block

abbrev pub SaysNoBlock : List ℕ → Type 0
SaysNoBlock payload = (k : ℕ) (bytes : List ℕ) → Spells payload (Message.Data k bytes) → ⊥

abbrev IsBlockOf : List Datagram → ℕ → Type 0
IsBlockOf ds k = (bytes : List ℕ) × HasPassed (Message.Data k bytes) ds

pub none_high : IsHigh [] 0
none_high = record { member = inl refl; most = λ n some. absurd (elim some.1 [ inl in_none ↦ in_none | inr out_none ↦ out_none ]) }

pub high_stays : (ds : List Datagram) (d : Datagram) (high : ℕ) → IsHigh ds high → SaysNoBlock d.payload → IsHigh (d ∷ ds) high
high_stays ds d high is none = record {
  member = elim is.member as (λ _. (high ≡ 0) ⊎ IsBlockOf (d ∷ ds) high) [
    | inl zero ↦ inl zero
    | inr some ↦ inr (some.0, later (Message.Data high some.0) ds d some.1)
  ];
  most = λ n some. elim (now_or_before (Message.Data n some.0) ds d some.1) [
    | inl now ↦ absurd (none n some.0 now)
    | inr before ↦ is.most n (some.0, before)
  ];
}

number_in : (a b : ℕ) (xs ys : List ℕ) → Message.Data a xs ≡ Message.Data b ys → a ≡ b
number_in a b xs ys e = cc

pub high_rises : (ds : List Datagram) (d : Datagram) (high k : ℕ) (bytes : List ℕ) → IsHigh ds high → Spells d.payload (Message.Data k bytes) → IsHigh (d ∷ ds) (max high k)
high_rises ds d high k bytes is spells = record {
  member = elim (cases_lt high k) as (λ _. (max high k ≡ 0) ⊎ IsBlockOf (d ∷ ds) (max high k)) [
    | inl more ↦
        let top : k ≡ max high k = omega (arith, more) in
        inr (subst (IsBlockOf (d ∷ ds)) top (bytes, now_passed (Message.Data k bytes) ds d spells))
    | inr less ↦
        let top : high ≡ max high k = omega (arith, less) in
        elim is.member as (λ _. (max high k ≡ 0) ⊎ IsBlockOf (d ∷ ds) (max high k)) [
          | inl zero ↦ inl (omega (arith, zero, top))
          | inr some ↦ inr (subst (IsBlockOf (d ∷ ds)) top (some.0, later (Message.Data high some.0) ds d some.1))
        ]
  ];
  most = λ n some. elim (now_or_before (Message.Data n some.0) ds d some.1) [
    | inl now ↦
        let same : n ≡ k = number_in n k some.0 bytes (spelled_once d.payload (Message.Data n some.0) (Message.Data k bytes) now spells) in
        omega (arith, same)
    | inr before ↦ let low = is.most n (some.0, before) in omega (arith, low)
  ];
}

-- ---- payloads that are no block

pub too_short : (payload : List ℕ) → (opcode_of payload ≡ 3 → length payload < 4) → SaysNoBlock payload
too_short payload short k bytes (all, (x, y, place, layout)) =
    let few = short (ap opcode_of layout) in
    let long = ap length layout in
    omega (arith, few, long)

-- ---- of the transfer

module _ (h : Header) (earlier : List Datagram) (d : Datagram) (high : ℕ) where
  pub high_after_stray : is_of_transfer (route_of h earlier d) ≡ false → IsHigh (transfer_of h earlier) high → IsHigh (transfer_of h (d ∷ earlier)) high
  high_after_stray is top = subst (λ (ds : List Datagram). IsHigh ds high) (sym (main_none (is_of_transfer (route_of h earlier d)) d (transfer_of h earlier) is)) top

  pub high_after_main : is_of_transfer (route_of h earlier d) ≡ true → IsHigh (d ∷ transfer_of h earlier) high → IsHigh (transfer_of h (d ∷ earlier)) high
  high_after_main is top = subst (λ (ds : List Datagram). IsHigh ds high) (sym (main_some (is_of_transfer (route_of h earlier d)) d (transfer_of h earlier) is)) top

-- ---- how high it can be

most : (rollover : Option Rollover) → greatest_of rollover ≤ 8388607
most None = omega (arith)
most (Some rollover) = omega (arith)

module _ (h : Header) (read : List Datagram) (lawful : OneEnded h read) where
  -- no block is above the greatest
  blocks_low : (t : Transfer) → IsKept h read (Some t) → (k : ℕ) (bytes : List ℕ) → HasPassed (Message.Data k bytes) (transfer_of h read) → k ≤ greatest_of h.rollover
  blocks_low t kept k bytes p = by t.exchange kept.1.exchange where
    by : (c : Exchange) → IsExchange h t.asked (transfer_of h read) c → k ≤ greatest_of h.rollover
    by Unanswered exchange = (settled h read lawful t.asked kept.0 (plain_terms h t.asked.side NoReply) (t.asked, kept.0, inl (exchange.0, refl))).low k bytes p
    by (Begun end) exchange = (settled h read lawful t.asked kept.0 (terms_after h t.asked Begins) (t.asked, kept.0, inr (Begins, exchange.answered, refl))).low k bytes p
    by (Agreed options end) exchange = (settled h read lawful t.asked kept.0 (terms_after h t.asked (Agrees options)) (t.asked, kept.0, inr (Agrees options, exchange.answered, refl))).low k bytes p

  pub high_low : (o : Option Transfer) → IsKept h read o → (high : ℕ) → IsHigh (transfer_of h read) high → high ≤ 8388607
  high_low None kept high top = elim top.member [
    | inl none ↦ omega (arith, none)
    | inr some ↦ absurd (elim (subst (λ (ds : List Datagram). HasPassed (Message.Data high some.0) (transfer_of h ds)) kept some.1) [ inl in_none ↦ in_none | inr out_none ↦ out_none ])
  ]
  high_low (Some t) kept high top = elim top.member [
    | inl none ↦ omega (arith, none)
    | inr some ↦ let low = blocks_low t kept high some.0 some.1 in let all = most h.rollover in omega (arith, low, all)
  ]
