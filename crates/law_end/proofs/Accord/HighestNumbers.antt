-- What has passed can be searched and counted, since each datagram of the transfer spells a message.
use Rattle.std.proofs.Common.{◌≡◌, ◌⊎◌, ℕ, zero, suc, ◌+◌, ◌<◌, ◌≤◌, List, [], ◌∷◌, length, inl, inr, refl, sym, subst, arith, if◌then◌else◌}
use Rattle.std.proofs.lemmas.Bool.{cases_lt, cases_eq}
use Rattle.tftp_packet.specs.{Message, Request, Data, Ack, Error, Oack, Spells}
use Rattle.tftp_packet.specs.Hosts.{Datagram, Header}
use Rattle.tftp_packet.specs.{Dir, In, Out}
use Rattle.law_model.specs.Rules.{Route, route_of, is_of_transfer, transfer_of, Passed, HasPassed, BlockPassed, IsGreatest, IsTop, IsAnswered, IsAcked, IsHigh, IsFront}
use Rattle.law_end.specs.{IsRead, OneEnded}
use Rattle.law_end.proofs.Spelled.{spelled_once}

abbrev pub AllSpelled : List Datagram → Type 0
AllSpelled [] = Unit {0}
AllSpelled (d ∷ ds) = ((m : Message) × Spells d.payload m) × AllSpelled ds

kept_spelled : (r : Route) (d : Datagram) (ds : List Datagram) → IsRead r d → AllSpelled ds → AllSpelled (if is_of_transfer r then d ∷ ds else ds)
kept_spelled Route.Request d ds read all = (read, all)
kept_spelled Route.Peer d ds read all = (read, all)
kept_spelled Route.Stray d ds read all = all
kept_spelled Route.StrayAnswer d ds read all = all
kept_spelled _ d ds read all = absurd read

pub transfer_spelled : (h : Header) (earlier : List Datagram) → OneEnded h earlier → AllSpelled (transfer_of h earlier)
transfer_spelled h [] lawful = tt
transfer_spelled h (d ∷ earlier) lawful = kept_spelled (route_of h earlier d) d (transfer_of h earlier) lawful.0.read (transfer_spelled h earlier lawful.1)

-- ---- searching

module _ (P : Dir → Message → Type 0) (decide : (dir : Dir) (m : Message) → P dir m ⊎ (P dir m → ⊥)) where
  abbrev pub Found : List Datagram → Type 0
  Found ds = (dir : Dir) × (m : Message) × P dir m × Passed dir m ds

  scan_step : (d : Datagram) (ds : List Datagram) (m : Message) → Spells d.payload m → Found ds ⊎ (Found ds → ⊥) → Found (d ∷ ds) ⊎ (Found (d ∷ ds) → ⊥)
  scan_step d ds m s rest = elim rest [
    | inl f ↦ inl (f.0, f.1, f.2, inr f.3)
    | inr none ↦ elim (decide d.dir m) [
      | inl is ↦ inl (d.dir, m, is, inl (refl, s))
      | inr other ↦ inr (λ f. elim f.3 [
        | inl now ↦ other (subst (λ x. P d.dir x) (spelled_once d.payload f.1 m now.1 s) (subst (λ x. P x f.1) (sym now.0) f.2))
        | inr before ↦ none (f.0, f.1, f.2, before)
      ])
    ]
  ]

  pub scan : (ds : List Datagram) → AllSpelled ds → Found ds ⊎ (Found ds → ⊥)
  scan [] all = inr (λ f. f.3)
  scan (d ∷ ds) all = scan_step d ds all.0.0 all.0.1 (scan ds all.1)

pub either_way : (dir : Dir) (m : Message) (passed : List Datagram) → Passed dir m passed → HasPassed m passed
either_way In m passed p = inl p
either_way Out m passed p = inr p

pub some_way : (m : Message) (passed : List Datagram) → HasPassed m passed → (dir : Dir) × Passed dir m passed
some_way m passed (inl p) = (In, p)
some_way m passed (inr p) = (Out, p)

-- block k, whichever way it went
abbrev IsBlock : ℕ → Dir → Message → Type 0
IsBlock k dir (Data n bytes) = n ≡ k
IsBlock k dir _ = ⊥

is_block : (k : ℕ) (dir : Dir) (m : Message) → IsBlock k dir m ⊎ (IsBlock k dir m → ⊥)
is_block k dir (Data n bytes) = cases_eq n k
is_block k dir _ = inr (λ is. is)

block_there : (k : ℕ) (dir : Dir) (m : Message) (ds : List Datagram) → IsBlock k dir m → Passed dir m ds → BlockPassed dir k ds
block_there k dir (Data n bytes) ds is p = (bytes, subst (λ x. Passed dir (Data x bytes) ds) is p)
block_there k dir _ ds is p = absurd is

pub has_block : (k : ℕ) (ds : List Datagram) → AllSpelled ds → ((bytes : List ℕ) × HasPassed (Data k bytes) ds) ⊎ ((bytes : List ℕ) → HasPassed (Data k bytes) ds → ⊥)
has_block k ds all = elim (scan (IsBlock k) (is_block k) ds all) [
  | inl f ↦ let b = block_there k f.0 f.1 ds f.2 f.3 in inl (b.0, either_way f.0 (Data k b.0) ds b.1)
  | inr none ↦ inr (λ bytes p. let (dir, q) = some_way (Data k bytes) ds p in none (dir, Data k bytes, refl, q))
]

-- block k, where it came in
abbrev CameIn : ℕ → Dir → Message → Type 0
CameIn k In m = IsBlock k In m
CameIn k Out m = ⊥

came_in : (k : ℕ) (dir : Dir) (m : Message) → CameIn k dir m ⊎ (CameIn k dir m → ⊥)
came_in k In m = is_block k In m
came_in k Out m = inr (λ is. is)

in_there : (k : ℕ) (dir : Dir) (m : Message) (ds : List Datagram) → CameIn k dir m → Passed dir m ds → BlockPassed In k ds
in_there k In m ds is p = block_there k In m ds is p
in_there k Out m ds is p = absurd is

pub block_in : (k : ℕ) (ds : List Datagram) → AllSpelled ds → BlockPassed In k ds ⊎ (BlockPassed In k ds → ⊥)
block_in k ds all = elim (scan (CameIn k) (came_in k) ds all) [
  | inl f ↦ inl (in_there k f.0 f.1 ds f.2 f.3)
  | inr none ↦ inr (λ b. none (In, Data k b.0, refl, b.1))
]

-- a block that is shorter than this, or none
abbrev IsShort : ℕ → Dir → Message → Type 0
IsShort size dir (Data n bytes) = length bytes < size
IsShort size dir _ = ⊥

is_short : (size : ℕ) (dir : Dir) (m : Message) → IsShort size dir m ⊎ (IsShort size dir m → ⊥)
is_short size dir (Data n bytes) = elim (cases_lt (length bytes) size) [ inl short ↦ inl short | inr whole ↦ inr (λ short. omega arith) ]
is_short size dir _ = inr (λ is. is)

short_there : (size : ℕ) (dir : Dir) (m : Message) (ds : List Datagram) → IsShort size dir m → Passed dir m ds → (k : ℕ) × (bytes : List ℕ) × HasPassed (Data k bytes) ds × (length bytes < size)
short_there size dir (Data n bytes) ds is p = (n, bytes, either_way dir (Data n bytes) ds p, is)
short_there size dir _ ds is p = absurd is

pub has_short : (size : ℕ) (ds : List Datagram) → AllSpelled ds → ((k : ℕ) × (bytes : List ℕ) × HasPassed (Data k bytes) ds × (length bytes < size)) ⊎ ((k : ℕ) (bytes : List ℕ) → HasPassed (Data k bytes) ds → size ≤ length bytes)
has_short size ds all = elim (scan (IsShort size) (is_short size) ds all) [
  | inl f ↦ inl (short_there size f.0 f.1 ds f.2 f.3)
  | inr none ↦ inr (λ k bytes p. elim (cases_lt (length bytes) size) [
    | inl short ↦ let (dir, q) = some_way (Data k bytes) ds p in absurd (none (dir, Data k bytes, short, q))
    | inr whole ↦ whole
  ])
]

-- ---- greatest numbers

module _ (number : Dir → Message → ℕ) where
  abbrev pub Counted : List Datagram → ℕ → Type 0
  Counted ds n = (dir : Dir) × (m : Message) × (number dir m ≡ n) × Passed dir m ds

  now_is : (d : Datagram) (m : Message) → Spells d.payload m → (n : ℕ) (dir : Dir) (other : Message) → number dir other ≡ n → d.dir ≡ dir → Spells d.payload other → number d.dir m ≡ n
  now_is d m s n dir other is way t = subst (λ x. number x m ≡ n) (sym way) (subst (λ x. number dir x ≡ n) (spelled_once d.payload other m t s) is)

  greatest_step : (d : Datagram) (ds : List Datagram) (m : Message) → Spells d.payload m → (n : ℕ) → IsGreatest (Counted ds) n → (top : ℕ) × IsGreatest (Counted (d ∷ ds)) top
  greatest_step d ds m s n is = elim (cases_lt n (number d.dir m)) [
    | inl above ↦ (
      number d.dir m,
      record {
        member = inr (d.dir, m, refl, inl (refl, s));
        most = λ k c. elim c.3 [
          | inl now ↦ let e = now_is d m s k c.0 c.1 c.2 now.0 now.1 in omega arith
          | inr before ↦ let low = is.most k (c.0, c.1, c.2, before) in omega (arith, above)
        ];
      },
    )
    | inr below ↦ (
      n,
      record {
        member = elim is.member [ inl none ↦ inl none | inr c ↦ inr (c.0, c.1, c.2, inr c.3) ];
        most = λ k c. elim c.3 [
          | inl now ↦ let e = now_is d m s k c.0 c.1 c.2 now.0 now.1 in omega (arith, below)
          | inr before ↦ is.most k (c.0, c.1, c.2, before)
        ];
      },
    )
  ]

  pub greatest : (ds : List Datagram) → AllSpelled ds → (n : ℕ) × IsGreatest (Counted ds) n
  greatest [] all = (0, record { member = inl refl; most = λ k c. absurd c.3 })
  greatest (d ∷ ds) all = let (n, is) = greatest ds all.1 in greatest_step d ds all.0.0 all.0.1 n is

-- another name for the same numbers; 0 counts for nothing
pub renamed : (P Q : ℕ → Type 0) → ((n : ℕ) → (n ≡ 0 → ⊥) → P n → Q n) → ((n : ℕ) → Q n → P n) → (n : ℕ) → IsGreatest P n → IsGreatest Q n
renamed P Q to from n is = record {
  member = elim (cases_eq n 0) [ inl none ↦ inl none | inr some ↦ elim is.member [ inl none ↦ inl none | inr p ↦ inr (to n some p) ] ];
  most = λ k q. is.most k (from k q);
}

abbrev block_in_any : Dir → Message → ℕ
block_in_any dir (Data k bytes) = k
block_in_any dir _ = 0

abbrev blocks_out : Dir → Message → ℕ
blocks_out Out (Data k bytes) = k
blocks_out _ _ = 0

abbrev acks_out : Dir → Message → ℕ
acks_out Out (Ack j) = j
acks_out _ _ = 0

abbrev acks_in : Dir → Message → ℕ
acks_in In (Ack j) = j
acks_in _ _ = 0

high_to : (ds : List Datagram) (n : ℕ) → (n ≡ 0 → ⊥) → (dir : Dir) (m : Message) → block_in_any dir m ≡ n → Passed dir m ds → (bytes : List ℕ) × HasPassed (Data n bytes) ds
high_to ds n some dir (Data k bytes) is p = (bytes, either_way dir (Data n bytes) ds (subst (λ x. Passed dir (Data x bytes) ds) is p))
high_to ds n some dir _ is p = absurd (some (sym is))

pub high_of : (ds : List Datagram) → AllSpelled ds → (n : ℕ) × IsHigh ds n
high_of ds all = let (n, is) = greatest block_in_any ds all in (
  n,
  renamed (Counted block_in_any ds) (λ k. (bytes : List ℕ) × HasPassed (Data k bytes) ds)
      (λ k some c. high_to ds k some c.0 c.1 c.2 c.3) (λ k q. let (dir, p) = some_way (Data k q.0) ds q.1 in (dir, Data k q.0, refl, p)) n is,
)

top_to : (ds : List Datagram) (n : ℕ) → (n ≡ 0 → ⊥) → (dir : Dir) (m : Message) → blocks_out dir m ≡ n → Passed dir m ds → BlockPassed Out n ds
top_to ds n some Out (Data k bytes) is p = (bytes, subst (λ x. Passed Out (Data x bytes) ds) is p)
top_to ds n some Out (Request r) is p = absurd (some (sym is))
top_to ds n some Out (Ack j) is p = absurd (some (sym is))
top_to ds n some Out (Error code text) is p = absurd (some (sym is))
top_to ds n some Out (Oack options) is p = absurd (some (sym is))
top_to ds n some In m is p = absurd (some (sym is))

pub top_of : (ds : List Datagram) → AllSpelled ds → (n : ℕ) × IsTop ds n
top_of ds all = let (n, is) = greatest blocks_out ds all in (
  n,
  renamed (Counted blocks_out ds) (λ k. BlockPassed Out k ds)
      (λ k some c. top_to ds k some c.0 c.1 c.2 c.3) (λ k q. (Out, Data k q.0, refl, q.1)) n is,
)

acked_to : (ds : List Datagram) (n : ℕ) → (n ≡ 0 → ⊥) → (dir : Dir) (m : Message) → acks_out dir m ≡ n → Passed dir m ds → Passed Out (Ack n) ds
acked_to ds n some Out (Ack j) is p = subst (λ x. Passed Out (Ack x) ds) is p
acked_to ds n some Out (Request r) is p = absurd (some (sym is))
acked_to ds n some Out (Data k bytes) is p = absurd (some (sym is))
acked_to ds n some Out (Error code text) is p = absurd (some (sym is))
acked_to ds n some Out (Oack options) is p = absurd (some (sym is))
acked_to ds n some In m is p = absurd (some (sym is))

pub acked_of : (ds : List Datagram) → AllSpelled ds → (n : ℕ) × IsAcked ds n
acked_of ds all = let (n, is) = greatest acks_out ds all in (
  n,
  renamed (Counted acks_out ds) (λ j. Passed Out (Ack j) ds)
      (λ j some c. acked_to ds j some c.0 c.1 c.2 c.3) (λ j q. (Out, Ack j, refl, q)) n is,
)

answered_to : (ds : List Datagram) (n : ℕ) → (n ≡ 0 → ⊥) → (dir : Dir) (m : Message) → acks_in dir m ≡ n → Passed dir m ds → Passed In (Ack n) ds
answered_to ds n some In (Ack j) is p = subst (λ x. Passed In (Ack x) ds) is p
answered_to ds n some In (Request r) is p = absurd (some (sym is))
answered_to ds n some In (Data k bytes) is p = absurd (some (sym is))
answered_to ds n some In (Error code text) is p = absurd (some (sym is))
answered_to ds n some In (Oack options) is p = absurd (some (sym is))
answered_to ds n some Out m is p = absurd (some (sym is))

pub answered_of : (ds : List Datagram) → AllSpelled ds → (n : ℕ) × IsAnswered ds n
answered_of ds all = let (n, is) = greatest acks_in ds all in (
  n,
  renamed (Counted acks_in ds) (λ j. Passed In (Ack j) ds)
      (λ j some c. answered_to ds j some c.0 c.1 c.2 c.3) (λ j q. (In, Ack j, refl, q)) n is,
)

-- ---- the front

module _ (ds : List Datagram) (all : AllSpelled ds) (high : ℕ) (most : (k : ℕ) → BlockPassed In k ds → k ≤ high) where
  one_further : (c : ℕ) → ((k : ℕ) → 1 ≤ k → k ≤ c → BlockPassed In k ds) → BlockPassed In (c + 1) ds → (k : ℕ) → 1 ≤ k → k ≤ c + 1 → BlockPassed In k ds
  one_further c below here k low up = elim (cases_lt c k) [
    | inl over ↦ let is : c + 1 ≡ k = omega arith in subst (λ x. BlockPassed In x ds) is here
    | inr under ↦ below k low under
  ]

  front_from : (fuel c : ℕ) → high ≤ fuel + c → ((k : ℕ) → 1 ≤ k → k ≤ c → BlockPassed In k ds) → (front : ℕ) × IsFront ds front
  front_from zero c enough below = (c, record { below = below; next = λ p. let low = most (c + 1) p in omega (arith, enough) })
  front_from (suc fuel) c enough below = elim (block_in (c + 1) ds all) [
    | inl here ↦ front_from fuel (c + 1) (omega (arith, enough)) (one_further c below here)
    | inr none ↦ (c, record { below = below; next = none })
  ]

pub front_of : (ds : List Datagram) → AllSpelled ds → (front : ℕ) × IsFront ds front
front_of ds all = let (high, is) = high_of ds all in front_from ds all high (λ k p. is.most k (p.0, inl p.1)) high 0 (omega arith) (λ k low up. absurd (omega (arith, low, up)))
