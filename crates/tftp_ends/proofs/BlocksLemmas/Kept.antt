-- What a map of blocks has at a number, and what becomes of the numbers kept beside it.
use Rattle.std.proofs.Common.{◌≡◌, ◌≢◌, ◌+◌, ◌-◌, ◌<◌, ◌≤◌, ℕ, zero, suc, Bool, ◌⊎◌, inl, inr, List, [], ◌∷◌, ◌++◌, map, length, true, false, cond, refl, ap, sym, subst, ◌∙◌, Option, Some, None, arith, option_map, is_some, max, slice_index_or, Result, Ok, Err, IfOk, OnErr}
use Rattle.std.specs.Ordering.{nat_cmp}
use Rattle.std.specs.BTreeMap.{is_at}
use Rattle.std.specs.Cmp.{eq_by_cmp_equiv}
use Rattle.std.specs.Map.{lookup}
use Rattle.std.specs.FinMap as finite
use Rattle.std.proofs.lemmas.Cmp.{nat_cmp_total}
use Rattle.std.proofs.lemmas.Bool.{cases_lt}
use Rattle.tftp_ends.specs.Blocks.{Held, nothing_held, IsHeldFront, IsHighest, IsOrderly, IsPending, IsJoin, Takes, JoinsSeveral, Slots, numbered, filled, map_of, IsKept}
use Rattle.tftp_ends.proofs.BlocksLemmas.Orderly.{front_unique, takes_within}
use Rattle.tftp_ends.proofs.BlocksLemmas.Places.{got_same, got_other, at_number, below}
use Rattle.tftp_ends.proofs.BlocksLemmas.Ring.{len_numbered, filled_within}

-- ---- what the map that entries show has at a number

map_cond : {X Y : Type 0} (f : X → Y) (b : Bool) (x : X) (o : Option X) → cond b (Some (f x)) (option_map f o) ≡ option_map f (cond b (Some x) o)
map_cond f true x o = refl
map_cond f false x o = refl

find_in : {X : Type 0} (f : X → List ℕ) (es : List (ℕ × X)) (q : ℕ) → finite.find nat_cmp q (map (λ e. (e.0, f e.1)) es) ≡ option_map f (lookup (is_at (nat_cmp q)) es)
find_in f [] q = refl
find_in f (e ∷ es) q = ap (cond (is_at (nat_cmp q) e.0) (Some (f e.1))) (find_in f es q) ∙ map_cond f (is_at (nat_cmp q) e.0) e.1 (lookup (is_at (nat_cmp q)) es)

pub get_in : {X : Type 0} (f : X → List ℕ) (es : List (ℕ × X)) (q : ℕ) → finite.get (map_of f es) q ≡ option_map f (lookup (is_at (nat_cmp q)) es)
get_in f es q = finite.get-from_entries nat_cmp_total _ q ∙ find_in f es q

-- entries that differ at one number show maps that differ there
pub insert_in : {X : Type 0} (f : X → List ℕ) (es fs : List (ℕ × X)) (k : ℕ) (x : X)
    → ((q : ℕ) → lookup (is_at (nat_cmp q)) fs ≡ cond (is_at (nat_cmp k) q) (Some x) (lookup (is_at (nat_cmp q)) es))
    → map_of f fs ≡ finite.insert (map_of f es) k (f x)
insert_in f es fs k x h = finite.same_map nat_cmp_total finite.nat_cmp-IsAntisymmetric _ _ (λ q.
    get_in f fs q ∙ ap (option_map f) (h q) ∙ sym (map_cond f (is_at (nat_cmp k) q) x (lookup (is_at (nat_cmp q)) es))
    ∙ ap (λ b. cond b (Some (f x)) (option_map f (lookup (is_at (nat_cmp q)) es))) ((eq_by_cmp_equiv nat_cmp_total).symm k q)
    ∙ sym (finite.get-insert nat_cmp_total (map_of f es) k (f x) q ∙ ap (cond (is_at (nat_cmp q) k) (Some (f x))) (get_in f es q)))

some_map : {X Y : Type 0} (f : X → Y) (o : Option X) → is_some (option_map f o) ≡ is_some o
some_map f None = refl
some_map f (Some x) = refl

has_in : {X : Type 0} (f : X → List ℕ) (es : List (ℕ × X)) (q : ℕ) → is_some (finite.get (map_of f es) q) ≡ is_some (lookup (is_at (nat_cmp q)) es)
has_in f es q = ap is_some (get_in f es q) ∙ some_map f (lookup (is_at (nat_cmp q)) es)

found : (o : Option (List ℕ)) → is_some o ≡ true → (bytes : List ℕ) × (o ≡ Some bytes)
found None e = absurd (cc)
found (Some bytes) e = (bytes, refl)

missing : (o : Option (List ℕ)) → is_some o ≡ false → o ≡ None
missing None e = refl
missing (Some bytes) e = absurd (cc)

-- ---- a block more

-- the block at q, once k is held too
at : (held : Held) (k : ℕ) (x : List ℕ) (q : ℕ) (y : List ℕ) → finite.get (finite.insert held k x) q ≡ Some y → ((q ≡ k) × (y ≡ x)) ⊎ ((q ≢ k) × (finite.get held q ≡ Some y))
at held k x q y e = elim (cases_lt q k) [
  | inl less ↦ inr (λ same. omega arith, sym (got_other held k x q (λ same. omega arith)) ∙ e)
  | inr rest ↦ elim (cases_lt k q) [
    | inl more ↦ inr (λ same. omega arith, sym (got_other held k x q (λ same. omega arith)) ∙ e)
    | inr low ↦
        let is : k ≡ q = omega arith in
        let both : Some y ≡ Some x = sym e ∙ ap (finite.get (finite.insert held k x)) (sym is) ∙ got_same held k x in
        let bytes : y ≡ x = cc in inl (omega arith, bytes)
  ]
]

-- with the block k too
there : (held : Held) (k : ℕ) (x : List ℕ) (q : ℕ) (y : List ℕ) → finite.get held k ≡ None → finite.get held q ≡ Some y → finite.get (finite.insert held k x) q ≡ Some y
there held k x q y none e = got_other held k x q (λ same. let no : None ≡ Some y = sym none ∙ ap (finite.get held) (sym same) ∙ e in absurd (cc)) ∙ e

higher : (a k : ℕ) → (a ≤ max a k) × (k ≤ max a k) × ((max a k ≡ a) ⊎ (max a k ≡ k))
higher a k = (omega arith, omega arith, elim (cases_lt a k) [ inl less ↦ inr (omega arith) | inr more ↦ inl (omega arith) ])

highest_more : (held : Held) (high k : ℕ) (x : List ℕ) → IsHighest held high → 1 ≤ k → finite.get held k ≡ None → IsHighest (finite.insert held k x) (max high k)
highest_more held high k x is one none =
    let now = higher high k in
    let low = now.0 in
    let reach = now.1 in
    record {
      lowest = λ e. absurd (omega arith);
      held_there = λ some. elim (cases_lt high k) [
        | inl less ↦ let same : k ≡ max high k = omega arith in (x, ap (finite.get (finite.insert held k x)) (sym same) ∙ got_same held k x)
        | inr more ↦
            let same : high ≡ max high k = omega arith in
            let before = is.held_there (omega arith) in
            (before.0, ap (finite.get (finite.insert held k x)) (sym same) ∙ there held k x high before.0 none before.1)
      ];
      most = λ q y e. elim (at held k x q y e) [
        | inl (same, bytes) ↦ omega arith
        | inr (other, old) ↦ let within = is.most q y old in omega arith
      ];
    }

-- a new block below one that is held is whole, and one above all leaves them whole
new_below : (b w : ℕ) (held : Held) (k long q : ℕ) (y : List ℕ) → Takes b w held k long → finite.get held k ≡ None → finite.get held q ≡ Some y → k < q → long ≡ b
new_below b w held k long q y takes none e low = elim (cases_lt long b) [
  | inl less ↦ elim (takes.is_last less) [
    | inl known ↦ elim (takes.before_last known.0 known.1) [
      | inl (before, exact) ↦ exact
      | inr (same, short) ↦ let no : None ≡ Some known.1.0 = sym none ∙ ap (finite.get held) same ∙ known.1.1 in absurd (cc)
    ]
    | inr above ↦ let high = above q y e in absurd (omega arith)
  ]
  | inr same ↦ let fits = takes.fits in omega arith
]

new_above : (b w : ℕ) (held : Held) (k long q : ℕ) (y : List ℕ) → IsOrderly b held → Takes b w held k long → finite.get held q ≡ Some y → q < k → length y ≡ b
new_above b w held k long q y orderly takes e low = elim (cases_lt (length y) b) [
  | inl less ↦ elim (takes.before_last q (y, e, less)) [
    | inl (before, exact) ↦ absurd (omega arith)
    | inr (same, short) ↦ absurd (omega arith)
  ]
  | inr same ↦ let fits = orderly.fits q y e in omega arith
]

orderly_more : (b w : ℕ) (held : Held) (k : ℕ) (x : List ℕ) → IsOrderly b held → Takes b w held k (length x) → finite.get held k ≡ None → IsOrderly b (finite.insert held k x)
orderly_more b w held k x orderly takes none =
    let one = takes.from_one in
    record {
      from_one = got_other held k x 0 (λ same. omega arith) ∙ orderly.from_one;
      fits = λ q y e. elim (at held k x q y e) [
        | inl (same, bytes) ↦ subst (λ t. length t ≤ b) (sym bytes) takes.fits
        | inr (other, old) ↦ orderly.fits q y old
      ];
      whole = λ q r y z e f low. elim (at held k x q y e) [
        | inl (same, bytes) ↦ elim (at held k x r z f) [
          | inl (equal, later) ↦ absurd (omega arith)
          | inr (other, old) ↦ ap length bytes ∙ new_below b w held k (length x) r z takes none old (omega arith)
        ]
        | inr (other, old) ↦ elim (at held k x r z f) [
          | inl (equal, later) ↦ new_above b w held k (length x) q y orderly takes old (omega arith)
          | inr (distinct, after) ↦ orderly.whole q r y z old after low
        ]
      ];
    }

past_highest : (held : Held) (high q : ℕ) → IsHighest held high → high < q → finite.get held q ≡ None
past_highest held high q is more = by (finite.get held q) refl
  where
    by : (o : Option (List ℕ)) → finite.get held q ≡ o → finite.get held q ≡ None
    by None e = e
    by (Some y) e = let within = is.most q y e in absurd (omega arith)

front_more : (held : Held) (old high k new : ℕ) (x : List ℕ) → IsHeldFront held old → finite.get held k ≡ None → IsHighest (finite.insert held k x) high → high ≤ 4294967295
    → ((q : ℕ) → old < q → q ≤ new → is_some (finite.get (finite.insert held k x) q) ≡ true)
    → (new < 4294967295 → is_some (finite.get (finite.insert held k x) (new + 1)) ≡ false)
    → IsHeldFront (finite.insert held k x) new
front_more held old high k new x is none highest most has next = record {
  below = λ q low up. elim (cases_lt old q) [
    | inl over ↦ found (finite.get (finite.insert held k x) q) (has q over up)
    | inr under ↦ let before = is.below q low under in (before.0, there held k x q before.0 none before.1)
  ];
  next = elim (cases_lt new 4294967295) [
    | inl room ↦ missing (finite.get (finite.insert held k x) (new + 1)) (next room)
    | inr last ↦ past_highest (finite.insert held k x) high (new + 1) highest (omega arith)
  ];
}

pub nothing_kept : (b w : ℕ) → 1 ≤ w → IsKept b w nothing_held 0 0 0
nothing_kept b w some = record {
  up_to = record { below = λ k low up. absurd (omega arith); next = finite.get-empty nat_cmp 1 };
  top = record {
    lowest = λ e. refl;
    held_there = λ e. absurd (omega arith);
    most = λ k bytes e. let no : None ≡ Some bytes = sym (finite.get-empty nat_cmp k) ∙ e in absurd (cc);
  };
  orderly = record {
    from_one = finite.get-empty nat_cmp 0;
    fits = λ k bytes e. let no : None ≡ Some bytes = sym (finite.get-empty nat_cmp k) ∙ e in absurd (cc);
    whole = λ k other bytes later e f low. let no : None ≡ Some bytes = sym (finite.get-empty nat_cmp k) ∙ e in absurd (cc);
  };
  within = omega arith;
  counted = finite.len-empty nat_cmp (List ℕ);
  some = some;
}

-- what is kept once a new block came and the front went as far as the blocks do
pub kept_more : {X : Type 0} (f : X → List ℕ) (es fs : List (ℕ × X)) (b w front high k new : ℕ) (x : X) → IsKept b w (map_of f es) front high (length es)
    → Takes b w (map_of f es) k (length (f x)) → finite.get (map_of f es) k ≡ None → max high k ≤ 4294967295
    → ((q : ℕ) → lookup (is_at (nat_cmp q)) fs ≡ cond (is_at (nat_cmp k) q) (Some x) (lookup (is_at (nat_cmp q)) es))
    → length fs ≡ length es + 1 → front ≤ new
    → ((q : ℕ) → front < q → q ≤ new → is_some (lookup (is_at (nat_cmp q)) fs) ≡ true)
    → (new < 4294967295 → is_some (lookup (is_at (nat_cmp (new + 1))) fs) ≡ false)
    → IsKept b w (map_of f fs) new (max high k) (length fs)
kept_more f es fs b w front high k new x is takes none most updates long from has next =
    let held = map_of f es in
    let same = insert_in f es fs k x updates in
    let one = takes.from_one in
    let near = takes_within b w (map_of f es) front k (length (f x)) is.up_to takes in
    let within = is.within in
    let highest = highest_more (map_of f es) high k (f x) is.top one none in
    let count = finite.len-insert nat_cmp_total (map_of f es) k (f x)
    ∙ ap (λ c. cond c (finite.len (map_of f es)) (finite.len (map_of f es) + 1)) (ap is_some none) in
    let before = is.counted in
    let reach = higher high k in
    let either = reach.2 in
    subst (λ m. IsKept b w m new (max high k) (length fs)) (sym same) (record {
      up_to = front_more (map_of f es) front (max high k) k new (f x) is.up_to none highest most
          (λ q low up. ap (λ m. is_some (finite.get m q)) (sym same) ∙ has_in f fs q ∙ has q low up)
          (λ room. ap (λ m. is_some (finite.get m (new + 1))) (sym same) ∙ has_in f fs (new + 1) ∙ next room);
      top = highest;
      orderly = orderly_more b w (map_of f es) k (f x) is.orderly takes none;
      within = elim either [ inl old ↦ omega arith | inr this ↦ omega arith ];
      counted = omega arith;
      some = is.some;
    })

-- ---- how many blocks wait

-- what is held at `count` numbers from n
abbrev rows : Held → ℕ → ℕ → Slots
rows held n zero = []
rows held n (suc count) = finite.get held n ∷ rows held (n + 1) count

length_rows : (held : Held) (n count : ℕ) → length (rows held n count) ≡ count
length_rows held n zero = refl
length_rows held n (suc count) = ap suc (length_rows held (n + 1) count)

row_at : (held : Held) (n count i : ℕ) → i < count → slice_index_or (rows held n count) i None ≡ finite.get held (n + i)
row_at held n zero i low = absurd (omega arith)
row_at held n (suc count) zero low = let is : n ≡ n + zero = omega arith in ap (finite.get held) is
row_at held n (suc count) (suc i) low = row_at held (n + 1) count i (omega arith) ∙ (let is : n + 1 + i ≡ n + suc i = omega arith in ap (finite.get held) is)

row_past : (held : Held) (n count i : ℕ) → count ≤ i → slice_index_or (rows held n count) i None ≡ None
row_past held n zero i high = refl
row_past held n (suc count) zero high = absurd (omega arith)
row_past held n (suc count) (suc i) high = row_past held (n + 1) count i (omega arith)

as_row : (held : Held) (top : ℕ) → finite.get held 0 ≡ None → ((q : ℕ) → top < q → finite.get held q ≡ None) → numbered 1 (rows held 1 top) ≡ held
as_row held top one above = finite.same_map nat_cmp_total finite.nat_cmp-IsAntisymmetric _ _ by
  where
    by : (q : ℕ) → finite.get (numbered 1 (rows held 1 top)) q ≡ finite.get held q
    by zero = below 1 (rows held 1 top) 0 (omega arith) ∙ sym one
    by (suc i) = at_number 1 (rows held 1 top) i (suc i) (omega arith) ∙ elim (cases_lt i top) [
      | inl low ↦ row_at held 1 top i low ∙ (let is : 1 + i ≡ suc i = omega arith in ap (finite.get held) is)
      | inr high ↦ row_past held 1 top i high ∙ sym (above (suc i) (omega arith))
    ]

filled_rows : (held : Held) (n count more all : ℕ) → all ≡ count + more → ((i : ℕ) → i < count → (bytes : List ℕ) × (finite.get held (n + i) ≡ Some bytes))
    → filled (rows held n all) ≡ count + filled (rows held (n + count) more)
filled_rows held n zero more all e has =
    let is : all ≡ more = omega arith in
    let start : n ≡ n + zero = omega arith in
    let same = ap (λ m. filled (rows held n m)) is ∙ ap (λ m. filled (rows held m more)) start in omega arith
filled_rows held n (suc count) more zero e has = absurd (omega arith)
filled_rows held n (suc count) more (suc all) e has =
    let first = has 0 (omega arith) in
    let start : n ≡ n + 0 = omega arith in
    let here = ap (λ o. filled (o ∷ rows held (n + 1) all)) (ap (finite.get held) start ∙ first.1) in
    let rest = filled_rows held (n + 1) count more all (omega arith) (λ i low. let next = has (suc i) (omega arith) in (next.0, (let is : n + 1 + i ≡ n + suc i = omega arith in ap (finite.get held) is) ∙ next.1)) in
    let shift : n + 1 + count ≡ n + suc count = omega arith in
    let moved = ap (λ m. filled (rows held m more)) shift in omega arith

few_rows : (held : Held) (n count : ℕ) → finite.get held n ≡ None → filled (rows held n (suc count)) ≤ count
few_rows held n count gap =
    let here = ap (λ o. filled (o ∷ rows held (n + 1) count)) gap in
    let few = filled_within (rows held (n + 1) count) in
    let long = length_rows held (n + 1) count in omega arith

len_between : (held : Held) (front w : ℕ) → IsHeldFront held front → finite.get held 0 ≡ None → ((q : ℕ) → front + w < q → finite.get held q ≡ None) → 1 ≤ w → (front ≤ finite.len held) × (finite.len held < front + w)
len_between held front zero is one above some = absurd (omega arith)
len_between held front (suc more) is one above some =
    let count = ap finite.len (sym (as_row held (front + suc more) one above)) ∙ len_numbered 1 (rows held 1 (front + suc more)) in
    let parts = filled_rows held 1 front (suc more) (front + suc more) refl (λ i low. is.below (1 + i) (omega arith) (omega arith)) in
    let gap = (let next : 1 + front ≡ front + 1 = omega arith in ap (finite.get held) next) ∙ is.next in
    let few = few_rows held (1 + front) more gap in (omega arith, omega arith)

pub kept_between : (b w : ℕ) (held : Held) (front high count : ℕ) → IsKept b w held front high count → (front ≤ count) × (count < front + w)
kept_between b w held front high count is =
    let between = len_between held front w is.up_to is.orderly.from_one (λ q far. past_highest held high q is.top (let within = is.within in omega arith)) is.some in
    let low = between.0 in
    let up = between.1 in
    let same = is.counted in (omega arith, omega arith)

pub kept_pending : (b w : ℕ) (held : Held) (front high count : ℕ) → IsKept b w held front high count → IsPending held (count - front)
kept_pending b w held front high count is other known =
    let same = front_unique held other front known is.up_to in
    let between = kept_between b w held front high count is in
    let low = between.0 in
    let counted = is.counted in omega arith

-- ---- the blocks joined

pub join_step : (held : Held) (n : ℕ) (wire bytes : List ℕ) → IsJoin held n wire → finite.get held (n + 1) ≡ Some bytes → IsJoin held (n + 1) (wire ++ bytes)
join_step held n wire bytes before e = let is : suc n ≡ n + 1 = omega arith in subst (λ m. IsJoin held m (wire ++ bytes)) is (wire, bytes, before, e, refl)

pub join_whole : (held : Held) (front : ℕ) (wire : List ℕ) → IsHeldFront held front → IsJoin held front wire → (other : ℕ) → IsHeldFront held other → IsJoin held other wire
join_whole held front wire is joined other known = subst (λ m. IsJoin held m wire) (front_unique held front other is known) joined

pub where_ok : {T E : Type 0} (P Q : T → Type 0) (r : Result T E) → ((value : T) → P value → Q value) → IfOk r P → IfOk r Q
where_ok P Q (Ok value) to is = to value is
where_ok P Q (Err e) to is = tt

-- ---- a first block that is alone is the join

pub join_first : (held : Held) (front : ℕ) (bytes : List ℕ) → IsHeldFront held front → front ≤ 1 → finite.get held 1 ≡ Some bytes → (other : ℕ) → IsHeldFront held other → IsJoin held other bytes
join_first held zero bytes is low e = let no : None ≡ Some bytes = sym is.next ∙ e in absurd (cc)
join_first held (suc zero) bytes is low e = join_whole held 1 bytes is (join_step held 0 [] bytes refl e)
join_first held (suc (suc n)) bytes is low e = absurd (omega arith)

pub join_none : (held : Held) (front : ℕ) → IsHeldFront held front → front ≤ 1 → finite.get held 1 ≡ None → (other : ℕ) → IsHeldFront held other → IsJoin held other []
join_none held zero is low e = join_whole held 0 [] is refl
join_none held (suc n) is low e = let has = is.below 1 (omega arith) (omega arith) in let no : None ≡ Some has.0 = sym e ∙ has.1 in absurd (cc)

pub joins_several : (held : Held) (front : ℕ) → IsHeldFront held front → 1 < front → JoinsSeveral held
joins_several held front is more =
    let first = is.below 1 (omega arith) (omega arith) in
    let second = is.below 2 (omega arith) (omega arith) in
    (first.0, second.0, first.1, second.1)
