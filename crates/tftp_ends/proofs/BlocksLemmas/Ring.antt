-- What a ring and the joined blocks before it stand for.
use Rattle.std.proofs.Common.{◌≡◌, ◌+◌, ◌-◌, ◌*◌, ◌<◌, ◌≤◌, ℕ, zero, suc, List, [], ◌∷◌, ◌++◌, length, take, drop, Some, None, ap, sym, subst, ◌∙◌, ◌⊎◌, inl, inr, false, cond, arith, ◌^◌, max, slice_index_or, is_some}
use Rattle.std.specs.Ordering.{nat_cmp}
use Rattle.std.proofs.lemmas.Cmp.{nat_cmp_total}
use Rattle.std.proofs.lemmas.Bool.{cases_lt}
use Rattle.std.proofs.lemmas.List.{length-take, length-drop, length-append, take_all, get_or_append_left, get_or-append_right, nil_from_length, take_rest}
use Rattle.std.proofs.Math.Nat.{suc-mul, mul-le-mul_right}
use Rattle.std.proofs.Math.Seq.{take-add}
use Rattle.std.specs.FinMap as map
use Rattle.tftp_ends.specs.Blocks.{IsHeldFront, IsHighest, IsOrderly, IsPending, IsJoin, Takes, Slots, numbered, cut, placed, filled, IsEven, IsRow, IsRing, IsRoom, IsWhole, total}
use Rattle.tftp_ends.proofs.BlocksLemmas.Orderly.{front_unique, takes_within}
use Rattle.tftp_ends.proofs.BlocksLemmas.Spans.{total_even}
use Rattle.tftp_ends.proofs.BlocksLemmas.Places.{below, at_place, at_block, none_at_0, length_cut, at_cut, row_even, even_fits, even_exact, even_last, past, even_placed, length_placed, placed_other, filled_placed, append_placed, numbered_placed, placed_first, row_step, slots_step}

pub slot_joined : (b n : ℕ) (js : List ℕ) (ring : Slots) (i : ℕ) → i < n → slice_index_or (cut b n js ++ ring) i None ≡ Some (take b (drop (i * b) js))
slot_joined b n js ring i low = let long = length_cut b n js in get_or_append_left (cut b n js) ring None i (omega arith) ∙ at_cut b n js i low

pub slot_ring : (b n : ℕ) (js : List ℕ) (ring : Slots) (i : ℕ) → n ≤ i → slice_index_or (cut b n js ++ ring) i None ≡ slice_index_or ring (i - n) None
slot_ring b n js ring i high = get_or-append_right (cut b n js) ring n i None (length_cut b n js) high

pub length_slots : (b n : ℕ) (js : List ℕ) (ring : Slots) → length (cut b n js ++ ring) ≡ n + length ring
length_slots b n js ring = length-append (cut b n js) ring ∙ ap (λ m. m + length ring) (length_cut b n js)

pub slot_of : (slots : Slots) (k : ℕ) (x : List ℕ) → map.get (numbered 1 slots) k ≡ Some x → (1 ≤ k) × (slice_index_or slots (k - 1) None ≡ Some x)
slot_of slots zero x e = let no : None ≡ Some x = sym (none_at_0 slots) ∙ e in absurd (cc)
slot_of slots (suc k) x e = (omega arith, sym (at_block slots (suc k) (omega arith)) ∙ e)

-- ---- front, highest, pending

pub front_is : (b n : ℕ) (js : List ℕ) (ring : Slots) → slice_index_or ring 0 None ≡ None → IsHeldFront (numbered 1 (cut b n js ++ ring)) n
front_is b n js ring gap = record {
  below = λ k low high. (take b (drop ((k - 1) * b) js), at_block (cut b n js ++ ring) k low ∙ slot_joined b n js ring (k - 1) (omega arith));
  next = at_place (cut b n js ++ ring) n ∙ slot_ring b n js ring n (omega arith) ∙ (let none : n - n ≡ 0 = omega arith in ap (λ m. slice_index_or ring m None) none) ∙ gap;
}

last_of : (b : ℕ) (slots : Slots) → IsEven b slots → 1 ≤ length slots → (x : List ℕ) × (map.get (numbered 1 slots) (length slots) ≡ Some x)
last_of b slots even some = let last = even_last b slots even (length slots - 1) (omega arith) in (last.0, at_block slots (length slots) some ∙ last.1)

highest_slots : (b : ℕ) (slots : Slots) → IsEven b slots → IsHighest (numbered 1 slots) (length slots)
highest_slots b slots even = record {
  lowest = λ e. ap (numbered 1) (nil_from_length slots e);
  held_there = last_of b slots even;
  most = λ k bytes e. let at = slot_of slots k bytes e in let low = past slots (k - 1) bytes at.1 in let one = at.0 in omega arith;
}

pub highest_is : (b n : ℕ) (js : List ℕ) (ring : Slots) → IsRow b js n ring → IsHighest (numbered 1 (cut b n js ++ ring)) (n + length ring)
highest_is b n js ring row = subst (λ m. IsHighest (numbered 1 (cut b n js ++ ring)) m) (length_slots b n js ring) (highest_slots b (cut b n js ++ ring) (row_even b js n ring row))

below_none : (n : ℕ) (os : Slots) (q : ℕ) → q < n → map.contains_key (numbered n os) q ≡ false
below_none n os q low = ap is_some (below n os q low)

pub len_numbered : (n : ℕ) (os : Slots) → map.len (numbered n os) ≡ filled os
len_numbered n [] = map.len-empty nat_cmp (List ℕ)
len_numbered n (None ∷ os) = len_numbered (n + 1) os
len_numbered n (Some x ∷ os) = map.len-insert nat_cmp_total (numbered (n + 1) os) n x
    ∙ ap (λ c. cond c (map.len (numbered (n + 1) os)) (map.len (numbered (n + 1) os) + 1)) (below_none (n + 1) os n (omega arith))
    ∙ (let rest = len_numbered (n + 1) os in omega arith)

filled_cut : (b n : ℕ) (js : List ℕ) (ring : Slots) → filled (cut b n js ++ ring) ≡ n + filled ring
filled_cut b zero js ring = let is : filled ring ≡ 0 + filled ring = omega arith in is
filled_cut b (suc n) js ring = let rest = filled_cut b n (drop b js) ring in omega arith

pub filled_within : (os : Slots) → filled os ≤ length os
filled_within [] = omega arith
filled_within (None ∷ os) = let rest = filled_within os in omega arith
filled_within (Some x ∷ os) = let rest = filled_within os in omega arith

pub pending_is : (b n : ℕ) (js : List ℕ) (ring : Slots) (waiting : ℕ) → slice_index_or ring 0 None ≡ None → waiting ≡ filled ring → IsPending (numbered 1 (cut b n js ++ ring)) waiting
pending_is b n js ring waiting gap count front is =
    let same = front_unique (numbered 1 (cut b n js ++ ring)) front n is (front_is b n js ring gap) in
    len_numbered 1 (cut b n js ++ ring) ∙ filled_cut b n js ring ∙ ap (λ m. m + filled ring) (sym same) ∙ ap (λ m. front + m) (sym count)

pub pending_fewer : (ring : Slots) (w : ℕ) → slice_index_or ring 0 None ≡ None → length ring ≤ w → 1 ≤ w → filled ring < w
pending_fewer [] w gap within some = omega arith
pending_fewer (None ∷ os) w gap within some = let rest = filled_within os in omega arith
pending_fewer (Some x ∷ os) w gap within some = absurd (cc)

-- ---- what may be held

-- a block that is not held, where it may be
new_exact : (b w : ℕ) (slots : Slots) (k long : ℕ) → IsEven b slots → Takes b w (numbered 1 slots) k long → map.get (numbered 1 slots) k ≡ None → k < length slots → long ≡ b
new_exact b w slots k long even takes none low = elim (cases_lt long b) [
  | inl less ↦ elim (takes.is_last less) [
    | inl known ↦ elim (takes.before_last known.0 known.1) [
      | inl (before, exact) ↦ exact
      | inr (same, short) ↦
          let no : None ≡ Some known.1.0 = sym none ∙ ap (map.get (numbered 1 slots)) same ∙ known.1.1 in absurd (cc)
    ]
    | inr above ↦ let last = last_of b slots even (omega arith) in let high = above (length slots) last.0 last.1 in absurd (omega arith)
  ]
  | inr same ↦ let fits = takes.fits in omega arith
]

new_whole : (b w : ℕ) (slots : Slots) (k long : ℕ) → IsEven b slots → Takes b w (numbered 1 slots) k long → length slots < k → IsWhole b slots
new_whole b w slots k long even takes high i x e = elim (cases_lt (length x) b) [
  | inl less ↦
      let low = past slots i x e in
      elim (takes.before_last (i + 1) (x, at_place slots i ∙ e, less)) [
        | inl (before, exact) ↦ absurd (omega arith)
        | inr (same, short) ↦ absurd (omega arith)
      ]
  | inr same ↦ let fits = even_fits b slots even i x e in omega arith
]

ring_whole : (b n : ℕ) (js : List ℕ) (ring : Slots) → IsWhole b (cut b n js ++ ring) → IsWhole b ring
ring_whole b n js ring whole i x e = whole (n + i) x (slot_ring b n js ring (n + i) (omega arith) ∙ (let is : n + i - n ≡ i = omega arith in ap (λ m. slice_index_or ring m None) is) ∙ e)

joined_whole : (b n : ℕ) (js : List ℕ) (ring : Slots) → IsRow b js n ring → IsWhole b (cut b n js ++ ring) → length js ≡ n * b
joined_whole b zero js ring row whole = let most = row.most in omega arith
joined_whole b (suc n) js ring row whole =
    let exact = whole n (take b (drop (n * b) js)) (slot_joined b (suc n) js ring n (omega arith)) in
    let most = row.most in
    let taken = length-take b (drop (n * b) js) in
    let dropped = length-drop (n * b) js in
    let least = row.least in
    omega arith

-- with the block at its place, before the blocks up to the gap are moved
pub new_row : (b w n : ℕ) (js : List ℕ) (ring : Slots) (k : ℕ) (x : List ℕ) → IsRow b js n ring → Takes b w (numbered 1 (cut b n js ++ ring)) k (length x)
    → map.get (numbered 1 (cut b n js ++ ring)) k ≡ None → n < k → IsRow b js n (placed ring (k - n - 1) x)
new_row b w n js ring k x row takes none after =
    let slots = cut b n js ++ ring in
    let even = row_even b js n ring row in
    let long = length_slots b n js ring in
    record {
      full = λ h. elim (cases_lt 0 (length ring)) [
        | inl some ↦ row.full (omega arith)
        | inr empty ↦ joined_whole b n js ring row (new_whole b w (cut b n js ++ ring) k (length x) even takes (omega arith))
      ];
      most = row.most;
      least = row.least;
      even = even_placed b ring (k - n - 1) x row.even takes.fits
          (λ low. new_exact b w (cut b n js ++ ring) k (length x) even takes none (omega arith))
          (λ high. ring_whole b n js ring (new_whole b w (cut b n js ++ ring) k (length x) even takes (omega arith)));
    }

pub new_waits : (b w n : ℕ) (js : List ℕ) (ring : Slots) (waiting k : ℕ) (x : List ℕ) → IsRing b w js n ring waiting → Takes b w (numbered 1 (cut b n js ++ ring)) k (length x)
    → map.get (numbered 1 (cut b n js ++ ring)) k ≡ None → n + 1 < k → k ≤ 4294967295 → IsRing b w js n (placed ring (k - n - 1) x) (waiting + 1)
new_waits b w n js ring waiting k x is takes none after fits =
    let near = takes_within b w (numbered 1 (cut b n js ++ ring)) n k (length x) (front_is b n js ring is.gap) takes in
    let within = is.within in
    let numbers = is.numbers in
    let count = is.count in
    record {
      row = new_row b w n js ring k x is.row takes none (omega arith);
      gap = placed_other ring (k - n - 1) x 0 (λ e. omega arith) ∙ is.gap;
      within = elim (length_placed ring (k - n - 1) x) [
        | inl (low, long) ↦ omega arith
        | inr (high, long) ↦ omega arith
      ];
      numbers = elim (length_placed ring (k - n - 1) x) [
        | inl (low, long) ↦ omega arith
        | inr (high, long) ↦ omega arith
      ];
      count =
          let empty = sym (slot_ring b n js ring (k - 1) (omega arith)) ∙ sym (at_block (cut b n js ++ ring) k (omega arith)) ∙ none in
          let is_place : k - 1 - n ≡ k - n - 1 = omega arith in
          let one = filled_placed ring (k - n - 1) x (ap (λ m. slice_index_or ring m None) (sym is_place) ∙ empty) in omega arith;
      sizes = is.sizes;
    }

-- a block that is taken lies no further than a window
pub place_within : (b w n : ℕ) (js : List ℕ) (ring : Slots) (waiting k : ℕ) (x : List ℕ) → IsRing b w js n ring waiting → Takes b w (numbered 1 (cut b n js ++ ring)) k (length x) → k ≤ n + w
place_within b w n js ring waiting k x is takes = takes_within b w (numbered 1 (cut b n js ++ ring)) n k (length x) (front_is b n js ring is.gap) takes

pub new_after : (b n : ℕ) (js : List ℕ) (ring : Slots) (k : ℕ) → 1 ≤ k → map.get (numbered 1 (cut b n js ++ ring)) k ≡ None → n < k
new_after b n js ring k one none = elim (cases_lt n k) [
  | inl more ↦ more
  | inr low ↦ let no : None ≡ Some (take b (drop ((k - 1) * b) js)) = sym none ∙ at_block (cut b n js ++ ring) k one ∙ slot_joined b n js ring (k - 1) (omega arith) in absurd (cc)
]

pub numbered_new : (b n : ℕ) (js : List ℕ) (ring : Slots) (k : ℕ) (x : List ℕ) → n < k → numbered 1 (cut b n js ++ placed ring (k - n - 1) x) ≡ map.insert (numbered 1 (cut b n js ++ ring)) k x
numbered_new b n js ring k x after =
    let long = length_cut b n js in
    ap (numbered 1) (append_placed (cut b n js) ring (k - n - 1) (k - 1) x (omega arith))
    ∙ numbered_placed (cut b n js ++ ring) (k - 1) x
    ∙ (let is : k - 1 + 1 ≡ k = omega arith in ap (λ m. map.insert (numbered 1 (cut b n js ++ ring)) m x) is)

first_is : (n : ℕ) (ring : Slots) (k : ℕ) (x : List ℕ) → n < k → k - n - 1 ≤ 0 → placed ring (k - n - 1) x ≡ Some x ∷ drop 1 ring
first_is n ring k x after first = (let is : k - n - 1 ≡ 0 = omega arith in ap (λ p. placed ring p x) is) ∙ placed_first ring x

pub first_row : (b w n : ℕ) (js : List ℕ) (ring : Slots) (k : ℕ) (x : List ℕ) → IsRow b js n ring → Takes b w (numbered 1 (cut b n js ++ ring)) k (length x)
    → map.get (numbered 1 (cut b n js ++ ring)) k ≡ None → n < k → k - n - 1 ≤ 0 → IsRow b js n (Some x ∷ drop 1 ring)
first_row b w n js ring k x row takes none after first = subst (IsRow b js n) (first_is n ring k x after first) (new_row b w n js ring k x row takes none after)

-- with the block behind the joined ones
pub first_moved : (b w n : ℕ) (js : List ℕ) (ring : Slots) (k : ℕ) (x : List ℕ) → IsRow b js n ring → Takes b w (numbered 1 (cut b n js ++ ring)) k (length x)
    → map.get (numbered 1 (cut b n js ++ ring)) k ≡ None → n < k → k - n - 1 ≤ 0 → IsRow b (js ++ x) k (drop 1 ring)
first_moved b w n js ring k x row takes none after first =
    let next : n + 1 ≡ k = omega arith in
    subst (λ m. IsRow b (js ++ x) m (drop 1 ring)) next (row_step b js n x (drop 1 ring) (first_row b w n js ring k x row takes none after first))

-- where no other block waits
none_waits : (b : ℕ) (ring : Slots) → IsEven b ring → filled ring ≤ 0 → length ring ≤ 0
none_waits b [] even none = omega arith
none_waits b (None ∷ os) even none = let some = even.0 in let rest = none_waits b os even.1 none in absurd (omega arith)
none_waits b (Some x ∷ os) even none = absurd (omega arith)

pub none_is_dropped : (b : ℕ) (ring : Slots) → IsEven b ring → filled ring ≤ 0 → ring ≡ drop 1 ring
none_is_dropped b ring even none =
    let short = none_waits b ring even none in
    let empty = nil_from_length ring (omega arith) in empty ∙ ap (drop 1) (sym empty)

pub first_alone : (b w n : ℕ) (js : List ℕ) (ring : Slots) (waiting k : ℕ) (x : List ℕ) → IsRing b w js n ring waiting → Takes b w (numbered 1 (cut b n js ++ ring)) k (length x)
    → map.get (numbered 1 (cut b n js ++ ring)) k ≡ None → n < k → k - n - 1 ≤ 0 → k ≤ 4294967295 → filled ring ≤ 0 → IsRing b w (js ++ x) k ring waiting
first_alone b w n js ring waiting k x is takes none after first fits alone =
    let short = none_waits b ring is.row.even alone in
    record {
      row = subst (IsRow b (js ++ x) k) (sym (none_is_dropped b ring is.row.even alone)) (first_moved b w n js ring k x is.row takes none after first);
      gap = is.gap;
      within = is.within;
      numbers = omega arith;
      count = is.count;
      sizes = is.sizes;
    }

pub numbered_first : (b n : ℕ) (js : List ℕ) (ring : Slots) (k : ℕ) (x : List ℕ) → IsRow b js n (Some x ∷ drop 1 ring) → n < k → k - n - 1 ≤ 0
    → numbered 1 (cut b k (js ++ x) ++ drop 1 ring) ≡ map.insert (numbered 1 (cut b n js ++ ring)) k x
numbered_first b n js ring k x row after first =
    (let next : k ≡ n + 1 = omega arith in ap (λ m. numbered 1 (cut b m (js ++ x) ++ drop 1 ring)) next)
    ∙ ap (numbered 1) (slots_step b js n x (drop 1 ring) row ∙ ap (λ t. cut b n js ++ t) (sym (first_is n ring k x after first)))
    ∙ numbered_new b n js ring k x after

-- what is known where a block is new, of the fields behind the view
pub new_facts : (b w n : ℕ) (js : List ℕ) (ring : Slots) (k : ℕ) (x : List ℕ) (kept : ℕ) (now : Slots × ℕ × ℕ × ℕ) → (cut b n js ++ ring, b, w, kept) ≡ now
    → Takes now.1 now.2 (numbered 1 now.0) k (length x) → None ≡ map.get (numbered 1 now.0) k
    → Takes b w (numbered 1 (cut b n js ++ ring)) k (length x) × (map.get (numbered 1 (cut b n js ++ ring)) k ≡ None) × (n < k)
new_facts b w n js ring k x kept now view takes none =
    let inside = ap (λ m. map.get (numbered 1 m.0) k) view ∙ sym none in
    (subst (λ m. Takes m.1 m.2 (numbered 1 m.0) k (length x)) (sym view) takes, inside, new_after b n js ring k takes.from_one inside)

-- ---- how many bytes are kept

-- where a block was put above the front: what waits is less than a window
pub new_room : (b w n : ℕ) (js : List ℕ) (ring : Slots) (waiting place : ℕ) (x : List ℕ) (kept : ℕ) → IsRing b w js n ring waiting → IsRing b w js n (placed ring place x) (waiting + 1)
    → length x ≤ b → kept ≤ max (2 * (waiting * b + 2 ^ 20) + 1) (total ring) + length x → IsRoom b w (placed ring place x) kept
new_room b w n js ring waiting place x kept before after fits low =
    let count = before.count in
    let now = after.count in
    let bytes = total_even b ring before.row.even in
    let same : filled ring * b ≡ waiting * b = ap (λ m. m * b) (sym count) in
    let fewer = pending_fewer (placed ring place x) w after.gap after.within after.sizes.1 in
    let window : suc (suc waiting) * b ≤ w * b = mul-le-mul_right {m = suc (suc waiting)} {n = w} b (omega arith) in
    let two = suc-mul (suc waiting) b in
    let one = suc-mul waiting b in
    let some = after.sizes.0 in
    record {
      none = λ empty. let long = ap length empty in absurd (elim (length_placed ring place x) [
        | inl (here, is) ↦ omega arith
        | inr (past, is) ↦ omega arith
      ]);
      most = omega arith;
    }

-- where the block was not put, though the room of those that have left may have been given back
pub same_room : (b w n : ℕ) (js : List ℕ) (ring : Slots) (waiting kept now : ℕ) → IsRing b w js n ring waiting → IsRoom b w ring kept → now ≤ max kept (total ring) → IsRoom b w ring now
same_room b w n js ring waiting kept now is room low =
    let most = room.most in
    let bytes = total_even b ring is.row.even in
    let fewer = pending_fewer ring w is.gap is.within is.sizes.1 in
    let window : filled ring * b ≤ w * b = mul-le-mul_right {m = filled ring} {n = w} b (omega arith) in
    record {
      none = λ empty. let nothing = room.none empty in let blocks = ap total empty in omega arith;
      most = omega arith;
    }

-- where none waits
pub none_kept : (b w n : ℕ) (js : List ℕ) (ring : Slots) (waiting kept : ℕ) → IsRing b w js n ring waiting → IsRoom b w ring kept
    → IsPending (numbered 1 (cut b n js ++ ring)) 0 → kept ≡ 0
none_kept b w n js ring waiting kept is room none =
    let front = front_is b n js ring is.gap in
    let some = pending_is b n js ring waiting is.gap is.count n front in
    let no = none n front in
    let count = is.count in
    let short = none_waits b ring is.row.even (omega arith) in
    room.none (nil_from_length ring (omega arith))

-- ---- one block

pub block_bytes : (b from to : ℕ) (js : List ℕ) → ((to ≡ length js) × (length js - from ≤ b)) ⊎ (to ≡ from + b) → take (to - from) (drop from js) ≡ take b (drop from js)
block_bytes b from to js (inl (whole, short)) =
    let long = length-drop from js in
    ap (λ m. take (m - from) (drop from js)) whole ∙ take_rest js from ∙ sym (take_all b (drop from js) (omega arith))
block_bytes b from to js (inr more) = let is : to - from ≡ b = omega arith in ap (λ m. take m (drop from js)) is

pub ring_block : (b n : ℕ) (js : List ℕ) (ring : Slots) (k : ℕ) → n < k → map.get (numbered 1 (cut b n js ++ ring)) k ≡ slice_index_or ring (k - 1 - n) None
ring_block b n js ring k after = at_block (cut b n js ++ ring) k (omega arith) ∙ slot_ring b n js ring (k - 1) (omega arith)

pub joined_block : (b n : ℕ) (js : List ℕ) (ring : Slots) (k : ℕ) → 1 ≤ k → k ≤ n → map.get (numbered 1 (cut b n js ++ ring)) k ≡ Some (take b (drop ((k - 1) * b) js))
joined_block b n js ring k one low = at_block (cut b n js ++ ring) k one ∙ slot_joined b n js ring (k - 1) (omega arith)

pub orderly_slots : (b : ℕ) (slots : Slots) → IsEven b slots → IsOrderly b (numbered 1 slots)
orderly_slots b slots even = record {
  from_one = none_at_0 slots;
  fits = λ k bytes e. let at = slot_of slots k bytes e in even_fits b slots even (k - 1) bytes at.1;
  whole = λ k other bytes later e f before.
      let at = slot_of slots k bytes e in
      let then = slot_of slots other later f in
      let low = past slots (other - 1) later then.1 in
      let one = at.0 in
      even_exact b slots even (k - 1) bytes at.1 (omega arith);
}

-- ---- the joined blocks

join_up_to : (b n : ℕ) (js : List ℕ) (ring : Slots) (m : ℕ) → m ≤ n → IsJoin (numbered 1 (cut b n js ++ ring)) m (take (m * b) js)
join_up_to b n js ring zero low = let none : zero * b ≡ 0 = omega arith in ap (λ t. take t js) none
join_up_to b n js ring (suc m) low = (
  take (m * b) js,
  take b (drop (m * b) js),
  join_up_to b n js ring m (omega arith),
  at_place (cut b n js ++ ring) m ∙ slot_joined b n js ring m (omega arith),
  (let more : suc m * b ≡ m * b + b = omega arith in ap (λ t. take t js) more) ∙ take-add (m * b) b js,
)

pub join_is : (b n : ℕ) (js : List ℕ) (ring : Slots) → IsRow b js n ring → slice_index_or ring 0 None ≡ None
    → (front : ℕ) → IsHeldFront (numbered 1 (cut b n js ++ ring)) front → IsJoin (numbered 1 (cut b n js ++ ring)) front js
join_is b n js ring row gap front is =
    let same = front_unique (numbered 1 (cut b n js ++ ring)) n front (front_is b n js ring gap) is in
    subst (λ m. IsJoin (numbered 1 (cut b n js ++ ring)) m js) same
    (subst (λ t. IsJoin (numbered 1 (cut b n js ++ ring)) n t) (take_all (n * b) js row.most) (join_up_to b n js ring n (omega arith)))
