-- A row of places, of which some have a block: what a store with joined bytes and a ring stands for.
use Rattle.std.specs.Prelude.{◌≡◌, ◌+◌, ◌*◌, ◌^◌, ◌≤◌, ℕ, zero, suc, List, [], ◌∷◌, length, take, drop, Option, Some, None, slice_index_or, ⊤}
use Rattle.std.specs.FinMap as finite
use Rattle.tftp_ends.specs.Blocks.Store.{Held, nothing_held}

abbrev pub Slots : Type 0
Slots = List (Option (List ℕ))

-- the blocks of a row whose first place has the number n
abbrev pub numbered : ℕ → Slots → Held
numbered n [] = nothing_held
numbered n (None ∷ slots) = numbered (n + 1) slots
numbered n (Some bytes ∷ slots) = finite.insert (numbered (n + 1) slots) n bytes

-- joined bytes, cut into `count` blocks of b bytes
abbrev pub cut : ℕ → ℕ → List ℕ → Slots
cut b zero joined = []
cut b (suc count) joined = Some (take b joined) ∷ cut b count (drop b joined)

-- the row with a block at place i, which grows as far as that
abbrev pub placed : {X : Type 0} → List (Option X) → ℕ → X → List (Option X)
placed [] zero block = Some block ∷ []
placed [] (suc i) block = None ∷ placed [] i block
placed (slot ∷ slots) zero block = Some block ∷ slots
placed (slot ∷ slots) (suc i) block = slot ∷ placed slots i block

-- the bytes of the blocks up to the first gap
abbrev pub leading : Slots → ℕ
leading [] = 0
leading (None ∷ slots) = 0
leading (Some bytes ∷ slots) = length bytes + leading slots

-- how many bytes the blocks have
abbrev pub total : Slots → ℕ
total [] = 0
total (None ∷ slots) = total slots
total (Some bytes ∷ slots) = length bytes + total slots

-- how many blocks there are
abbrev pub filled : Slots → ℕ
filled [] = 0
filled (None ∷ slots) = filled slots
filled (Some bytes ∷ slots) = suc (filled slots)

-- the last place has a block of at most b bytes, and each other block is b bytes long
abbrev pub IsEven : ℕ → Slots → Type 0
IsEven b [] = ⊤
IsEven b (None ∷ slots) = (1 ≤ length slots) × IsEven b slots
IsEven b (Some bytes ∷ slots) = (length bytes ≤ b) × (1 ≤ length slots → length bytes ≡ b) × IsEven b slots

-- joined blocks 1 to front, and a ring for those after them
pub record IsRow (b : ℕ) (joined : List ℕ) (front : ℕ) (ring : Slots) : Type 0 where
  pub full : 1 ≤ length ring → length joined ≡ front * b
  pub most : length joined ≤ front * b
  pub least : front * b ≤ length joined + b
  pub even : IsEven b ring

-- no block waits at the first place, and `waiting` of the others have one
pub record IsRing (b window : ℕ) (joined : List ℕ) (front : ℕ) (ring : Slots) (waiting : ℕ) : Type 0 where
  pub row : IsRow b joined front ring
  pub gap : slice_index_or ring 0 None ≡ None
  pub within : length ring ≤ window
  pub numbers : front + length ring ≤ 4294967295
  pub count : waiting ≡ filled ring
  pub sizes : (1 ≤ b) × (1 ≤ window)

-- How many bytes are kept for a ring: none where no block waits, and else at most twice those of a window of blocks and
-- 2 MiB.
pub record IsRoom (b window : ℕ) (ring : Slots) (kept : ℕ) : Type 0 where
  pub none : ring ≡ [] → kept ≡ 0
  pub most : kept ≤ 2 * (window * b + 2 ^ 20)

-- each block is b bytes long
abbrev pub IsWhole : ℕ → Slots → Type 0
IsWhole b slots = (i : ℕ) (bytes : List ℕ) → slice_index_or slots i None ≡ Some bytes → length bytes ≡ b
