-- Blocks in a map, and the numbers that a store keeps beside them.
use Rattle.std.specs.Prelude.{◌≡◌, ◌+◌, ◌≤◌, ℕ, List, map, refl}
use Rattle.std.specs.Coded.{Coded, code_by, coded×, coded_ℕ, coded_list}
use Rattle.std.specs.FinMap as finite
use Rattle.std.specs.Global.{Vec}
use Rattle.tftp_ends.specs.Blocks.Store.{Held, IsHeldFront, IsHighest, IsOrderly}

-- the code of a map of blocks with two sizes
abbrev pub kept_code : Coded (Held × ℕ × ℕ)
kept_code = code_by (Held × (ℕ × ℕ)) (coded× (finite.code coded_ℕ (coded_list coded_ℕ)) (coded× coded_ℕ coded_ℕ)) (λ v. (v.0, (v.1, v.2))) (λ p. (p.0, p.1.0, p.1.1)) (λ _. refl)

-- the map of entries whose values f shows as bytes
abbrev pub map_of : {X : Type 0} → (X → List ℕ) → List (ℕ × X) → Held
map_of f entries = finite.from_entries (map (λ entry. (entry.0, f entry.1)) entries)

abbrev pub held_in : List (ℕ × Vec ℕ) → Held
held_in entries = map_of (λ block. block.items) entries

-- the front, the highest block and the number of blocks
pub record IsKept (b window : ℕ) (held : Held) (front highest count : ℕ) : Type 0 where
  pub up_to : IsHeldFront held front
  pub top : IsHighest held highest
  pub orderly : IsOrderly b held
  pub within : highest ≤ front + window
  pub counted : finite.len held ≡ count
  pub some : 1 ≤ window
