-- Each frame of a recording is accounted for once.
use Rattle.std.specs.Prelude.{◌≡◌, ◌≢◌, ◌⊎◌, ◌+◌, ℕ, List, [], ◌∷◌, length, Some}
use Rattle.net_udp.specs.Fragments.{Sets, frames_of, set_at}
use Rattle.net_udp.specs.declared.fragments.outcome.Outcome.TheVariants.{Waits}
use Rattle.net_udp.specs.declared.fragments.key.Key.{Key}
use Rattle.net_udp.specs.Recording.Brought.{BroughtState}
use Rattle.net_udp.specs.Recording.Fates.{sharers}
use Rattle.net_udp.specs.Recording.History.{Step}

-- the number is one of the list
abbrev pub IsIn : ℕ → List ℕ → Type 0
IsIn n [] = ⊥
IsIn n (x ∷ xs) = (x ≡ n) ⊎ IsIn n xs

-- a fragment of the frame waits under the key
abbrev pub WaitsAt : Key → ℕ → Sets → Type 0
WaitsAt key n sets = IsIn n (frames_of (set_at key sets))

-- a fragment of the frame waits
abbrev pub IsWaiting : ℕ → Sets → Type 0
IsWaiting n sets = (key : Key) × WaitsAt key n sets

-- With a frame of that number it is told what became of a frame: its fragment was too old, or had to make room, or shares
-- the fate of the frame that was read; or it is that frame, and does not wait.
abbrev pub IsTold : ℕ → ℕ → BroughtState → Type 0
IsTold n number b = IsIn n b.old ⊎ IsWaiting n b.ousted ⊎ IsIn n (sharers b.outcome) ⊎ ((n ≡ number) × (b.outcome ≢ Some Waits))

-- what became of the frame was told with one of these
abbrev pub IsSettled : ℕ → List Step → Type 0
IsSettled n [] = ⊥
IsSettled n (step ∷ before) = IsTold n (length before + 1) step.brought ⊎ IsSettled n before

-- of no frame it is told twice, with two of these
abbrev pub NoneTwice : List Step → Type 0
NoneTwice [] = Unit {0}
NoneTwice (step ∷ before) = ((n : ℕ) → IsTold n (length before + 1) step.brought → IsSettled n before → ⊥) × NoneTwice before

-- nor twice with one of them; the frame itself is the last of those that made a packet whole with it
pub record ToldOneWay (n : ℕ) (b : BroughtState) : Type 0 where
  pub old : IsIn n b.old → IsWaiting n b.ousted → ⊥
  pub shares : IsIn n (sharers b.outcome) → IsIn n b.old ⊎ IsWaiting n b.ousted → ⊥
