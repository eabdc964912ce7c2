-- What a writer of lines holds, and what it was given.
use Rattle.std.specs.Prelude.{◌≡◌, ◌≢◌, ℕ, ◌++◌, ◌&&◌, Bool, true, false, List, [], length, nat_lt, Option, Result, Ok, Err}
use Rattle.std.specs.Io.KnownBytes.{Appends}

-- the writer inside, the bytes that wait to be written to it, and whether a write to it has failed
pub record Sink (W : Type 0) : Type 0 where
  pub inner : W
  pub waits : List ℕ
  pub failed : Bool

-- nothing waits, and no write has failed
abbrev pub IsFresh : {W : Type 0} → Sink W → Type 0
IsFresh sink = (sink.waits ≡ []) × (sink.failed ≡ false)

-- a write that answers an error, or takes none of a slice that is not empty
abbrev pub write_failed : {E : Type 0} → Result ℕ E → List ℕ → Bool
write_failed (Ok n) bytes = nat_lt n 1 && nat_lt 0 (length bytes)
write_failed (Err e) bytes = true

-- what a writer holds grew by a part of the bytes, from their start, and not by all
pub record AppendsPrefix (before after : Option (List ℕ)) (bytes : List ℕ) : Type 0 where
  pub written : List ℕ
  pub rest : List ℕ
  pub are : bytes ≡ written ++ rest
  pub left : rest ≢ []
  pub appended : Appends before after written

-- a slice was written whole, or a part of it
abbrev pub WritesWhole : {E : Type 0} → Option (List ℕ) → Option (List ℕ) → Result (Unit {0}) E → List ℕ → Type 0
WritesWhole before after (Ok _) bytes = Appends before after bytes
WritesWhole before after (Err e) bytes = AppendsPrefix before after bytes

-- bytes came after those that waited: what a writer holds grew by the first of them all, and the others wait
pub record Gathers (before after : Option (List ℕ)) (waited waits bytes : List ℕ) : Type 0 where
  pub written : List ℕ
  pub are : waited ++ bytes ≡ written ++ waits
  pub appended : Appends before after written

-- no write has failed, then or before, and the bytes came after those that waited
abbrev pub Added : {W : Type 0} → (W → Option (List ℕ)) → Sink W → Sink W → List ℕ → Type 0
Added contents old new bytes = (old.failed ≡ false) × (new.failed ≡ false) × Gathers (contents old.inner) (contents new.inner) old.waits new.waits bytes

-- no write has failed, then or before; what waited was written, and then the bytes, and nothing waits
abbrev pub Wrote : {W : Type 0} → (W → Option (List ℕ)) → Sink W → Sink W → List ℕ → Type 0
Wrote contents old new bytes = (old.failed ≡ false) × (new.failed ≡ false) × (new.waits ≡ []) × Appends (contents old.inner) (contents new.inner) (old.waits ++ bytes)

-- what the writer inside holds grew by a part of what waited and the bytes, from their start, and not by all
abbrev pub WritesPart : {W : Type 0} → (W → Option (List ℕ)) → Sink W → Sink W → List ℕ → Type 0
WritesPart contents old new bytes = AppendsPrefix (contents old.inner) (contents new.inner) (old.waits ++ bytes)

-- a write has failed: before, and nothing has changed; or else now, and what waited and the bytes were written in part
pub record Stops {W : Type 0} (contents : W → Option (List ℕ)) (old new : Sink W) (bytes : List ℕ) : Type 0 where
  pub failed : new.failed ≡ true
  pub before : old.failed ≡ true → new ≡ old
  pub part : old.failed ≡ false → WritesPart contents old new bytes

-- what a call does that adds bytes, however it ends
abbrev pub Adds : {W A E : Type 0} → (W → Option (List ℕ)) → Sink W → Sink W → Result A E → List ℕ → Type 0
Adds contents old new (Ok _) bytes = Added contents old new bytes
Adds contents old new (Err e) bytes = Stops contents old new bytes

-- what a call does that writes bytes after what waits, however it ends
abbrev pub Writes : {W A E : Type 0} → (W → Option (List ℕ)) → Sink W → Sink W → Result A E → List ℕ → Type 0
Writes contents old new (Ok _) bytes = Wrote contents old new bytes
Writes contents old new (Err e) bytes = Stops contents old new bytes

-- What a call does that writes what waits and gives the writer inside back, however it ends.
abbrev pub Ends : {W E : Type 0} → (W → Option (List ℕ)) → Sink W → W → Result (Unit {0}) E → Type 0
Ends contents sink inner (Ok _) = (sink.failed ≡ false) × Appends (contents sink.inner) (contents inner) sink.waits
Ends contents sink inner (Err e) = (sink.failed ≡ true → inner ≡ sink.inner) × (sink.failed ≡ false → AppendsPrefix (contents sink.inner) (contents inner) sink.waits)
