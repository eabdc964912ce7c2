-- What was taken of a reader's bytes, and where its lines end.
use Rattle.std.proofs.Common.{◌≡◌, ◌≢◌, ℕ, suc, ◌+◌, ◌-◌, ◌<◌, ◌≤◌, List, [], ◌∷◌, ◌++◌, length, take, drop, get_or, Option, refl, sym, ap, ◌∙◌, arith, take-append-drop, length-take, length-take-le, get_or-take, drop-cons, take-take}
use Rattle.std.specs.Io.KnownBytes.{prepend_known, Consumes, Keeps}
use Rattle.std.proofs.KnownBytes.{Consumes-nil}
use Rattle.std.proofs.Math.Seq.{take-length, take-add}
use Rattle.std.proofs.lemmas.List.{take_at, take_more}
use Rattle.std.proofs.lemmas.List.Elements.{All-append, All-take}
use Rattle.net_streams.proofs.StreamsLemmas.Taking.{taken_step}
use Rattle.tftp_capture.specs.{line_at, HasNoEnd, HasByteAt}

pub nonempty : (xs : List ℕ) → length xs ≢ 0 → (byte : ℕ) × (more : List ℕ) × (xs ≡ byte ∷ more)
nonempty [] h = absurd (h refl)
nonempty (x ∷ xs) h = (x, xs, refl)

pub taken_all : (k0 k1 known : Option (List ℕ)) (line held : List ℕ) → Consumes k0 k1 line → Keeps k1 (prepend_known held known)
    → Consumes k0 (prepend_known (drop (length held) held) known) (line ++ held)
taken_all k0 k1 known line held p q = rw take-length at (taken_step k0 k1 known line held (length held) p q)

-- all that is held, or so many bytes of it
pub held_all : (k0 known : Option (List ℕ)) (held : List ℕ) → Keeps k0 (prepend_known held known) → Consumes k0 (prepend_known (drop (length held) held) known) held
held_all k0 known held kept = taken_all k0 k0 known [] held (Consumes-nil k0) kept

pub held_some : (k0 known : Option (List ℕ)) (held : List ℕ) (n : ℕ) → Keeps k0 (prepend_known held known) → Consumes k0 (prepend_known (drop n held) known) (take n held)
held_some k0 known held n kept = taken_step k0 k0 known [] held n (Consumes-nil k0) kept

-- what was looked through and more behind it has no LF
pub no_end_on : (held : List ℕ) (seen found : ℕ) → HasNoEnd (take seen held) → HasNoEnd (take found (drop seen held)) → HasNoEnd (take (seen + found) held)
no_end_on held seen found p q = rw take-add (All-append (λ b. b ≢ 10) (take seen held) (take found (drop seen held)) p q)

-- the byte at a place that is at or before the first LF
pub byte_in : (held : List ℕ) (count size : ℕ) → HasNoEnd (take count held) → size ≤ count → size < length held → HasByteAt held size (get_or held size 0)
byte_in held count size q upto within = record {
  front = take size held;
  more = drop (suc size) held;
  are = sym (take-append-drop size held) ∙ ap (λ l. take size held ++ l) (drop-cons held size 0 within);
  no_end = rw (take-take size count held upto) at (All-take (λ b. b ≢ 10) size (take count held) q);
  sized = length-take-le size held (omega arith);
}

-- a byte before the first LF is none
pub no_end_at : (held : List ℕ) (count k : ℕ) → HasNoEnd (take count held) → k < count → k < length held → get_or held k 0 ≢ 10
no_end_at held count k q low within =
    let e : k < length (take count held) = rw length-take (omega arith) in
    let is : get_or (take count held) k 0 ≡ get_or held k 0 = rw get_or-take in
    λ h. q k 0 e (is ∙ h)

pub line_ended : (held : List ℕ) (count : ℕ) → count < length held → get_or held count 0 ≡ 10 → take (count + 1) held ≡ take count held ++ 10 ∷ []
line_ended held count within is = take_more held count 0 within ∙ ap (λ b. take count held ++ b ∷ []) is

-- all that was read ahead, which is not nothing
pub taken_rest : (k0 known : Option (List ℕ)) (held : List ℕ) → Keeps k0 (prepend_known held known) → length held ≢ 0
    → (bytes : List ℕ) × Consumes k0 (prepend_known (drop (length held) held) known) bytes × ((byte : ℕ) × (more : List ℕ) × (bytes ≡ byte ∷ more))
taken_rest k0 known held kept some = (held, taken_all k0 k0 known [] held (Consumes-nil k0) kept, nonempty held some)

-- the line that lies before an LF
pub line_lies : (n : ℕ) (held : List ℕ) → line_at (n + 1) held ≡ take n held
line_lies n held = let e : n + 1 - 1 ≡ n = omega arith in ap (λ k. take k held) e

-- what was held stands before what has come
pub held_first : (held more : List ℕ) → take (length held) (held ++ more) ≡ held
held_first held more = take_at held more (length held) refl
