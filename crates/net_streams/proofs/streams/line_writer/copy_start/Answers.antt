use Rattle.std.proofs.Common.{◌≡◌, ℕ, suc, zero, ◌+◌, ◌-◌, ◌≤◌, ◌++◌, ◌∷◌, List, [], length, take, drop, refl, sym, ◌∙◌, arith, take-append-drop, length-drop}
use Rattle.std.specs.Simd.Lanes.{chunk, put_chunk}
use Rattle.std.proofs.Math.Seq.{take-take}
use Rattle.std.proofs.lemmas.List.{take_all}
use Rattle.std.proofs.lemmas.Simd.{length-chunk, length-put_chunk, take_more_put_chunk}
use Rattle.net_streams.proofs.streams.line_writer.copy_start.Goals as goal

-- what was laid over the front of a list begins it
laid : (m : ℕ) (xs ys : List ℕ) → m ≤ length ys → length ys ≤ length xs → take m (put_chunk 0 xs ys) ≡ take m ys
laid zero xs ys short fits = refl
laid (suc m) xs [] short fits = absurd (omega (arith, short))
laid (suc m) [] (y ∷ ys) short fits = absurd (omega (arith, fits))
laid (suc m) (x ∷ xs) (y ∷ ys) short fits = λ p. y ∷ laid m xs ys (omega (arith, short)) (omega (arith, fits)) p

-- a list whose first n and last n were laid over another of its length is there whole
overlapping : (n m : ℕ) (from to : List ℕ) → length to ≡ length from → n ≤ length from → m + n ≡ length from → m ≤ n
    → put_chunk m (put_chunk 0 to (chunk 0 n from)) (chunk m n from) ≡ from
overlapping n m from to same some whole twice =
    let first = chunk 0 n from in
    let first_long = length-chunk 0 n from (omega arith) in
    let last_long = length-chunk m n from (omega arith) in
    let once = put_chunk 0 to first in
    let once_long = length-put_chunk 0 to first in
    let both = put_chunk m once (chunk m n from) in
    let both_long = length-put_chunk m once (chunk m n from) in
    let begins : take m once ≡ take m from = laid m to first (omega (arith, first_long)) (omega (arith, first_long)) ∙ take-take m n from twice in
    let ends : chunk m n from ≡ drop m from = take_all n (drop m from) (omega (arith, length-drop m from)) in
    sym (take_all (length from) both (omega (arith, both_long, once_long)))
    ∙ take_more_put_chunk m once (chunk m n from) (length from) (omega (arith, last_long)) (omega (arith, once_long))
    ∙ (λ p. begins p ++ ends p) ∙ take-append-drop m from

pub returns : goal.returns
returns c = overlapping 8 (length c.args.begins.now - 8) c.args.begins.now c.args.start.now c.requires (omega arith) (omega arith) (omega arith)
