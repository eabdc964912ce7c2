-- The digits of bytes that are written piece by piece.
use Rattle.std.proofs.Common.{◌≡◌, ℕ, ◌+◌, ◌-◌, ◌/◌, ◌%◌, slice_index, List, [], ◌∷◌, ◌++◌, take, drop, refl, sym, ap, ◌∙◌, arith, take-append-drop}
use Rattle.std.proofs.Math.Seq.{take-add}
use Rattle.hex.specs.Hex.{encode_lower, encode_with, lower_digits}

pub encode-append : (xs ys : List ℕ) → encode_lower (xs ++ ys) ≡ encode_lower xs ++ encode_lower ys
unfolding encode_with
encode-append [] ys = refl
encode-append (x ∷ xs) ys = ap (λ l. slice_index lower_digits (x / 16) ∷ slice_index lower_digits (x % 16) ∷ l) (encode-append xs ys)

-- the digits of one more piece, and of the bytes after it
pub encode_more : (bytes : List ℕ) (done size : ℕ) → encode_lower (take (done + size) bytes) ≡ encode_lower (take done bytes) ++ encode_lower (take (done + size - done) (drop done bytes))
encode_more bytes done size =
    let e : done + size - done ≡ size = omega arith in
    rw e (ap encode_lower (take-add done size bytes) ∙ encode-append (take done bytes) (take size (drop done bytes)))

-- the digits of the pieces so far, of one more, and of the bytes after it
pub encode_rest : (bytes : List ℕ) (done size : ℕ)
    → encode_lower bytes ≡ encode_lower (take done bytes) ++ (encode_lower (take (done + size - done) (drop done bytes)) ++ encode_lower (drop (done + size - done) (drop done bytes)))
encode_rest bytes done size =
    let rest = drop done bytes in
    let n = done + size - done in
    ap encode_lower (sym (take-append-drop done bytes)) ∙ encode-append (take done bytes) rest
    ∙ ap (λ l. encode_lower (take done bytes) ++ l) (ap encode_lower (sym (take-append-drop n rest)) ∙ encode-append (take n rest) (drop n rest))

pub encode-nil : encode_lower [] ≡ []
unfolding encode_with
encode-nil = refl
