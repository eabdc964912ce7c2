-- A line cut at its first space.
use Rattle.std.proofs.Common.{◌≡◌, ◌≢◌, ℕ, suc, ◌+◌, ◌<◌, ◌==◌, false, List, [], ◌∷◌, ◌++◌, length, take, drop, get_or, All, refl, sym, ap, ◌∙◌, arith, add-one, take-append-drop, drop-cons, ne_eqb}
use Rattle.std.proofs.lemmas.List.{take_all}
use Rattle.std.proofs.lemmas.List.Elements.{All-weaker}
use Rattle.std.proofs.lemmas.List.Splits.{slice_split_at, slice_split_none}
use Rattle.tftp_capture.specs.{pieces}

no_space : (xs : List ℕ) → All (λ b. b ≢ 32) xs → All (λ b. (b == 32) ≡ false) xs
no_space xs h = All-weaker (λ b. b ≢ 32) (λ b. (b == 32) ≡ false) (λ b n. ne_eqb b 32 n) xs h

pub pieces_none : (xs : List ℕ) (n : ℕ) → All (λ b. b ≢ 32) (take n xs) → n ≡ length xs → pieces xs ≡ xs ∷ []
pieces_none xs n h e =
    let all : take n xs ≡ xs = take_all n xs (omega (arith, e)) in
    slice_split_none (λ b. b == 32) xs (no_space xs (rw all at h))

pub pieces_at : (xs : List ℕ) (n : ℕ) → All (λ b. b ≢ 32) (take n xs) → n < length xs → get_or xs n 0 ≡ 32 → pieces xs ≡ take n xs ∷ pieces (drop (n + 1) xs)
pieces_at xs n h within is =
    let parts : xs ≡ take n xs ++ 32 ∷ drop (n + 1) xs =
    sym (take-append-drop n xs) ∙ ap (λ l. take n xs ++ l) (drop-cons xs n 0 within ∙ ap (λ b. b ∷ drop (suc n) xs) is ∙ ap (λ k. 32 ∷ drop k xs) (sym (add-one n))) in
    ap pieces parts ∙ slice_split_at (λ b. b == 32) (take n xs) 32 (drop (n + 1) xs) (no_space (take n xs) h) refl
