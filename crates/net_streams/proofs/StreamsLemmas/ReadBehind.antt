-- What a read leaves in the memory that it reads into, behind what was held.
use Rattle.std.proofs.Common.{◌≡◌, ℕ, ◌+◌, ◌≤◌, List, ◌++◌, length, take, drop, ap, ◌∙◌, arith, length-take-le}
use Rattle.std.proofs.Math.Seq.{take-add}
use Rattle.std.proofs.lemmas.List.{drop_at, take-append-le}
use Rattle.std.proofs.lemmas.Slice.{take-put_mid_below}
use borrow.Rule.Slice.PartMut.{put_mid, post_of}

-- so many bytes as were held, and what was written behind them
pub take_put : (a k n : ℕ) (xs ys : List ℕ) → a ≤ length xs → n ≤ length ys → take (a + n) (put_mid a k xs ys) ≡ take a xs ++ take n ys
take_put a k n xs ys within fits =
    let after = post_of a k xs in
    let front : take a (put_mid a k xs ys) ≡ take a xs = take-put_mid_below a k xs ys a (omega arith) within in
    let back : take n (drop a (put_mid a k xs ys)) ≡ take n ys =
    ap (take n) (drop_at (take a xs) (ys ++ after) a (length-take-le a xs within)) ∙ take-append-le n ys after fits in
    take-add a n (put_mid a k xs ys) ∙ ap (λ l. l ++ take n (drop a (put_mid a k xs ys))) front ∙ ap (λ l. take a xs ++ l) back
