-- Places whose blocks are parts of the same bytes.
use Rattle.std.proofs.Common.{◌≡◌, ◌+◌, ◌*◌, ◌<◌, ◌≤◌, ℕ, zero, suc, List, [], ◌∷◌, ◌++◌, length, take, drop, Option, Some, None, option_map, refl, ap, subst, ◌∙◌, arith, slice_index_or}
use Rattle.std.proofs.lemmas.List.{length-take, length-drop, length-map, get_or-map, take_all, take-append-le, drop-append-le, drop_all, take_more, at_drop_more}
use Rattle.tftp_ends.specs.Blocks.{Slots, placed, leading, total, filled, IsEven, part, shown, AreWithin}
use Rattle.tftp_ends.specs.declared.blocks.waiting.Span.{Span}
use Rattle.std.proofs.Math.Nat.{suc-mul}
use Rattle.tftp_ends.proofs.BlocksLemmas.Places.{even_fits}

-- ---- each span within the bytes

pub within_more : (n m : ℕ) (ps : List (Option Span)) → n ≤ m → AreWithin n ps → AreWithin m ps
within_more n m [] low within = tt
within_more n m (None ∷ ps) low within = within_more n m ps low within
within_more n m (Some s ∷ ps) low within = let first = within.0 in (omega arith, within_more n m ps low within.1)

pub within_placed : (n : ℕ) (ps : List (Option Span)) (i : ℕ) (s : Span) → AreWithin n ps → s.start + s.len ≤ n → AreWithin n (placed ps i s)
within_placed n [] zero s within fits = (fits, tt)
within_placed n [] (suc i) s within fits = within_placed n [] i s tt fits
within_placed n (None ∷ ps) zero s within fits = (fits, within)
within_placed n (Some t ∷ ps) zero s within fits = (fits, within.1)
within_placed n (None ∷ ps) (suc i) s within fits = within_placed n ps i s within fits
within_placed n (Some t ∷ ps) (suc i) s within fits = (within.0, within_placed n ps i s within.1 fits)

pub within_at : (n : ℕ) (ps : List (Option Span)) (i : ℕ) (s : Span) → AreWithin n ps → slice_index_or ps i None ≡ Some s → s.start + s.len ≤ n
within_at n [] i s within e = absurd (cc)
within_at n (None ∷ ps) zero s within e = absurd (cc)
within_at n (None ∷ ps) (suc i) s within e = within_at n ps i s within e
within_at n (Some t ∷ ps) zero s within e = let is : t ≡ s = cc in subst (λ r. r.start + r.len ≤ n) is within.0
within_at n (Some t ∷ ps) (suc i) s within e = within_at n ps i s within.1 e

-- ---- the blocks that the places have

pub length_shown : (bs : List ℕ) (ps : List (Option Span)) → length (shown bs ps) ≡ length ps
length_shown bs ps = length-map ps (option_map (part bs))

shown_at : (bs : List ℕ) (ps : List (Option Span)) (i : ℕ) → i < length ps → slice_index_or (shown bs ps) i None ≡ option_map (part bs) (slice_index_or ps i None)
shown_at bs ps i within = get_or-map (option_map (part bs)) ps i None None within

-- the blocks from a place on, where a block is there
pub leading_at : (b : ℕ) (bs : List ℕ) (ps : List (Option Span)) (i : ℕ) (s : Span) → AreWithin (length bs) ps → IsEven b (shown bs ps) → i < length ps → slice_index_or ps i None ≡ Some s
    → (leading (drop i (shown bs ps)) ≡ s.len + leading (drop (i + 1) (shown bs ps))) × (s.len ≤ b)
leading_at b bs ps i s within even low e =
    let at = shown_at bs ps i low ∙ ap (option_map (part bs)) e in
    let ends = within_at (length bs) ps i s within e in
    let rest = length-drop s.start bs in
    let taken = length-take s.len (drop s.start bs) in
    let fits = even_fits b (shown bs ps) even i (part bs s) at in
    let long = length_shown bs ps in
    let step = at_drop_more leading (shown bs ps) i None (omega arith) ∙ ap (λ o. leading (o ∷ drop (i + 1) (shown bs ps))) at in
    (omega arith, omega arith)

pub leading_gap : (bs : List ℕ) (ps : List (Option Span)) (i : ℕ) → i < length ps → slice_index_or ps i None ≡ None → leading (drop i (shown bs ps)) ≡ 0
leading_gap bs ps i low e =
    let long = length_shown bs ps in
    at_drop_more leading (shown bs ps) i None (omega arith) ∙ ap (λ o. leading (o ∷ drop (i + 1) (shown bs ps))) (shown_at bs ps i low ∙ ap (option_map (part bs)) e)

part_more : (bs xs : List ℕ) (s : Span) → s.start + s.len ≤ length bs → part (bs ++ xs) s ≡ part bs s
part_more bs xs s within =
    let rest = length-drop s.start bs in
    ap (take s.len) (drop-append-le s.start bs xs (omega arith)) ∙ take-append-le s.len (drop s.start bs) xs (omega arith)

pub shown_more : (bs xs : List ℕ) (ps : List (Option Span)) → AreWithin (length bs) ps → shown (bs ++ xs) ps ≡ shown bs ps
shown_more bs xs [] within = refl
shown_more bs xs (None ∷ ps) within = ap (λ t. None ∷ t) (shown_more bs xs ps within)
shown_more bs xs (Some s ∷ ps) within = ap (λ t. Some t ∷ shown (bs ++ xs) ps) (part_more bs xs s within.0) ∙ ap (λ t. Some (part bs s) ∷ t) (shown_more bs xs ps within.1)

shown_placed : (bs : List ℕ) (ps : List (Option Span)) (i : ℕ) (s : Span) → shown bs (placed ps i s) ≡ placed (shown bs ps) i (part bs s)
shown_placed bs [] zero s = refl
shown_placed bs [] (suc i) s = ap (λ t. None ∷ t) (shown_placed bs [] i s)
shown_placed bs (p ∷ ps) zero s = refl
shown_placed bs (None ∷ ps) (suc i) s = ap (λ t. None ∷ t) (shown_placed bs ps i s)
shown_placed bs (Some t ∷ ps) (suc i) s = ap (λ u. Some (part bs t) ∷ u) (shown_placed bs ps i s)

-- the block that comes last is behind all others
part_last : (bs xs : List ℕ) (s : Span) → s.start ≡ length bs → s.len ≡ length xs → part (bs ++ xs) s ≡ xs
part_last bs xs s start len =
    ap (take s.len) (drop-append-le s.start bs xs (omega arith) ∙ ap (λ t. t ++ xs) (drop_all s.start bs (omega arith))) ∙ take_all s.len xs (omega arith)

pub shown_held : (bs xs : List ℕ) (ps : List (Option Span)) (i : ℕ) (s : Span) → AreWithin (length bs) ps → s.start ≡ length bs → s.len ≡ length xs
    → shown (bs ++ xs) (placed ps i s) ≡ placed (shown bs ps) i xs
shown_held bs xs ps i s within start len = shown_placed (bs ++ xs) ps i s
    ∙ ap (λ t. placed t i (part (bs ++ xs) s)) (shown_more bs xs ps within)
    ∙ ap (placed (shown bs ps) i) (part_last bs xs s start len)

-- ---- a place without a block behind the others

pub within_gap : (n : ℕ) (ps : List (Option Span)) → AreWithin n ps → AreWithin n (ps ++ None ∷ [])
within_gap n [] within = tt
within_gap n (None ∷ ps) within = within_gap n ps within
within_gap n (Some s ∷ ps) within = (within.0, within_gap n ps within.1)

pub shown_gap : (bs : List ℕ) (ps : List (Option Span)) → shown bs (ps ++ None ∷ []) ≡ shown bs ps ++ None ∷ []
shown_gap bs [] = refl
shown_gap bs (p ∷ ps) = ap (λ t. option_map (part bs) p ∷ t) (shown_gap bs ps)

-- ---- how many bytes the blocks have

pub total_append : (os more : Slots) → total (os ++ more) ≡ total os + total more
total_append [] more = let is : total more ≡ 0 + total more = omega arith in is
total_append (None ∷ os) more = total_append os more
total_append (Some x ∷ os) more = let rest = total_append os more in omega arith

pub total_more : (os : Slots) (i : ℕ) → i < length os → total (take (i + 1) os) ≡ total (take i os) + total (slice_index_or os i None ∷ [])
total_more os i low = ap total (take_more os i None low) ∙ total_append (take i os) (slice_index_or os i None ∷ [])

-- at most b for each
pub total_even : (b : ℕ) (os : Slots) → IsEven b os → total os ≤ filled os * b
total_even b [] even = omega arith
total_even b (None ∷ os) even = total_even b os even.1
total_even b (Some x ∷ os) even =
    let rest = total_even b os even.2 in
    let one = even.0 in
    let more : suc (filled os) * b ≡ filled os * b + b = suc-mul (filled os) b in
    omega arith
