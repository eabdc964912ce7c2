-- Digits that are decoded piece by piece.
use Rattle.std.proofs.Common.{◌≡◌, ℕ, ◌+◌, ◌*◌, ◌%◌, ◌≤◌, List, [], ◌∷◌, ◌++◌, length, take, drop, Option, Some, None, Result, Ok, Err, refl, sym, ap, subst, ◌∙◌, arith, append-nil, take-append-drop, length-append, length-drop, IsErr}
use Rattle.std.specs.Result.{result_unwrap_or}
use Rattle.std.proofs.Math.Seq.{take-add}
use Rattle.std.proofs.lemmas.List.{drop-take, drop_all, length-take-le, take-append-le, take_all}
use Rattle.std.proofs.lemmas.Slice.{take-put_mid}
use Rattle.hex.specs.Hex.{decode_of, decode_pairs, digit_or_error, pair_value, value_at, hex_digit_value, ◌>>=◌}
use Rattle.hex.specs.declared.error.FromHexError.{FromHexError}
use Rattle.hex.proofs.HexLemmas.{decode_of-even}
use Rattle.hex.proofs.Pairs.{cons_byte, decode_pairs-ok_pair}
use borrow.Rule.Slice.PartMut.{put_mid}

bind_ok : {A B : Type 0} (r : Result A FromHexError) (f : A → Result B FromHexError) (b : B) → (r >>= f) ≡ Ok b → (a : A) × (r ≡ Ok a) × (f a ≡ Ok b)
bind_ok (Ok a) f b e = (a, refl, e)
bind_ok (Err x) f b e = cc e

-- what is read doesn't depend on where it stands
same_value : (c i j v : ℕ) (o : Option ℕ) → digit_or_error c i o ≡ Ok v → digit_or_error c j o ≡ Ok v
same_value c i j v (Some n) e = e
same_value c i j v None e = cc e

same_pair : (a b i j v : ℕ) → pair_value a b i ≡ Ok v → pair_value a b j ≡ Ok v
same_pair a b i j v e =
    let first = bind_ok (value_at a i) _ v e in
    let second = bind_ok (value_at b (i + 1)) _ v first.2 in
    rw (same_value a i j first.0 (hex_digit_value a) first.1, same_value b (i + 1) (j + 1) second.0 (hex_digit_value b) second.1) second.2

same_bytes : (i j : ℕ) (xs out : List ℕ) → decode_pairs i xs ≡ Ok out → decode_pairs j xs ≡ Ok out
unfolding decode_pairs
same_bytes i j [] out e = e
same_bytes i j (a ∷ []) out e = cc e
same_bytes i j (a ∷ b ∷ xs) out e =
    let first = bind_ok (pair_value a b i) _ out e in
    let rest = bind_ok (decode_pairs (i + 2) xs) _ out first.2 in
    rw (same_pair a b i j first.0 first.1, same_bytes (i + 2) (j + 2) xs rest.0 rest.1) rest.2

-- two texts that are decoded are decoded as one
both_at : (i : ℕ) (xs ys out more : List ℕ) → decode_pairs i xs ≡ Ok out → decode_pairs 0 ys ≡ Ok more → decode_pairs i (xs ++ ys) ≡ Ok (out ++ more)
unfolding decode_pairs
both_at i [] ys out more e f = same_bytes 0 i ys more f ∙ ap (λ r. Ok (result_unwrap_or r [] ++ more)) e
both_at i (a ∷ []) ys out more e f = cc e
both_at i (a ∷ b ∷ xs) ys out more e f =
    let first = bind_ok (pair_value a b i) _ out e in
    let rest = bind_ok (decode_pairs (i + 2) xs) _ out first.2 in
    rw (first.1, both_at (i + 2) xs ys rest.0 more rest.1 f) (ap (λ r. Ok (result_unwrap_or r [] ++ more)) rest.2)

-- and where one is decoded, both are
apart_at : (i : ℕ) (xs ys out : List ℕ) → length xs % 2 ≡ 0 → decode_pairs i (xs ++ ys) ≡ Ok out → (first : List ℕ) × (second : List ℕ) × (decode_pairs i xs ≡ Ok first) × (decode_pairs 0 ys ≡ Ok second)
unfolding decode_pairs
apart_at i [] ys out even e = ([], out, refl, same_bytes i 0 ys out e)
apart_at i (a ∷ []) ys out even e = absurd (omega arith)
apart_at i (a ∷ b ∷ xs) ys out even e =
    let first = bind_ok (pair_value a b i) _ out e in
    let rest = bind_ok (decode_pairs (i + 2) (xs ++ ys)) _ out first.2 in
    let parts = apart_at (i + 2) xs ys rest.0 (omega arith) rest.1 in
    (first.0 ∷ parts.0, parts.1, decode_pairs-ok_pair i a b first.0 xs first.1 ∙ ap (cons_byte first.0) parts.2, parts.3)

clash : {A : Type 0} (r : Result A FromHexError) (a : A) → IsErr r → r ≡ Ok a → ⊥
clash (Err e) a h k = cc k
clash (Ok x) a h k = cc h

by_cases : (r : Result (List ℕ) FromHexError) → ((out : List ℕ) → r ≡ Ok out → ⊥) → IsErr r
by_cases (Err e) h = refl
by_cases (Ok out) h = absurd (h out refl)

pub decoded_both : (xs ys out more : List ℕ) → length xs % 2 ≡ 0 → length ys % 2 ≡ 0 → decode_of xs ≡ Ok out → decode_of ys ≡ Ok more → decode_of (xs ++ ys) ≡ Ok (out ++ more)
decoded_both xs ys out more even_x even_y e f =
    decode_of-even (xs ++ ys) (omega (arith, length-append xs ys)) ∙ both_at 0 xs ys out more (sym (decode_of-even xs even_x) ∙ e) (sym (decode_of-even ys even_y) ∙ f)

pub refused_first : (xs ys : List ℕ) → length xs % 2 ≡ 0 → length ys % 2 ≡ 0 → IsErr (decode_of xs) → IsErr (decode_of (xs ++ ys))
refused_first xs ys even_x even_y h =
    by_cases _ (λ out e. let parts = apart_at 0 xs ys out even_x (sym (decode_of-even (xs ++ ys) (omega (arith, length-append xs ys))) ∙ e) in
    clash (decode_of xs) parts.0 h (decode_of-even xs even_x ∙ parts.2))

pub refused_second : (xs ys : List ℕ) → length xs % 2 ≡ 0 → length ys % 2 ≡ 0 → IsErr (decode_of ys) → IsErr (decode_of (xs ++ ys))
refused_second xs ys even_x even_y h =
    by_cases _ (λ out e. let parts = apart_at 0 xs ys out even_x (sym (decode_of-even (xs ++ ys) (omega (arith, length-append xs ys))) ∙ e) in
    clash (decode_of ys) parts.1 h (decode_of-even ys even_y ∙ parts.3))

-- ---- the same of what stands in a slice, before a place of it and behind

put_last : (n k : ℕ) (xs ys : List ℕ) → length xs ≤ n + k → put_mid n k xs ys ≡ take n xs ++ ys
put_last n k xs ys le =
    ap (λ l. take n xs ++ (ys ++ l)) (drop_all k (drop n xs) (omega (arith, length-drop n xs))) ∙ ap (λ l. take n xs ++ l) (append-nil ys)

pub last_decoded : (digits xs out more : List ℕ) (n k : ℕ) → length digits % 2 ≡ 0 → 2 * n ≤ length digits → length xs ≤ n + k → take n xs ≡ out
    → decode_of (take (2 * n) digits) ≡ Ok out → decode_of (drop (2 * n) digits) ≡ Ok more → decode_of digits ≡ Ok (put_mid n k xs more)
last_decoded digits xs out more n k even within room is first second =
    let front = length-take-le (2 * n) digits within in
    ap decode_of (sym (take-append-drop (2 * n) digits))
    ∙ decoded_both (take (2 * n) digits) (drop (2 * n) digits) out more (omega (arith, front)) (omega (arith, length-drop (2 * n) digits)) first second
    ∙ ap (λ l. Ok (l ++ more)) (sym is) ∙ ap Ok (sym (put_last n k xs more room))

pub more_decoded : (digits xs more : List ℕ) (done n k : ℕ) → 2 * (done + n) ≤ length digits → done + n ≤ length xs → length more ≡ n
    → decode_of (take (2 * done) digits) ≡ Ok (take done xs) → decode_of (take (2 * n) (drop (2 * done) digits)) ≡ Ok more
    → decode_of (take (2 * (done + n)) digits) ≡ Ok (take (done + n) (put_mid done k xs more))
more_decoded digits xs more done n k len room long before now =
    let front = length-take-le (2 * done) digits (omega (arith, len)) in
    let piece = length-take-le (2 * n) (drop (2 * done) digits) (omega (arith, len, length-drop (2 * done) digits)) in
    let twice : 2 * (done + n) ≡ 2 * done + 2 * n = omega arith in
    ap (λ k. decode_of (take k digits)) twice ∙ ap decode_of (take-add (2 * done) (2 * n) digits)
    ∙ decoded_both (take (2 * done) digits) _ (take done xs) more (omega (arith, front)) (omega (arith, piece)) before now
    ∙ ap Ok (sym (take-put_mid done k xs more (done + n) (omega (arith, long)) (omega (arith, room))))

pub refused_front : (digits : List ℕ) (n : ℕ) → length digits % 2 ≡ 0 → 2 * n ≤ length digits → IsErr (decode_of (take (2 * n) digits)) → IsErr (decode_of digits)
refused_front digits n even within h =
    subst (λ l. IsErr (decode_of l)) (take-append-drop (2 * n) digits)
    (refused_first (take (2 * n) digits) (drop (2 * n) digits) (let front = length-take-le (2 * n) digits within in omega (arith, front)) (omega (arith, length-drop (2 * n) digits)) h)

pub refused_rest : (digits : List ℕ) (n : ℕ) → length digits % 2 ≡ 0 → 2 * n ≤ length digits → IsErr (decode_of (drop (2 * n) digits)) → IsErr (decode_of digits)
refused_rest digits n even within h =
    subst (λ l. IsErr (decode_of l)) (take-append-drop (2 * n) digits)
    (refused_second (take (2 * n) digits) (drop (2 * n) digits) (let front = length-take-le (2 * n) digits within in omega (arith, front)) (omega (arith, length-drop (2 * n) digits)) h)

pub refused_piece : (digits : List ℕ) (done n : ℕ) → length digits % 2 ≡ 0 → 2 * (done + n) ≤ length digits → IsErr (decode_of (take (2 * n) (drop (2 * done) digits))) → IsErr (decode_of digits)
refused_piece digits done n even within h =
    let rest = length-drop (2 * done) digits in
    refused_rest digits done even (omega (arith, within)) (refused_front (drop (2 * done) digits) n (omega (arith, rest, within)) (omega (arith, rest, within)) h)

-- of digits up to a place, those behind another
pub refused_more : (digits : List ℕ) (done n : ℕ) → 2 * (done + n) ≤ length digits → IsErr (decode_of (take (2 * n) (drop (2 * done) digits))) → IsErr (decode_of (take (2 * (done + n)) digits))
refused_more digits done n within h =
    let front = length-take-le (2 * (done + n)) digits within in
    let twice : 2 * (done + n) ≡ 2 * done + 2 * n = omega arith in
    let same : drop (2 * done) (take (2 * (done + n)) digits) ≡ take (2 * n) (drop (2 * done) digits) = ap (λ k. drop (2 * done) (take k digits)) twice ∙ drop-take (2 * done) (2 * n) digits in
    refused_rest (take (2 * (done + n)) digits) done (omega (arith, front)) (omega (arith, front)) (subst (λ l. IsErr (decode_of l)) (sym same) h)

pub none_decoded : decode_of [] ≡ Ok []
unfolding decode_pairs
none_decoded = refl

pub front_is : (n : ℕ) (xs ys : List ℕ) → length xs ≡ n → take n (xs ++ ys) ≡ xs
front_is n xs ys long = take-append-le n xs ys (omega (arith, long)) ∙ take_all n xs (omega (arith, long))
