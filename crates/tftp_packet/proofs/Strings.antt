-- Bytes are cut into strings in one way.
use Rattle.std.proofs.Common.{◌≡◌, ◌≢◌, ◌⊎◌, inl, inr, ℕ, ◌+◌, ◌-◌, ◌≤◌, List, [], ◌∷◌, ◌++◌, length, take, drop, refl, sym, ap, subst, ◌∙◌, append_assoc, length-append, length-drop, take_all, arith, count_by, cond, ◌==◌}
use Rattle.std.proofs.Math.Seq.{take-append_seam}
use Rattle.std.proofs.lemmas.List.{length-take, take-append-drop}
use Rattle.std.proofs.lemmas.Bool.{cases_eq, ne_eqb}
use Rattle.std.proofs.lemmas.List.{append-nil}
use Rattle.std.proofs.lemmas.List.Sums.{sum_by-append}
use Rattle.tftp_packet.specs.{IsString, AreStrings, terminated, strings, strings_of, EndsWithZero}

-- a string ends at the first zero byte
pub split_unique : (s t xs ys : List ℕ) → IsString s → IsString t → s ++ 0 ∷ xs ≡ t ++ 0 ∷ ys → (s ≡ t) × (xs ≡ ys)
split_unique [] [] xs ys p q e = (refl, cc)
split_unique [] (b ∷ t) xs ys p q e = let head : b ≡ 0 = cc in absurd (q.0 head)
split_unique (a ∷ s) [] xs ys p q e = let head : a ≡ 0 = cc in absurd (p.0 head)
split_unique (a ∷ s) (b ∷ t) xs ys p q e =
    let rest : s ++ 0 ∷ xs ≡ t ++ 0 ∷ ys = cc in
    let again = split_unique s t xs ys p.1 q.1 rest in
    (cc, again.1)

-- a string has no zero byte
pub string_has_no_zero : (s front rest : List ℕ) → IsString s → s ≡ front ++ 0 ∷ rest → ⊥
string_has_no_zero [] [] rest p e = cc
string_has_no_zero [] (b ∷ front) rest p e = cc
string_has_no_zero (a ∷ s) [] rest p e = let head : a ≡ 0 = cc in p.0 head
string_has_no_zero (a ∷ s) (b ∷ front) rest p e = let tail : s ≡ front ++ 0 ∷ rest = cc in string_has_no_zero s front rest p.1 tail

-- what follows a string ends as the whole does
pub end_after : (s xs front : List ℕ) → s ++ xs ≡ terminated front → (xs ≡ []) ⊎ EndsWithZero xs
end_after [] xs front e = inr (front, e)
end_after (a ∷ s) xs (b ∷ front) e = let tail : s ++ xs ≡ terminated front = cc in end_after s xs front tail
end_after (a ∷ s) xs [] e = let tail : s ++ xs ≡ [] = cc in inl (end_of_none s xs tail)
  where
    end_of_none : (s xs : List ℕ) → s ++ xs ≡ [] → xs ≡ []
    end_of_none [] xs e = e
    end_of_none (a ∷ s) xs e = absurd (let f : ⊥ = cc in f)

-- the first of some strings
pub first_string : (s xs : List ℕ) (all : List (List ℕ)) → IsString s → AreStrings all → s ++ 0 ∷ xs ≡ strings all
    → (rest : List (List ℕ)) × (all ≡ s ∷ rest) × (xs ≡ strings rest) × AreStrings rest
first_string [] xs [] p q e = absurd (let f : ⊥ = cc in f)
first_string (a ∷ s) xs [] p q e = absurd (let f : ⊥ = cc in f)
first_string s xs (t ∷ all) p q e =
    let same = split_unique s t xs (strings all) p q.0 (e ∙ append_assoc t (0 ∷ []) (strings all)) in
    (all, (let x = same.0 in cc), same.1, q.1)

-- bytes without zero are no strings but none
pub none_of_string : (s : List ℕ) (all : List (List ℕ)) → IsString s → s ≡ strings all → all ≡ []
none_of_string s [] p e = refl
none_of_string s (t ∷ all) p e = absurd (string_has_no_zero s t (strings all) p (e ∙ append_assoc t (0 ∷ []) (strings all)))

-- strings are read in one way
pub strings_injective : (ss ts : List (List ℕ)) → AreStrings ss → AreStrings ts → strings ss ≡ strings ts → ss ≡ ts
strings_injective [] ts p q e = sym (none_of_string [] ts tt e)
strings_injective (s ∷ ss) ts p q e =
    let first = first_string s (strings ss) ts p.0 q (sym (append_assoc s (0 ∷ []) (strings ss)) ∙ e) in
    let rest = strings_injective ss first.0 p.1 first.3 first.2 in
    ap (λ x. s ∷ x) rest ∙ sym first.1

-- a list of strings with one more byte in front of the first
abbrev pub Cut : List ℕ → Type 0
Cut bytes = (first : List ℕ) × (rest : List (List ℕ)) × (bytes ≡ strings (first ∷ rest)) × AreStrings (first ∷ rest)

one_more : (b : ℕ) (bytes : List ℕ) → Cut bytes → Cut (b ∷ bytes)
one_more b bytes cut = elim (cases_eq b 0) [
  | inl zero ↦ ([], cut.0 ∷ cut.1, (let e = cut.2 in cc), (tt, cut.3))
  | inr other ↦ (b ∷ cut.0, cut.1, ap (λ x. b ∷ x) cut.2, ((other, cut.3.0), cut.3.1))
]

-- bytes that end with zero are strings, and at least one
pub cut_strings : (front : List ℕ) → Cut (terminated front)
cut_strings [] = ([], [], refl, (tt, tt))
cut_strings (b ∷ front) = one_more b (terminated front) (cut_strings front)

-- strings end with zero
pub strings_end : (s : List ℕ) (ss : List (List ℕ)) → EndsWithZero (strings (s ∷ ss))
strings_end s [] = (s, append-nil (terminated s))
strings_end s (t ∷ ss) = let after = strings_end t ss in (terminated s ++ after.0, ap (λ x. terminated s ++ x) after.1 ∙ sym (append_assoc (terminated s) after.0 (0 ∷ [])))

-- the strings that bytes are cut into are those that were written
pub strings_of_front : (s rest : List ℕ) → IsString s → strings_of (s ++ 0 ∷ rest) ≡ s ∷ strings_of rest
strings_of_front [] rest p = refl
strings_of_front (b ∷ s) rest p = rw (ne_eqb b 0 p.0, strings_of_front s rest p.1) refl

pub strings_of_string : (s : List ℕ) → IsString s → strings_of s ≡ []
strings_of_string [] p = refl
strings_of_string (b ∷ s) p = rw (ne_eqb b 0 p.0, strings_of_string s p.1) refl

pub strings_of_strings : (all : List (List ℕ)) → AreStrings all → strings_of (strings all) ≡ all
strings_of_strings [] p = refl
strings_of_strings (s ∷ all) p = ap strings_of (append_assoc s (0 ∷ []) (strings all)) ∙ strings_of_front s (strings all) p.0 ∙ ap (λ x. s ∷ x) (strings_of_strings all p.1)

-- there is a zero byte for each string
zeros_of_string : (s : List ℕ) → IsString s → count_by (λ b. b == 0) s ≡ 0
zeros_of_string [] p = refl
zeros_of_string (b ∷ s) p = rw (ne_eqb b 0 p.0, zeros_of_string s p.1) refl

pub zeros_of_strings : (all : List (List ℕ)) → AreStrings all → count_by (λ b. b == 0) (strings all) ≡ length all
zeros_of_strings [] p = refl
zeros_of_strings (s ∷ all) p =
    sum_by-append (λ b. cond (b == 0) 1 0) (terminated s) (strings all)
    ∙ ap (λ n. n + count_by (λ b. b == 0) (strings all)) (sum_by-append (λ b. cond (b == 0) 1 0) s (0 ∷ []) ∙ ap (λ n. n + 1) (zeros_of_string s p.0))
    ∙ ap (λ n. (0 + 1) + n) (zeros_of_strings all p.1) ∙ omega arith

pub only_more : (s rest bytes : List ℕ) → IsString s → bytes ≡ s ++ 0 ∷ rest → rest ≢ [] → (only : List ℕ) → IsString only → bytes ≢ terminated only
only_more s rest bytes p e some only q is = some (split_unique s only rest [] p q (sym e ∙ is)).1

-- a string that goes on in what follows
string_append : (s t : List ℕ) → IsString s → IsString t → IsString (s ++ t)
string_append [] t p q = q
string_append (b ∷ s) t p q = (p.0, string_append s t p.1 q)

module _ (bytes far after : List ℕ) (near : ℕ) (low : near ≤ length bytes) (front : IsString (take near bytes)) where
  halves : take near bytes ++ take (length bytes - near) (drop near bytes) ≡ bytes
  halves = ap (λ l. take near bytes ++ l) (take_all (length bytes - near) (drop near bytes) (omega (arith, length-drop near bytes))) ∙ take-append-drop near bytes

  pub string_on : take (length bytes - near) (drop near bytes) ≡ far ++ 0 ∷ after → IsString far → IsString (take (near + length far) bytes) × (bytes ≡ take (near + length far) bytes ++ 0 ∷ after)
  string_on is string =
      let s = take near bytes ++ far in
      let whole : bytes ≡ s ++ 0 ∷ after = sym halves ∙ ap (λ l. take near bytes ++ l) is ∙ sym (append_assoc (take near bytes) far (0 ∷ after)) in
      let long : near + length far ≡ length s = omega (arith, length-append (take near bytes) far, length-take near bytes) in
      let cut : take (near + length far) bytes ≡ s = ap (λ n. take n bytes) long ∙ ap (take (length s)) whole ∙ take-append_seam s (0 ∷ after) in
      (subst IsString (sym cut) (string_append (take near bytes) far front string), whole ∙ ap (λ l. l ++ 0 ∷ after) (sym cut))
