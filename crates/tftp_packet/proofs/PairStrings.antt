-- Strings are paired in one way, and what holds of all pairs fails of none.
use Rattle.std.proofs.Common.{◌≡◌, inl, inr, ℕ, suc, ◌*◌, ◌%◌, ◌<◌, List, [], ◌∷◌, ◌++◌, length, refl, sym, ap, subst, ◌∙◌, length-append, arith}
use Rattle.std.specs.List.{AllByRecursion}
use Rattle.tftp_packet.specs.{IsString, AreStrings, strings, strings_of, pairs_of, Pair, pair_strings, pair_up, AreApart, SameName, AnyOf, HasRepeat, StandsFirst}
use Rattle.tftp_packet.proofs.Strings.{strings_of_front, strings_of_string, strings_of_strings}

pub pair_strings_injective : (ps qs : List Pair) → pair_strings ps ≡ pair_strings qs → ps ≡ qs
pair_strings_injective [] [] e = refl
pair_strings_injective [] (q ∷ qs) e = absurd (let f : ⊥ = cc in f)
pair_strings_injective (p ∷ ps) [] e = absurd (let f : ⊥ = cc in f)
pair_strings_injective (p ∷ ps) (q ∷ qs) e =
    let name : p.0 ≡ q.0 = cc in
    let text : p.1 ≡ q.1 = cc in
    let rest : pair_strings ps ≡ pair_strings qs = cc in
    let tail = pair_strings_injective ps qs rest in
    λ i. (name i, text i) ∷ tail i

pub length_pair_strings : (ps : List Pair) → length (pair_strings ps) ≡ 2 * length ps
length_pair_strings [] = refl
length_pair_strings (p ∷ ps) = omega (arith, length_pair_strings ps)

pub not_odd : (ps : List Pair) → length (pair_strings ps) % 2 ≡ 1 → ⊥
not_odd ps odd = omega (arith, length_pair_strings ps)

pub none_of_all : {X : Type 0} (P : X → Type 0) (xs : List X) → AllByRecursion (λ x. P x → ⊥) xs → AnyOf P xs → ⊥
none_of_all P [] all any = any
none_of_all P (x ∷ xs) all (inl here) = all.0 here
none_of_all P (x ∷ xs) all (inr later) = none_of_all P xs all.1 later

pub no_repeat : (ps : List Pair) → AreApart ps → HasRepeat ps → ⊥
no_repeat [] apart repeat = repeat
no_repeat (p ∷ ps) apart (inl here) = none_of_all (SameName p) ps apart.0 here
no_repeat (p ∷ ps) apart (inr later) = no_repeat ps apart.1 later

-- what is not so of any is not so of each
pub all_of_none : {X : Type 0} (P : X → Type 0) (xs : List X) → (AnyOf P xs → ⊥) → AllByRecursion (λ x. P x → ⊥) xs
all_of_none P [] none = tt
all_of_none P (x ∷ xs) none = ((λ here. none (inl here)), all_of_none P xs (λ later. none (inr later)))

pub apart_of_no_repeat : (ps : List Pair) → (HasRepeat ps → ⊥) → AreApart ps
apart_of_no_repeat [] none = tt
apart_of_no_repeat (p ∷ ps) none = (all_of_none (SameName p) ps (λ here. none (inl here)), apart_of_no_repeat ps (λ later. none (inr later)))

-- an even number of strings are the strings of their pairs
pub pair_up_strings : (ps : List Pair) → pair_up (pair_strings ps) ≡ ps
pair_up_strings [] = refl
pair_up_strings (p ∷ ps) = ap (λ x. (p.0, p.1) ∷ x) (pair_up_strings ps)

pub strings_of_pair_up : (all : List (List ℕ)) → (length all % 2 ≡ 1 → ⊥) → pair_strings (pair_up all) ≡ all
strings_of_pair_up [] even = refl
strings_of_pair_up (name ∷ []) even = absurd (even refl)
strings_of_pair_up (name ∷ text ∷ rest) even = ap (λ x. name ∷ text ∷ x) (strings_of_pair_up rest (λ odd. even (odd_more (length rest) odd)))
  where
    odd_more : (n : ℕ) → n % 2 ≡ 1 → suc (suc n) % 2 ≡ 1
    odd_more n odd = omega arith

-- the option that bytes begin with
pub no_name : (bytes : List ℕ) → IsString bytes → pairs_of bytes ≡ []
no_name bytes p = ap pair_up (strings_of_string bytes p)

pub no_text : (name rest bytes : List ℕ) → IsString name → IsString rest → bytes ≡ name ++ 0 ∷ rest → pairs_of bytes ≡ []
no_text name rest bytes p q e = ap pairs_of e ∙ ap pair_up (strings_of_front name rest p ∙ ap (λ x. name ∷ x) (strings_of_string rest q))

pub pair_front : (name rest text after bytes : List ℕ) → IsString name → bytes ≡ name ++ 0 ∷ rest → IsString text → rest ≡ text ++ 0 ∷ after
    → (pairs_of bytes ≡ (name, text) ∷ pairs_of after) × (length after < length bytes)
pair_front name rest text after bytes p e q f =
    let first = strings_of_front name rest p in
    let second = ap strings_of f ∙ strings_of_front text after q in
    let long = ap length e ∙ length-append name (0 ∷ rest) in
    let longer = ap length f ∙ length-append text (0 ∷ after) in
    (ap pairs_of e ∙ ap pair_up (first ∙ ap (λ x. name ∷ x) second), omega arith)

pub stands_first : (name rest text after bytes : List ℕ) → IsString name → bytes ≡ name ++ 0 ∷ rest → rest ≡ text ++ 0 ∷ after → StandsFirst bytes name after
stands_first name rest text after bytes p e f = (p, (text, e ∙ ap (λ r. name ++ 0 ∷ r) f))

-- strings that end, of which there are an even number, are the strings of the pairs that they hold
pub held : (bytes : List ℕ) (all : List (List ℕ)) → bytes ≡ strings all → AreStrings all → (length all % 2 ≡ 1 → ⊥) → (bytes ≡ strings (pair_strings (pairs_of bytes))) × AreStrings (pair_strings (pairs_of bytes))
held bytes all is strung even =
    let same : pair_strings (pairs_of bytes) ≡ all = ap (λ b. pair_strings (pairs_of b)) is ∙ ap (λ x. pair_strings (pair_up x)) (strings_of_strings all strung) ∙ strings_of_pair_up all even in
    (is ∙ ap strings (sym same), subst AreStrings (sym same) strung)
