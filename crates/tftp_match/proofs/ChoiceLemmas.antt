-- Which pairs go together of those that were tried so far.
use Rattle.std.proofs.Common.{◌≡◌, ℕ, suc, ◌+◌, ◌<◌, List, [], ◌∷◌, ◌++◌, true, length, take, drop, get_or, Option, Some, None, refl, sym, ap, ◌∙◌, drop-cons, take-append-drop}
use Rattle.std.proofs.lemmas.List.{take_more}
use Rattle.std.proofs.lemmas.List.Elements.{filter-append}
use Rattle.tftp_match.specs.{Tried}
use Rattle.tftp_match.specs.Choice.{AreTried, IsTried, Texts, matched_in, nothing, one, sole}

-- a list of none or of one
abbrev pub listed : Option Tried → List Tried
listed None = []
listed (Some t) = t ∷ []

pub matched_first : (t : Tried) (more : List Tried) → t.is_matched ≡ true → matched_in (t ∷ more) ≡ t ∷ matched_in more
matched_first t more is = rw is refl

-- one goes together of the pairs before, and so does the next
pub two_matched : (tried : List Tried) (i : ℕ) (d t : Tried) → i < length tried → matched_in (take i tried) ≡ t ∷ [] → (get_or tried i d).is_matched ≡ true → sole (matched_in tried) ≡ None
two_matched tried i d t within before is =
    let next = get_or tried i d in
    let more = drop (suc i) tried in
    let cut : tried ≡ take i tried ++ (next ∷ more) = sym (take-append-drop i tried) ∙ ap (λ l. take i tried ++ l) (drop-cons tried i d within) in
    let whole : matched_in tried ≡ (t ∷ []) ++ (next ∷ matched_in more) =
    ap matched_in cut ∙ filter-append (λ (pair : Tried). pair.is_matched) (take i tried) (next ∷ more) ∙ ap (λ l. l ++ matched_in (next ∷ more)) before ∙ ap (λ l. (t ∷ []) ++ l) (matched_first next more is) in
    ap sole whole

-- ---- which were tried

pub tried_both : {texts : Texts} {pairs more : List (ℕ × ℕ)} {tried others : List Tried} → AreTried texts pairs tried → AreTried texts more others → AreTried texts (pairs ++ more) (tried ++ others)
tried_both nothing q = q
tried_both (one pair t pairs tried is p) q = one pair t _ _ is (tried_both p q)

-- one more was
pub tried_more : (texts : Texts) (pairs : List (ℕ × ℕ)) (i : ℕ) (d : ℕ × ℕ) (was now : List Tried) (t : Tried) → i < length pairs → AreTried texts (take i pairs) was → IsTried texts (get_or pairs i d) t → now ≡ was ++ t ∷ [] → AreTried texts (take (i + 1) pairs) now
tried_more texts pairs i d was now t within before is pushed = rw (take_more pairs i d within) (rw pushed (tried_both before (one (get_or pairs i d) t [] [] is nothing)))
