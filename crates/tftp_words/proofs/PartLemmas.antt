-- How the words begin.
use Rattle.std.proofs.Common.{◌≡◌, ◌≢◌, ◌⊎◌, inl, inr, ℕ, ◌+◌, [], ◌∷◌, ◌++◌, Bool, true, false, ◌||◌, ◌==◌, Option, Some, codes, refl, sym, ap, ◌∙◌, append-nil, get_or, subst}
use Rattle.std.proofs.lemmas.List.{append_cancel_left}
use Rattle.clap.proofs.CutLemmas.{Lacks, list_any-Lacks, list_any-at}
use Rattle.tftp_words.specs.{Word, Part, Service, Json, At, Again, Counts, Transfer, ServerTransfer, Plain, IsName, IsOption, IsPlain, IsValue, Gives, Begins, option_name}

-- ---- the name of an option

or_false : (a b : Bool) → (a || b) ≡ false → (a ≡ false) × (b ≡ false)
or_false true b e = cc
or_false false b e = (refl, e)

-- a name ends before the first =
same_name : (n m v w : Word) → IsName n → IsName m → n ++ (61 ∷ v) ≡ m ++ (61 ∷ w) → n ≡ m
same_name [] [] v w one other e = refl
same_name [] (y ∷ m) v w one other e =
    let is : y ≡ 61 = cc in
    let bad : true ≡ false = subst (λ z. (z == 61) ≡ false) is (or_false _ _ other).0 in cc
same_name (x ∷ n) [] v w one other e =
    let is : x ≡ 61 = cc in
    let bad : true ≡ false = subst (λ z. (z == 61) ≡ false) is (or_false _ _ one).0 in cc
same_name (x ∷ n) (y ∷ m) v w one other e =
    let head : x ≡ y = cc in
    let tail : n ++ (61 ∷ v) ≡ m ++ (61 ∷ w) = cc in
    ap (λ z. z ∷ n) head ∙ ap (λ l. y ∷ l) (same_name n m v w (or_false _ _ one).1 (or_false _ _ other).1 tail)

no_equals : (n v m : Word) → n ++ (61 ∷ v) ≡ m → IsName m → ⊥
no_equals n v m e is = (let bad : true ≡ false = sym (list_any-at 61 n v) ∙ subst IsName (sym e) is in cc)

-- the word is this name, or the name stands before its first =
abbrev pub IsStem : Word → Word → Type 0
IsStem word name = IsName name × ((word ≡ name) ⊎ ((value : Word) × (word ≡ name ++ (61 ∷ value))))

pub one_stem : (word n m : Word) → IsStem word n → IsStem word m → n ≡ m
one_stem word n m (one, inl is) (other, inl also) = sym is ∙ also
one_stem word n m (one, inl is) (other, inr (w, also)) = absurd (no_equals m w n (sym also ∙ is) one)
one_stem word n m (one, inr (v, is)) (other, inl also) = absurd (no_equals n v m (sym is ∙ also) other)
one_stem word n m (one, inr (v, is)) (other, inr (w, also)) = same_name n m v w one other (sym is ∙ also)

pub gives_stem : (name word : Word) (next : Option Word) (v : Word) (k : ℕ) → IsName name → Gives name word next v k → IsStem word name
gives_stem name word next v k is (inl (one, all)) = (is, inr (v, all))
gives_stem name word next v k is (inr (two, all, second)) = (is, inl all)

-- an option has one value
pub one_value : (name word : Word) (next : Option Word) (v w : Word) (k l : ℕ) → Gives name word next v k → Gives name word next w l → v ≡ w
one_value name word next v w k l (inl (one, is)) (inl (other, also)) = let both : 61 ∷ v ≡ 61 ∷ w = append_cancel_left name (61 ∷ v) (61 ∷ w) (sym is ∙ also) in cc
one_value name word next v w k l (inl (one, is)) (inr (other, also, second)) =
    let bad : 61 ∷ v ≡ [] = append_cancel_left name (61 ∷ v) [] (sym is ∙ also ∙ sym (append-nil name)) in cc
one_value name word next v w k l (inr (one, is, first)) (inl (other, also)) =
    let bad : 61 ∷ w ≡ [] = append_cancel_left name (61 ∷ w) [] (sym also ∙ is ∙ sym (append-nil name)) in cc
one_value name word next v w k l (inr (one, is, first)) (inr (other, also, second)) = cc

-- what tells the names of options apart: a letter of each half
letters : Word → ℕ
letters w = get_or w 2 0 + get_or w 6 0

abbrev pub kind : Part → ℕ
kind (Service port) = 220
kind Json = 106
kind (At point) = 101
kind (Again rollover) = 225
kind Counts = 215
kind (Transfer number) = 231
kind (ServerTransfer number) = 216
kind (Plain word) = 0

kind_by_name : (p : Part) → letters (option_name p) ≡ kind p
unfolding letters
kind_by_name (Service port) = refl
kind_by_name _ = refl

pub same_kind : (p q : Part) → option_name p ≡ option_name q → kind p ≡ kind q
same_kind p q e = sym (kind_by_name p) ∙ ap letters e ∙ kind_by_name q

pub no_kind : (p : Part) → codes "--" ≡ option_name p → kind p ≡ 0
unfolding letters
no_kind p e = sym (kind_by_name p) ∙ ap letters (sym e)

-- ---- what the words begin with

-- an option is given by one word or by two
given : (name word : Word) (next : Option Word) (k : ℕ) (W : Word → Type 0) → ((k ≡ 1) × ((value : Word) × W value × IsOption name value (word ∷ [])))
    ⊎ ((k ≡ 2) × (second : Word) × (next ≡ Some second) × ((value : Word) × W value × IsOption name value (word ∷ second ∷ [])))
    → (value : Word) × W value × Gives name word next value k
given name word next k W (inl (one, (value, is, inl two))) = cc
given name word next k W (inl (one, (value, is, inr whole))) = (value, is, inl (one, ap (λ ws. get_or ws 0 []) whole))
given name word next k W (inr (two, second, at, (value, is, inl whole))) =
    (value, is, inr (two, ap (λ ws. get_or ws 0 []) whole, at ∙ ap (λ ws. Some (get_or ws 1 [])) whole))
given name word next k W (inr (two, second, at, (value, is, inr one))) = cc

-- a word that is no option, an option without a value, or one with its value
abbrev pub Begun : Word → Option Word → Part → ℕ → Type 0
Begun word next (Plain w) k = (k ≡ 1) × (w ≡ word) × IsPlain w
Begun word next Json k = (k ≡ 1) × (word ≡ codes "--json")
Begun word next Counts k = (k ≡ 1) × (word ≡ codes "--counts")
Begun word next p k = (value : Word) × IsValue value p × Gives (option_name p) word next value k

pub begun : (word : Word) (next : Option Word) (p : Part) (k : ℕ) → Begins word next p k → Begun word next p k
begun word next (Plain w) k (inl (one, (plain, is))) = (one, sym (ap (λ ws. get_or ws 0 []) is), plain)
begun word next (Plain w) k (inr (two, second, at, (plain, is))) = cc
begun word next Json k (inl (one, is)) = (one, ap (λ ws. get_or ws 0 []) is)
begun word next Json k (inr (two, second, at, is)) = cc
begun word next Counts k (inl (one, is)) = (one, ap (λ ws. get_or ws 0 []) is)
begun word next Counts k (inr (two, second, at, is)) = cc
begun word next p k begins = given (option_name p) word next k (λ value. IsValue value p) begins

-- an option with its value is this part
pub option_begins : (name value word : Word) (next : Option Word) (p : Part) (k : ℕ) → name ≡ option_name p → IsValue value p → Gives name word next value k → Begins word next p k
option_begins name value word next Json k e is gives = absurd is
option_begins name value word next Counts k e is gives = absurd is
option_begins name value word next (Plain w) k e is gives = absurd is
option_begins name value word next p k e is (inl (one, whole)) = inl (one, (value, is, inr (ap (λ w. w ∷ []) (whole ∙ ap (λ n. n ++ (61 ∷ value)) e))))
option_begins name value word next p k e is (inr (two, whole, at)) = inr (two, value, at, (value, is, inl (ap (λ w. w ∷ value ∷ []) (whole ∙ e))))

-- ---- the words of no part

-- where no option has this name with this value, the words begin with no part
pub no_part : (word : Word) (next : Option Word) (name value : Word) (count : ℕ) → (IsPlain word → ⊥) → word ≢ codes "--json" → word ≢ codes "--counts" → IsName name → Gives name word next value count
    → ((p : Part) → name ≡ option_name p → IsValue value p → ⊥) → (p : Part) (k : ℕ) → Begins word next p k → ⊥
no_part word next name value count plain json counting is gives never p k begins = go p (begun word next p k begins)
  where
    go : (q : Part) → Begun word next q k → ⊥
    go (Plain w) b = plain (subst IsPlain b.1 b.2)
    go Json b = json b.1
    go Counts b = counting b.1
    go q b =
        let same = one_stem word name (option_name q) (gives_stem name word next value count is gives) (gives_stem (option_name q) word next b.0 k refl b.2) in
        let its = one_value (option_name q) word next value b.0 count k (subst (λ n. Gives n word next value count) same gives) b.2 in
        never q same (subst (λ v. IsValue v q) (sym its) b.1)

-- where no option stands at all, neither
pub no_option : (word : Word) (next : Option Word) → (IsPlain word → ⊥) → word ≢ codes "--json" → word ≢ codes "--counts" → ((name value : Word) (k : ℕ) → Gives name word next value k → ⊥) → (p : Part) (k : ℕ) → Begins word next p k → ⊥
no_option word next plain json counting never p k begins = go p (begun word next p k begins)
  where
    go : (q : Part) → Begun word next q k → ⊥
    go (Plain w) b = plain (subst IsPlain b.1 b.2)
    go Json b = json b.1
    go Counts b = counting b.1
    go q b = never (option_name q) b.0 k b.2

-- a word in which no = stands gives no option without a word behind it
pub no_equals_no_next : (word : Word) (next : Option Word) → Lacks 61 word → ((second : Word) → next ≡ Some second → ⊥) → (name value : Word) (k : ℕ) → Gives name word next value k → ⊥
no_equals_no_next word next lacks none name value k (inl (one, is)) = no_equals name value word (sym is) (list_any-Lacks 61 word lacks)
no_equals_no_next word next lacks none name value k (inr (two, is, second)) = none value second
