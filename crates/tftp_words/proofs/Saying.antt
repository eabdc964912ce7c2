-- Words say one list of parts.
use Rattle.std.proofs.Common.{◌≡◌, ◌≢◌, ◌⊎◌, inl, inr, ℕ, ◌≤◌, List, [], ◌∷◌, ◌++◌, length, drop, map, Option, Some, None, codes, slice_get, refl, sym, ap, ◌∙◌, get_or, subst, arith, append-nil}
use Rattle.std.proofs.lemmas.List.{append_cancel_left}
use Rattle.tftp_packet.specs.{Rollover, Zero, One}
use Rattle.tftp_words.specs.{Point, Word, Part, Service, Json, At, Again, Counts, Transfer, ServerTransfer, Plain, IsOption, IsPlain, IsNumber, IsValue, Gives, Begins, Says, Say, Done, First, Rest, option_name, point_word, rollover_word}
use Rattle.tftp_words.specs.declared.point.Point.TheVariants as point
use Rattle.tftp_words.proofs.PartLemmas.{IsStem, one_stem, gives_stem, one_value, Begun, begun, kind, same_kind, no_kind}

-- ---- the words begin with one part

one_count : (name word : Word) (next : Option Word) (v w : Word) (k l : ℕ) → Gives name word next v k → Gives name word next w l → k ≡ l
one_count name word next v w k l (inl (one, is)) (inl (other, also)) = one ∙ sym other
one_count name word next v w k l (inl (one, is)) (inr (other, also, second)) =
    let bad : 61 ∷ v ≡ [] = append_cancel_left name (61 ∷ v) [] (sym is ∙ also ∙ sym (append-nil name)) in cc
one_count name word next v w k l (inr (one, is, first)) (inl (other, also)) =
    let bad : 61 ∷ w ≡ [] = append_cancel_left name (61 ∷ w) [] (sym also ∙ is ∙ sym (append-nil name)) in cc
one_count name word next v w k l (inr (one, is, first)) (inr (other, also, second)) = one ∙ sym other

dashes_not_plain : (rest : Word) → IsPlain (45 ∷ 45 ∷ rest) → ⊥
dashes_not_plain rest (inl not) = not (45 ∷ rest) refl
dashes_not_plain rest (inr is) = cc

given_dashes : (name rest word : Word) (next : Option Word) (v : Word) (k : ℕ) → name ≡ 45 ∷ 45 ∷ rest → Gives name word next v k → IsPlain word → ⊥
given_dashes name rest word next v k dashes (inl (one, is)) plain = dashes_not_plain (rest ++ (61 ∷ v)) (subst IsPlain (is ∙ ap (λ n. n ++ (61 ∷ v)) dashes) plain)
given_dashes name rest word next v k dashes (inr (two, is, second)) plain = dashes_not_plain rest (subst IsPlain (is ∙ dashes) plain)

-- a part's word is plain, or it has the name of its option before the first = and is not plain
abbrev HasStem : Word → Part → Type 0
HasStem word (Plain w) = IsPlain word
HasStem word p = IsStem word (option_name p) × (IsPlain word → ⊥)

stem : (word : Word) (next : Option Word) (p : Part) (k : ℕ) → Begun word next p k → HasStem word p
stem word next (Plain w) k b = subst IsPlain b.1 b.2
stem word next Json k b = ((refl, inl b.1), λ plain. dashes_not_plain (codes "json") (subst IsPlain b.1 plain))
stem word next Counts k b = ((refl, inl b.1), λ plain. dashes_not_plain (codes "counts") (subst IsPlain b.1 plain))
stem word next p k b =
    (gives_stem (option_name p) word next b.0 k refl b.2, given_dashes (option_name p) (drop 2 (option_name p)) word next b.0 k refl b.2)

one_kind : (word : Word) (p q : Part) → HasStem word p → HasStem word q → kind p ≡ kind q
one_kind word (Plain a) (Plain b) one other = refl
one_kind word (Plain a) q one other = absurd (other.1 one)
one_kind word p (Plain b) one other = absurd (one.1 other)
one_kind word p q one other = same_kind p q (one_stem word (option_name p) (option_name q) one.0 other.0)

same_point : (a b : Point) → point_word a ≡ point_word b → a ≡ b
same_point point.Client point.Server e = (let bad : 99 ≡ 115 = ap (λ w. get_or w 0 0) e in absurd (omega (arith, bad)))
same_point point.Server point.Client e = (let bad : 115 ≡ 99 = ap (λ w. get_or w 0 0) e in absurd (omega (arith, bad)))
same_point point.Client point.Between e = (let bad : 99 ≡ 98 = ap (λ w. get_or w 0 0) e in absurd (omega (arith, bad)))
same_point point.Between point.Client e = (let bad : 98 ≡ 99 = ap (λ w. get_or w 0 0) e in absurd (omega (arith, bad)))
same_point point.Server point.Between e = (let bad : 115 ≡ 98 = ap (λ w. get_or w 0 0) e in absurd (omega (arith, bad)))
same_point point.Between point.Server e = (let bad : 98 ≡ 115 = ap (λ w. get_or w 0 0) e in absurd (omega (arith, bad)))
same_point _ _ e = refl

same_rollover : (a b : Rollover) → rollover_word a ≡ rollover_word b → a ≡ b
same_rollover Zero One e = (let bad : 48 ≡ 49 = ap (λ w. get_or w 0 0) e in absurd (omega (arith, bad)))
same_rollover One Zero e = (let bad : 49 ≡ 48 = ap (λ w. get_or w 0 0) e in absurd (omega (arith, bad)))
same_rollover _ _ e = refl

same_number : (text : Word) (m n : ℕ) → IsNumber text m → IsNumber text n → m ≡ n
same_number text m n one other = one.1 ∙ sym other.1

-- a value is that of one part with its name
same_value : (p q : Part) (value : Word) → kind p ≡ kind q → IsValue value p → IsValue value q → p ≡ q
same_value (Service a) (Service b) value e one other = ap Service (same_number value a b one.0 other.0)
same_value (At a) (At b) value e one other = ap At (same_point a b (sym one ∙ other))
same_value (Again a) (Again b) value e one other = ap Again (same_rollover a b (sym one ∙ other))
same_value (Transfer a) (Transfer b) value e one other = ap Transfer (same_number value a b one.0 other.0)
same_value (ServerTransfer a) (ServerTransfer b) value e one other = ap ServerTransfer (same_number value a b one.0 other.0)
same_value Json q value e one other = absurd one
same_value Counts q value e one other = absurd one
same_value (Plain w) q value e one other = absurd one
same_value p q value e one other = absurd (omega (arith, e))

abbrev Same : Part → Part → ℕ → ℕ → Type 0
Same p q k l = (p ≡ q) × (k ≡ l)

abbrev Valued : Word → Word → Option Word → Part → ℕ → Type 0
Valued name word next p k = (value : Word) × IsValue value p × Gives name word next value k

same_option : (name word : Word) (next : Option Word) (p q : Part) (k l : ℕ) → kind p ≡ kind q → Valued name word next p k → Valued name word next q l → Same p q k l
same_option name word next p q k l e (v, one, gives) (w, other, also) = (
  same_value p q v e one (subst (λ u. IsValue u q) (sym (one_value name word next v w k l gives also)) other),
  one_count name word next v w k l gives also,
)

same_part : (word : Word) (next : Option Word) (p q : Part) (k l : ℕ) → kind p ≡ kind q → Begun word next p k → Begun word next q l → Same p q k l
same_part word next (Plain a) (Plain b) k l e one other = (ap Plain (one.1 ∙ sym other.1), one.0 ∙ sym other.0)
same_part word next Json Json k l e one other = (refl, one.0 ∙ sym other.0)
same_part word next Counts Counts k l e one other = (refl, one.0 ∙ sym other.0)
same_part word next (Service a) (Service b) k l e one other = same_option (codes "--service") word next (Service a) (Service b) k l e one other
same_part word next (At a) (At b) k l e one other = same_option (codes "--end") word next (At a) (At b) k l e one other
same_part word next (Again a) (Again b) k l e one other = same_option (codes "--rollover") word next (Again a) (Again b) k l e one other
same_part word next (Transfer a) (Transfer b) k l e one other = same_option (codes "--transfer") word next (Transfer a) (Transfer b) k l e one other
same_part word next (ServerTransfer a) (ServerTransfer b) k l e one other = same_option (codes "--server-transfer") word next (ServerTransfer a) (ServerTransfer b) k l e one other
same_part word next p q k l e one other = absurd (omega (arith, e))

one_begin : (word : Word) (next : Option Word) (p q : Part) (k l : ℕ) → Begins word next p k → Begins word next q l → Same p q k l
one_begin word next p q k l one other =
    let x = begun word next p k one in
    let y = begun word next q l other in
    same_part word next p q k l (one_kind word p q (stem word next p k x) (stem word next q l y)) x y

-- ---- a part takes one word or two

option_size : (name value : Word) (mine : List Word) → IsOption name value mine → ((a : Word) × (mine ≡ a ∷ [])) ⊎ ((a b : Word) × (mine ≡ a ∷ b ∷ []))
option_size name value mine (inl two) = inr (name, value, two)
option_size name value mine (inr one) = inl (name ++ (61 ∷ value), one)

part_size : (p : Part) (mine : List Word) → Says mine p → ((a : Word) × (mine ≡ a ∷ [])) ⊎ ((a b : Word) × (mine ≡ a ∷ b ∷ []))
part_size (Plain word) mine says = inl (word, says.1)
part_size Json mine says = inl (codes "--json", says)
part_size Counts mine says = inl (codes "--counts", says)
part_size p mine says = option_size (option_name p) says.0 mine says.2

says_begins : (ws mine rest : List Word) (w : Word) (next : Option Word) (p : Part) → ws ≡ mine ++ rest → Says mine p → slice_get ws 0 ≡ Some w → slice_get ws 1 ≡ next
    → Begins w next p (length mine) × (drop (length mine) ws ≡ rest)
says_begins ws mine rest w next p are says zeroth second = elim (part_size p mine says) [
  | inl (a, is) ↦
      let all : ws ≡ a ∷ rest = are ∙ ap (λ m. m ++ rest) is in
      let same : a ≡ w = (let e : Some a ≡ Some w = sym (ap (λ l. slice_get l 0) all) ∙ zeroth in cc) in
      (inl (ap length is, subst (λ m. Says m p) (is ∙ ap (λ x. x ∷ []) same) says), ap (λ m. drop (length m) ws) is ∙ ap (drop 1) all)
  | inr (a, b, is) ↦
      let all : ws ≡ a ∷ b ∷ rest = are ∙ ap (λ m. m ++ rest) is in
      let same : a ≡ w = (let e : Some a ≡ Some w = sym (ap (λ l. slice_get l 0) all) ∙ zeroth in cc) in
      (inr (ap length is, b, sym second ∙ ap (λ l. slice_get l 1) all, subst (λ m. Says m p) (is ∙ ap (λ x. x ∷ b ∷ []) same) says), ap (λ m. drop (length m) ws) is ∙ ap (drop 2) all)
]

abbrev Splits : List Word → Part → ℕ → Type 0
Splits ws p k = (mine : List Word) × (ws ≡ mine ++ drop k ws) × (k ≤ length ws) × Says mine p

begins_says : (ws : List Word) (w : Word) (next : Option Word) (p : Part) (k : ℕ) → Begins w next p k → slice_get ws 0 ≡ Some w → slice_get ws 1 ≡ next → Splits ws p k
begins_says [] w next p k begins zeroth second = cc
begins_says (a ∷ ws) w next p k (inl (one, says)) zeroth second =
    let same : a ≡ w = cc in
    subst (Splits (a ∷ ws) p) (sym one) (w ∷ [], ap (λ x. x ∷ ws) same, omega arith, says)
begins_says (a ∷ []) w next p k (inr (two, b, at, says)) zeroth second = (let bad : None ≡ Some b = second ∙ at in cc)
begins_says (a ∷ c ∷ ws) w next p k (inr (two, b, at, says)) zeroth second =
    let same : a ≡ w = cc in
    let also : c ≡ b = (let e : Some c ≡ Some b = second ∙ at in cc) in
    subst (Splits (a ∷ c ∷ ws) p) (sym two) (w ∷ b ∷ [], ap (λ x. x ∷ c ∷ ws) same ∙ ap (λ x. w ∷ x ∷ ws) also, omega arith, says)

pub part_fits : (ws : List Word) (w : Word) (next : Option Word) (p : Part) (k : ℕ) → Begins w next p k → slice_get ws 0 ≡ Some w → slice_get ws 1 ≡ next → k ≤ length ws
part_fits ws w next p k begins zeroth second = (begins_says ws w next p k begins zeroth second).2

-- a part is taken off the words
pub shorter : (ws : List Word) (w : Word) (next : Option Word) (p : Part) (k : ℕ) → Begins w next p k → 1 ≤ k
shorter ws w next p k (inl (one, says)) = omega (arith, one)
shorter ws w next p k (inr (two, b, at, says)) = omega (arith, two)

-- ---- lists of parts

abbrev SayCases : List Word → List Part → Type 0
SayCases ws ps = ((ws ≡ []) × (ps ≡ []))
    ⊎ (((mine rest : List Word) × (p : Part) × (qs : List Part) × (ws ≡ mine ++ rest) × (ps ≡ p ∷ qs) × Says mine p × Say rest qs)
    ⊎ ((words : List Word) × (ws ≡ codes "--" ∷ words) × (ps ≡ map Plain words)))

say_cases : (ws : List Word) (ps : List Part) → Say ws ps → SayCases ws ps
say_cases _ _ Done = inl (refl, refl)
say_cases _ _ (First mine rest p ps says say) = inr (inl (mine, rest, p, ps, refl, refl, says, say))
say_cases _ _ (Rest words) = inr (inr (words, refl, refl))

pub say_on : (ws : List Word) (w : Word) (next : Option Word) (p : Part) (k : ℕ) (qs : List Part) → Begins w next p k → slice_get ws 0 ≡ Some w → slice_get ws 1 ≡ next → Say (drop k ws) qs → Say ws (p ∷ qs)
say_on ws w next p k qs begins zeroth second say =
    let splits = begins_says ws w next p k begins zeroth second in
    subst (λ l. Say l (p ∷ qs)) (sym splits.1) (First splits.0 (drop k ws) p qs splits.3 say)

pub say_step : (ws : List Word) (w : Word) (next : Option Word) (p : Part) (k : ℕ) (all : List Part) → Begins w next p k → slice_get ws 0 ≡ Some w → slice_get ws 1 ≡ next → w ≢ codes "--" → Say ws all
    → (qs : List Part) × (all ≡ p ∷ qs) × Say (drop k ws) qs
say_step ws w next p k all begins zeroth second not say = elim (say_cases ws all say) [
  | inl (nil, _) ↦ (let bad : None ≡ Some w = sym (ap (λ l. slice_get l 0) nil) ∙ zeroth in cc)
  | inr (inl (mine, rest, q, qs, are, is, says, more)) ↦
      let found = says_begins ws mine rest w next q are says zeroth second in
      let same = one_begin w next p q k (length mine) begins found.0 in
      (qs, is ∙ ap (λ x. x ∷ qs) (sym same.0), subst (λ l. Say l qs) (sym (ap (λ n. drop n ws) same.1 ∙ found.1)) more)
  | inr (inr (words, are, is)) ↦ absurd (not (let e : Some (codes "--") ≡ Some w = sym (ap (λ l. slice_get l 0) are) ∙ zeroth in cc))
]

pub say_nothing : (ws : List Word) (w : Word) (next : Option Word) (all : List Part) → ((p : Part) (k : ℕ) → Begins w next p k → ⊥) → slice_get ws 0 ≡ Some w → slice_get ws 1 ≡ next → w ≢ codes "--" → Say ws all → ⊥
say_nothing ws w next all never zeroth second not say = elim (say_cases ws all say) [
  | inl (nil, _) ↦ (let bad : None ≡ Some w = sym (ap (λ l. slice_get l 0) nil) ∙ zeroth in cc)
  | inr (inl (mine, rest, q, qs, are, is, says, more)) ↦ never q (length mine) (says_begins ws mine rest w next q are says zeroth second).0
  | inr (inr (words, are, is)) ↦ not (let e : Some (codes "--") ≡ Some w = sym (ap (λ l. slice_get l 0) are) ∙ zeroth in cc)
]

nil_words : (ws : List Word) → slice_get ws 0 ≡ None → ws ≡ []
nil_words [] e = refl
nil_words (w ∷ ws) e = cc

pub say_end : (ws : List Word) → slice_get ws 0 ≡ None → Say ws []
say_end ws e = subst (λ l. Say l []) (sym (nil_words ws e)) Done

pub said_end : (ws : List Word) (all : List Part) → slice_get ws 0 ≡ None → Say ws all → all ≡ []
said_end ws all e say = elim (say_cases ws all say) [
  | inl (_, is) ↦ is
  | inr (inl (mine, rest, q, qs, are, is, says, more)) ↦ elim (part_size q mine says) [
    | inl (a, one) ↦ (let bad : [] ≡ a ∷ rest = sym (nil_words ws e) ∙ are ∙ ap (λ m. m ++ rest) one in cc)
    | inr (a, b, two) ↦ (let bad : [] ≡ a ∷ b ∷ rest = sym (nil_words ws e) ∙ are ∙ ap (λ m. m ++ rest) two in cc)
  ]
  | inr (inr (words, are, is)) ↦ (let bad : [] ≡ codes "--" ∷ words = sym (nil_words ws e) ∙ are in cc)
]

dash_words : (ws : List Word) (w : Word) → slice_get ws 0 ≡ Some w → w ≡ codes "--" → ws ≡ codes "--" ∷ drop 1 ws
dash_words [] w e is = cc
dash_words (a ∷ ws) w e is = ap (λ x. x ∷ ws) ((let s : a ≡ w = cc in s) ∙ is)

pub say_plain : (ws : List Word) (w : Word) → slice_get ws 0 ≡ Some w → w ≡ codes "--" → Say ws (map Plain (drop 1 ws))
say_plain ws w e is = subst (λ l. Say l (map Plain (drop 1 ws))) (sym (dash_words ws w e is)) (Rest (drop 1 ws))

dashes_have_no_stem : (p : Part) → HasStem (codes "--") p → ⊥
dashes_have_no_stem (Plain w) plain = dashes_not_plain [] plain
dashes_have_no_stem p stems = omega (arith, no_kind p (one_stem (codes "--") (codes "--") (option_name p) (refl, inl refl) stems.0))

dashes_begin_nothing : (p : Part) (k : ℕ) (next : Option Word) → Begins (codes "--") next p k → ⊥
dashes_begin_nothing p k next begins = dashes_have_no_stem p (stem (codes "--") next p k (begun (codes "--") next p k begins))

dashes_say_nothing : (p : Part) (mine rest words : List Word) → codes "--" ∷ words ≡ mine ++ rest → Says mine p → ⊥
dashes_say_nothing p mine rest words are says =
    let begins = (says_begins (codes "--" ∷ words) mine rest (codes "--") (slice_get words 0) p are says refl refl).0 in
    dashes_begin_nothing p (length mine) (slice_get words 0) begins

pub said_plain : (ws : List Word) (w : Word) (all : List Part) → slice_get ws 0 ≡ Some w → w ≡ codes "--" → Say ws all → all ≡ map Plain (drop 1 ws)
said_plain ws w all e is say =
    let dashes = dash_words ws w e is in
    elim (say_cases ws all say) [
      | inl (nil, _) ↦ (let bad : None ≡ Some w = sym (ap (λ l. slice_get l 0) nil) ∙ e in cc)
      | inr (inl (mine, rest, q, qs, are, so, says, more)) ↦ absurd (dashes_say_nothing q mine rest (drop 1 ws) (sym dashes ∙ are) says)
      | inr (inr (words, are, so)) ↦ so ∙ ap (λ l. map Plain (drop 1 l)) (sym are)
    ]
