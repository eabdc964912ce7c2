-- What is read of the words, and what is left of them.
use Rattle.std.proofs.Common.{◌≡◌, ◌≢◌, ℕ, ◌+◌, ◌<◌, List, [], ◌∷◌, ◌++◌, length, drop, take, map, Bool, Option, Some, None, codes, slice_get, get_or, Bor, refl, sym, ap, ◌∙◌, subst, append-nil, append_assoc, add-one}
use Rattle.std.proofs.lemmas.List.{drop-map, map-append}
use Rattle.std.proofs.Math.Seq.{take-suc}
use Rattle.tftp_packet.specs.{Rollover}
use Rattle.tftp_words.specs.{Point, Given, ReadFault, Word, Part, Plain, Begins, Say, Have, Choose, Holds, IsOnce}
use Rattle.tftp_words.specs.declared.given.ReadFault.TheVariants as fault
use Rattle.tftp_words.proofs.Having.{have_word, choose_beside}
use Rattle.tftp_words.proofs.Saying.{say_on, say_step, say_nothing, say_end, said_end, say_plain, said_plain}

-- the texts of the words that are left
pub texts_left : {A : Type 0} (f : A → Word) (n : ℕ) (words left : List A) → left ≡ drop n words → map f left ≡ drop n (map f words)
texts_left f n words left e = ap (map f) e ∙ sym (drop-map f n words)

-- what is read of the words so far, and what those that are left say are what all say
abbrev pub Read : List Word → List Word → Given → Type 0
Read words left given = (done : List Part) × Holds given done
    × ((ps : List Part) → Say left ps → Say words (done ++ ps))
    × ((all : List Part) → Say words all → (ps : List Part) × (all ≡ done ++ ps) × Say left ps)

-- all is read
abbrev pub Whole : List Word → Given → Type 0
Whole words given = ((ps : List Part) × Say words ps × Holds given ps) × ((ps : List Part) → Say words ps → Holds given ps)

pub read_end : (words left : List Word) (given : Given) → Read words left given → slice_get left 0 ≡ None → Whole words given
read_end words left given (done, holds, on, back) end = (
  (done, subst (Say words) (append-nil done) (on [] (say_end left end)), holds),
  λ ps say.
      let found = back ps say in
      let same : ps ≡ done = found.1 ∙ ap (λ qs. done ++ qs) (said_end left found.0 end found.2) ∙ append-nil done in
      subst (Holds given) (sym same) holds,
)

pub read_rest : (words left : List Word) (old new : Given) (w : Word) → Read words left old → slice_get left 0 ≡ Some w → w ≡ codes "--" → ((ps : List Part) → Holds old ps → Holds new (ps ++ map Plain (drop 1 left))) → Whole words new
read_rest words left old new w (done, holds, on, back) zeroth is adds = (
  (done ++ map Plain (drop 1 left), on (map Plain (drop 1 left)) (say_plain left w zeroth is), adds done holds),
  λ ps say.
      let found = back ps say in
      let same : ps ≡ done ++ map Plain (drop 1 left) = found.1 ∙ ap (λ qs. done ++ qs) (said_plain left w found.0 zeroth is found.2) in
      subst (Holds new) (sym same) (adds done holds),
)

pub read_part : (words left : List Word) (old new : Given) (w : Word) (next : Option Word) (p : Part) (k : ℕ) → Read words left old → slice_get left 0 ≡ Some w → slice_get left 1 ≡ next → w ≢ codes "--" → Begins w next p k
    → ((ps : List Part) → Holds old ps → Holds new (ps ++ p ∷ [])) → Read words (drop k left) new
read_part words left old new w next p k (done, holds, on, back) zeroth second not begins adds = (
  done ++ p ∷ [],
  adds done holds,
  λ ps say. subst (Say words) (sym (append_assoc done (p ∷ []) ps)) (on (p ∷ ps) (say_on left w next p k ps begins zeroth second say)),
  λ all say.
      let found = back all say in
      let step = say_step left w next p k found.0 begins zeroth second not found.2 in
      (step.0, found.1 ∙ ap (λ qs. done ++ qs) step.1 ∙ sym (append_assoc done (p ∷ []) step.0), step.2),
)

pub read_nothing : (words left : List Word) (given : Given) (w : Word) (next : Option Word) → Read words left given → slice_get left 0 ≡ Some w → slice_get left 1 ≡ next → w ≢ codes "--" → ((p : Part) (k : ℕ) → Begins w next p k → ⊥)
    → (ps : List Part) → Say words ps → ⊥
read_nothing words left given w next (done, holds, on, back) zeroth second not never ps say =
    let found = back ps say in say_nothing left w next found.0 never zeroth second not found.2

pub read_twice : (words left : List Word) (given : Given) (w : Word) (next : Option Word) (p : Part) (k : ℕ) → Read words left given → slice_get left 0 ≡ Some w → slice_get left 1 ≡ next → w ≢ codes "--" → Begins w next p k
    → ((ps qs : List Part) → Holds given ps → IsOnce (ps ++ p ∷ qs) → ⊥) → (ps : List Part) → Say words ps → IsOnce ps → ⊥
read_twice words left given w next p k (done, holds, on, back) zeroth second not begins twice ps say once =
    let found = back ps say in
    let step = say_step left w next p k found.0 begins zeroth second not found.2 in
    twice done step.0 holds (subst IsOnce (found.1 ∙ ap (λ qs. done ++ qs) step.1) once)

pub memory_else : (f : ReadFault) → (f ≡ fault.Unknown → ⊥) → f ≢ fault.NoEnd → f ≢ fault.TwoInputs → f ≡ fault.Memory
memory_else fault.Unknown not other alone = absurd (not refl)
memory_else fault.NoEnd not other alone = absurd (other refl)
memory_else fault.TwoInputs not other alone = absurd (alone refl)
memory_else fault.Memory not other alone = refl

-- one more plain word
pub more_word : {A : Type 0} (f : A → Word) (xs : List A) (i : ℕ) (x : A) (ps : List Part) (ports : List ℕ) (json : Bool) (at : Option Point) (over : Option Rollover) (items : List (Bor Word)) (counts : Bool) (transfer server : Option ℕ)
    (word : Bor Word) → i < length xs → x ≡ get_or xs i x → word.now ≡ f x
    → Have (ps ++ map Plain (map f (take i xs))) ports json at over (map (λ w. w.now) items) × Choose (ps ++ map Plain (map f (take i xs))) counts transfer server
    → Have (ps ++ map Plain (map f (take (i + 1) xs))) ports json at over (map (λ w. w.now) (items ++ word ∷ [])) × Choose (ps ++ map Plain (map f (take (i + 1) xs))) counts transfer server
more_word f xs i x ps ports json at over items counts transfer server word within is same h =
    let more : ps ++ map Plain (map f (take (i + 1) xs)) ≡ (ps ++ map Plain (map f (take i xs))) ++ Plain word.now ∷ [] =
    ap (λ l. ps ++ map Plain (map f l)) (ap (λ n. take n xs) (add-one i) ∙ take-suc xs i x within ∙ ap (λ y. take i xs ++ y ∷ []) (sym is))
    ∙ ap (λ l. ps ++ map Plain l) (map-append f (take i xs) (x ∷ []))
    ∙ ap (λ l. ps ++ l) (map-append Plain (map f (take i xs)) (f x ∷ []))
    ∙ sym (append_assoc ps (map Plain (map f (take i xs))) (Plain (f x) ∷ []))
    ∙ ap (λ y. (ps ++ map Plain (map f (take i xs))) ++ Plain y ∷ []) (sym same) in
    subst (λ qs. Have qs ports json at over (map (λ w. w.now) (items ++ word ∷ [])) × Choose qs counts transfer server) (sym more)
    (have_word (ps ++ map Plain (map f (take i xs))) ports json at over items word h.0, choose_beside (ps ++ map Plain (map f (take i xs))) (Plain word.now) counts transfer server refl refl refl h.1)
