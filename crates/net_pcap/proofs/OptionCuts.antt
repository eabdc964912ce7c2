-- Options, one after another.
use Rattle.std.proofs.Common.{◌≡◌, ◌≢◌, ℕ, ◌+◌, ◌-◌, ◌*◌, ◌/◌, ◌%◌, ◌≤◌, inl, inr, List, [], ◌∷◌, ◌++◌, length, take, drop, refl, sym, ap, ◌∙◌, subst, append_assoc, arith, Bool, IfSome, ◌&&◌, ◌==◌, if◌then◌else◌, true, false, Option, Some, None, is_some, option_map}
use Rattle.std.specs.List.{slice_range}
use Rattle.net_pcap.specs.{two, short_at, OptionParts, BeginsWithOption, EndsOptions, SpellsOptions, first_value, Order}
use Rattle.net_pcap.proofs.Cuts.{after, after_is_drop, drop_twice, three_parts, length-slice_range, cut_one, rounded}
use Rattle.std.proofs.lemmas.Bool.{false≢true}
use Rattle.std.proofs.lemmas.Bool.Decides.{nat_tests}
use Rattle.std.proofs.lemmas.List.{length-take-le}

pub ends_spelled : (order : Order) (s : List ℕ) (code : ℕ) → 4 ≤ length s → code ≡ short_at order s 0 → code ≡ 0 → EndsOptions order s
ends_spelled order (a ∷ b ∷ c ∷ d ∷ rest) code enough is none = inr (a, b, c, d, rest, refl, sym is ∙ none)
ends_spelled order _ code enough is none = absurd (omega arith)

pub option_spelled : (order : Order) (s : List ℕ) (code size : ℕ) → 4 ≤ length s → code ≡ short_at order s 0 → code ≢ 0 → size ≡ short_at order s 2 → 4 + (size + 3) / 4 * 4 ≤ length s
    → BeginsWithOption order s (record { code = code; value = slice_range s 4 (4 + size) }) (after (4 + (size + 3) / 4 * 4) s)
option_spelled order (a ∷ b ∷ c ∷ d ∷ t) code size enough is some sized fits =
    let padded = (size + 3) / 4 * 4 in
    let round = rounded size in
    let rest : after (4 + padded) (a ∷ b ∷ c ∷ d ∷ t) ≡ drop padded t = after_is_drop (4 + padded) (a ∷ b ∷ c ∷ d ∷ t) ∙ sym (drop_twice padded 4 (a ∷ b ∷ c ∷ d ∷ t)) in
    let value : take (4 + size - 4) t ≡ take size t = ap (λ n. take n t) (let e : 4 + size - 4 ≡ size = omega arith in e) in
    let long : length (take (4 + size - 4) t) ≡ size = length-take-le (4 + size - 4) t (omega arith) ∙ (let e : 4 + size - 4 ≡ size = omega arith in e) in
    let pad : length (slice_range t size padded) ≡ padded - size = length-slice_range size padded t (omega arith) in
    record {
      a = a;
      b = b;
      c = c;
      d = d;
      padding = slice_range t size padded;
      are = λ i. a ∷ b ∷ c ∷ d ∷ (three_parts size padded t round.0 ∙ (λ j. sym value j ++ (slice_range t size padded ++ sym rest j))) i;
      code = is;
      some = some;
      sized = long ∙ sized;
      padded = (omega (arith, pad, round.1), let e : length (take (4 + size - 4) t) + length (slice_range t size padded) ≡ padded = omega (arith, pad, long, round.0) in ap (λ n. n % 4) e ∙ round.2);
    }
option_spelled order _ code size enough is some sized fits = absurd (omega arith)

-- one more option after some
pub options_more : (order : Order) (bytes rest after : List ℕ) (done : List OptionParts) (o : OptionParts)
    → ((os : List OptionParts) → SpellsOptions order rest os → SpellsOptions order bytes (done ++ os)) → BeginsWithOption order rest o after
    → (os : List OptionParts) → SpellsOptions order after os → SpellsOptions order bytes ((done ++ o ∷ []) ++ os)
options_more order bytes rest after done o so_far one os spelled =
    let e : (done ++ o ∷ []) ++ os ≡ done ++ (o ∷ os) = append_assoc done (o ∷ []) os in
    rw e (so_far (o ∷ os) (after, one, spelled))

two_bytes_one : (order : Order) (a b c d : ℕ) → a ≡ c → b ≡ d → two order a b ≡ two order c d
two_bytes_one order a b c d p q = λ i. two order (p i) (q i)

-- the option with which bytes begin is one, and so is what follows it
pub option_one : (order : Order) (bytes : List ℕ) (o p : OptionParts) (rest more : List ℕ) → BeginsWithOption order bytes o rest → BeginsWithOption order bytes p more → (o ≡ p) × (rest ≡ more)
option_one order bytes o p rest more x y =
    let e = sym x.are ∙ y.are in
    let ea : x.a ≡ y.a = cc in
    let eb : x.b ≡ y.b = cc in
    let ec : x.c ≡ y.c = cc in
    let ed : x.d ≡ y.d = cc in
    let tails : o.value ++ (x.padding ++ rest) ≡ p.value ++ (y.padding ++ more) = cc in
    let code : o.code ≡ p.code = x.code ∙ two_bytes_one order x.a x.b y.a y.b ea eb ∙ sym y.code in
    let size : length o.value ≡ length p.value = x.sized ∙ two_bytes_one order x.c x.d y.c y.d ec ed ∙ sym y.sized in
    let values = cut_one o.value p.value _ _ size tails in
    let pads : length x.padding ≡ length y.padding = omega (arith, x.padded.0, x.padded.1, y.padded.0, y.padded.1, size) in
    let rests = cut_one x.padding y.padding rest more pads values.1 in
    (λ i. record { code = code i; value = values.0 i }, rests.1)

-- the bytes begin with an option, so they do not end the options
no_end : (order : Order) (bytes rest : List ℕ) (o : OptionParts) → BeginsWithOption order bytes o rest → EndsOptions order bytes → ⊥
no_end order bytes rest o one (inl none) = let e = sym one.are ∙ none in let x : ⊥ = cc in x
no_end order bytes rest o one (inr (a, b, c, d, more, are, zero)) =
    let e = sym one.are ∙ are in
    let ea : one.a ≡ a = cc in
    let eb : one.b ≡ b = cc in
    one.some (one.code ∙ two_bytes_one order one.a one.b a b ea eb ∙ zero)

-- the bytes begin with an option, so there are options after it where there are any
pub options_after : (order : Order) (bytes rest : List ℕ) (o : OptionParts) (os : List OptionParts) → BeginsWithOption order bytes o rest → SpellsOptions order bytes os → (more : List OptionParts) × SpellsOptions order rest more
options_after order bytes rest o [] one ends = absurd (no_end order bytes rest o one ends)
options_after order bytes rest o (p ∷ os) one (more, other, spelled) =
    let same = option_one order bytes o p rest more one other in
    (os, rw same.1 spelled)

pub no_options : (order : Order) (bytes : List ℕ) (os : List OptionParts) → (EndsOptions order bytes → ⊥) → ((o : OptionParts) (rest : List ℕ) → BeginsWithOption order bytes o rest → ⊥) → SpellsOptions order bytes os → ⊥
no_options order bytes [] none never spelled = none spelled
no_options order bytes (o ∷ os) none never (rest, one, spelled) = never o rest one

-- the first value after one more option
pub first_later : (code size : ℕ) (done : List OptionParts) (o : OptionParts) (v : List ℕ) → first_value code size done ≡ Some v → first_value code size (done ++ o ∷ []) ≡ Some v
first_later code size [] o v e = absurd (let x : ⊥ = cc in x)
first_later code size (p ∷ done) o v e = elim (p.code == code && length p.value == size) as (λ t. (if t then Some p.value else first_value code size done) ≡ Some v → (if t then Some p.value else first_value code size (done ++ o ∷ [])) ≡ Some v) [ true ↦ λ h. h | false ↦ λ h. first_later code size done o v h ] e

pub first_now : (code size : ℕ) (done : List OptionParts) (o : OptionParts) → first_value code size done ≡ None → first_value code size (done ++ o ∷ []) ≡ (if o.code == code && length o.value == size then Some o.value else None)
first_now code size [] o e = refl
first_now code size (p ∷ done) o e = elim (p.code == code && length p.value == size) as (λ t. (if t then Some p.value else first_value code size done) ≡ None → (if t then Some p.value else first_value code size (done ++ o ∷ [])) ≡ (if o.code == code && length o.value == size then Some o.value else None)) [ true ↦ λ h. absurd (let x : ⊥ = cc in x) | false ↦ λ h. first_now code size done o h ] e

map_none : {A B : Type 0} (f : A → B) (o : Option A) → is_some o ≡ false → option_map f o ≡ None
map_none f None e = refl
map_none f (Some x) e = absurd (false≢true (sym e))

map_some : {A B : Type 0} (f : A → B) (o : Option A) → is_some o ≡ true → (v : B) × (option_map f o ≡ Some v)
map_some f None e = absurd (false≢true e)
map_some f (Some x) e = (f x, refl)

tests : (code size : ℕ) (o : OptionParts) → o.code ≡ code → length o.value ≡ size → (o.code == code && length o.value == size) ≡ true
tests code size o p q = grind (arith, nat_tests)

tests_code : (code size : ℕ) (o : OptionParts) → o.code ≢ code → (o.code == code && length o.value == size) ≡ false
tests_code code size o p = grind (arith, nat_tests)

tests_size : (code size : ℕ) (o : OptionParts) → o.code ≡ code → length o.value ≢ size → (o.code == code && length o.value == size) ≡ false
tests_size code size o p q = grind (arith, nat_tests)

module _ {A : Type 0} (f : A → List ℕ) (found : Option A) (code size : ℕ) (done : List OptionParts) (o : OptionParts) (is : option_map f found ≡ first_value code size done) where
  pub found_now : is_some found ≡ false → o.code ≡ code → length o.value ≡ size → Some o.value ≡ first_value code size (done ++ o ∷ [])
  found_now none p q = sym (first_now code size done o (sym is ∙ map_none f found none) ∙ ap (λ t. if t then Some o.value else None) (tests code size o p q))

  pub found_before : is_some found ≡ true → option_map f found ≡ first_value code size (done ++ o ∷ [])
  found_before some =
      let v = map_some f found some in
      v.1 ∙ sym (first_later code size done o v.0 (sym is ∙ v.1))

  pub other_code : is_some found ≡ false → o.code ≢ code → option_map f found ≡ first_value code size (done ++ o ∷ [])
  other_code none p = map_none f found none ∙ sym (first_now code size done o (sym is ∙ map_none f found none) ∙ ap (λ t. if t then Some o.value else None) (tests_code code size o p))

  pub other_size : is_some found ≡ false → o.code ≡ code → length o.value ≢ size → option_map f found ≡ first_value code size (done ++ o ∷ [])
  other_size none p q = map_none f found none ∙ sym (first_now code size done o (sym is ∙ map_none f found none) ∙ ap (λ t. if t then Some o.value else None) (tests_size code size o p q))

-- bytes are options in one way
pub options_one : (order : Order) (bytes : List ℕ) (os ps : List OptionParts) → SpellsOptions order bytes os → SpellsOptions order bytes ps → os ≡ ps
options_one order bytes [] [] x y = refl
options_one order bytes [] (p ∷ ps) x (rest, one, more) = absurd (no_end order bytes rest p one x)
options_one order bytes (o ∷ os) [] (rest, one, more) y = absurd (no_end order bytes rest o one y)
options_one order bytes (o ∷ os) (p ∷ ps) (rest, one, left) (more, other, others) =
    let same = option_one order bytes o p rest more one other in
    let tails = options_one order more os ps (subst (λ (l : List ℕ). SpellsOptions order l os) same.1 left) others in
    λ i. same.0 i ∷ tails i

first_cases : (code size : ℕ) (o : OptionParts) (os : List OptionParts) (v : List ℕ) → Some v ≡ first_value code size (o ∷ os) → (Some v ≡ first_value code size os → length v ≡ size)
    → (t : Bool) → (o.code == code && length o.value == size) ≡ t → length v ≡ size
first_cases code size o os v e later true is =
    let same : Some v ≡ Some o.value = e ∙ ap (λ t. if t then Some o.value else first_value code size os) is in
    let value : v ≡ o.value = cc in
    ap length value ∙ grind (arith, nat_tests)
first_cases code size o os v e later false is = later (e ∙ ap (λ t. if t then Some o.value else first_value code size os) is)

-- a value that was looked for has as many bytes as were asked
pub first_sized : (code size : ℕ) (os : List OptionParts) (found : Option (List ℕ)) → found ≡ first_value code size os → IfSome found (λ v. length v ≡ size)
first_sized code size os None e = tt
first_sized code size [] (Some v) e = absurd (let x : ⊥ = cc in x)
first_sized code size (o ∷ os) (Some v) e = first_cases code size o os v e (first_sized code size os (Some v)) (o.code == code && length o.value == size) refl
