-- Names that hosts of a recording have of their own can be given to no other host either: by names that are as good.
use Rattle.std.proofs.Common.{◌≡◌, ◌≤◌, ℕ, zero, suc, Bool, true, false, ◌||◌, List, [], ◌∷◌, Contains, inl, inr, sym, ap, subst, ◌∙◌, length, max, nat_eq, if◌then◌else◌, arith}
use Rattle.std.specs.List.{AllByRecursion, list_any}
use Rattle.std.proofs.lemmas.Bool.{false≢true, or_cases, or_left, or_right}
use Rattle.law_model.proofs.ModelLemmas.Members.{contains_cases, contains_first, contains_later, contains_none}
use Rattle.audit_flows.specs.Lines.{Recorded, same_address, version_of, bytes_of}
use Rattle.audit_flows.specs.{Address, V4, V6, Endpoint}
use Rattle.audit_flows.proofs.LinesLemmas.Endpoints.{is_same, same_itself}
use Rattle.audit_flows.proofs.LinesLemmas.Lines.{by_test}
use Rattle.audit_spared.specs.Spared.{HaveOwnNames, IsAddressIn}
use Rattle.audit_spared.proofs.SparedLemmas.Lists.{all_from}

-- ---- names that begin with zeros

zeros : ℕ → List ℕ → List ℕ
zeros zero name = name
zeros (suc n) name = 0 ∷ zeros n name

zeros_long : (n : ℕ) (name : List ℕ) → n ≤ length (zeros n name)
unfolding zeros
zeros_long zero name = omega arith
zeros_long (suc n) name = let rest = zeros_long n name in omega (arith, rest)

zeros_one : (n : ℕ) (a b : List ℕ) → zeros n a ≡ zeros n b → a ≡ b
unfolding zeros
zeros_one zero a b is = is
zeros_one (suc n) a b is = zeros_one n a b cc

abbrev whole_name : Address → List ℕ
whole_name a = version_of a ∷ bytes_of a

abbrev begins_with : ℕ → List ℕ → Bool
begins_with n [] = false
begins_with n (x ∷ xs) = nat_eq x n

whole_one : (a b : Address) → whole_name a ≡ whole_name b → a ≡ b
whole_one (V4 a) (V4 b) is = let same : a ≡ b = cc in ap V4 same
whole_one (V6 a) (V6 b) is = let same : a ≡ b = cc in ap V6 same
whole_one (V4 a) (V6 b) is = absurd (false≢true (sym (ap (begins_with 4) is)))
whole_one (V6 a) (V4 b) is = absurd (false≢true (ap (begins_with 4) is))

-- ---- the addresses of a recording

abbrev is_named : Address → Recorded → Bool
is_named a d = same_address d.source.address a || same_address d.target.address a

same_is : (a b : Address) → same_address a b ≡ true → a ≡ b
same_is a b is = ap (λ (e : Endpoint). e.address) (is_same (record { address = a; port = 0 }) (record { address = b; port = 0 }) is)

itself : (a : Address) → same_address a a ≡ true
itself a = same_itself (record { address = a; port = 0 })

named_in : (a : Address) (ds : List Recorded) → list_any (is_named a) ds ≡ true → IsAddressIn ds a
named_in a [] any = absurd (false≢true any)
named_in a (d ∷ ds) any = elim (or_cases (is_named a d) (list_any (is_named a) ds) any) [
  | inl this ↦ elim (or_cases (same_address d.source.address a) (same_address d.target.address a) this) [
    | inl source ↦ (d, contains_first d ds, inl (same_is d.source.address a source))
    | inr target ↦ (d, contains_first d ds, inr (same_is d.target.address a target))
  ]
  | inr later ↦ let (e, there, is) = named_in a ds later in (e, contains_later d ds e there, is)
]

any_there : (f : Recorded → Bool) (ds : List Recorded) (d : Recorded) → Contains ds d → f d ≡ true → list_any f ds ≡ true
any_there f [] d there is = absurd (contains_none d there)
any_there f (e ∷ ds) d there is = elim (contains_cases e ds d there) [
  | inl this ↦ or_left (f e) (list_any f ds) (subst (λ x. f x ≡ true) (sym this) is)
  | inr later ↦ or_right (f e) (list_any f ds) (any_there f ds d later is)
]

module _ (write : Address → List ℕ) where
  longest : List Recorded → ℕ
  longest [] = 0
  longest (d ∷ ds) = max (max (length (write d.source.address)) (length (write d.target.address))) (longest ds)

  is_short : (a : Address) (ds : List Recorded) → list_any (is_named a) ds ≡ true → length (write a) ≤ longest ds
  unfolding longest
  is_short a [] any = absurd (false≢true any)
  is_short a (d ∷ ds) any = elim (or_cases (is_named a d) (list_any (is_named a) ds) any) [
    | inl this ↦ elim (or_cases (same_address d.source.address a) (same_address d.target.address a) this) [
      | inl source ↦ let same : length (write d.source.address) ≡ length (write a) = ap (λ x. length (write x)) (same_is d.source.address a source) in omega (arith, same)
      | inr target ↦ let same : length (write d.target.address) ≡ length (write a) = ap (λ x. length (write x)) (same_is d.target.address a target) in omega (arith, same)
    ]
    | inr later ↦ let rest = is_short a ds later in omega (arith, rest)
  ]

  module _ (recorded : List Recorded) where
    -- the hosts of the recording keep their names, and all others get longer ones
    pub renamed : Address → List ℕ
    renamed a = if list_any (is_named a) recorded then write a else zeros (suc (longest recorded)) (whole_name a)

    kept_name : (a : Address) → list_any (is_named a) recorded ≡ true → renamed a ≡ write a
    unfolding renamed
    kept_name a is = ap (λ b. if b then write a else zeros (suc (longest recorded)) (whole_name a)) is

    long_name : (a : Address) → list_any (is_named a) recorded ≡ false → renamed a ≡ zeros (suc (longest recorded)) (whole_name a)
    unfolding renamed
    long_name a off = ap (λ b. if b then write a else zeros (suc (longest recorded)) (whole_name a)) off

    never : (a b : Address) → list_any (is_named a) recorded ≡ true → list_any (is_named b) recorded ≡ false → renamed a ≡ renamed b → ⊥
    never a b is off same =
        let short = is_short a recorded is in
        let long = zeros_long (suc (longest recorded)) (whole_name b) in
        let lengths : length (write a) ≡ length (zeros (suc (longest recorded)) (whole_name b)) = ap length (sym (kept_name a is) ∙ same ∙ long_name b off) in
        absurd (omega (arith, short, long, lengths))

    pub renamed_one : HaveOwnNames write recorded → (a b : Address) → renamed a ≡ renamed b → a ≡ b
    renamed_one own a b same = by_test (list_any (is_named a) recorded)
        (λ is. by_test (list_any (is_named b) recorded)
        (λ also. own a b (named_in a recorded is) (named_in b recorded also) (sym (kept_name a is) ∙ same ∙ kept_name b also))
        (λ off. absurd (never a b is off same)))
        (λ off. by_test (list_any (is_named b) recorded)
        (λ also. absurd (never b a also off (sym same)))
        (λ none. whole_one a b (zeros_one (suc (longest recorded)) (whole_name a) (whole_name b) (sym (long_name a off) ∙ same ∙ long_name b none))))

    -- a datagram's hosts are named as before
    pub record IsNamedAsBefore (d : Recorded) : Type 0 where
      pub source : renamed d.source.address ≡ write d.source.address
      pub target : renamed d.target.address ≡ write d.target.address

    pub as_before : AllByRecursion IsNamedAsBefore recorded
    as_before = all_from IsNamedAsBefore recorded (λ d there. record {
      source = kept_name d.source.address (any_there (is_named d.source.address) recorded d there
          (or_left (same_address d.source.address d.source.address) (same_address d.target.address d.source.address) (itself d.source.address)));
      target = kept_name d.target.address (any_there (is_named d.target.address) recorded d there
          (or_right (same_address d.source.address d.target.address) (same_address d.target.address d.target.address) (itself d.target.address)));
    })
