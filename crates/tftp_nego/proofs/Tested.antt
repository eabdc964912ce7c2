-- From the tests of an OACK, one by one, to its agreement or its first fault.
use Rattle.std.proofs.Common.{Bool, true, false, cond, ◌≡◌, ◌≢◌, inl, inr, ℕ, ◌<◌, ◌≤◌, List, [], ◌∷◌, get_or, Option, Some, None, refl, sym, ap, subst, ◌∙◌, arith, codes, bytes_eq}
use Rattle.std.proofs.lemmas.Slice.Eq.{bytes_eq-Decides}
use Rattle.std.specs.FinMap as map
use Rattle.std.proofs.lemmas.Bool.{cases_lt}
use Rattle.tftp_packet.specs.{OptionMap, OptionValue, Num, Text, no_options, lower, value_of, RequestParts, Pair, map_of, AreApart, Side, Get, Put}
use Rattle.tftp_packet.specs.{Rollover}
use Rattle.tftp_nego.specs.{AgreementRule, NegoFault, MayAnswer, MayAgree, AgreementBroken, Holds, FirstFault, HasOption, IsOutsideProfile, IsWrongNumber, IsWrongValue, EachName, SomeName, IsInProfile, IsAnswered, IsUnanswered, AreNot, IsLowered, IsKept, IsSize, AllAnswered, SomeUnanswered, FitsNumbers}
use Rattle.tftp_nego.specs.declared.fault.NegoFault.TheVariants as fault
use Rattle.tftp_nego.specs.declared.rule.AgreementRule.TheVariants as rule
use Rattle.tftp_nego.proofs.OptionMaps.{text_of_value, each_in_map, some_in_map, has_not_empty, some_not_empty}
use Rattle.tftp_nego.proofs.FaultOrder.{first_fault}

-- the options that may be agreed differ in their third letters
third : List ℕ → ℕ
third name = get_or name 2 0

blksize_third : (name : List ℕ) → name ≡ codes "blksize" → third name ≡ 107
unfolding third
blksize_third name e = ap third e

windowsize_third : (name : List ℕ) → name ≡ codes "windowsize" → third name ≡ 110
unfolding third
windowsize_third name e = ap third e

timeout_third : (name : List ℕ) → name ≡ codes "timeout" → third name ≡ 109
unfolding third
timeout_third name e = ap third e

tsize_third : (name : List ℕ) → name ≡ codes "tsize" → third name ≡ 105
unfolding third
tsize_third name e = ap third e

-- ---- a number that may answer is not wrong
may_not_wrong : (side : Side) (name : List ℕ) (n a : ℕ) → MayAnswer side name n a → IsWrongNumber side name n a → ⊥
may_not_wrong side name n a (inl (p, may)) (inl (q, wrong)) = omega arith
may_not_wrong side name n a (inl (p, may)) (inr (inl (q, wrong))) = omega (arith, blksize_third name p, windowsize_third name q)
may_not_wrong side name n a (inl (p, may)) (inr (inr (inl (q, wrong)))) = omega (arith, blksize_third name p, timeout_third name q)
may_not_wrong side name n a (inl (p, may)) (inr (inr (inr (q, put, wrong)))) = omega (arith, blksize_third name p, tsize_third name q)
may_not_wrong side name n a (inr (inl (p, may))) (inl (q, wrong)) = omega (arith, windowsize_third name p, blksize_third name q)
may_not_wrong side name n a (inr (inl (p, may))) (inr (inl (q, wrong))) = omega arith
may_not_wrong side name n a (inr (inl (p, may))) (inr (inr (inl (q, wrong)))) = omega (arith, windowsize_third name p, timeout_third name q)
may_not_wrong side name n a (inr (inl (p, may))) (inr (inr (inr (q, put, wrong)))) = omega (arith, windowsize_third name p, tsize_third name q)
may_not_wrong side name n a (inr (inr (inl (p, may)))) (inl (q, wrong)) = omega (arith, timeout_third name p, blksize_third name q)
may_not_wrong side name n a (inr (inr (inl (p, may)))) (inr (inl (q, wrong))) = omega (arith, timeout_third name p, windowsize_third name q)
may_not_wrong side name n a (inr (inr (inl (p, may)))) (inr (inr (inl (q, wrong)))) = wrong may
may_not_wrong side name n a (inr (inr (inl (p, may)))) (inr (inr (inr (q, put, wrong)))) = omega (arith, timeout_third name p, tsize_third name q)
may_not_wrong side name n a (inr (inr (inr (p, may)))) (inl (q, wrong)) = omega (arith, tsize_third name p, blksize_third name q)
may_not_wrong side name n a (inr (inr (inr (p, may)))) (inr (inl (q, wrong))) = omega (arith, tsize_third name p, windowsize_third name q)
may_not_wrong side name n a (inr (inr (inr (p, may)))) (inr (inr (inl (q, wrong)))) = omega (arith, tsize_third name p, timeout_third name q)
may_not_wrong side name n a (inr (inr (inr (p, may)))) (inr (inr (inr (q, put, wrong)))) = wrong (may put)

may_in_profile : (side : Side) (name : List ℕ) (n a : ℕ) → MayAnswer side name n a → IsOutsideProfile name → ⊥
may_in_profile side name n a (inl (p, may)) outside = outside.0 p
may_in_profile side name n a (inr (inl (p, may))) outside = outside.3 p
may_in_profile side name n a (inr (inr (inl (p, may)))) outside = outside.1 p
may_in_profile side name n a (inr (inr (inr (p, may)))) outside = outside.2 p

may_no_multicast : (side : Side) (n a : ℕ) → MayAnswer side (codes "multicast") n a → ⊥
may_no_multicast side n a may = may_in_profile side (codes "multicast") n a may (
  (λ e. cc),
  (λ e. cc),
  (λ e. cc),
  (λ e. cc),
)

-- ---- each option was asked for and may be given
abbrev pub AllAsked : RequestParts → OptionMap → Type 0
AllAsked request agreed = (name : List ℕ) (value : OptionValue) → map.get agreed name ≡ Some value
    → (asked given : ℕ) × (map.get request.options name ≡ Some (Num asked)) × (value ≡ Num given) × MayAnswer request.side name asked given

answer_at : (May : ℕ → ℕ → Type 0) (asked given : OptionMap) (side : Side) (key name : List ℕ) (value : OptionValue) → ((n a : ℕ) → May n a → MayAnswer side name n a)
    → IsAnswered May asked given key → name ≡ key → map.get given name ≡ Some value → (n a : ℕ) × (map.get asked name ≡ Some (Num n)) × (value ≡ Num a) × MayAnswer side name n a
answer_at May asked given side key name value so answered e has =
    let (n, a, had, is, may) = subst (λ k. IsAnswered May asked given k) (sym e) answered value has in (n, a, had, is, so n a may)

pub all_asked : (request : RequestParts) (pairs : List Pair) → EachName IsInProfile pairs → AllAnswered request (map_of pairs) → AllAsked request (map_of pairs)
all_asked request pairs known all name value has = elim (each_in_map IsInProfile pairs known name (value, has)) [
  | inl e ↦ answer_at IsLowered request.options (map_of pairs) request.side (codes "blksize") name value (λ n a may. inl (e, may)) all.0 e has
  | inr (inl e) ↦ answer_at IsKept request.options (map_of pairs) request.side (codes "timeout") name value (λ n a may. inr (inr (inl (e, may)))) all.1 e has
  | inr (inr (inl e)) ↦ answer_at (IsSize request.side) request.options (map_of pairs) request.side (codes "tsize") name value (λ n a may. inr (inr (inr (e, may)))) all.3 e has
  | inr (inr (inr e)) ↦ answer_at IsLowered request.options (map_of pairs) request.side (codes "windowsize") name value (λ n a may. inr (inl (e, may))) all.2 e has
]

pub may_agree : (rollover : Option Rollover) (request : RequestParts) (agreed : OptionMap) → AllAsked request agreed → FitsNumbers rollover request agreed → MayAgree rollover request agreed
may_agree rollover request agreed all fits = record { asked = all; size = fits }

-- ---- what each test excludes
pub all_requested_no_fault : (request : RequestParts) (pairs : List Pair) → EachName (HasOption request.options) pairs → AgreementBroken rule.OptionNotRequested request (map_of pairs) → ⊥
all_requested_no_fault request pairs each (name, has, none) =
    let (value, found) = each_in_map (HasOption request.options) pairs each name has in
    let same : None ≡ Some value = sym none ∙ found in cc

known_not_outside : (name : List ℕ) → IsInProfile name → IsOutsideProfile name → ⊥
known_not_outside name (inl e) outside = outside.0 e
known_not_outside name (inr (inl e)) outside = outside.1 e
known_not_outside name (inr (inr (inl e))) outside = outside.2 e
known_not_outside name (inr (inr (inr e))) outside = outside.3 e

pub all_known_no_fault : (request : RequestParts) (pairs : List Pair) → EachName IsInProfile pairs → AgreementBroken rule.OptionOutsideProfile request (map_of pairs) → ⊥
all_known_no_fault request pairs each (name, has, outside) = known_not_outside name (each_in_map IsInProfile pairs each name has) outside

pub all_asked_no_fault : (request : RequestParts) (agreed : OptionMap) → AllAsked request agreed → AgreementBroken rule.OptionValue request agreed → ⊥
all_asked_no_fault request agreed all (name, asked, given, had, has, wrong) =
    let (n, a, has_asked, is, may) = all name given has in
    let one : Some asked ≡ Some (Num n) = sym had ∙ has_asked in
    let same : asked ≡ Num n = cc in
    may_not_wrong request.side name n a may
    (subst (λ v. IsWrongValue request.side name v (Num a)) same (subst (λ v. IsWrongValue request.side name asked v) is wrong))

fits_no_fault : (rollover : Option Rollover) (request : RequestParts) (agreed : OptionMap) → MayAgree rollover request agreed → Holds rollover fault.BeyondBlock65535 request agreed → ⊥
fits_no_fault rollover request agreed may (size, octet, has, beyond) = let fits = may.size octet size has in omega (arith, fits, beyond)

-- where each option was asked for and may be given, and there is one, no rule is broken
pub agreement_kept : (request : RequestParts) (agreed : OptionMap) → agreed ≢ no_options → AllAsked request agreed → (broken : AgreementRule) → AgreementBroken broken request agreed → ⊥
agreement_kept request agreed some all rule.OackEmpty h = some h
agreement_kept request agreed some all rule.MulticastAgreed (value, has) =
    let (n, a, had, is, answers) = all (codes "multicast") value has in may_no_multicast request.side n a answers
agreement_kept request agreed some all rule.OptionNotRequested (name, (value, has), none) =
    let (n, a, had, is, answers) = all name value has in
    let same : None ≡ Some (Num n) = sym none ∙ had in cc
agreement_kept request agreed some all rule.OptionOutsideProfile (name, (value, has), outside) =
    let (n, a, had, is, answers) = all name value has in may_in_profile request.side name n a answers outside
agreement_kept request agreed some all rule.OptionValue h = all_asked_no_fault request agreed all h

-- what may be agreed has no fault
pub no_fault : (rollover : Option Rollover) (request : RequestParts) (agreed : OptionMap) → agreed ≢ no_options → MayAgree rollover request agreed → (f : NegoFault) → Holds rollover f request agreed → ⊥
no_fault rollover request agreed some may (fault.Broken broken) h = agreement_kept request agreed some may.asked broken h
no_fault rollover request agreed some may fault.BeyondBlock65535 h = fits_no_fault rollover request agreed may h
no_fault rollover request agreed some may fault.Memory h = h

-- ---- a value that does not answer
wrong_value : (May : ℕ → ℕ → Type 0) (side : Side) (name : List ℕ) → ((n a : ℕ) → (May n a → ⊥) → IsWrongNumber side name n a) → (was value : OptionValue) → AreNot May was value → IsWrongValue side name was value
wrong_value May side name so (Num n) (Num a) never = so n a never
wrong_value May side name so (Num n) (Text text) never = tt
wrong_value May side name so (Text text) value never = tt

unanswered_at : (May : ℕ → ℕ → Type 0) (request : RequestParts) (agreed : OptionMap) (name : List ℕ) → ((n a : ℕ) → (May n a → ⊥) → IsWrongNumber request.side name n a)
    → ((key : List ℕ) → HasOption agreed key → HasOption request.options key) → IsUnanswered May request.options agreed name → AgreementBroken rule.OptionValue request agreed
unanswered_at May request agreed name so requested (value, has, inl none) =
    let (was, had) = requested name (value, has) in
    let same : None ≡ Some was = sym none ∙ had in absurd (let x : ⊥ = cc in x)
unanswered_at May request agreed name so requested (value, has, inr (was, had, never)) =
    (name, was, value, had, has, wrong_value May request.side name so was value never)

not_lowered : (n a : ℕ) → (a ≤ n → ⊥) → n < a
not_lowered n a never = elim (cases_lt n a) [ inl below ↦ below | inr other ↦ absurd (never (omega arith)) ]

not_size : (side : Side) (n a : ℕ) → (IsSize side n a → ⊥) → (side ≡ Put) × (a ≢ n)
not_size Get n a never = absurd (never (λ e. absurd (let x : ⊥ = cc in x)))
not_size Put n a never = (refl, λ e. never (λ _. e))

some_unanswered : (request : RequestParts) (agreed : OptionMap) → ((key : List ℕ) → HasOption agreed key → HasOption request.options key) → SomeUnanswered request agreed → AgreementBroken rule.OptionValue request agreed
some_unanswered request agreed requested (inl h) = unanswered_at IsLowered request agreed (codes "blksize") (λ n a never. inl (refl, not_lowered n a never)) requested h
some_unanswered request agreed requested (inr (inl h)) = unanswered_at IsKept request agreed (codes "timeout") (λ n a never. inr (inr (inl (refl, never)))) requested h
some_unanswered request agreed requested (inr (inr (inl h))) = unanswered_at IsLowered request agreed (codes "windowsize") (λ n a never. inr (inl (refl, not_lowered n a never))) requested h
some_unanswered request agreed requested (inr (inr (inr h))) = unanswered_at (IsSize request.side) request agreed (codes "tsize") (λ n a never. let p = not_size request.side n a never in inr (inr (inr (refl, p.0, p.1)))) requested h

pub unanswered_fault : (request : RequestParts) (pairs : List Pair) → EachName (HasOption request.options) pairs → SomeUnanswered request (map_of pairs) → AgreementBroken rule.OptionValue request (map_of pairs)
unanswered_fault request pairs each some = some_unanswered request (map_of pairs) (λ name has. each_in_map (HasOption request.options) pairs each name has) some

-- ---- the first fault, where the tests before it passed
pub first_multicast : (rollover : Option Rollover) (request : RequestParts) (pairs : List Pair) → AgreementBroken rule.MulticastAgreed request (map_of pairs) → FirstFault rollover request (map_of pairs) (fault.Broken rule.MulticastAgreed)
first_multicast rollover request pairs has = first_fault rollover request (map_of pairs) (fault.Broken rule.MulticastAgreed) has (has_not_empty (map_of pairs) (codes "multicast") has)

pub first_not_requested : (rollover : Option Rollover) (request : RequestParts) (pairs : List Pair) → AreApart pairs → pairs ≢ [] → (AgreementBroken rule.MulticastAgreed request (map_of pairs) → ⊥)
    → SomeName (λ name. map.get request.options name ≡ None) pairs → FirstFault rollover request (map_of pairs) (fault.Broken rule.OptionNotRequested)
first_not_requested rollover request pairs apart some single found =
    first_fault rollover request (map_of pairs) (fault.Broken rule.OptionNotRequested) (some_in_map (λ name. map.get request.options name ≡ None) pairs apart found) (some_not_empty pairs apart some) single

pub first_outside : (rollover : Option Rollover) (request : RequestParts) (pairs : List Pair) → AreApart pairs → pairs ≢ [] → (AgreementBroken rule.MulticastAgreed request (map_of pairs) → ⊥)
    → EachName (HasOption request.options) pairs → SomeName IsOutsideProfile pairs → FirstFault rollover request (map_of pairs) (fault.Broken rule.OptionOutsideProfile)
first_outside rollover request pairs apart some single requested found =
    first_fault rollover request (map_of pairs) (fault.Broken rule.OptionOutsideProfile) (some_in_map IsOutsideProfile pairs apart found) (some_not_empty pairs apart some) single (all_requested_no_fault request pairs requested)

pub first_wrong_value : (rollover : Option Rollover) (request : RequestParts) (pairs : List Pair) → AreApart pairs → pairs ≢ [] → (AgreementBroken rule.MulticastAgreed request (map_of pairs) → ⊥)
    → EachName (HasOption request.options) pairs → EachName IsInProfile pairs → SomeUnanswered request (map_of pairs) → FirstFault rollover request (map_of pairs) (fault.Broken rule.OptionValue)
first_wrong_value rollover request pairs apart some single requested known found =
    first_fault rollover request (map_of pairs) (fault.Broken rule.OptionValue) (unanswered_fault request pairs requested found) (some_not_empty pairs apart some) single
    (all_requested_no_fault request pairs requested) (all_known_no_fault request pairs known)

pub first_beyond : (rollover : Option Rollover) (request : RequestParts) (pairs : List Pair) → AreApart pairs → pairs ≢ [] → (AgreementBroken rule.MulticastAgreed request (map_of pairs) → ⊥)
    → EachName (HasOption request.options) pairs → EachName IsInProfile pairs → AllAnswered request (map_of pairs) → Holds rollover fault.BeyondBlock65535 request (map_of pairs)
    → FirstFault rollover request (map_of pairs) fault.BeyondBlock65535
first_beyond rollover request pairs apart some single requested known all found =
    first_fault rollover request (map_of pairs) fault.BeyondBlock65535 found (some_not_empty pairs apart some) single
    (all_requested_no_fault request pairs requested) (all_known_no_fault request pairs known) (all_asked_no_fault request (map_of pairs) (all_asked request pairs known all))
    (λ h. h) (λ h. h) (λ h. h) (λ h. h)

pub tested_agrees : (rollover : Option Rollover) (request : RequestParts) (pairs : List Pair) → AreApart pairs → pairs ≢ [] → EachName IsInProfile pairs → AllAnswered request (map_of pairs) → FitsNumbers rollover request (map_of pairs)
    → (map_of pairs ≢ no_options) × MayAgree rollover request (map_of pairs)
tested_agrees rollover request pairs apart some known all fits = (some_not_empty pairs apart some, may_agree rollover request (map_of pairs) (all_asked request pairs known all) fits)

-- ---- an OACK of one option
only_one : (b : Bool) (key name text found : List ℕ) → bytes_eq key name ≡ b → cond b (Some text) None ≡ Some found → (key ≡ name) × (text ≡ found)
only_one true key name text found same at = ((bytes_eq-Decides key name).0 same, cc)
only_one false key name text found same at = absurd (let x : ⊥ = cc in x)

pub agree_on_one : (rollover : Option Rollover) (request : RequestParts) (key text : List ℕ) (asked given : ℕ) → value_of (lower key) text ≡ Num given → map.get request.options (lower key) ≡ Some (Num asked)
    → MayAnswer request.side (lower key) asked given → FitsNumbers rollover request (map_of ((key, text) ∷ [])) → MayAgree rollover request (map_of ((key, text) ∷ []))
agree_on_one rollover request key text asked given is had may fits = record { asked = all; size = fits }
  where
    all : (name : List ℕ) (value : OptionValue) → map.get (map_of ((key, text) ∷ [])) name ≡ Some value
        → (n a : ℕ) × (map.get request.options name ≡ Some (Num n)) × (value ≡ Num a) × MayAnswer request.side name n a
    all name value has =
        let (found, at, same) = text_of_value ((key, text) ∷ []) name value has in
        let (e, t) = only_one (bytes_eq (lower key) name) (lower key) name text found refl at in (
          asked,
          given,
          subst (λ k. map.get request.options k ≡ Some (Num asked)) e had,
          sym same ∙ subst (λ k. value_of k found ≡ Num given) e (subst (λ x. value_of (lower key) x ≡ Num given) t is),
          subst (λ k. MayAnswer request.side k asked given) e may,
        )
