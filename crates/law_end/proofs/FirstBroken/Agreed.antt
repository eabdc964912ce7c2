-- Options that have none of the faults may be agreed.
use Rattle.std.proofs.Common.{◌≡◌, ℕ, ◌+◌, ◌/◌, ◌⊎◌, Bool, true, false, List, Option, Some, None, codes, inl, inr, refl, sym, ◌∙◌}
use Rattle.std.proofs.lemmas.Bool.{false≢true, cases_lt, cases_eq}
use Rattle.std.proofs.lemmas.Slice.Eq.{bytes_eq-Decides}
use Rattle.std.specs.Str.{bytes_eq}
use Rattle.std.specs.FinMap as map
use Rattle.tftp_packet.specs.{OptionMap, OptionValue, Num, Text, RequestParts, Side}
use Rattle.tftp_packet.specs.{Rollover}
use Rattle.tftp_packet.specs.Rounds.{greatest_of}
use Rattle.law_model.specs.Model.{option_or}
use Rattle.tftp_nego.specs.{MayAnswer, MayAgree, IsOutsideProfile, IsWrongNumber, Holds, NegoFault, Broken, OptionNotRequested, OptionOutsideProfile, OptionValue as BadValue, BeyondBlock65535}

-- one of the four options that may be agreed
abbrev IsKnown : List ℕ → Type 0
IsKnown name = (name ≡ codes "blksize") ⊎ ((name ≡ codes "windowsize") ⊎ ((name ≡ codes "timeout") ⊎ (name ≡ codes "tsize")))

names_differ : (name other : List ℕ) → bytes_eq name other ≡ false → name ≡ other → ⊥
names_differ name other e is = false≢true (sym e ∙ (bytes_eq-Decides name other).1 is)

-- one of the four, or none of them
is_known : (name : List ℕ) → IsKnown name ⊎ IsOutsideProfile name
is_known name = by (bytes_eq name (codes "blksize")) (bytes_eq name (codes "windowsize")) (bytes_eq name (codes "timeout")) (bytes_eq name (codes "tsize")) refl refl refl refl
  where
    by : (a b c d : Bool) → bytes_eq name (codes "blksize") ≡ a → bytes_eq name (codes "windowsize") ≡ b → bytes_eq name (codes "timeout") ≡ c → bytes_eq name (codes "tsize") ≡ d → IsKnown name ⊎ IsOutsideProfile name
    by true b c d e f g h = inl (inl ((bytes_eq-Decides name (codes "blksize")).0 e))
    by false true c d e f g h = inl (inr (inl ((bytes_eq-Decides name (codes "windowsize")).0 f)))
    by false false true d e f g h = inl (inr (inr (inl ((bytes_eq-Decides name (codes "timeout")).0 g))))
    by false false false true e f g h = inl (inr (inr (inr ((bytes_eq-Decides name (codes "tsize")).0 h))))
    by false false false false e f g h = inr (names_differ name (codes "blksize") e, names_differ name (codes "timeout") g, names_differ name (codes "tsize") h, names_differ name (codes "windowsize") f)

good_number : (side : Side) (name : List ℕ) (asked given : ℕ) → IsKnown name → (IsWrongNumber side name asked given → ⊥) → MayAnswer side name asked given
good_number side name asked given (inl is) bad = elim (cases_lt asked given) [ inl above ↦ absurd (bad (inl (is, above))) | inr within ↦ inl (is, within) ]
good_number side name asked given (inr (inl is)) bad = elim (cases_lt asked given) [ inl above ↦ absurd (bad (inr (inl (is, above)))) | inr within ↦ inr (inl (is, within)) ]
good_number side name asked given (inr (inr (inl is))) bad = elim (cases_eq given asked) [ inl same ↦ inr (inr (inl (is, same))) | inr differs ↦ absurd (bad (inr (inr (inl (is, differs))))) ]
good_number side name asked given (inr (inr (inr is))) bad = elim (cases_eq given asked) [
  | inl same ↦ inr (inr (inr (is, λ put. same)))
  | inr differs ↦ inr (inr (inr (is, λ put. absurd (bad (inr (inr (inr (is, put, differs))))))))
]

answer_found : (rollover : Option Rollover) (request : RequestParts) (oack : OptionMap) → ((fault : NegoFault) → Holds rollover fault request oack → ⊥) → (name : List ℕ) (given : OptionValue) → map.get oack name ≡ Some given → IsKnown name
    → (o : Option OptionValue) → map.get request.options name ≡ o → (asked number : ℕ) × (map.get request.options name ≡ Some (Num asked)) × (given ≡ Num number) × MayAnswer request.side name asked number
answer_found rollover request oack none name given get known None is = absurd (none (Broken OptionNotRequested) (name, (given, get), is))
answer_found rollover request oack none name given get known (Some (Text asked)) is = absurd (none (Broken BadValue) (name, Text asked, given, is, get, tt))
answer_found rollover request oack none name (Text given) get known (Some (Num asked)) is = absurd (none (Broken BadValue) (name, Num asked, Text given, is, get, tt))
answer_found rollover request oack none name (Num given) get known (Some (Num asked)) is =
    (asked, given, is, refl, good_number request.side name asked given known (λ bad. none (Broken BadValue) (name, Num asked, Num given, is, get, bad)))

pub without_fault : (rollover : Option Rollover) (request : RequestParts) (oack : OptionMap) → ((fault : NegoFault) → Holds rollover fault request oack → ⊥) → MayAgree rollover request oack
without_fault rollover request oack none = record {
  asked = λ name value get. elim (is_known name) [
    | inl known ↦ answer_found rollover request oack none name value get known (map.get request.options name) refl
    | inr unknown ↦ absurd (none (Broken OptionOutsideProfile) (name, (value, get), unknown))
  ];
  size = λ octet size get. elim (cases_lt (greatest_of rollover) (size / option_or 512 oack (codes "blksize") + 1)) [
    | inl many ↦ absurd (none BeyondBlock65535 (size, octet, get, many))
    | inr few ↦ few
  ];
}
