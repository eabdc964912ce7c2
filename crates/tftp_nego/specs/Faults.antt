-- Why an OACK may not be agreed to. The rules and the other faults stand in the order in which they are tested (RFC 2347;
-- RFC 2348; RFC 2349; RFC 7440, section 3).
use Rattle.std.specs.Prelude.{◌≡◌, ◌≢◌, ◌⊎◌, ℕ, ◌+◌, ◌/◌, ◌<◌, List, Option, Some, None, codes}
use Rattle.std.specs.FinMap as map
use Rattle.tftp_packet.specs.{IsFirst, OptionMap, OptionValue, Num, Text, no_options, RequestParts, Side, Put, Octet}
use Rattle.tftp_packet.specs.{Rollover}
use Rattle.tftp_packet.specs.Rounds.{greatest_of}
use Rattle.tftp_nego.specs.declared.fault.NegoFault.{NegoFault}
use Rattle.tftp_nego.specs.declared.fault.NegoFault.TheVariants as fault
use Rattle.tftp_nego.specs.declared.rule.AgreementRule.{AgreementRule}
use Rattle.tftp_nego.specs.declared.rule.AgreementRule.TheVariants.{OackEmpty, MulticastAgreed, OptionNotRequested, OptionOutsideProfile, OptionValue as BadValue}
use Rattle.tftp_nego.specs.Numbers.{option_or}
use Rattle.tftp_nego.specs.AgreementNames.{agreement_number}

-- the map has an option of this name
abbrev pub HasOption : OptionMap → List ℕ → Type 0
HasOption options name = (value : OptionValue) × (map.get options name ≡ Some value)

-- none of the four options that may be agreed
abbrev pub IsOutsideProfile : List ℕ → Type 0
IsOutsideProfile name = (name ≢ codes "blksize") × (name ≢ codes "timeout") × (name ≢ codes "tsize") × (name ≢ codes "windowsize")

-- the number given may not answer the number asked
abbrev pub IsWrongNumber : Side → List ℕ → ℕ → ℕ → Type 0
IsWrongNumber side name asked given =
    ((name ≡ codes "blksize") × (asked < given))
    ⊎ (((name ≡ codes "windowsize") × (asked < given))
    ⊎ (((name ≡ codes "timeout") × (given ≢ asked))
    ⊎ ((name ≡ codes "tsize") × (side ≡ Put) × (given ≢ asked))))

-- the value given may not answer the value asked: one of them is no number, or the number is wrong
abbrev pub IsWrongValue : Side → List ℕ → OptionValue → OptionValue → Type 0
IsWrongValue side name (Num asked) (Num given) = IsWrongNumber side name asked given
IsWrongValue side name (Num asked) (Text given) = Unit {0}
IsWrongValue side name (Text asked) given = Unit {0}

-- when the OACK's options break each rule on what may be agreed
abbrev pub AgreementBroken : AgreementRule → RequestParts → OptionMap → Type 0
AgreementBroken OackEmpty request agreed = agreed ≡ no_options
AgreementBroken MulticastAgreed request agreed = HasOption agreed (codes "multicast")
AgreementBroken OptionNotRequested request agreed = (name : List ℕ) × HasOption agreed name × (map.get request.options name ≡ None)
AgreementBroken OptionOutsideProfile request agreed = (name : List ℕ) × HasOption agreed name × IsOutsideProfile name
AgreementBroken BadValue request agreed = (name : List ℕ) × (asked given : OptionValue) × (map.get request.options name ≡ Some asked)
    × (map.get agreed name ≡ Some given) × IsWrongValue request.side name asked given

-- what each fault says of the request and of the OACK's options; being out of memory says nothing of them
abbrev pub Holds : Option Rollover → NegoFault → RequestParts → OptionMap → Type 0
Holds rollover (fault.Broken rule) request agreed = AgreementBroken rule request agreed
Holds rollover fault.BeyondBlock65535 request agreed = (size : ℕ) × (request.mode ≡ Octet) × (map.get agreed (codes "tsize") ≡ Some (Num size))
    × (greatest_of rollover < size / option_or 512 agreed (codes "blksize") + 1)
Holds rollover fault.Memory request agreed = ⊥

-- the number of the rule that a fault breaks, which is its place in the order; being out of memory breaks none and comes last
abbrev pub number : NegoFault → ℕ
number (fault.Broken rule) = agreement_number rule
number fault.BeyondBlock65535 = 20
number fault.Memory = 21

-- the fault holds, and none that stands before it does
abbrev pub FirstFault : Option Rollover → RequestParts → OptionMap → NegoFault → Type 0
FirstFault rollover request agreed f = IsFirst number (λ g. Holds rollover g request agreed) f
