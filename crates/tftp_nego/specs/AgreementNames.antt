-- The rules on what the first OACK may agree to: their numbers, in the order in which they are tried, and their names, as they
-- are printed.
use Rattle.std.specs.Prelude.{ℕ, List, codes}
use Rattle.tftp_nego.specs.declared.rule.AgreementRule.{AgreementRule}
use Rattle.tftp_nego.specs.declared.rule.AgreementRule.TheVariants.{OackEmpty, MulticastAgreed, OptionNotRequested, OptionOutsideProfile, OptionValue}

abbrev pub agreement_number : AgreementRule → ℕ
agreement_number OackEmpty = 11
agreement_number MulticastAgreed = 12
agreement_number OptionNotRequested = 13
agreement_number OptionOutsideProfile = 14
agreement_number OptionValue = 15

abbrev pub agreement_name : AgreementRule → List ℕ
agreement_name OackEmpty = codes "OackEmpty"
agreement_name MulticastAgreed = codes "MulticastAgreed"
agreement_name OptionNotRequested = codes "OptionNotRequested"
agreement_name OptionOutsideProfile = codes "OptionOutsideProfile"
agreement_name OptionValue = codes "OptionValue"
