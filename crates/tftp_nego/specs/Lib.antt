pub mod Numbers
pub mod Agreement
pub mod AgreementNames
pub mod Faults
pub mod Agreed
pub mod Worked
pub use Numbers.{number_or, option_or}
pub use Agreement.{MayAgree, MayAnswer}
pub use Faults.{AgreementBroken, FirstFault, HasOption, Holds, IsOutsideProfile, IsWrongNumber, IsWrongValue, number}
pub use AgreementNames.{agreement_name, agreement_number}
pub use Agreed.{AllAnswered, AreInRange, AreNot, EachName, FitsNumbers, IsAnswered, IsInProfile, IsKept, IsLowered, IsSize, IsUnanswered, SomeName, SomeUnanswered, both, numbers_of}
pub use Worked.{one}
pub use declared.fault.NegoFault.{NegoFault}
pub use declared.fault.NegoFault.TheVariants.{BeyondBlock65535, Broken, Memory}
pub use declared.rule.AgreementRule.{AgreementRule}
pub use declared.rule.AgreementRule.TheVariants.{MulticastAgreed, OackEmpty, OptionNotRequested, OptionOutsideProfile, OptionValue}
