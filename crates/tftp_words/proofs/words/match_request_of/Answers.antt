use Rattle.std.proofs.Common.{◌≡◌, inl, inr, ap, Err}
use Rattle.tftp_words.specs.declared.given.ReadFault.TheVariants as fault
use Rattle.tftp_words.proofs.words.match_request_of.Goals as goal

pub returns-in-Ok-clause-only : goal.returns-in-Ok-clause-only
returns-in-Ok-clause-only g c = λ a request. elim (c.in-Ok.ensures.only a request) [
  | inl same ↦ inl same
  | inr e ↦ cc
]

pub returns-in-Err-clause-only : goal.returns-in-Err-clause-only
returns-in-Err-clause-only g c = λ a request. elim (c.in-Err.ensures.only a request) [
  | inl none ↦ absurd none
  | inr e ↦ (let same : c.in-Err.fault ≡ fault.Memory = cc in inr (ap Err (c.told.ensures.memory same)))
]
