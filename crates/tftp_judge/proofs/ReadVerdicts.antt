-- What is said of what was read is said of it as a text.
use Rattle.std.proofs.Common.{ℕ, inl, inr, List, [], Option, None, Result, Err, sym, subst, append-nil}
use Rattle.tftp_capture.specs.declared.fault.CaptureFault.TheVariants.{Memory}
use Rattle.law_model.specs.Model.{Meaning}
use Rattle.tftp_packet.specs.{Rollover}
use Rattle.tftp_judge.specs.{IsReadVerdictBy, IsTextVerdictBy, MayWantAt, NoFaultBefore, WantsToRead, Verdict, Capture, Refused}
use Rattle.tftp_judge.specs.declared.refusal.Refusal.TheVariants as refusal
use Rattle.tftp_judge.proofs.WantOfMemory.{no_fault_before, wanted_at, wants_first_line}

line_read : (read : List ℕ) (line : ℕ) → WantsToRead read line → MayWantAt read line
line_read read line wants = elim wants.wants as (λ _. MayWantAt read line) [
  | inl first ↦ inl first.1
  | inr said ↦ subst (λ t. MayWantAt t line) (sym wants.to.0) (wanted_at wants.taken wants.ahead wants.datagrams line said)
]

faults_read : (read : List ℕ) (line : ℕ) → WantsToRead read line → NoFaultBefore read line
faults_read read line wants = elim wants.wants as (λ _. NoFaultBefore read line) [
  | inl first ↦ subst (NoFaultBefore read) (sym first.1) (wants_first_line None read).1
  | inr said ↦ subst (λ t. NoFaultBefore t line) (sym wants.to.0) (no_fault_before wants.taken wants.ahead wants.datagrams line said)
]

pub read_is_text : (rollover : Option Rollover) (read : List ℕ) (r : Result Meaning Verdict) → IsReadVerdictBy rollover read r → IsTextVerdictBy rollover read r
read_is_text rollover read (Err (Refused (refusal.Memory count))) wants = (read, [], sym (append-nil read), wants)
read_is_text rollover read (Err (Capture (Memory line))) (wants, before) = (line_read read line wants, faults_read read line wants, before)
read_is_text rollover read _ is = is
