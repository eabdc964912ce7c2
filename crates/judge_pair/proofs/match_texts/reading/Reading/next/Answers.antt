use Rattle.std.proofs.Common.{None, Ok, refl, sym, ap, subst}
use Rattle.tftp_capture.specs.{datagram_of, IsReadFault}
use Rattle.tftp_judge.specs.{IsJudgeAfter}
use Rattle.tftp_judge.proofs.Follows.{still_clean, reads_or_clean}
use Rattle.judge_pair.specs.MatchTexts.{IsGiven, IsHalted}
use Rattle.judge_pair.specs.declared.match_texts.reading.Halt.TheVariants.{Ended, Fault}
use Rattle.judge_pair.proofs.MatchTextsLemmas.Halting.{given, halted_end, halted_fault}
use Rattle.judge_pair.proofs.match_texts.reading.Reading.next.Goals as goal

pub returns-in-Ok-true-clause-given : goal.returns-in-Ok-true-clause-given
returns-in-Ok-true-clause-given g c = λ _ rollover before h read judge on accepted.
    let e = c.in-Ok-true.ensures in
    let test = c.in-Ok-true.field-0-test in
    subst (λ x. IsGiven rollover before (g.R.Read.remaining c.next_into.new.reader.0) c.next_into.new.reader.1 c.next_into.new.self x read (datagram_of c.next_into.new.datagram)) on.header
    (given rollover before _ (g.R.Read.remaining c.next_into.new.reader.0) c.args.self.now.capture c.next_into.new.self judge read on.ready on.has (subst (λ x. IsJudgeAfter judge x read) (sym on.header) accepted)
    c.next_into.new.datagram c.next_into.new.reader.1 (rw test at e.continues) (rw test at e.standing) e.header
    (still_clean c.next_into.new.reader.1 c.args.reader.now.1 e.tally on.clean) (e.near on.ready))

pub returns-in-Ok-false-clause-halted : goal.returns-in-Ok-false-clause-halted
returns-in-Ok-false-clause-halted g c = λ _ rollover before h read judge on accepted.
    let e = c.in-Ok-false.ensures in
    let test = c.in-Ok-false.field-0-test in (
      Ended,
      refl,
      subst (λ x. IsHalted rollover before (g.R.Read.remaining c.next_into.new.reader.0) c.next_into.new.reader.1 Ended None x read) on.header
          (halted_end rollover before _ (g.R.Read.remaining c.next_into.new.reader.0) c.args.self.now.capture c.next_into.new.self judge read on.ready on.has (subst (λ x. IsJudgeAfter judge x read) (sym on.header) accepted)
          (rw test at e.continues) (rw test at e.standing) e.header (e.end on.ready (ap Ok test)) c.next_into.new.reader.1
          (still_clean c.next_into.new.reader.1 c.args.reader.now.1 e.tally on.clean)),
    )

pub returns-in-Err-clause-halted : goal.returns-in-Err-clause-halted
returns-in-Err-clause-halted g c = λ _ rollover before h read judge on accepted.
    let e = c.in-Err.ensures in
    let fault = c.in-Err.fault in (
      Fault fault,
      refl,
      subst (λ x. IsHalted rollover before (g.R.Read.remaining c.next_into.new.reader.0) c.next_into.new.reader.1 (Fault fault) None x read) on.header
          (halted_fault rollover before _ (g.R.Read.remaining c.next_into.new.reader.0) c.args.self.now.capture c.next_into.new.self judge read on.ready on.has (subst (λ x. IsJudgeAfter judge x read) (sym on.header) accepted)
          fault c.next_into.new.reader.1 e.continues e.standing (e.near on.ready) (e.cut on.ready) (e.drained on.ready) e.read
          (reads_or_clean (IsReadFault fault) c.next_into.new.reader.1 c.args.reader.now.1 e.tally on.clean)),
    )
