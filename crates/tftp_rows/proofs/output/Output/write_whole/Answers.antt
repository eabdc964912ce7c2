use Rattle.std.proofs.Common.{rules, Result, Ok, Err, Option, List, ℕ, true≢false, sym, IsErr}
use Rattle.std.proofs.Math.Seq.{take-add}
use Rattle.std.proofs.lemmas.List.{take_rest}
use Rattle.std.proofs.KnownBytes.{Appends-trans}
use Rattle.net_streams.specs.Streams.{AppendsPrefix, WritesWhole}
use Rattle.net_streams.proofs.StreamsLemmas.Gathering.{prefix_none, prefix_kept}
use Rattle.tftp_rows.proofs.output.Output.write_whole.Goals as goal

writes_err : {E : Type 0} (before after : Option (List ℕ)) (r : Result (Unit {0}) E) (bytes : List ℕ) → IsErr r → AppendsPrefix before after bytes → WritesWhole before after r bytes
writes_err before after (Ok x) bytes is p = absurd (true≢false (sym is))
writes_err before after (Err e) bytes is p = p

pub returns-in_err-count-clause-writes : goal.returns-in_err-count-clause-writes
returns-in_err-count-clause-writes g c = writes_err _ _ c.from_residual.result _ c.from_residual.ensures.0 (prefix_kept _ _ _ c.loop-written.written c.args.bytes.now c.loop-written-test.true c.loop-written.invariant.appended c.in_err-count.ensures.bytes)

pub returns-then-count-eq0-clause-writes : goal.returns-then-count-eq0-clause-writes
returns-then-count-eq0-clause-writes g c = prefix_none _ _ _ c.loop-written.written c.args.bytes.now c.loop-written-test.true c.loop-written.invariant.appended (rw c.if-count-eq0.true at c.in_ok-count.ensures.bytes)

pub loop-written-preserved : goal.loop-written-preserved
loop-written-preserved g c = record {
  within = search rules;
  appended = rw (take-add c.loop-written.written c.in_ok-count.count c.args.bytes.now) (Appends-trans _ _ _ _ _ c.loop-written.invariant.appended (rw take_rest at c.in_ok-count.ensures.bytes));
  same = search rules;
}
