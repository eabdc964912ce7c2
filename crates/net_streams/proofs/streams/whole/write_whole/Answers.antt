use Rattle.std.proofs.Common.{rules}
use Rattle.std.proofs.Math.Seq.{take-add}
use Rattle.std.proofs.lemmas.List.{take_rest}
use Rattle.std.proofs.KnownBytes.{Appends-trans}
use Rattle.net_streams.proofs.StreamsLemmas.Gathering.{prefix_none, prefix_kept}
use Rattle.net_streams.proofs.streams.whole.write_whole.Goals as goal

pub loop-written-preserved : goal.loop-written-preserved
loop-written-preserved g c = record {
  going = search rules;
  within = search rules;
  appended = rw (take-add c.loop-written.written c.in-Ok.count c.args.bytes.now) (Appends-trans _ _ _ _ _ c.loop-written.invariant.appended (rw take_rest at c.in-Ok.ensures.bytes));
}

pub returns-in_default : goal.returns-in_default
returns-in_default g c = record { tally = search rules; writes = prefix_kept _ _ _ c.loop-written.written c.args.bytes.now c.loop-written-test.true c.loop-written.invariant.appended c.in_default.ensures.bytes }

pub returns-then-count-eq0 : goal.returns-then-count-eq0
returns-then-count-eq0 g c = record { tally = search rules; writes = prefix_none _ _ _ c.loop-written.written c.args.bytes.now c.loop-written-test.true c.loop-written.invariant.appended (rw c.if-count-eq0.true at c.in-Ok.ensures.bytes) }
