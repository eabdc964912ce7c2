use Rattle.std.proofs.Common.{◌≢◌, ◌+◌, ◌<◌, length, arith, below_more, get_or-set_other, get_or-set_same}
use Rattle.net_udp.proofs.fragments.parts.write.Goals as goal

pub loop-i-preserved : goal.loop-i-preserved
loop-i-preserved c = record {
  there = below_more _ _
      (λ k h. let ne : c.args.place + k ≢ c.args.place + c.loop-i.i = omega arith in rw get_or-set_other (c.loop-i.invariant.there k h))
      (let lt : c.args.place + c.loop-i.i < length c.loop-i.cells = omega arith in rw get_or-set_same);
  before = λ k h. let ne : k ≢ c.args.place + c.loop-i.i = omega arith in rw get_or-set_other (c.loop-i.invariant.before k h);
  behind = λ k h. let ne : k ≢ c.args.place + c.loop-i.i = omega arith in rw get_or-set_other (c.loop-i.invariant.behind k (omega (arith, h)));
}
