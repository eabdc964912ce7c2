use Rattle.std.proofs.Common.{◌≡◌, ◌-◌, ◌/◌, length, take, sym, ap, ◌∙◌, arith, rules, length-take-le}
use Rattle.tftp_capture.proofs.heads.Head.begins.Goals as goal

pub returns : goal.returns
returns c = λ good.
    let h = c.self.inside in
    let held = c.args.held.now in
    let same : take h.len held ≡ take h.len h.bytes = search rules in
    let long : length (take h.len h.bytes) ≡ h.len = sym (ap length same) ∙ length-take-le h.len held (omega arith) in
    rw (← c.self.view_is)
    (record {
      begins = ap (λ n. take n held) long ∙ same;
      upto = omega arith;
      narrow = omega arith;
      count = (h.line - h.len) / 2;
      pairs = omega (arith, long);
      some = omega arith;
      fits = omega arith;
    })
