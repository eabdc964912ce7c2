use Rattle.std.proofs.Common.{◌≡◌, length, take, drop, ◌++◌, ap, arith}
use Rattle.std.proofs.lemmas.List.{take_at}
use Rattle.tftp_capture.specs.{BeginsWithHead}
use Rattle.tftp_capture.proofs.HeadLines.{says_spelled}
use Rattle.tftp_capture.proofs.heads.Head.fill_on.Goals as goal

pub overflow_sub-digits : goal.overflow_sub-digits
overflow_sub-digits g c =
    let line : c.self.inside.line ≡ c.args.self.now.line = ap (λ v. v.line) c.self.view_is in
    let begins : BeginsWithHead c.args.self.now c.as_slice.result.now c.args.most = c.begins.ensures c.if-not-begins.false in
    omega (arith, line, begins.pairs, ap length c.text.ensures)

pub read_digits-requires : goal.read_digits-requires
read_digits-requires g c =
    let line : c.self.inside.line ≡ c.args.self.now.line = ap (λ v. v.line) c.self.view_is in
    let begins : BeginsWithHead c.args.self.now c.as_slice.result.now c.args.most = c.begins.ensures c.if-not-begins.false in
    record {
      near = c.requires.near;
      begins = rw c.as_slice.ensures at begins.begins;
      narrow = omega (arith, begins.narrow, c.requires.narrow);
      pairs = omega (arith, line, begins.pairs, ap length c.text.ensures, c.as_mut_slice.ensures.len, c.in-Ok.ensures.len);
    }

pub returns-clause-says : goal.returns-clause-says
returns-clause-says g c = λ whole.
    let begins : BeginsWithHead c.args.self.now c.as_slice.result.now c.args.most = c.begins.ensures c.if-not-begins.false in
    let line : c.self.inside.line ≡ c.args.self.now.line = ap (λ v. v.line) c.self.view_is in
    let payload = c.read_digits.new.payload in
    let size : length payload ≡ begins.count =
    omega (arith, line, begins.pairs, ap length c.text.ensures, c.read_digits.ensures.len, c.as_mut_slice.ensures.len, c.in-Ok.ensures.len) in
    let filled : take c.resize.new.self.len (payload ++ drop (length payload) c.resize.new.self.items) ≡ payload = take_at payload _ c.resize.new.self.len (omega (arith, c.read_digits.ensures.len, c.as_mut_slice.ensures.len)) in
    rw (c.fill_rest.ensures, filled, ← c.self.view_is)
    (says_spelled _ c.self.invariant.head _ payload (rw (← c.self.view_is) at (c.in_ok-reached.ensures.whole whole)) (omega (arith, size, begins.some)) (omega (arith, size, begins.fits)))
