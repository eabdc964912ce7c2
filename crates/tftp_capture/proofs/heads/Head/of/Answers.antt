use Rattle.std.proofs.Common.{◌≡◌, ◌-◌, ◌≤◌, length, arith, rules}
use Rattle.tftp_capture.proofs.HeadLines.{copied_front, digits_within, head_of_line}
use Rattle.tftp_capture.proofs.heads.Head.of.Goals as goal

pub overflow_sub-len : goal.overflow_sub-len
overflow_sub-len c =
    let says = c.requires in
    let all : c.count_digits.result ≡ length says.digits = search rules in
    omega (arith, all, digits_within c.args.version c.args.line.now _ says)

pub invariant_of-result : goal.invariant_of-result
invariant_of-result c =
    let says = c.requires in
    let all : c.count_digits.result ≡ length says.digits = search rules in
    let within : length c.args.line.now - c.count_digits.result ≤ length c.args.line.now = omega arith in
    record {
      sized = c.if-len-gt-LONGEST_HEAD.false;
      head = head_of_line c.args.version c.args.line.now _ (length c.args.line.now) _ says c.count_digits.result all (copied_front _ c.args.line.now c.copy_from_slice.new.self _ c.copy_from_slice.ensures.after within);
    }
