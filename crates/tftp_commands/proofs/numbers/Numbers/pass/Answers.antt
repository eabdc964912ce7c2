use Rattle.std.proofs.Common.{sym}
use Rattle.tftp_capture.specs.{datagram_of}
use Rattle.tftp_commands.proofs.NumbersKept.{kept_started}
use Rattle.tftp_commands.proofs.numbers.Numbers.pass.Goals as goal

pub returns-then-asks-clause-kept : goal.returns-then-asks-clause-kept
returns-then-asks-clause-kept c = λ h earlier.
    kept_started c.args.self.now.rollover c.args.self.now c.begin.new.self h earlier (datagram_of c.args.datagram.now) c.if-is_none.ensures (sym c.if-asks.ensures) c.begin.ensures
