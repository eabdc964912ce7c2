use Rattle.std.proofs.Common.{rules, length, refl}
use Rattle.tftp_match.proofs.RecordedLemmas.{none_asked, one_asked}
use Rattle.tftp_match.proofs.recorded.one_of.Goals as goal

pub returns-in_ok-from_slice-in-Some-clause-one : goal.returns-in_ok-from_slice-in-Some-clause-one
returns-in_ok-from_slice-in-Some-clause-one c named carried are =
    (c.in-Some.one, search rules, one_asked named carried c.args.asked.now are c.args.number c.in-Some.one (search rules))

pub returns-in-None-clause-none : goal.returns-in-None-clause-none
returns-in-None-clause-none c named carried are = none_asked named carried c.args.asked.now are c.args.number (length c.args.asked.now) refl (search rules)
