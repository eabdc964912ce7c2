use Rattle.std.proofs.Common.{◌≡◌, ◌++◌}
use Rattle.std.specs.BTreeMap.{keys}
use Rattle.audit_recording.proofs.session.session.Session.transfers.Given as goal

-- the keys so far, and those that come yet, are all
abbrev pub invariant-loop-number : goal.invariant-loop-number
invariant-loop-number l = l.numbers.items ++ l.number-iterator ≡ keys l.self.trails
