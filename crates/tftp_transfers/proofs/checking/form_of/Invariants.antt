use Rattle.std.proofs.Common.{◌≡◌, map, take}
use Rattle.tftp_transfers.specs.Choices.{widest}
use Rattle.tftp_transfers.proofs.checking.form_of.Given as goal

-- as wide as the names so far ask for
abbrev pub invariant-loop-file : goal.invariant-loop-file
invariant-loop-file l = l.widest ≡ widest (map (λ name. name.now) (take l.file-index l.asked.files.items))
