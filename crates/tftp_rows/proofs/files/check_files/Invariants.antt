use Rattle.std.proofs.Common.{◌≡◌, [], List, map, take}
use Rattle.tftp_rows.specs.Faults.{AreWordsOf}
use Rattle.tftp_rows.specs.Files.{CameOfAll, IsSaidOfAll, Outcome, SaysOf, any_has_none, worst_among}
use Rattle.tftp_rows.proofs.files.check_files.Given as goal

-- this came of the files so far, and none of their rows waits
abbrev pub invariant-loop-name : goal.invariant-loop-name
invariant-loop-name g l = record {
  came : l.fn.teller.held.items ≡ [] → (outcomes : List Outcome)
      × CameOfAll g.W.Write.contents l.remarks.errors.1 (g.O.Outside.opens l.outside) (g.O.Outside.holds l.outside) l.judging l.services (map (λ n. n.now) (take l.name-index l.names)) l.fn.teller.printer l.teller.printer outcomes
      × (l.teller.status ≡ worst_among outcomes) × (l.lacks_transfers ≡ any_has_none outcomes)
      × SaysOf (g.E.Write.contents l.fn.remarks.errors.0) (g.E.Write.contents l.remarks.errors.0) (IsSaidOfAll (AreWordsOf g.O.Fault.From.from_gives g.O.Fault.Display.output) l.fn.remarks.program.now (map (λ n. n.now) (take l.name-index l.names)) outcomes);
  held : l.fn.teller.held.items ≡ [] → l.teller.held.items ≡ [];
  same : l.remarks ≡ record l.fn.remarks { errors = l.remarks.errors };
}
