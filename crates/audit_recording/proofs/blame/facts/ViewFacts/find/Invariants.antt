use Rattle.std.proofs.Common.{◌≡◌, ◌<◌, ◌≤◌, ◌-◌, List, drop, filter}
use Rattle.std.specs.List.{slice_get}
use Rattle.audit_flows.specs.Lines.{Placed}
use Rattle.audit_flows.specs.Transfers.{AreEndsAfter}
use Rattle.audit_recording.specs.Blame.Frames.{is_seen}
use Rattle.audit_recording.specs.Blame.Kept.{placed_by}
use Rattle.audit_recording.proofs.blame.facts.ViewFacts.find.Given as goal

-- the one that is looked for is among the rest
abbrev pub invariant-loop-one : goal.invariant-loop-one
invariant-loop-one l = record {
  above : l.self.forgotten < l.number;
  from_1 : 1 ≤ l.left;
  rest : (whole : List Placed) → AreEndsAfter l.ends whole
      → slice_get (filter (λ q. is_seen l.point l.ends.number whole (placed_by q)) (drop l.one-index l.one-items)) (l.left - 1)
      ≡ slice_get (filter (λ q. is_seen l.point l.ends.number whole (placed_by q)) l.self.held.items) (l.number - l.self.forgotten - 1);
}
