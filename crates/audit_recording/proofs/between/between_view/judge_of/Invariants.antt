use Rattle.std.proofs.Common.{◌≡◌, ◌+◌, ◌≤◌, List, All, length}
use Rattle.std.specs.VecDeque.{deque_len}
use Rattle.law_tap.specs.{TapDatagram}
use Rattle.judge_tap.specs.{TapDatagram as Owned}
use Rattle.audit_recording.specs.Between.{AreHeld, counted_by}
use Rattle.audit_recording.proofs.BetweenLemmas.Holding.{IsGivenSoFar}
use Rattle.audit_recording.proofs.between.between_view.judge_of.Given as goal

-- the oldest were given, and the rest is held
abbrev pub invariant-loop-next : goal.invariant-loop-next
invariant-loop-next g l = record {
  given : (given : List TapDatagram) → AreHeld l.fn.held.items given → IsGivenSoFar l.judge given l.held.items;
  counted : counted_by l.judge + deque_len l.held ≤ deque_len l.fn.held;
  short : All (λ (d : Owned). length d.payload ≤ 65527) l.held.items;
  sides : l.judge.sides ≡ l.fn.sides;
}

abbrev pub decreases-loop-next : goal.decreases-loop-next
decreases-loop-next g l = deque_len l.held
