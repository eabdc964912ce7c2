use Rattle.std.proofs.Common.{◌≡◌, ◌+◌, ◌≤◌, List, All, length, reverse}
use Rattle.std.specs.VecDeque.{deque_len}
use Rattle.audit_flows.specs.Transfers.{AreEndsAfter}
use Rattle.audit_flows.specs.Lines.{Placed}
use Rattle.audit_views.specs.Views.{Naming, AreHeld}
use Rattle.audit_views.specs.declared.views.held.Held.{Held}
use Rattle.audit_views.proofs.ViewsLemmas.Holding.{IsGivenSoFar}
use Rattle.audit_views.proofs.views.server_view.judge_of.Given as goal

-- the oldest were given, and the rest is held
abbrev pub invariant-loop-next : goal.invariant-loop-next
invariant-loop-next g l = record {
  given : (name : Naming) (whole part : List Placed) → AreEndsAfter l.fn.ends whole → AreHeld name l.fn.held.items (reverse part) → IsGivenSoFar l.fn.rollover l.judge name whole part l.held.items;
  counted : l.judge.end.judge.fed + deque_len l.held ≤ deque_len l.fn.held;
  short : All (λ (h : Held). length h.payload ≤ 65527) l.held.items;
  transfer : l.judge.transfer ≡ l.fn.transfer;
}

abbrev pub decreases-loop-next : goal.decreases-loop-next
decreases-loop-next g l = deque_len l.held
