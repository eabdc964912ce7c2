-- A datagram of the server's view that is refused, and what its row tells.
use Rattle.std.specs.Prelude.{ℕ, Bool, false, [], ◌∷◌, Some, None, Err}
use Rattle.law_model.specs.{EndRule}
use Rattle.law_end.specs.{Block}
use Rattle.tftp_judge.specs.declared.refusal.Refusal.TheVariants as refusal
use Rattle.audit_flows.specs.{Endpoint, Transfer, V4}
use Rattle.audit_recording.specs.{Telling}
use Rattle.audit_recording.specs.Reasons.Listed.{worked_blamed}
use Rattle.audit_recording.specs.declared.rows.row.Point.TheVariants as point
use Rattle.audit_rows.specs.Viewing.{said_in}
use Rattle.audit_rows.specs.declared.found.Found.TheVariants.{AtEnd}
use Rattle.audit_rows.specs.declared.viewed.Viewed.{Viewed}

abbrev pub worked_client : Endpoint
worked_client = record { port = 2000; address = V4 (192 ∷ 0 ∷ 2 ∷ 1 ∷ []) }

-- with a client at this port
abbrev pub worked_transfer : ℕ → Transfer
worked_transfer port = record {
  number = 0;
  client = record { port = port; address = V4 (192 ∷ 0 ∷ 2 ∷ 1 ∷ []) };
  asked = record { port = 69; address = V4 (192 ∷ 0 ∷ 2 ∷ 2 ∷ []) };
  writes = false;
  has_window = false;
}

-- the third datagram goes back, in frame 5; its client had asked again by then or not
abbrev pub worked_view : Bool → Viewed
worked_view is_late = record {
  found = AtEnd (Err (refusal.Unlawful 3 (Block EndRule.GoneBack)));
  blamed = Some (worked_blamed 5 is_late);
  rollover = None;
}

-- the third datagram has another block than was sent before, in frame 5; its client had gone on with its server by then or not
abbrev pub worked_changed : Bool → Viewed
worked_changed gone_on = record {
  found = AtEnd (Err (refusal.Unlawful 3 (Block EndRule.BlockChanged)));
  blamed = Some (record (worked_blamed 5 false) { has_gone_on = gone_on });
  rollover = None;
}

-- it stops early after three datagrams
abbrev pub worked_early : Viewed
worked_early = record { found = AtEnd (Err (refusal.Incomplete 3)); blamed = None; rollover = None }

-- what the row of the client tells, where nothing was judged between
abbrev pub worked_telling : Viewed → Telling
worked_telling v = record { point = point.Client; said = said_in v; between = None }
