-- What accuses an end of a transfer of a recording. Lists have the newest first; a transfer is known by its number.
use Rattle.std.specs.Prelude.{◌≡◌, ℕ, Bool, false, List, Option, Some}
use Rattle.tftp_packet.specs.{Rollover}
use Rattle.law_end.specs.{Rule}
use Rattle.audit_flows.specs.Lines.{Placed}
use Rattle.audit_flows.specs.{Transfer}
use Rattle.audit_flows.specs.Transfers.{is_doubtful_at_client, is_doubtful_at_server, is_doubtful_between}
use Rattle.audit_spared.specs.Finality.{opened}
use Rattle.audit_recording.specs.Blame.Facts.{IsRefusedAt}
use Rattle.audit_recording.specs.Blame.Frames.{Carried, Framed, seen_as, whole_of}
use Rattle.audit_recording.specs.declared.rows.row.Point.{Point}
use Rattle.audit_recording.specs.declared.rows.row.Point.TheVariants.{Client, Server, Between}

-- by the division a refusal of the transfer at this datagram is doubtful at the point
abbrev pub is_doubtful_there : Point → ℕ → List Placed → Framed → Bool
is_doubtful_there Client n whole f = is_doubtful_at_client n whole f.placed f.before
is_doubtful_there Server n whole f = is_doubtful_at_server n whole f.placed f.before
is_doubtful_there Between n whole f = is_doubtful_between n whole f.placed f.before

-- Of a recording that carried these datagrams: a request opened transfer n. Of what the point saw of it, the datagram of that
-- number is the first to break a rule, and breaks this one, at an end by what comes after block 65535. It came in that frame. Nothing in
-- the division makes that doubtful.
pub record IsAccusation (rollover : Option Rollover) (named : List ℕ) (carried : List Carried) (n : ℕ) (point : Point) (number : ℕ) (rule : Rule) (frame : ℕ) : Type 0 where
  pub transfer : Transfer
  pub blamed : Framed
  pub opens : opened n (whole_of named carried) ≡ Some transfer
  pub refused : IsRefusedAt rollover point transfer (whole_of named carried) number rule
  pub at : seen_as point n named carried number ≡ Some blamed
  pub in_frame : blamed.carried.frame ≡ frame
  pub doubtless : is_doubtful_there point n (whole_of named carried) blamed ≡ false
