-- What is kept of a transfer for its text.
use Rattle.std.specs.Prelude.{◌≡◌, ◌≤◌, ℕ, List, filter, length, reverse}
use Rattle.std.specs.List.{AllZip}
use Rattle.tftp_capture.specs.{IsPort}
use Rattle.audit_flows.specs.Transfers.{AreEndsAfter, is_about}
use Rattle.audit_flows.specs.{TransferEnds}
use Rattle.audit_flows.specs.{Transfer}
use Rattle.audit_views.specs.Texts.Comments.{Worded, placed_in}
use Rattle.audit_views.specs.Views.{Naming, IsFed}
use Rattle.audit_views.specs.declared.texts.noted.Noted.{Noted}

-- its ends, and its datagrams with a comment each, the oldest first
pub record Notes : Type 0 where
  pub transfer : Transfer
  pub ends : TransferEnds
  pub noted : List Noted

-- of these, those about the transfer with this number
abbrev pub about_in : ℕ → List Worded → List Worded
about_in n worded = filter (λ w. is_about n w.placed) worded

-- it is this datagram, noted with this comment
pub record IsNoted (name : Naming) (n : Noted) (w : Worded) : Type 0 where
  pub fed : IsFed name w.placed n.held
  pub words : n.comment ≡ w.words

-- each of them is, one after another
abbrev pub AreNoted : Naming → List Noted → List Worded → Type 0
AreNoted name noted worded = AllZip (IsNoted name) noted worded

-- It was fed these datagrams of a recording, each with its comment: those about the transfer are kept, and no others.
pub record AreNotesAfter (t : Notes) (name : Naming) (worded : List Worded) : Type 0 where
  pub number : t.ends.number ≡ t.transfer.number
  pub ends : AreEndsAfter t.ends (placed_in worded)
  pub noted : AreNoted name t.noted (reverse (about_in t.transfer.number worded))

-- it can be written: its ports are not 0, and its payload is no longer than a datagram of UDP can carry
pub record CanBeWritten (n : Noted) : Type 0 where
  pub source : IsPort n.held.source.end.port
  pub target : IsPort n.held.target.end.port
  pub short : length n.held.payload ≤ 65527
