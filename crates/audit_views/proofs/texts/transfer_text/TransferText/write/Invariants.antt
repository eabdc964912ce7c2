use Rattle.std.proofs.Common.{◌≡◌, ◌≤◌, ◌++◌, List, All, take, reverse}
use Rattle.tftp_capture.specs.CaptureText.{Header}
use Rattle.tftp_capture.specs.{Entry, HasWrittenHosts}
use Rattle.net_streams.specs.Streams.{Sink}
use Rattle.audit_views.specs.Views.{Naming}
use Rattle.audit_views.specs.Texts.{AreNotesAfter, HasComment, Worded, about_in, entries_at, placed_in}
use Rattle.audit_views.proofs.texts.transfer_text.TransferText.write.Given as goal

abbrev pub invariant-loop-noted : goal.invariant-loop-noted
invariant-loop-noted g l = record {
  counted : l.capture ≤ l.noted-index;
  written : (start : Sink _) (header : Header) (entries : List Entry) → HasWrittenHosts g.W.Write.contents start l.initial.writer l.initial.capture header entries
      → (more : List Entry) × HasWrittenHosts g.W.Write.contents start l.writer l.capture header (entries ++ more) × All HasComment more
      × ((name : Naming) (worded : List Worded) → AreNotesAfter l.self name worded
      → more ≡ entries_at l.end name l.self.transfer (placed_in worded) (take l.noted-index (reverse (about_in l.self.transfer.number worded))));
}
