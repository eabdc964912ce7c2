use Rattle.std.proofs.Common.{◌≡◌, ◌≤◌, [], List, length}
use Rattle.std.specs.BTreeMap.{keys}
use Rattle.net_streams.specs.Streams.{IsFresh}
use Rattle.net_udp.specs.Recording.{Step}
use Rattle.audit_recording.specs.Blame.Frames.{Carried, whole_of}
use Rattle.audit_recording.specs.Session.Kept.{IsSessionOf}
use Rattle.audit_recording.specs.Session.Noted.{Noticed}
use Rattle.audit_recording.specs.Session.Texts.{opened_numbers}
use Rattle.audit_recording.specs.declared.session.kept.Wanted.TheVariants.{All}
use Rattle.tftp_rows.proofs.EachTextLemmas.{SoFar}
use Rattle.tftp_rows.proofs.texts.write_each.Given as goal

-- the texts of the first ones were written
abbrev pub invariant-loop-place : goal.invariant-loop-place
invariant-loop-place g l = record {
  within : l.place ≤ length l.numbers;
  so : (history : List Step) (carried : List Carried) (s : Noticed) → IsSessionOf l.session l.of.services.now [] history carried s → l.session.kept.wanted ≡ All → l.numbers ≡ keys l.session.trails → l.numbers ≡ opened_numbers (whole_of l.of.services.now carried) → IsFresh l.fn.writer
      → SoFar g.W.Write.contents g.E.Write.contents l.of l.session.notes carried s l.fn.remarks l.remarks l.fn.writer l.writer l.place l.status;
}
