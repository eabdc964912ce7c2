use Rattle.std.proofs.Common.{◌≡◌, ℕ, List, Option}
use Rattle.net_streams.specs.{Standing}
use Rattle.net_udp.specs.Recording.{standing_of}
use Rattle.audit_recording.specs.Session.Opened.{HasRead}
use Rattle.tftp_rows.specs.ListedWhole.{IsListedOn}
use Rattle.tftp_rows.specs.declared.lister.Lister.{Lister}
use Rattle.tftp_rows.proofs.ListedLemmas.{IsListedOnFor}
use Rattle.tftp_rows.proofs.list_reading.list_frames.Given as goal

-- what is over of what was read so far is listed, and more may come
abbrev pub invariant-loop-turn : goal.invariant-loop-turn
invariant-loop-turn g l = record {
  listed : (begun : Lister g.row.W.Denot) (file : Option (List ℕ)) (named : List ℕ) → IsListedOn g.W.Write.contents begun l.initial.lister (HasRead g.R.Read.remaining file l.initial.opened) l.initial.session named
      → IsListedOnFor g.W.Write.contents l._turn begun l.lister (HasRead g.R.Read.remaining file l.opened) l.session named;
  goes : standing_of l.initial.opened.recording ≡ Standing.Open → standing_of l.opened.recording ≡ Standing.Open;
}
