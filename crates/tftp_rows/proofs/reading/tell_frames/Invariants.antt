use Rattle.std.proofs.Common.{◌≡◌, ℕ, List, Option}
use Rattle.net_streams.specs.{Standing}
use Rattle.net_udp.specs.Recording.{standing_of}
use Rattle.audit_recording.specs.Session.Opened.{HasRead, may_lose_in}
use Rattle.tftp_rows.specs.Telling.{JudgesAs}
use Rattle.tftp_rows.specs.Whole.{IsReadOn}
use Rattle.tftp_rows.specs.declared.teller.Teller.{Teller}
use Rattle.tftp_rows.proofs.ReadingLemmas.{IsReadOnFor}
use Rattle.tftp_rows.proofs.reading.tell_frames.Given as goal

-- what is over of what was read so far is told, and more may come
abbrev pub invariant-loop-turn : goal.invariant-loop-turn
invariant-loop-turn g l = record {
  told : (begun : Teller g.row.W.Denot) (file : Option (List ℕ)) (named : List ℕ) → IsReadOn g.W.Write.contents begun l.initial.teller (may_lose_in l.initial.opened) (HasRead g.R.Read.remaining file l.initial.opened) l.initial.session named
      → IsReadOnFor g.W.Write.contents (may_lose_in l.initial.opened) l._turn begun l.teller (HasRead g.R.Read.remaining file l.opened) l.session named;
  goes : standing_of l.initial.opened.recording ≡ Standing.Open → standing_of l.opened.recording ≡ Standing.Open;
  stays : may_lose_in l.opened ≡ may_lose_in l.initial.opened;
  judging : JudgesAs l.initial.session l.session;
}
