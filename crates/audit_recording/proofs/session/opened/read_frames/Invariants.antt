use Rattle.std.proofs.Common.{◌≡◌, ℕ, List, Option}
use Rattle.net_streams.specs.{Standing}
use Rattle.net_udp.specs.Recording.{standing_of}
use Rattle.audit_recording.specs.Session.Opened.{HasRead, IsReadOn}
use Rattle.audit_recording.proofs.SessionLemmas.Reading.{IsReadOnFor}
use Rattle.audit_recording.proofs.session.opened.read_frames.Given as goal

-- the frames so far were read, one in each turn, and more may come
abbrev pub invariant-loop-turn : goal.invariant-loop-turn
invariant-loop-turn g l = record {
  read : (file : Option (List ℕ)) (named : List ℕ) → IsReadOn (HasRead g.R.Read.remaining file l.initial.opened) l.initial.session named → IsReadOnFor l._turn (HasRead g.R.Read.remaining file l.opened) l.session named;
  goes : standing_of l.initial.opened.recording ≡ Standing.Open → standing_of l.opened.recording ≡ Standing.Open;
  wanted : l.session.kept.wanted ≡ l.initial.session.kept.wanted;
}
