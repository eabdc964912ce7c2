use Rattle.std.proofs.Common.{◌++◌, ◌∙◌, ℕ, List, ap, codes, map, string_bytes}
use Rattle.audit_recording.specs.Session.Lines.{behind_told, dropped_lines, lines_of}
use Rattle.audit_recording.specs.Session.Noted.{told_in}
use Rattle.audit_recording.proofs.SessionLemmas.Hidden.{told_behind}
use Rattle.audit_recording.proofs.SessionLemmas.Lines.{puts_last}
use Rattle.audit_recording.proofs.session.notes.Notes.put_lost.Goals as goal

pub returns : goal.returns
returns c s are =
    let n = c.args.self.now in
    let t = told_in s in
    let none : List (List ℕ) = map string_bytes c.args.lines.now.items in
    let first : List (List ℕ) = map string_bytes c.put_lost.new.lines.items in
    let second : List (List ℕ) = map string_bytes c.put.new.lines.items in
    let third : List (List ℕ) = map string_bytes c.put_dropped.new.lines.items in
    let lost = lines_of t.lost (codes "not there whole, so that datagrams may be missing") in
    let dropped = dropped_lines n.dropped in
    puts_last c.put_dropped.result none first third lost (behind_told s.hidden ++ dropped) (c.in_ok-put_lost.ensures t are.kinds)
    (puts_last c.put_dropped.result first second third (behind_told s.hidden) dropped (c.in_ok-put.ensures ∙ ap (λ l. first ++ l) (told_behind n.behind s.hidden are.behind)) c.put_dropped.ensures)
