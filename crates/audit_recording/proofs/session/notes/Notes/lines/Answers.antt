use Rattle.std.proofs.Common.{◌++◌, ◌∙◌, ℕ, List, ap, map, string_bytes}
use Rattle.audit_recording.specs.Session.Lines.{aside_lines, fault_lines, left_out_lines, lines_told, lost_lines}
use Rattle.audit_recording.specs.Session.Noted.{told_in}
use Rattle.audit_recording.proofs.SessionLemmas.Lines.{puts_both}
use Rattle.audit_recording.proofs.session.notes.Notes.lines.Goals as goal

pub returns : goal.returns
returns c s are =
    let n = c.args.self.now in
    let t = told_in s in
    let none : List (List ℕ) = map string_bytes c.new-lines.result.items in
    let first : List (List ℕ) = map string_bytes c.put_left_out.new.lines.items in
    let second : List (List ℕ) = map string_bytes c.put_aside.new.lines.items in
    let third : List (List ℕ) = map string_bytes c.put_lost.new.lines.items in
    let fourth : List (List ℕ) = map string_bytes c.put_fault.new.lines.items in
    let aside = aside_lines s in
    let lost = lost_lines s n.dropped in
    let fault = fault_lines n.fault in
    puts_both none first fourth (left_out_lines t) (aside ++ (lost ++ fault)) (c.in_ok-put_left_out.ensures t are.kinds)
    (puts_both first second fourth aside (lost ++ fault) (c.in_ok-put_aside.ensures s are)
    (puts_both second third fourth lost fault (c.in_ok-put_lost.ensures s are) c.in_ok-put_fault.ensures))
    ∙ ap (λ l. map string_bytes l ++ lines_told s n.dropped n.fault) c.new-lines.ensures.items
