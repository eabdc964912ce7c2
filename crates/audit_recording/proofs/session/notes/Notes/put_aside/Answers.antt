use Rattle.std.proofs.Common.{◌++◌, ◌∙◌, ℕ, List, ap, codes, flat_map, map, string_bytes}
use Rattle.audit_recording.specs.Session.Lines.{begun_told, lines_of, pair_lines}
use Rattle.audit_recording.specs.Session.Noted.{told_in}
use Rattle.audit_recording.proofs.SessionLemmas.Lines.{puts_last}
use Rattle.audit_recording.proofs.session.notes.Notes.put_aside.Goals as goal

pub returns : goal.returns
returns c s are =
    let t = told_in s in
    let none : List (List ℕ) = map string_bytes c.args.lines.now.items in
    let first : List (List ℕ) = map string_bytes c.put_of_none.new.lines.items in
    let second : List (List ℕ) = map string_bytes c.put.new.lines.items in
    let third : List (List ℕ) = map string_bytes c.put_backwards.new.lines.items in
    let aside = lines_of t.of_none (codes "of UDP of no transfer") in
    let back = lines_of s.backwards (codes "older than the one before; reordercap puts them in order") in
    puts_last c.put_backwards.result none first third aside (begun_told s.strays ++ back) (c.in_ok-put_of_none.ensures t are.kinds)
    (puts_last c.put_backwards.result first second third (begun_told s.strays) back (c.in_ok-put.ensures ∙ ap (λ l. first ++ flat_map pair_lines l) are.begun) (c.put_backwards.ensures t are.kinds))
