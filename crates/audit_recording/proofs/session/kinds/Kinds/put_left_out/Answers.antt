use Rattle.std.proofs.Common.{◌++◌, ℕ, List, codes, map, string_bytes}
use Rattle.audit_recording.specs.Session.Lines.{lines_of}
use Rattle.audit_recording.proofs.SessionLemmas.Lines.{puts_last, puts_told, puts_told_last}
use Rattle.audit_recording.proofs.session.kinds.Kinds.put_left_out.Goals as goal

pub returns : goal.returns
returns c t are =
    let k = c.args.self.now in
    let r = c.put-3.result in
    let were : List (List ℕ) = map string_bytes c.args.lines.now.items in
    let first : List (List ℕ) = map string_bytes c.put.new.lines.items in
    let second : List (List ℕ) = map string_bytes c.put-2.new.lines.items in
    let third : List (List ℕ) = map string_bytes c.put-3.new.lines.items in
    let copies = lines_of t.copies (codes "left out as copies") in
    let discarded = lines_of t.discarded (codes "with a wrong checksum, that a host discarded") in
    let others = lines_of t.other_links (codes "of another link type") in
    puts_last r were first third copies (discarded ++ others) (puts_told k.copies t.copies (codes "left out as copies") were first are.copies c.in_ok-put.ensures)
    (puts_last r first second third discarded others (puts_told k.discarded t.discarded (codes "with a wrong checksum, that a host discarded") first second are.discarded c.in_ok-put-2.ensures)
    (puts_told_last r k.other_links t.other_links (codes "of another link type") second third are.other_links c.put-3.ensures))
