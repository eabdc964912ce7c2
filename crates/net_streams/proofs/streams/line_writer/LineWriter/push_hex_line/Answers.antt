use Rattle.std.proofs.Common.{◌≡◌, ◌+◌, ◌-◌, ◌*◌, ◌++◌, length, take, arith, rules}
use Rattle.std.proofs.lemmas.Grind.{common_steps}
use Rattle.std.proofs.lemmas.Slice.{take-put_mid}
use borrow.Rule.Slice.PartMut.{put_mid}
use Rattle.net_streams.proofs.streams.line_writer.LineWriter.push_hex_line.Goals as goal

pub returns : goal.returns
returns g c =
    let held = c.self.inside.held in
    let whole = length c.args.begins.now + 2 * (length c.args.head.now + length c.args.rest.now) + 1 in
    let bytes = c.deref_mut.result.now in
    let line = c.spell_line.new.line in
    let kept : take (held + whole) (put_mid held (held + whole - held) bytes line) ≡ take held bytes ++ line = take-put_mid held (held + whole - held) bytes line (held + whole) (omega arith) (omega arith) in
    search (kept, rules, common_steps)
