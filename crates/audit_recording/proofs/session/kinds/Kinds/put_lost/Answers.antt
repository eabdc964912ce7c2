use Rattle.std.proofs.Common.{codes, map, string_bytes}
use Rattle.audit_recording.proofs.SessionLemmas.Lines.{puts_told_last}
use Rattle.audit_recording.proofs.session.kinds.Kinds.put_lost.Goals as goal

pub returns : goal.returns
returns c t are =
    puts_told_last c.put.result c.args.self.now.lost t.lost (codes "not there whole, so that datagrams may be missing") (map string_bytes c.args.lines.now.items) (map string_bytes c.put.new.lines.items) are.lost c.put.ensures
