use Rattle.std.proofs.Common.{rules, ◌≡◌, ◌∷◌, true, false}
use Rattle.audit_flows.specs.Lines.{begins_error, begins_unknown_id}
use Rattle.audit_recording.proofs.BlameLemmas.Trailing.{tells_by}
use Rattle.audit_recording.proofs.blame.trail.tells_strays.Goals as goal

pub returns-then-is_error : goal.returns-then-is_error
returns-then-is_error c p older same after =
    let unknown : false ≡ begins_unknown_id c.args.payload.now = search rules in
    let error : true ≡ begins_error c.args.payload.now = search rules in
    tells_by c.args.doubts.now.number p older c.args.payload.now false true c.says_unknown_id-says.result same unknown error (c.says_unknown_id-says.ensures (p ∷ older) after)
