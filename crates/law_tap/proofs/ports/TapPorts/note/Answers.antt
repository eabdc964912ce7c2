use Rattle.std.proofs.Common.{◌∙◌, sym, ap}
use Rattle.law_model.proofs.Results.{where_err}
use Rattle.law_tap.specs.{KnownWays, is_noted}
use Rattle.law_tap.proofs.ports.TapPorts.note.Goals as goal

pub returns-in_err-note-clause-absent : goal.returns-in_err-note-clause-absent
returns-in_err-note-clause-absent c s earlier stands = where_err c.from_residual.result
    (sym (stands.ways (record { from = c.args.source; to = c.args.destination }))
    ∙ ap (λ (k : KnownWays). is_noted (record { from = c.args.source; to = c.args.destination }) k.ways) (sym c.self.view_is)
    ∙ c.in_err-note.ensures.absent)
