use Rattle.std.proofs.Common.{◌∷◌, sym, ap, ◌∙◌}
use Rattle.audit_flows.specs.Transfers.{is_settled}
use Rattle.audit_recording.proofs.BlameLemmas.Closing.{to_stranger}
use Rattle.audit_recording.proofs.blame.closing.is_to_stranger.Goals as goal

pub returns-then-eq : goal.returns-then-eq
returns-then-eq c f at ends number =
    to_stranger c.args.transfer.now f c.args.source c.is_settled.result at (sym c.eq.ensures ∙ c.if-eq.true)
    (c.is_settled.ensures (f.placed ∷ f.before) ends ∙ ap (λ n. is_settled n (f.placed ∷ f.before)) number)
