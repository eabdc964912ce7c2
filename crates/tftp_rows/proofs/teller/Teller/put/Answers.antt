use Rattle.std.proofs.Common.{◌∙◌, refl, sym, true≢false}
use Rattle.tftp_rows.proofs.TellingLemmas.{no_frame, none_there, tells_err, tells_held, tells_lost, tells_now}
use Rattle.tftp_rows.proofs.teller.Teller.put.Goals as goal

pub returns-in_err-push-clause-rows : goal.returns-in_err-push-clause-rows
returns-in_err-push-clause-rows g c = tells_err g.W.Write.contents c.args.self.now _ c.from_residual.result _ c.from_residual.ensures.0 (tells_lost g.W.Write.contents c.args.self.now _ c.args.row refl c.in_err-push.ensures.items)

pub returns-then-waits-clause-rows : goal.returns-then-waits-clause-rows
returns-then-waits-clause-rows g c =
    tells_held g.W.Write.contents c.args.self.now _ c.args.row refl refl refl refl refl c.in_ok-push.ensures.items (λ sure none. true≢false (sym c.if-waits.true ∙ c.waits.ensures.none none sure))

pub returns-clause-rows : goal.returns-clause-rows
returns-clause-rows g c =
    tells_now g.W.Write.contents c.args.self.now c.print.new.self c.print.result c.args.row c.print.ensures.rest (none_there c.args.self.now.held.items c.waits.result c.waits.ensures.behind c.if-waits.false)
    (λ lose. no_frame c.args.row.frame c.waits.result (c.waits.ensures.refusal lose) c.if-waits.false) c.print.ensures.prints
