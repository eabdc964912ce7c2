use Rattle.std.proofs.Common.{Ok, ap}
use Rattle.audit_recording.specs.Session.Over.{IsOldestOver}
use Rattle.tftp_rows.proofs.ListingLemmas.{kept_listed, none_listed, one_listed, part_listed}
use Rattle.tftp_rows.proofs.TellingLemmas.{on_err}
use Rattle.tftp_rows.proofs.lister.Lister.list_over.Goals as goal

pub loop-init : goal.loop-init
loop-init g c named out history carried s is = none_listed g.W.Write.contents (λ before. IsOldestOver before named carried s) named history carried s _ c.args.session.now out is.kept

pub returns-then-not-is_first_over-clause-turns : goal.returns-then-not-is_first_over-clause-turns
returns-then-not-is_first_over-clause-turns g c named out history carried s is = c.loop.invariant named out history carried s is

pub returns-then-not-branch-clause-turns : goal.returns-then-not-branch-clause-turns
returns-then-not-branch-clause-turns g c named out history carried s is =
    let turns = c.loop.invariant named out history carried s is in
    kept_listed g.W.Write.contents (λ before. IsOldestOver before named carried s) named history carried s _ c.loop.self c.list_oldest.new.self c.loop.session c.list_oldest.new.session out turns
    (c.in_ok-list_oldest.ensures.nothing (ap Ok c.if-not-branch.true))
    (c.in_ok-list_oldest.ensures.same_session named turns.left history carried s turns.handed_out (ap Ok c.if-not-branch.true))

pub loop-preserved : goal.loop-preserved
loop-preserved g c named out history carried s is =
    let turns = c.loop.invariant named out history carried s is in
    let over = rw c.if-not-is_first_over.false at (c.is_first_over.ensures named turns.left history carried s (record { noticed = is.noticed; kept = turns.handed_out })) in
    one_listed g.W.Write.contents (λ before. IsOldestOver before named carried s) named history carried s _ c.loop.self c.list_oldest.new.self c.loop.session c.list_oldest.new.session out turns
    over (c.in_ok-list_oldest.ensures.told named turns.left history carried s turns.handed_out (ap Ok c.if-not-branch.false))

pub returns-in_err-list_oldest-clause-part : goal.returns-in_err-list_oldest-clause-part
returns-in_err-list_oldest-clause-part g c named out history carried s is =
    let turns = c.loop.invariant named out history carried s is in
    let over = rw c.if-not-is_first_over.false at (c.is_first_over.ensures named turns.left history carried s (record { noticed = is.noticed; kept = turns.handed_out })) in
    on_err c.from_residual.result
    (part_listed g.W.Write.contents (λ before. IsOldestOver before named carried s) named history carried s _ c.loop.self c.list_oldest.new.self c.loop.session out turns over
    (c.in_err-list_oldest.ensures.part named turns.left history carried s turns.handed_out))
