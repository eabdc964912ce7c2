use Rattle.std.proofs.Common.{rules, ap, ◌∷◌, ◌++◌, [], drop, length, subst, false}
use Rattle.std.proofs.lemmas.Iterator.Adapters.{YieldsList-from_vec}
use Rattle.std.proofs.lemmas.Iterator.Consumers.{YieldsList-turn}
use Rattle.tftp_rows.specs.Telling.{PrintsPartWith}
use Rattle.tftp_rows.proofs.TellingLemmas.{all_both, all_part, first_and_others, first_more, part_more, printer_alone, with_err}
use Rattle.tftp_rows.proofs.teller.Teller.tell_held.Goals as goal

pub loop-row-preserved : goal.loop-row-preserved
loop-row-preserved g c =
    let turn = YieldsList-turn (YieldsList-from_vec {s = c.into_iter-row-iterator.result} c.args.self.now.held.items (search rules) (search rules))
    c.loop-row.yielded c.loop-row.row-iterator c.loop-row.yielded_by c.next.result c.next.new.self c.in-Some.row c.in-Some.is c.next.ensures.steps in
    record {
      first = first_more c.loop-row.yielded c.args.self.now.held.items c.in-Some.row c.loop-row.invariant.first turn;
      printed = all_both g.W.Write.contents c.args.dropped _ _ _ c.loop-row.yielded (c.in-Some.row ∷ []) c.loop-row.invariant.printed
          (rw (ap (λ t. t.dropped) c.loop-row.invariant.rest) at c.in_ok-print.ensures.prints);
      rest = printer_alone (record c.args.self.now { held = c.replace-held.new.dest; may_lose = false; dropped = c.args.dropped }) c.loop-row.self c.print.new.self c.loop-row.invariant.rest c.in_ok-print.ensures.rest;
      stays = λ failed. c.in_ok-print.ensures.stays (c.loop-row.invariant.stays failed);
    }

pub returns-in_err-print-clause-prints : goal.returns-in_err-print-clause-prints
returns-in_err-print-clause-prints g c =
    let turn = YieldsList-turn (YieldsList-from_vec {s = c.into_iter-row-iterator.result} c.args.self.now.held.items (search rules) (search rules))
    c.loop-row.yielded c.loop-row.row-iterator c.loop-row.yielded_by c.next.result c.next.new.self c.in-Some.row c.in-Some.is c.next.ensures.steps in
    let part = all_part g.W.Write.contents c.args.dropped _ _ _ c.loop-row.yielded (c.in-Some.row ∷ []) c.loop-row.invariant.printed
    (rw (ap (λ t. t.dropped) c.loop-row.invariant.rest) at c.in_err-print.ensures.prints) in
    with_err g.W.Write.contents c.args.dropped _ _ c.from_residual.result _ c.from_residual.ensures.0
    (subst (PrintsPartWith g.W.Write.contents c.args.dropped c.args.self.now.printer c.print.new.self.printer)
    (first_and_others c.loop-row.yielded c.args.self.now.held.items c.in-Some.row c.loop-row.invariant.first turn)
    (part_more g.W.Write.contents c.args.dropped _ _ _ (drop (length (c.loop-row.yielded ++ c.in-Some.row ∷ [])) c.args.self.now.held.items) part))
