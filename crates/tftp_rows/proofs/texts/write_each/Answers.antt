use Rattle.std.proofs.Common.{rules, ◌≡◌, ◌+◌, Some, Ok, ap, false, true, get_or, subst, sym, ◌∙◌}
use Rattle.std.proofs.lemmas.Option.{slice_get-get_or}
use Rattle.std.specs.List.{slice_get}
use Rattle.audit_recording.proofs.SessionLemmas.Finding.{key_there}
use Rattle.tftp_rows.proofs.EachTextLemmas.{all_numbered, each_stops, each_written, none_so_far, number_at, one_lacks, one_more, one_written, SoFar}
use Rattle.tftp_rows.proofs.texts.write_each.Goals as goal

pub loop-place-init : goal.loop-place-init
loop-place-init g c = record {
  within = search rules;
  so = λ history carried s is wanted are numbered fresh. none_so_far g.W.Write.contents g.E.Write.contents c.args.of.now c.args.session.now.notes carried s c.args.remarks.now c.args.writer.now fresh;
}

pub returns-in_err-has_text : goal.returns-in_err-has_text
returns-in_err-has_text g c history carried s is wanted are numbered fresh =
    let named = c.args.of.now.services.now in
    let key = get_or c.args.numbers.now c.loop-place.place 0 in
    let there : slice_get c.args.numbers.now c.loop-place.place ≡ Some key = slice_get-get_or c.args.numbers.now c.loop-place.place 0 (search rules) in
    let which = number_at named carried c.args.numbers.now c.loop-place.place key numbered there in
    let some = key_there c.args.session.now.trails.entries c.loop-place.place key (subst (λ l. slice_get l c.loop-place.place ≡ Some key) are there) in
    let so = c.loop-place.invariant.so history carried s is wanted are numbered fresh in
    each_stops g.W.Write.contents g.E.Write.contents c.args.of.now c.args.session.now.notes carried s c.args.remarks.now c.loop-place.remarks c.args.writer.now c.loop-place.writer c.loop-place.place c.loop-place.status so
    c.write_one.new.remarks c.write_one.new.writer c.from_residual.result _ c.from_residual.ensures.1 (c.in_err-has_text.ensures.stopped history carried s is wanted which some so.fresh)

pub loop-place-preserved : goal.loop-place-preserved
loop-place-preserved g c = record {
  within = search rules;
  so = λ history carried s is wanted are numbered fresh.
      let named = c.args.of.now.services.now in
      let key = get_or c.args.numbers.now c.loop-place.place 0 in
      let there : slice_get c.args.numbers.now c.loop-place.place ≡ Some key = slice_get-get_or c.args.numbers.now c.loop-place.place 0 (search rules) in
      let which = number_at named carried c.args.numbers.now c.loop-place.place key numbered there in
      let some = key_there c.args.session.now.trails.entries c.loop-place.place key (subst (λ l. slice_get l c.loop-place.place ≡ Some key) are there) in
      let so = c.loop-place.invariant.so history carried s is wanted are numbered fresh in
      subst (SoFar g.W.Write.contents g.E.Write.contents c.args.of.now c.args.session.now.notes carried s c.args.remarks.now c.write_one.new.remarks c.args.writer.now c.write_one.new.writer (c.loop-place.place + 1)) (sym c.status_with-status.ensures)
      (one_more g.W.Write.contents g.E.Write.contents c.args.of.now c.args.session.now.notes carried s c.args.remarks.now c.loop-place.remarks c.args.writer.now c.loop-place.writer c.loop-place.place c.loop-place.status so
      c.write_one.new.remarks c.write_one.new.writer c.in_ok-has_text.has_text
      (λ has. let ok : c.write_one.result ≡ Ok true = c.in_ok-has_text.was ∙ ap Ok has in let one = c.write_one.ensures.text history carried s is so.fresh which ok in
      one_written g.W.Write.contents g.E.Write.contents c.args.of.now c.args.session.now.notes carried s c.args.remarks.now c.loop-place.remarks c.args.writer.now c.loop-place.writer c.loop-place.place c.loop-place.status so
      c.write_one.new.remarks c.write_one.new.writer one.0.0 (c.write_one.ensures.wordless ok) one.0.1 one.0.2 one.1)
      (λ lacks. let off : c.write_one.result ≡ Ok false = c.in_ok-has_text.was ∙ ap Ok lacks in let untold = c.write_one.ensures.untold off in
      one_lacks g.W.Write.contents g.E.Write.contents c.args.of.now c.args.session.now.notes carried s c.args.remarks.now c.loop-place.remarks c.args.writer.now c.loop-place.writer c.loop-place.place c.loop-place.status so
      c.write_one.new.remarks c.write_one.new.writer (c.write_one.ensures.none history carried s is wanted which some off) untold.0 c.write_one.ensures.same untold.1));
}

pub returns : goal.returns
returns g c history carried s is wanted are numbered fresh =
    each_written g.W.Write.contents g.E.Write.contents c.args.of.now c.args.session.now.notes carried s c.args.remarks.now c.loop-place.remarks c.args.writer.now c.loop-place.writer c.loop-place.place c.loop-place.status
    (c.loop-place.invariant.so history carried s is wanted are numbered fresh) (search rules ∙ all_numbered c.args.of.now.services.now carried c.args.numbers.now numbered)
