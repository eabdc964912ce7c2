use Rattle.std.proofs.Common.{◌∙◌, ◌∷◌, ◌++◌, [], ◌||◌, ap, max, refl, sym, subst}
use Rattle.std.proofs.KnownBytes.{Appends-nil}
use Rattle.tftp_rows.specs.Faults.{AreWordsOf}
use Rattle.tftp_rows.specs.Files.{CameOfAll, IsSaidOfAll, SaysOf, any_has_none, status_of_outcome}
use Rattle.tftp_rows.proofs.FilesLemmas.{came_more, files_err, later_all, names_more, none_more, said_more, worst_more}
use Rattle.tftp_rows.proofs.RemarksLemmas.{same_program, says_both, says_by}
use Rattle.tftp_rows.proofs.files.check_files.Goals as goal

pub loop-name-init : goal.loop-name-init
loop-name-init g c = record { came = λ none. ([], refl, refl, refl, ([], refl, Appends-nil (g.E.Write.contents c.args.remarks.now.errors.0))); held = λ none. none; same = refl }

pub returns-in_err-has_none-clause-tells : goal.returns-in_err-has_none-clause-tells
returns-in_err-has_none-clause-tells g c none =
    let was = c.loop-name.invariant.came none in
    let now = c.check_file.new.remarks.errors.1 in
    let opens = g.O.Outside.opens c.args.outside.now in
    let holds = g.O.Outside.holds c.args.outside.now in
    files_err g.W.Write.contents now opens holds c.args.judging c.args.services.now g.E.Write.contents (AreWordsOf g.O.Fault.From.from_gives g.O.Fault.Display.output) c.args.names.now c.loop-name.name-index _ _ c.loop-name.teller.printer _ was.0
    c.args.remarks.now c.check_file.new.remarks c.from_residual.result c.loop-name-test.true c.from_residual.ensures.0 c.in_err-has_none.ensures.failed refl
    (later_all g.W.Write.contents c.args.judging c.args.services.now _ now c.in_err-has_none.ensures.stays opens holds _ _ _ was.0 was.1) (c.in_err-has_none.ensures.part (c.loop-name.invariant.held none))

pub loop-name-preserved : goal.loop-name-preserved
loop-name-preserved g c = record {
  came = λ none.
      let was = c.loop-name.invariant.came none in
      let one = c.in_ok-has_none.ensures.came (c.loop-name.invariant.held none) in
      let holds = g.O.Outside.holds c.args.outside.now in
      let opens = g.O.Outside.opens c.args.outside.now in
      let now = c.check_file.new.remarks.errors.1 in
      let AreWords = AreWordsOf g.O.Fault.From.from_gives g.O.Fault.Display.output in
      let program = c.args.remarks.now.program.now in
      let old = g.E.Write.contents c.loop-name.remarks.errors.0 in
      let new = g.E.Write.contents c.check_file.new.remarks.errors.0 in
      let more = sym (names_more c.args.names.now c.loop-name.name-index _ c.loop-name-test.true) in (
        was.0 ++ one.0 ∷ [],
        subst (λ names. CameOfAll g.W.Write.contents now opens holds c.args.judging c.args.services.now names c.args.teller.now.printer c.check_file.new.teller.printer (was.0 ++ one.0 ∷ [])) more
            (came_more g.W.Write.contents now opens holds c.args.judging c.args.services.now _ _ _ c.loop-name.teller.printer _ was.0 one.0
            (later_all g.W.Write.contents c.args.judging c.args.services.now _ now c.in_ok-has_none.ensures.stays opens holds _ _ _ was.0 was.1) one.1),
        one.2 ∙ ap (λ s. max s (status_of_outcome one.0)) was.2 ∙ sym (worst_more was.0 one.0),
        ap (λ b. b || c.in_ok-has_none.has_none) was.3 ∙ ap (λ b. any_has_none was.0 || b) one.3 ∙ sym (none_more was.0 one.0),
        subst (λ names. SaysOf (g.E.Write.contents c.args.remarks.now.errors.0) new (IsSaidOfAll AreWords program names (was.0 ++ one.0 ∷ []))) more
            (says_both (g.E.Write.contents c.args.remarks.now.errors.0) old new _ _ _
            (λ x y. said_more g.W.Write.contents c.loop-name.remarks.errors.1 opens holds c.args.judging c.args.services.now AreWords program _ _ _ _ was.0 one.0 x y was.1) was.4
            (says_by old new AreWords _ program _ one.0 (ap (λ r. r.program.now) c.loop-name.invariant.same) one.4)),
      );
  held = λ none. c.in_ok-has_none.ensures.held (c.loop-name.invariant.held none);
  same = same_program c.args.remarks.now c.loop-name.remarks c.check_file.new.remarks c.loop-name.invariant.same c.in_ok-has_none.ensures.same;
}
