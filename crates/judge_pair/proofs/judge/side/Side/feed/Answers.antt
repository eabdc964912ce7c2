use Rattle.std.proofs.Common.{◌≡◌, ◌∷◌, refl, sym, subst, ◌∙◌}
use Rattle.tftp_capture.specs.{datagram_of}
use Rattle.tftp_packet.specs.Hosts.{Datagram}
use Rattle.law_model.specs.Rules.{IsHigh, transfer_of}
use Rattle.tftp_judge.specs.{AreFlags, IsJudgeAfter, Judge}
use Rattle.judge_pair.specs.Blocks.{at_block}
use Rattle.judge_pair.specs.Counts.{AreCounted}
use Rattle.judge_pair.specs.Judge.{IsSideAfter, Side, flags_in}
use Rattle.judge_pair.specs.Judge.Kept.{CountsOn}
use Rattle.judge_pair.proofs.JudgeLemmas.Highest.{high_after_main, high_after_stray}
use Rattle.judge_pair.proofs.JudgeLemmas.Sides.{any_err, counted_after_main, counted_after_stray, flags_after_main, flags_after_stray, not_refused, one_more, read_by, side_of_judge, side_refused}
use Rattle.judge_pair.proofs.judge.side.Side.feed.Goals as goal

pub returns-in_err-judge_next-clause-stays : goal.returns-in_err-judge_next-clause-stays
returns-in_err-judge_next-clause-stays g c = λ h read after.
    let was = subst (λ (s : Side). IsSideAfter s h read) (sym c.self.view_is) after in
    any_err c.from_residual.result _ (side_refused _ _ h read c.in_err-judge_next.field-0.0 was c.in_err-judge_next.ensures.stays c.in_err-judge_next.ensures.counted c.in_err-judge_next.ensures.keeps refl refl refl)

pub returns-then-of_transfer-clause-accepts : goal.returns-then-of_transfer-clause-accepts
returns-then-of_transfer-clause-accepts g c = λ h read d after taken.
    let here = datagram_of c.args.datagram.now in
    let was = subst (λ (s : Side). IsSideAfter s h read) (sym c.self.view_is) after in
    let none = not_refused c.self.inside.judge.refused c.judge_next.result c.in_ok-judge_next.field-0 (λ r is. (c.judge_next.ensures.for_good r is).0) c.in_ok-judge_next.was in
    let told = c.in_ok-judge_next.ensures.accepts h read d (was.goes_on none) taken in
    let main = sym (c.in_ok-judge_next.ensures.routed h read d (was.goes_on none) taken) ∙ sym c.last_was_of_transfer-of_transfer.ensures in
    let is : d ≡ at_block c.block_in-block.result here =
    read_by _ h read was c.args.rollover c.block_in-block.result c.as_slice.result.now here d c.as_slice.ensures c.block_in-block.ensures.none c.block_in-block.ensures.near taken in (
      told.0,
      side_of_judge c.note.new.self h (d ∷ read) (subst (λ (j : Judge). IsJudgeAfter j h (d ∷ read)) (sym c.note.ensures.judge) told.1)
          (flags_after_main (flags_in c.note.new.self.acks) h read d (main ∙ c.if-of_transfer.true)
          (subst (λ (x : Datagram). AreFlags (flags_in c.note.new.self.acks) (x ∷ transfer_of h read)) (sym is) (c.note.ensures.acks (transfer_of h read) was.acks)))
          (counted_after_main c.note.new.self.counts h read d (main ∙ c.if-of_transfer.true)
          (subst (λ (x : Datagram). AreCounted c.note.new.self.counts (x ∷ transfer_of h read)) (sym is) (c.note.ensures.counted (transfer_of h read) was.counted)))
          (high_after_main h read d c.note.new.self.highest (main ∙ c.if-of_transfer.true)
          (subst (λ (x : Datagram). IsHigh (x ∷ transfer_of h read) c.note.new.self.highest) (sym is) (c.note.ensures.high (transfer_of h read) was.high)))
          (one_more _ _ after.fed c.requires.few),
      main,
      is,
    )

pub returns-then-of_transfer-clause-counting_block : goal.returns-then-of_transfer-clause-counting_block
returns-then-of_transfer-clause-counting_block g c = λ h read d after taken.
    let here = datagram_of c.args.datagram.now in
    let was = subst (λ (s : Side). IsSideAfter s h read) (sym c.self.view_is) after in
    let is : d ≡ at_block c.block_in-block.result here =
    read_by _ h read was c.args.rollover c.block_in-block.result c.as_slice.result.now here d c.as_slice.ensures c.block_in-block.ensures.none c.block_in-block.ensures.near taken in
    subst (λ (s : Side). CountsOn s.counts c.note.new.self.counts d) c.self.view_is
    (subst (CountsOn c.self.inside.counts c.note.new.self.counts) (sym is) c.note.ensures.counting)

pub returns-else-of_transfer-clause-accepts : goal.returns-else-of_transfer-clause-accepts
returns-else-of_transfer-clause-accepts g c = λ h read d after taken.
    let here = datagram_of c.args.datagram.now in
    let was = subst (λ (s : Side). IsSideAfter s h read) (sym c.self.view_is) after in
    let none = not_refused c.self.inside.judge.refused c.judge_next.result c.in_ok-judge_next.field-0 (λ r is. (c.judge_next.ensures.for_good r is).0) c.in_ok-judge_next.was in
    let told = c.in_ok-judge_next.ensures.accepts h read d (was.goes_on none) taken in
    let main = sym (c.in_ok-judge_next.ensures.routed h read d (was.goes_on none) taken) ∙ sym c.last_was_of_transfer-of_transfer.ensures in
    let is : d ≡ at_block c.block_in-block.result here =
    read_by _ h read was c.args.rollover c.block_in-block.result c.as_slice.result.now here d c.as_slice.ensures c.block_in-block.ensures.none c.block_in-block.ensures.near taken in (
      told.0,
      side_of_judge _ h (d ∷ read) told.1
          (flags_after_stray (flags_in c.self.inside.acks) h read d (main ∙ c.if-of_transfer.false) was.acks)
          (counted_after_stray c.self.inside.counts h read d (main ∙ c.if-of_transfer.false) was.counted)
          (high_after_stray h read d c.self.inside.highest (main ∙ c.if-of_transfer.false) was.high)
          (one_more _ _ after.fed c.requires.few),
      main,
      is,
    )
