use Rattle.std.proofs.Common.{rules, ◌≡◌, ◌+◌, [], ◌∷◌, ◌++◌, length, take, drop, sym, ap, ◌∙◌, arith}
use Rattle.std.proofs.lemmas.List.{drop-drop, take_more_set}
use Rattle.std.proofs.lemmas.Slice.{take-put_mid_below, between-put_mid}
use Rattle.tftp_normal.proofs.Taken.{take_next, drop_next, take_past, drop_past}
use Rattle.tftp_normal.proofs.Runs.{filled_more}
use Rattle.tftp_normal.proofs.wire_blocks.WireBlocks.fill.Goals as goal

pub loop-filled-preserved : goal.loop-filled-preserved
loop-filled-preserved c =
    let a = c.loop-filled.filled in
    let r = c.fill_run-filled.result in
    let ys = c.fill_run-filled.new.block in
    record {
      size = search rules;
      within = search rules;
      filled = filled_more _ ys c.args.self.now a (a + length ys) r (omega arith)
          (take-put_mid_below a _ _ _ a (omega arith) c.loop-filled.invariant.within ∙ c.loop-filled.invariant.filled)
          (between-put_mid a _ _ _ (a + length ys) c.loop-filled.invariant.within (omega arith))
          (omega arith)
          (c.fill_run-filled.ensures.filled ∙ ap (take r) c.loop-filled.invariant.left);
      left = c.fill_run-filled.ensures.rest ∙ ap (drop r) c.loop-filled.invariant.left ∙ drop-drop r a c.args.self.now;
    }

pub loop-filled-preserved-then-filled-block : goal.loop-filled-preserved-then-filled-block
loop-filled-preserved-then-filled-block c =
    let a = c.loop-filled.filled in
    let r = c.fill_run-filled.result in
    let ys = c.fill_run-filled.new.block in
    let filled = filled_more _ ys c.args.self.now a (a + length ys) r (omega arith)
    (take-put_mid_below a _ _ _ a (omega arith) c.loop-filled.invariant.within ∙ c.loop-filled.invariant.filled)
    (between-put_mid a _ _ _ (a + length ys) c.loop-filled.invariant.within (omega arith))
    (omega arith)
    (c.fill_run-filled.ensures.filled ∙ ap (take r) c.loop-filled.invariant.left) in
    let left : c.fill_run-filled.new.self ≡ drop (a + r) c.args.self.now = c.fill_run-filled.ensures.rest ∙ ap (drop r) c.loop-filled.invariant.left ∙ drop-drop r a c.args.self.now in
    let next : drop (a + r) c.args.self.now ≡ c.in-Some.byte ∷ c.next_byte.new.self = sym left ∙ c.in-Some.ensures.next in
    record {
      size = search rules;
      within = search rules;
      filled = take_more_set _ (a + r) c.in-Some.byte (search rules) ∙ ap (λ l. l ++ c.in-Some.byte ∷ []) filled ∙ sym (take_next c.args.self.now (a + r) c.in-Some.byte c.next_byte.new.self next);
      left = sym (drop_next c.args.self.now (a + r) c.in-Some.byte c.next_byte.new.self next);
    }

pub returns-in-None-clause-filled : goal.returns-in-None-clause-filled
returns-in-None-clause-filled c =
    let a = c.loop-filled.filled in
    let r = c.fill_run-filled.result in
    let ys = c.fill_run-filled.new.block in
    let filled = filled_more _ ys c.args.self.now a (a + length ys) r (omega arith)
    (take-put_mid_below a _ _ _ a (omega arith) c.loop-filled.invariant.within ∙ c.loop-filled.invariant.filled)
    (between-put_mid a _ _ _ (a + length ys) c.loop-filled.invariant.within (omega arith))
    (omega arith)
    (c.fill_run-filled.ensures.filled ∙ ap (take r) c.loop-filled.invariant.left) in
    let left : c.fill_run-filled.new.self ≡ drop (a + r) c.args.self.now = c.fill_run-filled.ensures.rest ∙ ap (drop r) c.loop-filled.invariant.left ∙ drop-drop r a c.args.self.now in
    let ended : drop (a + r) c.args.self.now ≡ [] = sym left ∙ c.in-None.ensures.none in
    filled ∙ sym (take_past c.args.self.now (a + r) (length c.args.block.now) ended (search rules))

pub returns-in-None-clause-rest : goal.returns-in-None-clause-rest
returns-in-None-clause-rest c =
    let a = c.loop-filled.filled in
    let r = c.fill_run-filled.result in
    let left : c.fill_run-filled.new.self ≡ drop (a + r) c.args.self.now = c.fill_run-filled.ensures.rest ∙ ap (drop r) c.loop-filled.invariant.left ∙ drop-drop r a c.args.self.now in
    let ended : drop (a + r) c.args.self.now ≡ [] = sym left ∙ c.in-None.ensures.none in
    sym c.in-None.ensures.next ∙ c.in-None.ensures.none ∙ sym (drop_past c.args.self.now (a + r) (length c.args.block.now) ended (search rules))
