use Rattle.std.proofs.Common.{ap, sym, subst, ◌∙◌, ◌≡◌, ◌+◌, ◌++◌, ◌∷◌, length, Some, refl, arith}
use Rattle.std.proofs.lemmas.List.{length-append}
use Rattle.tftp_ends.specs.Blocks.{leading, cut, filled, IsRow}
use Rattle.tftp_ends.proofs.BlocksLemmas.Places.{row_step, slots_step}
use Rattle.tftp_ends.proofs.blocks.ring_delivered.advance.Goals as goal

pub loop-front-preserved : goal.loop-front-preserved
loop-front-preserved c =
    let moved = c.loop-front-test.ensures.moved refl in
    let block = moved.0 in
    let ring : c.loop-front.pending.0 ≡ Some block ∷ c.move_first.new.self.0 = moved.1 in
    let joined : c.move_first.new.joined.items ≡ c.loop-front.joined.items ++ block = moved.2 in
    let row : IsRow c.args.block_size c.loop-front.joined.items c.loop-front.front (Some block ∷ c.move_first.new.self.0) =
    subst (IsRow c.args.block_size c.loop-front.joined.items c.loop-front.front) ring c.loop-front.invariant.row in
    let long = ap length joined ∙ length-append c.loop-front.joined.items block in
    let before = ap leading ring in
    let some = ap filled ring in
    let many = ap length ring in
    let room = c.loop-front.invariant.room in
    let capacity = c.loop-front-test.ensures.capacity in
    let within = c.loop-front.invariant.within in
    let numbers = c.loop-front.invariant.long in
    let count = c.loop-front.invariant.count in
    let kept = c.loop-front.invariant.kept in
    let fewer = c.loop-front-test.ensures.kept in
    record {
      row = subst (λ js. IsRow c.args.block_size js (c.loop-front.front + 1) c.move_first.new.self.0) (sym joined) (row_step _ _ _ _ _ row);
      room = omega arith;
      slots = ap (λ js. cut c.args.block_size (c.loop-front.front + 1) js ++ c.move_first.new.self.0) joined
          ∙ slots_step _ _ _ _ _ row
          ∙ ap (λ t. cut c.args.block_size c.loop-front.front c.loop-front.joined.items ++ t) (sym ring)
          ∙ c.loop-front.invariant.slots;
      within = omega arith;
      long = omega arith;
      count = omega arith;
      kept = omega arith;
      empty = λ _ none. c.loop-front-test.ensures.empty refl none;
    }
