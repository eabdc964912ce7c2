use Rattle.std.proofs.Common.{ap, sym, subst, ◌∙◌, ◌≡◌, ◌+◌, Some, None, option_map, arith}
use Rattle.std.specs.FinMap as map
use Rattle.tftp_ends.specs.Blocks.{IsJoin, held_in}
use Rattle.tftp_ends.proofs.BlocksLemmas.Kept.{get_in, join_step}
use Rattle.tftp_ends.proofs.blocks.map_delivered.join.Goals as goal

pub loop-joined-preserved-in-Continue-branch-2 : goal.loop-joined-preserved-in-Continue-branch-2
loop-joined-preserved-in-Continue-branch-2 c =
    let low = c.loop-joined-test.true in
    let held : map.get (held_in c.args.blocks.now.entries) (c.loop-joined.joined + 1) ≡ Some c.as_slice.result.now =
    get_in (λ v. v.items) c.args.blocks.now.entries (c.loop-joined.joined + 1) ∙ ap (option_map (λ v. v.items)) (sym c.in-Some.ensures.value) ∙ ap Some (sym c.as_slice.ensures.value) in
    record {
      within = omega arith;
      join = subst (IsJoin (held_in c.args.blocks.now.entries) (c.loop-joined.joined + 1)) (sym c.in_ok-extend_from_slice-in-Some.ensures.items)
          (join_step (held_in c.args.blocks.now.entries) c.loop-joined.joined c.loop-joined.wire.items c.as_slice.result.now c.loop-joined.invariant.join held);
    }

pub loop-joined-preserved : goal.loop-joined-preserved
loop-joined-preserved c =
    let low = c.loop-joined-test.true in
    let has = c.requires.below (c.loop-joined.joined + 1) (omega arith) (omega arith) in
    let none : map.get (held_in c.args.blocks.now.entries) (c.loop-joined.joined + 1) ≡ None =
    get_in (λ v. v.items) c.args.blocks.now.entries (c.loop-joined.joined + 1) ∙ ap (option_map (λ v. v.items)) (sym c.in-None.ensures.value) in
    let no : None ≡ Some has.0 = sym none ∙ has.1 in absurd (cc)
