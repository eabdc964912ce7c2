use Rattle.std.proofs.Common.{ap, sym, subst, ◌∙◌, ◌≡◌, ◌≤◌, ◌-◌, ◌+◌, ◌*◌, ◌++◌, length, arith, ◌^◌, max}
use Rattle.std.proofs.lemmas.List.{length-drop}
use Rattle.std.specs.FinMap as finite
use Rattle.tftp_ends.specs.Blocks.{numbered, cut, placed, IsRow, IsRing, IsRoom, total}
use Rattle.tftp_ends.proofs.BlocksLemmas.Ring.{new_facts, new_waits, place_within, numbered_new, first_row, first_moved, first_alone, none_is_dropped, numbered_first, filled_within, new_room, same_room}
use Rattle.tftp_ends.proofs.blocks.ring_delivered.RingDelivered.hold_new.Goals as goal

pub overflow_sub-place : goal.overflow_sub-place
overflow_sub-place c =
    let known = new_facts c.self.inside.block_size c.self.inside.window c.self.inside.front c.self.inside.joined.items c.self.inside.pending.0 c.args.number c.args.bytes.now c.self.inside.pending.1 c.args.self.now c.self.view_is c.requires.takes (sym c.requires.absent) in
    let above = known.2 in omega arith

pub overflow_sub-place-2 : goal.overflow_sub-place-2
overflow_sub-place-2 c =
    let known = new_facts c.self.inside.block_size c.self.inside.window c.self.inside.front c.self.inside.joined.items c.self.inside.pending.0 c.args.number c.args.bytes.now c.self.inside.pending.1 c.args.self.now c.self.view_is c.requires.takes (sym c.requires.absent) in
    let above = known.2 in omega arith

pub overflow_add-self : goal.overflow_add-self
overflow_add-self c =
    let known = new_facts c.self.inside.block_size c.self.inside.window c.self.inside.front c.self.inside.joined.items c.self.inside.pending.0 c.args.number c.args.bytes.now c.self.inside.pending.1 c.args.self.now c.self.view_is c.requires.takes (sym c.requires.absent) in
    let waits = new_waits c.self.inside.block_size c.self.inside.window c.self.inside.front c.self.inside.joined.items c.self.inside.pending.0 c.self.inside.waiting c.args.number c.args.bytes.now c.self.invariant.0 known.0 known.1 (let far = c.if-place-gt0.true in let above = known.2 in omega arith) (let fits = c.ranges.number.fits in omega arith) in
    let count = waits.count in
    let numbers = waits.numbers in
    let few = filled_within (placed c.self.inside.pending.0 (c.args.number - c.self.inside.front - 1) c.args.bytes.now) in
    omega arith

pub invariant_of-self-then-place-gt0 : goal.invariant_of-self-then-place-gt0
invariant_of-self-then-place-gt0 c =
    let known = new_facts c.self.inside.block_size c.self.inside.window c.self.inside.front c.self.inside.joined.items c.self.inside.pending.0 c.args.number c.args.bytes.now c.self.inside.pending.1 c.args.self.now c.self.view_is c.requires.takes (sym c.requires.absent) in
    let waits = new_waits c.self.inside.block_size c.self.inside.window c.self.inside.front c.self.inside.joined.items c.self.inside.pending.0 c.self.inside.waiting c.args.number c.args.bytes.now c.self.invariant.0 known.0 known.1 (let far = c.if-place-gt0.true in let above = known.2 in omega arith) (let fits = c.ranges.number.fits in omega arith) in
    let held = c.in_ok-hold.ensures.ok in
    let product : c.from.result * c.from-then-place-gt0.result ≡ c.self.inside.waiting * c.self.inside.block_size =
    ap (λ m. m * c.from-then-place-gt0.result) c.from.ensures ∙ ap (λ m. c.self.inside.waiting * m) c.from-then-place-gt0.ensures in
    let kept = subst (λ n. c.hold.new.self.1 ≤ max (2 * (n + 2 ^ 20) + 1) (total c.self.inside.pending.0) + length c.args.bytes.now) product c.in_ok-hold.ensures.kept in (
      subst (λ ring. IsRing c.self.inside.block_size c.self.inside.window c.self.inside.joined.items c.self.inside.front ring (c.self.inside.waiting + 1)) (sym held) waits,
      subst (λ ring. IsRoom c.self.inside.block_size c.self.inside.window ring c.hold.new.self.1) (sym held)
          (new_room c.self.inside.block_size c.self.inside.window c.self.inside.front c.self.inside.joined.items c.self.inside.pending.0 c.self.inside.waiting (c.args.number - c.self.inside.front - 1) c.args.bytes.now c.hold.new.self.1 c.self.invariant.0 waits known.0.fits kept),
    )

pub returns-then-place-gt0-clause-ok : goal.returns-then-place-gt0-clause-ok
returns-then-place-gt0-clause-ok c =
    let known = new_facts c.self.inside.block_size c.self.inside.window c.self.inside.front c.self.inside.joined.items c.self.inside.pending.0 c.args.number c.args.bytes.now c.self.inside.pending.1 c.args.self.now c.self.view_is c.requires.takes (sym c.requires.absent) in
    let held = c.in_ok-hold.ensures.ok in
    ap (λ ring. numbered 1 (cut c.self.inside.block_size c.self.inside.front c.self.inside.joined.items ++ ring)) held
    ∙ numbered_new c.self.inside.block_size c.self.inside.front c.self.inside.joined.items c.self.inside.pending.0 c.args.number c.args.bytes.now known.2
    ∙ ap (λ m. finite.insert (numbered 1 m.0) c.args.number c.args.bytes.now) c.self.view_is

pub advance-self-inside-requires-clause-row : goal.advance-self-inside-requires-clause-row
advance-self-inside-requires-clause-row c =
    let known = new_facts c.self.inside.block_size c.self.inside.window c.self.inside.front c.self.inside.joined.items c.self.inside.pending.0 c.args.number c.args.bytes.now c.self.inside.pending.1 c.args.self.now c.self.view_is c.requires.takes (sym c.requires.absent) in
    let near : c.args.number - c.self.inside.front - 1 ≤ 0 = c.if-place-gt0.false in
    let joined : c.extend_from_slice.new.self.items ≡ c.self.inside.joined.items ++ c.args.bytes.now =
    c.in_ok-extend_from_slice.ensures.items ∙ ap (λ t. t ++ c.args.bytes.now) c.in_ok-make_room.ensures.items in
    let row = first_moved c.self.inside.block_size c.self.inside.window c.self.inside.front c.self.inside.joined.items c.self.inside.pending.0 c.args.number c.args.bytes.now c.self.invariant.0.row known.0 known.1 known.2 near in
    subst (λ js. IsRow c.self.inside.block_size js c.args.number c.drop_first.new.self.0) (sym joined)
    (subst (IsRow c.self.inside.block_size (c.self.inside.joined.items ++ c.args.bytes.now) c.args.number) (sym c.drop_first.ensures.places) row)

pub invariant_of-self-else-self-gt0 : goal.invariant_of-self-else-self-gt0
invariant_of-self-else-self-gt0 c =
    let known = new_facts c.self.inside.block_size c.self.inside.window c.self.inside.front c.self.inside.joined.items c.self.inside.pending.0 c.args.number c.args.bytes.now c.self.inside.pending.1 c.args.self.now c.self.view_is c.requires.takes (sym c.requires.absent) in
    let near : c.args.number - c.self.inside.front - 1 ≤ 0 = c.if-place-gt0.false in
    let joined : c.extend_from_slice.new.self.items ≡ c.self.inside.joined.items ++ c.args.bytes.now =
    c.in_ok-extend_from_slice.ensures.items ∙ ap (λ t. t ++ c.args.bytes.now) c.in_ok-make_room.ensures.items in
    let fits = c.ranges.number.fits in
    let count = c.self.invariant.0.count in
    let none = c.if-self-gt0.false in
    let ring = subst (λ js. IsRing c.self.inside.block_size c.self.inside.window js c.args.number c.self.inside.pending.0 c.self.inside.waiting) (sym joined)
    (first_alone c.self.inside.block_size c.self.inside.window c.self.inside.front c.self.inside.joined.items c.self.inside.pending.0 c.self.inside.waiting c.args.number c.args.bytes.now c.self.invariant.0 known.0 known.1 known.2 near (omega arith) (omega arith)) in
    (ring, c.self.invariant.1)

pub invariant_of-self : goal.invariant_of-self
invariant_of-self c =
    let same = c.in_err-hold.ensures.err in (
      subst (λ ring. IsRing c.self.inside.block_size c.self.inside.window c.self.inside.joined.items c.self.inside.front ring c.self.inside.waiting) (sym same) c.self.invariant.0,
      subst (λ ring. IsRoom c.self.inside.block_size c.self.inside.window ring c.hold.new.self.1) (sym same)
          (same_room _ _ _ _ c.self.inside.pending.0 _ c.self.inside.pending.1 c.hold.new.self.1 c.self.invariant.0 c.self.invariant.1 c.in_err-hold.ensures.err_kept),
    )

pub returns-then-self-gt0-clause-ok : goal.returns-then-self-gt0-clause-ok
returns-then-self-gt0-clause-ok c =
    let known = new_facts c.self.inside.block_size c.self.inside.window c.self.inside.front c.self.inside.joined.items c.self.inside.pending.0 c.args.number c.args.bytes.now c.self.inside.pending.1 c.args.self.now c.self.view_is c.requires.takes (sym c.requires.absent) in
    let near : c.args.number - c.self.inside.front - 1 ≤ 0 = c.if-place-gt0.false in
    let joined : c.extend_from_slice.new.self.items ≡ c.self.inside.joined.items ++ c.args.bytes.now =
    c.in_ok-extend_from_slice.ensures.items ∙ ap (λ t. t ++ c.args.bytes.now) c.in_ok-make_room.ensures.items in
    let row = first_row c.self.inside.block_size c.self.inside.window c.self.inside.front c.self.inside.joined.items c.self.inside.pending.0 c.args.number c.args.bytes.now c.self.invariant.0.row known.0 known.1 known.2 near in
    ap (numbered 1) (c.advance-self-inside.ensures.slots
    ∙ ap (λ js. cut c.self.inside.block_size c.args.number js ++ c.drop_first.new.self.0) joined
    ∙ ap (λ ring. cut c.self.inside.block_size c.args.number (c.self.inside.joined.items ++ c.args.bytes.now) ++ ring) c.drop_first.ensures.places)
    ∙ numbered_first c.self.inside.block_size c.self.inside.front c.self.inside.joined.items c.self.inside.pending.0 c.args.number c.args.bytes.now row known.2 near
    ∙ ap (λ m. finite.insert (numbered 1 m.0) c.args.number c.args.bytes.now) c.self.view_is

pub returns-else-self-gt0-clause-ok : goal.returns-else-self-gt0-clause-ok
returns-else-self-gt0-clause-ok c =
    let known = new_facts c.self.inside.block_size c.self.inside.window c.self.inside.front c.self.inside.joined.items c.self.inside.pending.0 c.args.number c.args.bytes.now c.self.inside.pending.1 c.args.self.now c.self.view_is c.requires.takes (sym c.requires.absent) in
    let near : c.args.number - c.self.inside.front - 1 ≤ 0 = c.if-place-gt0.false in
    let joined : c.extend_from_slice.new.self.items ≡ c.self.inside.joined.items ++ c.args.bytes.now =
    c.in_ok-extend_from_slice.ensures.items ∙ ap (λ t. t ++ c.args.bytes.now) c.in_ok-make_room.ensures.items in
    let row = first_row c.self.inside.block_size c.self.inside.window c.self.inside.front c.self.inside.joined.items c.self.inside.pending.0 c.args.number c.args.bytes.now c.self.invariant.0.row known.0 known.1 known.2 near in
    let count = c.self.invariant.0.count in
    let none = c.if-self-gt0.false in
    ap (numbered 1) (ap (λ js. cut c.self.inside.block_size c.args.number js ++ c.self.inside.pending.0) joined
    ∙ ap (λ ring. cut c.self.inside.block_size c.args.number (c.self.inside.joined.items ++ c.args.bytes.now) ++ ring) (none_is_dropped c.self.inside.block_size c.self.inside.pending.0 c.self.invariant.0.row.even (omega arith)))
    ∙ numbered_first c.self.inside.block_size c.self.inside.front c.self.inside.joined.items c.self.inside.pending.0 c.args.number c.args.bytes.now row known.2 near
    ∙ ap (λ m. finite.insert (numbered 1 m.0) c.args.number c.args.bytes.now) c.self.view_is

pub advance-self-inside-requires-clause-numbers : goal.advance-self-inside-requires-clause-numbers
advance-self-inside-requires-clause-numbers c =
    let fits = c.ranges.number.fits in
    let fewer = ap length c.drop_first.ensures.places ∙ length-drop 1 c.self.inside.pending.0 in
    let numbers = c.self.invariant.0.numbers in
    let near : c.args.number - c.self.inside.front - 1 ≤ 0 = c.if-place-gt0.false in
    omega arith

pub hold-requires-clause-place : goal.hold-requires-clause-place
hold-requires-clause-place c =
    let wide = c.self.ranges in
    let known = new_facts c.self.inside.block_size c.self.inside.window c.self.inside.front c.self.inside.joined.items c.self.inside.pending.0 c.args.number c.args.bytes.now c.self.inside.pending.1 c.args.self.now c.self.view_is c.requires.takes (sym c.requires.absent) in
    let near = place_within c.self.inside.block_size c.self.inside.window c.self.inside.front c.self.inside.joined.items c.self.inside.pending.0 c.self.inside.waiting c.args.number c.args.bytes.now c.self.invariant.0 known.0 in
    omega arith
