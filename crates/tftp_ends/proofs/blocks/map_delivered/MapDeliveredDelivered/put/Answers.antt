use Rattle.std.proofs.Common.{rules, ap, sym, subst, ◌∙◌, ◌≡◌, ◌+◌, cond, length, Some, None, option_map, arith, is_some}
use Rattle.std.specs.FinMap as map
use Rattle.std.proofs.lemmas.Slice.Eq.{slice_eq-Decides}
use Rattle.std.proofs.lemmas.Bool.Decides.{Decides-eqb}
use Rattle.tftp_ends.specs.Blocks.{Takes, held_in, IsKept}
use Rattle.tftp_ends.proofs.BlocksLemmas.Kept.{get_in, insert_in, kept_more}
use Rattle.law_model.proofs.Results.{where_err}
use Rattle.tftp_ends.proofs.blocks.map_delivered.MapDeliveredDelivered.put.Goals as goal

pub returns-then-eq-clause-ok : goal.returns-then-eq-clause-ok
returns-then-eq-clause-ok c = (
  ap (λ m. map.get m.0 c.args.number) (sym c.self.view_is) ∙ get_in (λ v. v.items) c.self.inside.by_number.entries c.args.number
      ∙ ap (option_map (λ v. v.items)) (sym c.in-Some.ensures.value) ∙ ap Some (sym c.as_slice.ensures.value ∙ (slice_eq-Decides Decides-eqb _ _ _ c.eq.ensures).0 c.if-eq.true),
  search rules,
)

pub returns-in-Some-clause-ok : goal.returns-in-Some-clause-ok
returns-in-Some-clause-ok c = (
  (
    c.as_slice.result.now,
    ap (λ m. map.get m.0 c.args.number) (sym c.self.view_is) ∙ get_in (λ v. v.items) c.self.inside.by_number.entries c.args.number
        ∙ ap (option_map (λ v. v.items)) (sym c.in-Some.ensures.value) ∙ ap Some (sym c.as_slice.ensures.value),
    λ same. let yes = (slice_eq-Decides Decides-eqb _ _ _ c.eq.ensures).1 same in cc,
  ),
  search rules,
)

pub invariant_of-self-2 : goal.invariant_of-self-2
invariant_of-self-2 c =
    let none : map.get (held_in c.self.inside.by_number.entries) c.args.number ≡ None =
    get_in (λ v. v.items) c.self.inside.by_number.entries c.args.number ∙ ap (option_map (λ v. v.items)) (sym c.in-None.ensures.value) in
    let takes : Takes c.self.inside.block_size c.self.inside.window (held_in c.self.inside.by_number.entries) c.args.number (length c.in_ok-copy.copy.items) =
    subst (λ bytes. Takes c.self.inside.block_size c.self.inside.window (held_in c.self.inside.by_number.entries) c.args.number (length bytes)) (sym c.in_ok-copy.ensures.items)
    (subst (λ m. Takes m.1 m.2 m.0 c.args.number (length c.args.bytes.now)) (sym c.self.view_is) c.requires) in
    let long : length c.insert.new.self.entries ≡ length c.self.inside.by_number.entries + 1 =
    c.in_ok-insert.ensures.len ∙ ap (λ b. length c.self.inside.by_number.entries + cond b 0 1) (ap is_some (c.in_ok-insert.ensures.old ∙ sym c.in-None.ensures.value)) in
    let near = c.ranges.number.fits in
    let own = c.max-self-inside.type_inv in
    let same = c.max-self-inside.ensures in
    subst (λ high. IsKept c.self.inside.block_size c.self.inside.window (held_in c.insert.new.self.entries) c.front_after-self-inside.result high (length c.insert.new.self.entries)) (sym same)
    (kept_more (λ v. v.items) c.self.inside.by_number.entries c.insert.new.self.entries c.self.inside.block_size c.self.inside.window c.self.inside.front c.self.inside.highest c.args.number
    c.front_after-self-inside.result c.in_ok-copy.copy c.self.invariant takes none (omega arith) c.in_ok-insert.ensures.updates.0 long c.front_after-self-inside.ensures.within
    c.front_after-self-inside.ensures.held c.front_after-self-inside.ensures.next)

pub returns-clause-ok : goal.returns-clause-ok
returns-clause-ok c = (
  ap (λ m. map.get m.0 c.args.number) (sym c.self.view_is) ∙ get_in (λ v. v.items) c.self.inside.by_number.entries c.args.number
      ∙ ap (option_map (λ v. v.items)) (sym c.in-None.ensures.value),
  insert_in (λ v. v.items) c.self.inside.by_number.entries c.insert.new.self.entries c.args.number c.in_ok-copy.copy c.in_ok-insert.ensures.updates.0
      ∙ ap (λ m. map.insert m.0 c.args.number c.in_ok-copy.copy.items) c.self.view_is
      ∙ ap (map.insert c.args.self.now.0 c.args.number) c.in_ok-copy.ensures.items,
)

pub returns-in_err-copy-clause-absent : goal.returns-in_err-copy-clause-absent
returns-in_err-copy-clause-absent c = where_err c.from_residual.result
    (ap (λ m. map.get m.0 c.args.number) (sym c.self.view_is) ∙ get_in (λ v. v.items) c.self.inside.by_number.entries c.args.number
    ∙ ap (option_map (λ v. v.items)) (sym c.in-None.ensures.value))

pub returns-in_err-insert-clause-absent : goal.returns-in_err-insert-clause-absent
returns-in_err-insert-clause-absent c = where_err c.from_residual-in_err-insert.result
    (ap (λ m. map.get m.0 c.args.number) (sym c.self.view_is) ∙ get_in (λ v. v.items) c.self.inside.by_number.entries c.args.number
    ∙ ap (option_map (λ v. v.items)) (sym c.in-None.ensures.value))
