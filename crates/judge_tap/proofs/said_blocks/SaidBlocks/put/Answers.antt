use Rattle.std.proofs.Common.{rules, ap, sym, ◌∙◌, Some, option_map}
use Rattle.std.specs.FinMap as map
use Rattle.std.proofs.lemmas.Slice.Eq.{slice_eq-Decides}
use Rattle.std.proofs.lemmas.Bool.Decides.{Decides-eqb}
use Rattle.law_model.proofs.Results.{where_err}
use Rattle.tftp_ends.proofs.BlocksLemmas.Kept.{get_in, insert_in}
use Rattle.judge_tap.proofs.said_blocks.SaidBlocks.put.Goals as goal

pub returns-then-eq-clause-ok : goal.returns-then-eq-clause-ok
returns-then-eq-clause-ok c = (
  ap (λ m. map.get m c.args.number) (sym c.self.view_is) ∙ get_in (λ v. v.items) c.self.inside.by_number.entries c.args.number
      ∙ ap (option_map (λ v. v.items)) (sym c.in-Some.ensures.value) ∙ ap Some (sym c.as_slice.ensures.value ∙ (slice_eq-Decides Decides-eqb _ _ _ c.eq.ensures).0 c.if-eq.true),
  search rules,
)

pub returns-in-Some-clause-ok : goal.returns-in-Some-clause-ok
returns-in-Some-clause-ok c = (
  (
    c.as_slice.result.now,
    ap (λ m. map.get m c.args.number) (sym c.self.view_is) ∙ get_in (λ v. v.items) c.self.inside.by_number.entries c.args.number
        ∙ ap (option_map (λ v. v.items)) (sym c.in-Some.ensures.value) ∙ ap Some (sym c.as_slice.ensures.value),
    λ same. let yes = (slice_eq-Decides Decides-eqb _ _ _ c.eq.ensures).1 same in cc,
  ),
  search rules,
)

pub returns-clause-ok : goal.returns-clause-ok
returns-clause-ok c = (
  ap (λ m. map.get m c.args.number) (sym c.self.view_is) ∙ get_in (λ v. v.items) c.self.inside.by_number.entries c.args.number
      ∙ ap (option_map (λ v. v.items)) (sym c.in-None.ensures.value),
  insert_in (λ v. v.items) c.self.inside.by_number.entries c.insert.new.self.entries c.args.number c.in_ok-copy.copy c.in_ok-insert.ensures.updates.0
      ∙ ap (λ m. map.insert m c.args.number c.in_ok-copy.copy.items) c.self.view_is
      ∙ ap (map.insert c.args.self.now c.args.number) c.in_ok-copy.ensures.items,
)

pub returns-in_err-copy-clause-absent : goal.returns-in_err-copy-clause-absent
returns-in_err-copy-clause-absent c = where_err c.from_residual.result
    (ap (λ m. map.get m c.args.number) (sym c.self.view_is) ∙ get_in (λ v. v.items) c.self.inside.by_number.entries c.args.number
    ∙ ap (option_map (λ v. v.items)) (sym c.in-None.ensures.value))

pub returns-in_err-insert-clause-absent : goal.returns-in_err-insert-clause-absent
returns-in_err-insert-clause-absent c = where_err c.from_residual-in_err-insert.result
    (ap (λ m. map.get m c.args.number) (sym c.self.view_is) ∙ get_in (λ v. v.items) c.self.inside.by_number.entries c.args.number
    ∙ ap (option_map (λ v. v.items)) (sym c.in-None.ensures.value))
