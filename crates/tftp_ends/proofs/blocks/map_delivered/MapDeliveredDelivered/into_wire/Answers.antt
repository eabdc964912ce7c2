use Rattle.std.proofs.Common.{ap, sym, subst, ◌∙◌, ◌≡◌, [], Some, None, option_map, ℕ, IfOk}
use Rattle.std.specs.FinMap as map
use Rattle.tftp_ends.specs.Blocks.{IsHeldFront, IsJoin, JoinsSeveral, held_in}
use Rattle.tftp_ends.proofs.BlocksLemmas.Kept.{get_in, join_whole, join_first, join_none, joins_several, where_ok}
use Rattle.law_model.proofs.Results.{where_err}
use Rattle.tftp_ends.proofs.blocks.map_delivered.MapDeliveredDelivered.into_wire.Goals as goal

pub returns-then-front-gt1-clause-joined : goal.returns-then-front-gt1-clause-joined
returns-then-front-gt1-clause-joined c = subst (λ m. IfOk c.join.result (λ wire. (front : ℕ) → IsHeldFront m.0 front → IsJoin m.0 front wire.items)) c.self.view_is
    (where_ok _ _ c.join.result (λ wire is. join_whole (held_in c.self.inside.by_number.entries) c.self.inside.front wire.items c.self.invariant.up_to is) c.join.ensures)

pub returns-then-front-gt1-clause-memory : goal.returns-then-front-gt1-clause-memory
returns-then-front-gt1-clause-memory c = where_err c.join.result
    (subst (λ m. JoinsSeveral m.0) c.self.view_is (joins_several (held_in c.self.inside.by_number.entries) c.self.inside.front c.self.invariant.up_to c.if-front-gt1.true))

pub returns-in-Some-clause-joined : goal.returns-in-Some-clause-joined
returns-in-Some-clause-joined c =
    let held : map.get (held_in c.self.inside.by_number.entries) 1 ≡ Some c.in-Some.first.items =
    get_in (λ v. v.items) c.self.inside.by_number.entries 1 ∙ ap (option_map (λ v. v.items)) (sym c.remove.ensures.value ∙ c.in-Some.is) in
    subst (λ m. (front : ℕ) → IsHeldFront m.0 front → IsJoin m.0 front c.in-Some.first.items) c.self.view_is
    (join_first (held_in c.self.inside.by_number.entries) c.self.inside.front c.in-Some.first.items c.self.invariant.up_to c.if-front-gt1.false held)

pub returns-clause-joined : goal.returns-clause-joined
returns-clause-joined c =
    let none : map.get (held_in c.self.inside.by_number.entries) 1 ≡ None =
    get_in (λ v. v.items) c.self.inside.by_number.entries 1 ∙ ap (option_map (λ v. v.items)) (sym c.remove.ensures.value ∙ c.in-None.is) in
    subst (λ wire. (front : ℕ) → IsHeldFront c.args.self.0 front → IsJoin c.args.self.0 front wire) (sym c.new.ensures.items)
    (subst (λ m. (front : ℕ) → IsHeldFront m.0 front → IsJoin m.0 front []) c.self.view_is
    (join_none (held_in c.self.inside.by_number.entries) c.self.inside.front c.self.invariant.up_to c.if-front-gt1.false none))
