use Rattle.std.proofs.Common.{subst, sym, ◌<◌, ◌-◌, length, arith}
use Rattle.tftp_ends.specs.Blocks.{IsPending, held_in}
use Rattle.tftp_ends.proofs.BlocksLemmas.Kept.{kept_between, kept_pending}
use Rattle.tftp_ends.proofs.blocks.map_delivered.MapDeliveredDelivered.pending.Goals as goal

pub overflow_sub-result : goal.overflow_sub-result
overflow_sub-result c =
    let between = kept_between c.self.inside.block_size c.self.inside.window (held_in c.self.inside.by_number.entries) c.self.inside.front c.self.inside.highest (length c.self.inside.by_number.entries) c.self.invariant in
    let low = between.0 in
    let read = c.len.ensures.len in omega arith

pub returns-clause-count : goal.returns-clause-count
returns-clause-count c = subst (λ m. IsPending m.0 (c.len.result - c.self.inside.front)) c.self.view_is
    (subst (λ n. IsPending (held_in c.self.inside.by_number.entries) (n - c.self.inside.front)) (sym c.len.ensures.len)
    (kept_pending c.self.inside.block_size c.self.inside.window (held_in c.self.inside.by_number.entries) c.self.inside.front c.self.inside.highest (length c.self.inside.by_number.entries) c.self.invariant))

pub returns-clause-fewer : goal.returns-clause-fewer
returns-clause-fewer c = subst (λ m. c.len.result - c.self.inside.front < m.2) c.self.view_is
    (let between = kept_between c.self.inside.block_size c.self.inside.window (held_in c.self.inside.by_number.entries) c.self.inside.front c.self.inside.highest (length c.self.inside.by_number.entries) c.self.invariant in
    let up = between.1 in
    let read = c.len.ensures.len in omega arith)
