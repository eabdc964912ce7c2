use Rattle.std.proofs.Common.{ap, sym, ◌∙◌, ◌-◌, ◌*◌, take, drop, Some, inl, inr, arith}
use Rattle.std.specs.FinMap as finite
use Rattle.tftp_ends.specs.Blocks.{numbered}
use Rattle.tftp_ends.proofs.BlocksLemmas.Places.{none_at_0}
use Rattle.tftp_ends.proofs.BlocksLemmas.Ring.{block_bytes, ring_block, joined_block}
use Rattle.tftp_ends.proofs.blocks.ring_delivered.RingDeliveredDelivered.block.Goals.{then-len-from, else-len-from}
use Rattle.tftp_ends.proofs.blocks.ring_delivered.RingDeliveredDelivered.block.Goals as goal

pub returns-then-number-eq0 : goal.returns-then-number-eq0
returns-then-number-eq0 c = sym (ap (finite.get (numbered 1 c.args.self.now.0)) c.if-number-eq0.true ∙ none_at_0 c.args.self.now.0)

pub returns-then-number-self : goal.returns-then-number-self
returns-then-number-self c =
    let size = c.len.ensures in
    let own = c.self.inside.joined.ok in
    ap (λ js. Some (take (c.if-len-from.to - (c.args.number - 1) * c.self.inside.block_size) (drop ((c.args.number - 1) * c.self.inside.block_size) js))) c.deref.ensures.value
    ∙ ap Some (block_bytes c.self.inside.block_size ((c.args.number - 1) * c.self.inside.block_size) c.if-len-from.to c.self.inside.joined.items
    (elim c.if-len-from.branch [
      | then-len-from w ↦ let less = w.if-len-from.true in let whole = w.to-is in let read = w.len-to.ensures in inl (omega arith, omega arith)
      | else-len-from w ↦ inr (w.to-is)
    ]))
    ∙ sym (joined_block c.self.inside.block_size c.self.inside.front c.self.inside.joined.items c.self.inside.pending.0 c.args.number
    (let some = c.if-number-eq0.false in omega arith) c.if-number-self.true)
    ∙ ap (λ m. finite.get (numbered 1 m.0) c.args.number) c.self.view_is

pub returns : goal.returns
returns c = c.get.ensures.value
    ∙ sym (ring_block c.self.inside.block_size c.self.inside.front c.self.inside.joined.items c.self.inside.pending.0 c.args.number
    (let above = c.if-number-self.false in omega arith))
    ∙ ap (λ m. finite.get (numbered 1 m.0) c.args.number) c.self.view_is
