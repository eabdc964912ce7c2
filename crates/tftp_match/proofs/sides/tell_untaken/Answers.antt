use Rattle.std.proofs.Common.{◌∙◌, ap}
use Rattle.tftp_match.specs.Untaken.{shown}
use Rattle.tftp_match.proofs.SidesLemmas.{both_told, one_told}
use Rattle.tftp_match.proofs.sides.tell_untaken.Goals as goal

pub returns-then-goes_on-clause-told : goal.returns-then-goes_on-clause-told
returns-then-goes_on-clause-told g c =
    both_told c.tell_side-then-goes_on.result (g.E.Write.contents c.args.remarks.now.errors.0) (g.E.Write.contents c.tell_pairs.new.remarks.errors.0) (g.E.Write.contents c.tell_side.new.remarks.errors.0) (g.E.Write.contents c.tell_side-then-goes_on.new.remarks.errors.0)
    c.args.remarks.now.program.now c.tell_pairs.new.remarks.program.now c.tell_side.new.remarks.program.now (shown c.args.client.now) (shown c.args.server.now) c.args.meant.now.clients.items c.args.meant.now.servers.items c.args.why.now c.goes_on.result
    (ap (λ r. r.program.now) c.in_ok-tell_pairs.ensures.same) (ap (λ r. r.program.now) c.in_ok-tell_side.ensures.same ∙ ap (λ r. r.program.now) c.in_ok-tell_pairs.ensures.same) c.if-goes_on.true (rw c.as_slice-own.ensures.value at c.goes_on.ensures)
    c.in_ok-tell_pairs.ensures.told (rw c.as_slice-own.ensures.value at c.in_ok-tell_side.ensures.told) (rw c.as_slice.ensures.value at c.tell_side-then-goes_on.ensures.told)

pub returns-else-goes_on-clause-told : goal.returns-else-goes_on-clause-told
returns-else-goes_on-clause-told g c =
    one_told (g.E.Write.contents c.args.remarks.now.errors.0) (g.E.Write.contents c.tell_pairs.new.remarks.errors.0) (g.E.Write.contents c.tell_side.new.remarks.errors.0) c.args.remarks.now.program.now c.tell_pairs.new.remarks.program.now
    (shown c.args.client.now) (shown c.args.server.now) c.args.meant.now.clients.items c.args.meant.now.servers.items c.args.why.now c.goes_on.result (ap (λ r. r.program.now) c.in_ok-tell_pairs.ensures.same) c.if-goes_on.false (rw c.as_slice-own.ensures.value at c.goes_on.ensures)
    c.in_ok-tell_pairs.ensures.told (rw c.as_slice-own.ensures.value at c.in_ok-tell_side.ensures.told)
