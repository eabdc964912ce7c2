use Rattle.std.proofs.Common.{◌≡◌, inl, refl, rules, ◌∙◌}
use Rattle.tftp_packet.specs.{Out}
use Rattle.tftp_judge.proofs.transfer.Transfer.note_sent.Goals as goal

pub returns-in-Data-clause-block_sent : goal.returns-in-Data-clause-block_sent
returns-in-Data-clause-block_sent g c = λ passed d says is.
    let out : c.args.dir ≡ Out = search rules in
    let block = rw (c.in-Data.is) at says.1 in
    ((λ sent. (c.in-Data.block, c.in-Data.bytes.now, inl (says.0 ∙ out, block))), (λ sent. refl))
