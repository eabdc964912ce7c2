use Rattle.std.proofs.Common.{sym, ◌∙◌, arith}
use Rattle.std.proofs.lemmas.Bool.{not-true, not-false, false≢true}
use Rattle.tftp_ends.proofs.EndLengths.{right_by_size, wrong_by_size, right_by_block}
use Rattle.tftp_ends.proofs.block_rules.has_wrong_length.Goals as goal

pub returns-in-Some-clause-wrong : goal.returns-in-Some-clause-wrong
returns-in-Some-clause-wrong g c = λ yes passed blocks.
    wrong_by_size _ _ c.requires.sound c.in-Some.size c.in-Some.is passed c.args.number c.args.len
    (λ fits. false≢true (sym (not-true _ yes) ∙ c.has_length_by_size.ensures.1 (rw (c.from-in-Some.ensures, c.from-in-Some-2.ensures) fits)))

pub returns-in-Some-clause-right : goal.returns-in-Some-clause-right
returns-in-Some-clause-right g c = λ yes.
    right_by_size _ _ c.requires.sound c.in-Some.size c.in-Some.is c.args.number c.args.len
    (rw (sym c.from-in-Some.ensures, sym c.from-in-Some-2.ensures) (c.has_length_by_size.ensures.0 (not-false _ yes)))

pub returns-in-None-clause-right : goal.returns-in-None-clause-right
returns-in-None-clause-right g c = λ yes.
    let below = c.if-len-from.false in
    let same = c.from.ensures in
    right_by_block _ _ c.args.number c.args.len c.in-None.is (omega arith) (rw (sym c.from-in-None.ensures) (c.ends_elsewhere.ensures.right yes))
