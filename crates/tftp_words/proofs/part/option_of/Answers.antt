use Rattle.std.proofs.Common.{rules, inl, inr, refl, arith}
use Rattle.std.proofs.lemmas.Str.Pattern.{split_parts}
use Rattle.clap.proofs.CutLemmas.{list_any-Lacks}
use Rattle.tftp_words.proofs.PartLemmas.{no_equals_no_next}
use Rattle.tftp_words.proofs.part.option_of.Goals as goal

pub returns-in-Some : goal.returns-in-Some
returns-in-Some c =
    let cut = rw c.in-Some.is at (split_parts 61 c.args.word.now c.split_once.result c.split_once.ensures.cases (omega arith)) in
    (list_any-Lacks 61 c.in-Some.name.now cut.1, inl (refl, cut.0))

pub returns-in_ok-next-in-None : goal.returns-in_ok-next-in-None
returns-in_ok-next-in-None c =
    let lacks = rw c.in-None.is at (split_parts 61 c.args.word.now c.split_once.result c.split_once.ensures.cases (omega arith)) in
    (list_any-Lacks 61 c.args.word.now lacks, inr (refl, refl, search rules))

pub returns-in_err-next-in-None : goal.returns-in_err-next-in-None
returns-in_err-next-in-None c =
    let lacks = rw c.in-None.is at (split_parts 61 c.args.word.now c.split_once.result c.split_once.ensures.cases (omega arith)) in
    rw c.from_residual.ensures (no_equals_no_next c.args.word.now _ lacks (search rules))
