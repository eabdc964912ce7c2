use Rattle.tftp_match.proofs.CopiesLemmas.{counted_have_passed}
use Rattle.tftp_match.proofs.laws.counted_is_what_the_captures_have.Goals as goal

pub returns : goal.returns
returns c before other_before s m is numbers text other_text b o h k ds es has other_has =
    let n = numbers text other_text b o h k ds es has other_has in
    counted_have_passed s m _ _ is n.4.0 n.4.1
