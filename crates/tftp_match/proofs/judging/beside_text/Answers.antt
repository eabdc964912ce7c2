use Rattle.tftp_match.proofs.MatchingLemmas.{none_of, of_server}
use Rattle.tftp_match.proofs.judging.beside_text.Goals as goal

pub returns-in_ok-judged-in-Recording-clause-said : goal.returns-in_ok-judged-in-Recording-clause-said
returns-in_ok-judged-in-Recording-clause-said g c =
    rw c.numbered.ensures (rw c.in-Recording.is (of_server _ c.args.request.now _ c.in-Recording.server c.in_ok-judged-in-Recording.judged c.in_ok-judged-in-Recording.ensures.taken))

pub returns-in_ok-judged-in-Recording-clause-told : goal.returns-in_ok-judged-in-Recording-clause-told
returns-in_ok-judged-in-Recording-clause-told g c = rw c.numbered.ensures (rw c.in-Recording.is (none_of _ c.in_ok-judged-in-Recording.judged _ c.in_ok-judged-in-Recording.ensures.told))
