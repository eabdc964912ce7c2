use Rattle.tftp_match.proofs.MatchingLemmas.{none_of, of_both, of_client}
use Rattle.tftp_match.proofs.judging.beside_recording.Goals as goal

pub returns-in_ok-judged-in-Text-clause-said : goal.returns-in_ok-judged-in-Text-clause-said
returns-in_ok-judged-in-Text-clause-said g c =
    rw c.numbered.ensures (rw c.in-Text.is (of_client _ c.args.request.now c.args.client.now _ c.in_ok-judged-in-Text.judged c.in_ok-judged-in-Text.ensures.taken))

pub returns-in_ok-judged-in-Text-clause-told : goal.returns-in_ok-judged-in-Text-clause-told
returns-in_ok-judged-in-Text-clause-told g c = rw c.numbered.ensures (rw c.in-Text.is (none_of _ c.in_ok-judged-in-Text.judged _ c.in_ok-judged-in-Text.ensures.told))

pub returns-in_ok-judged-in-Recording-clause-said : goal.returns-in_ok-judged-in-Recording-clause-said
returns-in_ok-judged-in-Recording-clause-said g c =
    rw c.numbered-in-Recording.ensures (rw c.in-Recording.is (of_both _ c.args.request.now c.args.client.now c.in-Recording.server c.in_ok-judged-in-Recording.judged c.in_ok-judged-in-Recording.ensures.taken))

pub returns-in_ok-judged-in-Recording-clause-told : goal.returns-in_ok-judged-in-Recording-clause-told
returns-in_ok-judged-in-Recording-clause-told g c = rw c.numbered-in-Recording.ensures (rw c.in-Recording.is (none_of _ c.in_ok-judged-in-Recording.judged _ c.in_ok-judged-in-Recording.ensures.told))
