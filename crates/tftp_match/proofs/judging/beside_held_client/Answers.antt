use Rattle.std.proofs.Common.{◌∷◌, [], refl, subst, sym}
use Rattle.tftp_match.specs.Captures.{IsFirstPayload}
use Rattle.tftp_match.proofs.MatchingLemmas.{on_none, on_some}
use Rattle.tftp_match.proofs.judging.beside_held_client.Goals as goal

pub returns-clause-taken : goal.returns-clause-taken
returns-clause-taken g c recorded first =
    on_some c.judge_sides.result _ _
    (λ j p. (
      (c.asked.result ∷ [], c.args.asked.now, ((c.asked.result, refl, c.asked.ensures.number, λ several. subst (IsFirstPayload c.args.client.now.bytes.items) (sym c.asked.ensures.payload) (first several)), recorded), p.0),
      p.1,
    )) c.judge_sides.ensures.taken

pub returns-clause-untaken : goal.returns-clause-untaken
returns-clause-untaken g c recorded first =
    on_none c.judge_sides.result _ _
    (λ told. (c.asked.result ∷ [], c.args.asked.now, ((c.asked.result, refl, c.asked.ensures.number, λ several. subst (IsFirstPayload c.args.client.now.bytes.items) (sym c.asked.ensures.payload) (first several)), recorded), told))
    c.judge_sides.ensures.untaken
