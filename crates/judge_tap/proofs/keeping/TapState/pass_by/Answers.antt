use Rattle.std.proofs.Common.{◌≡◌, ◌∷◌, List, Result, true, inl, inr, sym, subst, ap, ◌∙◌}
use Rattle.std.proofs.lemmas.Bool.{false≢true}
use Rattle.tftp_packet.specs.{Message, Spells}
use Rattle.law_tap.specs.{is_passing, tap_route, transfer_between}
use Rattle.tftp_judge.specs.{PassError}
use Rattle.judge_tap.specs.{FindsAtTap, IsKeptAtTap, IsToldIfBroken, passing_as}
use Rattle.judge_tap.proofs.StateFound.{answer_bad, answer_found, is_from_client, is_from_server, main_found, source_client, source_server}
use Rattle.judge_tap.proofs.TakenBetween.{error_given, error_taken}
use Rattle.judge_tap.proofs.ToldFound.{told_outside}
use Rattle.judge_tap.proofs.keeping.TapState.pass_by.Goals as goal

pub returns-in-Request-clause-finds : goal.returns-in-Request-clause-finds
returns-in-Request-clause-finds g c = λ s earlier now apart lawful kept same taken is.
    let d = passing_as c.args.datagram now in
    let client : is_from_client (tap_route s earlier d) ≡ true = elim c.in-Request.is [ inl at ↦ ap is_from_client (sym is ∙ at) | inr at ↦ ap is_from_client (sym is ∙ at) ] in
    let passing : is_passing (tap_route s earlier d) ≡ true = elim c.in-Request.is [ inl at ↦ ap is_passing (sym is ∙ at) | inr at ↦ ap is_passing (sym is ∙ at) ] in
    main_found s earlier d passing c.pass_message.new.self.transfer c.pass_message.result (c.pass_message.ensures.finds s earlier now apart lawful kept same taken (source_client s earlier d client) passing)

pub returns-in-Request-clause-memory : goal.returns-in-Request-clause-memory
returns-in-Request-clause-memory g c = λ s earlier now apart lawful kept taken is memory.
    let d = passing_as c.args.datagram now in
    let client : is_from_client (tap_route s earlier d) ≡ true = elim c.in-Request.is [ inl at ↦ ap is_from_client (sym is ∙ at) | inr at ↦ ap is_from_client (sym is ∙ at) ] in
    c.pass_message.ensures.memory s earlier now apart lawful kept taken (source_client s earlier d client) memory

pub returns-in-FromServer-clause-finds : goal.returns-in-FromServer-clause-finds
returns-in-FromServer-clause-finds g c = λ s earlier now apart lawful kept same taken is.
    let d = passing_as c.args.datagram now in
    main_found s earlier d (ap is_passing (sym is ∙ c.in-FromServer.is)) c.pass_message-in-FromServer.new.self.transfer c.pass_message-in-FromServer.result
    (c.pass_message-in-FromServer.ensures.finds s earlier now apart lawful kept same taken (source_server s earlier d (ap is_from_server (sym is ∙ c.in-FromServer.is))) (ap is_passing (sym is ∙ c.in-FromServer.is)))

pub returns-in-FromServer-clause-memory : goal.returns-in-FromServer-clause-memory
returns-in-FromServer-clause-memory g c = λ s earlier now apart lawful kept taken is memory.
    c.pass_message-in-FromServer.ensures.memory s earlier now apart lawful kept taken (source_server s earlier (passing_as c.args.datagram now) (ap is_from_server (sym is ∙ c.in-FromServer.is))) memory

pub returns-then-says_unknown_id-clause-finds : goal.returns-then-says_unknown_id-clause-finds
returns-then-says_unknown_id-clause-finds g c = λ s earlier now apart lawful kept same taken is.
    let told = c.says_unknown_id.ensures.0 c.if-says_unknown_id.true in
    answer_found s earlier (passing_as c.args.datagram now) (sym is ∙ c.in-StrayAnswer.is) told.0 (error_taken (transfer_between s earlier) c.args.datagram.payload now c.args.rollover taken 5 told.0 (subst (λ (l : List _). Spells l (Message.Error 5 told.0)) c.as_slice.ensures told.1)) _ kept

pub returns-in-Request-clause-told : goal.returns-in-Request-clause-told
returns-in-Request-clause-told g c = λ s earlier now apart passes sides kept follows taken is told.
    let d = passing_as c.args.datagram now in
    let client : is_from_client (tap_route s earlier d) ≡ true = elim c.in-Request.is [ inl at ↦ ap is_from_client (sym is ∙ at) | inr at ↦ ap is_from_client (sym is ∙ at) ] in
    let passing : is_passing (tap_route s earlier d) ≡ true = elim c.in-Request.is [ inl at ↦ ap is_passing (sym is ∙ at) | inr at ↦ ap is_passing (sym is ∙ at) ] in
    c.pass_message.ensures.told s earlier now apart passes kept follows taken (source_client s earlier d client) passing told

pub returns-in-Request-clause-stands : goal.returns-in-Request-clause-stands
returns-in-Request-clause-stands g c = λ s earlier now apart lawful sides kept taken is told.
    let d = passing_as c.args.datagram now in
    let client : is_from_client (tap_route s earlier d) ≡ true = elim c.in-Request.is [ inl at ↦ ap is_from_client (sym is ∙ at) | inr at ↦ ap is_from_client (sym is ∙ at) ] in
    let passing : is_passing (tap_route s earlier d) ≡ true = elim c.in-Request.is [ inl at ↦ ap is_passing (sym is ∙ at) | inr at ↦ ap is_passing (sym is ∙ at) ] in
    c.pass_message.ensures.stands s earlier now apart lawful kept taken (source_client s earlier d client) passing told

pub returns-in-FromServer-clause-told : goal.returns-in-FromServer-clause-told
returns-in-FromServer-clause-told g c = λ s earlier now apart passes sides kept follows taken is told.
    let d = passing_as c.args.datagram now in
    let route = sym is ∙ c.in-FromServer.is in
    c.pass_message-in-FromServer.ensures.told s earlier now apart passes kept follows taken (source_server s earlier d (ap is_from_server route)) (ap is_passing route) told

pub returns-in-FromServer-clause-stands : goal.returns-in-FromServer-clause-stands
returns-in-FromServer-clause-stands g c = λ s earlier now apart lawful sides kept taken is told.
    let d = passing_as c.args.datagram now in
    let route = sym is ∙ c.in-FromServer.is in
    c.pass_message-in-FromServer.ensures.stands s earlier now apart lawful kept taken (source_server s earlier d (ap is_from_server route)) (ap is_passing route) told

pub returns-in-Stray-clause-told : goal.returns-in-Stray-clause-told
returns-in-Stray-clause-told g c = λ s earlier now apart passes sides kept follows taken is told.
    told_outside s apart earlier (passing_as c.args.datagram now) passes.0 (ap is_passing (sym is ∙ c.in-Stray.is)) c.args.self.now.told told

pub returns-then-says_unknown_id-clause-told : goal.returns-then-says_unknown_id-clause-told
returns-then-says_unknown_id-clause-told g c = λ s earlier now apart passes sides kept follows taken is told.
    told_outside s apart earlier (passing_as c.args.datagram now) passes.0 (ap is_passing (sym is ∙ c.in-StrayAnswer.is)) c.args.self.now.told told

pub returns-in-StrayAnswer-clause-stands : goal.returns-in-StrayAnswer-clause-stands
returns-in-StrayAnswer-clause-stands g c = λ s earlier now apart lawful sides kept taken is told.
    subst (λ (r : Result (Unit {0}) PassError). IsToldIfBroken s earlier (passing_as c.args.datagram now) r c.refuse.new.self.stands) (sym c.refuse.ensures.refuses) (c.refuse.ensures.stands s earlier now apart lawful sides kept told taken)

pub returns-in-StrayAnswer-clause-finds : goal.returns-in-StrayAnswer-clause-finds
returns-in-StrayAnswer-clause-finds g c = λ s earlier now apart lawful kept same taken is.
    let d = passing_as c.args.datagram now in
    subst (λ (r : Result (Unit {0}) PassError). FindsAtTap s earlier d (IsKeptAtTap s (transfer_between s (d ∷ earlier)) c.refuse.new.self.transfer) r) (sym c.refuse.ensures.refuses)
    (answer_bad s earlier d (sym is ∙ c.in-StrayAnswer.is) (λ text spells. false≢true (sym c.if-says_unknown_id.false
    ∙ c.says_unknown_id.ensures.1 (text, subst (λ (l : List _). Spells l (Message.Error 5 text)) (sym c.as_slice.ensures) (error_given (transfer_between s earlier) c.args.datagram.payload now c.args.rollover taken 5 text spells)))))
