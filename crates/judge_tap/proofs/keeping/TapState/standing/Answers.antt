use Rattle.std.proofs.Common.{◌≡◌, List, true, inl, inr, sym, subst, ap, ◌∙◌}
use Rattle.tftp_packet.specs.{Message, Spells, opcode_of}
use Rattle.law_model.specs.{PortRule}
use Rattle.law_end.specs.declared.rule.Rule.TheVariants as rule
use Rattle.law_tap.specs.{IsTakenBetween, TapSides, is_passing, lossy_route, transfer_between}
use Rattle.judge_tap.specs.{TapState, passing_as}
use Rattle.judge_tap.proofs.LossyFound.{is_from_client, is_from_server, lossy_client, lossy_server}
use Rattle.judge_tap.proofs.TakenBetween.{error_given, error_taken, high_within, opcode_taken}
use Rattle.judge_tap.proofs.ToldFound.{answer_told, kept_heard, stray_told}
use Rattle.judge_tap.proofs.keeping.TapState.standing.Goals as goal

pub returns-in-Request : goal.returns-in-Request
returns-in-Request g c = λ s earlier now apart passes sides kept told taken.
    let d = passing_as c.args.datagram.now now in
    let same : c.self.inside.sides ≡ s = ap (λ (k : TapState). k.sides) c.self.view_is ∙ sides in
    let route = sym (ap (λ (x : TapSides). lossy_route x d) same) ∙ sym (c.route_with_losses-route.ensures d.payload (opcode_taken (transfer_between s earlier) c.args.datagram.now.payload now c.args.rollover taken ∙ sym (c.opcode.ensures ∙ ap opcode_of c.as_slice-payload.ensures))) in
    let client : is_from_client (lossy_route s d) ≡ true = elim c.in-Request.is [ inl at ↦ ap is_from_client (route ∙ at) | inr at ↦ ap is_from_client (route ∙ at) ] in
    let passing : is_passing (lossy_route s d) ≡ true = elim c.in-Request.is [ inl at ↦ ap is_passing (route ∙ at) | inr at ↦ ap is_passing (route ∙ at) ] in
    let passed = transfer_between s earlier in
    let heard = kept_heard s passed c.args.self.now.transfer kept in
    let high = c.highest.ensures s passed kept in
    let read = c.read_taken-read.ensures passed now high (high_within s apart earlier passes c.highest.result high) (subst (λ l. IsTakenBetween c.args.rollover passed l now) (sym c.as_slice-payload.ensures) taken) in
    c.standing_said.ensures s earlier d apart passes heard told read (lossy_client s d client) passing

pub returns-in-FromServer : goal.returns-in-FromServer
returns-in-FromServer g c = λ s earlier now apart passes sides kept told taken.
    let d = passing_as c.args.datagram.now now in
    let same : c.self.inside.sides ≡ s = ap (λ (k : TapState). k.sides) c.self.view_is ∙ sides in
    let route = sym (ap (λ (x : TapSides). lossy_route x d) same) ∙ sym (c.route_with_losses-route.ensures d.payload (opcode_taken (transfer_between s earlier) c.args.datagram.now.payload now c.args.rollover taken ∙ sym (c.opcode.ensures ∙ ap opcode_of c.as_slice-payload.ensures))) ∙ c.in-FromServer.is in
    let passed = transfer_between s earlier in
    let heard = kept_heard s passed c.args.self.now.transfer kept in
    let high = c.highest.ensures s passed kept in
    let read = c.read_taken-read.ensures passed now high (high_within s apart earlier passes c.highest.result high) (subst (λ l. IsTakenBetween c.args.rollover passed l now) (sym c.as_slice-payload.ensures) taken) in
    c.standing_said-in-FromServer.ensures s earlier d apart passes heard told read (lossy_server s d (ap is_from_server route)) (ap is_passing route)

pub returns-in-Stray : goal.returns-in-Stray
returns-in-Stray g c = λ s earlier now apart passes sides kept told taken.
    let d = passing_as c.args.datagram.now now in
    let same : c.self.inside.sides ≡ s = ap (λ (k : TapState). k.sides) c.self.view_is ∙ sides in
    stray_told s earlier d (sym (ap (λ (x : TapSides). lossy_route x d) same) ∙ sym (c.route_with_losses-route.ensures d.payload (opcode_taken (transfer_between s earlier) c.args.datagram.now.payload now c.args.rollover taken ∙ sym (c.opcode.ensures ∙ ap opcode_of c.as_slice-payload.ensures))) ∙ c.in-Stray.is)

pub returns-in-StrayAnswer : goal.returns-in-StrayAnswer
returns-in-StrayAnswer g c = λ s earlier now apart passes sides kept told taken.
    let d = passing_as c.args.datagram.now now in
    let same : c.self.inside.sides ≡ s = ap (λ (k : TapState). k.sides) c.self.view_is ∙ sides in
    answer_told s earlier d (sym (ap (λ (x : TapSides). lossy_route x d) same) ∙ sym (c.route_with_losses-route.ensures d.payload (opcode_taken (transfer_between s earlier) c.args.datagram.now.payload now c.args.rollover taken ∙ sym (c.opcode.ensures ∙ ap opcode_of c.as_slice-payload.ensures))) ∙ c.in-StrayAnswer.is) c.says_unknown_id.result
    (λ is. let said = c.says_unknown_id.ensures.0 is in (said.0, error_taken (transfer_between s earlier) c.args.datagram.now.payload now c.args.rollover taken 5 said.0 (subst (λ (l : List _). Spells l (Message.Error 5 said.0)) c.as_slice-payload.ensures said.1)))
    (λ (text, spells). c.says_unknown_id.ensures.1 (text, subst (λ (l : List _). Spells l (Message.Error 5 text)) (sym c.as_slice-payload.ensures) (error_given (transfer_between s earlier) c.args.datagram.now.payload now c.args.rollover taken 5 text spells)))

pub returns-in-ForeignPort : goal.returns-in-ForeignPort
returns-in-ForeignPort g c = λ s earlier now apart passes sides kept told taken.
    let d = passing_as c.args.datagram.now now in
    let same : c.self.inside.sides ≡ s = ap (λ (k : TapState). k.sides) c.self.view_is ∙ sides in
    (rule.Port PortRule.Foreign, inl (sym (ap (λ (x : TapSides). lossy_route x d) same) ∙ sym (c.route_with_losses-route.ensures d.payload (opcode_taken (transfer_between s earlier) c.args.datagram.now.payload now c.args.rollover taken ∙ sym (c.opcode.ensures ∙ ap opcode_of c.as_slice-payload.ensures))) ∙ c.in-ForeignPort.is))

pub returns-in-WrongPort : goal.returns-in-WrongPort
returns-in-WrongPort g c = λ s earlier now apart passes sides kept told taken.
    let d = passing_as c.args.datagram.now now in
    let same : c.self.inside.sides ≡ s = ap (λ (k : TapState). k.sides) c.self.view_is ∙ sides in
    (rule.Port PortRule.Wrong, inl (sym (ap (λ (x : TapSides). lossy_route x d) same) ∙ sym (c.route_with_losses-route.ensures d.payload (opcode_taken (transfer_between s earlier) c.args.datagram.now.payload now c.args.rollover taken ∙ sym (c.opcode.ensures ∙ ap opcode_of c.as_slice-payload.ensures))) ∙ c.in-WrongPort.is))

pub returns-in-NoStrayAnswer : goal.returns-in-NoStrayAnswer
returns-in-NoStrayAnswer g c = λ s earlier now apart passes sides kept told taken.
    let d = passing_as c.args.datagram.now now in
    let same : c.self.inside.sides ≡ s = ap (λ (k : TapState). k.sides) c.self.view_is ∙ sides in
    (rule.Port PortRule.BadAnswer, inl (inl (sym (ap (λ (x : TapSides). lossy_route x d) same) ∙ sym (c.route_with_losses-route.ensures d.payload (opcode_taken (transfer_between s earlier) c.args.datagram.now.payload now c.args.rollover taken ∙ sym (c.opcode.ensures ∙ ap opcode_of c.as_slice-payload.ensures))) ∙ c.in-NoStrayAnswer.is)))
