use Rattle.std.proofs.Common.{◌≡◌, List, true, inl, inr, sym, subst, ap, ◌∙◌}
use Rattle.std.proofs.lemmas.Bool.{true≢false}
use Rattle.tftp_packet.specs.{Message, Spells, opcode_of}
use Rattle.law_tap.specs.{TapSides, is_passing, lossy_route}
use Rattle.judge_tap.specs.{FindsWithLosses, LossyState, passing_of}
use Rattle.judge_tap.proofs.LossyFound.{answer_found, is_from_client, is_from_server, lossy_client, lossy_server, stray_found}
use Rattle.judge_tap.proofs.lossy_state.LossyState.pass.Goals as goal
use Rattle.judge_tap.proofs.lossy_state.LossyState.pass.Goals.{then-says_unknown_id, else-says_unknown_id}

pub returns-in-Request : goal.returns-in-Request
returns-in-Request c = λ s earlier apart kept.
    let d = passing_of c.args.datagram.now in
    let sides : c.self.inside.sides ≡ s = ap (λ (k : LossyState). k.sides) c.self.view_is ∙ kept.sides in
    let route = sym (ap (λ (x : TapSides). lossy_route x d) sides) ∙ sym (c.route_with_losses-route.ensures d.payload (sym (c.opcode.ensures ∙ ap opcode_of c.as_slice-payload.ensures))) in
    let client : is_from_client (lossy_route s d) ≡ true = elim c.in-Request.is [ inl at ↦ ap is_from_client (route ∙ at) | inr at ↦ ap is_from_client (route ∙ at) ] in
    let passing : is_passing (lossy_route s d) ≡ true = elim c.in-Request.is [ inl at ↦ ap is_passing (route ∙ at) | inr at ↦ ap is_passing (route ∙ at) ] in
    c.pass_message.ensures s earlier d apart kept (sym c.as_slice-payload.ensures) (lossy_client s d client) passing

pub returns-in-FromServer : goal.returns-in-FromServer
returns-in-FromServer c = λ s earlier apart kept.
    let d = passing_of c.args.datagram.now in
    let sides : c.self.inside.sides ≡ s = ap (λ (k : LossyState). k.sides) c.self.view_is ∙ kept.sides in
    let route = sym (ap (λ (x : TapSides). lossy_route x d) sides) ∙ sym (c.route_with_losses-route.ensures d.payload (sym (c.opcode.ensures ∙ ap opcode_of c.as_slice-payload.ensures))) ∙ c.in-FromServer.is in
    c.pass_message-in-FromServer.ensures s earlier d apart kept (sym c.as_slice-payload.ensures) (lossy_server s d (ap is_from_server route)) (ap is_passing route)

pub returns-in-Stray : goal.returns-in-Stray
returns-in-Stray c = λ s earlier apart kept.
    let d = passing_of c.args.datagram.now in
    let sides : c.self.inside.sides ≡ s = ap (λ (k : LossyState). k.sides) c.self.view_is ∙ kept.sides in
    let route = sym (ap (λ (x : TapSides). lossy_route x d) sides) ∙ sym (c.route_with_losses-route.ensures d.payload (sym (c.opcode.ensures ∙ ap opcode_of c.as_slice-payload.ensures))) ∙ c.in-Stray.is in
    stray_found s earlier d route c.args.self.now kept

pub returns-after-says_unknown_id : goal.returns-after-says_unknown_id
returns-after-says_unknown_id c = λ s earlier apart kept.
    let d = passing_of c.args.datagram.now in
    let sides : c.self.inside.sides ≡ s = ap (λ (k : LossyState). k.sides) c.self.view_is ∙ kept.sides in
    let route = sym (ap (λ (x : TapSides). lossy_route x d) sides) ∙ sym (c.route_with_losses-route.ensures d.payload (sym (c.opcode.ensures ∙ ap opcode_of c.as_slice-payload.ensures))) ∙ c.in-StrayAnswer.is in
    elim c.if-says_unknown_id.branch [
      | then-says_unknown_id w ↦
          let told = c.says_unknown_id.ensures.0 w.if-says_unknown_id.true in
          subst (FindsWithLosses s earlier d _) (sym w.result-is) (answer_found s earlier d route told.0 (subst (λ (l : List _). Spells l (Message.Error 5 told.0)) c.as_slice-payload.ensures told.1) c.args.self.now kept)
      | else-says_unknown_id w ↦ subst (FindsWithLosses s earlier d _) (sym w.result-is) (inl (inr (
        route,
        λ text spells. true≢false (sym (c.says_unknown_id.ensures.1 (text, subst (λ (l : List _). Spells l (Message.Error 5 text)) (sym c.as_slice-payload.ensures) spells)) ∙ w.if-says_unknown_id.false),
      )))
    ]
