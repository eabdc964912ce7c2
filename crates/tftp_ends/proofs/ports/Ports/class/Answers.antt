use Rattle.std.proofs.Common.{◌≡◌, ◌∙◌, List, Err, sym, ap, subst, ◌∷◌}
use Rattle.std.proofs.lemmas.Result.{err_from_is_err_and}
use Rattle.tftp_packet.specs.Hosts.{Datagram, Header, peer_of}
use Rattle.tftp_ends.specs.{StandsFor, HasNumbers, HasNoRequest, among_all, answer_of, is_noted}
use Rattle.law_model.specs.Rules.{route_of}
use Rattle.tftp_ends.proofs.KeptSteps.{passing_is, route_takes_none, same_numbers, new_stray}
use Rattle.tftp_ends.proofs.ports.Ports.class.Goals as goal
use Rattle.tftp_ends.proofs.ports.Ports.class.Goals.{After-route}

-- the route of the datagram with these numbers
routed : (c : After-route) (h : Header) (earlier : List Datagram) (d : Datagram) → StandsFor c.args.self.now h earlier
    → HasNumbers d c.args.dir c.args.local c.args.host.now c.args.remote c.args.opcode → c.route.result ≡ answer_of (route_of h earlier d)
routed c h earlier d stands has =
    c.route.ensures h earlier d.payload stands has.opcode ∙ ap (λ x. answer_of (route_of h earlier x)) (same_numbers d c.args.dir c.args.local c.args.host.now c.args.remote c.args.opcode has)

pub returns-in_err-route-clause-answer : goal.returns-in_err-route-clause-answer
returns-in_err-route-clause-answer c h earlier d stands has ample =
    let p = err_from_is_err_and c.from_residual.result c.from_residual.ensures.1 in
    p.1 ∙ ap Err p.2 ∙ sym c.in_err-route.was ∙ routed (goal.at.returns-in_err-route-clause-answer c).After-route h earlier d stands has

pub returns-in_err-route-clause-memory : goal.returns-in_err-route-clause-memory
returns-in_err-route-clause-memory c h earlier d stands has want =
    let p = err_from_is_err_and c.from_residual.result c.from_residual.ensures.1 in
    absurd (route_takes_none (route_of h earlier d) (sym want ∙ p.1 ∙ ap Err p.2 ∙ sym c.in_err-route.was ∙ routed (goal.at.returns-in_err-route-clause-memory c).After-route h earlier d stands has))

pub returns-in_err-keep-clause-memory : goal.returns-in_err-keep-clause-memory
returns-in_err-keep-clause-memory c h earlier d stands has want =
    let same = same_numbers d c.args.dir c.args.local c.args.host.now c.args.remote c.args.opcode has in
    let route = passing_is (route_of h earlier d) c.in_ok-route.route (sym c.in_ok-route.was ∙ routed (goal.at.returns-in_err-keep-clause-memory c).After-route h earlier d stands has) in
    let absent = c.in_err-keep.ensures.absent in (
      sym route ∙ ap among_all absent.0,
      new_stray h c.args.self.now earlier stands d (sym (ap among_all absent.0) ∙ route) (ap (λ x. is_noted (peer_of x) c.args.self.now.strays) (sym same) ∙ absent.1),
    )

pub returns-clause-answer : goal.returns-clause-answer
returns-clause-answer c h earlier d stands has ample = sym c.in_ok-route.was ∙ routed (goal.at.returns-clause-answer c).After-route h earlier d stands has

pub returns-clause-passes : goal.returns-clause-passes
returns-clause-passes c h earlier d stands has =
    let same = same_numbers d c.args.dir c.args.local c.args.host.now c.args.remote c.args.opcode has in
    let route = passing_is (route_of h earlier d) c.in_ok-route.route (sym c.in_ok-route.was ∙ routed (goal.at.returns-clause-passes c).After-route h earlier d stands has) in
    subst (λ x. (HasNoRequest h earlier x → ⊥) → StandsFor c.keep.new.self h (x ∷ earlier)) same
    (c.in_ok-keep.ensures.stands h earlier d.payload stands (route ∙ ap (route_of h earlier) (sym same)))
