use Rattle.std.proofs.Common.{◌≡◌, true, ◌∷◌, sym, ap, subst, ◌∙◌, is_some}
use Rattle.audit_flows.specs.Lines.{is_between, clock, live, line, IsLineOf, IsLineKept, place_of_talk}
use Rattle.audit_flows.proofs.LinesLemmas.Silences.{live_later}
use Rattle.audit_flows.proofs.TransfersLemmas.AllLines.{on_ok_map, lines_more, live_whole, at_talk}
use Rattle.audit_flows.proofs.transfers.all_lines.note.Goals as goal

pub returns-in-None : goal.returns-in-None
returns-in-None c older d stands later seen between clients some =
    let silent = subst (IsLineKept c.args.client older) (sym c.in-None.ensures.value) (stands c.args.client) in
    absurd (some (live_later (clock older) c.args.now (line c.args.client older) later silent))

pub returns-in-Some : goal.returns-in-Some
returns-in-Some c older d stands later seen between clients some =
    let ps = line c.args.client older in
    let kept = subst (IsLineKept c.args.client older) (sym c.in-Some.ensures.value) (stands c.args.client) in
    let updates = (c.get_mut.follows.holds c.note.new.self).3 (ap is_some (sym c.in-Some.ensures.value)) in
    let between' : is_between c.in-Some.line.now.latest.client c.args.other d ≡ true = ap (λ e. is_between e c.args.other d) kept.0 ∙ between in
    on_ok_map c.note.result
    (λ (more : IsLineOf c.note.new.self (record { datagram = d; moment = c.args.now; place = place_of_talk c.in-Some.line.now.latest.client c.args.talked } ∷ line c.args.client older)).
    lines_more c.args.lines.now (c.get_mut.follows.lender c.note.new.self) (record { datagram = d; moment = c.args.now; place = place_of_talk c.args.client c.args.talked }) older c.args.client c.note.new.self later
    (at_talk c.args.client c.args.talked d c.args.now clients)
    updates.0
    (ap (λ x. x.client) c.note.ensures.client ∙ kept.0)
    (subst (λ e. IsLineOf c.note.new.self (record { datagram = d; moment = c.args.now; place = place_of_talk e c.args.talked } ∷ live c.args.now (line c.args.client older))) kept.0
    (subst (λ qs. IsLineOf c.note.new.self (record { datagram = d; moment = c.args.now; place = place_of_talk c.in-Some.line.now.latest.client c.args.talked } ∷ qs)) (sym (live_whole c.args.now (line c.args.client older) some)) more))
    stands)
    (c.note.ensures.stands (line c.args.client older) d kept.1 seen between')
