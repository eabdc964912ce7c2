use Rattle.std.proofs.Common.{◌≡◌, ◌∷◌, sym, ap, subst, ◌∙◌, is_some}
use Rattle.audit_flows.specs.Lines.{same_endpoint, clock, live, line, place_asked, IsLineOf, IsLineKept}
use Rattle.audit_flows.specs.declared.lines.place.Place.TheVariants.{Repeats}
use Rattle.audit_flows.proofs.LinesLemmas.Silences.{live_later}
use Rattle.audit_flows.proofs.TransfersLemmas.AllLines.{on_ok_map, lines_more, live_whole, repeats_live}
use Rattle.audit_flows.proofs.transfers.all_lines.repeat.Goals as goal

pub returns-in-None : goal.returns-in-None
returns-in-None c older d number x stands later from passed client is =
    let silent = subst (IsLineKept c.args.client older) (sym c.in-None.ensures.value) (stands c.args.client) in
    absurd (repeats_live number d x (live c.args.now (line c.args.client older)) is (live_later (clock older) c.args.now (line c.args.client older) later silent))

pub returns-in-Some : goal.returns-in-Some
returns-in-Some c older d number x stands later from passed client is =
    let kept = subst (IsLineKept c.args.client older) (sym c.in-Some.ensures.value) (stands c.args.client) in
    let updates = (c.get_mut.follows.holds c.repeat.new.self).3 (ap is_some (sym c.in-Some.ensures.value)) in
    let whole : live c.args.now (line c.args.client older) ≡ line c.args.client older = live_whole c.args.now (line c.args.client older) (repeats_live number d x (live c.args.now (line c.args.client older)) is) in
    on_ok_map c.repeat.result
    (λ (more : IsLineOf c.repeat.new.self (record { datagram = d; moment = c.args.now; place = Repeats x } ∷ line c.args.client older)).
    lines_more c.args.lines.now (c.get_mut.follows.lender c.repeat.new.self) (record { datagram = d; moment = c.args.now; place = Repeats x }) older c.args.client c.repeat.new.self later
    (λ e. ap (λ k. same_endpoint k e) client)
    updates.0
    (ap (λ y. y.client) c.repeat.ensures.latest ∙ kept.0)
    (subst (λ qs. IsLineOf c.repeat.new.self (record { datagram = d; moment = c.args.now; place = Repeats x } ∷ qs)) (sym whole) more)
    stands)
    (c.repeat.ensures.stands (line c.args.client older) d number x kept.1 (from ∙ sym kept.0) passed (sym (ap (place_asked number d) whole) ∙ is))
