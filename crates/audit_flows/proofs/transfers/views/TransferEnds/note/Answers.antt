use Rattle.std.proofs.Common.{◌≡◌, false, Option, refl, sym, ap, ◌∙◌}
use Rattle.audit_flows.specs.Lines.{Placed, is_of}
use Rattle.audit_flows.specs.declared.lines.endpoint.Endpoint.{Endpoint}
use Rattle.audit_flows.specs.declared.transfers.views.TransferEnds.{TransferEnds}
use Rattle.audit_flows.proofs.TransfersLemmas.OwnDatagrams.{comes_none, goes_none, none_passes, of_place, opens_none}
use Rattle.audit_flows.proofs.transfers.views.TransferEnds.note.Goals as goal

-- a datagram of no matter which time, with this place, these ends and this payload
pub returns-clause-others : goal.returns-clause-others
returns-clause-others c p belongs off =
    let t : TransferEnds = c.args.self.now in
    let q : Placed = record { datagram = record { time = 0; source = c.args.source; target = c.args.target; payload = c.args.payload.now; is_spelled = false }; moment = 0; place = c.args.place.now } in
    let other : is_of t.number q ≡ false = of_place t.number p q (sym belongs) ∙ off in
    let asked : c.first-self.result ≡ t.asked = c.first-self.ensures ∙ none_passes t.asked c.args.target (c.is_opened-opens.ensures q refl ∙ opens_none t.number q other) in
    let answered : c.first-self-2.result ≡ t.answered = c.first-self-2.ensures ∙ none_passes t.answered c.args.source (c.comes-comes.ensures q refl refl ∙ comes_none t.number q other) in
    let went_on : c.first-self-3.result ≡ t.went_on = c.first-self-3.ensures ∙ none_passes t.went_on c.args.target (c.goes_on-goes_on.ensures q refl refl refl ∙ goes_none t.number q other) in
    ap (λ (o : Option Endpoint). record { number = t.number; asked = o; answered = c.first-self-2.result; went_on = c.first-self-3.result }) asked
    ∙ ap (λ (o : Option Endpoint). record { number = t.number; asked = t.asked; answered = o; went_on = c.first-self-3.result }) answered
    ∙ ap (λ (o : Option Endpoint). record { number = t.number; asked = t.asked; answered = t.answered; went_on = o }) went_on
