use Rattle.std.proofs.Common.{◌≡◌, true, ◌∷◌, length, Some, refl, sym, ap, subst, ◌∙◌, OnOk}
use Rattle.audit_flows.specs.Lines.{is_between, live, line, place_asked, AreLinesOf, other_end}
use Rattle.audit_flows.specs.declared.lines.place.Place.{Place}
use Rattle.audit_flows.specs.declared.lines.place.Transfer.{Transfer}
use Rattle.audit_flows.proofs.TransfersLemmas.AllLines.{lines_same}
use Rattle.audit_flows.proofs.TransfersLemmas.Ends.{IsWhere, placed_where}
use Rattle.audit_flows.proofs.TransfersLemmas.Serving.{between_other}
use Rattle.audit_flows.proofs.transfers.attribution.Attribution.keep_line.Goals as goal

pub returns-in-Opens-clause-lines : goal.returns-in-Opens-clause-lines
returns-in-Opens-clause-lines c named older d after later seen same placed =
    let ends = (subst (IsWhere older c.args.now d) (sym placed) (placed_where named older c.args.now d)).opens c.in-Opens.transfer c.in-Opens.is in
    subst (λ q. OnOk c.open.result (AreLinesOf c.open.new.lines (record { datagram = d; moment = c.args.now; place = q } ∷ older))) (sym c.in-Opens.is)
    (c.open.ensures older d after.lines later (record { source = sym ends.0; target = sym ends.1; same = same; passed = sym (ap (λ s. s.time) seen) }))

pub returns-in-Repeats-clause-lines : goal.returns-in-Repeats-clause-lines
returns-in-Repeats-clause-lines c named older d after later seen same placed =
    let again = (subst (IsWhere older c.args.now d) (sym placed) (placed_where named older c.args.now d)).repeats c.in-Repeats.transfer c.in-Repeats.is in
    subst (λ q. OnOk c.repeat.result (AreLinesOf c.repeat.new.lines (record { datagram = d; moment = c.args.now; place = q } ∷ older))) (sym c.in-Repeats.is)
    (c.repeat.ensures older d (length older) c.in-Repeats.transfer after.lines later (sym again.0) (sym (ap (λ s. s.time) seen)) refl
    (ap (λ e. place_asked (length older) d (live c.args.now (line e older))) again.0 ∙ again.1))

client_of_some : (x y : Transfer) → Some x ≡ Some y → y.client ≡ x.client
client_of_some x y is = let same : x ≡ y = cc in ap (λ z. z.client) (sym same)

pub returns-in-Talks-clause-lines : goal.returns-in-Talks-clause-lines
returns-in-Talks-clause-lines c named older d after later seen same placed =
    let ends = (subst (IsWhere older c.args.now d) (sym placed) (placed_where named older c.args.now d)).talks c.in-Talks.transfer c.in-Talks.is in
    let between : is_between c.in-Talks.transfer.client c.other_end-other.result d ≡ true =
    ap (λ o. is_between c.in-Talks.transfer.client o d) (c.other_end-other.ensures ∙ ap (other_end c.in-Talks.transfer.client) seen) ∙ between_other c.in-Talks.transfer.client d ends.0 in
    subst (λ q. OnOk c.note.result (AreLinesOf c.note.new.lines (record { datagram = d; moment = c.args.now; place = q } ∷ older))) (sym c.in-Talks.is)
    (c.note.ensures older d after.lines later seen between (λ x e. client_of_some c.in-Talks.transfer x e) ends.1)

pub returns-in-Apart-clause-lines : goal.returns-in-Apart-clause-lines
returns-in-Apart-clause-lines c named older d after later seen same placed =
    let ends = (subst (IsWhere older c.args.now d) (sym placed) (placed_where named older c.args.now d)).apart c.in-Apart.client c.in-Apart.is in
    let between : is_between c.in-Apart.client c.other_end-other-in-Apart.result d ≡ true =
    ap (λ o. is_between c.in-Apart.client o d) (c.other_end-other-in-Apart.ensures ∙ ap (other_end c.in-Apart.client) seen) ∙ between_other c.in-Apart.client d ends.0 in
    subst (λ q. OnOk c.note-in-Apart.result (AreLinesOf c.note-in-Apart.new.lines (record { datagram = d; moment = c.args.now; place = q } ∷ older))) (sym c.in-Apart.is)
    (c.note-in-Apart.ensures older d after.lines later seen between (λ x e. absurd (cc)) ends.1)

pub returns-in-Beside-clause-lines : goal.returns-in-Beside-clause-lines
returns-in-Beside-clause-lines c named older d after later seen same placed =
    subst (λ q. AreLinesOf c.args.self.now.lines (record { datagram = d; moment = c.args.now; place = q } ∷ older)) (sym c.in-Beside.is)
    (lines_same c.args.self.now.lines (record { datagram = d; moment = c.args.now; place = Place.Beside c.in-Beside.field-0 }) older later (λ e. refl) after.lines)

pub returns-in-Nowhere-clause-lines : goal.returns-in-Nowhere-clause-lines
returns-in-Nowhere-clause-lines c named older d after later seen same placed =
    subst (λ q. AreLinesOf c.args.self.now.lines (record { datagram = d; moment = c.args.now; place = q } ∷ older)) (sym c.in-Nowhere.is)
    (lines_same c.args.self.now.lines (record { datagram = d; moment = c.args.now; place = Place.Nowhere }) older later (λ e. refl) after.lines)
