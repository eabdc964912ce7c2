use Rattle.std.proofs.Common.{◌≡◌, ℕ, List, [], length, Some, refl, sym, ap, subst, ◌∙◌}
use Rattle.audit_flows.specs.Lines.{Placed, Recorded, live, line, transfer_of, doubts_of, is_near, is_stray_at, newest_of, IsLineOf}
use Rattle.audit_flows.specs.declared.lines.place.Place.{Place}
use Rattle.audit_flows.specs.declared.lines.place.Place.TheVariants.{Opens, Repeats, Talks, Apart, Beside, Nowhere}
use Rattle.audit_flows.specs.declared.lines.doubts.Doubts.{Doubts}
use Rattle.audit_flows.specs.declared.lines.place.Transfer.{Transfer}
use Rattle.audit_flows.proofs.TransfersLemmas.AllLines.{repeats_live}
use Rattle.audit_flows.proofs.TransfersLemmas.Doubting.{none_doubted}
use Rattle.audit_flows.proofs.TransfersLemmas.Ends.{IsWhere, placed_where}
use Rattle.audit_flows.proofs.transfers.attribution.Attribution.doubts.Goals as goal

same_transfer : (x y : Transfer) → Some x ≡ Some y → x ≡ y
same_transfer x y is = cc

-- only a request that opens a transfer is of one where no line goes on
at_first : (d : Recorded) (now : ℕ) (older : List Placed) (place : Place) (x : Transfer) → transfer_of place ≡ Some x → live now (line x.client older) ≡ [] → IsWhere older now d place
    → (r : Doubts) → ((y : Transfer) → place ≡ Opens y → live now (line y.client older) ≡ [] → r ≡ doubts_of (record { datagram = d; moment = now; place = Opens y }) older)
    → r ≡ doubts_of (record { datagram = d; moment = now; place = place }) older
at_first d now older (Opens y) x is silent where_is r opens = opens y refl (ap (λ z. live now (line z.client older)) (same_transfer y x is) ∙ silent)
at_first d now older (Repeats y) x is silent where_is r opens =
    let again = where_is.repeats y refl in
    absurd (repeats_live (length older) d y (live now (line d.source older)) again.1
    (ap (λ e. live now (line e older)) (sym again.0) ∙ ap (λ z. live now (line z.client older)) (same_transfer y x is) ∙ silent))
at_first d now older (Talks y) x is silent where_is r opens = absurd ((where_is.talks y refl).1 (ap (λ z. live now (line z.client older)) (same_transfer y x is) ∙ silent))
at_first d now older (Apart c) x is silent where_is r opens = absurd (cc)
at_first d now older (Beside y) x is silent where_is r opens = absurd (cc)
at_first d now older Nowhere x is silent where_is r opens = absurd (cc)

pub returns-in-None : goal.returns-in-None
returns-in-None c named older d after later seen same placed =
    c.none.ensures ∙ none_doubted d c.args.now older c.args.place.now (sym c.transfer.ensures ∙ c.in-None.is)

pub returns-in-None-line : goal.returns-in-None-line
returns-in-None-line c named older d after later seen same placed =
    at_first d c.args.now older c.args.place.now c.in-Some.transfer (sym c.transfer.ensures ∙ c.in-Some.is) (c.in-None-line.ensures named older after later)
    (subst (IsWhere older c.args.now d) (sym placed) (placed_where named older c.args.now d)) c.doubts_of_first.result
    (λ y is silent. c.doubts_of_first.ensures named older d y after later seen is silent)

pub returns-in-Some-line : goal.returns-in-Some-line
returns-in-Some-line c named older d after later seen same placed =
    c.doubts.ensures d older
    (λ x is. subst (λ (y : Transfer). (c.in-Some-line.line.now.latest.client ≡ y.client) × IsLineOf c.in-Some-line.line.now (live c.args.now (line y.client older)))
    (same_transfer c.in-Some.transfer x (sym c.in-Some.is ∙ c.transfer.ensures ∙ is)) (c.in-Some-line.ensures named older after later))
    (λ x is. sym ((subst (IsWhere older c.args.now d) (sym placed) (placed_where named older c.args.now d)).opens x is).0)
    seen same
    (λ x is. c.is_after_strays-is_after_strays.ensures named older after later
    ∙ ap (λ y. is_near c.args.now (newest_of (is_stray_at y.client) older)) (same_transfer c.in-Some.transfer x (sym c.in-Some.is ∙ c.transfer.ensures ∙ ap transfer_of is)))
