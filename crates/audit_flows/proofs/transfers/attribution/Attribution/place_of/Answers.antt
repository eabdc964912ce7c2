use Rattle.std.proofs.Common.{◌≡◌, Bool, true, false, length, sym, ap, ◌∙◌, if◌then◌else◌}
use Rattle.audit_flows.specs.Lines.{live, line, place_asked}
use Rattle.audit_flows.specs.declared.lines.place.Place.{Place}
use Rattle.audit_flows.specs.Transfers.{is_nowhere, at_client, beside}
use Rattle.audit_flows.proofs.transfers.attribution.Attribution.place_of.Goals as goal

asked : (is : Bool) (one two three : Place) (nowhere : Bool) → is ≡ true → one ≡ (if is then one else if nowhere then two else three)
asked is one two three nowhere e = sym (ap (λ b. if b then one else if nowhere then two else three) e)

two_is : (is nowhere : Bool) (one two three : Place) → is ≡ false → nowhere ≡ true → two ≡ (if is then one else if nowhere then two else three)
two_is is nowhere one two three e f = sym (λ i. if e i then one else if f i then two else three)

three_is : (is nowhere : Bool) (one two three : Place) → is ≡ false → nowhere ≡ false → three ≡ (if is then one else if nowhere then two else three)
three_is is nowhere one two three e f = sym (λ i. if e i then one else if f i then two else three)

pub returns-then-asks : goal.returns-then-asks
returns-then-asks c named older d after later seen same spelled =
    c.place_asked.ensures named older d after later seen same
    ∙ ap (λ n. place_asked n d (live c.args.now (line d.source older))) after.count
    ∙ asked _ (place_asked (length older) d (live c.args.now (line d.source older))) (beside named older c.args.now d) (at_client older c.args.now d) (is_nowhere (at_client older c.args.now d))
    (sym (c.asks.ensures named older d after later seen spelled) ∙ c.if-asks.true)

pub returns-then-is_nowhere : goal.returns-then-is_nowhere
returns-then-is_nowhere c named older d after later seen same spelled =
    c.beside.ensures named older d after later seen
    ∙ two_is _ (is_nowhere (at_client older c.args.now d)) (place_asked (length older) d (live c.args.now (line d.source older))) (beside named older c.args.now d) (at_client older c.args.now d)
    (sym (c.asks.ensures named older d after later seen spelled) ∙ c.if-asks.false)
    (sym (c.is_nowhere.ensures ∙ ap is_nowhere (c.at_client-place.ensures named older d after later seen)) ∙ c.if-is_nowhere.true)

pub returns-else-is_nowhere : goal.returns-else-is_nowhere
returns-else-is_nowhere c named older d after later seen same spelled =
    c.at_client-place.ensures named older d after later seen
    ∙ three_is _ (is_nowhere (at_client older c.args.now d)) (place_asked (length older) d (live c.args.now (line d.source older))) (beside named older c.args.now d) (at_client older c.args.now d)
    (sym (c.asks.ensures named older d after later seen spelled) ∙ c.if-asks.false)
    (sym (c.is_nowhere.ensures ∙ ap is_nowhere (c.at_client-place.ensures named older d after later seen)) ∙ c.if-is_nowhere.false)
