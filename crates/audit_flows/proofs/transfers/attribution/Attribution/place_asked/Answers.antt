use Rattle.std.proofs.Common.{◌≡◌, [], sym, ap, subst, ◌∙◌}
use Rattle.audit_flows.specs.Lines.{begins_write, has_window, live, line, place_asked}
use Rattle.audit_flows.specs.declared.lines.place.Place.TheVariants.{Opens}
use Rattle.audit_flows.proofs.transfers.attribution.Attribution.place_asked.Goals as goal

pub returns-in-None : goal.returns-in-None
returns-in-None c named older d after later seen same =
    ap Opens c.opened.ensures
    ∙ (λ i. Opens (record { number = c.args.self.now.count; client = (seen i).source; asked = (seen i).target; writes = begins_write (sym same i); has_window = has_window (sym same i) }))
    ∙ sym (ap (place_asked c.args.self.now.count d) (subst (λ s. live c.args.now (line s.source older) ≡ []) seen (c.in-None.ensures named older after later)))

pub returns-in-Some : goal.returns-in-Some
returns-in-Some c named older d after later seen same =
    let found = c.in-Some.ensures named older after later in
    c.place_asked.ensures (live c.args.now (line c.args.seen.now.source older)) d found.1 (sym (found.0 ∙ ap (λ s. s.source) seen)) (sym (ap (λ s. s.target) seen)) same
    ∙ ap (λ s. place_asked c.args.self.now.count d (live c.args.now (line s.source older))) seen
