use Rattle.std.proofs.Common.{rules, ◌≡◌, None, [], ◌∷◌, refl, sym, ap, subst, ◌∙◌, is_some}
use Rattle.audit_flows.specs.Lines.{clock, live, line, AreLinesOf, IsLineOf, IsLineKept}
use Rattle.audit_flows.specs.declared.lines.place.Place.TheVariants.{Opens}
use Rattle.audit_flows.proofs.LinesLemmas.Silences.{live_kept, live_lost, live_later}
use Rattle.audit_flows.proofs.TransfersLemmas.AllLines.{on_ok_both, lines_more, lines_back}
use Rattle.audit_flows.proofs.transfers.all_lines.open.Goals as goal
use Rattle.audit_flows.proofs.transfers.all_lines.open.Goals.{in_default-via-in-Some+else-is_recent, in_default-via-in-None-1}

pub returns-in-Some : goal.returns-in-Some
returns-in-Some c older d stands later of =
    let kept = subst (IsLineKept c.args.transfer.client older) (sym c.in-Some.ensures.value) (stands c.args.transfer.client) in
    let updates = (c.get_mut.follows.holds c.open.new.self).3 (ap is_some (sym c.in-Some.ensures.value)) in
    let whole = live_kept c.in-Some.line.now c.args.now (line c.args.transfer.client older) kept.1 (sym c.is_recent.ensures ∙ c.if-is_recent.true) in
    on_ok_both c.open.result
    (λ (more : IsLineOf c.open.new.self (record { datagram = d; moment = c.args.now; place = Opens c.args.transfer } ∷ line c.args.transfer.client older)) (latest : c.open.new.self.latest ≡ c.args.transfer).
    lines_more c.args.lines.now (c.get_mut.follows.lender c.open.new.self) (record { datagram = d; moment = c.args.now; place = Opens c.args.transfer }) older c.args.transfer.client c.open.new.self later
    (λ e. refl) updates.0 (ap (λ x. x.client) latest)
    (subst (λ qs. IsLineOf c.open.new.self (record { datagram = d; moment = c.args.now; place = Opens c.args.transfer } ∷ qs)) (sym whole) more)
    stands)
    (c.open.ensures.stands (line c.args.transfer.client older) d kept.1 of (sym kept.0))
    c.open.ensures.latest

pub returns-in_ok-insert-in_default : goal.returns-in_ok-insert-in_default
returns-in_ok-insert-in_default c older d stands later of =
    let silent : AreLinesOf c.in_default.lines older × (live c.args.now (line c.args.transfer.client older) ≡ []) = elim c.in_default.branch [
      | in_default-via-in-Some+else-is_recent w ↦
          let kept = subst (IsLineKept c.args.transfer.client older) (sym w.in-Some.ensures.value) (stands c.args.transfer.client) in
          let updates = (c.get_mut.follows.holds w.in-Some.line.now).3 (ap is_some (sym w.in-Some.ensures.value)) in (
            subst (λ lines. AreLinesOf lines older) (sym w.lines-is) (lines_back c.args.lines.now (c.get_mut.follows.lender w.in-Some.line.now) older c.args.transfer.client w.in-Some.line.now (sym w.in-Some.ensures.value) updates.0 stands),
            live_lost w.in-Some.line.now c.args.now (line c.args.transfer.client older) kept.1 (sym w.is_recent.ensures ∙ w.if-is_recent.false),
          )
      | in_default-via-in-None-1 w ↦
          let none : c.get_mut.result ≡ None = search rules in
          let silent = subst (IsLineKept c.args.transfer.client older) (sym (rw none at c.get_mut.ensures.value)) (stands c.args.transfer.client) in (
            subst (λ lines. AreLinesOf lines older) (sym (w.lines-is ∙ c.get_mut.follows.holds-at-none)) stands,
            live_later (clock older) c.args.now (line c.args.transfer.client older) later silent,
          )
    ] in
    lines_more c.in_default.lines c.insert.new.self (record { datagram = d; moment = c.args.now; place = Opens c.args.transfer }) older c.args.transfer.client c.in_ok-line-in_default.line later
    (λ e. refl) c.in_ok-insert-in_default.ensures.updates.0 (ap (λ x. x.client) c.in_ok-line-in_default.ensures.latest)
    (subst (λ qs. IsLineOf c.in_ok-line-in_default.line (record { datagram = d; moment = c.args.now; place = Opens c.args.transfer } ∷ qs)) (sym silent.1) (c.in_ok-line-in_default.ensures.stands d of))
    silent.0
