use Rattle.std.proofs.Common.{◌≡◌, true, false, ◌∷◌, Some, cond, refl, sym, ap, subst, ◌∙◌}
use Rattle.audit_flows.specs.Lines.{same_endpoint}
use Rattle.audit_flows.specs.declared.lines.place.Place.TheVariants.{Opens, Repeats, Talks, Apart, Beside, Nowhere}
use Rattle.audit_flows.specs.Transfers.{last_served, AreServed}
use Rattle.audit_flows.proofs.TransfersLemmas.Serving.{served_there, served_elsewhere, served_same, served_more}
use Rattle.audit_flows.proofs.transfers.attribution.keep_served.Goals as goal

pub returns-in_ok-insert-in-Talks-clause-served : goal.returns-in_ok-insert-in-Talks-clause-served
returns-in_ok-insert-in-Talks-clause-served c older d stands later seen =
    let there : same_endpoint d.target c.in-Talks.transfer.client ≡ true = sym (ap (λ s. same_endpoint s.target c.in-Talks.transfer.client) seen) ∙ sym c.eq.ensures ∙ c.if-eq.true in
    subst (λ q. AreServed c.insert.new.self (record { datagram = d; moment = c.args.now; place = q } ∷ older)) (sym c.in-Talks.is)
    (served_more c.args.served.now c.insert.new.self (record { datagram = d; moment = c.args.now; place = Talks c.in-Talks.transfer }) older c.args.seen.now.source (record { transfer = c.in-Talks.transfer; moment = c.args.now }) later
    (λ o. subst (λ e. last_served o (record { datagram = d; moment = c.args.now; place = Talks c.in-Talks.transfer } ∷ older) ≡ cond (same_endpoint e o) (Some (record { transfer = c.in-Talks.transfer; moment = c.args.now })) (last_served o older))
    (sym (ap (λ s. s.source) seen)) (served_there o d c.in-Talks.transfer c.args.now (last_served o older) there))
    c.in_ok-insert-in-Talks.ensures.updates.0 stands)

pub returns-else-eq-clause-served : goal.returns-else-eq-clause-served
returns-else-eq-clause-served c older d stands later seen =
    let off : same_endpoint d.target c.in-Talks.transfer.client ≡ false = sym (ap (λ s. same_endpoint s.target c.in-Talks.transfer.client) seen) ∙ sym c.eq.ensures ∙ c.if-eq.false in
    subst (λ q. AreServed c.args.served.now (record { datagram = d; moment = c.args.now; place = q } ∷ older)) (sym c.in-Talks.is)
    (served_same c.args.served.now (record { datagram = d; moment = c.args.now; place = Talks c.in-Talks.transfer }) older later
    (λ o. served_elsewhere o d c.in-Talks.transfer c.args.now (last_served o older) off) stands)

pub returns-in-Opens-clause-served : goal.returns-in-Opens-clause-served
returns-in-Opens-clause-served c older d stands later seen =
    subst (λ q. AreServed c.args.served.now (record { datagram = d; moment = c.args.now; place = q } ∷ older)) (sym c.in-Opens.is)
    (served_same c.args.served.now (record { datagram = d; moment = c.args.now; place = Opens c.in-Opens.field-0 }) older later (λ o. refl) stands)

pub returns-in-Repeats-clause-served : goal.returns-in-Repeats-clause-served
returns-in-Repeats-clause-served c older d stands later seen =
    subst (λ q. AreServed c.args.served.now (record { datagram = d; moment = c.args.now; place = q } ∷ older)) (sym c.in-Repeats.is)
    (served_same c.args.served.now (record { datagram = d; moment = c.args.now; place = Repeats c.in-Repeats.field-0 }) older later (λ o. refl) stands)

pub returns-in-Apart-clause-served : goal.returns-in-Apart-clause-served
returns-in-Apart-clause-served c older d stands later seen =
    subst (λ q. AreServed c.args.served.now (record { datagram = d; moment = c.args.now; place = q } ∷ older)) (sym c.in-Apart.is)
    (served_same c.args.served.now (record { datagram = d; moment = c.args.now; place = Apart c.in-Apart.field-0 }) older later (λ o. refl) stands)

pub returns-in-Beside-clause-served : goal.returns-in-Beside-clause-served
returns-in-Beside-clause-served c older d stands later seen =
    subst (λ q. AreServed c.args.served.now (record { datagram = d; moment = c.args.now; place = q } ∷ older)) (sym c.in-Beside.is)
    (served_same c.args.served.now (record { datagram = d; moment = c.args.now; place = Beside c.in-Beside.field-0 }) older later (λ o. refl) stands)

pub returns-in-Nowhere-clause-served : goal.returns-in-Nowhere-clause-served
returns-in-Nowhere-clause-served c older d stands later seen =
    subst (λ q. AreServed c.args.served.now (record { datagram = d; moment = c.args.now; place = q } ∷ older)) (sym c.in-Nowhere.is)
    (served_same c.args.served.now (record { datagram = d; moment = c.args.now; place = Nowhere }) older later (λ o. refl) stands)
