use Rattle.std.proofs.Common.{◌≡◌, ◌++◌, ◌∷◌, [], sym, ◌∙◌, ap, arith, length, ◌==◌, false, true}
use Rattle.std.specs.List.{list_any}
use Rattle.audit_recording.specs.Session.Strays.{Stray, asked_ports, stray_of}
use Rattle.audit_recording.proofs.SessionLemmas.Strays.{asks_again, asks_first, asks_many, asks_nothing}
use Rattle.audit_recording.proofs.session.asked.note_asked.Goals as goal
use Rattle.audit_recording.proofs.session.asked.note_asked.Goals.{else-asks-via-then-asks+then-len-lt-NAMED+else-not-contains, else-asks-via-then-asks+else-len-lt-NAMED, else-asks-via-else-asks}

pub returns-in_ok-push : goal.returns-in_ok-push
returns-in_ok-push c = λ strays are.
    let d : Stray = stray_of c.args.passing.now in
    let as_many = c.len.ensures ∙ c.args.asked.now.ok.0 in
    let many = ap length are in
    let none : list_any (λ first. first == d.target.port) (asked_ports strays) ≡ false =
    sym ((c.contains.ensures.value ∙ (λ i. list_any (λ first. first == c.from-port.ensures i) ((c.deref.ensures.value ∙ are) i)))) ∙ c.if-not-contains.true in
    c.in_ok-push.ensures.items ∙ (λ i. are i ++ c.from-port.ensures i ∷ [])
    ∙ asks_first d strays (sym c.asks.ensures ∙ c.if-asks.true) (omega (arith, as_many, many, c.if-len-lt-NAMED.true)) none

pub returns-else-asks : goal.returns-else-asks
returns-else-asks c = λ strays are.
    let d : Stray = stray_of c.args.passing.now in
    elim c.else-asks.branch [
      | else-asks-via-then-asks+then-len-lt-NAMED+else-not-contains w ↦
          let some : list_any (λ first. first == d.target.port) (asked_ports strays) ≡ true =
          sym ((w.contains.ensures.value ∙ (λ i. list_any (λ first. first == c.from-port.ensures i) ((w.deref.ensures.value ∙ are) i)))) ∙ w.if-not-contains.false in
          are ∙ asks_again d strays (sym c.asks.ensures ∙ w.if-asks.true) some
      | else-asks-via-then-asks+else-len-lt-NAMED w ↦
          let as_many = w.len.ensures ∙ c.args.asked.now.ok.0 in
          let many = ap length are in
          are ∙ asks_many d strays (sym c.asks.ensures ∙ w.if-asks.true) (omega (arith, as_many, many, w.if-len-lt-NAMED.false))
      | else-asks-via-else-asks w ↦ are ∙ asks_nothing d strays (sym c.asks.ensures ∙ w.if-asks.false)
    ]
