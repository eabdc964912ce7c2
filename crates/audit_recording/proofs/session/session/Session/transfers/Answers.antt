use Rattle.std.proofs.Common.{rules, ◌≡◌, ℕ, is_some, ap, ◌∙◌}
use Rattle.std.specs.BTreeMap.{get, keys}
use Rattle.std.specs.List.{list_any}
use Rattle.std.specs.Ordering.{is_eq, nat_cmp}
use Rattle.audit_recording.proofs.SessionLemmas.Ordered.{trails_in_order}
use Rattle.audit_recording.proofs.session.session.Session.transfers.Goals as goal

pub returns-clause-in_order : goal.returns-clause-in_order
returns-clause-in_order c named history carried s is =
    let trails = c.args.self.now.trails in
    let has : (q : ℕ) → is_some (get nat_cmp trails q) ≡ list_any (λ k. is_eq (nat_cmp q k)) (keys trails) =
    λ q. c.keys-number-items.ensures.has q ∙ ap (list_any (λ k. is_eq (nat_cmp q k))) c.keys-number-items.ensures.rest in
    let all : c.loop-number.numbers.items ≡ keys trails = search rules in
    all ∙ trails_in_order trails c.args.self.now.audit.judge.judging named carried is.trails c.keys-number-items.ensures.ordered has
