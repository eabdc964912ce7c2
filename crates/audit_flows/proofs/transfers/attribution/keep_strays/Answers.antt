use Rattle.std.proofs.Common.{Some, cond, refl, sym, ap, ◌∙◌}
use Rattle.std.specs.BTreeMap.{get}
use Rattle.std.specs.Ordering.{is_eq}
use Rattle.std.proofs.lemmas.Bool.{and_from}
use Rattle.audit_flows.specs.Lines.{endpoint_cmp, is_apart_from_lines, may_be_tftp}
use Rattle.audit_flows.proofs.TransfersLemmas.Straying.{strays_more}
use Rattle.audit_flows.proofs.transfers.attribution.keep_strays.Goals as goal

pub returns-in_ok-insert-2-clause-strays : goal.returns-in_ok-insert-2-clause-strays
returns-in_ok-insert-2-clause-strays c older d stands later seen =
    strays_more c.args.strays.now c.insert.new.self c.insert-then-may_be_tftp.new.self (record { datagram = d; moment = c.args.now; place = c.args.place.now }) older (record { moment = c.args.now }) later refl
    (and_from (is_apart_from_lines c.args.place.now) (may_be_tftp d) (sym c.is_apart_from_lines.ensures ∙ c.if-is_apart_from_lines.true) (sym (c.may_be_tftp.ensures d seen) ∙ c.if-may_be_tftp.true))
    (λ e. c.in_ok-insert.ensures.updates.0 e ∙ ap (λ s. cond (is_eq (endpoint_cmp s.source e)) (Some (record { moment = c.args.now })) (get endpoint_cmp c.args.strays.now e)) seen)
    (λ e. c.in_ok-insert-2.ensures.updates.0 e ∙ ap (λ s. cond (is_eq (endpoint_cmp s.target e)) (Some (record { moment = c.args.now })) (get endpoint_cmp c.insert.new.self e)) seen)
    stands
