use Rattle.std.proofs.Common.{◌≡◌, rules, refl, subst, ◌∙◌, sym, ap, ◌&&◌, if◌then◌else◌}
use Rattle.std.specs.BTreeMap.{get}
use Rattle.std.specs.Str.{bytes_eq}
use Rattle.std.specs.List.{list_any}
use Rattle.audit_flows.specs.Lines.{asked_part, endpoint_cmp, history_of, is_unknown_talk, is_word, opened_by, same_endpoint, spoken_of, unknown_of, IsHistoryOf}
use Rattle.audit_flows.specs.declared.lines.place.Place.TheVariants.{Opens, Repeats}
use Rattle.audit_flows.proofs.LinesLemmas.Histories.{history_same}
use Rattle.audit_flows.proofs.LinesLemmas.Requests.{opened_again, opened_alike}
use Rattle.audit_flows.proofs.lines.line.Line.open.Goals as goal

pub returns-clause-stands : goal.returns-clause-stands
returns-clause-stands c line d stands is same = record {
  latest = search rules;
  answered = search rules;
  moment = search rules;
  asked = λ n e that. ap (λ again. if again then Repeats c.args.transfer else opened_by n e) (opened_again c.args.transfer c.args.payload.now c.args.time d e is that
      ∙ ap (λ p. bytes_eq p e.payload && same_endpoint c.args.transfer.asked e.target) (sym c.in_ok-request.ensures.items));
  talks = search rules;
  histories = λ o. history_same c.args.transfer.client o (record { datagram = d; moment = c.args.now; place = Opens c.args.transfer }) line (history_of (get endpoint_cmp c.args.self.now.talks o)) refl
      (subst (λ e. IsHistoryOf e o line (history_of (get endpoint_cmp c.args.self.now.talks o))) (sym same) (stands.histories o));
  unknown = λ o. subst (λ e. list_any (is_unknown_talk e o) line ≡ unknown_of (get endpoint_cmp c.args.self.now.talks o)) (sym same) (stands.unknown o);
  again = λ e that. opened_alike c.args.transfer c.args.payload.now c.args.time d e is that
      ∙ ap (λ p. bytes_eq (asked_part p) (asked_part e.payload) && same_endpoint c.args.transfer.asked e.target) (sym c.in_ok-request.ensures.items);
  spoken = λ o. subst (λ e. list_any (is_word e o) line ≡ spoken_of (get endpoint_cmp c.args.self.now.talks o)) (sym same) (stands.spoken o);
  went_on = search rules;
  surely = search rules;
  left = sym (c.leaves_unanswered-left_unanswered.ensures line stands);
  newest = search rules;
}
