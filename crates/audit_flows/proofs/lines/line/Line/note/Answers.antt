use Rattle.std.proofs.Common.{◌≡◌, cond, option_map, refl, sym, ap, subst, ◌∙◌, Option, Some}
use Rattle.std.specs.BTreeMap.{get}
use Rattle.std.specs.Ordering.{is_eq}
use Rattle.audit_flows.specs.Lines.{endpoint_cmp, history_of, seen_of, spoken_after, spoken_of, comes_to, surely_after, talk_after, unknown_after, unknown_of, went_on_after, AreTimed}
use Rattle.audit_flows.specs.declared.lines.history.History.{History}
use Rattle.audit_flows.specs.declared.lines.line.Talked.{Talked}
use Rattle.law_model.specs.Rules.{or_this}
use Rattle.audit_flows.specs.Lines.Kept.{IsHistoryAfter}
use Rattle.audit_flows.proofs.LinesLemmas.Endpoints.{same_by_order, same_itself}
use Rattle.audit_flows.proofs.LinesLemmas.Noted.{cond_history, cond_spoken, cond_talk, cond_unknown, note_stands}
use Rattle.audit_flows.proofs.lines.line.Line.note.Goals as goal

pub returns-clause-stands : goal.returns-clause-stands
returns-clause-stands c line d stands seen between =
    let talked : Talked = c.talked_after-all.result in
    let before : c.talked_with-before.result ≡ get endpoint_cmp c.args.self.now.talks c.args.other = c.talked_with-before.ensures in
    let here =
    ap history_of (c.in_ok-insert.ensures.updates.0 c.args.other)
    ∙ cond_history (is_eq (endpoint_cmp c.args.other c.args.other)) c.talked_after-all.result (get endpoint_cmp c.args.self.now.talks c.args.other)
    ∙ ap (λ b. cond b c.talked_after-all.result.history (history_of (get endpoint_cmp c.args.self.now.talks c.args.other))) (same_by_order c.args.other c.args.other ∙ same_itself c.args.other) in
    note_stands _ _ c.args.other c.args.talked d c.args.now line (record {
      latest = refl;
      answered = c.answered_after-self.ensures ∙ ap (λ s. or_this c.args.self.now.answered (comes_to c.args.self.now.latest c.args.talked s) s.source) seen;
      moment = refl;
      request = refl;
      ends = c.ends_after-self.ensures;
      talks = λ q. ap (option_map (λ t. t.talk)) (c.in_ok-insert.ensures.updates.0 q)
          ∙ cond_talk (is_eq (endpoint_cmp c.args.other q)) talked (get endpoint_cmp c.args.self.now.talks q)
          ∙ ap (λ t. cond (is_eq (endpoint_cmp c.args.other q)) (Some t) (option_map (λ t. t.talk) (get endpoint_cmp c.args.self.now.talks q))) (c.talked_after-all.ensures.talk
          ∙ (λ i. talk_after c.args.self.now.latest.client c.args.other c.args.talked (seen i) (option_map (λ t. t.talk) (before i))));
      histories = λ q. ap history_of (c.in_ok-insert.ensures.updates.0 q)
          ∙ cond_history (is_eq (endpoint_cmp c.args.other q)) talked (get endpoint_cmp c.args.self.now.talks q)
          ∙ ap (λ h. cond (is_eq (endpoint_cmp c.args.other q)) h (history_of (get endpoint_cmp c.args.self.now.talks q))) (sym here);
      history = subst (λ (h : Option History). IsHistoryAfter (history_of (get endpoint_cmp c.args.self.now.talks c.args.other)) h c.args.self.now.latest.client c.args.talked (seen_of d)) (sym here)
          (subst (λ s. IsHistoryAfter (history_of (get endpoint_cmp c.args.self.now.talks c.args.other)) c.talked_after-all.result.history c.args.self.now.latest.client c.args.talked s) seen
          (subst (λ t. IsHistoryAfter (history_of t) c.talked_after-all.result.history c.args.self.now.latest.client c.args.talked c.args.seen.now) before c.talked_after-all.ensures.history));
      unknowns = λ q. ap unknown_of (c.in_ok-insert.ensures.updates.0 q)
          ∙ cond_unknown (is_eq (endpoint_cmp c.args.other q)) talked (get endpoint_cmp c.args.self.now.talks q)
          ∙ ap (λ b. cond (is_eq (endpoint_cmp c.args.other q)) b (unknown_of (get endpoint_cmp c.args.self.now.talks q)))
          (c.talked_after-all.ensures.unknown ∙ (λ i. unknown_after c.args.talked (seen i) (unknown_of (before i))));
      spoken = λ q. ap spoken_of (c.in_ok-insert.ensures.updates.0 q)
          ∙ cond_spoken (is_eq (endpoint_cmp c.args.other q)) talked (get endpoint_cmp c.args.self.now.talks q)
          ∙ ap (λ b. cond (is_eq (endpoint_cmp c.args.other q)) b (spoken_of (get endpoint_cmp c.args.self.now.talks q)))
          (c.talked_after-all.ensures.spoken ∙ (λ i. spoken_after (seen i) (spoken_of (before i))));
      went_on = c.went_on_after-self.ensures ∙ ap (λ s. went_on_after c.args.talked s c.args.self.now.went_on) seen;
      surely = c.surely_after-self.ensures ∙ ap (λ s. surely_after c.args.self.now.latest.number c.args.talked s c.args.self.now.is_answered) seen;
      left = refl;
      newest = subst (λ s. AreTimed c.args.self.now.newest c.note_talk.new.newest c.args.talked s.time) seen c.in_ok-note_talk.ensures;
    }) between stands
