use Rattle.std.proofs.Common.{◌≡◌, false, List, Some, None, option_map, nat_le, true, refl, sym, ap, ◌∙◌, ◌&&◌, not, is_some, if◌then◌else◌}
use Rattle.std.specs.BTreeMap.{get}
use Rattle.std.specs.List.{list_any}
use Rattle.std.specs.Ordering.{nat_cmp}
use Rattle.audit_flows.specs.Lines.{Placed, before_talk, begins_oack, history_of, may_be_earlier, may_follow, same_endpoint, endpoint_cmp, number_of, passes_in, other_of, other_end, live, line, may_answer, talk_in, is_another, is_past, is_the_one, is_unknown_talk, is_word, spoken_of, unknown_of, acked_0_in, answer_of, answered_last, IsLineOf}
use Rattle.audit_flows.specs.declared.lines.line.Line.{Line}
use Rattle.audit_flows.specs.declared.lines.place.Place.TheVariants.{Talks}
use Rattle.audit_flows.specs.declared.lines.place.Transfer.{Transfer}
use Rattle.audit_flows.specs.Lines.Kept.{up_to}
use Rattle.audit_flows.proofs.LinesLemmas.Histories.{told_up_to}
use Rattle.audit_flows.proofs.lines.line.Line.doubts_of_talk.Goals as goal

last_by : (ps : List Placed) (l : Line) → IsLineOf l ps → l.answered ≡ answered_last ps
last_by ps l stands = rw stands.latest (sym stands.answered)

pub returns : goal.returns
returns c d now older client stands seen =
    let x : Transfer = c.args.transfer.now in
    let l : Line = c.args.self.now in
    let before : List Placed = live now (line c.args.transfer.now.client older) in
    let other : c.other_end-other.result ≡ other_of c.args.transfer.now.client d = c.other_end-other.ensures ∙ ap (other_end c.args.transfer.now.client) seen in
    let talked : c.talked_with-talked.result ≡ get endpoint_cmp c.args.self.now.talks c.other_end-other.result = c.talked_with-talked.ensures in
    let talk : option_map (λ t. t.talk) c.talked_with-talked.result ≡ talk_in c.args.transfer.now.client (other_of c.args.transfer.now.client d) (live now (line c.args.transfer.now.client older)) =
    ap (option_map (λ t. t.talk)) talked ∙ stands.talks c.other_end-other.result ∙ (λ i. talk_in (client i) (other i) (live now (line c.args.transfer.now.client older))) in
    let spoken : spoken_of c.talked_with-talked.result ≡ list_any (is_word c.args.transfer.now.client (other_of c.args.transfer.now.client d)) (live now (line c.args.transfer.now.client older)) =
    ap spoken_of talked ∙ sym (stands.spoken c.other_end-other.result) ∙ (λ i. list_any (is_word (client i) (other i)) (live now (line c.args.transfer.now.client older))) in
    let earlier : c.may_be_earlier-may_be_earlier.result ≡ may_be_earlier (record { datagram = d; moment = now; place = Talks c.args.transfer.now }) older =
    c.may_be_earlier-may_be_earlier.ensures d.payload (ap (λ s. s.kind) seen)
    ∙ (λ i. up_to c.args.transfer.now.number (history_of (talked i)) (same_endpoint (seen i).source c.args.transfer.now.client) d.payload)
    ∙ sym (told_up_to c.args.self.now.latest.client c.other_end-other.result (live now (line c.args.transfer.now.client older)) (history_of (get endpoint_cmp c.args.self.now.talks c.other_end-other.result))
    c.args.transfer.now.number (same_endpoint d.source c.args.transfer.now.client) d.payload (stands.histories c.other_end-other.result))
    ∙ (λ i. list_any (may_follow (client i) (other i) (same_endpoint d.source c.args.transfer.now.client) d.payload) (before_talk (client i) (other i) c.args.transfer.now.number (live now (line c.args.transfer.now.client older)))) in
    λ i. record {
      may_be_earlier = earlier i;
      agrees_late = (c.agrees_late.ensures ∙ ap (λ s. c.may_be_earlier-may_be_earlier.result && s.kind.begins_oack) seen ∙ ap (λ b. b && begins_oack d.payload) earlier) i;
      rests_on_terms = c.rests_on_terms.ensures (record { datagram = d; moment = now; place = Talks c.args.transfer.now }) seen refl i;
      says_unknown_id = (ap (λ s. s.kind.begins_unknown_id) seen) i;
      is_late = (c.is_behind.ensures ∙ ap (is_another c.args.transfer.now) (sym stands.latest)) i;
      is_disordered = (c.has_later.ensures ∙ ap (λ s. is_past s.time (get nat_cmp c.args.self.now.newest c.args.transfer.now.number)) seen ∙ sym (stands.newest c.args.transfer.now.number d.time)) i;
      is_asked_again = false;
      may_be_answer_of = (c.answers_instead.ensures d seen
          ∙ (λ j. if is_another c.args.transfer.now (Some c.args.self.now.latest) && (may_answer c.args.transfer.now.client (other j) (sym stands.answered j) d && ((seen j).kind.is_data_1 && acked_0_in (talk j))) then Some c.args.self.now.latest.number else None)
          ∙ sym (ap (answer_of c.args.transfer.now (other_of c.args.transfer.now.client d) (live now (line c.args.transfer.now.client older)) d) stands.latest)) i;
      comes_in = (c.eq.ensures ∙ ap (λ s. same_endpoint s.target c.args.transfer.now.client) seen) i;
      goes_on_with_first = (c.goes_on_with_first.ensures
          ∙ (λ j. (same_endpoint (seen j).source c.args.transfer.now.client && not (seen j).kind.begins_unknown_id) && not (is_another c.args.transfer.now (sym stands.latest j)) && is_the_one (seen j).target (last_by before l stands j))) i;
      speaks_first = (c.speaks_first.ensures ∙ (λ j. same_endpoint (seen j).source c.args.transfer.now.client && not (is_some (talk j)))) i;
      says_first_word = (c.says_first_word.ensures d.payload (ap (λ s. s.kind) seen)
          ∙ (λ j. same_endpoint (seen j).source c.args.transfer.now.client && not (sym stands.went_on j) && not (spoken j) && (passes_in c.args.transfer.now.writes true d.payload && nat_le (number_of d.payload) 1))) i;
      follows_unknown_id = (c.has_told_unknown_id.ensures ∙ ap unknown_of talked ∙ sym (stands.unknown c.other_end-other.result)
          ∙ (λ j. list_any (is_unknown_talk (client j) (other j)) (live now (line c.args.transfer.now.client older)))) i;
      follows_strays = false;
      follows_unanswered = false;
      follows_request = false;
    }
