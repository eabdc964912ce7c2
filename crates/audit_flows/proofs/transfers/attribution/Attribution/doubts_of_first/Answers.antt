use Rattle.std.proofs.Common.{◌≡◌, Bool, false, None, sym, ap, ◌∙◌, nat_lt}
use Rattle.audit_flows.specs.Lines.{is_near, is_stray_at, newest_of}
use Rattle.audit_flows.specs.declared.lines.place.Place.TheVariants.{Opens}
use Rattle.audit_flows.specs.declared.lines.doubts.Doubts.{Doubts}
use Rattle.audit_flows.specs.declared.lines.place.Transfer.{Transfer}
use Rattle.audit_flows.proofs.TransfersLemmas.Doubting.{first_doubted}
use Rattle.audit_flows.proofs.transfers.attribution.Attribution.doubts_of_first.Goals as goal

same_transfer : (x y : Transfer) → Opens x ≡ Opens y → x ≡ y
same_transfer x y is = cc

pub returns-in-Opens : goal.returns-in-Opens
returns-in-Opens c named older d x after later seen is silent =
    let same : c.in-Opens.transfer ≡ x = same_transfer c.in-Opens.transfer x (sym c.in-Opens.is ∙ is) in
    let near : c.is_after_strays-is_after_strays.result ≡ is_near c.args.now (newest_of (is_stray_at x.client) older) =
    c.is_after_strays-is_after_strays.ensures named older after later ∙ ap (λ y. is_near c.args.now (newest_of (is_stray_at y.client) older)) same in
    let doubts : Bool → Bool → Doubts = λ disordered strays. record {
      may_be_earlier = false;
      agrees_late = false;
      rests_on_terms = false;
      says_unknown_id = false;
      is_late = false;
      is_disordered = disordered;
      is_asked_again = false;
      may_be_answer_of = None;
      comes_in = false;
      goes_on_with_first = false;
      speaks_first = false;
      says_first_word = false;
      follows_unknown_id = false;
      follows_strays = strays;
      follows_unanswered = false;
      follows_request = false;
    } in
    c.of_first.ensures ∙ (λ i. doubts (nat_lt (seen i).time c.args.now) (near i)) ∙ first_doubted d c.args.now older x silent
