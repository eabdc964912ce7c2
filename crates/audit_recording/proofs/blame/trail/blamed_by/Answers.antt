use Rattle.std.proofs.Common.{◌∷◌, ap, sym, ◌∙◌}
use Rattle.audit_flows.specs.{Doubts}
use Rattle.audit_flows.specs.Lines.{Recorded, comes_in, is_late, says_first_word}
use Rattle.audit_flows.specs.Transfers.{comes_of_earlier, some_of, tells_strays}
use Rattle.audit_recording.proofs.blame.trail.blamed_by.Goals as goal

pub returns : goal.returns
returns c x f passes same at doubts after number gone = λ i. record {
  frame = passes.frame i;
  is_late = (c.is_late.ensures (f.placed ∷ f.before) after ∙ ap (λ n. some_of n is_late (f.placed ∷ f.before)) number) i;
  is_beside = c.is_beside.ensures f.placed at i;
  is_answered = (c.comes_in.ensures (f.placed ∷ f.before) after ∙ ap (λ n. some_of n comes_in (f.placed ∷ f.before)) number) i;
  has_gone_on = gone i;
  speaks_first = ap (λ (d : Doubts). d.speaks_first) doubts i;
  says_first_word = (c.says_first_word.ensures (f.placed ∷ f.before) after ∙ ap (λ n. some_of n says_first_word (f.placed ∷ f.before)) number) i;
  follows_unknown_id = ap (λ (d : Doubts). d.follows_unknown_id) doubts i;
  tells_strays = (c.tells_strays.ensures f.placed f.before (ap (λ (d : Recorded). d.payload) same ∙ sym passes.payload) after ∙ ap (λ n. tells_strays n f.placed f.before) number) i;
  comes_of_earlier = (c.comes_of_earlier.ensures f.placed f.before doubts after ∙ ap (λ n. comes_of_earlier n f.placed f.before) number) i;
  source = (passes.source ∙ ap (λ (d : Recorded). d.source) (sym same)) i;
}
