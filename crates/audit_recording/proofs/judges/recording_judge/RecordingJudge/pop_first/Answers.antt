use Rattle.std.proofs.Common.{◌≡◌, ◌≤◌, Some, false, true, ap, sym, subst}
use Rattle.audit_flows.specs.Transfers.{placed}
use Rattle.audit_recording.specs.Judges.{IsWatching, RecordingJudge, StandsAfter, opened}
use Rattle.audit_recording.specs.declared.judges.judging.Judging.{Judging}
use Rattle.audit_recording.proofs.JudgesLemmas.Keeping.{handed_one_more, kept_here, kept_less, least_kept, none_kept, once_here}
use Rattle.audit_recording.proofs.judges.recording_judge.RecordingJudge.pop_first.Goals as goal

pub returns-in_err-first-clause-all : goal.returns-in_err-first-clause-all
returns-in_err-first-clause-all g c named name out recorded stands none n =
    let old : StandsAfter (record { attribution = c.self.inside.attribution; watched = c.self.inside.watched; failed = c.self.inside.failed; judging = c.self.inside.judging }) named name out recorded =
    subst (λ (j : RecordingJudge). StandsAfter j named name out recorded) (sym c.self.view_is) stands in
    none_kept c.self.inside.watched c.self.inside.judging name out (placed named recorded) n (λ some. let no : false ≡ true = c.in_err-first.ensures.variant.1 some in absurd (cc)) (old.transfers n)

pub returns-clause-watched : goal.returns-clause-watched
returns-clause-watched g c named name out recorded stands =
    let old : StandsAfter (record { attribution = c.self.inside.attribution; watched = c.self.inside.watched; failed = c.self.inside.failed; judging = c.self.inside.judging }) named name out recorded =
    subst (λ (j : RecordingJudge). StandsAfter j named name out recorded) (sym c.self.view_is) stands in
    let judging = ap (λ (j : RecordingJudge). j.judging) c.self.view_is in
    let w = c.in_ok-first.first in
    subst (λ (j : Judging). (opened w.transfer.number (placed named recorded) ≡ Some w.transfer) × IsWatching w j w.transfer name (placed named recorded)) judging (kept_here c.self.inside.watched c.self.inside.judging name out (placed named recorded) c.in_ok-first.field-0-0 c.in_ok-first.first c.in_ok-first.ensures.value old.transfers).1

pub returns-clause-stands : goal.returns-clause-stands
returns-clause-stands g c named name out recorded stands =
    let old : StandsAfter (record { attribution = c.self.inside.attribution; watched = c.self.inside.watched; failed = c.self.inside.failed; judging = c.self.inside.judging }) named name out recorded =
    subst (λ (j : RecordingJudge). StandsAfter j named name out recorded) (sym c.self.view_is) stands in
    record {
      works = old.works;
      attribution = old.attribution;
      transfers = kept_less c.self.inside.watched c.pop_first.new.self c.self.inside.judging name out (placed named recorded) c.in_ok-first.field-0-0 c.in_ok-first.first c.in_ok-first.ensures.value c.in_ok-first.ensures.updates.0 old.transfers;
      handed = handed_one_more out c.in_ok-first.first.transfer.number c.in_ok-first.first.transfer (placed named recorded) (kept_here c.self.inside.watched c.self.inside.judging name out (placed named recorded) c.in_ok-first.field-0-0 c.in_ok-first.first c.in_ok-first.ensures.value old.transfers).1.0 old.handed;
    }

pub returns-clause-first : goal.returns-clause-first
returns-clause-first g c named name out recorded n stands some here =
    let old : StandsAfter (record { attribution = c.self.inside.attribution; watched = c.self.inside.watched; failed = c.self.inside.failed; judging = c.self.inside.judging }) named name out recorded =
    subst (λ (j : RecordingJudge). StandsAfter j named name out recorded) (sym c.self.view_is) stands in
    subst (λ k. k ≤ n) (sym (kept_here c.self.inside.watched c.self.inside.judging name out (placed named recorded) c.in_ok-first.field-0-0 c.in_ok-first.first c.in_ok-first.ensures.value old.transfers).0)
    (least_kept c.self.inside.watched c.self.inside.judging name out (placed named recorded) c.in_ok-first.field-0-0 n c.in_ok-first.ensures.least some here (old.transfers n))

pub returns-clause-once : goal.returns-clause-once
returns-clause-once g c named name out recorded stands =
    let old : StandsAfter (record { attribution = c.self.inside.attribution; watched = c.self.inside.watched; failed = c.self.inside.failed; judging = c.self.inside.judging }) named name out recorded =
    subst (λ (j : RecordingJudge). StandsAfter j named name out recorded) (sym c.self.view_is) stands in
    once_here c.self.inside.watched c.self.inside.judging name out (placed named recorded) c.in_ok-first.field-0-0 c.in_ok-first.first c.in_ok-first.ensures.value old.transfers
