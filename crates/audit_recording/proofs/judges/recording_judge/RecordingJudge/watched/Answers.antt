use Rattle.std.proofs.Common.{◌≡◌, ◌⊎◌, Bor, true, Some, None, MatchOption, sym, subst}
use Rattle.std.specs.BTreeMap.{get}
use Rattle.std.specs.Ordering.{nat_cmp}
use Rattle.audit_flows.specs.Transfers.{placed}
use Rattle.audit_recording.specs.Judges.{IsWatching, RecordingJudge, StandsAfter, Watched, is_among, opened}
use Rattle.audit_recording.proofs.JudgesLemmas.Finding.{kept_found}
use Rattle.audit_recording.proofs.judges.recording_judge.RecordingJudge.watched.Goals as goal

pub returns : goal.returns
returns g c named name out recorded stands =
    let old : StandsAfter (record { attribution = c.self.inside.attribution; watched = c.self.inside.watched; failed = c.self.inside.failed; judging = c.self.inside.judging }) named name out recorded =
    subst (λ (j : RecordingJudge). StandsAfter j named name out recorded) (sym c.self.view_is) stands in
    subst (λ (j : RecordingJudge). MatchOption c.get.result ((opened c.args.number (placed named recorded) ≡ None) ⊎ (is_among c.args.number out ≡ true))
    (λ (w : Bor Watched). (opened c.args.number (placed named recorded) ≡ Some w.now.transfer) × IsWatching w.now j.judging w.now.transfer name (placed named recorded)))
    c.self.view_is
    (kept_found c.self.inside.judging name out (placed named recorded) c.args.number c.get.result (get nat_cmp c.self.inside.watched c.args.number) c.get.ensures.value (old.transfers c.args.number))
