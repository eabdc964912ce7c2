use Rattle.std.proofs.Common.{sym, ap, subst, ◌∙◌, MatchBool}
use Rattle.std.specs.BTreeMap.{get}
use Rattle.audit_flows.specs.Lines.{endpoint_cmp}
use Rattle.audit_recording.specs.Losses.Kept.{waits_at}
use Rattle.audit_recording.proofs.LossesLemmas.Waiting.{HasNone, HasOne}
use Rattle.audit_recording.proofs.session.losses.Losses.is_waiting_there.Goals as goal

pub returns-in-Some : goal.returns-in-Some
returns-in-Some c =
    subst (λ o. MatchBool c.is_waiting.result (HasOne o) (HasNone o))
    (sym (ap (get endpoint_cmp c.args.self.now.of_hosts) (sym c.key_of.ensures) ∙ sym c.in-Some.ensures.value)) c.is_waiting.ensures

pub returns-in-None : goal.returns-in-None
returns-in-None c = λ n. ap (λ o. waits_at o n) (ap (get endpoint_cmp c.args.self.now.of_hosts) (sym c.key_of.ensures) ∙ sym c.in-None.ensures.value)
