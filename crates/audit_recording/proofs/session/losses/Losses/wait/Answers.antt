use Rattle.std.proofs.Common.{◌∷◌, ◌==◌, Some, ap, cond, subst, sym, ◌∙◌}
use Rattle.std.specs.BTreeMap.{get}
use Rattle.std.specs.Ordering.{nat_cmp}
use Rattle.audit_recording.specs.Losses.Noted.{Unread}
use Rattle.audit_recording.specs.Losses.Noted.Event.{Waits}
use Rattle.audit_recording.specs.Losses.Kept.{AreLosses, kept_of}
use Rattle.audit_recording.specs.declared.session.losses.Losses.{Losses}
use Rattle.audit_recording.proofs.LossesLemmas.Standing.{began_between, began_of_none, by_number, of_two, two_are_known}
use Rattle.audit_recording.proofs.session.losses.Losses.wait.Goals as goal
use Rattle.audit_recording.proofs.session.losses.Losses.wait.Goals.{in-Some+in_ok-wait_at-in-Some+in_ok-wait_at-in-Some-2, in-None+in_ok-wait-in-None}

pub returns : goal.returns
returns c = λ history are.
    let f : Unread = record { frame = c.args.frame; hosts = c.args.hosts; time = c.args.time } in
    let ended = c.end_wait.ensures.stands history are in
    elim c.match-hosts.branch [
      | in-Some+in_ok-wait_at-in-Some+in_ok-wait_at-in-Some-2 w ↦
          subst (λ (l : Losses). AreLosses (record { of_hosts = l.of_hosts; of_unknown = l.of_unknown; waiting = c.insert.new.self }) (Waits f ∷ history)) (sym w.self-is)
          (began_between c.end_wait.new.self w.wait_at.new.hosts w.wait_at-in-Some.new.hosts c.insert.new.self history f w.address_of-source.result w.address_of-target.result
          (of_two f w.in-Some.source w.in-Some.target w.address_of-source.result w.address_of-target.result w.in-Some.is w.address_of-source.ensures.same w.address_of-target.ensures.same)
          (two_are_known f w.in-Some.source w.in-Some.target w.in-Some.is) w.in_ok-wait_at-in-Some.ensures w.in_ok-wait_at-in-Some-2.ensures
          (λ n. by_number c.match-hosts.self.waiting c.insert.new.self c.args.frame (Some (kept_of f)) c.in_ok-insert.ensures.updates.0 n
          ∙ ap (λ (l : Losses). cond (c.args.frame == n) (Some (kept_of f)) (get nat_cmp l.waiting n)) w.self-is) ended)
      | in-None+in_ok-wait-in-None w ↦
          subst (λ (l : Losses). AreLosses (record { of_hosts = l.of_hosts; of_unknown = l.of_unknown; waiting = c.insert.new.self }) (Waits f ∷ history)) (sym w.self-is)
          (began_of_none c.end_wait.new.self w.wait.new.self c.insert.new.self history f w.in-None.is w.in_ok-wait-in-None.ensures
          (λ n. by_number c.match-hosts.self.waiting c.insert.new.self c.args.frame (Some (kept_of f)) c.in_ok-insert.ensures.updates.0 n
          ∙ ap (λ (l : Losses). cond (c.args.frame == n) (Some (kept_of f)) (get nat_cmp l.waiting n)) w.self-is) ended)
    ]
