use Rattle.std.proofs.Common.{◌≡◌, ◌&&◌, ◌||◌, cond, Some, OnOk, Result, Ok, Err, sym, ap, subst, ◌∙◌}
use Rattle.std.specs.BTreeMap.{get}
use Rattle.std.specs.Ordering.{nat_cmp}
use Rattle.net_pcap.specs.{FrameParts}
use Rattle.net_udp.specs.declared.frames.unreachable.Unreachable.{Unreachable}
use Rattle.audit_recording.specs.Blame.Frames.{whole_of}
use Rattle.audit_recording.specs.Reasons.Unplaced.{is_it, newest_of}
use Rattle.audit_recording.specs.Session.Heard.{TellsIn, is_of_trail, undelivered_by}
use Rattle.audit_recording.specs.declared.blame.undelivered.Undelivered.{Undelivered}
use Rattle.audit_recording.proofs.SessionLemmas.Heard.{either_told, told_nothing, told_one}
use Rattle.audit_recording.proofs.session.unreached.hear.Goals as goal

on_ok_map : {T E A B : Type 0} (r : Result T E) → (A → B) → OnOk r A → OnOk r B
on_ok_map (Ok x) f a = f a
on_ok_map (Err e) f a = tt

of_ok : {T E P : Type 0} (r : Result T E) (x : T) → r ≡ Ok x → OnOk r P → P
of_ok (Ok y) x is has = has
of_ok (Err e) x is has = absurd (cc)

pub returns-in_default : goal.returns-in_default
returns-in_default c judging named out step history carried s of noticed trails marks kept =
    told_nothing c.args.trails.now c.args.unplaced.now judging named out step history carried s c.args.event.now of noticed trails marks c.args.unreached.now
    (subst (TellsIn step.frame) c.in_default.is (subst (λ (f : FrameParts). TellsIn f c.unreachable.result) (sym of.frame) c.unreachable.ensures))
    kept

pub returns : goal.returns
returns c judging named out step history carried s of noticed trails marks kept =
    let w : Unreachable = c.in-Some.told in
    let first = c.newest.result in
    let second = c.newest-2.result in
    let is : c.undelivered_by-undelivered.result ≡ undelivered_by c.args.event.now.frame.number w = c.undelivered_by-undelivered.ensures ∙ ap (λ n. undelivered_by n w) c.number.ensures in
    let tells = subst (TellsIn step.frame) c.in-Some.is (subst (λ (f : FrameParts). TellsIn f c.unreachable.result) (sym of.frame) c.unreachable.ensures) in
    let one = of_ok c.hear_at.result _ c.in_ok-hear_at.was (c.hear_at.ensures judging named out carried trails) in
    on_ok_map c.hear_at-2.result
    (λ other. told_one c.args.trails.now c.args.unplaced.now judging named out step history carried s c.args.event.now of noticed trails marks c.args.unreached.now c.hear_at-2.new.unreached w first second tells
    (c.newest.ensures marks.history marks.stands ∙ ap (λ (u : Undelivered). newest_of u.source marks.history) is)
    (c.newest-2.ensures marks.history marks.stands ∙ ap (λ (u : Undelivered). newest_of u.target marks.history) is)
    (λ n. other n
    ∙ ap (cond (is_it n second && is_of_trail (get nat_cmp c.args.trails.now n) (whole_of named carried) c.undelivered_by-undelivered.result) (Some c.undelivered_by-undelivered.result)) (one n)
    ∙ either_told (is_it n first) (is_it n second) (is_of_trail (get nat_cmp c.args.trails.now n) (whole_of named carried) c.undelivered_by-undelivered.result) (Some c.undelivered_by-undelivered.result)
    (get nat_cmp c.args.unreached.now.last n)
    ∙ ap (λ u. cond ((is_it n first || is_it n second) && is_of_trail (get nat_cmp c.args.trails.now n) (whole_of named carried) u) (Some u) (get nat_cmp c.args.unreached.now.last n)) is)
    kept)
    (c.hear_at-2.ensures judging named out carried trails)
