use Rattle.std.proofs.Common.{arith, ◌≡◌, ap, is_some, option_map, subst, sym, Option, ℕ, ◌∙◌}
use Rattle.std.specs.BTreeMap.{BTreeMap, get}
use Rattle.std.specs.Ordering.{nat_cmp}
use Rattle.audit_recording.specs.Session.Trails.{AreTrailsKept}
use Rattle.audit_recording.specs.declared.blame.trail.Trail.{Trail}
use Rattle.audit_recording.specs.Session.Beside.{leaving_out_if}
use Rattle.audit_recording.specs.Reasons.Unplaced.{is_it}
use Rattle.audit_recording.proofs.SessionLemmas.Beside.{in_time, leaving_not, none_there, one_mapped, too_late}
use Rattle.audit_recording.proofs.SessionLemmas.Trails.{one_stays, stays_so}
use Rattle.audit_recording.proofs.session.trails.leave_out_at.Goals as goal

pub returns-then-moment-silent-clause-trails : goal.returns-then-moment-silent-clause-trails
returns-then-moment-silent-clause-trails c judging named out carried kept =
    let t = c.in-Some-get_mut.trail.now in
    let u = c.leave_out.new.self in
    let was = sym c.in-Some-get_mut.ensures.value in
    let updates = (c.get_mut.follows.holds u).3 (ap is_some was) in
    one_stays c.args.trails.now (c.get_mut.follows.lender u) c.in-Some.number t u was updates.0
    (stays_so t u c.leave_out.ensures.blame c.leave_out.ensures.first c.leave_out.ensures.request c.leave_out.ensures.stands) judging named out carried kept

pub returns-in_default-get_mut-clause-trails : goal.returns-in_default-get_mut-clause-trails
returns-in_default-get_mut-clause-trails c judging named out carried kept =
    subst (λ (m : BTreeMap ℕ Trail). AreTrailsKept m judging named out carried) (sym c.get_mut.follows.holds-at-none) kept

pub returns-then-moment-silent-clause-each : goal.returns-then-moment-silent-clause-each
returns-then-moment-silent-clause-each c n =
    let t = c.in-Some-get_mut.trail.now in
    let u = c.leave_out.new.self in
    let was = sym c.in-Some-get_mut.ensures.value in
    let updates = (c.get_mut.follows.holds u).3 (ap is_some was) in
    let new = c.get_mut.follows.lender u in
    subst (λ (o : Option ℕ). get nat_cmp new n ≡ option_map (leaving_out_if (is_it n o) c.args.frame c.args.moment) (get nat_cmp c.args.trails.now n)) (sym c.in-Some.is)
    (one_mapped c.args.trails.now new c.in-Some.number t u was updates.0 (λ here. leaving_out_if here c.args.frame c.args.moment)
    (c.leave_out.ensures.is ∙ sym (in_time c.args.frame c.args.moment t (omega arith))) (leaving_not c.args.frame c.args.moment) n)

pub returns-else-moment-silent-clause-each : goal.returns-else-moment-silent-clause-each
returns-else-moment-silent-clause-each c n =
    let t = c.in-Some-get_mut.trail.now in
    let was = sym c.in-Some-get_mut.ensures.value in
    let updates = (c.get_mut.follows.holds t).3 (ap is_some was) in
    let new = c.get_mut.follows.lender t in
    subst (λ (o : Option ℕ). get nat_cmp new n ≡ option_map (leaving_out_if (is_it n o) c.args.frame c.args.moment) (get nat_cmp c.args.trails.now n)) (sym c.in-Some.is)
    (one_mapped c.args.trails.now new c.in-Some.number t t was updates.0 (λ here. leaving_out_if here c.args.frame c.args.moment)
    (sym (too_late c.args.frame c.args.moment t (omega arith))) (leaving_not c.args.frame c.args.moment) n)

pub returns-in_default-clause-each : goal.returns-in_default-clause-each
returns-in_default-clause-each c n =
    subst (λ (o : Option ℕ). get nat_cmp c.args.trails.now n ≡ option_map (leaving_out_if (is_it n o) c.args.frame c.args.moment) (get nat_cmp c.args.trails.now n)) (sym c.in_default.is)
    (sym (leaving_not c.args.frame c.args.moment (get nat_cmp c.args.trails.now n)))

pub returns-in_default-get_mut-clause-each : goal.returns-in_default-get_mut-clause-each
returns-in_default-get_mut-clause-each c n =
    subst (λ (m : BTreeMap ℕ Trail). get nat_cmp m n ≡ option_map (leaving_out_if (is_it n c.args.number) c.args.frame c.args.moment) (get nat_cmp c.args.trails.now n)) (sym c.get_mut.follows.holds-at-none)
    (subst (λ (o : Option ℕ). get nat_cmp c.args.trails.now n ≡ option_map (leaving_out_if (is_it n o) c.args.frame c.args.moment) (get nat_cmp c.args.trails.now n)) (sym c.in-Some.is)
    (none_there c.args.trails.now c.in-Some.number n (λ here. leaving_out_if here c.args.frame c.args.moment) (leaving_not c.args.frame c.args.moment) (sym c.in_default-get_mut.ensures.value)))
