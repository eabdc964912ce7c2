use Rattle.std.proofs.Common.{◌≡◌, ap, is_some, option_map, subst, sym, Some, Option, ℕ}
use Rattle.std.specs.BTreeMap.{BTreeMap, get}
use Rattle.std.specs.Ordering.{nat_cmp}
use Rattle.audit_recording.specs.Session.Trails.{AreTrailsKept}
use Rattle.audit_recording.specs.declared.blame.trail.Trail.{Trail}
use Rattle.audit_recording.specs.Session.Beside.{discarding_if}
use Rattle.audit_recording.specs.Reasons.Unplaced.{is_it}
use Rattle.audit_recording.proofs.SessionLemmas.Beside.{discarding_not, none_there, one_mapped}
use Rattle.audit_recording.proofs.SessionLemmas.Trails.{one_stays, stays_discarded}
use Rattle.audit_recording.proofs.session.trails.discard_at.Goals as goal

pub returns-in-Some-get_mut-clause-trails : goal.returns-in-Some-get_mut-clause-trails
returns-in-Some-get_mut-clause-trails c judging named out carried kept =
    let t = c.in-Some-get_mut.trail.now in
    let u = c.discard.new.self in
    let was = sym c.in-Some-get_mut.ensures.value in
    let updates = (c.get_mut.follows.holds u).3 (ap is_some was) in
    one_stays c.args.trails.now (c.get_mut.follows.lender u) c.in-Some.number t u was updates.0
    (stays_discarded t u (Some c.args.frame) c.discard.ensures.is) judging named out carried kept

pub returns-in_default-get_mut-clause-trails : goal.returns-in_default-get_mut-clause-trails
returns-in_default-get_mut-clause-trails c judging named out carried kept =
    subst (λ (m : BTreeMap ℕ Trail). AreTrailsKept m judging named out carried) (sym c.get_mut.follows.holds-at-none) kept

pub returns-in-Some-get_mut-clause-each : goal.returns-in-Some-get_mut-clause-each
returns-in-Some-get_mut-clause-each c n =
    let t = c.in-Some-get_mut.trail.now in
    let u = c.discard.new.self in
    let was = sym c.in-Some-get_mut.ensures.value in
    let updates = (c.get_mut.follows.holds u).3 (ap is_some was) in
    let new = c.get_mut.follows.lender u in
    subst (λ (o : Option ℕ). get nat_cmp new n ≡ option_map (discarding_if (is_it n o) c.args.frame) (get nat_cmp c.args.trails.now n)) (sym c.in-Some.is)
    (one_mapped c.args.trails.now new c.in-Some.number t u was updates.0 (λ here. discarding_if here c.args.frame) c.discard.ensures.is (discarding_not c.args.frame) n)

pub returns-in_default-clause-each : goal.returns-in_default-clause-each
returns-in_default-clause-each c n =
    subst (λ (o : Option ℕ). get nat_cmp c.args.trails.now n ≡ option_map (discarding_if (is_it n o) c.args.frame) (get nat_cmp c.args.trails.now n)) (sym c.in_default.is)
    (sym (discarding_not c.args.frame (get nat_cmp c.args.trails.now n)))

pub returns-in_default-get_mut-clause-each : goal.returns-in_default-get_mut-clause-each
returns-in_default-get_mut-clause-each c n =
    subst (λ (m : BTreeMap ℕ Trail). get nat_cmp m n ≡ option_map (discarding_if (is_it n c.args.number) c.args.frame) (get nat_cmp c.args.trails.now n)) (sym c.get_mut.follows.holds-at-none)
    (subst (λ (o : Option ℕ). get nat_cmp c.args.trails.now n ≡ option_map (discarding_if (is_it n o) c.args.frame) (get nat_cmp c.args.trails.now n)) (sym c.in-Some.is)
    (none_there c.args.trails.now c.in-Some.number n (λ here. discarding_if here c.args.frame) (discarding_not c.args.frame) (sym c.in_default-get_mut.ensures.value)))
