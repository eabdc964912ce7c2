use Rattle.std.proofs.Common.{◌≡◌, ℕ, Option, false, sym, ap, subst, ◌∙◌, ◌||◌, is_some}
use Rattle.audit_flows.specs.Transfers.{is_it, is_about}
use Rattle.audit_recording.specs.Judges.{AreHanded}
use Rattle.audit_recording.proofs.JudgesLemmas.Keeping.{handed_one, held_one, is_itself}
use Rattle.audit_recording.proofs.judges.hands.doubt.Goals as goal

pub returns-in-Some-get_mut : goal.returns-in-Some-get_mut
returns-in-Some-get_mut g c got judging name out p older belongs doubts only kept =
    let was = sym c.in-Some-get_mut.ensures.value in
    let updates = (c.get_mut.follows.holds c.doubt.new.self).3 (ap is_some was) in
    let is = only c.in-Some.number (ap (is_it c.in-Some.number) c.in-Some.is ∙ is_itself c.in-Some.number) in
    let held = held_one got c.args.watched.now (c.get_mut.follows.lender c.doubt.new.self) judging name out p older c.in-Some.number is.0 c.in-Some-get_mut.one.now was kept in
    let off : is_about c.in-Some-get_mut.one.now.transfer.number p ≡ false = ap (λ n. is_about n p) held.0 ∙ is.1 in
    subst (λ (o : Option ℕ). AreHanded (λ n. is_it n o || got n) (c.get_mut.follows.lender c.doubt.new.self) judging name out p older) (sym c.in-Some.is)
    (handed_one got c.args.watched.now (c.get_mut.follows.lender c.doubt.new.self) judging name out p older c.in-Some.number is.0 c.in-Some-get_mut.one.now c.doubt.new.self was updates.0 c.doubt.ensures.transfer
    (c.doubt.ensures.stands judging c.in-Some-get_mut.one.now.transfer name p older held.1 belongs doubts off) kept)
