use Rattle.std.proofs.Common.{ℕ, Option, false, refl, sym, ap, subst, is_some, OnOk}
use Rattle.audit_flows.specs.Transfers.{is_it}
use Rattle.audit_flows.proofs.TransfersLemmas.AllLines.{on_ok_map}
use Rattle.audit_recording.specs.Judges.{AreHanded}
use Rattle.audit_recording.proofs.JudgesLemmas.Keeping.{handed_alone, handed_one, held_one}
use Rattle.audit_recording.proofs.judges.hands.hand.Goals as goal

pub returns-in-Some-get_mut-clause-handed : goal.returns-in-Some-get_mut-clause-handed
returns-in-Some-get_mut-clause-handed g c judging name out p older fed belongs doubts kept =
    let was = sym c.in-Some-get_mut.ensures.value in
    let updates = (c.get_mut.follows.holds c.take.new.self).3 (ap is_some was) in
    let held = held_one (λ n. false) c.args.watched.now (c.get_mut.follows.lender c.take.new.self) judging name out p older c.in-Some.number refl c.in-Some-get_mut.one.now was kept in
    subst (λ (o : Option ℕ). OnOk c.take.result (AreHanded (λ n. is_it n o) (c.get_mut.follows.lender c.take.new.self) judging name out p older)) (sym c.in-Some.is)
    (on_ok_map c.take.result
    (λ stands. handed_alone (c.get_mut.follows.lender c.take.new.self) judging name out p older c.in-Some.number
    (handed_one (λ n. false) c.args.watched.now (c.get_mut.follows.lender c.take.new.self) judging name out p older c.in-Some.number refl c.in-Some-get_mut.one.now c.take.new.self was updates.0 c.take.ensures.transfer stands kept))
    (c.take.ensures.stands judging c.in-Some-get_mut.one.now.transfer name p older held.1 fed belongs doubts))
