use Rattle.std.proofs.Common.{ℕ, ◌∷◌, ap, is_some, subst, sym}
use Rattle.std.specs.BTreeMap.{BTreeMap}
use Rattle.audit_views.specs.Parties.{host_name}
use Rattle.audit_views.specs.Texts.{Notes}
use Rattle.audit_recording.specs.Blame.Frames.{framed_after}
use Rattle.audit_recording.specs.Session.Texts.{AreTextsKept, frame_text, worded_in, worded_of}
use Rattle.audit_recording.proofs.SessionLemmas.Opened.{ok_as}
use Rattle.audit_recording.proofs.SessionLemmas.Texts.{none_fed, one_fed, text_there}
use Rattle.audit_recording.proofs.session.kept.Kept.feed.Goals as goal

pub returns-in-Some-clause-texts : goal.returns-in-Some-clause-texts
returns-in-Some-clause-texts c named d carried about fed passes begun =
    let old = c.args.self.now in
    let t = c.in-Some.text.now in
    let u = c.note_in.new.text in
    let was = sym c.in-Some.ensures.value in
    let updates = (c.get_mut.follows.holds u).3 (ap is_some was) in
    ok_as c.note_in.result
    (λ after. one_fed old named d carried begun c.args.number about (c.get_mut.follows.lender u) t u was updates.0 c.note_in.ensures.transfer (λ before. after))
    (c.note_in.ensures.after host_name (worded_of (framed_after named carried d)) (worded_in named carried) (text_there old named d carried begun c.args.number t was) fed
    (λ i. frame_text (passes.frame i) (passes.time i)))

pub returns-in-None-clause-texts : goal.returns-in-None-clause-texts
returns-in-None-clause-texts c named d carried about fed passes begun =
    subst (λ (m : BTreeMap ℕ Notes). AreTextsKept (record c.args.self.now { texts = m }) named (d ∷ carried)) (sym c.get_mut.follows.holds-at-none)
    (none_fed c.args.self.now named d carried begun c.args.number about (sym c.in-None.ensures.value))
