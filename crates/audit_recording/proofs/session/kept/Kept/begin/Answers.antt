use Rattle.std.proofs.Common.{◌≡◌, false, refl, sym, subst, ◌∙◌}
use Rattle.audit_flows.specs.{Place}
use Rattle.audit_flows.specs.Lines.{Placed, opens}
use Rattle.audit_recording.specs.Blame.Frames.{framed_after}
use Rattle.audit_recording.proofs.SessionLemmas.Texts.{no_text_begun}
use Rattle.audit_recording.proofs.session.kept.Kept.begin.Goals as goal

pub returns-in-Opens-clause-texts : goal.returns-in-Opens-clause-texts
returns-in-Opens-clause-texts c named d carried at port kept = c.open.ensures.texts named d carried (sym c.in-Opens.is ∙ at) port kept

pub returns-in-Repeats-clause-texts : goal.returns-in-Repeats-clause-texts
returns-in-Repeats-clause-texts c named d carried at port kept =
    let p : Placed = (framed_after named carried d).placed in
    no_text_begun c.args.self.now named d carried (subst (λ (q : Place). opens (record p { place = q }) ≡ false) (sym c.in-Repeats.is ∙ at) refl) kept

pub returns-in-Talks-clause-texts : goal.returns-in-Talks-clause-texts
returns-in-Talks-clause-texts c named d carried at port kept =
    let p : Placed = (framed_after named carried d).placed in
    no_text_begun c.args.self.now named d carried (subst (λ (q : Place). opens (record p { place = q }) ≡ false) (sym c.in-Talks.is ∙ at) refl) kept

pub returns-in-Apart-clause-texts : goal.returns-in-Apart-clause-texts
returns-in-Apart-clause-texts c named d carried at port kept =
    let p : Placed = (framed_after named carried d).placed in
    no_text_begun c.args.self.now named d carried (subst (λ (q : Place). opens (record p { place = q }) ≡ false) (sym c.in-Apart.is ∙ at) refl) kept

pub returns-in-Beside-clause-texts : goal.returns-in-Beside-clause-texts
returns-in-Beside-clause-texts c named d carried at port kept =
    let p : Placed = (framed_after named carried d).placed in
    no_text_begun c.args.self.now named d carried (subst (λ (q : Place). opens (record p { place = q }) ≡ false) (sym c.in-Beside.is ∙ at) refl) kept

pub returns-in-Nowhere-clause-texts : goal.returns-in-Nowhere-clause-texts
returns-in-Nowhere-clause-texts c named d carried at port kept =
    let p : Placed = (framed_after named carried d).placed in
    no_text_begun c.args.self.now named d carried (subst (λ (q : Place). opens (record p { place = q }) ≡ false) (sym c.in-Nowhere.is ∙ at) refl) kept
