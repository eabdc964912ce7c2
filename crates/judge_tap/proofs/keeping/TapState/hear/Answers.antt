use Rattle.std.proofs.Common.{◌≡◌, ◌∷◌, [], Some, inl, inr, sym, subst, ap, ◌∙◌}
use Rattle.tftp_packet.specs.{RequestParts, Message, Client, meaning}
use Rattle.law_end.specs.declared.rule.Rule.TheVariants as rule
use Rattle.law_tap.specs.{FirstTapAsked, IsSaid, IsSaidBy, transfer_between}
use Rattle.law_tap.proofs.StandingRules.{passing_stays}
use Rattle.judge_tap.specs.{AreTold, IsHeard, IsReadOf, TapState}
use Rattle.judge_tap.proofs.StateFound.{transfer_on}
use Rattle.judge_tap.proofs.ToldFound.{asked_is_said}
use Rattle.judge_tap.proofs.keeping.TapState.hear.Goals as goal

pub returns-in-Err-clause-told : goal.returns-in-Err-clause-told
returns-in-Err-clause-told g c = λ s earlier d e apart passes heard read source passing told.
    absurd (passes.0.lawful (rule.Malformed c.in-Err.field-0) (inr (passing, inl (subst (IsReadOf d.payload) c.in-Err.is read))))

pub returns-in-Some-clause-told : goal.returns-in-Some-clause-told
returns-in-Some-clause-told g c = λ s earlier d e apart passes heard read source passing told.
    let passed = transfer_between s (d ∷ earlier) in
    let there : c.args.self.now.transfer ≡ Some c.in-Some.transfer = sym (ap (λ (k : TapState). k.transfer) c.self.view_is) ∙ c.in-Some.is in
    let was : IsHeard s passed (Some c.in-Some.transfer) = subst (IsHeard s passed) there heard in
    let kept : AreTold c.self.inside.told s earlier = subst (λ (k : TapState). AreTold k.told s earlier) (sym c.self.view_is) told in
    let says : IsSaidBy s e (meaning c.in-Ok.packet) d = record { goes = passing_stays s apart earlier d passing; source = source; spells = subst (IsReadOf d.payload) c.in-Ok.is read } in
    let request : IsSaid s (d ∷ earlier) Client (Message.Request c.asked.result.now) = asked_is_said s apart (d ∷ earlier) c.asked.result.now (subst (λ (q : RequestParts). FirstTapAsked s passed q) (sym c.asked.ensures) was.0) in
    c.note.ensures s earlier d e apart passes request says kept

pub returns-in-None-clause-told : goal.returns-in-None-clause-told
returns-in-None-clause-told g c = λ s earlier d e apart passes heard read source passing told.
    let nothing : transfer_between s (d ∷ earlier) ≡ [] = subst (IsHeard s (transfer_between s (d ∷ earlier))) (sym (ap (λ (k : TapState). k.transfer) c.self.view_is) ∙ c.in-None.is) heard in
    let bad : d ∷ transfer_between s earlier ≡ [] = sym (transfer_on s earlier d passing) ∙ nothing in
    absurd (cc)
