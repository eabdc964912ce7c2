use Rattle.std.proofs.Common.{◌≡◌, [], inl, inr, false, None, Ok, refl, sym, ◌∙◌}
use Rattle.std.proofs.lemmas.Bool.{true≢false}
use Rattle.tftp_judge.specs.{IsTextVerdictBy, SaysReadFailed}
use Rattle.tftp_commands.specs.{checked, memory_line}
use Rattle.tftp_commands.specs.declared.status.Status.TheVariants as status
use Rattle.tftp_commands.proofs.Told.{refused_told, told_of}
use Rattle.tftp_commands.proofs.losses.check.say_text.Goals as goal

pub returns-then-failed : goal.returns-then-failed
returns-then-failed g c = (record { bytes = memory_line; status = status.Fault }, inr refl, c.say.ensures)

pub returns-in-Ok : goal.returns-in-Ok
returns-in-Ok g c =
    let e = c.judge_text-judged.ensures in
    let clean : c.judge_text-judged.new.reader.1 ≡ false = sym c.failed.ensures ∙ c.if-failed.false in
    let said : IsTextVerdictBy None c.args.text.now c.judge_text-judged.result = e.whole c.args.text.now (rw c.new-reader.ensures) clean in
    (checked (Ok c.in-Ok.meaning), inl (told_of c.args.text.now (Ok c.in-Ok.meaning) [] (checked (Ok c.in-Ok.meaning)) (rw c.in-Ok.is at said) (λ h. h) tt refl), c.say_accepted.ensures)

pub returns-in-Err : goal.returns-in-Err
returns-in-Err g c =
    let e = c.judge_text-judged.ensures in
    let clean : c.judge_text-judged.new.reader.1 ≡ false = sym c.failed.ensures ∙ c.if-failed.false in
    let said : IsTextVerdictBy None c.args.text.now c.judge_text-judged.result = e.whole c.args.text.now (rw c.new-reader.ensures) clean in
    let reads : SaysReadFailed c.judge_text-judged.result → ⊥ = λ h. true≢false (sym (e.read h) ∙ clean) in
    let told = c.say_refused.ensures in
    (told.0, refused_told c.args.text.now c.in-Err.verdict told.0 (rw c.in-Err.is at said) (rw c.in-Err.is at reads) told.1, told.2)
