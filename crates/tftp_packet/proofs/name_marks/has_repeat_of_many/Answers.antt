use Rattle.std.proofs.Common.{true, false, inl, inr, sym, ◌∙◌, true≢false}
use Rattle.tftp_packet.proofs.NameMarks.{parts_of_repeat, repeat_of_part}
use Rattle.tftp_packet.proofs.name_marks.has_repeat_of_many.Goals as goal

pub returns-then-has_repeat_in : goal.returns-then-has_repeat_in
returns-then-has_repeat_in c = ((λ is. repeat_of_part false c.args.bytes.now (c.has_repeat_in.ensures.0 is)), λ _. c.if-has_repeat_in.true)

pub returns-else-has_repeat_in : goal.returns-else-has_repeat_in
returns-else-has_repeat_in c = (
  (λ is. repeat_of_part true c.args.bytes.now (c.has_repeat_in-else-has_repeat_in.ensures.0 is)),
  λ repeat. elim (parts_of_repeat c.args.bytes.now repeat) [
    | inl long ↦ c.has_repeat_in-else-has_repeat_in.ensures.1 long
    | inr short ↦ absurd (true≢false (sym (c.has_repeat_in.ensures.1 short) ∙ c.if-has_repeat_in.false))
  ],
)
