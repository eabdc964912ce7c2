use Rattle.std.proofs.Common.{ℕ, List, sym, subst, ◌∙◌}
use Rattle.net_udp.specs.Frames.Unreachable.{CarriesWhole, Quotes}
use Rattle.net_udp.specs.declared.frames.unreachable.Quoted.{Quoted}
use Rattle.net_udp.proofs.FramesLemmas.Unreached.{another_type, no_header, no_quote}
use Rattle.net_udp.proofs.frames.unreachable.told_in.Goals as goal
use Rattle.net_udp.proofs.frames.unreachable.told_in.Goals.{then-message-lt8-via-then-message-lt8, then-message-lt8-via-else-message-lt8+then-message-type_of}

pub returns-in_default : goal.returns-in_default
returns-in_default c u t =
    c.in_default.ensures t.message (subst (λ (n : ℕ). CarriesWhole c.args.network c.args.bytes.now n t.message) (sym c.number_of.ensures) t.carries)

pub returns-then-message-lt8 : goal.returns-then-message-lt8
returns-then-message-lt8 c u t =
    let carries = subst (λ (n : ℕ). CarriesWhole c.args.network c.args.bytes.now n c.in-Some.message.now) c.number_of.ensures c.in-Some.ensures in
    elim c.then-message-lt8.branch [
      | then-message-lt8-via-then-message-lt8 w ↦ no_header c.args.network c.args.bytes.now c.in-Some.message.now carries u t w.if-message-lt8.true
      | then-message-lt8-via-else-message-lt8+then-message-type_of w ↦
          another_type c.args.network c.args.bytes.now c.in-Some.message.now carries u t (λ is. w.if-message-type_of.true (is ∙ sym w.type_of.ensures))
    ]

pub returns-in_default-quoted_in : goal.returns-in_default-quoted_in
returns-in_default-quoted_in c u t =
    let carries = subst (λ (n : ℕ). CarriesWhole c.args.network c.args.bytes.now n c.in-Some.message.now) c.number_of.ensures c.in-Some.ensures in
    no_quote c.args.network c.args.bytes.now c.in-Some.message.now carries u t
    (subst (λ (bytes : List ℕ). (q : Quoted) → Quotes c.args.network bytes q → ⊥) c.split_at.ensures.back c.in_default-quoted_in.ensures)
