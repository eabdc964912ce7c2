use Rattle.std.proofs.Common.{◌≡◌, ◌∷◌, [], ap, ◌∙◌, inr, Err}
use Rattle.clap.specs.Takes.{takes}
use Rattle.tftp_commands.specs.{audit_app, memory_fault, name_of, option_words, rollover_of}
use Rattle.tftp_commands.proofs.Commands.{one_command}
use Rattle.tftp_commands.proofs.Named.{second_named, takes_named}
use Rattle.tftp_commands.proofs.words.action_of.Goals as goal

pub returns-in_default-clause-only : goal.returns-in_default-clause-only
returns-in_default-clause-only g c = λ a is.
    let named = c.in_default.ensures.only a is in
    absurd (cc)

pub returns-clause-only : goal.returns-clause-only
returns-clause-only g c = λ a is.
    let name : c.as_str-2.result.now ≡ name_of a = c.as_str-2.ensures ∙ second_named g.S.AsStr.text c.args.words.now c.index-words-1.result is.0 (name_of a) (option_words (rollover_of a)) c.index-words-1.is is.1 in
    let memory = c.kind.ensures ∙ c.in-Err.ensures.passes (ap (λ w. takes audit_app (c.as_str.result.now ∷ w ∷ [])) name ∙ takes_named a c.as_str.result.now) in
    inr (ap Err (c.fault_of.ensures.memory memory ∙ ap memory_fault (one_command _ c.in-Some.action a c.in-Some.ensures.some is)))
