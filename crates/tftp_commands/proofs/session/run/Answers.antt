use Rattle.std.proofs.Common.{[], Err, refl, ap, ◌∙◌}
use Rattle.std.proofs.KnownBytes.{Consumes-nil}
use Rattle.tftp_commands.proofs.Commands.{command_output, memory_output, no_command, silent_output, usage_output}
use Rattle.tftp_commands.proofs.Written.{printed_none}
use Rattle.tftp_commands.proofs.session.run.Goals as goal

pub returns-in-Ok-clause-said : goal.returns-in-Ok-clause-said
returns-in-Ok-clause-said g c =
    let said = c.run_command.ensures.said in
    (said.0, said.1, said.2, command_output c.in-Ok.action _ _ _ said.1 c.in-Ok.ensures.ok said.3, said.4)

pub returns-in-Ok-clause-whole : goal.returns-in-Ok-clause-whole
returns-in-Ok-clause-whole g c = λ text tells clean.
    let said = c.run_command.ensures.whole text tells clean in
    (said.0, command_output c.in-Ok.action _ _ _ said.0 c.in-Ok.ensures.ok said.1, said.2)

pub returns-in-Ok-clause-untouched : goal.returns-in-Ok-clause-untouched
returns-in-Ok-clause-untouched g c = λ none. absurd (none c.in-Ok.action c.in-Ok.ensures.ok)

pub returns-in-Err-Usage-clause-said : goal.returns-in-Err-Usage-clause-said
returns-in-Err-Usage-clause-said g c =
    let none = no_command _ c.action_of.result (c.in-Err-Usage.is ∙ ap Err c.in-Err-Usage.field-0-is) c.action_of.ensures.only in
    ([], _, Consumes-nil _, usage_output _ _ _ none, c.say.ensures)

pub returns-in-Err-Usage-clause-whole : goal.returns-in-Err-Usage-clause-whole
returns-in-Err-Usage-clause-whole g c = λ text tells clean.
    let none = no_command _ c.action_of.result (c.in-Err-Usage.is ∙ ap Err c.in-Err-Usage.field-0-is) c.action_of.ensures.only in
    (_, usage_output _ _ _ none, c.say.ensures)

pub returns-in-Err-Memory-clause-said : goal.returns-in-Err-Memory-clause-said
returns-in-Err-Memory-clause-said g c =
    let (a, is, told) = c.action_of.ensures.loud (c.in-Err-Memory.is ∙ ap Err c.in-Err-Memory.field-0-is) in
    ([], _, Consumes-nil _, memory_output a _ _ _ is told refl c.requires.reading, c.say-in-Err-Memory.ensures)

pub returns-in-Err-Memory-clause-whole : goal.returns-in-Err-Memory-clause-whole
returns-in-Err-Memory-clause-whole g c = λ text tells clean.
    let (a, is, told) = c.action_of.ensures.loud (c.in-Err-Memory.is ∙ ap Err c.in-Err-Memory.field-0-is) in
    (_, memory_output a _ _ _ is told (text, refl) refl, c.say-in-Err-Memory.ensures)

pub returns-in-Err-Silent-clause-said : goal.returns-in-Err-Silent-clause-said
returns-in-Err-Silent-clause-said g c =
    let (a, is, told) = c.action_of.ensures.quiet (c.in-Err-Silent.is ∙ ap Err c.in-Err-Silent.field-0-is) in
    ([], _, Consumes-nil _, silent_output a _ _ _ is told refl c.requires.reading, printed_none g.W.Write.contents c.args.writer.now c.args.writer.now _ _ c.requires.fresh refl refl)

pub returns-in-Err-Silent-clause-whole : goal.returns-in-Err-Silent-clause-whole
returns-in-Err-Silent-clause-whole g c = λ text tells clean.
    let (a, is, told) = c.action_of.ensures.quiet (c.in-Err-Silent.is ∙ ap Err c.in-Err-Silent.field-0-is) in
    (_, silent_output a _ _ _ is told (text, refl) refl, printed_none g.W.Write.contents c.args.writer.now c.args.writer.now _ _ c.requires.fresh refl refl)

pub returns-in-Err-Silent-clause-untouched : goal.returns-in-Err-Silent-clause-untouched
returns-in-Err-Silent-clause-untouched g c = λ none. refl
