use Rattle.std.proofs.Common.{rules, ap, ap₂, codes, refl, ◌≡◌, ◌∙◌}
use Rattle.std.proofs.lemmas.Result.{IfErr-weaker}
use Rattle.clap.specs.Simple.{App, app_of, new_app, with_subcommand}
use Rattle.clap.specs.Takes.{takes}
use Rattle.tftp_commands.specs.{audit_app, with_command}
use Rattle.tftp_commands.proofs.words.parsed.Goals as goal

pub returns : goal.returns
returns g c =
    let one : app_of c.in_ok-subcommand.field-0 ≡ with_command (new_app (codes "tftp-audit")) (codes "check") =
    c.in_ok-subcommand.ensures.shape (search rules) ∙ ap₂ with_subcommand c.new.ensures.app (ap (λ (a : App). a.top) c.new-2.ensures.app) in
    let two : app_of c.in_ok-subcommand-2.field-0 ≡ with_command (with_command (new_app (codes "tftp-audit")) (codes "check")) (codes "extract") =
    c.in_ok-subcommand-2.ensures.shape (search rules) ∙ ap₂ with_subcommand one (ap (λ (a : App). a.top) c.new-3.ensures.app) in
    let three : app_of c.in_ok-subcommand-3.field-0 ≡ with_command (with_command (with_command (new_app (codes "tftp-audit")) (codes "check")) (codes "extract")) (codes "normal") =
    c.in_ok-subcommand-3.ensures.shape (search rules) ∙ ap₂ with_subcommand two (ap (λ (a : App). a.top) c.new-4.ensures.app) in
    let four : app_of c.in_ok-subcommand-4.field-0 ≡ with_command (with_command (with_command (with_command (new_app (codes "tftp-audit")) (codes "check")) (codes "extract")) (codes "normal")) (codes "show") =
    c.in_ok-subcommand-4.ensures.shape (search rules) ∙ ap₂ with_subcommand three (ap (λ (a : App). a.top) c.new-5.ensures.app) in
    let five : app_of c.in_ok-command.command ≡ audit_app =
    c.in_ok-command.ensures.shape (search rules) ∙ ap₂ with_subcommand four (ap (λ (a : App). a.top) c.new-6.ensures.app) in
    let parse = c.try_get_matches_from in
    record { passes = IfErr-weaker parse.result _ _ (λ e h t. h (ap₂ takes five refl ∙ t)) parse.ensures.passes }
