use Rattle.std.proofs.Common.{◌≡◌, string_bytes, sym}
use Rattle.std.proofs.lemmas.Result.{IfOk-weaker}
use Rattle.tftp_rows.specs.Endings.{unreachable_text}
use Rattle.tftp_rows.proofs.conclusion.unreachable_by.Goals as goal

pub returns-in-None : goal.returns-in-None
returns-in-None c host =
    IfOk-weaker c.coded_by.result _ (λ words. string_bytes words ≡ unreachable_text c.args.undelivered.now) (λ words is. rw (sym c.in-None.ensures) (rw (sym host) is)) c.coded_by.ensures
