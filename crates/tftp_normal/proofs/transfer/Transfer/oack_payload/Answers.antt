use Rattle.std.proofs.Common.{ℕ, ◌≢◌, ◌≤◌, length, subst, IfOk, Vec, Global}
use Rattle.std.specs.FinMap as map
use Rattle.law_model.specs.Model.{Meaning}
use Rattle.tftp_normal.specs.{meaning_in}
use Rattle.tftp_normal.proofs.Payloads.{short_result}
use Rattle.tftp_normal.proofs.transfer.Transfer.oack_payload.Goals as goal

pub returns-clause-short : goal.returns-clause-short
returns-clause-short c =
    subst (λ (m : Meaning). IfOk c.write_oack.result (λ (payload : Vec ℕ Global). map.len m.agreed ≢ 0 → length payload.items ≤ 65527)) c.self.view_is
    (short_result (meaning_in c.self.inside) c.self.invariant.can c.write_oack.result c.write_oack.ensures)
