use Rattle.std.proofs.Common.{subst}
use Rattle.tftp_judge.specs.{Transfer, IsAgreedBy}
use Rattle.tftp_judge.proofs.transfer.Transfer.has_agreed_by.Goals as goal

pub returns : goal.returns
returns g c = λ yes. subst (λ (t : Transfer). IsAgreedBy t.exchange c.args.payload.now) c.self.view_is (c.has_agreed_by.ensures yes)
