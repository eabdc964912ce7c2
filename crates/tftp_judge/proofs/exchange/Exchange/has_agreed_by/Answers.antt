use Rattle.std.proofs.Common.{refl, sym, subst}
use Rattle.tftp_judge.specs.{exchange_of, IsAgreedBy}
use Rattle.tftp_judge.proofs.exchange.Exchange.has_agreed_by.Goals as goal

pub returns-in-Agreed : goal.returns-in-Agreed
returns-in-Agreed g c = λ yes. subst (λ exchange. IsAgreedBy (exchange_of exchange) c.args.payload.now) (sym c.in-Agreed.is) (c.in-Agreed.first, refl, c.has_bytes.ensures yes)
