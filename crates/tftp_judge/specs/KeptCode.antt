-- How the request was answered, as code keeps it.
use Rattle.tftp_judge.specs.Kept.{Exchange, Unanswered, Begun, Agreed}
use Rattle.tftp_judge.specs.declared.exchange.Exchange.{Exchange as Kept}
use Rattle.tftp_judge.specs.declared.exchange.Exchange.TheVariants as kept

abbrev pub exchange_of : {D : Type 0} → Kept D → Exchange
exchange_of kept.Unanswered = Unanswered
exchange_of (kept.Begun end) = Begun end
exchange_of (kept.Agreed options end) = Agreed options end
