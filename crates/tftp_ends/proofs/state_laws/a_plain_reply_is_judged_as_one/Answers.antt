use Rattle.tftp_ends.proofs.BeforeReply.{read_alike, ack_put_alike}
use Rattle.tftp_ends.proofs.state_laws.a_plain_reply_is_judged_as_one.Goals as goal

pub returns-clause-read : goal.returns-clause-read
returns-clause-read c = λ t passed m rule get. read_alike t passed m get rule

pub returns-clause-write : goal.returns-clause-write
returns-clause-write c = λ t passed j rule put. ack_put_alike t passed j put rule
