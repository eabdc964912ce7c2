use Rattle.law_model.proofs.ModelLemmas.Starts.{read_follows, write_follows, plain_write_follows}
use Rattle.law_model.proofs.model.laws.blocks_follow_the_agreement.Goals as goal

pub returns-clause-read : goal.returns-clause-read
returns-clause-read c = read_follows

pub returns-clause-write : goal.returns-clause-write
returns-clause-write c = write_follows

pub returns-clause-plain_write : goal.returns-clause-plain_write
returns-clause-plain_write c = plain_write_follows
