use Rattle.std.proofs.Common.{refl, sym}
use Rattle.std.proofs.lemmas.Bool.{false≢true}
use Rattle.audit_spared.specs.Fair.{block_1}
use Rattle.audit_spared.proofs.fair.laws.one_stray_of_a_read_is_left_out.Goals as goal

-- the server's block is the first that came in
pub returns-clause-server : goal.returns-clause-server
returns-clause-server c apart = false≢true (sym (apart block_1 refl))
