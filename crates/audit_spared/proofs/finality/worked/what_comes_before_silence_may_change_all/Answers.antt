use Rattle.std.proofs.Common.{true, [], ap, sym}
use Rattle.std.proofs.lemmas.Bool.{false≢true}
use Rattle.std.specs.List.{list_any}
use Rattle.audit_flows.specs.Lines.{Placed}
use Rattle.audit_flows.specs.Transfers.{has_port, placed}
use Rattle.audit_flows.specs.Transfers.Worked.{server}
use Rattle.audit_spared.specs.Finality.Worked.{asked, placed_block}
use Rattle.audit_spared.proofs.finality.worked.what_comes_before_silence_may_change_all.Goals as goal

-- the block is there still
pub returns-clause-not_silent : goal.returns-clause-not_silent
returns-clause-not_silent c silent = false≢true (sym (ap (list_any (λ (p : Placed). true)) silent))

-- the client goes on with who sent the block
pub returns-clause-other_doubts : goal.returns-clause-other_doubts
returns-clause-other_doubts c same = false≢true (same.at_client placed_block (placed [] asked))

-- the server has another port
pub returns-clause-not_final : goal.returns-clause-not_final
returns-clause-not_final c final = false≢true (ap (has_port server) final.who)
