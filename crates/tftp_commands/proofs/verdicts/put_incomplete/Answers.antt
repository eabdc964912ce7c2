use Rattle.std.proofs.Common.{◌∙◌}
use Rattle.tftp_commands.proofs.verdicts.put_incomplete.Goals as goal

pub returns : goal.returns
returns g c = record { adds = rw (c.as_bytes.ensures.value ∙ c.format.ensures.text) at c.add_all.ensures.adds }
