use Rattle.std.proofs.Common.{ap, decimal, ◌∙◌}
use Rattle.tftp_commands.proofs.count.put_count.Goals as goal

pub returns : goal.returns
returns g c = record { adds = rw (c.as_bytes.ensures.value ∙ c.format-number.ensures.text ∙ ap decimal c.normal_count.ensures.count) at c.add_all.ensures.adds }
