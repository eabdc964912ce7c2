use Rattle.tftp_commands.proofs.verdicts.put_refusal.Goals as goal

pub returns-in-NormalTooLong : goal.returns-in-NormalTooLong
returns-in-NormalTooLong g c = record { adds = rw c.in-NormalTooLong.is c.add.ensures.adds }

pub returns-in-Memory : goal.returns-in-Memory
returns-in-Memory g c = record { adds = rw c.in-Memory.is c.add-in-Memory.ensures.adds }
