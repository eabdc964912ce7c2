-- The code's answer, as the law names it.
use Rattle.tftp_ends.specs.declared.blocks.delivered.PutOutcome.{PutOutcome}
use Rattle.tftp_ends.specs.declared.blocks.delivered.PutOutcome.TheVariants as variant
use Rattle.tftp_ends.specs.Blocks.Store.{Placing, New, Same, Differs}

abbrev pub placing : PutOutcome → Placing
placing variant.New = New
placing variant.Same = Same
placing variant.Differs = Differs
