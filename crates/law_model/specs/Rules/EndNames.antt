-- The names of the rules of blocks and acknowledgements, as they are printed.
use Rattle.std.specs.Prelude.{ℕ, List, codes}
use Rattle.law_model.specs.declared.rules.rule.EndRule.{EndRule}
use Rattle.law_model.specs.declared.rules.rule.EndRule.TheVariants.{NotStarted, BlockZero, BeyondBlock65535, BlockLength, WindowOverrun, BlockSkipped, GoneBack, BlockChanged, AckAhead, AckZero}

abbrev pub end_name : EndRule → List ℕ
end_name NotStarted = codes "NotStarted"
end_name BlockZero = codes "BlockZero"
end_name BeyondBlock65535 = codes "BeyondBlock65535"
end_name BlockLength = codes "BlockLength"
end_name WindowOverrun = codes "WindowOverrun"
end_name BlockSkipped = codes "BlockSkipped"
end_name GoneBack = codes "GoneBack"
end_name BlockChanged = codes "BlockChanged"
end_name AckAhead = codes "AckAhead"
end_name AckZero = codes "AckZero"
