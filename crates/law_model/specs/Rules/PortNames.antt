-- The rules of ports: their numbers, in the order in which they are tried, and their names, as they are printed.
use Rattle.std.specs.Prelude.{ℕ, List, codes}
use Rattle.law_model.specs.declared.rules.port_rule.PortRule.{PortRule}
use Rattle.law_model.specs.declared.rules.port_rule.PortRule.TheVariants.{Foreign, Wrong, BadAnswer}

abbrev pub port_number : PortRule → ℕ
port_number Foreign = 1
port_number Wrong = 2
port_number BadAnswer = 3

abbrev pub port_name : PortRule → List ℕ
port_name Foreign = codes "ForeignPort"
port_name Wrong = codes "WrongPort"
port_name BadAnswer = codes "StrayAnswer"
