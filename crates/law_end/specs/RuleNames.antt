-- The names of the rules, as they are printed.
use Rattle.std.specs.Prelude.{ℕ, List, codes}
use Rattle.tftp_nego.specs.{agreement_name}
use Rattle.law_model.specs.Rules.{port_name, end_name}
use Rattle.law_end.specs.declared.rule.Rule.{Rule}
use Rattle.law_end.specs.declared.rule.Rule.TheVariants.{Port, NoRequest, Malformed, WrongKind, AfterError, RequestChanged, RequestAfterStart, ReplyChanged, Agreement, OackChanged, OackAfterStart, Block}

-- a rule's own name; what is wrong with a payload is no part of it
abbrev pub rule_name : Rule → List ℕ
rule_name (Port rule) = port_name rule
rule_name NoRequest = codes "NoRequest"
rule_name (Malformed fault) = codes "Malformed"
rule_name WrongKind = codes "WrongKind"
rule_name AfterError = codes "AfterError"
rule_name RequestChanged = codes "RequestChanged"
rule_name RequestAfterStart = codes "RequestAfterStart"
rule_name ReplyChanged = codes "ReplyChanged"
rule_name (Agreement rule) = agreement_name rule
rule_name OackChanged = codes "OackChanged"
rule_name OackAfterStart = codes "OackAfterStart"
rule_name (Block rule) = end_name rule
