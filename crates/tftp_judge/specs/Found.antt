-- What is found of one datagram or message, by the rules that it may break.
use Rattle.std.specs.Prelude.{◌≡◌, ◌+◌, List, length, Result, Ok, Err}
use Rattle.tftp_packet.specs.{IsFirst}
use Rattle.tftp_packet.specs.Hosts.{Datagram, Header}
use Rattle.tftp_ends.specs.{PortFault, Rejection}
use Rattle.law_model.specs.{EndRule}
use Rattle.law_end.specs.{Passes, number_of, FirstBroken, Rule, Port, Agreement, Block}
use Rattle.tftp_nego.specs.{NegoFault}
use Rattle.tftp_judge.specs.Memory.{TakesMemory}
use Rattle.tftp_judge.specs.declared.refusal.Refusal.{Refusal}
use Rattle.tftp_judge.specs.declared.refusal.Refusal.TheVariants as refusal
use Rattle.tftp_judge.specs.declared.pass_error.PassError.{PassError}
use Rattle.tftp_judge.specs.declared.pass_error.PassError.TheVariants.{Broken, Memory}

abbrev pub NoneBreaks : (Rule → Type 0) → Type 0
NoneBreaks Breaks = (rule : Rule) → Breaks rule → ⊥

-- the rule is the first of those that are broken
abbrev pub IsFirstOf : (Rule → Type 0) → Rule → Type 0
IsFirstOf Breaks rule = IsFirst number_of Breaks rule

-- No rule is broken, and then this holds; or the first that is; or memory runs out, where none is broken.
abbrev pub Finds : (Rule → Type 0) → Type 0 → Result (Unit {0}) PassError → Type 0
Finds Breaks After (Ok _) = NoneBreaks Breaks × After
Finds Breaks After (Err (Broken rule)) = IsFirstOf Breaks rule
Finds Breaks After (Err Memory) = NoneBreaks Breaks

-- the same of a datagram after those before it
abbrev pub FindsOf : Header → List Datagram → Datagram → Type 0 → Result (Unit {0}) PassError → Type 0
FindsOf h earlier d After (Ok _) = Passes h earlier d × After
FindsOf h earlier d After (Err (Broken rule)) = FirstBroken h earlier d rule
FindsOf h earlier d After (Err Memory) = Passes h earlier d

-- The refusal of the datagram after those that were fed. Memory is wanting only for one that breaks no rule, and for which
-- memory is taken.
abbrev pub Refuses : Header → List Datagram → Datagram → Refusal → Type 0
Refuses h earlier d (refusal.Unlawful index rule) = (index ≡ length earlier + 1) × FirstBroken h earlier d rule
Refuses h earlier d (refusal.Memory count) = (count ≡ length earlier) × Passes h earlier d × TakesMemory h earlier d
Refuses h earlier d _ = ⊥

-- why an OACK may not be agreed to, among all reasons
abbrev pub error_of_fault : NegoFault → PassError
error_of_fault (NegoFault.Broken rule) = Broken (Agreement rule)
error_of_fault NegoFault.BeyondBlock65535 = Broken (Block EndRule.BeyondBlock65535)
error_of_fault NegoFault.Memory = Memory

-- why a datagram does not pass by its ports, among all reasons
abbrev pub error_by_port : PortFault → PassError
error_by_port (PortFault.Broken rule) = Broken (Port rule)
error_by_port PortFault.Memory = Memory

-- why a packet does not pass at the named end, among all reasons
abbrev pub error_of_rejection : Rejection → PassError
error_of_rejection (Rejection.Broken rule) = Broken (Block rule)
error_of_rejection Rejection.Memory = Memory
