-- The rules of blocks and acknowledgements by their numbers.
use Rattle.std.proofs.Common.{◌≡◌, ℕ, ◌+◌, ◌-◌, ◌<◌, ◌≤◌, List, length, get_or, refl, subst, arith}
use Rattle.std.specs.List.{AllByRecursion, Contains}
use Rattle.std.proofs.lemmas.List.Elements.{All-from_recursion, All-contains, Contains-get_or}
use Rattle.tftp_packet.specs.{Message, NoneBelow}
use Rattle.tftp_packet.proofs.FirstOf.{Unless, none_more as none_with, none_unless, first_unless}
use Rattle.tftp_packet.specs.Hosts.{Datagram}
use Rattle.law_model.specs.Rules.{end_number, end_rules, EndBroken, FirstEndBroken}
use Rattle.law_model.specs.declared.rules.rule.EndRule.{EndRule}
use Rattle.law_model.specs.declared.rules.rule.EndRule.TheVariants.{NotStarted}
use Rattle.law_model.specs.declared.rules.terms.Terms.{Terms}

-- the rule with this number
abbrev pub end_at : ℕ → EndRule
end_at n = get_or end_rules (n - 18) NotStarted

pub end_is : (rule : EndRule) → end_at (end_number rule) ≡ rule
end_is NotStarted = refl
end_is _ = refl

-- they stand behind all others
pub from_18 : (rule : EndRule) → 18 ≤ end_number rule
from_18 NotStarted = omega arith
from_18 _ = omega arith

is_within : (rule : EndRule) → end_number rule - 18 < length end_rules
is_within NotStarted = omega arith
is_within _ = omega arith

-- what holds of each in the list holds of every one
pub each_end : (P : EndRule → Type 0) → AllByRecursion P end_rules → (rule : EndRule) → P rule
each_end P all rule =
    All-contains P end_rules rule (All-from_recursion P end_rules all)
    (subst (Contains end_rules) (end_is rule) (Contains-get_or end_rules (end_number rule - 18) NotStarted (is_within rule)))

module _ (t : Terms) (passed : List Datagram) (m : Message) where
  abbrev pub Breaks : EndRule → Type 0
  Breaks rule = EndBroken t passed m rule

  -- the rule with this number is not broken either
  pub none_more : (n : ℕ) → NoneBelow end_number Breaks n → (Breaks (end_at n) → ⊥) → NoneBelow end_number Breaks (n + 1)
  none_more = none_with end_number Breaks end_at end_is

  -- none of so many rules is broken, if each is not
  pub none_of : (more : ℕ) → Unless end_number Breaks end_at end_is more 18 (NoneBelow end_number Breaks (18 + more))
  none_of = none_unless end_number Breaks end_at end_is 18 from_18

  -- a rule that is broken is the first, unless one before it is broken
  pub first_end : (rule : EndRule) → Breaks rule → Unless end_number Breaks end_at end_is (end_number rule - 18) 18 (FirstEndBroken t passed m rule)
  first_end = first_unless end_number Breaks end_at end_is 18 from_18
