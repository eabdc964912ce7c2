-- What breaks a rule is in no run, by the law that the rules are the runs.
use Rattle.std.proofs.Common.{◌≡◌, ℕ, ◌+◌, List, [], ◌∷◌, ◌++◌, length, reverse, Err, refl, subst}
use Rattle.tftp_packet.specs.Hosts.{Datagram, Header}
use Rattle.law_end.specs.{OneEnded, IsRefused, Rule}
use Rattle.law_end.proofs.FirstBroken.FirstBroken.{refused_does_not_pass}
use Rattle.tftp_judge.specs.{IsVerdict, IsVerdictByRules, Unlawful}
use Rattle.tftp_judge.proofs.ByRuns.{verdict}

-- whatever follows it
pub refused_by_rules : (h : Header) (before : List Datagram) (d : Datagram) (rest : List Datagram) (rule : Rule) (index : ℕ) → reverse (before ++ d ∷ []) ≡ d ∷ reverse before → index ≡ length before + 1
    → IsRefused h (reverse before) d rule → IsVerdictByRules h (before ++ d ∷ rest) (Err (Unlawful index rule))
refused_by_rules h before d rest rule index turned is refused = record {
  before = before;
  datagram = d;
  rest = rest;
  split = refl;
  index_is = is;
  lawful = refused.lawful;
  unlawful = λ passes. refused_does_not_pass h (reverse before) d rule refused (subst (OneEnded h) turned passes);
  broken = refused.broken;
}

pub refused_verdict : (h : Header) (before : List Datagram) (d : Datagram) (rule : Rule) (index : ℕ) → reverse (before ++ d ∷ []) ≡ d ∷ reverse before → index ≡ length before + 1 → IsRefused h (reverse before) d rule
    → IsVerdict h (before ++ d ∷ []) (Err (Unlawful index rule))
refused_verdict h before d rule index turned is refused = (verdict h (before ++ d ∷ []) (Err (Unlawful index rule))).1 (refused_by_rules h before d [] rule index turned is refused)
