-- The datagram that a verdict at an end refuses, and those before it. Lists have the newest first.
use Rattle.std.proofs.Common.{◌≡◌, ℕ, ◌+◌, List, ◌∷◌, [], ◌++◌, Err, sym, ap, ◌∙◌, arith, append_assoc, length, reverse}
use Rattle.std.proofs.lemmas.List.{length-reverse, reverse-append, reverse-reverse}
use Rattle.tftp_packet.specs.Hosts.{Datagram, Header}
use Rattle.law_end.specs.{IsRefused, Rule}
use Rattle.law_end.proofs.Completeness.RunsBreakNoRule.{run_keeps}
use Rattle.tftp_judge.specs.{IsVerdict}
use Rattle.tftp_judge.specs.declared.refusal.Refusal.TheVariants as refusal
use Rattle.audit_rows.proofs.GoneOn.{IsDivided}

pub record IsOf (h : Header) (given : List Datagram) (number : ℕ) (broken : Rule) : Type 0 where
  pub later : List Datagram
  pub datagram : Datagram
  pub earlier : List Datagram
  pub are : given ≡ later ++ datagram ∷ earlier
  pub number_is : number ≡ length earlier + 1
  pub refused : IsRefused h earlier datagram broken
  pub divided : IsDivided h earlier

turned : (before rest : List Datagram) (d : Datagram) → reverse (before ++ d ∷ rest) ≡ reverse rest ++ d ∷ reverse before
turned before rest d =
    reverse-append before (d ∷ rest)
    ∙ ap (λ l. l ++ reverse before) (reverse-append (d ∷ []) rest)
    ∙ append_assoc (reverse rest) (d ∷ []) (reverse before)

pub of_verdict : (h : Header) (given : List Datagram) (number : ℕ) (broken : Rule) → IsVerdict h (reverse given) (Err (refusal.Unlawful number broken)) → IsOf h given number broken
of_verdict h given number broken is =
    let (m, wire, seen) = is.lawful in
    record {
      later = reverse is.rest;
      datagram = is.datagram;
      earlier = reverse is.before;
      are = sym (reverse-reverse given) ∙ ap reverse is.split ∙ turned is.before is.rest is.datagram;
      number_is = let long = length-reverse is.before in let at = is.index_is in omega (arith, long, at);
      refused = record { lawful = (run_keeps h m wire is.before seen).0; broken = is.broken };
      divided = record { meaning = m; wire = wire; ids = seen.dressed.ids; division = seen.dressed.division; whole = seen.dressed.whole; labels = seen.dressed.labels };
    }
