-- The verdict by the runs of two ends is the verdict by the rules at one.
use Rattle.std.proofs.Common.{ℕ, List, Result, Ok, Err, reverse, ◌↔◌}
use Rattle.tftp_packet.specs.Hosts.{Datagram, Header}
use Rattle.law_model.specs.Model.{Meaning}
use Rattle.law_end.specs.{IsLawful, ShowsBy, OneEnded, Meant}
use Rattle.tftp_judge.specs.{Refusal, Unlawful, Aborted, Incomplete, NormalTooLong, IsVerdictBy, IsVerdict, IsVerdictByRules}
use Rattle.tftp_judge.specs.declared.refusal.Refusal.TheVariants.{Memory}
use Rattle.law_end.proofs.Whole.TwoEnds.{lawful, whole}

-- by two laws that are the same, the verdicts are

module _ (Lawful Legal : List Datagram → Type 0) (Shown Said : Meaning → List Datagram → Type 0)
    (there : (ds : List Datagram) → Lawful ds → Legal ds) (back : (ds : List Datagram) → Legal ds → Lawful ds)
    (said : (m : Meaning) (ds : List Datagram) → Shown m ds → Said m ds) (unsaid : (m : Meaning) (ds : List Datagram) → Said m ds → Shown m ds) where
  carried : (h : Header) (ds : List Datagram) (v : Result Meaning Refusal) → IsVerdictBy Lawful Shown h ds v → IsVerdictBy Legal Said h ds v
  carried h ds (Ok m) (lawful, shown, writable) = (there ds lawful, said m ds shown, writable)
  carried h ds (Err (Unlawful index rule)) at = record {
    before = at.before;
    datagram = at.datagram;
    rest = at.rest;
    split = at.split;
    index_is = at.index_is;
    lawful = there at.before at.lawful;
    unlawful = λ legal. at.unlawful (back _ legal);
    broken = at.broken;
  }
  carried h ds (Err (Aborted by code)) (lawful, none, is) = (there ds lawful, (λ m shown. none m (unsaid m ds shown)), is)
  carried h ds (Err (Incomplete count)) (lawful, none, going, is) = (there ds lawful, (λ m shown. none m (unsaid m ds shown)), going, is)
  carried h ds (Err NormalTooLong) (lawful, (m, shown), long) = (there ds lawful, (m, said m ds shown), λ n is writable. long n (unsaid n ds is) writable)
  carried h ds (Err (Memory count)) (lawful, ended, is) = (there ds lawful, ended, is)

-- the law of two ends, and that of the rules
pub verdict : (h : Header) (ds : List Datagram) (v : Result Meaning Refusal) → IsVerdict h ds v ↔ IsVerdictByRules h ds v
verdict h ds v = (
  carried (IsLawful h) (λ xs. OneEnded h (reverse xs)) (λ m xs. (wire : List ℕ) × ShowsBy h m wire xs) (λ m xs. Meant h (reverse xs) m)
      (λ xs. (lawful h xs).0) (λ xs. (lawful h xs).1) (λ m xs. (whole h m xs).1) (λ m xs. (whole h m xs).0) h ds v,
  carried (λ xs. OneEnded h (reverse xs)) (IsLawful h) (λ m xs. Meant h (reverse xs) m) (λ m xs. (wire : List ℕ) × ShowsBy h m wire xs)
      (λ xs. (lawful h xs).1) (λ xs. (lawful h xs).0) (λ m xs. (whole h m xs).0) (λ m xs. (whole h m xs).1) h ds v,
)
