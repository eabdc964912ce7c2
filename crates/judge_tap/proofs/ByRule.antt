-- A refusal by a rule that stands whatever is missing is certain.
use Rattle.std.proofs.Common.{◌≡◌, ◌+◌, ℕ, Bool, true, false, List, length, Option, Some, None, Result, Err, inl, inr, sym, subst, ap}
use Rattle.law_end.specs.{Rule}
use Rattle.law_tap.specs.{TapDatagram, TapSides, AreApart, BreaksNoTapRule, FirstTapBroken, StandsWhateverIsMissing, TapPasses}
use Rattle.law_tap.proofs.StandingRules.{standing_is_certain}
use Rattle.tftp_judge.specs.declared.pass_error.PassError.{PassError}
use Rattle.tftp_judge.specs.declared.pass_error.PassError.TheVariants.{Broken, Memory}
use Rattle.judge_tap.specs.{FindsAtTap, IsCertainByRule, IsStandingAtTap, IsStandingBy, IsTold, IsToldIfBroken, RefusesAtTap, TapRefusal, Unlawful}
use Rattle.judge_tap.specs.TapStops.{TakesMemoryAtTap}
use Rattle.judge_tap.specs.declared.refusal.TapRefusal.TheVariants.{Memory as WantsMemory}
use Rattle.judge_tap.proofs.ChangedFirst.{changed_alone}
use Rattle.judge_tap.proofs.ToldFound.{told_certain, told_not_certain}

pub certain_first : (s : TapSides) (earlier : List TapDatagram) (d : TapDatagram) (After : Type 0) (stop : PassError) (index : ℕ) (rule : Rule) (answer : Option Bool) (refusal : TapRefusal) → AreApart s → BreaksNoTapRule s earlier
    → FindsAtTap s earlier d After (Err stop) → stop ≡ Broken rule → refusal ≡ Unlawful index rule answer → IsCertainByRule s earlier d refusal
certain_first s earlier d After stop index rule answer refusal apart lawful found is told =
    let first : FirstTapBroken s earlier d rule = subst (λ x. FindsAtTap s earlier d After (Err x)) is found in
    subst (IsCertainByRule s earlier d) (sym told) (λ stands. standing_is_certain s earlier d rule apart lawful first.breaks stands)

-- what is answered of a refusal by its first rule
standing : (s : TapSides) (earlier : List TapDatagram) (d : TapDatagram) (rule : Rule) → AreApart s → BreaksNoTapRule s earlier → FirstTapBroken s earlier d rule → (told answer : Option Bool) → IsTold s earlier d told → IsStandingBy rule told answer
    → IsStandingAtTap s earlier d rule answer
standing s earlier d rule apart lawful first told answer are (inl (name, is)) = subst (IsStandingAtTap s earlier d rule) (sym is) (standing_is_certain s earlier d rule apart lawful first.breaks name)
standing s earlier d rule apart lawful first told answer are (inr (other, is)) = subst (IsStandingAtTap s earlier d rule) (sym is) (by told are) where
  by : (t : Option Bool) → IsTold s earlier d t → IsStandingAtTap s earlier d rule t
  by (Some true) t = told_certain s earlier d apart t
  by (Some false) t = (other, told_not_certain s earlier d apart lawful t (λ changed. other (subst StandsWhateverIsMissing (sym (changed_alone s apart earlier lawful d t changed rule first.breaks)) tt)))
  by None t = (other, t)

pub refuses_first : (s : TapSides) (earlier : List TapDatagram) (d : TapDatagram) (After : Type 0) (stop : PassError) (index : ℕ) (rule : Rule) (told answer : Option Bool) (refusal : TapRefusal) → AreApart s → BreaksNoTapRule s earlier
    → FindsAtTap s earlier d After (Err stop) → IsToldIfBroken s earlier d (Err stop) told → stop ≡ Broken rule → IsStandingBy rule told answer → index ≡ length earlier + 1 → refusal ≡ Unlawful index rule answer → RefusesAtTap s earlier d refusal
refuses_first s earlier d After stop index rule told answer refusal apart lawful found are is by counted made =
    let first : FirstTapBroken s earlier d rule = subst (λ x. FindsAtTap s earlier d After (Err x)) is found in
    let said : IsTold s earlier d told = subst (λ x. IsToldIfBroken s earlier d (Err x) told) is are in
    subst (RefusesAtTap s earlier d) (sym made) (counted, first, standing s earlier d rule apart lawful first told answer said by)

abbrev IsWanting : Result (Unit {0}) PassError → Type 0
IsWanting found = found ≡ Err Memory

pub wanting_first : (s : TapSides) (earlier : List TapDatagram) (d : TapDatagram) (After : Type 0) (stop : PassError) (count : ℕ) (refusal : TapRefusal) → FindsAtTap s earlier d After (Err stop) → stop ≡ Memory → count ≡ length earlier
    → (IsWanting (Err stop) → TakesMemoryAtTap s earlier d) → refusal ≡ WantsMemory count → RefusesAtTap s earlier d refusal
wanting_first s earlier d After stop count refusal found is counted takes made =
    let passes : TapPasses s earlier d = subst (λ x. FindsAtTap s earlier d After (Err x)) is found in
    subst (RefusesAtTap s earlier d) (sym made) (counted, passes, takes (ap (λ x. Err x) is))
