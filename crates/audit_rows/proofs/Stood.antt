-- A refusal that is said to stand is certain.
use Rattle.std.proofs.Common.{◌≡◌, ℕ, Bool, true, false, List, Option, Some, None, Ok, Err, refl, sym, subst}
use Rattle.tftp_packet.specs.{Rollover}
use Rattle.judge_tap.specs.{IsStandingAtTap}
use Rattle.judge_tap.specs.declared.refusal.TapRefusal.TheVariants as tap
use Rattle.audit_flows.specs.Lines.{Placed}
use Rattle.audit_flows.specs.{Transfer}
use Rattle.audit_recording.specs.Between.{sides_of}
use Rattle.audit_recording.specs.declared.blame.blame.Blamed.{Blamed}
use Rattle.audit_recording.specs.declared.blame.named.Named.{Named}
use Rattle.audit_recording.specs.declared.rows.row.Point.{Point}
use Rattle.audit_recording.specs.declared.rows.row.Point.TheVariants as point
use Rattle.audit_rows.specs.Standing.{IsCertainAt, IsOpenAt}
use Rattle.audit_rows.specs.Viewing.{IsFoundAt, IsStandingAlone, IsStandingAs, IsStandingBy, number_in, where_asked_once}
use Rattle.audit_rows.specs.declared.found.Found.{Found}
use Rattle.audit_rows.specs.declared.found.Found.TheVariants.{AtEnd, Between}

-- what is said to stand or not does so by the transfer's own datagrams alone
said_alone : (more : Bool) (alone : Option Bool) (stands : Bool) → Some stands ≡ where_asked_once more alone → alone ≡ Some stands
said_alone false alone stands is = sym is
said_alone true None stands is = sym is
said_alone true (Some true) stands is = let no : Some stands ≡ None = is in absurd (cc)
said_alone true (Some false) stands is = sym is

pub alone_as : (at : Point) (x : Transfer) (more : Bool) (options : Named) (b : Option Blamed) (found : Found) (stands : Bool) → IsStandingAs at x more options b found (Some stands)
    → IsStandingAlone at x options b found (Some stands)
alone_as at x more options b found stands (alone, is, said) = subst (IsStandingAlone at x options b found) (said_alone more alone stands said) is

module _ (x : Transfer) (whole : List Placed) where
  certain_at : (options : Named) (b : Option Blamed) (found : Found) → IsFoundAt None point.Between x whole found → IsStandingAlone point.Between x options b found (Some true) → (number : ℕ) × (number_in found ≡ Some number) × IsCertainAt x whole number
  certain_at options b (AtEnd said) is stands = absurd is
  certain_at options b (Between (Ok m)) is stands = let no : Some true ≡ None = stands in absurd (cc)
  certain_at options b (Between (Err (tap.Unlawful number rule told))) is stands =
      let at : IsStandingAtTap (sides_of x whole) is.earlier is.datagram rule (Some true) = subst (IsStandingAtTap (sides_of x whole) is.earlier is.datagram rule) (sym stands) is.refused.2 in
      (number, refl, (is.earlier, is.datagram, record { later = is.later; are = is.are; number_is = is.refused.0 }, at))
  certain_at options b (Between (Err (tap.Aborted by code))) is stands = let no : Some true ≡ None = stands in absurd (cc)
  certain_at options b (Between (Err (tap.Incomplete count))) is stands = let no : Some true ≡ None = stands in absurd (cc)
  certain_at options b (Between (Err tap.NormalTooLong)) is stands = let no : Some true ≡ None = stands in absurd (cc)
  certain_at options b (Between (Err (tap.Memory count))) is stands = let no : Some true ≡ None = stands in absurd (cc)

  open_at : (options : Named) (b : Option Blamed) (found : Found) → IsFoundAt None point.Between x whole found → IsStandingAlone point.Between x options b found (Some false) → (number : ℕ) × (number_in found ≡ Some number) × IsOpenAt x whole number
  open_at options b (AtEnd said) is stands = absurd is
  open_at options b (Between (Ok m)) is stands = let no : Some false ≡ None = stands in absurd (cc)
  open_at options b (Between (Err (tap.Unlawful number rule told))) is stands =
      let at : IsStandingAtTap (sides_of x whole) is.earlier is.datagram rule (Some false) = subst (IsStandingAtTap (sides_of x whole) is.earlier is.datagram rule) (sym stands) is.refused.2 in
      (number, refl, (is.earlier, is.datagram, record { later = is.later; are = is.are; number_is = is.refused.0 }, at.1))
  open_at options b (Between (Err (tap.Aborted by code))) is stands = let no : Some false ≡ None = stands in absurd (cc)
  open_at options b (Between (Err (tap.Incomplete count))) is stands = let no : Some false ≡ None = stands in absurd (cc)
  open_at options b (Between (Err tap.NormalTooLong)) is stands = let no : Some false ≡ None = stands in absurd (cc)
  open_at options b (Between (Err (tap.Memory count))) is stands = let no : Some false ≡ None = stands in absurd (cc)

  pub certain_by : (o : Option Rollover) (more : Bool) (options : Named) (b : Option Blamed) (found : Found) → IsFoundAt o point.Between x whole found → IsStandingBy o point.Between x more options b found (Some true)
      → (number : ℕ) × (number_in found ≡ Some number) × IsCertainAt x whole number
  certain_by None more options b found is stands = certain_at options b found is (alone_as point.Between x more options b found true stands)
  certain_by (Some rollover) more options b found is stands = let no : Some true ≡ None = stands in absurd (cc)

  pub open_by : (o : Option Rollover) (more : Bool) (options : Named) (b : Option Blamed) (found : Found) → IsFoundAt o point.Between x whole found → IsStandingBy o point.Between x more options b found (Some false)
      → (number : ℕ) × (number_in found ≡ Some number) × IsOpenAt x whole number
  open_by None more options b found is stands = open_at options b found is (alone_as point.Between x more options b found false stands)
  open_by (Some rollover) more options b found is stands = let no : Some false ≡ None = stands in absurd (cc)
