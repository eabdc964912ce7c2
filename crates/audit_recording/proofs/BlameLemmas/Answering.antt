-- The facts of the datagram that a verdict refuses.
use Rattle.std.proofs.Common.{◌≡◌, ℕ, Bool, true, List, [], Option, Some, Result, Ok, Err, sym, ap, subst, ◌∙◌}
use Rattle.law_end.specs.{Rule}
use Rattle.law_model.specs.Model.{Meaning}
use Rattle.law_tap.specs.{AreApart}
use Rattle.tftp_judge.specs.{Refusal}
use Rattle.tftp_judge.specs.declared.refusal.Refusal.TheVariants.{Unlawful, Aborted, Incomplete, NormalTooLong, Memory}
use Rattle.judge_tap.specs.{TapRefusal}
use Rattle.judge_tap.specs.declared.refusal.TapRefusal.TheVariants as tap
use Rattle.audit_flows.specs.{Transfer}
use Rattle.audit_views.specs.Parties.{host_name}
use Rattle.audit_views.specs.Views.{IsFoundBy, client_capture, client_header, server_capture, server_header}
use Rattle.audit_recording.specs.Between.{IsBetweenFoundBy, between_capture, sides_of}
use Rattle.audit_recording.specs.Judges.{points_of, rollover_of}
use Rattle.audit_recording.specs.Blame.Facts.{blamed_as, refused_between, refused_in}
use Rattle.audit_recording.specs.Blame.Frames.{Carried, framed, whole_of}
use Rattle.audit_recording.specs.Blame.Kept.{IsHeld, IsTrailBetween, IsTrailOf, blamed_in}
use Rattle.audit_recording.specs.declared.blame.blame.Blamed.{Blamed}
use Rattle.audit_recording.specs.declared.blame.trail.Trail.{Trail}
use Rattle.audit_recording.specs.declared.judges.judging.Judging.{Judging}
use Rattle.audit_recording.specs.declared.rows.row.Point.TheVariants as point

record IsUnlawful (v : Result Meaning Refusal) (number : ℕ) : Type 0 where
  pub rule : Rule
  pub is : v ≡ Err (Unlawful number rule)

unlawful_by : (v : Result Meaning Refusal) (number : ℕ) → refused_in v ≡ Some number → IsUnlawful v number
unlawful_by (Ok m) number is = absurd (cc)
unlawful_by (Err (Unlawful k rule)) number is = let same : k ≡ number = cc in record { rule = rule; is = ap (λ n. Err (Unlawful n rule)) same }
unlawful_by (Err (Aborted by code)) number is = absurd (cc)
unlawful_by (Err (Incomplete count)) number is = absurd (cc)
unlawful_by (Err NormalTooLong) number is = absurd (cc)
unlawful_by (Err (Memory count)) number is = absurd (cc)

record IsUnlawfulBetween (v : Result Meaning TapRefusal) (number : ℕ) : Type 0 where
  pub rule : Rule
  pub stands : Option Bool
  pub is : v ≡ Err (tap.Unlawful number rule stands)

between_by : (v : Result Meaning TapRefusal) (number : ℕ) → refused_between v ≡ Some number → IsUnlawfulBetween v number
between_by (Ok m) number is = absurd (cc)
between_by (Err (tap.Unlawful k rule stands)) number is = let same : k ≡ number = cc in record { rule = rule; stands = stands; is = ap (λ n. Err (tap.Unlawful n rule stands)) same }
between_by (Err (tap.Aborted by code)) number is = absurd (cc)
between_by (Err (tap.Incomplete count)) number is = absurd (cc)
between_by (Err tap.NormalTooLong) number is = absurd (cc)
between_by (Err (tap.Memory count)) number is = absurd (cc)

module _ (t : Trail) (judging : Judging) (x : Transfer) (named : List ℕ) (carried : List Carried) (number : ℕ) (result : Option Blamed) (was : IsTrailOf t judging x named carried) where
  pub blamed_at_client : (v : Result Meaning Refusal) → refused_in v ≡ Some number → (points_of judging x).client ≡ true
      → IsFoundBy (rollover_of judging) (client_header x) (client_capture host_name x (whole_of named carried)) v
      → (IsHeld t.blame.at_client number → result ≡ blamed_in point.Client x (whole_of named carried) (framed named carried) number)
      → result ≡ blamed_as point.Client x named carried (refused_in v)
  blamed_at_client v is there judged finds =
      let at = unlawful_by v number is in
      let said = (subst (IsFoundBy (rollover_of judging) (client_header x) (client_capture host_name x (whole_of named carried))) at.is judged) in
      finds ((was.blame.client there).enough [] number at.rule said.verdict) ∙ ap (blamed_as point.Client x named carried) (sym is)

  pub blamed_at_server : (v : Result Meaning Refusal) → refused_in v ≡ Some number → (points_of judging x).server ≡ true
      → IsFoundBy (rollover_of judging) (server_header x) (server_capture host_name x (whole_of named carried) (whole_of named carried)) v
      → (IsHeld t.blame.at_server number → result ≡ blamed_in point.Server x (whole_of named carried) (framed named carried) number)
      → result ≡ blamed_as point.Server x named carried (refused_in v)
  blamed_at_server v is there judged finds =
      let at = unlawful_by v number is in
      let said = (subst (IsFoundBy (rollover_of judging) (server_header x) (server_capture host_name x (whole_of named carried) (whole_of named carried))) at.is judged) in
      finds ((was.blame.server there).enough [] number at.rule said.verdict) ∙ ap (blamed_as point.Server x named carried) (sym is)

  pub blamed_between : (v : Result Meaning TapRefusal) → refused_between v ≡ Some number → IsTrailBetween t judging x named carried → (points_of judging x).between ≡ true → AreApart (sides_of x (whole_of named carried))
      → IsBetweenFoundBy (rollover_of judging) (sides_of x (whole_of named carried)) (between_capture x (whole_of named carried)) v
      → (IsHeld t.blame.between number → result ≡ blamed_in point.Between x (whole_of named carried) (framed named carried) number)
      → result ≡ blamed_as point.Between x named carried (refused_between v)
  blamed_between v is passed there apart judged finds =
      let at = between_by v number is in
      let said = subst (IsBetweenFoundBy (rollover_of judging) (sides_of x (whole_of named carried)) (between_capture x (whole_of named carried))) at.is judged in
      finds ((passed there).enough [] number at.rule (apart, at.stands, said)) ∙ ap (blamed_as point.Between x named carried) (sym is)
