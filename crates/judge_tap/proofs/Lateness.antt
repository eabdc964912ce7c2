-- What a message breaks by itself, by its kind.
use Rattle.std.proofs.Common.{◌≡◌, ◌⊎◌, ℕ, ◌+◌, ◌<◌, ◌≤◌, List, Option, Some, None, inl, inr, refl, sym, subst, arith}
use Rattle.tftp_packet.specs.{Message, RequestParts, Side, End, Client, Server}
use Rattle.law_model.specs.Model.Roles.{receiver_of}
use Rattle.law_model.specs.{EndRule}
use Rattle.law_end.specs.{IsWrongKind, number_of, Rule}
use Rattle.law_end.specs.declared.rule.Rule.TheVariants as rule
use Rattle.law_tap.specs.{TapDatagram, TapSides, before_error, tap_tests, LateBreaks, IsLateAck, IsLateZero, IsLateBlock}
use Rattle.judge_tap.specs.{Marks, AreMarks, FindsRule, IsOtherError, IsOtherRequest, MessageBreaks}

module _ (s : TapSides) (side : Side) (passed : List TapDatagram) where
  late_data : (k : ℕ) (bytes : List ℕ) (r : Rule) → LateBreaks s side passed (Message.Data k bytes) r → (r ≡ (rule.Block EndRule.NotStarted)) × IsLateBlock s side passed
  late_data k bytes (rule.Block EndRule.NotStarted) b = (refl, b)
  late_data k bytes r b = absurd b

  late_ack : (j : ℕ) (r : Rule) → LateBreaks s side passed (Message.Ack j) r
      → ((r ≡ (rule.Block EndRule.AckAhead)) × IsLateAck s side passed j) ⊎ ((r ≡ (rule.Block EndRule.AckZero)) × (j ≡ 0) × IsLateZero s side passed)
  late_ack j (rule.Block EndRule.AckAhead) b = inl (refl, b)
  late_ack j (rule.Block EndRule.AckZero) b = inr (refl, b.0, b.1)
  late_ack j r b = absurd b

  late_request : (q : RequestParts) (r : Rule) → LateBreaks s side passed (Message.Request q) r → ⊥
  late_request q r b = b

  late_oack : (options : _) (r : Rule) → LateBreaks s side passed (Message.Oack options) r → ⊥
  late_oack options r b = b

  late_error : (code : ℕ) (text : List ℕ) (r : Rule) → LateBreaks s side passed (Message.Error code text) r → ⊥
  late_error code text r b = b

  late_high : (m : Message) (r : Rule) → LateBreaks s side passed m r → 18 ≤ number_of r
  late_high (Message.Data k bytes) r b = subst (λ x. 18 ≤ number_of x) (sym (late_data k bytes r b).0) (omega arith)
  late_high (Message.Ack j) r b = elim (late_ack j r b) [ inl ahead ↦ subst (λ x. 18 ≤ number_of x) (sym ahead.0) (omega arith) | inr none ↦ subst (λ x. 18 ≤ number_of x) (sym none.0) (omega arith) ]
  late_high (Message.Request q) r b = absurd (late_request q r b)
  late_high (Message.Oack options) r b = absurd (late_oack options r b)
  late_high (Message.Error code text) r b = absurd (late_error code text r b)

-- ---- an ACK, by what had passed before the receiver's ERROR

module _ (s : TapSides) (side : Side) (passed : List TapDatagram) (marks : Marks) (are : AreMarks marks (before_error (tap_tests s) (receiver_of side) passed)) (j : ℕ) where
  pub ahead_found : j ≤ 4294967295 → marks.front < j → FindsRule (LateBreaks s side passed (Message.Ack j)) (Some (rule.Block EndRule.AckAhead))
  ahead_found fits high = (
    (marks.front + 1, omega arith, omega (arith, high), are.next (omega (arith, fits, high))),
    λ other low b. elim (late_ack s side passed j other b) [ inl same ↦ omega (arith, subst (λ x. number_of x < 26) same.0 low) | inr same ↦ omega (arith, subst (λ x. number_of x < 26) same.0 low) ],
  )

  not_ahead : j ≤ marks.front → IsLateAck s side passed j → ⊥
  not_ahead low (k, one, high, never) = never (are.below k one (omega (arith, high, low)))

  pub none_found : j ≤ marks.front → (j ≡ 0 → IsLateZero s side passed → ⊥) → FindsRule (LateBreaks s side passed (Message.Ack j)) None
  none_found low in_time = λ other b. elim (late_ack s side passed j other b) [ inl same ↦ not_ahead low same.1 | inr same ↦ in_time same.1 same.2 ]

-- ---- a message that its end may send

module _ (s : TapSides) (asked : RequestParts) (passed : List TapDatagram) (e : End) where
  module _ (m : Message) (right : IsWrongKind e asked.side m → ⊥) where
    -- where it breaks none of two, it breaks what is late
    pub late_found : (IsOtherError s passed e m → ⊥) → (IsOtherRequest asked e m → ⊥) → (found : Option Rule) → FindsRule (LateBreaks s asked.side passed m) found → FindsRule (MessageBreaks s asked passed e m) found
    late_found error request None none = λ r b. elim b [
      | inl is ↦ right is.1
      | inr more ↦ elim more [ inl is ↦ error is.1 | inr rest ↦ elim rest [ inl is ↦ request is.1 | inr late ↦ none r late ] ]
    ]
    late_found error request (Some found) is = (
      inr (inr (inr is.0)),
      λ r low b. elim b [
        | inl is_wrong ↦ right is_wrong.1
        | inr more ↦ elim more [ inl is_other ↦ error is_other.1 | inr rest ↦ elim rest [ inl is_other ↦ request is_other.1 | inr late ↦ is.1 r low late ] ]
      ],
    )

    pub error_found : IsOtherError s passed e m → FindsRule (MessageBreaks s asked passed e m) (Some rule.AfterError)
    error_found is = (
      inr (inl (refl, is)),
      λ r low b. elim b [
        | inl is_wrong ↦ right is_wrong.1
        | inr more ↦ elim more [
          | inl same ↦ omega (arith, subst (λ x. number_of x < 7) same.0 low)
          | inr rest ↦ elim rest [ inl same ↦ omega (arith, subst (λ x. number_of x < 7) same.0 low) | inr late ↦ let high = late_high s asked.side passed m r late in omega (arith, high, low) ]
        ]
      ],
    )

-- ---- what messages of a kind do not break

pub no_late_error : (s : TapSides) (side : Side) (passed : List TapDatagram) (code : ℕ) (text : List ℕ) → FindsRule (LateBreaks s side passed (Message.Error code text)) None
no_late_error s side passed code text = λ r b. late_error s side passed code text r b

pub no_other_request_error : (asked : RequestParts) (e : End) (code : ℕ) (text : List ℕ) → IsOtherRequest asked e (Message.Error code text) → ⊥
no_other_request_error asked Client code text is = is
no_other_request_error asked Server code text is = is

pub no_other_request_ack : (asked : RequestParts) (e : End) (j : ℕ) → IsOtherRequest asked e (Message.Ack j) → ⊥
no_other_request_ack asked Client j is = is
no_other_request_ack asked Server j is = is

pub no_other_error_ack : (s : TapSides) (passed : List TapDatagram) (e : End) (j : ℕ) → IsOtherError s passed e (Message.Ack j) → ⊥
no_other_error_ack s passed e j is = is
