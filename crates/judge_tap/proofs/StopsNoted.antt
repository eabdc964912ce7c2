-- What is kept of the first ERROR of an end, and what that tells.
use Rattle.std.proofs.Common.{◌≡◌, ◌↔◌, ℕ, Bool, true, false, List, [], ◌∷◌, Some, None, inl, inr, refl, sym, subst, ◌∙◌, not}
use Rattle.std.specs.List.{list_any}
use Rattle.std.proofs.lemmas.Bool.{true≢false}
use Rattle.tftp_packet.specs.{Message, Spells, Side, Get, Put, End, Client, Server}
use Rattle.law_end.proofs.Division.Divided.{any_none, any_cases}
use Rattle.law_end.proofs.Division.RouteTests.{same_is}
use Rattle.law_tap.specs.{TapDatagram, TapSides, side_of, before_error, tap_tests, IsLateBlock, IsLateZero}
use Rattle.law_tap.proofs.KeptOf.{any_here, any_more, before_all}
use Rattle.law_tap.proofs.TapTests.{ends_says}
use Rattle.judge_tap.specs.{Marks, AreMarks, AreNotes, ErrorPassed, IsStop, IsStoppedBy, Notes, Stopped, stop_of, IsOtherError}

abbrev pub IsErrorFrom : TapSides → End → ℕ → List ℕ → TapDatagram → Type 0
IsErrorFrom s e code text x = (x.source ≡ side_of s e) × Spells x.payload (Message.Error code text)

module _ (s : TapSides) (e : End) where
  pub error_ends : (passed : List TapDatagram) (code : ℕ) (text : List ℕ) → ErrorPassed s e passed code text → list_any ((tap_tests s).ends e) passed ≡ true
  error_ends [] code text any = absurd (any_none (IsErrorFrom s e code text) any)
  error_ends (x ∷ passed) code text any = elim (any_cases (IsErrorFrom s e code text) x passed any) [
    | inl now ↦ any_here ((tap_tests s).ends e) x passed (rw (same_is x.source (side_of s e) now.0, ends_says x.payload (Message.Error code text) now.1) refl)
    | inr before ↦ any_more ((tap_tests s).ends e) x passed (error_ends passed code text before)
  ]

  module _ (passed : List TapDatagram) (notes : Notes) (are : AreNotes notes s passed) where
    pub none_usable : None ≡ stop_of notes e → AreMarks notes.seen.marks (before_error (tap_tests s) e passed)
    none_usable is = subst (AreMarks notes.seen.marks) (sym (before_all (tap_tests s) e passed (subst (IsStop s e passed) (sym is) (are.stops e)))) are.seen.marks

    pub other_none : None ≡ stop_of notes e → (code : ℕ) (text : List ℕ) → (false ≡ true) ↔ IsOtherError s passed e (Message.Error code text)
    other_none is code text = (
      λ never. absurd (true≢false (sym never)),
      λ (other, words, before, differs). absurd (true≢false (sym (error_ends passed other words before) ∙ subst (IsStop s e passed) (sym is) (are.stops e))),
    )

    pub other_some : (stopped : Stopped) → Some stopped ≡ stop_of notes e → (code : ℕ) (text : List ℕ) (b : Bool) → (b ≡ true) ↔ ((code ≡ stopped.code) × (text ≡ stopped.text))
        → (not b ≡ true) ↔ IsOtherError s passed e (Message.Error code text)
    other_some stopped is code text true same = (
      λ never. absurd (true≢false (sym never)),
      λ (other, words, before, differs). let one = by.one other words before in absurd (differs ((same.0 refl).0 ∙ sym one.0, (same.0 refl).1 ∙ sym one.1)),
    )
      where
        by : IsStoppedBy s e passed stopped
        by = subst (IsStop s e passed) (sym is) (are.stops e)
    other_some stopped is code text false same = (
      λ _. (stopped.code, stopped.text, by.sent, λ now. true≢false (sym (same.1 now))),
      λ _. refl,
    )
      where
        by : IsStoppedBy s e passed stopped
        by = subst (IsStop s e passed) (sym is) (are.stops e)

-- ---- flags

pub flag_not : (b : Bool) (P : Type 0) → (b ≡ true) ↔ P → (not b ≡ true) ↔ (P → ⊥)
flag_not true P is = (λ never. absurd (true≢false (sym never)), λ none. absurd (none (is.0 refl)))
flag_not false P is = (λ _ p. true≢false (sym (is.1 p)), λ _. refl)

module _ (s : TapSides) (passed : List TapDatagram) (marks : Marks) where
  pub late_block_is : (side : Side) → side ≡ Put → AreMarks marks (before_error (tap_tests s) Client passed) → (not marks.reply ≡ true) ↔ IsLateBlock s side passed
  late_block_is Put is are = flag_not marks.reply _ are.reply
  late_block_is Get is are = absurd (cc)

  pub late_zero_get : (side : Side) → side ≡ Get → AreMarks marks (before_error (tap_tests s) Client passed) → (not marks.oack ≡ true) ↔ IsLateZero s side passed
  late_zero_get Get is are = flag_not marks.oack _ are.oack
  late_zero_get Put is are = absurd (cc)

  pub late_zero_put : (side : Side) → side ≡ Put → (all : Marks) → AreMarks all passed → all.oack ≡ true → AreMarks marks (before_error (tap_tests s) Server passed) → (not marks.block ≡ true) ↔ IsLateZero s side passed
  late_zero_put Put is all those oacked are = let block = flag_not marks.block _ are.block in (λ on. (those.oack.0 oacked, block.0 on), λ late. block.1 late.1)
  late_zero_put Get is all those oacked are = absurd (cc)
