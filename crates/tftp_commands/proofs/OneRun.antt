-- The output of a run is one, or that of being out of memory.
use Rattle.std.proofs.Common.{◌≡◌, ◌⊎◌, inl, inr, ℕ, ◌++◌, List, [], ◌∷◌, Bool, true, false, true≢false, Option, None, Some, Result, Ok, Err, refl, sym, ap, ◌∙◌}
use Rattle.std.specs.List.{AllByRecursion}
use Rattle.std.specs.Str.{bytes_eq}
use Rattle.std.proofs.lemmas.Slice.Eq.{bytes_eq-Decides}
use Rattle.tftp_capture.specs.declared.fault.CaptureFault.TheVariants.{Text, Read, Memory}
use Rattle.tftp_packet.specs.{Rollover, Zero, One}
use Rattle.law_model.specs.Model.{Meaning}
use Rattle.tftp_judge.specs.declared.refusal.Refusal.TheVariants as refusal
use Rattle.tftp_judge.specs.{Verdict, Capture, Refused}
use Rattle.tftp_commands.specs.{Action, Check, Extract, Normal, Show, Count, checked, counted, extracted, normalised, IsMemoryOutput, IsNoMemoryEnding, IsNormalised, IsUnwritten, SaysNoMemory, TellsOfMemory, Output, IsOutput, IsOutputOf, Cut, Ending, Faulty, Whole, last_line, status_of, Source, IsCommand, IsNoCommand, name_of, option_words, rollover_of}
use Rattle.tftp_commands.proofs.OneOutput.{OneVerdict, one_checked, one_counted, one_extracted, one_normalised}
use Rattle.tftp_commands.proofs.OneShown.{one_shown}

-- ---- what says that memory ran out

-- the outputs of what is said, where it is being out of memory
pub record WantsMemory (said : Result Meaning Verdict) : Type 0 where
  pub check : (rollover : Option Rollover) → IsMemoryOutput (Check rollover) (checked said)
  pub extract : (rollover : Option Rollover) → IsMemoryOutput (Extract rollover) (extracted said)
  pub normal : (rollover : Option Rollover) → IsMemoryOutput (Normal rollover) (normalised rollover said)
  pub count : (rollover : Option Rollover) → IsMemoryOutput (Count rollover) (counted said)

told : (said : Result Meaning Verdict) → SaysNoMemory said ⊎ WantsMemory said
told (Ok m) = inl (inl tt)
told (Err (Refused (refusal.Unlawful index rule))) = inl (inl tt)
told (Err (Refused (refusal.Aborted by code))) = inl (inl tt)
told (Err (Refused (refusal.Incomplete count))) = inl (inl tt)
told (Err (Refused refusal.NormalTooLong)) = inl (inl tt)
told (Err (Capture (Text line fault))) = inl (inl tt)
told (Err (Capture (Read line))) = inl (inr tt)
told (Err _) = inr (record { check = λ _. refl; extract = λ _. refl; normal = λ _. refl; count = λ _. refl })

abbrev ShownMemory : Option Rollover → Ending → Type 0
ShownMemory rollover ending = (lines : List ℕ) → IsMemoryOutput (Show rollover) (record { bytes = lines ++ last_line ending; status = status_of ending })

ending_told : (rollover : Option Rollover) (ending : Ending) → IsNoMemoryEnding ending ⊎ ShownMemory rollover ending
ending_told rollover (Faulty (Memory line)) = inr (λ lines. (lines, refl))
ending_told rollover (Faulty (Text line fault)) = inl tt
ending_told rollover (Faulty (Read line)) = inl tt
ending_told rollover Whole = inl tt
ending_told rollover Cut = inl tt

-- ---- of a command

abbrev OneOf : Action → Output → Output → Type 0
OneOf action one other = (one ≡ other) ⊎ IsMemoryOutput action one ⊎ IsMemoryOutput action other

-- from what is said, if each saying gives an output, and two that say nothing of memory the same
module _ (action : Action) (one other : Output) {P Q S T : Type 0} where
  either : P ⊎ S → Q ⊎ T → (P → Q → one ≡ other) → (S → IsMemoryOutput action one) → (T → IsMemoryOutput action other) → OneOf action one other
  either (inl p) (inl q) same first second = inl (same p q)
  either (inr s) q same first second = inr (inl (first s))
  either (inl p) (inr t) same first second = inr (inr (second t))

module _ (one_verdict : OneVerdict) (source : Source) where
  one_normal : (rollover : Option Rollover) (one other : Output) → IsNormalised rollover source one ⊎ IsUnwritten rollover source one
      → IsNormalised rollover source other ⊎ IsUnwritten rollover source other → OneOf (Normal rollover) one other
  one_normal rollover one other (inl first) (inl second) =
      either (Normal rollover) one other (told first.said) (told second.said) (one_normalised one_verdict source rollover one other first second) (λ w. first.is ∙ w.normal rollover) (λ w. second.is ∙ w.normal rollover)
  one_normal rollover one other (inr unwritten) second = inr (inl unwritten.2)
  one_normal rollover one other (inl first) (inr unwritten) = inr (inr unwritten.2)

  one_of : (action : Action) (one other : Output) → IsOutputOf action source false one → IsOutputOf action source false other → OneOf action one other
  one_of (Check rollover) one other first second =
      either (Check rollover) one other (told first.said) (told second.said) (one_checked one_verdict source rollover one other first second) (λ w. first.is ∙ w.check rollover) (λ w. second.is ∙ w.check rollover)
  one_of (Extract rollover) one other first second =
      either (Extract rollover) one other (told first.said) (told second.said) (one_extracted one_verdict source rollover one other first second) (λ w. first.is ∙ w.extract rollover) (λ w. second.is ∙ w.extract rollover)
  one_of (Normal rollover) one other first second = one_normal rollover one other first second
  one_of (Show rollover) one other first second =
      either (Show rollover) one other (ending_told rollover first.ending) (ending_told rollover second.ending) (one_shown rollover source one other first second)
      (λ w. (let m = w first.lines in (m.0, first.is ∙ m.1))) (λ w. (let m = w second.lines in (m.0, second.is ∙ m.1)))
  one_of (Count rollover) one other first second =
      either (Count rollover) one other (told first.said) (told second.said) (one_counted one_verdict source rollover one other first second) (λ w. first.is ∙ w.count rollover) (λ w. second.is ∙ w.count rollover)

-- ---- of words

is_or_not : (word name : List ℕ) → (word ≡ name) ⊎ (word ≡ name → ⊥)
is_or_not word name = by (bytes_eq word name) refl
  where
    by : (b : Bool) → b ≡ bytes_eq word name → (word ≡ name) ⊎ (word ≡ name → ⊥)
    by true is = inl ((bytes_eq-Decides word name).0 (sym is))
    by false is = inr (λ e. true≢false (sym ((bytes_eq-Decides word name).1 e) ∙ sym is))

first_same : (w v : List ℕ) (ws vs : List (List ℕ)) → w ∷ ws ≡ v ∷ vs → w ≡ v
first_same w v ws vs e = cc

rest_same : (w v : List ℕ) (ws vs : List (List ℕ)) → w ∷ ws ≡ v ∷ vs → ws ≡ vs
rest_same w v ws vs e = cc

are_or_not : (words names : List (List ℕ)) → (words ≡ names) ⊎ (words ≡ names → ⊥)
are_or_not [] [] = inl refl
are_or_not [] (v ∷ vs) = inr (λ e. cc)
are_or_not (w ∷ ws) [] = inr (λ e. cc)
are_or_not (w ∷ ws) (v ∷ vs) = elim (is_or_not w v) [
  | inr other ↦ inr (λ e. other (first_same w v ws vs e))
  | inl same ↦ elim (are_or_not ws vs) [
    | inl rest ↦ inl (ap (λ x. x ∷ ws) same ∙ ap (λ x. v ∷ x) rest)
    | inr other ↦ inr (λ e. other (rest_same w v ws vs e))
  ]
]

-- the words are a command, or none
abbrev Decided : List (List ℕ) → Type 0
Decided words = ((action : Action) × IsCommand action words) ⊎ IsNoCommand words

-- the words after the program's name
abbrev words_of : Action → List (List ℕ)
words_of action = name_of action ∷ option_words (rollover_of action)

-- the words are those of one of these, or of none
named : (words : List (List ℕ)) (actions : List Action) → ((action : Action) × (words ≡ words_of action)) ⊎ AllByRecursion (λ action. words ≡ words_of action → ⊥) actions
named words [] = inr tt
named words (a ∷ actions) =
    elim (are_or_not words (words_of a)) [
      | inl is ↦ inl (a, is)
      | inr other ↦ elim (named words actions) [ inl found ↦ inl found | inr none ↦ inr (other, none) ]
    ]

-- all that there are
abbrev by_each : (Option Rollover → Action) → List Action → List Action
by_each command rest = command None ∷ command (Some Zero) ∷ command (Some One) ∷ rest

abbrev all_actions : List Action
all_actions = by_each Check (by_each Extract (by_each Normal (by_each Show (by_each Count []))))

none_named : (words : List (List ℕ)) → AllByRecursion (λ action. words ≡ words_of action → ⊥) all_actions → (action : Action) → words ≡ words_of action → ⊥
none_named words none (Check None) is = none.0 is
none_named words none (Check (Some Zero)) is = none.1.0 is
none_named words none (Check (Some One)) is = none.1.1.0 is
none_named words none (Extract None) is = none.1.1.1.0 is
none_named words none (Extract (Some Zero)) is = none.1.1.1.1.0 is
none_named words none (Extract (Some One)) is = none.1.1.1.1.1.0 is
none_named words none (Normal None) is = none.1.1.1.1.1.1.0 is
none_named words none (Normal (Some Zero)) is = none.1.1.1.1.1.1.1.0 is
none_named words none (Normal (Some One)) is = none.1.1.1.1.1.1.1.1.0 is
none_named words none (Show None) is = none.1.1.1.1.1.1.1.1.1.0 is
none_named words none (Show (Some Zero)) is = none.1.1.1.1.1.1.1.1.1.1.0 is
none_named words none (Show (Some One)) is = none.1.1.1.1.1.1.1.1.1.1.1.0 is
none_named words none (Count None) is = none.1.1.1.1.1.1.1.1.1.1.1.1.0 is
none_named words none (Count (Some Zero)) is = none.1.1.1.1.1.1.1.1.1.1.1.1.1.0 is
none_named words none (Count (Some One)) is = none.1.1.1.1.1.1.1.1.1.1.1.1.1.1.0 is

decided : (words : List (List ℕ)) → Decided words
decided [] = inr (λ action is. cc)
decided (program ∷ words) = elim (named words all_actions) [
  | inl found ↦ inl (found.0, (program, ap (λ ws. program ∷ ws) found.1))
  | inr none ↦ inr (λ action is. none_named words none action (rest_same program is.0 words (words_of action) is.1))
]

-- ---- the output

abbrev OneOutput : List (List ℕ) → Output → Output → Type 0
OneOutput words one other = (one ≡ other) ⊎ TellsOfMemory words one ⊎ TellsOfMemory words other

by_command : (words : List (List ℕ)) (action : Action) (one other : Output) → IsCommand action words → OneOf action one other → OneOutput words one other
by_command words action one other is (inl same) = inl same
by_command words action one other is (inr (inl memory)) = inr (inl (action, is, memory))
by_command words action one other is (inr (inr memory)) = inr (inr (action, is, memory))

pub one_output : OneVerdict → (words : List (List ℕ)) (source : Source) (one other : Output) → IsOutput words source false one → IsOutput words source false other → OneOutput words one other
one_output one_verdict words source one other first second = by (decided words)
  where
    by : Decided words → OneOutput words one other
    by (inl (action, is)) = by_command words action one other is (one_of one_verdict source action one other (first.command action is) (second.command action is))
    by (inr none) = inl (first.none none ∙ sym (second.none none))
