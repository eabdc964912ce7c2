-- What is printed, by the words.
use Rattle.std.proofs.Common.{◌≡◌, ◌⊎◌, inl, inr, ℕ, List, [], ◌∷◌, Bool, false, Option, None, Some, Result, Ok, Err, nat_eq, if◌then◌else◌, refl, sym, ap, ◌∙◌, subst}
use Rattle.tftp_packet.specs.{Rollover, Zero, One}
use Rattle.tftp_commands.specs.declared.status.Status.TheVariants as status
use Rattle.tftp_commands.specs.{Action, Check, Extract, Normal, Show, Count, UsageFault, Output, memory_line, usage_line, IsOutput, IsOutputOf, Source, IsCommand, IsNoCommand, IsUnread, memory_fault, name_of, option_words, rollover_of}
use Rattle.tftp_commands.specs.declared.words.UsageFault.TheVariants as usage
use Rattle.tftp_commands.proofs.Memory.{memory_said, silent_said}

-- ---- no words are two commands

abbrev second : List (List ℕ) → List ℕ
second [] = []
second (a ∷ []) = []
second (a ∷ b ∷ words) = b

-- the third letters of the commands differ
abbrev third : List ℕ → ℕ
third [] = 0
third (a ∷ []) = 0
third (a ∷ b ∷ []) = 0
third (a ∷ b ∷ c ∷ word) = c

abbrev by_third : ℕ → Option Rollover → Action
by_third letter rollover =
    if nat_eq letter 101 then Check rollover else if nat_eq letter 116 then Extract rollover else if nat_eq letter 114 then Normal rollover else if nat_eq letter 111 then Show rollover else Count rollover

-- the digits differ
abbrev first : List ℕ → ℕ
first [] = 0
first (a ∷ word) = a

abbrev by_words : List (List ℕ) → Option Rollover
by_words (program ∷ name ∷ option ∷ digit ∷ words) = Some (if nat_eq (first digit) 48 then Zero else One)
by_words _ = None

abbrev action_by : List (List ℕ) → Action
action_by words = by_third (third (second words)) (by_words words)

told_by_words : (a : Action) (program : List ℕ) → action_by (program ∷ name_of a ∷ option_words (rollover_of a)) ≡ a
told_by_words (Check None) program = refl
told_by_words (Check (Some Zero)) program = refl
told_by_words (Check (Some One)) program = refl
told_by_words (Extract None) program = refl
told_by_words (Extract (Some Zero)) program = refl
told_by_words (Extract (Some One)) program = refl
told_by_words (Normal None) program = refl
told_by_words (Normal (Some Zero)) program = refl
told_by_words (Normal (Some One)) program = refl
told_by_words (Show None) program = refl
told_by_words (Show (Some Zero)) program = refl
told_by_words (Show (Some One)) program = refl
told_by_words (Count None) program = refl
told_by_words (Count (Some Zero)) program = refl
told_by_words (Count (Some One)) program = refl

pub one_command : (words : List (List ℕ)) (a b : Action) → IsCommand a words → IsCommand b words → a ≡ b
one_command words a b one two = sym (told_by_words a one.0) ∙ ap action_by (sym one.1 ∙ two.1) ∙ told_by_words b two.0

-- ---- the output

pub command_output : (a : Action) (words : List (List ℕ)) (source : Source) (cut : Bool) (output : Output) → IsCommand a words → IsOutputOf a source cut output → IsOutput words source cut output
command_output a words source cut output is h = record {
  command = λ b other. subst (λ x. IsOutputOf x source cut output) (one_command words a b is other) h;
  none = λ none. absurd (none a is);
}

pub usage_output : (words : List (List ℕ)) (source : Source) (cut : Bool) → IsNoCommand words → IsOutput words source cut (record { bytes = usage_line; status = status.Fault })
usage_output words source cut none = record { command = λ a is. absurd (none a is); none = λ _. refl }

pub memory_output : (a : Action) (words : List (List ℕ)) (source : Source) (cut : Bool) → IsCommand a words → memory_fault a ≡ usage.Memory → IsUnread source → source.failed ≡ false
    → IsOutput words source cut (record { bytes = memory_line; status = status.Fault })
memory_output a words source cut is told unread clean = command_output a words source cut (record { bytes = memory_line; status = status.Fault }) is (memory_said source unread clean a cut told)

pub silent_output : (a : Action) (words : List (List ℕ)) (source : Source) (cut : Bool) → IsCommand a words → memory_fault a ≡ usage.Silent → IsUnread source → source.failed ≡ false
    → IsOutput words source cut (record { bytes = []; status = status.Fault })
silent_output a words source cut is told unread clean = command_output a words source cut (record { bytes = []; status = status.Fault }) is (silent_said source unread clean a cut told)

-- ---- by the fault of the words

abbrev Only : List (List ℕ) → Result Action UsageFault → Type 0
Only words r = (a : Action) → IsCommand a words → (r ≡ Ok a) ⊎ (r ≡ Err (memory_fault a))

-- a fault of the words never says that memory ran out
no_memory : (a : Action) → usage.Usage ≡ memory_fault a → ⊥
no_memory (Check rollover) e = cc
no_memory (Extract rollover) e = cc
no_memory (Normal rollover) e = cc
no_memory (Show rollover) e = cc
no_memory (Count rollover) e = cc

one_fault : (r : Result Action UsageFault) (f g : UsageFault) → r ≡ Err f → r ≡ Err g → f ≡ g
one_fault r f g one other = cc

-- nor a command
no_action : (r : Result Action UsageFault) (a : Action) (f : UsageFault) → r ≡ Err f → r ≡ Ok a → ⊥
no_action r a f e other = cc

pub no_command : (words : List (List ℕ)) (r : Result Action UsageFault) → r ≡ Err usage.Usage → Only words r → IsNoCommand words
no_command words r e only a is = elim (only a is) [
  | inl other ↦ no_action r a usage.Usage e other
  | inr other ↦ no_memory a (one_fault r usage.Usage (memory_fault a) e other)
]

-- the command that the words name is the only one
pub only_named : (a : Action) (words : List (List ℕ)) → IsCommand a words → Only words (Ok a)
only_named a words is b other = inl (ap Ok (one_command words a b is other))

pub some_named : (a : Action) (words : List (List ℕ)) → IsCommand a words → (b : Action) → IsCommand b words → Some a ≡ Some b
some_named a words is b other = ap Some (one_command words a b is other)
