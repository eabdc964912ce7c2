-- Reasons that are added one after the other, and which of them are the division's.
use Rattle.std.proofs.Common.{◌≡◌, ◌≢◌, ◌&&◌, ◌||◌, not, ℕ, Bool, true, false, List, [], ◌∷◌, ◌++◌, Option, Some, None, Result, Ok, Err, OnOk, refl, sym, ap, ◌∙◌, append_assoc, rules}
use Rattle.std.specs.List.{list_any}
use Rattle.std.specs.Prelude.{option_to_list}
use Rattle.std.proofs.lemmas.List.Folds.{list_any-append}
use Rattle.audit_flows.specs.Lines.{Placed, follows_strays, follows_unanswered, goes_on_with_first, is_asked_again, is_disordered, is_late}
use Rattle.audit_flows.specs.Transfers.Doubts.{is_answered_apart, is_beside, is_doubted, is_doubtful, is_led_astray, some_of, tells_strays}
use Rattle.audit_recording.specs.Reasons.{Blamed, Doubted, Reason}
use Rattle.audit_recording.specs.declared.blame.reason.Reason.TheVariants.{Disordered, LeftOut, FollowsUnanswered, AskedAgain, AnsweredApart, FollowsStrays, Late, Beside, LedAstray, UnknownId, FirstWord, OneWay, Twice, Lost, Copied, Damaged, Discarded, Joined, TurnedAway}
use Rattle.audit_recording.specs.Reasons.Listed.{IsBlamedAt, frame_reasons, is_astray, is_of_division, is_one_way, is_turned_away, reasons_of, up_to, where_so, whole_reasons, with_frame}

-- ---- added one after the other

pub on_ok : {T E P Q : Type 0} (r : Result T E) → (P → Q) → OnOk r P → OnOk r Q
on_ok (Ok x) make is = make is
on_ok (Err e) make is = tt

pub more : (old middle new some others : List Reason) → new ≡ middle ++ others → middle ≡ old ++ some → new ≡ old ++ (some ++ others)
more old middle new some others last first = last ∙ ap (λ m. m ++ others) first ∙ append_assoc old some others

pub begun : (old new some given : List Reason) → new ≡ old ++ given → given ≡ some → new ≡ old ++ some
begun old new some given last same = last ∙ ap (λ g. old ++ g) same

pub more_of : (old middle new some others given : List Reason) → new ≡ middle ++ given → given ≡ others → middle ≡ old ++ some → new ≡ old ++ (some ++ others)
more_of old middle new some others given last same first = more old middle new some others (begun middle new others given last same) first

-- ---- where one is added

pub left : (some others : List Reason) → some ≢ [] → (some ++ others) ≢ []
left [] others are = λ e. are refl
left (reason ∷ some) others are = λ e. search rules

pub right : (some others : List Reason) → others ≢ [] → (some ++ others) ≢ []
right [] others are = are
right (reason ∷ some) others are = λ e. search rules

pub holding : (reason : Reason) (holds : Bool) → holds ≡ true → where_so reason holds ≢ []
holding reason true is = λ e. search rules
holding reason false is = λ e. search rules

pub listed : (reason : Option Reason) → reason ≢ None → option_to_list reason ≢ []
listed None is = λ e. is refl
listed (Some reason) is = λ e. search rules

-- ---- which of them are the division's

-- one of these is the division's, if that is so
record Tells (some : List Reason) (x : Bool) : Type 0 where
  is : list_any is_of_division some ≡ x

any_more : {some others : List Reason} {x y : Bool} → Tells some x → Tells others y → Tells (some ++ others) (x || y)
any_more {some} {others} {x} {y} one other = record {
  is = list_any-append is_of_division some others ∙ ap (λ a. a || list_any is_of_division others) one.is ∙ ap (λ b. x || b) other.is;
}

or_false : (x : Bool) → (x || false) ≡ x
or_false true = refl
or_false false = refl

none_more : {some others : List Reason} {x : Bool} → Tells some x → Tells others false → Tells (some ++ others) x
none_more {some} {others} {x} one none = record { is = (any_more one none).is ∙ or_false x }

is_told : (reason : Reason) (holds : Bool) → is_of_division reason ≡ true → Tells (where_so reason holds) holds
is_told reason true is = record { is = ap (λ b. b || false) is }
is_told reason false is = record { is = refl }

is_no_doubt : (reason : Reason) (holds : Bool) → is_of_division reason ≡ false → Tells (where_so reason holds) false
is_no_doubt reason true off = record { is = ap (λ b. b || false) off }
is_no_doubt reason false off = record { is = refl }

no_frame : (reason : ℕ → Reason) (frame : Option ℕ) → ((n : ℕ) → is_of_division (reason n) ≡ false) → Tells (with_frame reason frame) false
no_frame reason None off = record { is = refl }
no_frame reason (Some frame) off = record { is = ap (λ b. b || false) (off frame) }

frames_are_none : (d : Doubted) (b : Blamed) → Tells (frame_reasons d b) false
frames_are_none d b =
    none_more (none_more (none_more (none_more
    (no_frame (λ n. Lost n) (up_to b.frame d.missing.first) (λ n. refl))
    (no_frame (λ n. Copied n) (up_to b.frame d.copied_from) (λ n. refl)))
    (no_frame (λ n. Damaged n) (up_to b.frame d.damaged) (λ n. refl)))
    (no_frame (λ n. Discarded n) (up_to b.frame d.discarded) (λ n. refl)))
    (no_frame (λ n. Joined n) (up_to b.frame d.joined) (λ n. refl))

-- ---- in the order of the division

or_turned : (y z : Bool) → (y || z) ≡ (z || y)
or_turned true true = refl
or_turned true false = refl
or_turned false true = refl
or_turned false false = refl

swapped : (x y z : Bool) → ((x || y) || z) ≡ ((x || z) || y)
swapped true y z = refl
swapped false y z = or_turned y z

whole_is_doubted : (placed : List Placed) (d : Doubted) → Tells (whole_reasons placed d) (is_doubted d.doubts.number placed)
whole_is_doubted placed d =
    let n = d.doubts.number in
    let disordered = some_of n is_disordered placed in
    let unanswered = some_of n follows_unanswered placed in
    let again = some_of n is_asked_again placed in
    let apart = is_answered_apart n placed in
    let strays = some_of n follows_strays placed in
    record {
      is =
          (any_more (any_more (any_more (any_more (none_more
          (is_told Disordered disordered refl)
          (no_frame (λ n. LeftOut n) d.left_out (λ n. refl)))
          (is_told FollowsUnanswered unanswered refl))
          (is_told AskedAgain again refl))
          (is_told AnsweredApart apart refl))
          (is_told FollowsStrays strays refl)).is
          ∙ ap (λ w. (w || apart) || strays) (swapped disordered unanswered again)
          ∙ ap (λ w. w || strays) (swapped (disordered || again) unanswered apart)
          ∙ swapped ((disordered || again) || apart) unanswered strays;
    }

pub told_of_division : (placed : List Placed) (d : Doubted) (b : Blamed)
    → list_any is_of_division (reasons_of placed d b) ≡ (((((is_doubted d.doubts.number placed || is_astray placed d b) || b.is_late) || b.is_beside) || b.tells_strays) || b.says_first_word)
told_of_division placed d b =
    let whole = is_doubted d.doubts.number placed in
    let astray = is_astray placed d b in
    (none_more (none_more (none_more (any_more (any_more (none_more (any_more (any_more (any_more
    (whole_is_doubted placed d)
    (is_told Late b.is_late refl))
    (is_told Beside b.is_beside refl))
    (is_told LedAstray astray refl))
    (is_no_doubt TurnedAway (is_turned_away placed d b) refl))
    (is_told UnknownId b.tells_strays refl))
    (is_told FirstWord b.says_first_word refl))
    (is_no_doubt OneWay (is_one_way d b) refl))
    (is_no_doubt Twice d.is_twice refl))
    (frames_are_none d b)).is
    ∙ ap (λ w. (w || b.tells_strays) || b.says_first_word) (swapped (whole || b.is_late) b.is_beside astray)
    ∙ ap (λ w. ((w || b.is_beside) || b.tells_strays) || b.says_first_word) (swapped whole b.is_late astray)

pub told : (n : ℕ) (placed older : List Placed) (p : Placed) (d : Doubted) (b : Blamed) → d.doubts.number ≡ n → IsBlamedAt b n p older
    → list_any is_of_division (reasons_of placed d b) ≡ is_doubtful n placed p older
told n placed older p d b number is =
    told_of_division placed d b
    ∙ ap (λ m. ((((is_doubted m placed || (b.is_answered && not (some_of m goes_on_with_first placed))) || b.is_late) || b.is_beside) || b.tells_strays) || b.says_first_word) number
    ∙ ap (λ a. ((((is_doubted n placed || (a && not (some_of n goes_on_with_first placed))) || b.is_late) || b.is_beside) || b.tells_strays) || b.says_first_word) is.answered
    ∙ ap (λ a. ((((is_doubted n placed || is_led_astray n placed p older) || a) || b.is_beside) || b.tells_strays) || b.says_first_word) is.late
    ∙ ap (λ a. ((((is_doubted n placed || is_led_astray n placed p older) || some_of n is_late (p ∷ older)) || a) || b.tells_strays) || b.says_first_word) is.beside
    ∙ ap (λ a. ((((is_doubted n placed || is_led_astray n placed p older) || some_of n is_late (p ∷ older)) || is_beside p) || a) || b.says_first_word) is.strays
    ∙ ap (λ a. ((((is_doubted n placed || is_led_astray n placed p older) || some_of n is_late (p ∷ older)) || is_beside p) || tells_strays n p older) || a) is.first

pub accused : (n : ℕ) (placed older : List Placed) (p : Placed) (d : Doubted) (b : Blamed) → d.doubts.number ≡ n → IsBlamedAt b n p older
    → reasons_of placed d b ≡ [] → is_doubtful n placed p older ≡ false
accused n placed older p d b number is none = sym (told n placed older p d b number is) ∙ ap (list_any is_of_division) none
