-- One step of a text that is read: what judges stood for all that was read, it stands for all that is read then.
use Rattle.std.proofs.Common.{◌≡◌, ℕ, Bool, List, ◌∷◌, Option, Some, None, sym, subst}
use Rattle.tftp_capture.specs.{ReaderState}
use Rattle.tftp_packet.specs.{Rollover}
use Rattle.tftp_packet.specs.Hosts.{Datagram, Header}
use Rattle.law_model.specs.Rules.{transfer_of}
use Rattle.law_rollover.specs.{IsTaken}
use Rattle.tftp_judge.specs.{Refuses, IsJudgeAfter, Judge, Refusal}
use Rattle.judge_pair.specs.MatchTexts.{GoesOnAt, IsGiven, IsHalted, IsSeenAt, Seen, seen, RunsBy}
use Rattle.judge_pair.specs.declared.match_texts.reading.Halt.{Halt}
use Rattle.judge_pair.specs.declared.match_texts.reading.Halt.TheVariants.{Refused}

-- ---- whether more is read

pub going : (rollover : Option Rollover) (before left : Option (List ℕ)) (failed : Bool) (halt : Option Halt) (reader : ReaderState) (refused : Option Refusal) (h : Header) (read : List Datagram) → halt ≡ None
    → IsSeenAt rollover before (seen left failed halt reader) refused h read → GoesOnAt rollover before left failed reader h read × (refused ≡ None)
going rollover before left failed None reader refused h read none at = at
going rollover before left failed (Some why) reader refused h read none at = absurd (cc)

pub still_going : (rollover : Option Rollover) (before left : Option (List ℕ)) (failed : Bool) (halt : Option Halt) (reader : ReaderState) (refused : Option Refusal) (h : Header) (read : List Datagram) → halt ≡ None
    → GoesOnAt rollover before left failed reader h read → refused ≡ None → IsSeenAt rollover before (seen left failed halt reader) refused h read
still_going rollover before left failed None reader refused h read none on goes = (on, goes)
still_going rollover before left failed (Some why) reader refused h read none on goes = absurd (cc)

pub halted : (rollover : Option Rollover) (before left : Option (List ℕ)) (failed : Bool) (halt : Option Halt) (reader : ReaderState) (refused : Option Refusal) (h : Header) (read : List Datagram) (why : Halt) → halt ≡ Some why
    → IsHalted rollover before left failed why refused h read → IsSeenAt rollover before (seen left failed halt reader) refused h read
halted rollover before left failed halt reader refused h read why is known = subst (λ x. IsSeenAt rollover before (seen left failed x reader) refused h read) (sym is) known

pub was_halted : (rollover : Option Rollover) (before left : Option (List ℕ)) (failed : Bool) (halt : Option Halt) (reader : ReaderState) (refused : Option Refusal) (h : Header) (read : List Datagram) (why : Halt) → halt ≡ Some why
    → IsSeenAt rollover before (seen left failed halt reader) refused h read → IsHalted rollover before left failed why refused h read
was_halted rollover before left failed halt reader refused h read why is known = subst (λ x. IsSeenAt rollover before (seen left failed x reader) refused h read) is known

-- ---- a step

module _ {P : Type 0} (rollover : Option Rollover) (judge : P → Judge) (StandsFor : P → Header → List Datagram → Header → List Datagram → Type 0) (own : (p : P) (h k : Header) (read other : List Datagram) → StandsFor p h read k other → (judge p).refused ≡ None → IsJudgeAfter (judge p) h read)
    (first : Seen) (start : P) (left left' : Option (List ℕ)) (failed failed' : Bool) (halt halt' : Option Halt) (reader reader' : ReaderState) (p p' : P) (none : halt ≡ None) (runs : RunsBy rollover judge StandsFor first start (seen left failed halt reader) p) where
  -- a datagram was read
  module _ (d : Datagram) (given : (before : Option (List ℕ)) (h : Header) (read : List Datagram) (j : Judge) → GoesOnAt rollover before left failed reader h read → IsJudgeAfter j h read → IsGiven rollover before left' failed' reader' h read d) where
    pub accepted_step : halt' ≡ None → ((h k : Header) (read other : List Datagram) (now : Datagram) → StandsFor p h read k other → (judge p).refused ≡ None → IsTaken rollover (transfer_of h read) d now → StandsFor p' h (now ∷ read) k other) → ((judge p).refused ≡ None → (judge p').refused ≡ None)
        → RunsBy rollover judge StandsFor first start (seen left' failed' halt' reader') p'
    accepted_step goes fed keeps = λ before h k read other at stands.
        let (more, now, here) = runs before h k read other at stands in
        let (on, unrefused) = going rollover before left failed halt reader (judge p).refused h more none now in
        let g = given before h more (judge p) on (own p h k more other here unrefused) in
        let (one, taken) = g.there in
        (one ∷ more, still_going rollover before left' failed' halt' reader' (judge p').refused h (one ∷ more) goes (g.goes_on one taken) (keeps unrefused), fed h k more other one here unrefused taken)

    pub refused_step : halt' ≡ Some Refused → (refusal : Refusal) → ((h k : Header) (read other : List Datagram) (now : Datagram) → StandsFor p h read k other → (judge p).refused ≡ None → IsTaken rollover (transfer_of h read) d now → Refuses h read now refusal)
        → ((h k : Header) (read other : List Datagram) → StandsFor p h read k other → StandsFor p' h read k other) → (judge p').refused ≡ Some refusal
        → RunsBy rollover judge StandsFor first start (seen left' failed' halt' reader') p'
    refused_step why refusal refuses stays keeps = λ before h k read other at stands.
        let (more, now, here) = runs before h k read other at stands in
        let (on, unrefused) = going rollover before left failed halt reader (judge p).refused h more none now in
        let g = given before h more (judge p) on (own p h k more other here unrefused) in
        let (one, taken) = g.there in (
          more,
          halted rollover before left' failed' halt' reader' (judge p').refused h more Refused why
              (subst (λ (x : Option Refusal). IsHalted rollover before left' failed' Refused x h more) (sym keeps) (g.refused one taken refusal (refuses h k more other one here unrefused taken))),
          stays h k more other here,
        )

  -- no more is read
  pub halted_step : ((before : Option (List ℕ)) (h : Header) (read : List Datagram) (j : Judge) → GoesOnAt rollover before left failed reader h read → IsJudgeAfter j h read → (why : Halt) × (halt' ≡ Some why) × IsHalted rollover before left' failed' why None h read)
      → RunsBy rollover judge StandsFor first start (seen left' failed' halt' reader') p
  halted_step stops = λ before h k read other at stands.
      let (more, now, here) = runs before h k read other at stands in
      let (on, unrefused) = going rollover before left failed halt reader (judge p).refused h more none now in
      let (why, is, known) = stops before h more (judge p) on (own p h k more other here unrefused) in
      (more, halted rollover before left' failed' halt' reader' (judge p).refused h more why is (subst (λ (x : Option Refusal). IsHalted rollover before left' failed' why x h more) (sym unrefused) known), here)
