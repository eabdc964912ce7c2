-- What is known of a text once a step of its reader is done.
use Rattle.std.proofs.Common.{◌≡◌, ◌≤◌, ◌⊎◌, inl, inr, ℕ, Bool, true, false, List, [], ◌∷◌, ◌++◌, length, reverse, Option, Some, None, Result, Ok, Err, refl, sym, ap, ◌∙◌, subst}
use Rattle.std.specs.Io.KnownBytes.{Consumes, IsAtEnd, prepend_known}
use Rattle.std.proofs.KnownBytes.{Consumes-trans}
use Rattle.std.proofs.lemmas.List.{map-append, reverse-append}
use Rattle.tftp_capture.specs.{Begins, BeginsWith, HasFault, IsCapture, Numbered, datagram_of, Continues, GoesOn, IsAtTextEnd, IsReadFault, ReaderState, StandingTells, StandsFor, gave, with_answer, CaptureFault, TextFault, Stands}
use Rattle.net_streams.specs.Streams.{most_ahead, standing_after}
use Rattle.net_streams.specs.{Failed, Open, Over}
use Rattle.tftp_capture.specs.declared.datagram.Datagram.{Datagram as Owned}
use Rattle.tftp_capture.specs.declared.fault.CaptureFault.TheVariants.{Text, Read, Memory as NoMemory}
use Rattle.tftp_capture.proofs.Beginnings.{begins_more, capture_begins}
use Rattle.tftp_capture.proofs.Staying.{stays}
use Rattle.tftp_packet.specs.{Rollover}
use Rattle.tftp_packet.specs.Hosts.{Datagram, Header}
use Rattle.law_model.specs.Rules.{transfer_of}
use Rattle.law_rollover.specs.{IsTaken, unrolled_payload, with_payload}
use Rattle.law_rollover.proofs.Shown.{one_greatest}
use Rattle.law_model.specs.Model.{Meaning}
use Rattle.law_end.specs.{OneEnded}
use Rattle.tftp_judge.specs.{Refuses, IsJudgeAfter, Judge, IsOfText, IsReadVerdictBy, IsSaidBy, IsTextVerdictBy, SaysReadFailed, header_by, unnumbered, IsVerdict, Refusal, Unlawful, Verdict, Capture, Refused as RefusedFor}
use Rattle.tftp_judge.specs.declared.refusal.Refusal.TheVariants.{Memory}
use Rattle.tftp_judge.proofs.FirstFaults.{begins_longer, fault_kinds}
use Rattle.tftp_judge.proofs.Follows.{Follows, found_fault, found_refused, clean_says}
use Rattle.tftp_judge.proofs.Taken.{taken_there}
use Rattle.tftp_judge.proofs.TakenText.{AreTaken, front_taken, holds_of, itself_taken, next_taken, one_taken}
use Rattle.tftp_judge.proofs.TextFound.{Closed, Found, closed, found_ended, found_exact, found_judged, found_tally, found_whole, rest_of}
use Rattle.tftp_capture.specs.CaptureText.Due.{Body}
use Rattle.law_pair.specs.{IsLawfulTo}
use Rattle.judge_pair.specs.Judge.{IsReadOf}
use Rattle.judge_pair.specs.MatchTexts.{AreReadAs, HasDatagrams, captured_by, IsJudgedBy, HasRead, IsFinished, IsGiven, IsHalted, said_by}
use Rattle.judge_pair.specs.declared.match_texts.reading.Halt.TheVariants.{Ended, Refused, Fault}
use Rattle.judge_pair.proofs.MatchTextsLemmas.Fronts.{all_of, front_in, has_before_fault, has_captured, lawful_front, lawful_whole}

-- ---- what was found is what there is to say

module _ (rollover : Option Rollover) where
  pub judged_of : (before after : Option (List ℕ)) (failed : Bool) (r : Result Meaning Verdict) → Found rollover before after failed r → IsJudgedBy rollover before after failed r
  judged_of before after failed r found = record {
    judged = found_judged rollover before after failed r found;
    ended = found_ended rollover before after failed r found;
    read = found.failing;
    tally = found_tally rollover before after failed r found;
    whole = found_whole rollover before after failed r found;
    exact = found_exact rollover before after failed r found;
  }

  -- of the whole text that is over
  ended : (text : List ℕ) (h : Header) (ds : List Numbered) (refusal : Refusal) → ((count : ℕ) → refusal ≡ Memory count → ⊥) → IsCapture text h ds → IsSaidBy rollover (Err refusal) h (unnumbered ds)
      → IsTextVerdictBy rollover text (Err (RefusedFor refusal)) × IsReadVerdictBy rollover text (Err (RefusedFor refusal))
  ended text h ds (Unlawful index rule) spare capture is = ((h, ds, capture_begins text h ds capture, is), (h, ds, capture_begins text h ds capture, is))
  ended text h ds (Memory count) spare capture is = absurd (spare count refl)
  ended text h ds _ spare capture is = ((h, ds, capture, is), (h, ds, capture, is))

-- ---- what datagrams are read as

pub as_taken : (rollover : Option Rollover) (h : Header) (ds read : List Datagram) → AreReadAs rollover h ds read → AreTaken rollover h ds read
as_taken None h ds read is = is
as_taken (Some r) h ds read is = is

pub as_read : (rollover : Option Rollover) (h : Header) (ds read : List Datagram) → AreTaken rollover h ds read → AreReadAs rollover h ds read
as_read None h ds read is = is
as_read (Some r) h ds read is = is

taken_once : (rollover : Option Rollover) (passed : List Datagram) (d one other : Datagram) → IsTaken rollover passed d one → IsTaken rollover passed d other → one ≡ other
taken_once None passed d one other a b = itself_taken passed d one a ∙ sym (itself_taken passed d other b)
taken_once (Some r) passed d one other (same, (high, top, is)) (also, (other_high, other_top, other_is)) =
    same ∙ ap (with_payload d) (is ∙ ap (λ k. unrolled_payload r k d.payload) (one_greatest _ high other_high top other_top) ∙ sym other_is) ∙ sym also

-- ---- a step of the reader

module _ (rollover : Option Rollover) (before now after : Option (List ℕ)) (old new : ReaderState) (judge : Judge) (read : List Datagram) (ready : old.standing ≡ Open) (has : HasRead rollover before now old read) (accepted : IsJudgeAfter judge (header_by rollover old.header) read) where
  abbrev rest : Option (List ℕ)
  rest = prepend_known new.lines.ahead after

  abbrev pub Goes : Result (Option Owned) CaptureFault → Type 0
  Goes result = (t : List ℕ) (ds : List Numbered) → StandsFor old t ds → Continues old new now rest result t ds

  abbrev own : Header
  own = header_by rollover old.header

  abbrev follows : Follows rollover before now old judge
  follows = record {
    read = has.taken;
    datagrams = has.datagrams;
    consumed = has.consumed;
    goes_on = has.goes_on;
    passed = read;
    taken = as_taken rollover old.header (reverse (unnumbered has.datagrams)) read has.is;
    accepted = accepted;
  }

  -- what the datagrams that were read are read as, as long as there are no others
  read_all : (k : Header) (es : List Numbered) → k ≡ old.header → es ≡ has.datagrams → (all : List Datagram) → AreReadAs rollover k (reverse (unnumbered es)) (reverse all)
      → IsReadOf (captured_by rollover k all) read × IsLawfulTo (captured_by rollover k all) (length read)
  read_all k es named are all is =
      let here : AreReadAs rollover old.header (reverse (unnumbered has.datagrams)) (reverse all) =
      subst (λ x. AreReadAs rollover x (reverse (unnumbered has.datagrams)) (reverse all)) named (subst (λ l. AreReadAs rollover k (reverse (unnumbered l)) (reverse all)) are is) in
      let same : reverse all ≡ read = one_taken rollover old.header (reverse (unnumbered has.datagrams)) (reverse all) read (as_taken rollover old.header _ (reverse all) here) (as_taken rollover old.header _ read has.is) in
      lawful_whole (captured_by rollover k all) read same (subst (λ x. OneEnded (header_by rollover x) read) (sym named) accepted.lawful)

  stood : StandsFor old has.taken has.datagrams
  stood = subst (λ s. StandingTells s old has.taken has.datagrams) (sym ready) has.goes_on

  module _ (result : Result (Option Owned) CaptureFault) (goes : Goes result) where
    step : Continues old new now rest result has.taken has.datagrams
    step = goes has.taken has.datagrams stood

    abbrev all : List ℕ
    all = has.taken ++ step.taken

    consumed : Consumes before rest all
    consumed = Consumes-trans before now rest has.taken step.taken has.consumed step.consumed

    tells : new.standing ≡ standing_after (gave result) → StandingTells (standing_after (gave result)) new all (with_answer has.datagrams new.handed result)
    tells is = subst (λ s. StandingTells s new all (with_answer has.datagrams new.handed result)) is step.stands

    began : Begins all old.header has.datagrams
    began = begins_more has.taken step.taken has.goes_on.lines old.header has.datagrams has.goes_on.stands

    known : (text : List ℕ) → before ≡ Some text → Consumes (Some text) rest all
    known text is = subst (λ b. Consumes b rest all) is consumed

  -- what was read is lawful, and all of the datagrams that is
  abbrev IsFrontOf : Header → List Numbered → Type 0
  IsFrontOf k es = (header_by rollover k ≡ own) × ((all : List Datagram) → AreReadAs rollover k (reverse (unnumbered es)) (reverse all) → IsReadOf (captured_by rollover k all) read × IsLawfulTo (captured_by rollover k all) (length read))

  -- ---- it has stopped

  fault_in : (line : ℕ) (fault : TextFault) (goes : Goes (Err (Text line fault))) → new.standing ≡ Failed (Text line fault) → (IsAtTextEnd (Text line fault) → IsAtEnd rest) → (text : List ℕ) → before ≡ Some text
      → HasFault text has.datagrams line fault × Begins text old.header has.datagrams
  fault_in line fault goes is end text same =
      let c = known (Err (Text line fault)) goes text same in
      let (more, left, are) = rest_of rest text (all (Err (Text line fault)) goes) c in
      let here : HasFault (all (Err (Text line fault)) goes) has.datagrams line fault = tells (Err (Text line fault)) goes is in
      let begun = subst (λ t. Begins t old.header has.datagrams) (sym are) (begins_longer (all (Err (Text line fault)) goes) more old.header has.datagrams (began (Err (Text line fault)) goes)) in
      elim (fault_kinds (Text line fault)) as (λ _. HasFault text has.datagrams line fault × Begins text old.header has.datagrams) [
        | inl other ↦ (subst (λ t. HasFault t has.datagrams line fault) (sym are) (stays (all (Err (Text line fault)) goes) more has.datagrams line fault other here), begun)
        | inr (inl cut) ↦ (subst (λ t. HasFault t has.datagrams line fault) (sym (all_of rest text (all (Err (Text line fault)) goes) c (end cut))) here, begun)
        | inr (inr reads) ↦ absurd reads
      ]

  pub halted_fault : (fault : CaptureFault) (failed : Bool) → Goes (Err fault) → new.standing ≡ Failed fault → length new.lines.ahead ≤ most_ahead → (IsAtTextEnd fault → IsAtEnd rest) → (IsReadFault fault → new.lines.ahead ≡ [])
      → (IsReadFault fault → failed ≡ true) → IsReadFault fault ⊎ (failed ≡ false) → IsHalted rollover before after failed (Fault fault) None own read
  halted_fault fault failed goes is near end drained reads tally = record {
    says = λ r finished. judged_of rollover before after failed (Err (Capture fault)) (found_fault rollover before now after old new judge ready follows fault failed goes is near end drained reads tally);
    counts = λ r finished of text same k es datagrams. by fault goes is end of text same k es datagrams;
  }
    where
      by : (f : CaptureFault) (goes : Goes (Err f)) → new.standing ≡ Failed f → (IsAtTextEnd f → IsAtEnd rest) → IsOfText (Err (Capture f)) → (text : List ℕ) → before ≡ Some text → (k : Header) (es : List Numbered) → HasDatagrams text k es
          → IsFrontOf k es
      by (Read line) goes is end of text same k es datagrams = absurd of
      by (NoMemory line) goes is end of text same k es datagrams = absurd of
      by (Text line fault) goes is end of text same k es datagrams =
          let (broken, begun) = fault_in line fault goes is end text same in
          let (named, are) = has_before_fault text old.header k has.datagrams es line fault broken begun datagrams in
          (ap (header_by rollover) named, read_all k es named are)

  -- ---- it gave a datagram

  module _ (d : Owned) (failed : Bool) (goes : Goes (Ok (Some d))) (still : new.standing ≡ Open) (same : new.header ≡ old.header) (clean : failed ≡ false) (near : length new.lines.ahead ≤ most_ahead) where
    abbrev one : Result (Option Owned) CaptureFault
    one = Ok (Some d)

    abbrev with_one : List Numbered
    with_one = has.datagrams ++ (new.handed, datagram_of d) ∷ []

    newest : reverse (unnumbered with_one) ≡ datagram_of d ∷ reverse (unnumbered has.datagrams)
    newest = ap reverse (map-append (λ (n : Numbered). n.1) has.datagrams ((new.handed, datagram_of d) ∷ [])) ∙ reverse-append (unnumbered has.datagrams) (datagram_of d ∷ [])

    on : GoesOn new.header new.lines new.count (all one goes) with_one
    on = tells one goes still

    module _ (now_taken : Datagram) (is : IsTaken rollover (transfer_of own read) (datagram_of d) now_taken) where
      next : AreTaken rollover old.header (datagram_of d ∷ reverse (unnumbered has.datagrams)) (now_taken ∷ read)
      next = next_taken rollover old.header (reverse (unnumbered has.datagrams)) read (datagram_of d) now_taken (as_taken rollover old.header _ read has.is) is

      on_read : AreReadAs rollover new.header (reverse (unnumbered with_one)) (now_taken ∷ read)
      on_read = subst (λ l. AreReadAs rollover new.header l (now_taken ∷ read)) (sym newest) (subst (λ x. AreReadAs rollover x (datagram_of d ∷ reverse (unnumbered has.datagrams)) (now_taken ∷ read)) (sym same) (as_read rollover old.header _ (now_taken ∷ read) next))

      -- all that is read as what was read, and this one behind it
      read_first : (k : Header) (es : List Numbered) → k ≡ old.header → BeginsWith es with_one → (OneEnded own (now_taken ∷ read) → ⊥) → (every : List Datagram) → AreReadAs rollover k (reverse (unnumbered es)) (reverse every)
          → IsReadOf (captured_by rollover k every) read × IsLawfulTo (captured_by rollover k every) (length read)
      read_first k es named (later, are) not every read_as =
          let split : reverse (unnumbered es) ≡ reverse (unnumbered later) ++ datagram_of d ∷ reverse (unnumbered has.datagrams) =
          ap (λ l. reverse (unnumbered l)) are ∙ ap reverse (map-append (λ (n : Numbered). n.1) with_one later) ∙ reverse-append (unnumbered with_one) (unnumbered later) ∙ ap (λ l. reverse (unnumbered later) ++ l) newest in
          let here = as_taken rollover old.header _ (reverse every) (subst (λ x. AreReadAs rollover x (reverse (unnumbered es)) (reverse every)) named read_as) in
          let (more, rest_of_it, is_split, front) = front_taken rollover old.header (reverse (unnumbered later)) (datagram_of d ∷ reverse (unnumbered has.datagrams)) (reverse every) (subst (λ l. AreTaken rollover old.header l (reverse every)) split here) in
          let first : rest_of_it ≡ now_taken ∷ read = one_taken rollover old.header (datagram_of d ∷ reverse (unnumbered has.datagrams)) rest_of_it (now_taken ∷ read) front next in
          lawful_front (captured_by rollover k every) read more now_taken (is_split ∙ ap (λ l. more ++ l) first) (subst (λ x. OneEnded (header_by rollover x) read) (sym named) accepted.lawful)
          (λ lawful. not (subst (λ x. OneEnded (header_by rollover x) (now_taken ∷ read)) named lawful))

      is_refused : (refusal : Refusal) → Refuses own read now_taken refusal → IsHalted rollover before after failed Refused (Some refusal) own read
      is_refused refusal refuses = record {
        says = λ r finished. subst (λ x. IsJudgedBy rollover before after failed (said_by Refused x)) (sym finished)
            (judged_of rollover before after failed (Err (RefusedFor refusal)) (found_refused rollover before now after old new judge ready follows d goes still same refusal failed clean near
            (λ other also. subst (λ x. Refuses own read x refusal) (taken_once rollover (transfer_of own read) (datagram_of d) now_taken other is also) refuses)));
        counts = λ r finished of text is_text k es datagrams. by refusal refuses (subst (λ x. IsOfText (said_by Refused x)) finished of) text is_text k es datagrams;
      }
        where
          by : (x : Refusal) → Refuses own read now_taken x → IsOfText (Err (RefusedFor x)) → (text : List ℕ) → before ≡ Some text → (k : Header) (es : List Numbered) → HasDatagrams text k es
              → IsFrontOf k es
          by (Unlawful index rule) (number, broken) of text is_text k es datagrams =
              let (more, left, are) = rest_of rest text (all one goes) (known one goes text is_text) in
              let begun = subst (λ t. Begins t old.header with_one) (sym are) (begins_more (all one goes) more on.lines old.header with_one (subst (λ x. Stands (all one goes) on.lines [] (Body new.lines.version x) with_one) same on.stands)) in
              let (named, front) = front_in text old.header k with_one es begun datagrams in
              (ap (header_by rollover) named, read_first k es named front (λ lawful. lawful.0.lawful rule broken.0))
          by (Memory count) refuses of text is_text k es datagrams = absurd of
          by _ refuses of text is_text k es datagrams = absurd refuses

    pub given : IsGiven rollover before after failed new own read (datagram_of d)
    given = record {
      there = taken_there rollover own read (datagram_of d) accepted.lawful;
      goes_on = λ now_taken is. record {
        ready = still;
        clean = clean;
        header = ap (header_by rollover) same;
        has = record { taken = all one goes; datagrams = with_one; consumed = consumed one goes; goes_on = on; is = on_read now_taken is };
      };
      refused = is_refused;
    }

  -- ---- the text has ended

  module _ (goes : Goes (Ok None)) (over : new.standing ≡ Over) (same : new.header ≡ old.header) (end : IsAtEnd rest) (failed : Bool) (clean : failed ≡ false) where
    captured : IsCapture (all (Ok None) goes) old.header has.datagrams
    captured = subst (λ h. IsCapture (all (Ok None) goes) h has.datagrams) same (tells (Ok None) goes over)

    closes : Closed before after (all (Ok None) goes) new.lines.ahead (Unit {0}) ⊥
    closes = closed before after (all (Ok None) goes) new.lines.ahead (Unit {0}) ⊥ (consumed (Ok None) goes) (λ h. end) (λ h. absurd h)

    at_end : (r : Result Meaning Verdict) → IsTextVerdictBy rollover (all (Ok None) goes) r → IsReadVerdictBy rollover (all (Ok None) goes) r → (SaysReadFailed r → ⊥) → IsJudgedBy rollover before after failed r
    at_end r is says works = judged_of rollover before after failed r (record {
      taken = all (Ok None) goes;
      ahead = closes.ahead;
      consumed = closes.consumed;
      said = inr (record { all = (closes.ended tt).0; is = is; read = says; why = inl (closes.ended tt).1 });
      ended = λ h. (closes.ended tt).1;
      failing = λ h. absurd (works h);
      latched = λ h. clean_says failed (SaysReadFailed r) clean h;
    })

    verdict : (r : Result Meaning Refusal) → IsVerdict own (reverse read) r → IsSaidBy rollover r old.header (unnumbered has.datagrams)
    verdict r is = holds_of rollover (λ k ds. IsVerdict k ds r) old.header (unnumbered has.datagrams) read follows.taken is

    says_end : (r : Result Meaning Refusal) → IsFinished None own read r → IsJudgedBy rollover before after failed (said_by Ended r)
    says_end (Ok m) (is, spare) = let said : IsTextVerdictBy rollover (all (Ok None) goes) (Ok m) = (old.header, has.datagrams, captured, verdict (Ok m) is) in at_end (Ok m) said said (λ h. h)
    says_end (Err refusal) (is, spare) =
        let said = ended rollover (all (Ok None) goes) old.header has.datagrams refusal (λ count is. spare count (ap Err is)) captured (verdict (Err refusal) is) in
        at_end (Err (RefusedFor refusal)) said.0 said.1 (λ h. h)

    pub halted_end : IsHalted rollover before after failed Ended None own read
    halted_end = record {
      says = says_end;
      counts = λ r finished of text is k es datagrams.
          let whole = all_of rest text (all (Ok None) goes) (known (Ok None) goes text is) end in
          let capture = subst (λ t. IsCapture t old.header has.datagrams) (sym whole) captured in
          let (named, are) = has_captured text old.header k has.datagrams es capture (capture_begins text old.header has.datagrams capture) datagrams in
          (ap (header_by rollover) named, read_all k es named are);
    }
