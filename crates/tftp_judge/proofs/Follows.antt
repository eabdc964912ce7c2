-- The judge stands for what the datagrams that a reader of a text has given so far are taken for.
use Rattle.std.proofs.Common.{◌≡◌, ℕ, ◌+◌, ◌≤◌, lit≤, ◌⊎◌, inl, inr, Bool, true, false, true≢false, List, [], ◌∷◌, ◌++◌, length, reverse, Option, Some, None, Result, Ok, Err, refl, sym, ap, ◌∙◌, subst, arith, append-nil}
use Rattle.std.specs.Io.KnownBytes.{Consumes, IsAtEnd, prepend_known}
use Rattle.std.proofs.KnownBytes.{Consumes-trans}
use Rattle.std.proofs.lemmas.List.{length-map, length-reverse, map-append, reverse-append, reverse-reverse}
use Rattle.tftp_capture.specs.{Begins, IsCapture, Numbered, Stands, Version, datagram_of, Continues, GoesOn, IsAtTextEnd, IsReadFault, ReaderState, StandingTells, StandsFor, WantTells, gave, with_answer, CaptureFault}
use Rattle.net_streams.specs.Streams.{most_ahead, standing_after}
use Rattle.net_streams.specs.{Failed, Open, Over}
use Rattle.tftp_capture.specs.CaptureText.Due.{Body}
use Rattle.tftp_capture.specs.declared.datagram.Datagram.{Datagram as Owned}
use Rattle.tftp_capture.proofs.Beginnings.{begins_more, capture_begins}
use Rattle.tftp_packet.specs.Hosts.{Datagram, Header}
use Rattle.tftp_packet.specs.{Rollover}
use Rattle.law_model.specs.Model.{Meaning}
use Rattle.law_end.specs.{IsLawful, OneEnded, Passes, FirstBroken, Rule}
use Rattle.law_end.proofs.Whole.TwoEnds.{lawful}
use Rattle.law_model.specs.Rules.{transfer_of}
use Rattle.law_rollover.specs.{IsTaken}
use Rattle.tftp_judge.specs.{Refuses, IsJudgeAfter, Judge, EndsText, IsLawfulBy, IsReadVerdictBy, IsSaidBy, IsTextVerdictBy, SaysReadFailed, TakesForLast, TakesMemory, WantsToJudge, header_by, unnumbered, Verdict, IsUnlawfulAt, IsVerdict, Refusal, Unlawful, Capture, Refused}
use Rattle.tftp_judge.specs.declared.refusal.Refusal.TheVariants.{Memory}
use Rattle.tftp_judge.proofs.FirstFaults.{begins_longer, lawful_in, wants_more}
use Rattle.tftp_judge.proofs.Taken.{taken_there}
use Rattle.tftp_judge.proofs.TakenText.{AreTaken, holds_of, next_taken, taken_length}
use Rattle.tftp_judge.proofs.TextFound.{Closed, Found, Stays, closed, failed_or, found_by_fault}

-- bytes were taken, the reader goes on after the datagrams that it gave, and the judge stands for what they are taken for
pub record Follows (rollover : Option Rollover) (before now : Option (List ℕ)) (reader : ReaderState) (judge : Judge) : Type 0 where
  pub read : List ℕ
  pub datagrams : List Numbered
  pub consumed : Consumes before now read
  pub goes_on : GoesOn reader.header reader.lines reader.count read datagrams
  pub passed : List Datagram
  pub taken : AreTaken rollover reader.header (reverse (unnumbered datagrams)) passed
  pub accepted : IsJudgeAfter judge (header_by rollover reader.header) passed

-- ---- one datagram more

abbrev with_one : List Numbered → ℕ → Datagram → List Numbered
with_one ds line d = ds ++ (line, d) ∷ []

newest_first : (ds : List Datagram) (d : Datagram) → reverse (ds ++ d ∷ []) ≡ d ∷ reverse ds
newest_first ds d = reverse-append ds (d ∷ [])

newest_one : (ds : List Numbered) (line : ℕ) (d : Datagram) → reverse (unnumbered (with_one ds line d)) ≡ d ∷ reverse (unnumbered ds)
newest_one ds line d = ap reverse (map-append (λ (n : Numbered). n.1) ds ((line, d) ∷ [])) ∙ newest_first (unnumbered ds) d

newest_last : (ds : List Datagram) (d : Datagram) → reverse (d ∷ ds) ≡ reverse ds ++ d ∷ []
newest_last ds d = reverse-append (d ∷ []) ds

-- what was taken for one more
with_taken : (rollover : Option Rollover) (h : Header) (ds : List Numbered) (line : ℕ) (d now : Datagram) (passed : List Datagram) → AreTaken rollover h (reverse (unnumbered ds)) passed
    → IsTaken rollover (transfer_of (header_by rollover h) passed) d now → AreTaken rollover h (reverse (unnumbered (with_one ds line d))) (now ∷ passed)
with_taken rollover h ds line d now passed are is =
    subst (λ us. AreTaken rollover h us (now ∷ passed)) (sym (newest_one ds line d)) (next_taken rollover h (reverse (unnumbered ds)) passed d now are is)

-- the datagrams before it are lawful, and with it they are not
unlawful_at : (h : Header) (passed : List Datagram) (d : Datagram) (index : ℕ) (rule : Rule) → OneEnded h passed → index ≡ length passed + 1 → FirstBroken h passed d rule
    → IsUnlawfulAt (IsLawful h) h (reverse (d ∷ passed)) index rule
unlawful_at h passed d index rule lawful_ones number broken = record {
  before = reverse passed;
  datagram = d;
  rest = [];
  split = newest_last passed d;
  index_is = number ∙ ap (λ n. n + 1) (sym (length-reverse passed));
  lawful = (lawful h (reverse passed)).1 (subst (OneEnded h) (sym (reverse-reverse passed)) lawful_ones);
  unlawful = λ is. (subst (OneEnded h) (newest_first (reverse passed) d ∙ ap (λ ds. d ∷ ds) (reverse-reverse passed)) ((lawful h (reverse passed ++ d ∷ [])).0 is)).0.lawful rule broken.0;
  broken = subst (λ ds. FirstBroken h ds d rule) (sym (reverse-reverse passed)) broken;
}

lawful_with : (h : Header) (passed : List Datagram) (d : Datagram) → OneEnded h passed → Passes h passed d → IsLawful h (reverse (d ∷ passed))
lawful_with h passed d before passes = (lawful h (reverse (d ∷ passed))).1 (subst (OneEnded h) (sym (reverse-reverse (d ∷ passed))) (passes, before))

-- whole lines of which no byte is wrong say the header and these datagrams
abbrev StandAs : List ℕ → List Numbered → Header → Type 0
StandAs text ds h = (version : Version) × (lines : List (List ℕ)) × Stands text lines [] (Body version h) ds

begins_by : (text more : List ℕ) (ds : List Numbered) (h : Header) → StandAs text ds h → Begins (text ++ more) h ds
begins_by text more ds h (version, lines, stands) = record { read = text; more = more; lines = lines; are = refl; stands = (version, stands) }

module _ (rollover : Option Rollover) (h : Header) (ds : List Numbered) (line : ℕ) (d now : Datagram) (passed : List Datagram) (are : AreTaken rollover h (reverse (unnumbered ds)) passed)
    (is_now : IsTaken rollover (transfer_of (header_by rollover h) passed) d now) (before : OneEnded (header_by rollover h) passed) where
  more_taken : AreTaken rollover h (reverse (unnumbered (with_one ds line d))) (now ∷ passed)
  more_taken = with_taken rollover h ds line d now passed are is_now

  -- memory ran out for the last datagram
  wants_for : (text ahead : List ℕ) (count : ℕ) → StandAs text (with_one ds line d) h → length ahead ≤ most_ahead
      → Refuses (header_by rollover h) passed now (Memory count) → WantsToJudge rollover (text ++ ahead) count
  wants_for text ahead count (version, lines, stands) near (is, passes, takes) = record {
    taken = text;
    ahead = ahead;
    to = (refl, near);
    version = version;
    lines = lines;
    header = h;
    datagrams = ds;
    last = (line, d);
    stands = stands;
    count_is = is ∙ taken_length rollover h (reverse (unnumbered ds)) passed are ∙ length-reverse (unnumbered ds) ∙ length-map ds (λ (n : Numbered). n.1);
    lawful = holds_of rollover IsLawful h (unnumbered (with_one ds line d)) (now ∷ passed) more_taken (lawful_with (header_by rollover h) passed now before passes);
    takes = holds_of rollover TakesForLast h (unnumbered (with_one ds line d)) (now ∷ passed) more_taken (record {
      before = reverse passed;
      last = now;
      are = newest_last passed now;
      takes = subst (λ us. TakesMemory (header_by rollover h) us now) (sym (reverse-reverse passed)) takes;
    });
  }

  -- what is said of a refusal stays
  refused : (text ahead : List ℕ) (refusal : Refusal) → StandAs text (with_one ds line d) h → length ahead ≤ most_ahead
      → Refuses (header_by rollover h) passed now refusal → Stays rollover text ahead (Err (Refused refusal)) × (EndsText (Err (Refused refusal)) → ⊥)
  refused text ahead (Unlawful index rule) stand near (number, broken) =
      let at = holds_of rollover (λ k ds. IsVerdict k ds (Err (Unlawful index rule))) h (unnumbered (with_one ds line d)) (now ∷ passed) more_taken (unlawful_at (header_by rollover h) passed now index rule before number broken) in (
        record {
          longer = λ more. (h, with_one ds line d, begins_by text more (with_one ds line d) h stand, at);
          read = (h, with_one ds line d, begins_by text ahead (with_one ds line d) h stand, at);
        },
        λ x. x,
      )
  refused text ahead (Memory count) stand near wants = (
    record {
      longer = λ more. (text, more, refl, subst (λ t. WantsToJudge rollover t count) (append-nil text) (wants_for text [] count stand (lit≤ tt) wants));
      read = wants_for text ahead count stand near wants;
    },
    λ x. x,
  )
  refused text ahead _ stand near other = absurd other

-- ---- the text's end

ended : (rollover : Option Rollover) (text : List ℕ) (h : Header) (ds : List Numbered) (refusal : Refusal) → ((count : ℕ) → refusal ≡ Memory count → ⊥) → IsCapture text h ds → IsSaidBy rollover (Err refusal) h (unnumbered ds)
    → IsTextVerdictBy rollover text (Err (Refused refusal)) × IsReadVerdictBy rollover text (Err (Refused refusal))
ended rollover text h ds (Unlawful index rule) spare capture is = ((h, ds, capture_begins text h ds capture, is), (h, ds, capture_begins text h ds capture, is))
ended rollover text h ds (Memory count) spare capture is = absurd (spare count refl)
ended rollover text h ds _ spare capture is = ((h, ds, capture, is), (h, ds, capture, is))

-- ---- the reader's answers

pub still_clean : (new old : Bool) → ⊥ ⊎ (new ≡ old) → old ≡ false → new ≡ false
still_clean new old (inl x) e = absurd x
still_clean new old (inr same) e = same ∙ e

pub reads_or_clean : (Reads : Type 0) (new old : Bool) → Reads ⊎ (new ≡ old) → old ≡ false → Reads ⊎ (new ≡ false)
reads_or_clean Reads new old (inl reads) e = inl reads
reads_or_clean Reads new old (inr same) e = inr (same ∙ e)

pub clean_says : (failed : Bool) (P : Type 0) → failed ≡ false → failed ≡ true → P
clean_says failed P clean is = absurd (true≢false (sym is ∙ clean))

clean_or : (fault : CaptureFault) (failed : Bool) → IsReadFault fault ⊎ (failed ≡ false) → (IsReadFault fault → ⊥) → failed ≡ false
clean_or fault failed (inl reads) not = absurd (not reads)
clean_or fault failed (inr clean) not = clean

-- nothing is ahead, or what the reader holds
near_of : (held ahead : List ℕ) → (ahead ≡ []) ⊎ (ahead ≡ held) → length held ≤ most_ahead → length ahead ≤ most_ahead
near_of held ahead (inl none) near = omega (arith, ap length none)
near_of held ahead (inr same) near = omega (arith, ap length same, near)

module _ (rollover : Option Rollover) (before now after : Option (List ℕ)) (old new : ReaderState) (judge : Judge) (ready : old.standing ≡ Open) (follows : Follows rollover before now old judge) where
  abbrev rest : Option (List ℕ)
  rest = prepend_known new.lines.ahead after

  abbrev pub Goes : Result (Option Owned) CaptureFault → Type 0
  Goes result = (t : List ℕ) (ds : List Numbered) → StandsFor old t ds → Continues old new now rest result t ds

  stood : StandsFor old follows.read follows.datagrams
  stood = subst (λ s. StandingTells s old follows.read follows.datagrams) (sym ready) follows.goes_on

  module _ (result : Result (Option Owned) CaptureFault) (goes : Goes result) where
    step : Continues old new now rest result follows.read follows.datagrams
    step = goes follows.read follows.datagrams stood

    abbrev all : List ℕ
    all = follows.read ++ step.taken

    consumed : Consumes before rest all
    consumed = Consumes-trans before now rest follows.read step.taken follows.consumed step.consumed

    tells : new.standing ≡ standing_after (gave result) → StandingTells (standing_after (gave result)) new all (with_answer follows.datagrams new.handed result)
    tells is = subst (λ s. StandingTells s new all (with_answer follows.datagrams new.handed result)) is step.stands

    want : WantTells Open result all follows.datagrams
    want = subst (λ s. WantTells s result all follows.datagrams) ready step.memory

    begins : Begins all old.header follows.datagrams
    begins = begins_more follows.read step.taken follows.goes_on.lines old.header follows.datagrams follows.goes_on.stands

  abbrev pub own : Header
  own = header_by rollover old.header

  are_lawful : IsLawfulBy rollover old.header (unnumbered follows.datagrams)
  are_lawful = holds_of rollover IsLawful old.header (unnumbered follows.datagrams) follows.passed follows.taken ((lawful own (reverse follows.passed)).1 (subst (OneEnded own) (sym (reverse-reverse follows.passed)) follows.accepted.lawful))

  -- the reader has stopped
  pub found_fault : (fault : CaptureFault) (failed : Bool) → Goes (Err fault) → new.standing ≡ Failed fault → length new.lines.ahead ≤ most_ahead → (IsAtTextEnd fault → IsAtEnd rest) → (IsReadFault fault → new.lines.ahead ≡ [])
      → (IsReadFault fault → failed ≡ true) → IsReadFault fault ⊎ (failed ≡ false) → Found rollover before after failed (Err (Capture fault))
  found_fault fault failed goes is near end drained read tally =
      let text = all (Err fault) goes in
      let first = begins (Err fault) goes in
      let close = closed before after text new.lines.ahead (IsAtTextEnd fault) (IsReadFault fault) (consumed (Err fault) goes) end drained in
      record {
        taken = text;
        ahead = close.ahead;
        consumed = close.consumed;
        said = found_by_fault rollover after text close.ahead follows.datagrams fault (tells (Err fault) goes is) (wants_more text close.ahead follows.datagrams fault (want (Err fault) goes)) (near_of new.lines.ahead close.ahead close.all_held near) close.ended close.drained
            (λ more. lawful_in rollover (text ++ more) old.header follows.datagrams (begins_longer text more old.header follows.datagrams first) are_lawful);
        ended = λ h. (close.ended h).1;
        failing = read;
        latched = failed_or fault failed (clean_or fault failed tally);
      }

  -- a datagram was read
  module _ (d : Owned) (goes : Goes (Ok (Some d))) (open_still : new.standing ≡ Open) (same : new.header ≡ old.header) where
    -- which the judge refused
    pub found_refused : (refusal : Refusal) (failed : Bool) → failed ≡ false → length new.lines.ahead ≤ most_ahead
        → ((taken_as : Datagram) → IsTaken rollover (transfer_of own follows.passed) (datagram_of d) taken_as → Refuses own follows.passed taken_as refusal) → Found rollover before after failed (Err (Refused refusal))
    found_refused refusal failed clean near is =
        let text = all (Ok (Some d)) goes in
        let on = tells (Ok (Some d)) goes open_still in
        let stand = subst (StandAs text (with_one follows.datagrams new.handed (datagram_of d))) same (new.lines.version, on.lines, on.stands) in
        let close = closed before after text new.lines.ahead ⊥ ⊥ (consumed (Ok (Some d)) goes) (λ h. absurd h) (λ h. absurd h) in
        let (taken_as, are) = taken_there rollover own follows.passed (datagram_of d) follows.accepted.lawful in
        let says = refused rollover old.header follows.datagrams new.handed (datagram_of d) taken_as follows.passed follows.taken are follows.accepted.lawful text close.ahead refusal stand (near_of new.lines.ahead close.ahead close.all_held near) (is taken_as are) in
        record {
          taken = text;
          ahead = close.ahead;
          consumed = close.consumed;
          said = inl says.0;
          ended = λ h. absurd (says.1 h);
          failing = λ h. absurd h;
          latched = λ h. clean_says failed ⊥ clean h;
        }

    -- which the judge accepted
    pub follows_on : (next : Judge) → ((taken_as : Datagram) → IsTaken rollover (transfer_of own follows.passed) (datagram_of d) taken_as → IsJudgeAfter next own (taken_as ∷ follows.passed)) → Follows rollover before rest new next
    follows_on next accepts =
        let (taken_as, are) = taken_there rollover own follows.passed (datagram_of d) follows.accepted.lawful in record {
          read = all (Ok (Some d)) goes;
          datagrams = with_one follows.datagrams new.handed (datagram_of d);
          consumed = consumed (Ok (Some d)) goes;
          goes_on = tells (Ok (Some d)) goes open_still;
          passed = taken_as ∷ follows.passed;
          taken = subst (λ h. AreTaken rollover h (reverse (unnumbered (with_one follows.datagrams new.handed (datagram_of d)))) (taken_as ∷ follows.passed)) (sym same)
              (with_taken rollover old.header follows.datagrams new.handed (datagram_of d) taken_as follows.passed follows.taken are);
          accepted = subst (λ h. IsJudgeAfter next (header_by rollover h) (taken_as ∷ follows.passed)) (sym same) (accepts taken_as are);
        }

  -- the text has ended
  module _ (goes : Goes (Ok None)) (over : new.standing ≡ Over) (same : new.header ≡ old.header) (end : IsAtEnd rest) (failed : Bool) (clean : failed ≡ false) where
    captured : IsCapture (all (Ok None) goes) old.header follows.datagrams
    captured = subst (λ h. IsCapture (all (Ok None) goes) h follows.datagrams) same (tells (Ok None) goes over)

    abbrev pub Finishes : Result Meaning Refusal → Type 0
    Finishes r = (h : Header) (earlier : List Datagram) → IsJudgeAfter judge h earlier → IsVerdict h (reverse earlier) r

    verdict : (r : Result Meaning Refusal) → Finishes r → IsSaidBy rollover r old.header (unnumbered follows.datagrams)
    verdict r is = holds_of rollover (λ k ds. IsVerdict k ds r) old.header (unnumbered follows.datagrams) follows.passed follows.taken (is own follows.passed follows.accepted)

    close : Closed before after (all (Ok None) goes) new.lines.ahead (Unit {0}) ⊥
    close = closed before after (all (Ok None) goes) new.lines.ahead (Unit {0}) ⊥ (consumed (Ok None) goes) (λ h. end) (λ h. absurd h)

    at_end : (r : Result Meaning Verdict) → IsTextVerdictBy rollover (all (Ok None) goes) r → IsReadVerdictBy rollover (all (Ok None) goes) r → (SaysReadFailed r → ⊥) → Found rollover before after failed r
    at_end r is read works = record {
      taken = all (Ok None) goes;
      ahead = close.ahead;
      consumed = close.consumed;
      said = inr (record { all = (close.ended tt).0; is = is; read = read; why = inl (close.ended tt).1 });
      ended = λ h. (close.ended tt).1;
      failing = λ h. absurd (works h);
      latched = λ h. clean_says failed (SaysReadFailed r) clean h;
    }

    pub found_meaning : (m : Meaning) → Finishes (Ok m) → Found rollover before after failed (Ok m)
    found_meaning m is =
        let said : IsTextVerdictBy rollover (all (Ok None) goes) (Ok m) = (old.header, follows.datagrams, captured, verdict (Ok m) is) in
        at_end (Ok m) said said (λ h. h)

    pub found_unfinished : (refusal : Refusal) → ((count : ℕ) → refusal ≡ Memory count → ⊥) → Finishes (Err refusal) → Found rollover before after failed (Err (Refused refusal))
    found_unfinished refusal spare is =
        let said = ended rollover (all (Ok None) goes) old.header follows.datagrams refusal spare captured (verdict (Err refusal) is) in
        at_end (Err (Refused refusal)) said.0 said.1 (λ h. h)
