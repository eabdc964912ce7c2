-- Two texts that are the same capture, in as many lines, have the same verdicts; so have a text and the same in version 2.
use Rattle.std.proofs.Common.{◌≡◌, ℕ, ◌+◌, ◌^◌, ◌≤◌, ◌==◌, ◌↔◌, lit≤, inl, inr, List, [], ◌∷◌, ◌++◌, All, length, map as each, Option, Result, Ok, Err, refl, sym, ap, ◌∙◌, subst, arith, append_assoc, append-nil, length-append}
use Rattle.std.specs.List.{join_with_byte, slice_split}
use Rattle.std.proofs.lemmas.List.{length-map}
use Rattle.std.proofs.lemmas.List.Elements.{All-cons, All-tail}
use Rattle.tftp_capture.specs.{Two, Begins, IsCapture, Numbered, head_line, in_version_two, line_in_two, lines_in_two}
use Rattle.tftp_capture.specs.CaptureText.Due.{Nothing}
use Rattle.tftp_capture.specs.CaptureText.Reading.{Capture}
use Rattle.tftp_capture.specs.declared.fault.CaptureFault.TheVariants.{Text, Read, Memory}
use Rattle.tftp_capture.proofs.Beginnings.{capture_begins, capture_has}
use Rattle.tftp_capture.proofs.Canonical.{no_lf_text}
use Rattle.tftp_capture.proofs.InTwo.{Lacks, cut_again, parts_lack}
use Rattle.tftp_capture.proofs.TwoTexts.{map_whole, says_the_same}
use Rattle.tftp_capture.proofs.Readings.{reads_same}
use Rattle.tftp_packet.specs.Hosts.{Header}
use Rattle.law_model.specs.Model.{Meaning}
use Rattle.tftp_packet.specs.{Rollover}
use Rattle.tftp_judge.specs.{AllLawful, HoldsBy, IsCaptureBy, IsLawfulBy, IsSaidBy, IsTextVerdictBy, LawfulBefore, MayWantAt, TakesForLast, WantsToJudge, unnumbered, Verdict, Refusal, Unlawful, Aborted, Incomplete, NormalTooLong}
use Rattle.tftp_judge.specs.declared.verdict.Verdict.TheVariants as verdict
use Rattle.tftp_judge.specs.declared.refusal.Refusal.TheVariants.{Memory as NoMemory}
use Rattle.tftp_judge.proofs.FirstLines.{capture_begins_front}
use Rattle.tftp_judge.proofs.OneTextVerdict.{captured_or_faulty, front_lawful}

-- the lines of a text, and what is left after its last LF
abbrev pub line_count : List ℕ → ℕ
line_count text = length (slice_split (λ b. b == 10) text)

module _ (rollover : Option Rollover) (one two : List ℕ) (h : Header) (ds : List Numbered) (first : IsCapture one h ds) (second : IsCapture two h ds) where
  -- what each begins with is lawful, if all are
  all_lawful : AllLawful rollover one → AllLawful rollover two
  all_lawful lawful k es begins =
      let front = capture_has two h k ds es second begins in
      subst (λ x. IsLawfulBy rollover x (unnumbered es)) (sym front.0) (front_lawful rollover h ds es (lawful h ds (capture_begins one h ds first)) front.1)

  -- what one begins with, the other begins with
  both_begin : (k : Header) (es : List Numbered) → Begins two k es → (k ≡ h) × Begins one h es
  both_begin k es begins = let front = capture_has two h k ds es second begins in (front.0, capture_begins_front one h ds es first front.1)

  before_both : (line : ℕ) → LawfulBefore rollover one line → LawfulBefore rollover two line
  before_both line lawful k es begins before =
      let both = both_begin k es begins in
      subst (λ x. IsLawfulBy rollover x (unnumbered es)) (sym both.0) (lawful h es both.1 before)

  by_both : (v : Result Meaning Refusal) → IsCaptureBy rollover one v → IsCaptureBy rollover two v
  by_both v (k, es, capture, is) =
      let same = reads_same one (Capture k es) (Capture h ds) capture first in
      let header : k ≡ h = cc in
      let list : es ≡ ds = cc in
      (h, ds, second, subst (λ x. IsSaidBy rollover v h (unnumbered x)) list (subst (λ x. IsSaidBy rollover v x (unnumbered es)) header is))

  -- where memory may be wanting in one, it may be in the other
  wanted_both : (line : ℕ) → MayWantAt one line → MayWantAt two line
  wanted_both line (inl first_line) = inl first_line
  wanted_both line (inr (k, es, d, begins)) =
      let all = es ++ (line, d) ∷ [] in
      inr (h, es, d, capture_begins_front two h ds all second (capture_has one h k ds all first begins).1)

  -- memory ran out for the same datagram
  wants_both : (count : ℕ) (read more : List ℕ) → one ≡ read ++ more → WantsToJudge rollover read count → (read more : List ℕ) × (two ≡ read ++ more) × WantsToJudge rollover read count
  wants_both count read more are wants =
      let all = wants.datagrams ++ wants.last ∷ [] in
      let begins : Begins one wants.header all = record {
        read = wants.taken;
        more = wants.ahead ++ more;
        lines = wants.lines;
        are = are ∙ ap (λ l. l ++ more) wants.to.0 ∙ append_assoc wants.taken wants.ahead more;
        stands = (wants.version, wants.stands);
      } in
      let front = capture_has one h wants.header ds all first begins in
      let other = capture_begins_front two h ds all second front.1 in (
        other.read,
        other.more,
        other.are,
        record {
          taken = other.read;
          ahead = [];
          to = (sym (append-nil other.read), lit≤ tt);
          version = other.stands.0;
          lines = other.lines;
          header = h;
          datagrams = wants.datagrams;
          last = wants.last;
          stands = other.stands.1;
          count_is = wants.count_is;
          lawful = subst (λ x. IsLawfulBy rollover x (unnumbered all)) front.0 wants.lawful;
          takes = subst (λ x. HoldsBy rollover TakesForLast x (unnumbered all)) front.0 wants.takes;
        },
      )

  pub same_verdict : line_count one ≡ line_count two → (v : Result Meaning Verdict) → IsTextVerdictBy rollover one v → IsTextVerdictBy rollover two v
  same_verdict lines (Ok m) is = by_both (Ok m) is
  same_verdict lines (Err (verdict.Refused (Unlawful index rule))) (k, es, begins, is) =
      let front = capture_has one h k ds es first begins in
      (h, es, capture_begins_front two h ds es second front.1, subst (λ x. IsSaidBy rollover (Err (Unlawful index rule)) x (unnumbered es)) front.0 is)
  same_verdict lines (Err (verdict.Refused (Aborted by code))) is = by_both (Err (Aborted by code)) is
  same_verdict lines (Err (verdict.Refused (Incomplete count))) is = by_both (Err (Incomplete count)) is
  same_verdict lines (Err (verdict.Refused NormalTooLong)) is = by_both (Err NormalTooLong) is
  same_verdict lines (Err (verdict.Refused (NoMemory count))) (read, more, are, wants) = wants_both count read more are wants
  same_verdict lines (Err (verdict.Capture (Text line fault))) is = absurd (captured_or_faulty one h ds is.0.0 line fault first is.0.1)
  same_verdict lines (Err (verdict.Capture (Read line))) ((es, due, ends), lawful) =
      let here : line_count one ≡ length ends.lines + 1 = ap length ends.stands.divided ∙ length-append ends.lines (ends.rest ∷ []) in
      let there : line_count two ≡ length second.1 + 1 = ap length second.2.divided ∙ length-append second.1 ([] ∷ []) in
      ((ds, Nothing second.0 h, record { lines = second.1; rest = []; stands = second.2; at_line = ends.at_line ∙ sym here ∙ lines ∙ there }), all_lawful lawful)
  same_verdict lines (Err (verdict.Capture (Memory line))) (of, faults, before) =
      (wanted_both line of, (λ es at fault has. absurd (captured_or_faulty two h ds es at fault second has)), before_both line before)

-- ---- in version 2

as_many : (ps : List (List ℕ)) → 1 ≤ length ps → All (Lacks 10) ps → length (slice_split (λ b. b == 10) (join_with_byte 10 (lines_in_two ps))) ≡ length ps
as_many [] some whole = absurd (omega arith)
as_many (p ∷ ps) some whole =
    let rest = map_whole ps (All-tail (Lacks 10) p ps whole) in
    let all = All-cons (Lacks 10) (head_line Two) (each line_in_two ps) (no_lf_text (head_line Two) refl) rest in
    ap length (cut_again 10 (head_line Two) (each line_in_two ps) all) ∙ omega (arith, length-map ps line_in_two)

lines_stay : (text : List ℕ) (h : Header) (ds : List Numbered) → IsCapture text h ds → line_count (in_version_two text) ≡ line_count text
lines_stay text h ds capture =
    let count : line_count text ≡ length capture.1 + 1 = ap length capture.2.divided ∙ length-append capture.1 ([] ∷ []) in
    as_many (slice_split (λ b. b == 10) text) (omega arith) (parts_lack 10 text)

pub same_in_two : (rollover : Option Rollover) (text : List ℕ) (h : Header) (ds : List Numbered) (v : Result Meaning Verdict) → IsCapture text h ds → length (in_version_two text) ≤ 2 ^ 40 → IsTextVerdictBy rollover text v ↔ IsTextVerdictBy rollover (in_version_two text) v
same_in_two rollover text h ds v capture short =
    let two = says_the_same text h ds capture short in
    let lines = lines_stay text h ds capture in
    (same_verdict rollover text (in_version_two text) h ds capture two (sym lines) v, same_verdict rollover (in_version_two text) text h ds two capture lines v)
