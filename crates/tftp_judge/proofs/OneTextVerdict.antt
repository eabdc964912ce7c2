-- A text has one verdict.
use Rattle.std.proofs.Common.{◌≡◌, ℕ, inl, inr, List, [], ◌∷◌, ◌++◌, Option, Result, Ok, Err, reverse, sym, ap, ◌∙◌, subst, append_assoc, append-nil}
use Rattle.std.proofs.lemmas.List.{map-append, reverse-append}
use Rattle.tftp_capture.specs.{BeginsWith, HasFault, IsCapture, Numbered, TextFault}
use Rattle.tftp_capture.specs.CaptureText.Reading.{Capture, Fault}
use Rattle.tftp_capture.specs.declared.fault.CaptureFault.TheVariants.{Text}
use Rattle.tftp_capture.proofs.Beginnings.{agree, capture_has}
use Rattle.tftp_capture.proofs.Readings.{reads_same}
use Rattle.tftp_packet.specs.Hosts.{Datagram, Header}
use Rattle.tftp_packet.specs.{Rollover}
use Rattle.law_model.specs.Model.{Meaning}
use Rattle.law_end.specs.{IsLawful, Rule}
use Rattle.tftp_judge.specs.{AllLawful, BeginsBy, IsLawfulBy, IsOfText, IsSaidBy, IsTextVerdictBy, header_by, unnumbered, IsSaid, IsVerdict, Refusal, Unlawful, Verdict}
use Rattle.tftp_judge.specs.declared.refusal.Refusal.TheVariants as refusal
use Rattle.tftp_judge.specs.declared.verdict.Verdict.TheVariants as verdict
use Rattle.tftp_judge.proofs.OneVerdict.{not_lawful, one_verdict}
use Rattle.tftp_judge.proofs.TakenText.{AreTaken, first_lawful, front_taken, holds_also, of_held, one_taken}

unnumbered_parts : (ds es rest : List Numbered) → ds ≡ es ++ rest → unnumbered ds ≡ unnumbered es ++ unnumbered rest
unnumbered_parts ds es rest is = ap unnumbered is ∙ map-append (λ (n : Numbered). n.1) es rest

-- the datagrams that come first of lawful ones are lawful
pub front_lawful : (rollover : Option Rollover) (h : Header) (ds es : List Numbered) → IsLawfulBy rollover h (unnumbered ds) → BeginsWith ds es → IsLawfulBy rollover h (unnumbered es)
front_lawful rollover h ds es lawful (rest, is) = first_lawful rollover h (unnumbered es) (unnumbered rest) (subst (IsLawfulBy rollover h) (unnumbered_parts ds es rest is) lawful)

-- what is said of a text's datagrams, said of the text
abbrev pub text_said : Result Meaning Refusal → Result Meaning Verdict
text_said (Ok m) = Ok m
text_said (Err refusal) = Err (verdict.Refused refusal)

-- what is unlawful of the first datagrams is so of all
unlawful_longer : (h : Header) (ds more : List Datagram) (index : ℕ) (rule : Rule) → IsVerdict h ds (Err (Unlawful index rule)) → IsVerdict h (ds ++ more) (Err (Unlawful index rule))
unlawful_longer h ds more index rule u = record {
  before = u.before;
  datagram = u.datagram;
  rest = u.rest ++ more;
  split = ap (λ x. x ++ more) u.split ∙ append_assoc u.before (u.datagram ∷ u.rest) more;
  index_is = u.index_is;
  lawful = u.lawful;
  unlawful = u.unlawful;
  broken = u.broken;
}

pub longer_unlawful : (h : Header) (ds es : List Numbered) (index : ℕ) (rule : Rule) → BeginsWith ds es → IsVerdict h (unnumbered es) (Err (Unlawful index rule)) → IsVerdict h (unnumbered ds) (Err (Unlawful index rule))
longer_unlawful h ds es index rule (rest, is) u =
    subst (λ x. IsVerdict h x (Err (Unlawful index rule))) (sym (unnumbered_parts ds es rest is)) (unlawful_longer h (unnumbered es) (unnumbered rest) index rule u)

abbrev Same : ℕ → Rule → ℕ → Rule → Type 0
Same i r j q = ◌≡◌ {A = Result Meaning Refusal} (Err (Unlawful i r)) (Err (Unlawful j q))

module _ (rollover : Option Rollover) where
  -- what is said of a text
  data Said (text : List ℕ) : Result Meaning Verdict → Type 0 where
    unlawful : (index : ℕ) (rule : Rule) → BeginsBy rollover text (Err (Unlawful index rule)) → Said text (Err (verdict.Refused (Unlawful index rule)))
    captured : (v : Result Meaning Refusal) (header : Header) (datagrams : List Numbered) → IsSaid v → IsCapture text header datagrams → IsSaidBy rollover v header (unnumbered datagrams)
        → IsLawfulBy rollover header (unnumbered datagrams) → Said text (text_said v)
    faulty : (line : ℕ) (fault : TextFault) (datagrams : List Numbered) → HasFault text datagrams line fault → AllLawful rollover text → Said text (Err (verdict.Capture (Text line fault)))

  -- what is said of lawful datagrams
  lawful_of : (v : Result Meaning Refusal) (h : Header) (ds : List Datagram) → ((k : Header) (taken : List Datagram) → IsVerdict k taken v → IsLawful k taken) → IsSaidBy rollover v h ds → IsLawfulBy rollover h ds
  lawful_of v h ds so is = holds_also rollover (λ k taken. IsVerdict k taken v) IsLawful h ds so is

  said_is : (text : List ℕ) (r : Result Meaning Verdict) → IsOfText r → IsTextVerdictBy rollover text r → Said text r
  said_is text (Ok m) of (h, ds, capture, is) = captured (Ok m) h ds tt capture is (lawful_of (Ok m) h (unnumbered ds) (λ k taken said. said.0) is)
  said_is text (Err (verdict.Refused (Unlawful index rule))) of is = unlawful index rule is
  said_is text (Err (verdict.Refused (refusal.Aborted by code))) of (h, ds, capture, is) =
      captured (Err (refusal.Aborted by code)) h ds tt capture is (lawful_of (Err (refusal.Aborted by code)) h (unnumbered ds) (λ k taken said. said.0) is)
  said_is text (Err (verdict.Refused (refusal.Incomplete count))) of (h, ds, capture, is) =
      captured (Err (refusal.Incomplete count)) h ds tt capture is (lawful_of (Err (refusal.Incomplete count)) h (unnumbered ds) (λ k taken said. said.0) is)
  said_is text (Err (verdict.Refused refusal.NormalTooLong)) of (h, ds, capture, is) =
      captured (Err refusal.NormalTooLong) h ds tt capture is (lawful_of (Err refusal.NormalTooLong) h (unnumbered ds) (λ k taken said. said.0) is)
  said_is text (Err (verdict.Capture (Text line fault))) of is = faulty line fault is.0.0 is.0.1 is.1
  said_is text _ of is = absurd of

  -- what is unlawful of the first datagrams is so of what all are taken for
  unlawful_taken : (h : Header) (ds es : List Numbered) (taken : List Datagram) (index : ℕ) (rule : Rule) → BeginsWith ds es → AreTaken rollover h (reverse (unnumbered ds)) taken
      → IsSaidBy rollover (Err (Unlawful index rule)) h (unnumbered es) → IsVerdict (header_by rollover h) (reverse taken) (Err (Unlawful index rule))
  unlawful_taken h ds es taken index rule (rest, is) are said =
      let (first, of_first, u) = of_held rollover (λ k ds. IsVerdict k ds (Err (Unlawful index rule))) h (unnumbered es) said in
      let (later, front, split, of_front) = front_taken rollover h (reverse (unnumbered rest)) (reverse (unnumbered es)) taken
      (subst (λ us. AreTaken rollover h us taken) (ap reverse (unnumbered_parts ds es rest is) ∙ reverse-append (unnumbered es) (unnumbered rest)) are) in
      let same = one_taken rollover h (reverse (unnumbered es)) first front of_first of_front in
      let whole = ap reverse split ∙ reverse-append later front in
      subst (λ x. IsVerdict (header_by rollover h) x (Err (Unlawful index rule))) (sym whole)
      (unlawful_longer (header_by rollover h) (reverse front) (reverse later) index rule (subst (λ x. IsVerdict (header_by rollover h) (reverse x) (Err (Unlawful index rule))) same u))

  both_unlawful : (text : List ℕ) (i j : ℕ) (r q : Rule) → BeginsBy rollover text (Err (Unlawful i r)) → BeginsBy rollover text (Err (Unlawful j q)) → Same i r j q
  both_unlawful text i j r q (h, ds, begins, is) (k, es, also, other) =
      let same = agree text h k ds es begins also in
      let there = subst (λ x. IsSaidBy rollover (Err (Unlawful j q)) x (unnumbered es)) (sym same.0) other in
      elim same.1 as (λ _. Same i r j q) [
        | inl front ↦
            let (taken, are, u) = of_held rollover (λ k ds. IsVerdict k ds (Err (Unlawful i r))) h (unnumbered ds) is in
            one_verdict (header_by rollover h) (reverse taken) (Err (Unlawful i r)) (Err (Unlawful j q)) tt tt u (unlawful_taken h ds es taken j q front are there)
        | inr front ↦
            let (taken, are, u) = of_held rollover (λ k ds. IsVerdict k ds (Err (Unlawful j q))) h (unnumbered es) there in
            one_verdict (header_by rollover h) (reverse taken) (Err (Unlawful i r)) (Err (Unlawful j q)) tt tt (unlawful_taken h es ds taken i r front are is) u
      ]

  unlawful_or_lawful : (h : Header) (ds es : List Numbered) (i : ℕ) (r : Rule) → BeginsWith ds es → IsSaidBy rollover (Err (Unlawful i r)) h (unnumbered es) → IsLawfulBy rollover h (unnumbered ds) → ⊥
  unlawful_or_lawful h ds es i r front is lawful =
      let (taken, are, has) = of_held rollover IsLawful h (unnumbered ds) lawful in
      not_lawful (header_by rollover h) (reverse taken) i r (unlawful_taken h ds es taken i r front are is) has

  unlawful_or_captured : (text : List ℕ) (i : ℕ) (r : Rule) (h : Header) (ds : List Numbered) → BeginsBy rollover text (Err (Unlawful i r)) → IsCapture text h ds → IsLawfulBy rollover h (unnumbered ds) → ⊥
  unlawful_or_captured text i r h ds (k, es, begins, is) capture lawful =
      let first = capture_has text h k ds es capture begins in
      unlawful_or_lawful h ds es i r first.1 (subst (λ x. IsSaidBy rollover (Err (Unlawful i r)) x (unnumbered es)) first.0 is) lawful

  unlawful_or_faulty : (text : List ℕ) (i : ℕ) (r : Rule) → BeginsBy rollover text (Err (Unlawful i r)) → AllLawful rollover text → ⊥
  unlawful_or_faulty text i r (h, ds, begins, is) lawful = unlawful_or_lawful h ds ds i r ([], sym (append-nil ds)) is (lawful h ds begins)

  both_captured : (text : List ℕ) (h k : Header) (ds es : List Numbered) (v w : Result Meaning Refusal) → IsSaid v → IsSaid w → IsCapture text h ds → IsCapture text k es
      → IsSaidBy rollover v h (unnumbered ds) → IsSaidBy rollover w k (unnumbered es) → v ≡ w
  both_captured text h k ds es v w said too one other is also =
      let same = reads_same text (Capture h ds) (Capture k es) one other in
      let headers : h ≡ k = cc in
      let lists : ds ≡ es = cc in
      let (taken, are, here) = of_held rollover (λ k ds. IsVerdict k ds v) k (unnumbered es) (subst (λ x. IsSaidBy rollover v k (unnumbered x)) lists (subst (λ x. IsSaidBy rollover v x (unnumbered ds)) headers is)) in
      let (again, as_well, there) = of_held rollover (λ k ds. IsVerdict k ds w) k (unnumbered es) also in
      one_verdict (header_by rollover k) (reverse taken) v w said too here
      (subst (λ x. IsVerdict (header_by rollover k) (reverse x) w) (one_taken rollover k (reverse (unnumbered es)) again taken as_well are) there)

pub captured_or_faulty : (text : List ℕ) (h : Header) (ds es : List Numbered) (line : ℕ) (fault : TextFault) → IsCapture text h ds → HasFault text es line fault → ⊥
captured_or_faulty text h ds es line fault capture has = let same = reads_same text (Capture h ds) (Fault es line fault) capture has in cc

both_faulty : (text : List ℕ) (ds es : List Numbered) (l m : ℕ) (f g : TextFault) → HasFault text ds l f → HasFault text es m g → (l ≡ m) × (f ≡ g)
both_faulty text ds es l m f g one other = let same = reads_same text (Fault ds l f) (Fault es m g) one other in (cc, cc)

module _ (rollover : Option Rollover) (text : List ℕ) where
  one_said : (v w : Result Meaning Verdict) → Said rollover text v → Said rollover text w → v ≡ w
  one_said _ _ (unlawful i r p) (unlawful j q o) = ap text_said (both_unlawful rollover text i j r q p o)
  one_said _ _ (unlawful i r p) (captured w h ds said capture is lawful) = absurd (unlawful_or_captured rollover text i r h ds p capture lawful)
  one_said _ _ (unlawful i r p) (faulty line fault ds has lawful) = absurd (unlawful_or_faulty rollover text i r p lawful)
  one_said _ _ (captured v h ds said capture is lawful) (unlawful j q o) = absurd (unlawful_or_captured rollover text j q h ds o capture lawful)
  one_said _ _ (captured v h ds said one is lawful) (captured w k es too other also lawful2) = ap text_said (both_captured rollover text h k ds es v w said too one other is also)
  one_said _ _ (captured v h ds said capture is lawful) (faulty line fault es has all) = absurd (captured_or_faulty text h ds es line fault capture has)
  one_said _ _ (faulty line fault ds has all) (unlawful j q o) = absurd (unlawful_or_faulty rollover text j q o all)
  one_said _ _ (faulty line fault ds has all) (captured w h es said capture is lawful) = absurd (captured_or_faulty text h es ds line fault capture has)
  one_said _ _ (faulty l f ds has all) (faulty m g es other also) =
      let same = both_faulty text ds es l m f g has other in
      ap (λ x. Err (verdict.Capture (Text x f))) same.0 ∙ ap (λ x. Err (verdict.Capture (Text m x))) same.1

pub one_text_verdict : (rollover : Option Rollover) (text : List ℕ) (v w : Result Meaning Verdict) → IsOfText v → IsOfText w → IsTextVerdictBy rollover text v → IsTextVerdictBy rollover text w → v ≡ w
one_text_verdict rollover text v w of too is also = one_said rollover text v w (said_is rollover text v of is) (said_is rollover text w too also)
