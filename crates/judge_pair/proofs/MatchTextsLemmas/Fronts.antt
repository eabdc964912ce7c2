-- What was read of a text is the front of its datagrams.
use Rattle.std.proofs.Common.{◌≡◌, inl, inr, ℕ, List, [], ◌∷◌, ◌++◌, length, take, reverse, Option, Some, None, add-one, refl, sym, ap, ◌∙◌, subst, arith, append_assoc, append-nil}
use Rattle.std.specs.Io.KnownBytes.{Consumes, IsAtEnd}
use Rattle.std.proofs.Math.Seq.{take-append_seam}
use Rattle.std.proofs.lemmas.List.{length-append, length-reverse, reverse-append, reverse-reverse}
use Rattle.tftp_capture.specs.{Begins, BeginsWith, HasFault, IsCapture, Numbered, TextFault}
use Rattle.tftp_capture.proofs.Beginnings.{agree, capture_begins, capture_has, fault_after}
use Rattle.tftp_packet.specs.Hosts.{Datagram, Header}
use Rattle.law_end.specs.{OneEnded}
use Rattle.law_pair.specs.{Capture, IsLawfulTo}
use Rattle.judge_pair.specs.Judge.{IsReadOf}
use Rattle.judge_pair.specs.MatchTexts.{HasDatagrams}

-- ---- lists

none_more : (xs more : List Numbered) → xs ≡ xs ++ more → more ≡ []
none_more xs [] e = refl
none_more xs (m ∷ more) e = absurd (omega (arith, ap length e ∙ length-append xs (m ∷ more)))

pub same_fronts : (xs ys : List Numbered) → BeginsWith xs ys → BeginsWith ys xs → xs ≡ ys
same_fronts xs ys (more, is) (rest, also) = both where
  is_also : ys ≡ ys ++ (more ++ rest)
  is_also = also ∙ ap (λ l. l ++ rest) is ∙ append_assoc ys more rest

  empty : (firsts bs : List Numbered) → firsts ++ bs ≡ [] → firsts ≡ []
  empty [] bs e = refl
  empty (f ∷ firsts) bs e = absurd (omega (arith, ap length e))

  both : xs ≡ ys
  both = is ∙ ap (λ l. ys ++ l) (empty more rest (none_more ys (more ++ rest) is_also)) ∙ append-nil ys

-- ---- what was read, the newest first, and what comes behind it

module _ (c : Capture) (read more : List Datagram) (is : reverse c.datagrams ≡ more ++ read) where
  whole : c.datagrams ≡ reverse read ++ reverse more
  whole = sym (reverse-reverse c.datagrams) ∙ ap reverse is ∙ reverse-append more read

  front_is : take (length read) c.datagrams ≡ reverse read
  front_is = ap (λ ds. take (length read) ds) whole ∙ ap (λ n. take n (reverse read ++ reverse more)) (sym (length-reverse read)) ∙ take-append_seam (reverse read) (reverse more)

  pub read_of_front : IsReadOf c read
  read_of_front = record {
    within = let all = ap length whole ∙ length-append (reverse read) (reverse more) in let same = length-reverse read in omega (arith, all, same);
    is = ap reverse front_is ∙ reverse-reverse read;
  }

-- ---- what is lawful

pub lawful_whole : (c : Capture) (read : List Datagram) → reverse c.datagrams ≡ read → OneEnded c.header read → IsReadOf c read × IsLawfulTo c (length read)
lawful_whole c read is lawful =
    let of = read_of_front c read [] is in (
      of,
      record { within = of.within; keeps = subst (OneEnded c.header) (sym of.is) lawful; ends = inl (ap length (sym is) ∙ length-reverse c.datagrams) },
    )

pub lawful_front : (c : Capture) (read more : List Datagram) (d : Datagram) → reverse c.datagrams ≡ more ++ d ∷ read → OneEnded c.header read → (OneEnded c.header (d ∷ read) → ⊥)
    → IsReadOf c read × IsLawfulTo c (length read)
lawful_front c read more d is lawful not =
    let of = read_of_front c read (more ++ d ∷ []) (is ∙ sym (append_assoc more (d ∷ []) read)) in
    let with_it = read_of_front c (d ∷ read) more is in (
      of,
      record {
        within = of.within;
        keeps = subst (OneEnded c.header) (sym of.is) lawful;
        ends = inr (λ keeps. not (subst (OneEnded c.header) (ap (λ n. reverse (take n c.datagrams)) (add-one (length read)) ∙ with_it.is) keeps));
      },
    )

-- ---- texts

pub front_in : (text : List ℕ) (h k : Header) (ds es : List Numbered) → Begins text h ds → HasDatagrams text k es → (k ≡ h) × BeginsWith es ds
front_in text h k ds es begins has = (sym (agree text h k ds es begins has.begins).0, has.all h ds begins)

pub has_captured : (text : List ℕ) (h k : Header) (ds es : List Numbered) → IsCapture text h ds → Begins text h ds → HasDatagrams text k es → (k ≡ h) × (es ≡ ds)
has_captured text h k ds es capture begins has =
    let front = front_in text h k ds es begins has in
    (front.0, same_fronts es ds front.1 (capture_has text h k ds es capture has.begins).1)

pub has_before_fault : (text : List ℕ) (h k : Header) (ds es : List Numbered) (line : ℕ) (fault : TextFault) → HasFault text ds line fault → Begins text h ds → HasDatagrams text k es → (k ≡ h) × (es ≡ ds)
has_before_fault text h k ds es line fault broken begins has =
    let front = front_in text h k ds es begins has in
    (front.0, same_fronts es ds front.1 (fault_after text k ds es line fault broken has.begins))

-- ---- a text has its datagrams

pub has_all : (text : List ℕ) (h : Header) (ds : List Numbered) → IsCapture text h ds → HasDatagrams text h ds
has_all text h ds capture = record { begins = capture_begins text h ds capture; all = λ other more begins. (capture_has text h other ds more capture begins).1 }

pub has_all_before : (text : List ℕ) (h : Header) (ds : List Numbered) (line : ℕ) (fault : TextFault) → HasFault text ds line fault → Begins text h ds → HasDatagrams text h ds
has_all_before text h ds line fault broken begins = record { begins = begins; all = λ other more also. fault_after text other ds more line fault broken also }

pub has_one : (text : List ℕ) (h k : Header) (ds es : List Numbered) → HasDatagrams text h ds → HasDatagrams text k es → (h ≡ k) × (ds ≡ es)
has_one text h k ds es has also = ((agree text h k ds es has.begins also.begins).0, same_fronts ds es (has.all k es also.begins) (also.all h ds has.begins))

-- ---- all of a text was taken

pub all_of : (now : Option (List ℕ)) (text taken : List ℕ) → Consumes (Some text) now taken → IsAtEnd now → text ≡ taken
all_of None text taken c end = absurd c
all_of (Some rest) text taken c end = c ∙ ap (λ l. taken ++ l) end ∙ append-nil taken
