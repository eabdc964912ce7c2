-- What is shown is one, where memory was not wanting and no write failed.
use Rattle.std.proofs.Common.{◌≡◌, ◌⊎◌, inl, inr, ℕ, ◌+◌, List, [], ◌∷◌, ◌++◌, length, Option, None, Some, codes, decimal, true, false, true≢false, refl, sym, ap, ◌∙◌, subst}
use Rattle.tftp_packet.specs.{Rollover}
use Rattle.tftp_packet.proofs.FaultOrder.{first_fault_unique}
use Rattle.tftp_packet.proofs.NoFault.{no_fault}
use Rattle.tftp_capture.specs.CaptureText.{Datagram, Header}
use Rattle.tftp_capture.specs.{Begins, BeginsWith, Due, HasFault, IsCapture, Numbered, Stands, Unfinished, dir_word, TextFault, Truncated}
use Rattle.tftp_capture.specs.CaptureText.Due.{Head, EndLine, ServiceLine, Body, Nothing}
use Rattle.tftp_capture.specs.CaptureText.Reading.{Capture, Fault}
use Rattle.tftp_capture.specs.declared.fault.CaptureFault.TheVariants.{Text, Read, Memory}
use Rattle.tftp_capture.proofs.Beginnings.{agree, begins_more, capture_has, fault_after, unfinished_has}
use Rattle.tftp_capture.proofs.Readings.{reads_same}
use Rattle.tftp_judge.specs.{header_by}
use Rattle.tftp_judge.proofs.FirstFaults.{begins_longer}
use Rattle.law_model.specs.Rules.{IsHigh, transfer_of}
use Rattle.law_end.proofs.Spelled.{spelled_once}
use Rattle.law_rollover.proofs.OneWay.{in_one_way}
use Rattle.law_rollover.proofs.Shown.{one_greatest}
use Rattle.tftp_commands.specs.{packet_fault_name, IsLeft, IsNoMemoryEnding, IsUnread, Output, AsGiven, AreFirstOf, AreLines, AsRead, Cut, Ending, EndsBy, Extent, Faulty, HasRead, IsDatagramLine, IsHighFor, IsPayloadText, IsShown, WantsToShow, Whole, beside, last_line, message_text, since_request, status_of, Source}
use Rattle.tftp_commands.proofs.OneOutput.{last_line_is}

-- ---- the lines of datagrams

module _ (rollover : Option Rollover) (high : ℕ) where
  one_text : (payload one other : List ℕ) → IsPayloadText rollover high payload one → IsPayloadText rollover high payload other → one ≡ other
  one_text payload one other (inl (m, spells, is)) (inl (n, also, too)) = is ∙ ap (λ x. message_text x ++ beside rollover high x) (spelled_once payload m n spells also) ∙ sym too
  one_text payload one other (inl (m, spells, is)) (inr (f, first, too)) = absurd (no_fault payload m f spells.1 first.0)
  one_text payload one other (inr (f, first, is)) (inl (m, spells, too)) = absurd (no_fault payload m f spells.1 first.0)
  one_text payload one other (inr (f, first, is)) (inr (g, also, too)) = is ∙ ap (λ x. codes "malformed " ++ packet_fault_name x) (first_fault_unique payload f g first also) ∙ sym too

  one_line : (number : ℕ) (d : Datagram) (one other : List ℕ) → IsDatagramLine rollover high number d one → IsDatagramLine rollover high number d other → one ≡ other
  one_line number d one other (text, says, is) (words, also, too) =
      is ∙ ap (λ t. decimal number ++ codes " " ++ dir_word d.dir ++ codes " " ++ t ++ codes "\n") (one_text d.payload text words says also) ∙ sym too

-- numbers are read by one highest block
pub one_high : (rollover : Option Rollover) (h : Header) (earlier : List Datagram) (one other : ℕ) → IsHighFor rollover h earlier one → IsHighFor rollover h earlier other → one ≡ other
one_high None h earlier one other is too = is ∙ sym too
one_high (Some r) h earlier one other (unrolled, are, is) (again, also, too) =
    let header = header_by (Some r) h in
    one_greatest _ one other is (subst (λ (us : List Datagram). IsHigh (transfer_of header us) other) (in_one_way r header (since_request header earlier) again unrolled also are) too)

one_lines : (rollover : Option Rollover) (h : Header) (earlier : List Datagram) (ds : List Numbered) (one other : List ℕ) → AreLines rollover h earlier ds one → AreLines rollover h earlier ds other → one ≡ other
one_lines rollover h earlier [] one other is too = is ∙ sym too
one_lines rollover h earlier (d ∷ ds) one other (high, top, line, more, says, are, is) (highest, at, row, rest, also, all, too) =
    let number = length earlier + 1 in
    let same = one_high rollover h earlier highest high at top in
    let also_says : IsDatagramLine rollover high number d.1 row = subst (λ k. IsDatagramLine rollover k number d.1 row) same also in
    is ∙ ap (λ l. l ++ more) (one_line rollover high number d.1 line row says also_says) ∙ ap (λ l. row ++ l) (one_lines rollover h (d.1 ∷ earlier) ds more rest are all) ∙ sym too

-- the header of the datagrams that are shown is one
same_lines : (rollover : Option Rollover) (text : List ℕ) (h k : Header) (ds : List Numbered) (one other : List ℕ) → AreFirstOf text h ds → AreFirstOf text k ds → AreLines rollover h [] ds one → AreLines rollover k [] ds other → one ≡ other
same_lines rollover text h k [] one other first second is too = is ∙ sym too
same_lines rollover text h k (d ∷ ds) one other (inl none) second is too = absurd (cc)
same_lines rollover text h k (d ∷ ds) one other (inr begins) (inl none) is too = absurd (cc)
same_lines rollover text h k (d ∷ ds) one other (inr begins) (inr also) is too =
    let same : h ≡ k = (agree text h k (d ∷ ds) (d ∷ ds) begins also).0 in
    one_lines rollover k [] (d ∷ ds) one other (subst (λ x. AreLines rollover x [] (d ∷ ds) one) same is) too

-- ---- where a text ends whose reading failed

over_is : (text : List ℕ) (ds : List Numbered) (line : ℕ) (due : Due) → Unfinished text ds line due → ((header : Header) × IsCapture text header ds) ⊎ HasFault text ds line Truncated
over_is text ds line (Nothing version header) u = inl (header, (version, u.lines, subst (λ r. Stands text u.lines r (Nothing version header) ds) (u.stands.last tt) u.stands))
over_is text ds line Head u = inr (Head, u, λ h. h)
over_is text ds line (EndLine version) u = inr (EndLine version, u, λ h. h)
over_is text ds line (ServiceLine version named) u = inr (ServiceLine version named, u, λ h. h)
over_is text ds line (Body version header) u = inr (Body version header, u, λ h. h)

both_captured : (text : List ℕ) (h k : Header) (ds es : List Numbered) → IsCapture text h ds → IsCapture text k es → ds ≡ es
both_captured text h k ds es is also = let same = reads_same text (Capture h ds) (Capture k es) is also in cc

captured_or_faulty : (text : List ℕ) (h : Header) (ds es : List Numbered) (line : ℕ) (fault : TextFault) → IsCapture text h ds → HasFault text es line fault → ⊥
captured_or_faulty text h ds es line fault is has = let same = reads_same text (Capture h ds) (Fault es line fault) is has in cc

both_faulty : (text : List ℕ) (ds es : List Numbered) (l m : ℕ) (f g : TextFault) → HasFault text ds l f → HasFault text es m g → (ds ≡ es) × (l ≡ m) × (f ≡ g)
both_faulty text ds es l m f g has also = let same = reads_same text (Fault ds l f) (Fault es m g) has also in (cc, cc, cc)

both_end : (text : List ℕ) (ds es : List Numbered) (l m : ℕ) → ((header : Header) × IsCapture text header ds) ⊎ HasFault text ds l Truncated → ((header : Header) × IsCapture text header es) ⊎ HasFault text es m Truncated → ds ≡ es
both_end text ds es l m (inl (h, is)) (inl (k, also)) = both_captured text h k ds es is also
both_end text ds es l m (inl (h, is)) (inr has) = absurd (captured_or_faulty text h ds es m Truncated is has)
both_end text ds es l m (inr has) (inl (k, also)) = absurd (captured_or_faulty text k es ds l Truncated also has)
both_end text ds es l m (inr has) (inr too) = (both_faulty text ds es l m Truncated Truncated has too).0

-- ---- the ending

-- how a showing ends where no write failed and memory was not wanting
data Ends (source : Source) (ds : List Numbered) : Ending → Type 0 where
  whole : (h : Header) → IsCapture source.read h ds → source.failed ≡ false → Ends source ds Whole
  faulty : (line : ℕ) (fault : TextFault) → HasFault source.read ds line fault → source.failed ≡ false → Ends source ds (Faulty (Text line fault))
  unread : (line : ℕ) (due : Due) → Unfinished source.read ds line due → source.failed ≡ true → Ends source ds (Faulty (Read line))

ends_is : (source : Source) (ds : List Numbered) (e : Ending) → IsNoMemoryEnding e → EndsBy e source false ds → Ends source ds e
ends_is source ds Whole fine ((h, is), end, clean) = whole h is clean
ends_is source ds (Faulty (Text line fault)) fine (has, end, clean) = faulty line fault has clean
ends_is source ds (Faulty (Read line)) fine ((due, ends), failed) = unread line due ends failed
ends_is source ds (Faulty (Memory line)) fine ends = absurd fine
ends_is source ds Cut fine (first, clean, cut, stops) = absurd (true≢false (sym cut))

read_or_not : (source : Source) → source.failed ≡ false → source.failed ≡ true → ⊥
read_or_not source clean failed = true≢false (sym failed ∙ clean)

one_end : (source : Source) (ds es : List Numbered) (e f : Ending) → Ends source ds e → Ends source es f → (ds ≡ es) × (e ≡ f)
one_end source ds es _ _ (whole h is clean) (whole k also fine) = (both_captured source.read h k ds es is also, refl)
one_end source ds es _ _ (whole h is clean) (faulty line fault has fine) = absurd (captured_or_faulty source.read h ds es line fault is has)
one_end source ds es _ _ (whole h is clean) (unread line due ends failed) = absurd (read_or_not source clean failed)
one_end source ds es _ _ (faulty line fault has clean) (whole k also fine) = absurd (captured_or_faulty source.read k es ds line fault also has)
one_end source ds es _ _ (faulty l f has clean) (faulty m g also fine) =
    let same = both_faulty source.read ds es l m f g has also in
    (same.0, ap (λ x. Faulty (Text x f)) same.1 ∙ ap (λ x. Faulty (Text m x)) same.2)
one_end source ds es _ _ (faulty line fault has clean) (unread other due ends failed) = absurd (read_or_not source clean failed)
one_end source ds es _ _ (unread line due ends failed) (whole k also fine) = absurd (read_or_not source fine failed)
one_end source ds es _ _ (unread line due ends failed) (faulty other fault has fine) = absurd (read_or_not source fine failed)
one_end source ds es _ _ (unread l due ends failed) (unread m also stops broken) = (
  both_end source.read ds es l m (over_is source.read ds l due ends) (over_is source.read es m also stops),
  ap (λ x. Faulty (Read x)) (last_line_is source.read ds l due ends ∙ sym (last_line_is source.read es m also stops)),
)

abbrev shown : List ℕ → Ending → Output
shown lines ending = record { bytes = lines ++ last_line ending; status = status_of ending }

pub one_shown : (rollover : Option Rollover) (source : Source) (one other : Output) (first : IsShown rollover source false one) (second : IsShown rollover source false other) → IsNoMemoryEnding first.ending → IsNoMemoryEnding second.ending → one ≡ other
one_shown rollover source one other first second fine well =
    let same = one_end source first.datagrams second.datagrams first.ending second.ending (ends_is source first.datagrams first.ending fine first.ends) (ends_is source second.datagrams second.ending well second.ends) in
    let begins : AreFirstOf source.read first.header second.datagrams = subst (λ (x : List Numbered). AreFirstOf source.read first.header x) same.0 first.first in
    let are : AreLines rollover first.header [] second.datagrams first.lines = subst (λ (x : List Numbered). AreLines rollover first.header [] x first.lines) same.0 first.are in
    let lines : first.lines ≡ second.lines = same_lines rollover source.read first.header second.header second.datagrams first.lines second.lines begins second.first are second.are in
    first.is ∙ ap (λ (l : List ℕ). shown l first.ending) lines ∙ ap (shown second.lines) same.1 ∙ sym second.is

-- ---- what is left where memory was wanting

-- what was read is bytes of the source from their start
read_begins : (extent : Extent) (bytes read : List ℕ) (header : Header) (ds : List Numbered) → HasRead extent bytes read → Begins read header ds → Begins bytes header ds
read_begins AsRead bytes read header ds is begins = subst (λ t. Begins t header ds) (sym is) begins
read_begins AsGiven text read header ds (more, is) begins = subst (λ t. Begins t header ds) (sym is) (begins_longer read more header ds begins)

-- no byte was read, or the source has the datagram for which memory was wanted
abbrev WantIs : Extent → List ℕ → List Numbered → ℕ → Type 0
WantIs extent bytes ds line = HasRead extent bytes [] ⊎ ((header : Header) × (d : Datagram) × Begins bytes header (ds ++ (line, d) ∷ []))

want_is : (extent : Extent) (bytes read : List ℕ) (ds : List Numbered) (line : ℕ) → HasRead extent bytes read → WantsToShow read ds line → WantIs extent bytes ds line
want_is extent bytes read ds line has want = elim want.wants as (λ _. WantIs extent bytes ds line) [
  | inl first ↦ inl (subst (HasRead extent bytes) first.0 has)
  | inr said ↦
      let all = ds ++ (line, said.datagram) ∷ [] in
      let begins : Begins read said.header all = subst (λ t. Begins t said.header all) (sym want.to.0) (begins_more want.taken want.ahead said.lines said.header all said.stands) in
      inr (said.header, said.datagram, read_begins extent bytes read said.header all has begins)
]

-- a showing that ends otherwise has all datagrams of its source
has_all : (source : Source) (ds es : List Numbered) (e : Ending) (header : Header) → Ends source ds e → Begins source.read header es → BeginsWith ds es
has_all source ds es _ header (whole h is clean) begins = (capture_has source.read h header ds es is begins).1
has_all source ds es _ header (faulty line fault has clean) begins = fault_after source.read header ds es line fault has begins
has_all source ds es _ header (unread line due ends failed) begins = unfinished_has source.read header ds es line due ends begins

memory_ends : (source : Source) (ds : List Numbered) (line : ℕ) (e : Ending) → e ≡ Faulty (Memory line) → EndsBy e source false ds → WantIs source.extent source.read ds line
memory_ends source ds line e is ends =
    let wants : EndsBy (Faulty (Memory line)) source false ds = subst (λ x. EndsBy x source false ds) is ends in
    want_is source.extent source.read wants.2.0 ds line wants.2.1 wants.2.2

pub left_unshown : (rollover : Option Rollover) (source : Source) (one other : Output) (first : IsShown rollover source false one) (second : IsShown rollover source false other) (line : ℕ) → first.ending ≡ Faulty (Memory line) → IsNoMemoryEnding second.ending
    → IsUnread source ⊎ IsLeft first.datagrams line second.datagrams
left_unshown rollover source one other first second line is fine = elim (memory_ends source first.datagrams line first.ending is first.ends) as (λ _. IsUnread source ⊎ IsLeft first.datagrams line second.datagrams) [
  | inl none ↦ inl none
  | inr next ↦ inr (next.1, has_all source second.datagrams (first.datagrams ++ (line, next.1) ∷ []) second.ending next.0 (ends_is source second.datagrams second.ending fine second.ends) next.2)
]
