-- A text that is shown while it is read.
use Rattle.std.proofs.Common.{◌≡◌, ◌≢◌, ◌≤◌, ◌⊎◌, inl, inr, ℕ, ◌+◌, List, [], ◌∷◌, ◌++◌, length, Bool, true, false, true≢false, Option, Some, None, Result, Ok, Err, refl, sym, ap, ◌∙◌, subst, append_assoc, append-nil, length-append, arith}
use Rattle.std.specs.Io.KnownBytes.{prepend_known, Consumes, IsAtEnd}
use Rattle.std.proofs.KnownBytes.{Consumes-trans}
use Rattle.tftp_capture.specs.{TextFault, BadHeader, BadEnd, BadService, LineTooLong, BadLine, BadPort, BadHost, BadHex, PayloadTooLong, TotalWrong, Truncated, TrailingText, TextTooLong, CaptureFault, Version, Numbered, Stands, IsCapture, HasFault, datagram_of, Continues, FailsToBegin, FaultTells, FirstTells, GoesOn, MemoryTells, IsAtTextEnd, IsReadFault, ReaderState, StandsFor, WantTells}
use Rattle.net_streams.specs.Streams.{AppendsPrefix, Gathers, Sink, most_ahead}
use Rattle.net_streams.specs.{Failed, Open, Over}
use Rattle.tftp_capture.specs.declared.fault.CaptureFault.TheVariants.{Text, Read, Memory}
use Rattle.tftp_capture.specs.declared.datagram.Datagram.{Datagram as Owned}
use Rattle.tftp_packet.specs.{Client, Rollover}
use Rattle.tftp_packet.specs.Hosts.{Datagram, Header}
use Rattle.tftp_capture.specs.CaptureText.Due.{Body}
use Rattle.tftp_capture.proofs.Staying.{stays}
use Rattle.net_streams.proofs.StreamsLemmas.Gathering.{gathers_more, gathers_none, prefix_after}
use Rattle.tftp_commands.specs.{Status, IsWritten, Output, AreFirst, AreFirstOf, AreLines, Ending, Whole, Faulty, Cut, EndsBy, IsDatagramLine, IsKept, IsShown, Runs, WantsToShow, last_line, status_of, given, so_far}
use Rattle.tftp_commands.specs.declared.status.Status.TheVariants as status
use Rattle.tftp_commands.specs.declared.numbers.Numbers.{Numbers}
use Rattle.tftp_commands.proofs.Lines.{kept_high, lines_more, passed_after, passed_count, passed_more}
use Rattle.tftp_commands.proofs.Written.{written_after}

-- What was shown so far: a reader that goes on took these bytes and gave these datagrams; the lines of these were
-- written, or wait.
pub record Showing (rollover : Option Rollover) (kept : Numbers) (start now : Option (List ℕ)) (capture : ReaderState) (before after : Option (List ℕ)) (waits : List ℕ) (number : ℕ) : Type 0 where
  pub read : List ℕ
  pub datagrams : List Numbered
  pub lines : List ℕ
  pub consumed : Consumes start (prepend_known capture.lines.ahead now) read
  pub stands : GoesOn capture.header capture.lines capture.count read datagrams
  pub counted : number ≡ length datagrams
  pub is_kept : IsKept rollover kept capture.header (passed_after [] datagrams)
  pub are : AreLines rollover capture.header [] datagrams lines
  pub gathered : Gathers before after [] waits lines

-- a run so far, whatever comes of it: what was read of the source, and the output of which all or a part was written
abbrev pub Said : Option Rollover → Option (List ℕ) → Option (List ℕ) → Bool → Option (List ℕ) → Option (List ℕ) → Bool → Status → Type 0
Said rollover start now failed before after cut result =
    (read : List ℕ) × (output : Output) × Consumes start now read × IsShown rollover (so_far read now failed) cut output × IsWritten before after cut output result

-- ---- what is read ahead

-- what is read ahead is read too
consumed_ahead : (start now : Option (List ℕ)) (ahead taken : List ℕ) → Consumes start (prepend_known ahead now) taken → Consumes start now (taken ++ ahead)
consumed_ahead None now ahead taken p = tt
consumed_ahead (Some x) None ahead taken p = absurd p
consumed_ahead (Some x) (Some y) ahead taken p = p ∙ sym (append_assoc taken ahead y)

-- nothing is ahead of the end
consumed_end : (start now : Option (List ℕ)) (ahead taken : List ℕ) → Consumes start (prepend_known ahead now) taken → IsAtEnd (prepend_known ahead now) → Consumes start now taken × IsAtEnd now
consumed_end None None ahead taken p e = (tt, tt)
consumed_end (Some x) None ahead taken p e = absurd p
consumed_end None (Some y) [] taken p e = (tt, e)
consumed_end None (Some y) (b ∷ bs) taken p e = absurd (omega (arith, ap length e))
consumed_end (Some x) (Some y) [] taken p e = (p, e)
consumed_end (Some x) (Some y) (b ∷ bs) taken p e = absurd (omega (arith, ap length e))

consumed_none : (start now : Option (List ℕ)) (ahead taken : List ℕ) → Consumes start (prepend_known ahead now) taken → ahead ≡ [] → Consumes start now taken
consumed_none start now ahead taken p e = subst (Consumes start now) (ap (λ l. taken ++ l) e ∙ append-nil taken) (consumed_ahead start now ahead taken p)

-- ---- the datagrams so far

begins : (version : Version) (header : Header) (lines : List (List ℕ)) (text more : List ℕ) (ds : List Numbered) → Stands text lines [] (Body version header) ds → AreFirstOf (text ++ more) header ds
begins version header lines text more ds stands = inr (record { read = text; more = more; lines = lines; are = refl; stands = (version, stands) })

some_first : (text : List ℕ) (header : Header) (ds : List Numbered) → AreFirstOf text header ds → AreFirst text ds
some_first text header ds (inl none) = inl none
some_first text header ds (inr begins) = inr (header, begins)

-- ---- one datagram more

pub begun : (rollover : Option Rollover) (kept : Numbers) (start now : Option (List ℕ)) (capture : ReaderState) (contents : Option (List ℕ)) (taken : List ℕ) → Consumes start (prepend_known capture.lines.ahead now) taken
    → GoesOn capture.header capture.lines capture.count taken [] → IsKept rollover kept capture.header [] → Showing rollover kept start now capture contents contents [] 0
begun rollover kept start now capture contents taken p goes is =
    record { read = taken; datagrams = []; lines = []; consumed = p; stands = goes; counted = refl; is_kept = is; are = refl; gathered = gathers_none contents [] }

opened : (capture : ReaderState) (text : List ℕ) (ds : List Numbered) → capture.standing ≡ Open → GoesOn capture.header capture.lines capture.count text ds → StandsFor capture text ds
opened capture text ds going goes = rw going goes

-- what the reader answers next, whatever was taken and given before
abbrev pub Nexts : ReaderState → ReaderState → Option (List ℕ) → Option (List ℕ) → Result (Option Owned) CaptureFault → Type 0
Nexts old new mid now result =
    (text : List ℕ) (ds : List Numbered) → StandsFor old text ds → Continues old new (prepend_known old.lines.ahead mid) (prepend_known new.lines.ahead now) result text ds

more_counted : (number : ℕ) (ds : List Numbered) (d : Numbered) → number ≡ length ds → number + 1 ≡ length (ds ++ d ∷ [])
more_counted number ds d e = omega (arith, e, length-append ds (d ∷ []))

-- the line of the next datagram follows those of the others
next_line : (rollover : Option Rollover) (kept : Numbers) (header : Header) (number : ℕ) (ds : List Numbered) (bytes : List ℕ) (d : Numbered) (line : List ℕ) → number ≡ length ds
    → IsKept rollover kept header (passed_after [] ds) → AreLines rollover header [] ds bytes → IsDatagramLine rollover kept.highest (number + 1) d.1 line → AreLines rollover header [] (ds ++ d ∷ []) (bytes ++ line)
next_line rollover kept header number ds bytes d line e is_kept are is =
    let count : number + 1 ≡ length (passed_after [] ds) + 1 = omega (arith, e, passed_count [] ds) in
    lines_more rollover header [] ds bytes d kept.highest line are (kept_high rollover kept header (passed_after [] ds) is_kept) (subst (λ k. IsDatagramLine rollover kept.highest k d.1 line) count is)

-- what is kept of the others, and of the next one
abbrev pub KeepsOn : Option Rollover → Numbers → Numbers → Datagram → Type 0
KeepsOn rollover kept after d = (h : Header) (earlier : List Datagram) → IsKept rollover kept h earlier → IsKept rollover after h (d ∷ earlier)

next_kept : (rollover : Option Rollover) (kept after : Numbers) (header : Header) (ds : List Numbered) (d : Numbered) → IsKept rollover kept header (passed_after [] ds) → KeepsOn rollover kept after d.1
    → IsKept rollover after header (passed_after [] (ds ++ d ∷ []))
next_kept rollover kept after header ds d is keeps = subst (IsKept rollover after header) (sym (passed_more [] ds d)) (keeps header (passed_after [] ds) is)

pub one_more : (rollover : Option Rollover) (kept after : Numbers) (start mid now before c1 c2 : Option (List ℕ)) (old new : ReaderState) (w1 w2 : List ℕ) (number : ℕ) (d : Owned) (line : List ℕ)
    → Showing rollover kept start mid old before c1 w1 number → old.standing ≡ Open → Nexts old new mid now (Ok (Some d)) → new.standing ≡ Open → new.header ≡ old.header
    → IsDatagramLine rollover kept.highest (number + 1) (datagram_of d) line → KeepsOn rollover kept after (datagram_of d) → Gathers c1 c2 w1 w2 line → Showing rollover after start now new before c2 w2 (number + 1)
one_more rollover kept after start mid now before c1 c2 old new w1 w2 number d line s going next still same is keeps g =
    let n = next s.read s.datagrams (opened old s.read s.datagrams going s.stands) in
    let is_kept = subst (λ x. IsKept rollover kept x (passed_after [] s.datagrams)) (sym same) s.is_kept in
    let are = subst (λ x. AreLines rollover x [] s.datagrams s.lines) (sym same) s.are in
    record {
      read = s.read ++ n.taken;
      datagrams = s.datagrams ++ (new.handed, datagram_of d) ∷ [];
      lines = s.lines ++ line;
      consumed = Consumes-trans _ _ _ _ _ s.consumed n.consumed;
      stands = rw still at n.stands;
      counted = more_counted number s.datagrams (new.handed, datagram_of d) s.counted;
      is_kept = next_kept rollover kept after new.header s.datagrams (new.handed, datagram_of d) is_kept keeps;
      are = next_line rollover kept new.header number s.datagrams s.lines (new.handed, datagram_of d) line s.counted is_kept are is;
      gathered = gathers_more _ _ _ _ _ _ _ _ s.gathered g;
    }

-- ---- endings

pub cut_here : (rollover : Option Rollover) (kept : Numbers) (start mid now before c1 c2 : Option (List ℕ)) (old new : ReaderState) (w1 : List ℕ) (number : ℕ) (d : Owned) (line : List ℕ) (failed cut : Bool)
    → Showing rollover kept start mid old before c1 w1 number → old.standing ≡ Open → Nexts old new mid now (Ok (Some d)) → new.standing ≡ Open → new.header ≡ old.header → length new.lines.ahead ≤ most_ahead
    → failed ≡ false → cut ≡ true → IsDatagramLine rollover kept.highest (number + 1) (datagram_of d) line → AppendsPrefix c1 c2 (w1 ++ line) → Said rollover start now failed before c2 cut status.Fault
cut_here rollover kept start mid now before c1 c2 old new w1 number d line failed cut s going next still same near clean is_cut is g =
    let n = next s.read s.datagrams (opened old s.read s.datagrams going s.stands) in
    let goes : GoesOn new.header new.lines new.count (s.read ++ n.taken) (s.datagrams ++ (new.handed, datagram_of d) ∷ []) = rw still at n.stands in
    let part : AppendsPrefix before c2 ((s.lines ++ line) ++ []) = rw append-nil (prefix_after before c1 c2 [] w1 s.lines line s.gathered g) in
    let is_kept = subst (λ x. IsKept rollover kept x (passed_after [] s.datagrams)) (sym same) s.is_kept in
    let are = subst (λ x. AreLines rollover x [] s.datagrams s.lines) (sym same) s.are in
    let first = begins new.lines.version new.header goes.lines (s.read ++ n.taken) new.lines.ahead _ goes.stands in (
      (s.read ++ n.taken) ++ new.lines.ahead,
      record { bytes = (s.lines ++ line) ++ []; status = status.Fault },
      consumed_ahead start now new.lines.ahead (s.read ++ n.taken) (Consumes-trans _ _ _ _ _ s.consumed n.consumed),
      record {
        header = new.header;
        datagrams = s.datagrams ++ (new.handed, datagram_of d) ∷ [];
        ending = Cut;
        lines = s.lines ++ line;
        first = first;
        are = next_line rollover kept new.header number s.datagrams s.lines (new.handed, datagram_of d) line s.counted is_kept are is;
        ends = (
          some_first _ new.header _ first,
          clean,
          is_cut,
          (
            (s.read ++ n.taken) ++ new.lines.ahead,
            refl,
            record { taken = s.read ++ n.taken; ahead = new.lines.ahead; to = (refl, near); version = new.lines.version; lines = goes.lines; header = new.header; stands = goes.stands },
          ),
        );
        is = refl;
      },
      rw is_cut (part, refl),
    )

pub shown_whole : (rollover : Option Rollover) (kept : Numbers) (start mid now before c1 c2 : Option (List ℕ)) (old new : ReaderState) (w1 : List ℕ) (number : ℕ) (failed cut : Bool) (result : Status)
    → Showing rollover kept start mid old before c1 w1 number → old.standing ≡ Open → Nexts old new mid now (Ok None) → new.standing ≡ Over
    → IsAtEnd (prepend_known new.lines.ahead now) → failed ≡ false → IsWritten c1 c2 cut (record { bytes = w1 ++ last_line Whole; status = status_of Whole }) result
    → Said rollover start now failed before c2 cut result
shown_whole rollover kept start mid now before c1 c2 old new w1 number failed cut result s going next over end clean written =
    let n = next s.read s.datagrams (opened old s.read s.datagrams going s.stands) in
    let capture : IsCapture (s.read ++ n.taken) new.header s.datagrams = rw over at n.stands in
    let ended = consumed_end start now new.lines.ahead (s.read ++ n.taken) (Consumes-trans _ _ _ _ _ s.consumed n.consumed) end in (
      s.read ++ n.taken,
      record { bytes = s.lines ++ last_line Whole; status = status_of Whole },
      ended.0,
      record {
        header = old.header;
        datagrams = s.datagrams;
        ending = Whole;
        lines = s.lines;
        first = begins old.lines.version old.header s.stands.lines s.read n.taken s.datagrams s.stands.stands;
        are = s.are;
        ends = ((new.header, capture), ended.1, clean);
        is = refl;
      },
      written_after before c1 c2 cut [] w1 s.lines (last_line Whole) (status_of Whole) result s.gathered written,
    )

truncated_or_not : (fault : TextFault) → (fault ≡ Truncated) ⊎ (fault ≢ Truncated)
truncated_or_not BadHeader = inr (λ e. cc)
truncated_or_not BadEnd = inr (λ e. cc)
truncated_or_not BadService = inr (λ e. cc)
truncated_or_not LineTooLong = inr (λ e. cc)
truncated_or_not BadLine = inr (λ e. cc)
truncated_or_not BadPort = inr (λ e. cc)
truncated_or_not BadHost = inr (λ e. cc)
truncated_or_not BadHex = inr (λ e. cc)
truncated_or_not PayloadTooLong = inr (λ e. cc)
truncated_or_not TotalWrong = inr (λ e. cc)
truncated_or_not Truncated = inl refl
truncated_or_not TrailingText = inr (λ e. cc)
truncated_or_not TextTooLong = inr (λ e. cc)

-- for what memory ran out, where it did
abbrev Wants : CaptureFault → List ℕ → List Numbered → Type 0
Wants (Text line fault) read ds = Unit {0}
Wants (Read line) read ds = Unit {0}
Wants (Memory line) read ds = WantsToShow read ds line

wants_first : (taken ahead : List ℕ) (fault : CaptureFault) → FirstTells fault taken ahead → length ahead ≤ most_ahead → Wants fault (taken ++ ahead) []
wants_first taken ahead (Text line fault) tells near = tt
wants_first taken ahead (Read line) tells near = tt
wants_first taken ahead (Memory line) tells near = record { taken = taken; ahead = ahead; to = (refl, near); wants = inl (ap (λ t. t ++ ahead) tells.1 ∙ tells.2, tells.0, refl) }

wants_more : (taken ahead : List ℕ) (ds : List Numbered) (fault : CaptureFault) → MemoryTells fault taken ds → length ahead ≤ most_ahead → Wants fault (taken ++ ahead) ds
wants_more taken ahead ds (Text line fault) tells near = tt
wants_more taken ahead ds (Read line) tells near = tt
wants_more taken ahead ds (Memory line) tells near = record { taken = taken; ahead = ahead; to = (refl, near); wants = inr tells }

-- what a fault says of all that was read
abbrev FaultEnds : Option (List ℕ) → Option (List ℕ) → Bool → Bool → CaptureFault → Header → List Numbered → Type 0
FaultEnds start now failed cut fault header ds = (read : List ℕ) × Consumes start now read × EndsBy (Faulty fault) (so_far read now failed) cut ds × AreFirstOf read header ds

first_taken : (taken : List ℕ) (header : Header) (ds : List Numbered) → ((more : List ℕ) → AreFirstOf (taken ++ more) header ds) → AreFirstOf taken header ds
first_taken taken header ds first = subst (λ t. AreFirstOf t header ds) (append-nil taken) (first [])

fault_ends : (start now : Option (List ℕ)) (taken ahead : List ℕ) (failed cut : Bool) (fault : CaptureFault) (header : Header) (ds : List Numbered) → Consumes start now (taken ++ ahead)
    → (IsAtTextEnd fault → Consumes start now taken × IsAtEnd now) → (IsReadFault fault → Consumes start now taken) → FaultTells fault taken ds → ((more : List ℕ) → AreFirstOf (taken ++ more) header ds) → Wants fault (taken ++ ahead) ds
    → (IsReadFault fault → failed ≡ true) → ((IsReadFault fault → ⊥) → failed ≡ false) → FaultEnds start now failed cut fault header ds
fault_ends start now taken ahead failed cut (Read line) header ds p end drained tells first wants failing working = (taken, drained tt, (tells, failing tt), first_taken taken header ds first)
fault_ends start now taken ahead failed cut (Memory line) header ds p end drained tells first wants failing working =
    (taken ++ ahead, p, (some_first (taken ++ ahead) header ds (first ahead), working (λ h. h), (taken ++ ahead, refl, wants)), first ahead)
fault_ends start now taken ahead failed cut (Text line fault) header ds p end drained tells first wants failing working = by (truncated_or_not fault)
  where
    by : (fault ≡ Truncated) ⊎ (fault ≢ Truncated) → FaultEnds start now failed cut (Text line fault) header ds
    by (inl is) = (taken, (end is).0, (tells, λ h. (end h).1, working (λ h. h)), first_taken taken header ds first)
    by (inr other) = (taken ++ ahead, p, (stays taken ahead ds line fault other tells, λ h. absurd (other h), working (λ h. h)), first ahead)

-- the first datagrams, and then the fault
pub shown_fault : (rollover : Option Rollover) (kept : Numbers) (start mid now before c1 c2 : Option (List ℕ)) (old new : ReaderState) (w1 : List ℕ) (number : ℕ) (failed cut : Bool) (result : Status) (fault : CaptureFault)
    → Showing rollover kept start mid old before c1 w1 number → old.standing ≡ Open → Nexts old new mid now (Err fault) → new.standing ≡ Failed fault
    → length new.lines.ahead ≤ most_ahead → (IsAtTextEnd fault → IsAtEnd (prepend_known new.lines.ahead now)) → (IsReadFault fault → new.lines.ahead ≡ [])
    → (IsReadFault fault → failed ≡ true) → ((IsReadFault fault → ⊥) → failed ≡ false)
    → IsWritten c1 c2 cut (record { bytes = w1 ++ last_line (Faulty fault); status = status_of (Faulty fault) }) result → Said rollover start now failed before c2 cut result
shown_fault rollover kept start mid now before c1 c2 old new w1 number failed cut result fault s going next stopped near end drained failing working written =
    let n = next s.read s.datagrams (opened old s.read s.datagrams going s.stands) in
    let tells : FaultTells fault (s.read ++ n.taken) s.datagrams = rw stopped at n.stands in
    let want : MemoryTells fault (s.read ++ n.taken) s.datagrams = subst (λ x. WantTells x (Err fault) (s.read ++ n.taken) s.datagrams) going n.memory in
    let p = Consumes-trans _ _ _ _ _ s.consumed n.consumed in
    let first = λ (more : List ℕ). subst (λ t. AreFirstOf t old.header s.datagrams) (sym (append_assoc s.read n.taken more)) (begins old.lines.version old.header s.stands.lines s.read (n.taken ++ more) s.datagrams s.stands.stands) in
    let ended =
    fault_ends start now (s.read ++ n.taken) new.lines.ahead failed cut fault old.header s.datagrams (consumed_ahead start now new.lines.ahead (s.read ++ n.taken) p)
    (λ h. consumed_end start now new.lines.ahead (s.read ++ n.taken) p (end h)) (λ h. consumed_none start now new.lines.ahead (s.read ++ n.taken) p (drained h)) tells first
    (wants_more (s.read ++ n.taken) new.lines.ahead s.datagrams fault want near) failing working in (
      ended.0,
      record { bytes = s.lines ++ last_line (Faulty fault); status = status_of (Faulty fault) },
      ended.1,
      record {
        header = old.header;
        datagrams = s.datagrams;
        ending = Faulty fault;
        lines = s.lines;
        first = ended.3;
        are = s.are;
        ends = ended.2;
        is = refl;
      },
      written_after before c1 c2 cut [] w1 s.lines (last_line (Faulty fault)) (status_of (Faulty fault)) result s.gathered written,
    )

-- any header, where no datagram is shown
abbrev no_header : Header
no_header = record { named = Client; service = 69; rollover = None }

-- none of the datagrams, and then the fault
pub shown_nothing : (rollover : Option Rollover) (start now before after : Option (List ℕ)) (failed cut : Bool) (result : Status) (fault : CaptureFault) → FailsToBegin start now fault → (IsAtTextEnd fault → IsAtEnd now)
    → (IsReadFault fault → failed ≡ true) → ((IsReadFault fault → ⊥) → failed ≡ false)
    → IsWritten before after cut (record { bytes = last_line (Faulty fault); status = status_of (Faulty fault) }) result → Said rollover start now failed before after cut result
shown_nothing rollover start now before after failed cut result fault f end failing working written =
    let drop_ahead = λ (none : f.ahead ≡ []). subst (Consumes start now) (ap (λ l. f.taken ++ l) none ∙ append-nil f.taken) f.consumed in
    let ended = fault_ends start now f.taken f.ahead failed cut fault no_header [] f.consumed (λ h. (drop_ahead (f.ended h), end h)) (λ h. drop_ahead (f.drained h)) f.tells (λ more. inl refl) (wants_first f.taken f.ahead fault f.memory f.near) failing working in (
      ended.0,
      record { bytes = last_line (Faulty fault); status = status_of (Faulty fault) },
      ended.1,
      record {
        header = no_header;
        datagrams = [];
        ending = Faulty fault;
        lines = [];
        first = ended.3;
        are = refl;
        ends = ended.2;
        is = refl;
      },
      written,
    )

-- ---- a text that was given whole

first_more : (text read rest : List ℕ) (ds : List Numbered) → text ≡ read ++ rest → AreFirst read ds → AreFirst text ds
first_more text read rest ds e (inl none) = inl none
first_more text read rest ds e (inr b) = inr (
  b.0,
  record {
    read = b.1.read;
    more = b.1.more ++ rest;
    lines = b.1.lines;
    are = e ∙ ap (λ l. l ++ rest) b.1.are ∙ append_assoc b.1.read b.1.more rest;
    stands = b.1.stands;
  },
)

first_given : (text read rest : List ℕ) (header : Header) (ds : List Numbered) → text ≡ read ++ rest → AreFirstOf read header ds → AreFirstOf text header ds
first_given text read rest header ds e (inl none) = inl none
first_given text read rest header ds e (inr b) =
    inr (record { read = b.read; more = b.more ++ rest; lines = b.lines; are = e ∙ ap (λ l. l ++ rest) b.are ∙ append_assoc b.read b.more rest; stands = b.stands })

all_read : (text read rest : List ℕ) → text ≡ read ++ rest → rest ≡ [] → read ≡ text
all_read text read rest e none = sym (e ∙ ap (λ l. read ++ l) none ∙ append-nil read)

given_read : (text read rest part : List ℕ) → text ≡ read ++ rest → read ≡ part → text ≡ part ++ rest
given_read text read rest part e is = e ∙ ap (λ l. l ++ rest) is

ends_given : (ending : Ending) (text read rest : List ℕ) (failed cut : Bool) (ds : List Numbered) → text ≡ read ++ rest → failed ≡ false
    → EndsBy ending (so_far read (Some rest) failed) cut ds → EndsBy ending (given text) cut ds
ends_given Whole text read rest failed cut ds e clean h = ((h.0.0, subst (λ l. IsCapture l h.0.0 ds) (all_read text read rest e h.1) h.0.1), refl, refl)
ends_given (Faulty (Read line)) text read rest failed cut ds e clean h = absurd (true≢false (sym h.1 ∙ clean))
ends_given (Faulty (Memory line)) text read rest failed cut ds e clean h = (first_more text read rest ds e h.0, refl, (h.2.0, (rest, given_read text read rest h.2.0 e h.2.1), h.2.2))
ends_given Cut text read rest failed cut ds e clean h = (first_more text read rest ds e h.0, refl, h.2, (h.3.0, (rest, given_read text read rest h.3.0 e h.3.1), h.3.2))
ends_given (Faulty (Text line fault)) text read rest failed cut ds e clean h = by (truncated_or_not fault)
  where
    by : (fault ≡ Truncated) ⊎ (fault ≢ Truncated) → EndsBy (Faulty (Text line fault)) (given text) cut ds
    by (inl is) = (subst (λ l. HasFault l ds line fault) (all_read text read rest e (h.1 is)) h.0, λ _. refl, refl)
    by (inr other) = (subst (λ l. HasFault l ds line fault) (sym e) (stays read rest ds line fault other h.0), λ _. refl, refl)

-- of a text that was given whole the output is that of the text
whole_text : (rollover : Option Rollover) (text : List ℕ) (start now before after : Option (List ℕ)) (failed cut : Bool) (result : Status) → start ≡ Some text → failed ≡ false → Said rollover start now failed before after cut result
    → (output : Output) × IsShown rollover (given text) cut output × IsWritten before after cut output result
whole_text rollover text start now before after failed cut result tells clean said = by now (subst (λ s. Said rollover s now failed before after cut result) tells said)
  where
    by : (now : Option (List ℕ)) → Said rollover (Some text) now failed before after cut result → (output : Output) × IsShown rollover (given text) cut output × IsWritten before after cut output result
    by None s = absurd s.2
    by (Some rest) s = (
      s.1,
      record {
        header = s.3.header;
        datagrams = s.3.datagrams;
        ending = s.3.ending;
        lines = s.3.lines;
        first = first_given text s.0 rest s.3.header s.3.datagrams s.2 s.3.first;
        are = s.3.are;
        ends = ends_given s.3.ending text s.0 rest failed cut s.3.datagrams s.2 clean s.3.ends;
        is = s.3.is;
      },
      s.4,
    )

-- the run, whatever comes of it
pub shown_runs : (rollover : Option Rollover) {R W : Type 0} (remaining : R → Option (List ℕ)) (contents : W → Option (List ℕ)) (r0 r1 : R × Bool) (w0 w1 : Sink W) (result : Status)
    → Said rollover (remaining r0.0) (remaining r1.0) r1.1 (contents w0.inner) (contents w1.inner) w1.failed result → (w1.failed ≡ false → w1.waits ≡ []) → Runs remaining contents (λ source. IsShown rollover source w1.failed) r0 r1 w0 w1 result
shown_runs rollover remaining contents r0 r1 w0 w1 result said none = record {
  said = (said.0, said.1, said.2, said.3, (said.4, none));
  whole = λ text tells clean.
      let whole = whole_text rollover text (remaining r0.0) (remaining r1.0) (contents w0.inner) (contents w1.inner) r1.1 w1.failed result tells clean said in
      (whole.0, whole.1, (whole.2, none));
}

-- it is the other one
pub other_side : {P Q : Type 0} → (P → ⊥) → P ⊎ Q → Q
other_side wrong (inl p) = absurd (wrong p)
other_side wrong (inr q) = q
