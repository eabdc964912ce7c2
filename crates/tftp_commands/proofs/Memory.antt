-- Of what being out of memory may be said: before any byte was read, or for a datagram.
use Rattle.std.proofs.Common.{◌≡◌, ◌≤◌, ◌⊎◌, lit≤, ℕ, List, [], ◌∷◌, ◌++◌, All, length, codes, Bool, false, true≢false, Option, Some, Ok, Err, Result, refl, sym, ◌∙◌, subst, inl, inr}
use Rattle.std.specs.Fmt.{digits}
use Rattle.std.specs.List.{AllByRecursion}
use Rattle.std.proofs.lemmas.List.Elements.{All-cons, All-nil}
use Rattle.tftp_capture.specs.{Begins, IsCapture, IsLawful, NamesNoHost, Numbered, One, SaysDatagram, Stands, line, worked_header}
use Rattle.tftp_capture.specs.CaptureText.Due.{Body}
use Rattle.tftp_capture.specs.declared.fault.CaptureFault.TheVariants.{Text, Read, Memory}
use Rattle.tftp_capture.proofs.Beginnings.{begins_more, capture_has}
use Rattle.tftp_capture.proofs.Canonical.{canonical_is_read}
use Rattle.law_model.specs.Model.{Meaning}
use Rattle.tftp_packet.specs.{Rollover}
use Rattle.tftp_judge.specs.{Capture, IsReadVerdictBy, Refused, Verdict, WantsToJudge, WantsToRead}
use Rattle.tftp_judge.specs.declared.refusal.Refusal.TheVariants as refusal
use Rattle.tftp_judge.proofs.WantOfMemory.{wants_first_line}
use Rattle.tftp_commands.specs.declared.status.Status.TheVariants as status
use Rattle.tftp_commands.specs.{Action, AreTaken, AsGiven, AsRead, Check, Extract, Normal, Show, Count, Extent, HasDatagram, HasRead, IsJudged, IsMemoryOutput, IsSaid, IsShown, IsUnread, Output, SaysNoMemory, memory_line, IsOutputOf, Faulty, Source, WantsToShow, empty_text, first_datagram, first_text, memory_fault, so_far}
use Rattle.tftp_commands.specs.declared.words.UsageFault.TheVariants as usage

-- ---- before any byte was read

first_said : (rollover : Option Rollover) (extent : Extent) (read : List ℕ) → HasRead extent read [] → IsSaid rollover extent read (Err (Capture (Memory 1)))
first_said rollover AsRead read none =
    subst (λ r. IsReadVerdictBy rollover r (Err (Capture (Memory 1)))) (sym none) (record { taken = []; ahead = []; datagrams = []; to = (refl, lit≤ tt); wants = inl (refl, refl) }, (wants_first_line rollover []).2)
first_said rollover AsGiven text none = wants_first_line rollover text

first_wanted : WantsToShow [] [] 1
first_wanted = record { taken = []; ahead = []; to = (refl, lit≤ tt); wants = inl (refl, refl, refl) }

module _ (source : Source) (unread : IsUnread source) (clean : source.failed ≡ false) where
  memory_judged : (rollover : Option Rollover) → IsJudged rollover source (Err (Capture (Memory 1)))
  memory_judged rollover = record {
    is_said = first_said rollover source.extent source.read unread;
    at_end = λ h. absurd h;
    failed = (λ h. absurd h, λ is. absurd (true≢false (sym is ∙ clean)));
  }

  -- the commands that say it
  pub memory_said : (a : Action) (cut : Bool) → memory_fault a ≡ usage.Memory → IsOutputOf a source cut (record { bytes = memory_line; status = status.Fault })
  memory_said (Check rollover) cut told = record { said = Err (Capture (Memory 1)); judged = memory_judged rollover; is = refl }
  memory_said (Extract rollover) cut told = absurd (cc)
  memory_said (Normal rollover) cut told = absurd (cc)
  memory_said (Show rollover) cut told = record {
    header = worked_header;
    datagrams = [];
    ending = Faulty (Memory 1);
    lines = [];
    first = inl refl;
    are = refl;
    ends = (inl refl, clean, ([], unread, first_wanted));
    is = refl;
  }
  memory_said (Count rollover) cut told = record { said = Err (Capture (Memory 1)); judged = memory_judged rollover; is = refl }

  -- and those that write nothing
  pub silent_said : (a : Action) (cut : Bool) → memory_fault a ≡ usage.Silent → IsOutputOf a source cut (record { bytes = []; status = status.Fault })
  silent_said (Check rollover) cut told = absurd (cc)
  silent_said (Extract rollover) cut told = record { said = Err (Capture (Memory 1)); judged = memory_judged rollover; is = refl }
  silent_said (Normal rollover) cut told = inl (record { said = Err (Capture (Memory 1)); judged = memory_judged rollover; is = refl })
  silent_said (Show rollover) cut told = absurd (cc)
  silent_said (Count rollover) cut told = absurd (cc)

  -- each of them
  pub memory_first : (a : Action) (cut : Bool) → (output : Output) × IsMemoryOutput a output × IsOutputOf a source cut output
  memory_first (Check rollover) cut = (record { bytes = memory_line; status = status.Fault }, refl, memory_said (Check rollover) cut refl)
  memory_first (Extract rollover) cut = (record { bytes = []; status = status.Fault }, refl, silent_said (Extract rollover) cut refl)
  memory_first (Normal rollover) cut = (record { bytes = []; status = status.Fault }, refl, silent_said (Normal rollover) cut refl)
  memory_first (Show rollover) cut = (record { bytes = memory_line; status = status.Fault }, ([], refl), memory_said (Show rollover) cut refl)
  memory_first (Count rollover) cut = (record { bytes = memory_line; status = status.Fault }, refl, memory_said (Count rollover) cut refl)

-- ---- once bytes were read

line_wanted : (read : List ℕ) (line : ℕ) → WantsToRead read line → (read ≡ []) ⊎ HasDatagram read
line_wanted read line want = elim want.wants as (λ _. (read ≡ []) ⊎ HasDatagram read) [
  | inl first ↦ inl first.0
  | inr said ↦
      let all = want.datagrams ++ (line, said.datagram) ∷ [] in
      inr (said.header, want.datagrams, (line, said.datagram), subst (λ t. Begins t said.header all) (sym want.to.0) (begins_more want.taken want.ahead said.lines said.header all said.stands))
]

datagram_wanted : (rollover : Option Rollover) (read : List ℕ) (count : ℕ) → WantsToJudge rollover read count → HasDatagram read
datagram_wanted rollover read count want =
    let all = want.datagrams ++ want.last ∷ [] in
    (want.header, want.datagrams, want.last, subst (λ t. Begins t want.header all) (sym want.to.0) (begins_more want.taken want.ahead want.lines want.header all want.stands))

said_of : (rollover : Option Rollover) (read : List ℕ) (said : Result Meaning Verdict) → IsReadVerdictBy rollover read said → SaysNoMemory said ⊎ (read ≡ []) ⊎ HasDatagram read
said_of rollover read (Ok m) is = inl (inl tt)
said_of rollover read (Err (Refused (refusal.Unlawful index rule))) is = inl (inl tt)
said_of rollover read (Err (Refused (refusal.Aborted by code))) is = inl (inl tt)
said_of rollover read (Err (Refused (refusal.Incomplete count))) is = inl (inl tt)
said_of rollover read (Err (Refused refusal.NormalTooLong)) is = inl (inl tt)
said_of rollover read (Err (Refused (refusal.Memory count))) is = inr (inr (datagram_wanted rollover read count is))
said_of rollover read (Err (Capture (Text line fault))) is = inl (inl tt)
said_of rollover read (Err (Capture (Read line))) is = inl (inr tt)
said_of rollover read (Err (Capture (Memory line))) is = inr (line_wanted read line is.0)

pub memory_of : (rollover : Option Rollover) (read : List ℕ) (left : Option (List ℕ)) (failed : Bool) (said : Result Meaning Verdict) → IsJudged rollover (so_far read left failed) said → SaysNoMemory said ⊎ (read ≡ []) ⊎ HasDatagram read
memory_of rollover read left failed said judged = said_of rollover read said judged.is_said

-- ---- a text of no datagram

empty_captured : IsCapture empty_text worked_header []
unfolding digits
empty_captured = canonical_is_read worked_header [] (lit≤ tt, lit≤ tt) refl (All-nil IsLawful) (All-nil NamesNoHost) (lit≤ tt)

none_first : (ds rest : List Numbered) (last : Numbered) → [] ≡ (ds ++ last ∷ []) ++ rest → ⊥
none_first [] rest last e = cc
none_first (d ∷ ds) rest last e = cc

empty_has_none : HasDatagram empty_text → ⊥
empty_has_none (header, ds, last, begins) =
    let front = (capture_has empty_text worked_header header [] (ds ++ last ∷ []) empty_captured begins).1 in
    none_first ds front.0 last front.1

-- once it was read, it is not out of memory
pub empty_wants_none : (rollover : Option Rollover) (left : Option (List ℕ)) (failed : Bool) (said : Result Meaning Verdict) → IsJudged rollover (so_far empty_text left failed) said → SaysNoMemory said
empty_wants_none rollover left failed said judged = elim (memory_of rollover empty_text left failed said judged) as (λ _. SaysNoMemory said) [
  | inl other ↦ other
  | inr (inl none) ↦ absurd (cc)
  | inr (inr has) ↦ absurd (empty_has_none has)
]

-- ---- a text up to its first datagram

abbrev first_line : List ℕ
first_line = codes "out 40000 69 -"

first_datagram_said : SaysDatagram One first_line first_datagram
unfolding digits
first_datagram_said = record {
  local = codes "40000";
  remote = codes "69";
  digits = codes "-";
  cut = (refl, refl);
  local_port = ((lit≤ tt, lit≤ tt), refl);
  host = record { some = lit≤ tt; few = lit≤ tt; signs = ((lit≤ tt, lit≤ tt), tt) };
  remote_port = ((lit≤ tt, lit≤ tt), refl);
  payload = inl (refl, refl);
  fits = lit≤ tt;
}

narrow_lines : (lines : List (List ℕ)) → AllByRecursion (λ (l : List ℕ). length l ≤ 131070) lines → All (λ (l : List ℕ). length l ≤ 131070) lines
narrow_lines [] h = All-nil (λ (l : List ℕ). length l ≤ 131070)
narrow_lines (l ∷ ls) h = All-cons (λ (l : List ℕ). length l ≤ 131070) l ls h.0 (narrow_lines ls h.1)

abbrev first_lines : List (List ℕ)
first_lines = codes "tftp-capture 1" ∷ codes "end client" ∷ codes "service 69" ∷ first_line ∷ []

first_stands : Stands first_text first_lines [] (Body One worked_header) ((4, first_datagram) ∷ [])
unfolding digits
first_stands = record {
  divided = refl;
  says = record {
    after_head = codes "end client" ∷ codes "service 69" ∷ first_line ∷ [];
    at_end = 2;
    at_service = 3;
    bodies = (4, first_line) ∷ [];
    begins = refl;
    are = refl;
    port = (lit≤ tt, lit≤ tt);
    plain = refl;
    each = ((refl, first_datagram_said), tt);
  };
  short = lit≤ tt;
  narrow = narrow_lines first_lines (lit≤ tt, (lit≤ tt, (lit≤ tt, (lit≤ tt, tt))));
  narrow_rest = lit≤ tt;
  last = λ o. absurd o;
}

-- it is taken with its datagram
pub first_taken : AreTaken first_text ((4, first_datagram) ∷ [])
first_taken = record { taken = first_text; ahead = []; to = (refl, lit≤ tt); version = One; lines = first_lines; header = worked_header; stands = first_stands }

-- or memory was wanting for that line
pub next_wanted : WantsToShow first_text [] 4
next_wanted = record {
  taken = first_text;
  ahead = [];
  to = (refl, lit≤ tt);
  wants = inr (record { version = One; header = worked_header; datagram = first_datagram; lines = first_lines; stands = first_stands; at_line = refl });
}

pub none_shown : (rollover : Option Rollover) → IsShown rollover (so_far first_text (Some (line (codes "total 1"))) false) false (record { bytes = memory_line; status = status.Fault })
none_shown rollover = record {
  header = worked_header;
  datagrams = [];
  ending = Faulty (Memory 4);
  lines = [];
  first = inl refl;
  are = refl;
  ends = (inl refl, refl, (first_text, refl, next_wanted));
  is = refl;
}
