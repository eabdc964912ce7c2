-- What was read of one of two capture texts, and why no more is. Lists of datagrams have the newest first, but those of texts.
use Rattle.std.specs.Prelude.{◌≡◌, ◌∷◌, ℕ, List, Bool, false, length, reverse, Option, Some, None, Result, Ok, Err}
use Rattle.std.specs.Io.KnownBytes.{Consumes, prepend_known}
use Rattle.tftp_capture.specs.{Numbered, GoesOn, ReaderState}
use Rattle.net_streams.specs.{Open}
use Rattle.tftp_packet.specs.{Rollover}
use Rattle.tftp_packet.specs.Hosts.{Datagram, Header}
use Rattle.law_model.specs.Rules.{transfer_of}
use Rattle.law_rollover.specs.{IsTaken}
use Rattle.law_model.specs.Model.{Meaning}
use Rattle.tftp_judge.specs.{Refuses, IsOfText, header_by, unnumbered, IsVerdict, Refusal, Verdict, Capture, Refused as RefusedFor}
use Rattle.tftp_judge.specs.declared.refusal.Refusal.TheVariants.{Memory}
use Rattle.law_pair.specs.{IsLawfulTo}
use Rattle.judge_pair.specs.Judge.{IsReadOf}
use Rattle.judge_pair.specs.MatchTexts.Judged.{IsJudgedBy}
use Rattle.judge_pair.specs.MatchTexts.Datagrams.{AreReadAs, HasDatagrams, captured_by}
use Rattle.judge_pair.specs.declared.match_texts.reading.Halt.{Halt}
use Rattle.judge_pair.specs.declared.match_texts.reading.Halt.TheVariants.{Ended, Refused, Fault}

-- bytes were taken, the reader goes on after them, and these are what the datagrams that it gave are read as
pub record HasRead (rollover : Option Rollover) (before now : Option (List ℕ)) (reader : ReaderState) (read : List Datagram) : Type 0 where
  pub taken : List ℕ
  pub datagrams : List Numbered
  pub consumed : Consumes before now taken
  pub goes_on : GoesOn reader.header reader.lines reader.count taken datagrams
  pub is : AreReadAs rollover reader.header (reverse (unnumbered datagrams)) read

-- the same of a reader of which no read has failed
pub record GoesOnAt (rollover : Option Rollover) (before after : Option (List ℕ)) (failed : Bool) (reader : ReaderState) (h : Header) (read : List Datagram) : Type 0 where
  pub ready : reader.standing ≡ Open
  pub clean : failed ≡ false
  pub header : header_by rollover reader.header ≡ h
  pub has : HasRead rollover before (prepend_known reader.lines.ahead after) reader read

-- what a text is said of that was read so far, where this is said of its datagrams
abbrev pub said_by : Halt → Result Meaning Refusal → Result Meaning Verdict
said_by (Fault fault) r = Err (Capture fault)
said_by Ended (Ok m) = Ok m
said_by Ended (Err refusal) = Err (RefusedFor refusal)
said_by Refused (Ok m) = Ok m
said_by Refused (Err refusal) = Err (RefusedFor refusal)

-- what is said of datagrams: the refusal of the one behind them, or the verdict on all, for which memory was not wanting
abbrev pub IsFinished : Option Refusal → Header → List Datagram → Result Meaning Refusal → Type 0
IsFinished None h read r = IsVerdict h (reverse read) r × ((count : ℕ) → r ≡ Err (Memory count) → ⊥)
IsFinished (Some refusal) h read r = r ≡ Err refusal

-- No more is read. What is said of the datagrams says what there is to say of the text; and where that is said of the text,
-- and not of its reader or the memory, these datagrams are as many of it, from the first, as are lawful.
pub record IsHalted (rollover : Option Rollover) (before after : Option (List ℕ)) (failed : Bool) (halt : Halt) (refused : Option Refusal) (h : Header) (read : List Datagram) : Type 0 where
  pub says : (r : Result Meaning Refusal) → IsFinished refused h read r → IsJudgedBy rollover before after failed (said_by halt r)
  pub counts : (r : Result Meaning Refusal) → IsFinished refused h read r → IsOfText (said_by halt r) → (text : List ℕ) → before ≡ Some text
      → (k : Header) (ds : List Numbered) → HasDatagrams text k ds → (header_by rollover k ≡ h)
      × ((all : List Datagram) → AreReadAs rollover k (reverse (unnumbered ds)) (reverse all) → IsReadOf (captured_by rollover k all) read × IsLawfulTo (captured_by rollover k all) (length read))

-- one more datagram was read; and if it is refused, by what it is taken for, no more is
pub record IsGiven (rollover : Option Rollover) (before after : Option (List ℕ)) (failed : Bool) (reader : ReaderState) (h : Header) (read : List Datagram) (d : Datagram) : Type 0 where
  pub there : (now : Datagram) × IsTaken rollover (transfer_of h read) d now
  pub goes_on : (now : Datagram) → IsTaken rollover (transfer_of h read) d now → GoesOnAt rollover before after failed reader h (now ∷ read)
  pub refused : (now : Datagram) → IsTaken rollover (transfer_of h read) d now → (refusal : Refusal) → Refuses h read now refusal
      → IsHalted rollover before after failed Refused (Some refusal) h read

-- what contracts see of one text and its reader: what is left of the bytes, whether a read failed, why no more is read,
-- and the reader
pub record Seen : Type 0 where
  pub left : Option (List ℕ)
  pub failed : Bool
  pub halt : Option Halt
  pub reader : ReaderState

abbrev pub seen : Option (List ℕ) → Bool → Option Halt → ReaderState → Seen
seen left failed halt reader = record { left = left; failed = failed; halt = halt; reader = reader }

-- these datagrams were read, and the judge has refused none or the one behind them
abbrev pub IsSeenAt : Option Rollover → Option (List ℕ) → Seen → Option Refusal → Header → List Datagram → Type 0
IsSeenAt rollover before s refused h read = by s.halt where
  by : Option Halt → Type 0
  by None = GoesOnAt rollover before s.left s.failed s.reader h read × (refused ≡ None)
  by (Some halt) = IsHalted rollover before s.left s.failed halt refused h read
