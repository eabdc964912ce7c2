-- What there is to say of two capture texts together.
use Rattle.std.specs.Prelude.{◌≡◌, ◌⊎◌, ℕ, List, [], reverse, Bool, Option, Some, Result, Ok, Err, IfOk, IfErr}
use Rattle.tftp_packet.specs.{End, Client, Rollover, Server}
use Rattle.tftp_capture.specs.{Begins, Numbered}
use Rattle.tftp_capture.specs.declared.fault.CaptureFault.TheVariants.{Text, Read, Memory}
use Rattle.tftp_packet.specs.Hosts.{Datagram, Header}
use Rattle.law_model.specs.Model.{Meaning}
use Rattle.tftp_judge.specs.{IsOfText, Verdict, Capture, Refused, unnumbered}
use Rattle.tftp_judge.specs.declared.refusal.Refusal.TheVariants as refusal
use Rattle.law_pair.specs.{Capture as Captured, IsPairVerdict}
use Rattle.judge_pair.specs.Judge.{AreCarried, AreCountsOf, IsWhyWaiting}
use Rattle.judge_pair.specs.declared.judge.matched.Matched.{Matched}
use Rattle.judge_pair.specs.MatchTexts.Judged.{IsJudged, IsJudgedBy}
use Rattle.judge_pair.specs.MatchTexts.Datagrams.{AreReadAs, HasDatagrams, capture_of, captured_by}
use Rattle.judge_pair.specs.declared.match_texts.said.Apart.{Apart}
use Rattle.judge_pair.specs.declared.match_texts.said.Apart.TheVariants.{WrongEnd, Stopped}

-- said of a text that has no fault, and of which all datagrams are lawful
abbrev pub IsAllLawful : Result Meaning Verdict → Type 0
IsAllLawful (Ok m) = Unit {0}
IsAllLawful (Err (Refused (refusal.Unlawful index rule))) = ⊥
IsAllLawful (Err (Refused (refusal.Aborted by code))) = Unit {0}
IsAllLawful (Err (Refused (refusal.Incomplete count))) = Unit {0}
IsAllLawful (Err (Refused refusal.NormalTooLong)) = Unit {0}
IsAllLawful (Err (Refused (refusal.Memory count))) = ⊥
IsAllLawful (Err (Capture fault)) = ⊥

-- all that is lawful is matched
abbrev pub IsMatchedWhole : Result Matched Apart → Type 0
IsMatchedWhole (Ok m) = (m.client_matched ≡ m.client_lawful) × (m.server_matched ≡ m.server_lawful)
IsMatchedWhole (Err why) = ⊥

-- both texts are lawful to their ends, and matched to their ends
abbrev pub SaysMatched : Result Meaning Verdict → Result Meaning Verdict → Result Matched Apart → Type 0
SaysMatched client server together = IsAllLawful client × IsAllLawful server × IsMatchedWhole together

-- why the datagram of each capture waits that is the first behind those that are matched
abbrev pub AreWhys : Captured → Captured → Matched → Type 0
AreWhys client server m =
    IsWhyWaiting client m.client_lawful m.client_matched server m.server_lawful m.client_why × IsWhyWaiting server m.server_lawful m.server_matched client m.client_lawful m.server_why

-- how often each packet passed at the two ends, as far as both are lawful, and what the network lost and repeated by that
abbrev pub AreCopies : Captured → Captured → Matched → Type 0
AreCopies client server m =
    AreCountsOf client m.client_lawful m.client_counts × AreCountsOf server m.server_lawful m.server_counts × AreCarried client m.client_lawful m.client_counts server m.server_lawful m.server_counts m.carried

-- The numbers are how far the datagrams of the two texts are lawful and go together, and the first text is a client's, the
-- second a server's.
abbrev pub AreNumbersOf : Option (List ℕ) → Option (List ℕ) → Matched → Type 0
AreNumbersOf before other_before m =
    (text other_text : List ℕ) → before ≡ Some text → other_before ≡ Some other_text → (h k : Header) (ds es : List Numbered) → HasDatagrams text h ds → HasDatagrams other_text k es
    → (h.named ≡ Client) × (k.named ≡ Server) × IsPairVerdict (capture_of h ds) (capture_of k es) m.client_lawful m.server_lawful m.client_matched m.server_matched × AreWhys (capture_of h ds) (capture_of k es) m
    × AreCopies (capture_of h ds) (capture_of k es) m

-- The same where numbers begin again, of the datagrams as they are read by that.
abbrev pub AreNumbersBy : Option Rollover → Option (List ℕ) → Option (List ℕ) → Matched → Type 0
AreNumbersBy rollover before other_before m =
    (text other_text : List ℕ) → before ≡ Some text → other_before ≡ Some other_text → (h k : Header) (ds es : List Numbered) → HasDatagrams text h ds → HasDatagrams other_text k es
    → (read other_read : List Datagram) → AreReadAs rollover h (reverse (unnumbered ds)) (reverse read) → AreReadAs rollover k (reverse (unnumbered es)) (reverse other_read)
    → (h.named ≡ Client) × (k.named ≡ Server) × IsPairVerdict (captured_by rollover h read) (captured_by rollover k other_read) m.client_lawful m.server_lawful m.client_matched m.server_matched
    × AreWhys (captured_by rollover h read) (captured_by rollover k other_read) m × AreCopies (captured_by rollover h read) (captured_by rollover k other_read) m

-- the text names this end
abbrev pub NamesEnd : Option (List ℕ) → End → Type 0
NamesEnd before e = (text : List ℕ) → before ≡ Some text → (h : Header) (ds : List Numbered) → Begins text h ds → h.named ≡ e

-- a fault of the text
abbrev pub IsTextFault : Result Meaning Verdict → Type 0
IsTextFault (Ok m) = ⊥
IsTextFault (Err (Refused refused)) = ⊥
IsTextFault (Err (Capture (Text line fault))) = Unit {0}
IsTextFault (Err (Capture (Read line))) = ⊥
IsTextFault (Err (Capture (Memory line))) = ⊥

-- What is said is not said of the text, for memory ran out or a read failed; or it is a fault before all datagrams.
abbrev pub IsStopped : Option (List ℕ) → Result Meaning Verdict → Type 0
IsStopped before r = IsOfText r → IsTextFault r × ((text : List ℕ) → before ≡ Some text → (h : Header) (ds : List Numbered) → Begins text h ds → ds ≡ [])

-- why there are no numbers
abbrev pub IsWhy : Option (List ℕ) → Option (List ℕ) → Result Meaning Verdict → Result Meaning Verdict → Apart → Type 0
IsWhy before other_before client server (WrongEnd e) = by e where
  by : End → Type 0
  by Client = NamesEnd before Server
  by Server = NamesEnd other_before Client
IsWhy before other_before client server Stopped = IsStopped before client ⊎ IsStopped other_before server

-- why there are no numbers, by the ends that the texts name and what is said of each
abbrev pub IsApart : End → End → Result Meaning Verdict → Result Meaning Verdict → Apart → Type 0
IsApart named other_named client server (WrongEnd e) = by e where
  by : End → Type 0
  by Client = named ≡ Server
  by Server = other_named ≡ Client
IsApart named other_named client server Stopped = (IsOfText client → ⊥) ⊎ (IsOfText server → ⊥)

-- the numbers of texts that name the client and the server, where both are said of the texts
abbrev pub AreTogether : End → End → Result Meaning Verdict → Result Meaning Verdict → Matched → Matched → Type 0
AreTogether named other_named client server numbers m = (named ≡ Client) × (other_named ≡ Server) × IsOfText client × IsOfText server × (m ≡ numbers)

-- of each text what there is to say of it alone, and how far the two go together, or why there are no numbers
pub record IsPairSaidBy (rollover : Option Rollover) (before after other_before other_after : Option (List ℕ)) (failed other_failed : Bool) (client server : Result Meaning Verdict) (together : Result Matched Apart) : Type 0 where
  pub at_client : IsJudgedBy rollover before after failed client
  pub at_server : IsJudgedBy rollover other_before other_after other_failed server
  pub numbers : IfOk together (AreNumbersBy rollover before other_before)
  pub why : IfErr together (IsWhy before other_before client server)

-- the same of texts whose blocks go up to 65535
pub record IsPairSaid (before after other_before other_after : Option (List ℕ)) (failed other_failed : Bool) (client server : Result Meaning Verdict) (together : Result Matched Apart) : Type 0 where
  pub at_client : IsJudged before after failed client
  pub at_server : IsJudged other_before other_after other_failed server
  pub numbers : IfOk together (AreNumbersOf before other_before)
  pub why : IfErr together (IsWhy before other_before client server)
