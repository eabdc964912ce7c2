-- What comes of two files: what is said of their captures, or what is told on standard error where nothing is.
use Rattle.std.specs.Prelude.{◌≡◌, ◌⊎◌, ◌==◌, ◌||◌, ℕ, Bool, true, not, List, Option, Some, None, IfSome, codes, is_some, length}
use Rattle.std.specs.Option.{option_or}
use Rattle.std.specs.Io.KnownBytes.{Appends}
use Rattle.tftp_packet.specs.{Client, Server}
use Rattle.audit_recording.specs.declared.session.fault.TextFault.{TextFault}
use Rattle.audit_recording.specs.declared.session.requests.Asked.{Asked}
use Rattle.audit_recording.specs.declared.session.session.Session.{Session}
use Rattle.tftp_rows.specs.Remarks.{remark_text}
use Rattle.tftp_match.specs.Captures.{AreAskedIn, Capture, IsAs, IsCaptureOf, IsLackIn, IsNoted, IsTextIn}
use Rattle.tftp_match.specs.Captures.Capture.{Text, Recording}
use Rattle.tftp_match.specs.Choice.{IsSaidOf, Texts}
use Rattle.tftp_match.specs.Given.{lack_words, texts_of}
use Rattle.tftp_match.specs.Recorded.{IsUnasked}
use Rattle.tftp_match.specs.Sides.{IsLackTold, IsTaken, IsUntaken, IsUntold}
use Rattle.tftp_match.specs.Unread.{IsFileFault, IsHeldFault, IsUnreadTold}
use Rattle.tftp_match.specs.Untaken.{Shown}
use Rattle.tftp_match.specs.declared.choice.Judged.{Judged}
use Rattle.tftp_match.specs.declared.faults.MatchFault.{MatchFault}
use Rattle.tftp_match.specs.declared.faults.MatchFault.TheVariants.{NoClientRecording, NoRecording, NoServerRecording}
use Rattle.tftp_match.specs.declared.judging.Matching.{Matching}
use Rattle.tftp_match.specs.declared.texts.LackFault.{LackFault}
use Rattle.tftp_match.specs.declared.unread.UnreadFault.{UnreadFault}
use Rattle.tftp_words.specs.declared.match_request.MatchRequest.{MatchRequest}

-- ---- what was asked for

-- Which transfer of the server's recording is named: where the client's capture is a text, either word names it.
abbrev pub server_number : MatchRequest → Capture → Option ℕ
server_number r (Recording client) = r.server_transfer
server_number r (Text client) = option_or r.server_transfer r.transfer

-- the word that names one
abbrev pub server_option : Capture → List ℕ
server_option (Recording client) = codes "--server-transfer"
server_option (Text client) = codes "--transfer"

-- a capture at an end, as it is told of
abbrev pub shown_in : List ℕ → List ℕ → Capture → List Asked → Shown
shown_in name option (Recording session) asked = record { file = name; option = Some option; asked = asked }
shown_in name option (Text held) asked = record { file = name; option = None; asked = asked }

-- whether there is one transfer alone
abbrev pub is_alone : List Asked → Bool
is_alone asked = length asked == 1

-- words came in a line behind the names of the program and the file
abbrev pub IsTold : List ℕ → List ℕ → Option (List ℕ) → Option (List ℕ) → Type 0
IsTold program name before after = (words : List ℕ) × Appends before after (remark_text program name words)

module _ (r : MatchRequest) (client server : Capture) where
  -- of the transfers of the two captures these were asked for
  abbrev pub AreAsked : List Asked → List Asked → Type 0
  AreAsked own others = AreAskedIn r.transfer (is_alone others) client own × AreAskedIn (server_number r client) (is_alone own) server others

  -- the texts of both
  abbrev pub texts_in : Texts
  texts_in = texts_of r.rollover (IsTextIn Client r.client.now client) (IsTextIn Server r.server.now server)

  -- The pair that is taken of their transfers was judged.
  abbrev pub IsTakenOf : Judged → Type 0
  IsTakenOf judged = (own others : List Asked) × AreAsked own others × IsTaken texts_in own others judged

  -- None is taken, or one has no text, and that is told.
  abbrev pub IsUntakenOf : List ℕ → Option (List ℕ) → Option (List ℕ) → Type 0
  IsUntakenOf program before after =
      (own others : List Asked) × AreAsked own others
      × (IsUntaken texts_in (shown_in r.client.now (codes "--transfer") client own) (shown_in r.server.now (server_option client) server others) program before after
      ⊎ IsLackTold (IsLackIn Client r.client.now client) (IsLackIn Server r.server.now server) (shown_in r.client.now (codes "--transfer") client own) (shown_in r.server.now (server_option client) server others) program before after)

-- of these captures, where a text is in memory
abbrev pub IsTakenAs : MatchRequest → Capture → Capture → Judged → Type 0
IsTakenAs r client server judged = (one other : Capture) × IsAs client one × IsAs server other × IsTakenOf r one other judged

abbrev pub IsUntakenAs : MatchRequest → Capture → Capture → List ℕ → Option (List ℕ) → Option (List ℕ) → Type 0
IsUntakenAs r client server program before after = (one other : Capture) × IsAs client one × IsAs server other × IsUntakenOf r one other program before after

-- why it is not known what a recording's transfers were asked for, as far as the words are known: it has none with the number that is named
abbrev pub IsUnaskedTold : List ℕ → List ℕ → Option ℕ → Session → Option (List ℕ) → Option (List ℕ) → Type 0
IsUnaskedTold program name number session before after = (fault : TextFault) × IsUnasked session number fault × IfSome (lack_words (LackFault.Text fault)) (λ w. Appends before after (remark_text program name w))

-- why it is not known which transfers were asked for what: a text is not read, whose first datagram is wanted unless the other capture, which
-- has these, has one alone; or a recording has none with the number that is named
abbrev pub IsUnknown : (UnreadFault → List ℕ → Type 0) → (List Asked → Type 0) → List ℕ → List ℕ → Option ℕ → Capture → Option (List ℕ) → Option (List ℕ) → Type 0
IsUnknown AreWords AreOthers program name number (Text held) before after = (others : List Asked) × AreOthers others × IsUnreadTold AreWords (IsHeldFault (not (is_alone others)) held) program name before after
IsUnknown AreWords AreOthers program name number (Recording session) before after = IsUnaskedTold program name number session before after

-- ---- of two captures that were read

-- the numbers of the transfers that are judged, of those captures that are recordings
abbrev pub number_in : Capture → ℕ → Option ℕ
number_in (Recording session) number = Some number
number_in (Text held) number = None

-- What is said of them: of two texts, of which no transfer is named; or of the pair that is taken.
abbrev pub IsSaidOfBoth : MatchRequest → Capture → Capture → Matching → Type 0
IsSaidOfBoth r (Text client) (Text server) m = ((r.transfer ≡ None) × (r.server_transfer ≡ None)) × IsSaidOf r.rollover client server m.said × (m.client ≡ None) × (m.server ≡ None)
IsSaidOfBoth r client server m =
    (judged : Judged) × IsTakenAs r client server judged × (m.said ≡ judged.said) × (m.client ≡ number_in client judged.client) × (m.server ≡ number_in server judged.server)

-- What is told where nothing is said of them.
abbrev pub IsToldOfBoth : (UnreadFault → List ℕ → Type 0) → MatchRequest → Capture → Capture → List ℕ → Option (List ℕ) → Option (List ℕ) → Type 0
IsToldOfBoth AreWords r client server program before after =
    IsUntakenAs r client server program before after
    ⊎ (IsUnknown AreWords (AreAskedIn (server_number r client) true server) program r.client.now r.transfer client before after
    ⊎ IsUnknown AreWords (AreAskedIn r.transfer true client) program r.server.now (server_number r client) server before after)

-- Why neither is: a transfer is named of what is no recording.
abbrev pub IsMisnamed : MatchRequest → Capture → Capture → MatchFault → Type 0
IsMisnamed r (Text client) (Text server) NoRecording = is_some r.transfer || is_some r.server_transfer ≡ true
IsMisnamed r (Recording client) (Text server) NoServerRecording = is_some r.server_transfer ≡ true
IsMisnamed r (Text client) (Recording server) NoClientRecording = (is_some r.transfer ≡ true) × (is_some r.server_transfer ≡ true)
IsMisnamed r client server fault = ⊥

-- ---- of two files

module _ (r : MatchRequest) (program : List ℕ) (client_file server_file before after : Option (List ℕ)) where
  -- Both were read, and what there is to tell of each was told, up to `until`.
  pub record AreRead (client server : Capture) (until : Option (List ℕ)) : Type 0 where
    pub client_is : IsCaptureOf r.services.items client_file client
    pub server_is : IsCaptureOf r.services.items server_file server
    pub between : Option (List ℕ)
    pub client_noted : IsNoted program r.client.now r.services.items client before between
    pub server_noted : IsNoted program r.server.now r.services.items server between until

  -- This is said of them, and nothing else is told.
  abbrev pub IsSaidOfFiles : Matching → Type 0
  IsSaidOfFiles m = (client server : Capture) × AreRead client server after × IsSaidOfBoth r client server m

module _ (AreWords : UnreadFault → List ℕ → Type 0) (r : MatchRequest) (program : List ℕ) (client_file server_file before after : Option (List ℕ)) where
  -- Nothing is said of them: one of them is not read, or both were; and that is told.
  pub data IsToldOfFiles : Type 0 where
    client_unread : IsUnreadTold AreWords (IsFileFault client_file) program r.client.now before after → IsToldOfFiles
    server_unread : (client : Capture) (until : Option (List ℕ)) → IsCaptureOf r.services.items client_file client → IsNoted program r.client.now r.services.items client before until
        → IsUnreadTold AreWords (IsFileFault server_file) program r.server.now until after → IsToldOfFiles
    unsaid : (client server : Capture) (until : Option (List ℕ)) → AreRead r program client_file server_file before after client server until → IsToldOfBoth AreWords r client server program until after → IsToldOfFiles

-- Why neither is: memory ran out, what there is to tell is not told, or a transfer is named of what is no recording.
abbrev pub IsUnsaidOfFiles : MatchRequest → Option (List ℕ) → Option (List ℕ) → Bool → MatchFault → Type 0
IsUnsaidOfFiles r client_file server_file unheard fault =
    IsUntold unheard fault ⊎ ((client server : Capture) × IsCaptureOf r.services.items client_file client × IsCaptureOf r.services.items server_file server × IsMisnamed r client server fault)
