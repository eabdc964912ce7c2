-- What a file is that is to be matched: a capture text, or a recording.
use Rattle.std.specs.Prelude.{◌≡◌, ◌⊎◌, ◌∷◌, ℕ, Bool, true, false, List, [], Option, Some, None, IfSome}
use Rattle.std.specs.Io.KnownBytes.{Appends}
use Rattle.std.specs.Global.{Vec}
use Rattle.std.specs.Io.Chain.{chain_remaining}
use Rattle.std.specs.Io.Cursor.{cursor_remaining}
use Rattle.std.specs.declared.io.impls.Cursor.{Cursor}
use Rattle.std.specs.declared.io.traits.Chain.{Chain}
use Rattle.tftp_capture.specs.{Begins, IsCapture, Numbered}
use Rattle.tftp_packet.specs.{End}
use Rattle.tftp_packet.specs.Hosts.{Header}
use Rattle.net_udp.specs.Recording.{Step}
use Rattle.audit_recording.specs.Blame.Frames.{Carried, whole_of}
use Rattle.audit_recording.specs.Session.Headed.{is_recording}
use Rattle.audit_recording.specs.Session.Kept.{IsSessionOf}
use Rattle.audit_recording.specs.Session.Noted.{Noticed}
use Rattle.audit_recording.specs.Session.Opened.{IsReadWhole}
use Rattle.audit_recording.specs.Session.Texts.{opened_count}
use Rattle.audit_recording.specs.declared.session.fault.TextFault.{TextFault}
use Rattle.audit_recording.specs.declared.session.kept.Wanted.TheVariants.{All}
use Rattle.audit_recording.specs.declared.session.requests.Asked.{Asked}
use Rattle.audit_recording.specs.declared.session.session.Session.{Session}
use Rattle.tftp_rows.specs.Remarks.{remarks_text, rest_lines}
use Rattle.tftp_match.specs.Recorded.{AreRecordedRequests, IsRecordedLack, IsRecordedText}
use Rattle.tftp_match.specs.declared.source.Source.{Source}
use Rattle.tftp_match.specs.declared.source.Source.TheVariants as source

-- ---- what it is

-- a text that holds this, as far as that is known; or a recording, of which this was read
pub data Capture : Type 0 where
  Text : Option (List ℕ) → Capture
  Recording : Session → Capture

-- what a reader has left whose first bytes were read and are read again
abbrev pub whole_left : {R : Type 0} → (R → Option (List ℕ)) → Chain (Cursor (Vec ℕ)) R → Option (List ℕ)
whole_left left whole = chain_remaining (cursor_remaining (λ v. Some v.items)) left whole

abbrev pub capture_of : {R : Type 0} → (R → Option (List ℕ)) → Source R → Capture
capture_of left (source.Text whole) = Text (whole_left left whole)
capture_of left (source.Recording session) = Recording session

-- The file is this capture, as its first bytes tell it: a text, of which nothing was read; or a recording that was read whole, with the texts
-- of all its transfers. Requests go to port 69 and to these.
abbrev pub IsCaptureOf : List ℕ → Option (List ℕ) → Capture → Type 0
IsCaptureOf named file (Text held) = IfSome file (λ bytes. (held ≡ Some bytes) × (is_recording bytes ≡ false))
IsCaptureOf named file (Recording session) = IsReadWhole file session named × (session.kept.wanted ≡ All) × IfSome file (λ bytes. is_recording bytes ≡ true)

-- It is this capture; where that is a text, with some bytes, those that it is known to hold.
abbrev pub IsAs : Capture → Capture → Type 0
IsAs (Text file) (Text None) = ⊥
IsAs (Text file) (Text (Some held)) = IfSome file (λ bytes. held ≡ bytes)
IsAs (Text file) (Recording session) = ⊥
IsAs (Recording session) capture = capture ≡ Recording session

-- ---- what it has

-- It is the payload of the text's first datagram; or it is nothing, and the text has none.
abbrev pub IsFirstPayload : List ℕ → List ℕ → Type 0
IsFirstPayload text payload =
    ((h : Header) × (first : Numbered) × Begins text h (first ∷ []) × (payload ≡ first.1.payload)) ⊎ ((h : Header) × IsCapture text h [] × (payload ≡ []))

-- What its transfers were asked for, of which one may be named: those of a recording; or the one of a text, of which it need not be known
-- where the other capture has one alone.
abbrev pub AreAskedIn : Option ℕ → Bool → Capture → List Asked → Type 0
AreAskedIn number alone (Recording session) asked = AreRecordedRequests session number asked
AreAskedIn number alone (Text held) asked = (one : Asked) × (asked ≡ one ∷ []) × (one.number ≡ 1) × (alone ≡ false → IfSome held (λ bytes. IsFirstPayload bytes one.payload.now))

-- the text, at this end, of its transfer with a number, in the file of this name
abbrev pub IsTextIn : End → List ℕ → Capture → ℕ → List ℕ → Type 0
IsTextIn end name (Recording session) number text = IsRecordedText session end name number text
IsTextIn end name (Text held) number text = IfSome held (λ bytes. text ≡ bytes)

-- why that has none
abbrev pub IsLackIn : End → List ℕ → Capture → ℕ → TextFault → Type 0
IsLackIn end name (Recording session) number fault = IsRecordedLack session end name number fault
IsLackIn end name (Text held) number fault = ⊥

-- ---- what is told of it as a whole

-- Of a recording that is told which `tftp-transfers` tells of it, and of a text nothing.
abbrev pub IsNoted : List ℕ → List ℕ → List ℕ → Capture → Option (List ℕ) → Option (List ℕ) → Type 0
IsNoted program name named (Text held) before after = after ≡ before
IsNoted program name named (Recording session) before after =
    (history : List Step) (carried : List Carried) (s : Noticed) → IsSessionOf session named [] history carried s
    → Appends before after (remarks_text program name (rest_lines session.notes s (opened_count (whole_of named carried))))
