-- What a recording gives: the texts of its transfers, why one has none, and what they were asked for.
use Rattle.std.specs.Prelude.{◌≡◌, ℕ, List, [], ◌∷◌, Option, Some, None}
use Rattle.net_udp.specs.Recording.{Step}
use Rattle.tftp_packet.specs.{End}
use Rattle.audit_recording.specs.Blame.Frames.{Carried, whole_of}
use Rattle.audit_recording.specs.Session.Kept.{IsSessionOf}
use Rattle.audit_recording.specs.Session.Noted.{Noticed}
use Rattle.audit_recording.specs.Session.Requests.{AreAsked, IsAskedAs}
use Rattle.audit_recording.specs.Session.Texts.{IsNoneNumbered, IsTextFault}
use Rattle.audit_recording.specs.declared.session.fault.TextFault.{TextFault}
use Rattle.audit_recording.specs.declared.session.kept.Wanted.TheVariants.{All}
use Rattle.audit_recording.specs.declared.session.requests.Asked.{Asked}
use Rattle.audit_recording.specs.declared.session.session.Session.{Session}
use Rattle.tftp_rows.specs.Texts.{IsText}

-- The session is one of these datagrams, of which none was handed out; and then this holds of them.
abbrev pub Of : Session → (List ℕ → List Carried → Noticed → Type 0) → Type 0
Of session Holds = (named : List ℕ) (history : List Step) (carried : List Carried) (s : Noticed) → IsSessionOf session named [] history carried s → Holds named carried s

-- it is the text, at this end, of the transfer with this number in the file of this name
abbrev pub IsRecordedText : Session → End → List ℕ → ℕ → List ℕ → Type 0
IsRecordedText session end name number text = Of session (λ named carried s. IsText end name named session.notes carried s number text)

-- it is why that transfer has none, where all texts are wanted
abbrev pub IsRecordedLack : Session → End → List ℕ → ℕ → TextFault → Type 0
IsRecordedLack session end name number fault =
    session.kept.wanted ≡ All → Of session (λ named carried s. IsTextFault session.notes.fault named carried s number end name fault)

-- They are the requests of all transfers, or that of the one that is named.
abbrev pub AreRecordedRequests : Session → Option ℕ → List Asked → Type 0
AreRecordedRequests session None asked = Of session (λ named carried s. AreAsked named carried asked)
AreRecordedRequests session (Some number) asked = Of session (λ named carried s. (one : Asked) × (asked ≡ one ∷ []) × IsAskedAs named carried number one)

-- memory ran out
abbrev pub IsOfMemory : TextFault → Type 0
IsOfMemory (TextFault.Alloc error) = Unit {0}
IsOfMemory _ = ⊥

-- why there are none: none has the number that is named, or memory ran out
abbrev pub IsUnasked : Session → Option ℕ → TextFault → Type 0
IsUnasked session None fault = IsOfMemory fault
IsUnasked session (Some number) fault = Of session (λ named carried s. IsNoneNumbered number (whole_of named carried) fault)
