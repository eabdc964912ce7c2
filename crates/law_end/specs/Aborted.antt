-- Which ERROR ended a transfer (RFC 1350, section 7).
use Rattle.std.specs.Prelude.{◌≡◌, ◌⊎◌, ℕ, List, [], ◌∷◌, Option, Some, None}
use Rattle.tftp_packet.specs.{Message, Spells}
use Rattle.tftp_packet.specs.Hosts.{Datagram, Header}
use Rattle.tftp_packet.specs.{Dir, In, Out}
use Rattle.law_model.specs.Rules.{transfer_of}
use Rattle.law_end.specs.declared.aborted_by.AbortedBy.{AbortedBy}
use Rattle.law_end.specs.declared.aborted_by.AbortedBy.TheVariants.{Local, Peer}

-- which end sent what went this way
abbrev pub by_of : Dir → AbortedBy
by_of Out = Local
by_of In = Peer

-- the datagram is an ERROR of this end with this code
abbrev pub IsErrorBy : Datagram → AbortedBy → ℕ → Type 0
IsErrorBy d by code = (by_of d.dir ≡ by) × (text : List ℕ) × Spells d.payload (Message.Error code text)

-- no datagram is an ERROR, where this tells of which end it is and its code
abbrev pub NoErrorBy : {D E : Type 0} → (D → E → ℕ → Type 0) → List D → Type 0
NoErrorBy IsError [] = Unit {0}
NoErrorBy IsError (d ∷ passed) = ((by : _) (code : ℕ) → IsError d by code → ⊥) × NoErrorBy IsError passed

-- the oldest datagram that is an ERROR is one of this end with this code
abbrev pub FirstErrorBy : {D E : Type 0} → (D → E → ℕ → Type 0) → List D → E → ℕ → Type 0
FirstErrorBy IsError [] by code = ⊥
FirstErrorBy IsError (d ∷ passed) by code = FirstErrorBy IsError passed by code ⊎ (NoErrorBy IsError passed × IsError d by code)

-- the end and the code of the first ERROR, or that there is none
abbrev pub IsFirstError : {D E : Type 0} → (D → E → ℕ → Type 0) → List D → Option (E × ℕ) → Type 0
IsFirstError IsError passed None = NoErrorBy IsError passed
IsFirstError IsError passed (Some first) = FirstErrorBy IsError passed first.0 first.1

abbrev pub NoErrorPassed : List Datagram → Type 0
NoErrorPassed passed = NoErrorBy IsErrorBy passed

abbrev pub FirstError : List Datagram → AbortedBy → ℕ → Type 0
FirstError passed by code = FirstErrorBy IsErrorBy passed by code

-- The transfer was ended so: the first ERROR among its datagrams, in or out, whatever else went or came after it.
abbrev pub IsAborted : Header → List Datagram → AbortedBy → ℕ → Type 0
IsAborted h earlier by code = FirstError (transfer_of h earlier) by code

-- no ERROR ended it
abbrev pub IsNotAborted : Header → List Datagram → Type 0
IsNotAborted h earlier = NoErrorPassed (transfer_of h earlier)
