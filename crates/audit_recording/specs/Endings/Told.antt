-- How a transfer ended, as what passed at its client shows: whole, or else by an ERROR between its client and its server, or else with
-- the last datagram that is of both. Lists have the newest first.
use Rattle.std.specs.Prelude.{◌≡◌, ◌+◌, ◌*◌, ◌-◌, ◌/◌, ◌==◌, ◌&&◌, ◌∷◌, not, ℕ, Bool, true, false, List, [], take, position, Option, Some, None, option_map, if◌then◌else◌}
use Rattle.tftp_packet.specs.{End, Client, Server}
use Rattle.audit_flows.specs.Lines.{other_of, same_endpoint}
use Rattle.audit_flows.specs.{Endpoint, Transfer}
use Rattle.audit_flows.specs.Transfers.{is_at_server, is_settled, server_of}
use Rattle.audit_recording.specs.Between.{server_or_asked}
use Rattle.audit_recording.specs.Blame.Frames.{Carried, Framed, view_of, whole_of}
use Rattle.audit_recording.specs.declared.blame.closing.Word.{Word}
use Rattle.audit_recording.specs.declared.blame.ending.Ending.{Ending}
use Rattle.audit_recording.specs.declared.blame.ending.Ending.TheVariants.{Quiet, Stopped, Unheard, Whole}
use Rattle.audit_recording.specs.declared.blame.stop.Stop.{Stop}
use Rattle.audit_recording.specs.declared.rows.row.Point.TheVariants as point

-- ---- an ERROR (RFC 1350, section 5)

-- what stands before the first zero byte, or all where there is none
abbrev pub up_to_zero : List ℕ → List ℕ
up_to_zero text = by (position (λ b. b == 0) text) where
  by : Option ℕ → List ℕ
  by None = text
  by (Some end) = take end text

-- its code and its message: opcode 5, the code in two bytes, the message and a zero byte, which may be wanting
abbrev pub error_in : List ℕ → Option (ℕ × List ℕ)
error_in (high ∷ low ∷ more ∷ less ∷ text) = if (high == 0) && (low == 5) then Some (256 * more + less, up_to_zero text) else None
error_in payload = None

-- which end sends from there, if one does
abbrev pub sender_at : Transfer → Endpoint → End
sender_at x source = if same_endpoint source x.client then Client else Server

-- A client that tells ERROR 5 before it has gone on with anybody tells a stranger (RFC 1350, section 4): that ends nothing.
abbrev pub is_to_stranger : Transfer → Framed → Bool
is_to_stranger x f = same_endpoint f.placed.datagram.source x.client && not (is_settled x.number (f.placed ∷ f.before))

-- the code and the message of the ERROR that the datagram is, if it may end the transfer
abbrev pub stop_in : Transfer → Framed → Option (ℕ × List ℕ)
stop_in x f = by (error_in f.placed.datagram.payload) where
  by : Option (ℕ × List ℕ) → Option (ℕ × List ℕ)
  by None = None
  by (Some e) = if (e.0 == 5) && is_to_stranger x f then None else Some e

-- an ERROR that was sent: who sent it, its frame, its code and its message
pub record Sent : Type 0 where
  pub role : End
  pub frame : ℕ
  pub code : ℕ
  pub message : List ℕ

abbrev pub sent_of : Stop → Sent
sent_of stop = record { role = stop.role; frame = stop.frame; code = stop.code; message = stop.message.items }

abbrev pub sent_in : Transfer → Framed → ℕ × List ℕ → Sent
sent_in x f e = record { role = sender_at x f.placed.datagram.source; frame = f.carried.frame; code = e.0; message = e.1 }

-- the ERROR that the datagram is, if it passed between the client and that endpoint
abbrev pub stop_by : Transfer → Endpoint → Framed → Option Sent
stop_by x s f = if same_endpoint (other_of x.client f.placed.datagram) s then option_map (sent_in x f) (stop_in x f) else None

-- the first one, unless an earlier one is
abbrev pub earlier_or : Option Sent → Option Sent → Option Sent
earlier_or (Some earlier) later = Some earlier
earlier_or None later = later

-- the first ERROR between the client and that endpoint
abbrev pub first_stop : Transfer → Endpoint → List Framed → Option Sent
first_stop x s [] = None
first_stop x s (f ∷ older) = earlier_or (first_stop x s older) (stop_by x s f)

-- ---- the last datagram

-- It is its server's too, by what had passed by then.
abbrev pub is_own : Transfer → Framed → Bool
is_own x f = is_at_server x.number (f.placed ∷ f.before) f.placed

abbrev pub word_of : Transfer → Framed → Word
word_of x f = record { role = sender_at x f.placed.datagram.source; frame = f.carried.frame; time = f.carried.time }

-- the newest of these
abbrev pub last_word : Transfer → List Framed → Option Word
last_word x [] = None
last_word x (f ∷ older) = if is_own x f then Some (word_of x f) else last_word x older

-- ---- the whole recording

-- of all that passed at the client, the first ERROR between it and its server
abbrev pub stop_of : Transfer → List ℕ → List Carried → Option Sent
stop_of x named carried = first_stop x (server_or_asked x (server_of x.number (whole_of named carried))) (view_of point.Client x.number named carried)

-- the last datagram of both
abbrev pub last_of : Transfer → List ℕ → List Carried → Option Word
last_of x named carried = last_word x (view_of point.Client x.number named carried)

-- the whole seconds from a time on, in nanoseconds; 0 where none is told
abbrev pub seconds_since : Option ℕ → ℕ → ℕ
seconds_since None now = 0
seconds_since (Some time) now = (now - time) / 1000000000

-- The transfer ended so, where it is whole or not, by a recording that goes on to this moment. An ERROR comes before silence.
abbrev pub IsEnding : Transfer → List ℕ → List Carried → Bool → ℕ → Ending → Type 0
IsEnding x named carried whole now Whole = whole ≡ true
IsEnding x named carried whole now (Stopped stop) = (whole ≡ false) × (stop_of x named carried ≡ Some (sent_of stop.now))
IsEnding x named carried whole now (Quiet word seconds) =
    (whole ≡ false) × (stop_of x named carried ≡ None) × (last_of x named carried ≡ Some word) × (seconds ≡ seconds_since word.time now)
IsEnding x named carried whole now Unheard = (whole ≡ false) × (stop_of x named carried ≡ None) × (last_of x named carried ≡ None)
