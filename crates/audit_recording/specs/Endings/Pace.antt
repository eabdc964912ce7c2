-- When the datagrams of a transfer passed, as its client shows: those between its two ends. Lists have the newest first.
use Rattle.std.specs.Prelude.{◌≡◌, ◌+◌, ◌*◌, ◌-◌, ◌^◌, ◌==◌, ◌&&◌, ◌||◌, ◌∷◌, not, nat_le, nat_lt, max, min, ℕ, Bool, true, false, List, [], Option, Some, None, if◌then◌else◌}
use Rattle.tftp_packet.specs.{End, Client, Server}
use Rattle.audit_flows.specs.Lines.{same_endpoint}
use Rattle.audit_flows.specs.{Transfer}
use Rattle.audit_recording.specs.Blame.Frames.{Carried, Framed, view_of}
use Rattle.audit_recording.specs.declared.blame.closing.Word.{Word}
use Rattle.audit_recording.specs.declared.blame.pace.Pace.{Pace}
use Rattle.audit_recording.specs.declared.blame.pace.Repeats.{Repeats}
use Rattle.audit_recording.specs.declared.blame.pace.Silence.{Silence}
use Rattle.audit_recording.specs.declared.rows.row.Point.TheVariants as point
use Rattle.audit_recording.specs.Endings.Told.{is_own, last_word, sender_at}

-- ---- what passed again

-- how far an end is that sends this: at its request, at its OACK, or at a block or an ACK by its number (RFC 1350, section 5)
abbrev pub reach_by : ℕ → ℕ → Option ℕ
reach_by kind number =
    if (kind == 1) || (kind == 2) then Some 0
    else if kind == 6 then Some 1
    else if (kind == 3) || (kind == 4) then Some (number + 2)
    else None

abbrev pub reach_of : List ℕ → Option ℕ
reach_of (high ∷ kind ∷ more ∷ less ∷ rest) = if high == 0 then reach_by kind (256 * more + less) else None
reach_of payload = None

-- the farther of two
abbrev pub farther : Option ℕ → Option ℕ → Option ℕ
farther None known = known
farther (Some reach) None = Some reach
farther (Some reach) (Some known) = Some (max reach known)

-- this end of the transfer sent it to the other one
abbrev pub is_by : Transfer → End → Framed → Bool
is_by x Client f = is_own x f && same_endpoint f.placed.datagram.source x.client
is_by x Server f = is_own x f && not (same_endpoint f.placed.datagram.source x.client)

-- how far the end has come
abbrev pub reached : Transfer → End → List Framed → Option ℕ
reached x e [] = None
reached x e (f ∷ older) = if is_by x e f then farther (reach_of f.placed.datagram.payload) (reached x e older) else reached x e older

abbrev pub is_within : Option ℕ → Option ℕ → Bool
is_within (Some reach) (Some known) = nat_le reach known
is_within reach known = false

-- An end that had come as far sends it again.
abbrev pub is_again : Transfer → End → Framed → List Framed → Bool
is_again x e f older = is_within (reach_of f.placed.datagram.payload) (reached x e older)

-- how many an end sent again, as far as 64 bits count
abbrev pub repeats : Transfer → End → List Framed → ℕ
repeats x e [] = 0
repeats x e (f ∷ older) = if is_by x e f && is_again x e f older then min (repeats x e older + 1) (2 ^ 64 - 1) else repeats x e older

-- ---- when

abbrev pub or_later : Option ℕ → Option ℕ → Option ℕ
or_later None later = later
or_later (Some time) later = Some time

-- the first time that one of them tells
abbrev pub began : Transfer → List Framed → Option ℕ
began x [] = None
began x (f ∷ older) = if is_own x f then or_later (began x older) f.carried.time else began x older

abbrev pub other_end : End → End
other_end Client = Server
other_end Server = Client

abbrev pub is_same_end : End → End → Bool
is_same_end Client Client = true
is_same_end Server Server = true
is_same_end d e = false

-- The end of which something was due: that which then sends; but where an end repeats what it had sent last, the other one.
abbrev pub due_from : End → Word → Bool → End
due_from e word again = if again && is_same_end e word.role then other_end e else e

abbrev pub silence_of : Framed → End → Word → Bool → Option ℕ → Option ℕ → Option Silence
silence_of f e word again (Some since) (Some until) = Some (record { nanoseconds = until - since; role = due_from e word again; frame = f.carried.frame })
silence_of f e word again since until = None

-- the silence that this datagram ends, after the last one
abbrev pub silence_since : Transfer → Framed → List Framed → Option Word → Option Silence
silence_since x f older None = None
silence_since x f older (Some word) =
    silence_of f (sender_at x f.placed.datagram.source) word (is_again x (sender_at x f.placed.datagram.source) f older) word.time f.carried.time

abbrev pub silence_before : Transfer → Framed → List Framed → Option Silence
silence_before x f older = silence_since x f older (last_word x older)

-- the longer one; of equal ones the earlier
abbrev pub longer : Option Silence → Option Silence → Option Silence
longer None known = known
longer (Some silence) None = Some silence
longer (Some silence) (Some known) = if nat_lt known.nanoseconds silence.nanoseconds then Some silence else Some known

abbrev pub longest : Transfer → List Framed → Option Silence
longest x [] = None
longest x (f ∷ older) = if is_own x f then longer (silence_before x f older) (longest x older) else longest x older

-- ---- all of it

-- what an end sent, with this too
pub record AreSent (old new : Repeats) (reach : Option ℕ) : Type 0 where
  pub reached : new.reached ≡ farther reach old.reached
  pub count : new.count ≡ (if is_within reach old.reached then min (old.count + 1) (2 ^ 64 - 1) else old.count)

-- It tells how the transfer went by what passed at its client.
pub record IsPaceOf (p : Pace) (x : Transfer) (view : List Framed) : Type 0 where
  pub began : p.began ≡ began x view
  pub silence : p.silence ≡ longest x view
  pub reached_by_client : p.client.reached ≡ reached x Client view
  pub repeats_of_client : p.client.count ≡ repeats x Client view
  pub reached_by_server : p.server.reached ≡ reached x Server view
  pub repeats_of_server : p.server.count ≡ repeats x Server view

-- An end sent this: it has come so far, it is counted if it sends it again, and what the other end did stays.
abbrev pub IsSent : End → Pace → Pace → Option ℕ → Bool → Type 0
IsSent Client old new reach again = AreSent old.client new.client reach × (new.server ≡ old.server) × (again ≡ is_within reach old.client.reached)
IsSent Server old new reach again = AreSent old.server new.server reach × (new.client ≡ old.client) × (again ≡ is_within reach old.server.reached)

abbrev pub IsPaceIn : Pace → Transfer → List ℕ → List Carried → Type 0
IsPaceIn p x named carried = IsPaceOf p x (view_of point.Client x.number named carried)
