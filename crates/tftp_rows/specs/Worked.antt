-- Rows of which the pages say what is printed.
use Rattle.std.specs.Prelude.{◌≡◌, ℕ, Bool, List, [], ◌∷◌, Option, Some, None, codes, string_bytes}
use Rattle.tftp_packet.specs.{Client, Server}
use Rattle.audit_flows.specs.{Address, Endpoint, V4, V6}
use Rattle.audit_recording.specs.{Accused}
use Rattle.audit_recording.specs.Endings.Told.{sent_of}
use Rattle.audit_recording.specs.Session.Noted.{Noticed, told_in}
use Rattle.audit_recording.specs.Session.Told.{nothing_told}
use Rattle.audit_recording.specs.declared.blame.reason.Reason.{Reason}
use Rattle.audit_recording.specs.declared.blame.stop.Stop.{Stop}
use Rattle.audit_recording.specs.declared.blame.undelivered.Undelivered.{Undelivered}
use Rattle.audit_recording.specs.declared.rows.row.Place.{Place}
use Rattle.audit_recording.specs.declared.session.notes.Notes.{Notes}
use Rattle.tftp_rows.specs.declared.listing.ListRow.{ListRow}
use Rattle.tftp_rows.specs.declared.row.VerdictRow.{VerdictRow}
use Rattle.tftp_rows.specs.declared.times.Times.{Times}

-- a row of this file, number, place and frame, with these words, that accuses this client and lists these reasons
pub record IsRow (r : VerdictRow) (name : List ℕ) (n : ℕ) (at : Place) (refused : Option ℕ) (whom : Option Accused) (said : List ℕ) (whys : List Reason) : Type 0 where
  pub file : r.file.now ≡ name
  pub number : r.number ≡ n
  pub place : r.place ≡ at
  pub frame : r.frame ≡ refused
  pub accused : r.charge.accused ≡ whom
  pub words : string_bytes r.verdict ≡ said
  pub reasons : r.charge.reasons.items ≡ whys

-- it tells a refusal, or not, that stands so whatever is missing, and that goes beyond block 65535 or not
pub record RestsOn (r : VerdictRow) (told : Bool) (stood : Option Bool) (goes : Bool) : Type 0 where
  pub refusal : r.charge.is_refusal ≡ told
  pub stands : r.stands ≡ stood
  pub beyond : r.goes_beyond ≡ goes

-- the client at this host and port
abbrev pub client_at : Address → ℕ → Option Accused
client_at address port = Some (record { role = Client; end = record { port = port; address = address } })

abbrev pub server_at : Address → ℕ → Option Accused
server_at address port = Some (record { role = Server; end = record { port = port; address = address } })

-- 192.0.2.1 and 192.0.2.2 (RFC 5737), and 2001:db8::7 (RFC 3849)
abbrev pub first_host : Address
first_host = V4 (192 ∷ 0 ∷ 2 ∷ 1 ∷ [])

abbrev pub second_host : Address
second_host = V4 (192 ∷ 0 ∷ 2 ∷ 2 ∷ [])

abbrev pub wide_host : Address
wide_host = V6 (32 ∷ 1 ∷ 13 ∷ 184 ∷ 0 ∷ 0 ∷ 0 ∷ 0 ∷ 0 ∷ 0 ∷ 0 ∷ 0 ∷ 0 ∷ 0 ∷ 0 ∷ 7 ∷ [])

-- a port of the second host was unreachable (RFC 792), as frame 78 tells
abbrev pub unreached_port : Undelivered
unreached_port = record {
  frame = 78;
  host = second_host;
  code = 3;
  source = record { port = 35665; address = second_host };
  target = record { port = 47102; address = second_host };
}

-- the ERROR of a server that has no such file, in frame 16
abbrev pub IsNotFound : Stop → Type 0
IsNotFound stop = sent_of stop ≡ record { role = Server; frame = 16; code = 1; message = codes "File not found" }

-- it took so many nanoseconds, and a silence of the server was so long before frame 2, after which its client sent one datagram again
abbrev pub slow : ℕ → ℕ → Times
slow nanoseconds silent = record {
  nanoseconds = Some nanoseconds;
  bytes_per_second = None;
  repeats = record { client = 1; server = 0 };
  silence = Some (record { nanoseconds = silent; role = Server; frame = 2 });
}

-- each end has sent nine datagrams again, and the server was silent for 1.641 ms before frame 3
abbrev pub repeated : Times
repeated = record {
  nanoseconds = Some 5270000;
  bytes_per_second = None;
  repeats = record { client = 9; server = 9 };
  silence = Some (record { nanoseconds = 1641000; role = Server; frame = 3 });
}

-- nothing is told of its times
abbrev pub untimed : Times
untimed = record { nanoseconds = None; bytes_per_second = None; repeats = record { client = 0; server = 0 }; silence = None }

-- a row of a list: of this transfer between these ends, with these words, so many datagrams, and these frames
pub record IsListed (r : ListRow) (n : ℕ) (client server : Endpoint) (kind mode file options : List ℕ) (count first last : ℕ) : Type 0 where
  pub number : r.number ≡ n
  pub from : r.client ≡ client
  pub to : r.server ≡ server
  pub how : r.asked.kind.now ≡ kind
  pub coded : r.asked.mode.now ≡ mode
  pub name : string_bytes r.asked.file ≡ file
  pub wants : string_bytes r.asked.options ≡ options
  pub datagrams : r.datagrams ≡ count
  pub begins : r.first_frame ≡ first
  pub ends : r.last_frame ≡ last

abbrev pub end_at : Address → ℕ → Endpoint
end_at address port = record { port = port; address = address }

-- frame 3 is a copy and frame 8 is lost, there is nothing else to tell of the frames, and nothing looks like a request
pub record AreOfCopyAndLoss (n : Notes) (s : Noticed) : Type 0 where
  pub told : told_in s ≡ record nothing_told { copies = 3 ∷ []; lost = 8 ∷ [] }
  pub strays : s.strays ≡ []
  pub hidden : s.hidden ≡ []
  pub dropped : n.dropped ≡ 0
  pub fault : n.fault ≡ None
