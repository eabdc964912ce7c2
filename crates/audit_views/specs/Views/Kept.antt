-- What the judges of the two ends keep, and for which datagrams of a recording they stand.
use Rattle.std.specs.Prelude.{◌≡◌, ℕ, true, false, List, [], filter, length, reverse, Option, Some, None}
use Rattle.std.specs.List.{AllZip}
use Rattle.tftp_packet.specs.{Rollover}
use Rattle.tftp_judge.specs.{Judge, Refusal}
use Rattle.audit_flows.specs.Lines.{Placed}
use Rattle.audit_flows.specs.{Transfer}
use Rattle.audit_flows.specs.Transfers.{is_settled, is_about, AreEndsAfter}
use Rattle.audit_flows.specs.{TransferEnds}
use Rattle.audit_views.specs.declared.views.fed.Fed.{Fed}
use Rattle.audit_views.specs.declared.views.held.Held.{Held}
use Rattle.audit_views.specs.Views.Captured.{Naming, client_capture, client_header, server_capture, server_header}
use Rattle.audit_views.specs.Views.Judged.{HasJudgedBy}

-- ---- one end

-- The judge, and for how long a payload there is room at least: the one that it was given last.
pub record OneEnd : Type 0 where
  pub judge : Judge
  pub room : ℕ

pub record Client : Type 0 where
  pub transfer : Transfer
  pub end : OneEnd

-- what is held of a datagram that is fed
abbrev pub held_of : Fed → Held
held_of f = record { place = f.place.now; source = f.source.now; target = f.target.now; payload = f.payload.now }

-- It is this datagram with its place, and with the names of its hosts.
pub record IsFed (name : Naming) (p : Placed) (h : Held) : Type 0 where
  pub belongs : h.place ≡ p.place
  pub from : p.datagram.source ≡ h.source.end
  pub to : p.datagram.target ≡ h.target.end
  pub carries : p.datagram.payload ≡ h.payload
  pub from_host : h.source.host ≡ name h.source.end.address
  pub to_host : h.target.host ≡ name h.target.end.address

-- It was given the client's view of these datagrams of a recording, and nothing else; the rollover is what comes after block 65535,
-- where anything does.
abbrev pub IsClientAfterBy : Option Rollover → Client → Naming → List Placed → Type 0
IsClientAfterBy rollover c name placed = HasJudgedBy rollover c.end.judge (client_header c.transfer) (client_capture name c.transfer placed)

abbrev pub IsClientAfter : Client → Naming → List Placed → Type 0
IsClientAfter = IsClientAfterBy None

pub record Server : Type 0 where
  pub transfer : Transfer
  pub ends : TransferEnds
  pub end : OneEnd

-- It knows the ends by the whole recording, and was given the server's view of a part of it, and nothing else.
pub record IsServerAfterBy (rollover : Option Rollover) (s : Server) (name : Naming) (whole part : List Placed) : Type 0 where
  pub number : s.ends.number ≡ s.transfer.number
  pub ends : AreEndsAfter s.ends whole
  pub judged : HasJudgedBy rollover s.end.judge (server_header s.transfer) (server_capture name s.transfer whole part)

abbrev pub IsServerAfter : Server → Naming → List Placed → List Placed → Type 0
IsServerAfter = IsServerAfterBy None

-- ---- the server, in one pass

-- The transfer's datagrams that are held, the oldest first, until it is known who the server is; then its judge. The rollover is what
-- comes after block 65535, where anything does.
pub record View : Type 0 where
  pub transfer : Transfer
  pub rollover : Option Rollover
  pub ends : TransferEnds
  pub held : List Held
  pub judge : Option Server

-- these datagrams are held, as they were fed
abbrev pub AreHeld : Naming → List Held → List Placed → Type 0
AreHeld name held placed = AllZip (λ h p. IsFed name p h) held placed

-- It is not known yet who the server is: those of the transfer are held, and no others.
pub record IsWaiting (rollover : Option Rollover) (v : View) (name : Naming) (placed : List Placed) : Type 0 where
  pub own : v.rollover ≡ rollover
  pub number : v.ends.number ≡ v.transfer.number
  pub ends : AreEndsAfter v.ends placed
  pub unsettled : is_settled v.transfer.number placed ≡ false
  pub held : AreHeld name v.held (reverse (filter (is_about v.transfer.number) placed))

-- It is known: none is held, and the judge was given the server's view.
pub record IsGoingOnBy (rollover : Option Rollover) (s : Server) (v : View) (name : Naming) (placed : List Placed) : Type 0 where
  pub transfer : s.transfer ≡ v.transfer
  pub settled : is_settled v.transfer.number placed ≡ true
  pub none : v.held ≡ []
  pub after : IsServerAfterBy rollover s name placed placed

abbrev pub ViewedWith : Option Rollover → Option Server → View → Naming → List Placed → Type 0
ViewedWith rollover None v name placed = IsWaiting rollover v name placed
ViewedWith rollover (Some s) v name placed = IsGoingOnBy rollover s v name placed

-- It was fed these datagrams of a recording, and nothing else.
abbrev pub IsViewAfterBy : Option Rollover → View → Naming → List Placed → Type 0
IsViewAfterBy rollover v name placed = ViewedWith rollover v.judge v name placed

-- the same where blocks go up to 65535
abbrev pub IsGoingOn : Server → View → Naming → List Placed → Type 0
IsGoingOn = IsGoingOnBy None

abbrev pub ViewedBy : Option Server → View → Naming → List Placed → Type 0
ViewedBy = ViewedWith None

abbrev pub IsViewAfter : View → Naming → List Placed → Type 0
IsViewAfter = IsViewAfterBy None

-- how many are held, or were accepted
abbrev pub fed_to : View → ℕ
fed_to v = by v.judge where
  by : Option Server → ℕ
  by None = length v.held
  by (Some s) = s.end.judge.fed

-- what its judge refused a datagram for, where it is known who the server is
abbrev pub has_refused : View → Option Refusal
has_refused v = by v.judge where
  by : Option Server → Option Refusal
  by None = None
  by (Some s) = s.end.judge.refused
