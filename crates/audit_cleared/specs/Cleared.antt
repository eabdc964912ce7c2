-- Of which transfers of a recording a verdict at an end holds between the ends. Lists have the newest first.
use Rattle.std.specs.Prelude.{◌≡◌, ◌++◌, ℕ, true, false, List, [], ◌∷◌, All, Any, Some}
use Rattle.audit_views.specs.Parties.{IsAddress}
use Rattle.audit_flows.specs.Lines.{Recorded, other_of, same_endpoint, Placed, is_of}
use Rattle.audit_flows.specs.{Endpoint, Transfer, Opens, Talks}
use Rattle.audit_flows.specs.Transfers.{is_at_server, is_service, placed, server_of}

-- its hosts are at addresses of IPv4 or of IPv6
abbrev pub HasAddresses : Recorded → Type 0
HasAddresses d = IsAddress d.source.address × IsAddress d.target.address

-- a datagram opened the transfer
abbrev pub IsOpenedIn : Transfer → List Placed → Type 0
IsOpenedIn x whole = Any (λ (p : Placed). p.place ≡ Opens x) whole

-- It is a transfer of the recording, and its client asks another endpoint than its own, at port 69 or at one that was named.
pub record IsTransferIn (x : Transfer) (named : List ℕ) (recorded : List Recorded) : Type 0 where
  pub opened : IsOpenedIn x (placed named recorded)
  pub at_service : is_service named [] x.asked.port ≡ true
  pub addresses : All HasAddresses recorded
  pub apart : same_endpoint x.client x.asked ≡ false

-- ---- at the server

-- if the server saw this datagram of a talk with the client, it passed with this endpoint
abbrev pub IsWith : Transfer → Endpoint → List Placed → Placed → Type 0
IsWith x server whole p = p.place ≡ Talks x → is_at_server x.number whole p ≡ true → other_of x.client p.datagram ≡ server

-- if the client sent this datagram of the transfer, the server saw it
abbrev pub IsSentThere : Transfer → List Placed → Placed → Type 0
IsSentThere x whole p = is_of x.number p ≡ true → p.datagram.source ≡ x.client → is_at_server x.number whole p ≡ true

-- It is a transfer of this part of a recording, which more follows, and was asked for at port 69 or at one that was named; all
-- of the recording tells who the server is, and what the server saw passed with that one endpoint.
pub record IsServedIn (x : Transfer) (server : Endpoint) (named : List ℕ) (more part : List Recorded) : Type 0 where
  pub opened : IsOpenedIn x (placed named part)
  pub at_service : is_service named [] x.asked.port ≡ true
  pub addresses : All HasAddresses (more ++ part)
  pub known : server_of x.number (placed named (more ++ part)) ≡ Some server
  pub apart : same_endpoint x.client x.asked ≡ false
  pub not_itself : same_endpoint x.client server ≡ false
  pub one : All (IsWith x server (placed named (more ++ part))) (placed named part)

-- the newest datagram passed at the client, and the server saw it
abbrev pub BothSaw : Transfer → List Placed → List Placed → Type 0
BothSaw x whole [] = ⊥
BothSaw x whole (p ∷ older) = (is_of x.number p ≡ true) × (is_at_server x.number whole p ≡ true)
