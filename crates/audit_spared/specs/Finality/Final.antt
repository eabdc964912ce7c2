-- When all is known of a transfer. Lists have the newest first; a transfer is known by its number.
use Rattle.std.specs.Prelude.{◌≡◌, ℕ, Bool, List, [], filter, Option, Some, None}
use Rattle.audit_flows.specs.Lines.{Placed, clock, line, live, newest_of, transfer_of}
use Rattle.audit_flows.specs.{Endpoint, Transfer}
use Rattle.audit_flows.specs.Transfers.{client_view, is_about, is_answered_apart, is_at_server, is_doubtful_at_client, is_doubtful_at_server, is_doubtful_between, is_settled, opened_it, server_of, server_view, some_of}

-- the transfer with this number, if a request opened it
abbrev pub opened : ℕ → List Placed → Option Transfer
opened n placed = by (newest_of (opened_it n) placed) where
  by : Option Placed → Option Transfer
  by None = None
  by (Some p) = transfer_of p.place

-- nothing has passed at this client's endpoint for more than 300 s
abbrev pub IsSilent : Endpoint → List Placed → Type 0
IsSilent client placed = live (clock placed) (line client placed) ≡ []

-- Each doubt of the transfer stands as it stood: what some datagram of it made doubtful, and whether a refusal at any datagram is
-- doubtful at its client, at its server, and between the two.
pub record AreSameDoubts (n : ℕ) (before after : List Placed) : Type 0 where
  pub some : (test : Placed → List Placed → Bool) → some_of n test after ≡ some_of n test before
  pub answered : is_answered_apart n after ≡ is_answered_apart n before
  pub at_client : (p : Placed) (older : List Placed) → is_doubtful_at_client n after p older ≡ is_doubtful_at_client n before p older
  pub at_server : (p : Placed) (older : List Placed) → is_doubtful_at_server n after p older ≡ is_doubtful_at_server n before p older
  pub between : (p : Placed) (older : List Placed) → is_doubtful_between n after p older ≡ is_doubtful_between n before p older

-- What came after changes nothing of the transfer: it is the one that was opened, no more is about it, its client and its server
-- saw what they had seen, the server is who it was, and each doubt stands as it stood.
pub record IsFinal (n : ℕ) (before after : List Placed) : Type 0 where
  pub transfer : opened n after ≡ opened n before
  pub about : filter (is_about n) after ≡ filter (is_about n) before
  pub client : client_view n after ≡ client_view n before
  pub server : server_view n after ≡ server_view n before
  pub who : server_of n after ≡ server_of n before
  pub settled : is_settled n after ≡ is_settled n before
  pub seen : (p : Placed) → is_at_server n after p ≡ is_at_server n before p
  pub doubts : AreSameDoubts n before after
