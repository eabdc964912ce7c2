-- What holds of every recording in which captures of lawful transfers are interleaved. Lists have the newest first.
use Rattle.std.specs.Prelude.{◌≡◌, ◌⊎◌, ℕ, ◌||◌, Bool, true, false, List, [], ◌∷◌, ◌++◌, map, reverse, filter, All, Contains, Some}
use Rattle.std.specs.List.{flat_map}
use Rattle.law_end.specs.{IsLawful, IsRefused, OneEnded, Rule}
use Rattle.audit_flows.specs.Lines.{Recorded, Placed, transfer_of, begins_request, is_asked_again, is_late}
use Rattle.audit_flows.specs.{Address, Endpoint, Transfer}
use Rattle.audit_flows.specs.Transfers.Places.{placed}
use Rattle.audit_flows.specs.Transfers.Views.{client_view}
use Rattle.audit_flows.specs.Transfers.Doubts.{is_answered_apart, is_doubtful, some_of}
use Rattle.audit_spared.specs.Spared.Seen.{as_seen_by, at_client_of, is_with, HasNoSilence}
use Rattle.audit_spared.specs.Spared.Captures.{AreInOrder}

-- All that passed at a client while it took part in one lawful transfer.
pub record IsWholeCapture (write : Address → List ℕ) (c : Endpoint) (capture : List Recorded) : Type 0 where
  pub lawful : IsLawful (at_client_of 69) (map (as_seen_by write c) (reverse capture))
  pub steady : HasNoSilence capture

-- the list is captures of this kind, one after another
abbrev pub FollowOneAnother : (List Recorded → Type 0) → List Recorded → Type 0
FollowOneAnother IsOne recorded = (each : List (List Recorded)) × (recorded ≡ flat_map (λ capture. capture) each) × All IsOne each

-- An endpoint that sends a request which is at none of these endpoints takes part in nothing that is at one of them.
abbrev pub AskersAreElsewhere : List Endpoint → List Recorded → Type 0
AskersAreElsewhere clients recorded = (request d : Recorded) → Contains recorded request → Contains recorded d
    → ((c : Endpoint) → Contains clients c → is_with c request ≡ false) → begins_request request.payload ≡ true
    → (c : Endpoint) → Contains clients c → is_with c d ≡ true → is_with request.source d ≡ false

-- the address of an endpoint of the recording
abbrev pub IsAddressIn : List Recorded → Address → Type 0
IsAddressIn recorded a = (d : Recorded) × Contains recorded d × ((d.source.address ≡ a) ⊎ (d.target.address ≡ a))

-- no two of its hosts have one name
abbrev pub HaveOwnNames : (Address → List ℕ) → List Recorded → Type 0
HaveOwnNames write recorded = (a b : Address) → IsAddressIn recorded a → IsAddressIn recorded b → write a ≡ write b → a ≡ b

abbrev pub HaveNoServicePort : List Endpoint → Type 0
HaveNoServicePort clients = (c : Endpoint) → Contains clients c → c.port ≡ 69 → ⊥

-- At each of these clients' endpoints one whole capture follows the other; who else asks speaks with none of them; none of them has
-- the service port; and the times do not go back.
pub record AreInterleaved (write : Address → List ℕ) (clients : List Endpoint) (recorded : List Recorded) : Type 0 where
  pub captures : (c : Endpoint) → Contains clients c → FollowOneAnother (IsWholeCapture write c) (filter (is_with c) recorded)
  pub others : AskersAreElsewhere clients recorded
  pub hosts : HaveOwnNames write recorded
  pub ports : HaveNoServicePort clients
  pub order : AreInOrder recorded

-- the doubts that captures which follow one another need: the transfer before may go on, what may be its first answer is
-- another's, and its client had asked for another
abbrev pub is_doubted_there : ℕ → List Placed → Bool
is_doubted_there n placed = some_of n is_asked_again placed || is_answered_apart n placed

abbrev pub needs_doubt : ℕ → List Placed → Placed → List Placed → Bool
needs_doubt n placed p older = is_doubted_there n placed || some_of n is_late (p ∷ older)

-- no such client's view is refused without one of these doubts
abbrev pub SparesClientsByThree : Type 0
SparesClientsByThree =
    (write : Address → List ℕ) (clients : List Endpoint) (recorded : List Recorded) → AreInterleaved write clients recorded
    → (newer older : List Placed) (p : Placed) → placed [] recorded ≡ newer ++ p ∷ older
    → (x : Transfer) → transfer_of p.place ≡ Some x → Contains clients x.client
    → (rule : Rule) → IsRefused (at_client_of x.asked.port) (map (λ q. as_seen_by write x.client q.datagram) (client_view x.number older)) (as_seen_by write x.client p.datagram) rule
    → needs_doubt x.number (placed [] recorded) p older ≡ true

-- so no such client's view is refused without a doubt
abbrev pub SparesClients : Type 0
SparesClients =
    (write : Address → List ℕ) (clients : List Endpoint) (recorded : List Recorded) → AreInterleaved write clients recorded
    → (newer older : List Placed) (p : Placed) → placed [] recorded ≡ newer ++ p ∷ older
    → (x : Transfer) → transfer_of p.place ≡ Some x → Contains clients x.client
    → (rule : Rule) → IsRefused (at_client_of x.asked.port) (map (λ q. as_seen_by write x.client q.datagram) (client_view x.number older)) (as_seen_by write x.client p.datagram) rule
    → is_doubtful x.number (placed [] recorded) p older ≡ true

-- What such a client saw, up to any datagram, breaks no rule; or one of these doubts is there.
abbrev pub SparesViews : Type 0
SparesViews =
    (write : Address → List ℕ) (clients : List Endpoint) (recorded : List Recorded) → AreInterleaved write clients recorded
    → (newer older : List Placed) (p : Placed) → placed [] recorded ≡ newer ++ p ∷ older
    → (x : Transfer) → transfer_of p.place ≡ Some x → Contains clients x.client
    → (needs_doubt x.number (placed [] recorded) p older ≡ true)
    ⊎ OneEnded (at_client_of x.asked.port) (as_seen_by write x.client p.datagram ∷ map (λ q. as_seen_by write x.client q.datagram) (client_view x.number older))

-- each transfer of such a client was asked for at port 69
abbrev pub AreAskedAtService : Type 0
AreAskedAtService =
    (write : Address → List ℕ) (clients : List Endpoint) (recorded : List Recorded) → AreInterleaved write clients recorded
    → (newer older : List Placed) (p : Placed) → placed [] recorded ≡ newer ++ p ∷ older
    → (x : Transfer) → transfer_of p.place ≡ Some x → Contains clients x.client → x.asked.port ≡ 69
