-- What holds too where strays come, before the first answer and after. Lists have the newest first.
use Rattle.std.specs.Prelude.{◌≡◌, ◌≢◌, ◌<◌, ◌+◌, ℕ, ◌&&◌, ◌||◌, not, Bool, true, false, List, [], ◌∷◌, ◌++◌, map, reverse, filter, Contains, Some, if◌then◌else◌}
use Rattle.std.specs.List.{list_any, AllByRecursion}
use Rattle.tftp_packet.specs.{Message, Spells}
use Rattle.law_end.specs.{IsLawful, IsRefused, Rule}
use Rattle.audit_flows.specs.Lines.{Recorded, Placed, transfer_of, begins_request, goes, other_of, silence}
use Rattle.audit_flows.specs.{Address, Endpoint, Transfer}
use Rattle.audit_flows.specs.Transfers.Places.{placed}
use Rattle.audit_flows.specs.Transfers.Views.{client_view}
use Rattle.audit_flows.specs.Transfers.Doubts.{is_doubtful, is_led_astray}
use Rattle.audit_spared.specs.Spared.Seen.{as_seen_by, at_client_of, is_with, HasNoSilence}
use Rattle.audit_spared.specs.Spared.Captures.{AreInOrder, comes_at, goes_from}
use Rattle.audit_spared.specs.Spared.Spared.{AskersAreElsewhere, FollowOneAnother, HaveNoServicePort, HaveOwnNames, needs_doubt}

-- ---- a capture with strays: `strays` tells which they are, and what answers them

abbrev pub without_strays : (Recorded → Bool) → List Recorded → List Recorded
without_strays strays passed = filter (λ d. not (strays d)) passed

-- something came to the client from there
abbrev pub has_come : Endpoint → Endpoint → List Recorded → Bool
has_come c o passed = list_any (λ e. goes o c e && comes_at c e) passed

-- A stray comes once the client has asked, whatever it says; and the client may answer it by ERROR 5, "Unknown transfer ID"
-- (RFC 1350, section 4).
pub record IsStrayHere (c : Endpoint) (passed : List Recorded) (d : Recorded) : Type 0 where
  pub behind : passed ≢ []
  pub told : goes_from c d ≡ true → ((text : List ℕ) × Spells d.payload (Message.Error 5 text)) × (has_come c d.target passed ≡ true)

-- All strays are such; and with whom one passes, nothing passes that is none.
abbrev pub AreStraysHere : (Recorded → Bool) → Endpoint → List Recorded → Type 0
AreStraysHere strays c [] = Unit {0}
AreStraysHere strays c (d ∷ passed) =
    (strays d ≡ true → IsStrayHere c passed d)
    × AllByRecursion (λ e. other_of c e ≡ other_of c d → strays e ≡ strays d) passed
    × AreStraysHere strays c passed

-- All that passed at a client while it took part in one transfer, which is lawful without the strays.
pub record IsStrayedCapture (write : Address → List ℕ) (strays : Recorded → Bool) (c : Endpoint) (capture : List Recorded) : Type 0 where
  pub lawful : IsLawful (at_client_of 69) (map (as_seen_by write c) (reverse (without_strays strays capture)))
  pub apart : AreStraysHere strays c capture
  pub steady : HasNoSilence capture

-- ---- the recording: `idle` tells what passes between its captures

-- what passes at this client and is not idle
abbrev pub is_busy : (Recorded → Bool) → Endpoint → Recorded → Bool
is_busy idle c d = if idle d then false else is_with c d

-- It says no request, nothing but such passed at the client in the last 300 s, and it passes with no other of the clients: it may
-- be late, or of a transfer that was asked for before the recording began.
pub record IsIdle (idle : Recorded → Bool) (clients : List Endpoint) (c : Endpoint) (before : List Recorded) (d : Recorded) : Type 0 where
  pub plain : begins_request d.payload ≡ false
  pub alone : AllByRecursion (λ e. is_busy idle c e ≡ true → e.time + silence < d.time) before
  pub apart : (e : Endpoint) → Contains clients e → is_with e d ≡ true → c ≡ e

abbrev pub AreIdle : (Recorded → Bool) → List Endpoint → List Recorded → Type 0
AreIdle idle clients [] = Unit {0}
AreIdle idle clients (d ∷ before) = (idle d ≡ true → (c : Endpoint) → Contains clients c → is_with c d ≡ true → IsIdle idle clients c before d) × AreIdle idle clients before

-- At each of these clients' endpoints one such capture follows the other, but for what is idle; who else asks speaks with none of
-- them; none of them has the service port; and the times do not go back.
pub record AreStrayed (write : Address → List ℕ) (strays idle : Recorded → Bool) (clients : List Endpoint) (recorded : List Recorded) : Type 0 where
  pub captures : (c : Endpoint) → Contains clients c → FollowOneAnother (IsStrayedCapture write strays c) (filter (is_busy idle c) recorded)
  pub idles : AreIdle idle clients recorded
  pub others : AskersAreElsewhere clients recorded
  pub hosts : HaveOwnNames write recorded
  pub ports : HaveNoServicePort clients
  pub order : AreInOrder recorded

-- ---- nobody is accused

-- no such client's view is refused without one of four doubts: the three that it needs where none strays, and that something
-- came to it, which never went on with who sent something first
abbrev pub SparesStrayedClientsByFour : Type 0
SparesStrayedClientsByFour =
    (write : Address → List ℕ) (strays idle : Recorded → Bool) (clients : List Endpoint) (recorded : List Recorded) → AreStrayed write strays idle clients recorded
    → (newer older : List Placed) (p : Placed) → placed [] recorded ≡ newer ++ p ∷ older
    → (x : Transfer) → transfer_of p.place ≡ Some x → Contains clients x.client
    → (rule : Rule) → IsRefused (at_client_of x.asked.port) (map (λ q. as_seen_by write x.client q.datagram) (client_view x.number older)) (as_seen_by write x.client p.datagram) rule
    → (needs_doubt x.number (placed [] recorded) p older || is_led_astray x.number (placed [] recorded) p older) ≡ true

-- and so none is refused without a doubt
abbrev pub SparesStrayedClients : Type 0
SparesStrayedClients =
    (write : Address → List ℕ) (strays idle : Recorded → Bool) (clients : List Endpoint) (recorded : List Recorded) → AreStrayed write strays idle clients recorded
    → (newer older : List Placed) (p : Placed) → placed [] recorded ≡ newer ++ p ∷ older
    → (x : Transfer) → transfer_of p.place ≡ Some x → Contains clients x.client
    → (rule : Rule) → IsRefused (at_client_of x.asked.port) (map (λ q. as_seen_by write x.client q.datagram) (client_view x.number older)) (as_seen_by write x.client p.datagram) rule
    → is_doubtful x.number (placed [] recorded) p older ≡ true
