-- A block of two bytes and its ACK, as they passed at the two ends of a read.
use Rattle.std.specs.Prelude.{ℕ, List, [], ◌∷◌, None, reverse}
use Rattle.tftp_packet.specs.{End}
use Rattle.tftp_packet.specs.Hosts.{Datagram}
use Rattle.tftp_packet.specs.{Dir, In, Out}
use Rattle.law_model.specs.Model.{Deed}
use Rattle.law_pair.specs.Merged.{Event}
use Rattle.law_pair.specs.Captures.{Capture}

abbrev pub worked_datagram : Dir → List ℕ → Datagram
worked_datagram dir payload = record { dir = dir; local = 40000; host = 45 ∷ []; remote = 41000; payload = payload }

-- DATA 1 with the bytes 104 and this one
abbrev pub block_of : ℕ → List ℕ
block_of last = 0 ∷ 3 ∷ 0 ∷ 1 ∷ 104 ∷ last ∷ []

-- ACK 1
abbrev pub acknowledged : List ℕ
acknowledged = 0 ∷ 4 ∷ 0 ∷ 1 ∷ []

-- the newest first, as all lists of what passed
abbrev pub at_the_client : ℕ → List Datagram
at_the_client last = worked_datagram Out acknowledged ∷ worked_datagram In (block_of last) ∷ []

abbrev pub at_the_server : ℕ → List Datagram
at_the_server last = worked_datagram In acknowledged ∷ worked_datagram Out (block_of last) ∷ []

-- the same lists as captures, which begin with the oldest
abbrev pub captured_at : End → List Datagram → Capture
captured_at e passed = record { header = record { named = e; service = 69; rollover = None }; datagrams = reverse passed }

abbrev pub did : End → Deed → Event Deed
did e deed = record { place = e; it = deed }
