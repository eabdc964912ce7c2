-- Recordings in which a client has been silent for more than 300 s, and for 300 s. Times are in seconds, the newest datagram is first.
use Rattle.std.specs.Prelude.{ℕ, Bool, List, [], ◌∷◌, ◌++◌, codes}
use Rattle.audit_flows.specs.Lines.{Recorded, Placed}
use Rattle.audit_flows.specs.Transfers.{ack_of, client, data_of, placed, service}
use Rattle.audit_flows.specs.Transfers.Worked.{doubtful_by, next_server, other_client, passes, requests, server}
use Rattle.audit_spared.specs.Spared.Worked.{newest}

-- A block comes, and the client does not go on.
abbrev pub asked : List Recorded
asked = requests 0 client service (codes "f") ∷ []

abbrev pub block : Recorded
block = passes 1 server client (data_of 1)

-- Another client asks 301 s after that.
abbrev pub silent : List Recorded
silent = requests 302 other_client service (codes "h") ∷ block ∷ asked

-- Then the client does go on, and asks for another file from the same port.
abbrev pub comes_later : List Recorded
comes_later =
    passes 404 client server (ack_of 1)
    ∷ passes 403 server client (data_of 1)
    ∷ requests 402 client service (codes "g")
    ∷ passes 401 client server (ack_of 1)
    ∷ []

abbrev pub silent_and_later : List Recorded
silent_and_later = comes_later ++ silent

-- Another client asks 300 s after the block; and then the client goes on, or does so with another port.
abbrev pub patient : List Recorded
patient = requests 301 other_client service (codes "h") ∷ block ∷ asked

abbrev pub goes_on : List Recorded
goes_on = passes 301 client server (ack_of 1) ∷ patient

abbrev pub goes_elsewhere : List Recorded
goes_elsewhere = passes 301 client next_server (ack_of 1) ∷ patient

-- of each datagram of a recording whether a refusal of its first transfer at it is doubtful, by this and what came after it
abbrev pub doubts_after : (ℕ → List Placed → Placed → List Placed → Bool) → List Recorded → List Recorded → List Bool
doubts_after is_doubtful after recorded = doubtful_by is_doubtful 0 (placed [] after) (placed [] recorded)

abbrev pub placed_block : Placed
placed_block = newest block asked
