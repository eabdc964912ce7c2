-- What follows the request and the OACK in the worked captures, the newest first.
use Rattle.std.proofs.Common.{ℕ, List, [], ◌∷◌, codes}
use Rattle.tftp_packet.specs.{Message}
use Rattle.tests_worked.specs.{block, ack, goes, comes, answers, hears, stops}
use Rattle.tests_worked.proofs.Payloads.{Spelled}

-- at the client
abbrev pub went : ℕ → List ℕ → Spelled
went k bytes = (goes (block k bytes), Message.Data k bytes)

abbrev pub came : ℕ → List ℕ → Spelled
came k bytes = (comes (block k bytes), Message.Data k bytes)

abbrev pub acks : ℕ → Spelled
acks j = (goes (ack j), Message.Ack j)

abbrev pub acked : ℕ → Spelled
acked j = (comes (ack j), Message.Ack j)

-- at the server
abbrev sent : ℕ → List ℕ → Spelled
sent k bytes = (answers (block k bytes), Message.Data k bytes)

abbrev heard : ℕ → Spelled
heard j = (hears (ack j), Message.Ack j)

abbrev pub ones : List ℕ
ones = codes "11111111"

abbrev pub twos : List ℕ
twos = codes "22222222"

abbrev threes : List ℕ
threes = codes "33333333"

abbrev fours : List ℕ
fours = codes "44444444"

abbrev fives : List ℕ
fives = codes "55555555"

-- a read in a window of four: as far as the second ACK, and whole
abbrev pub four_news : List Spelled
four_news = acks 2 ∷ came 4 fours ∷ came 2 twos ∷ came 1 ones ∷ acks 0 ∷ []

abbrev pub six_news : List Spelled
six_news = acks 6 ∷ came 6 (codes "666") ∷ came 5 fives ∷ came 4 fours ∷ came 3 threes ∷ four_news

-- the same at its server: its first block, and whole
abbrev pub late_news : List Spelled
late_news = sent 1 ones ∷ heard 0 ∷ []

abbrev pub served_news : List Spelled
served_news = heard 6 ∷ sent 6 (codes "666") ∷ sent 5 fives ∷ heard 2 ∷ sent 4 fours ∷ sent 3 threes ∷ sent 2 twos ∷ late_news

-- writes in which blocks are sent again
abbrev pub back_news : List Spelled
back_news = went 2 (codes "22") ∷ went 1 ones ∷ acked 1 ∷ went 1 ones ∷ []

abbrev pub again_news : List Spelled
again_news = acked 2 ∷ back_news

abbrev pub window_news : List Spelled
window_news = acked 2 ∷ went 2 (codes "22") ∷ went 1 ones ∷ acked 0 ∷ went 2 (codes "22") ∷ went 1 ones ∷ []

-- ten bytes, of which the first eight are these
abbrev pub changed_news : List Spelled
changed_news = came 1 ones ∷ acks 0 ∷ []

-- a read that its server stops
abbrev pub stop : Spelled
stop = (stops, Message.Error 0 [])

abbrev pub eight_news : List Spelled
eight_news = came 1 (codes "01234567") ∷ acks 0 ∷ []

abbrev pub stopped_news : List Spelled
stopped_news = acks 1 ∷ stop ∷ eight_news

abbrev pub after_news : List Spelled
after_news = came 2 (codes "89") ∷ stop ∷ acks 1 ∷ eight_news
