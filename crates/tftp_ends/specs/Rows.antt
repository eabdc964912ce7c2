-- Peers in rows, each found by a hash of it.
use Rattle.std.specs.Prelude.{◌≡◌, ℕ, ◌-◌, ◌<◌, ◌≤◌, ◌%◌, List, fold, length, map as each, slice_index}
use Rattle.std.specs.Hash as fed
use Rattle.std.specs.Hash.DefaultHasher as sip
use Rattle.tftp_packet.specs.Hosts.{PeerId}
use Rattle.tftp_ends.specs.declared.linked.Linked.{Linked}

-- a hash of a peer, by SipHash-1-3 with fixed keys
unfoldable pub mark_of : PeerId → ℕ
mark_of peer = sip.finish (fold sip.write (sip.write sip.initial peer.host) (fed.u16 peer.port))

abbrev pub peers_of : List Linked → List PeerId
peers_of links = each (λ l. l.peer) links

-- the row of each peer, where there are so many rows
abbrev pub rows_of : ℕ → List Linked → List ℕ
rows_of count links = each (λ l. mark_of l.peer % count) links

-- Among the first n peers that are in these rows, s is one more than the place of the last one in this row, or 0 where the
-- row has none.
pub record IsLatest (rows : List ℕ) (row n s : ℕ) : Type 0 where
  pub low : s ≤ n
  pub there : 0 < s → slice_index rows (s - 1) ≡ row
  pub after : (k : ℕ) → k < n → slice_index rows k ≡ row → k < s

-- of the first n peers each row has the last one, and each peer the one before it in its row
pub record AreLinked (latest : List ℕ) (links : List Linked) (n : ℕ) : Type 0 where
  pub rows : (row : ℕ) → row < length latest → IsLatest (rows_of (length latest) links) row n (slice_index latest row)
  pub befores : (j : ℕ) → j < n → IsLatest (rows_of (length latest) links) (slice_index (rows_of (length latest) links) j) j (slice_index (each (λ l. l.before) links) j)

-- all are, and there are as many rows at the least
pub record IsLinked (latest : List ℕ) (links : List Linked) : Type 0 where
  pub all : AreLinked latest links (length links)
  pub few : length links ≤ length latest
