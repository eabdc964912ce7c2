-- The wire that the blocks make which have passed (RFC 1350, section 6). The list `passed` has the datagrams of the
-- transfer, the newest first.
use Rattle.std.specs.Prelude.{◌≡◌, ℕ, ◌≤◌, List}
use Rattle.tftp_packet.specs.{Message}
use Rattle.tftp_packet.specs.Hosts.{Datagram}
use Rattle.law_model.specs.Model.{block, block_count}
use Rattle.law_model.specs.Rules.Rules.{HasPassed}

-- the wire whose blocks have passed, up to the last
pub record IsJoined (b : ℕ) (passed : List Datagram) (last : ℕ) (wire : List ℕ) : Type 0 where
  pub count : block_count b wire ≡ last
  pub blocks : (k : ℕ) → 1 ≤ k → k ≤ last → HasPassed (Message.Data k (block b wire k)) passed
