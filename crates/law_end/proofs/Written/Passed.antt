-- What has passed where a one-sided history is complete: each block, and the ACK of the last one.
use Rattle.std.proofs.Common.{◌≡◌, ℕ, ◌≤◌, ◌⊎◌, List, inl, inr, refl, arith}
use Rattle.tftp_packet.specs.{Side, Get, Put, End, Client, Server}
use Rattle.tftp_packet.specs.Hosts.{Datagram, Header}
use Rattle.law_model.specs.Model.{Meaning, blksize_of, windowsize_of, block_count, Data, Ack, History, IsOneSided, IsComplete}
use Rattle.law_model.specs.Model.Machines.{sender_of, receiver_of}
use Rattle.law_model.proofs.ModelLemmas.OneSided.{view_one_sided}
use Rattle.law_end.specs.{ShowsBy}
use Rattle.law_end.proofs.Accord.Moments.{acknowledged_was_sent}
use Rattle.law_end.proofs.Written.Needed.{HasPassed, let_go}

which_part : (e : End) (side : Side) → (e ≡ sender_of side) ⊎ (e ≡ receiver_of side)
which_part Client Get = inr refl
which_part Client Put = inl refl
which_part Server Get = inl refl
which_part Server Put = inr refl

module _ (m : Meaning) (wire : List ℕ) (e : End) (v : History) (own : IsOneSided m wire e v) (complete : IsComplete m wire e v) where
  abbrev n : ℕ
  n = block_count (blksize_of m) wire

  pub each_block : (k : ℕ) → 1 ≤ k → k ≤ n → HasPassed v (Data k)
  each_block k low high = elim (which_part e m.side) [
    | inl sends ↦ inl (acknowledged_was_sent m wire e v own n k (complete.was_told sends) low high)
    | inr takes ↦ inr (complete.took takes k low high)
  ]

  pub last_ack : HasPassed v (Ack n)
  last_ack = elim (which_part e m.side) [
    | inl sends ↦ inr (complete.was_told sends)
    | inr takes ↦ inl (complete.acknowledged takes)
  ]

  pub first : HasPassed v (Data 1)
  first = each_block 1 (omega arith) (omega arith)

  pub some_block : 1 ≤ windowsize_of m
  some_block = let (a, given, less, near) = let_go m wire e v own 1 (omega arith) first in omega (arith, less, near)

-- a window has a block, since block 1 has passed
pub some_window : (h : Header) (m : Meaning) (wire : List ℕ) (datagrams : List Datagram) → ShowsBy h m wire datagrams → 1 ≤ windowsize_of m
some_window h m wire datagrams shown =
    let seen = shown.seen in
    some_block m wire h.named seen.view (view_one_sided m wire h.named seen.view seen.run) shown.complete
