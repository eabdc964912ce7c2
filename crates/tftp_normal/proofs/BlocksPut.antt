-- The blocks of a window that are put one after another.
use Rattle.std.proofs.Common.{◌≡◌, ℕ, suc, ◌+◌, ◌-◌, ◌*◌, ◌<◌, List, [], ◌∷◌, length, length-append, take, drop, Option, refl, sym, subst, ap, ◌∙◌, arith, suc-mul, zero-mul, drop-drop}
use Rattle.std.proofs.lemmas.List.{length-map}
use Rattle.tftp_packet.specs.{Message, Rollover, canonical, End, Client, Server}
use Rattle.net_streams.specs.Streams.{Sink, WritesPart}
use Rattle.tftp_packet.specs.Hosts.{Datagram}
use Rattle.law_model.specs.Model.{Meaning, blksize_of, block, MachinePacket, Data, Ack, message_of}
use Rattle.law_model.specs.Model.Machines.{sender_of, receiver_of}
use Rattle.law_end.specs.{dir_of, wire_of}
use Rattle.tftp_normal.specs.{blocks_after, deed_of_client, message_by, normal_datagram_by, number_by, dir_from, sent_by, datagrams_of, lines_of, HasPut}
use Rattle.tftp_normal.proofs.Lengths.{blocks_length}
use Rattle.tftp_normal.proofs.ByNumber.{ack_by, data_by}
use Rattle.tftp_normal.proofs.Putting.{Putting, putting_next, putting_failed}

dir_is : (e : End) (p : MachinePacket) → dir_from e ≡ dir_of (deed_of_client e p)
dir_is Client p = refl
dir_is Server p = refl

module _ (rollover : Option Rollover) (m : Meaning) where
  -- a datagram that says this, sent by this end
  sent_same : (e : End) (p : MachinePacket) (payload : List ℕ) → payload ≡ canonical (message_by rollover (message_of m (wire_of m) p))
      → sent_by e payload ≡ record { dir = dir_of (deed_of_client e p); local = 50000; host = 45 ∷ []; remote = 50001; payload = canonical (message_by rollover (message_of m (wire_of m) p)) }
  sent_same e p payload is =
      ap (sent_by e) is ∙ ap (λ d. record { dir = d; local = 50000; host = 45 ∷ []; remote = 50001; payload = canonical (message_by rollover (message_of m (wire_of m) p)) }) (dir_is e p)

  pub data_datagram : (k : ℕ) → sent_by (sender_of m.side) (canonical (Message.Data (number_by rollover k) (block (blksize_of m) (wire_of m) k))) ≡ normal_datagram_by rollover m (Data k)
  data_datagram k = sent_same (sender_of m.side) (Data k) _ (ap canonical (sym (data_by rollover k (block (blksize_of m) (wire_of m) k))))

  pub ack_datagram : (j : ℕ) → sent_by (receiver_of m.side) (canonical (Message.Ack (number_by rollover j))) ≡ normal_datagram_by rollover m (Ack j)
  ack_datagram j = sent_same (receiver_of m.side) (Ack j) _ (ap canonical (sym (ack_by rollover j)))

  -- what the next packet has
  pub next_packet : (k size : ℕ) (left : List ℕ) → size ≡ blksize_of m → left ≡ drop (k * blksize_of m) (wire_of m) → take size left ≡ block (blksize_of m) (wire_of m) (k + 1)
  next_packet k size left e f =
      let at : k ≡ k + 1 - 1 = omega arith in
      ap (λ n. take n left) e ∙ ap (take (blksize_of m)) f ∙ ap (λ i. take (blksize_of m) (drop (i * blksize_of m) (wire_of m))) at

  pub next_left : (k size : ℕ) (left : List ℕ) → size ≡ blksize_of m → left ≡ drop (k * blksize_of m) (wire_of m) → drop size left ≡ drop ((k + 1) * blksize_of m) (wire_of m)
  next_left k size left e f =
      let more : suc k * blksize_of m ≡ k * blksize_of m + blksize_of m = suc-mul k (blksize_of m) in
      let one : k + 1 ≡ suc k = omega arith in
      let at : k * blksize_of m + blksize_of m ≡ (k + 1) * blksize_of m = sym more ∙ ap (λ i. i * blksize_of m) (sym one) in
      ap (λ n. drop n left) e ∙ ap (drop (blksize_of m)) f ∙ drop-drop (blksize_of m) (k * blksize_of m) (wire_of m) ∙ ap (λ i. drop i (wire_of m)) at

  pub blocks_step : (k last : ℕ) → k < last → blocks_after k (last - k) ≡ Data (k + 1) ∷ blocks_after (k + 1) (last - (k + 1))
  blocks_step k last low = let more : last - k ≡ suc (last - (k + 1)) = omega (arith, low) in ap (blocks_after k) more

  pub length-blocks : (k more : ℕ) → length (datagrams_of rollover m (blocks_after k more)) ≡ more
  length-blocks k more = length-map (blocks_after k more) (normal_datagram_by rollover m) ∙ blocks_length k more

module _ {W : Type 0} (contents : W → Option (List ℕ)) (rollover : Option Rollover) (m : Meaning) where
  module _ (c0 c1 : Sink W) (s t : ℕ) (k last : ℕ) (all : List Datagram) (low : k < last) (p : Putting contents c0 c1 s t (datagrams_of rollover m (blocks_after k (last - k))) all) where
    -- with the next block at the front
    pub step_putting : Putting contents c0 c1 s t (normal_datagram_by rollover m (Data (k + 1)) ∷ datagrams_of rollover m (blocks_after (k + 1) (last - (k + 1)))) all
    step_putting = subst (λ ps. Putting contents c0 c1 s t (datagrams_of rollover m ps) all) (blocks_step rollover m k last low) p

    pub step_put : (c2 : Sink W) (u : ℕ) (d : Datagram) → d ≡ normal_datagram_by rollover m (Data (k + 1)) → HasPut contents c1 c2 t u (d ∷ [])
        → Putting contents c0 c2 s u (datagrams_of rollover m (blocks_after (k + 1) (last - (k + 1)))) all
    step_put c2 u d is put =
        putting_next contents c0 c1 c2 s t u (normal_datagram_by rollover m (Data (k + 1)) ∷ []) (datagrams_of rollover m (blocks_after (k + 1) (last - (k + 1)))) all step_putting (subst (λ x. HasPut contents c1 c2 t u (x ∷ [])) is put)

    pub step_failed : (c2 : Sink W) (d : Datagram) → d ≡ normal_datagram_by rollover m (Data (k + 1)) → WritesPart contents c1 c2 (lines_of (d ∷ [])) → WritesPart contents c0 c2 (lines_of all)
    step_failed c2 d is put =
        putting_failed contents c0 c1 c2 s t (normal_datagram_by rollover m (Data (k + 1)) ∷ []) (datagrams_of rollover m (blocks_after (k + 1) (last - (k + 1)))) all step_putting
        (subst (λ x. WritesPart contents c1 c2 (lines_of (x ∷ []))) is put)

  -- how many are counted
  pub putting_count : (c0 c1 : Sink W) (s t : ℕ) (rest all : List Datagram) → Putting contents c0 c1 s t rest all → t + length rest ≡ s + length all
  putting_count c0 c1 s t rest all p =
      let both = length-append p.done rest in
      let same = ap length p.whole in
      let count = p.put.counted in
      omega (arith, both, same, count)

  pub blocks_counted : (c0 c1 : Sink W) (s t : ℕ) (k more : ℕ) → HasPut contents c0 c1 s t (datagrams_of rollover m (blocks_after k more)) → t ≡ s + more
  blocks_counted c0 c1 s t k more p = let count = p.counted in let size = length-blocks rollover m k more in omega (arith, count, size)

pub left_at_start : (m : Meaning) → wire_of m ≡ drop (0 * blksize_of m) (wire_of m)
left_at_start m = let none : 0 ≡ 0 * blksize_of m = sym (zero-mul (blksize_of m)) in ap (λ i. drop i (wire_of m)) none
