-- The windows that are put one after another.
use Rattle.std.proofs.Common.{◌≡◌, ℕ, zero, suc, ◌+◌, ◌-◌, ◌*◌, ◌<◌, ◌≤◌, min, List, [], ◌∷◌, ◌++◌, length, length-append, Option, sym, subst, arith, suc-mul, zero-mul}
use Rattle.std.proofs.lemmas.List.{map-append}
use Rattle.net_streams.specs.Streams.{Sink, WritesPart}
use Rattle.tftp_packet.specs.{Rollover}
use Rattle.tftp_packet.specs.Hosts.{Datagram}
use Rattle.law_model.specs.Model.{Meaning, windowsize_of, Ack}
use Rattle.law_end.specs.{blocks_of}
use Rattle.tftp_normal.specs.{windows_of, blocks_after, windows_after, normal_datagram_by, datagrams_of, lines_of, HasPut}
use Rattle.tftp_normal.proofs.Shortest.{windows_hold}
use Rattle.tftp_normal.proofs.Putting.{Putting, putting_first, putting_next, putting_failed, putting_all}
use Rattle.tftp_normal.proofs.BlocksPut.{length-blocks, putting_count}

module _ (rollover : Option Rollover) (m : Meaning) where
  abbrev n : ℕ
  n = blocks_of m

  abbrev w : ℕ
  w = windowsize_of m

  abbrev pub all_windows : List Datagram
  all_windows = datagrams_of rollover m (windows_after w n 0 (windows_of m))

  module _ {W : Type 0} (contents : W → Option (List ℕ)) where
    -- block k is acknowledged, and so many windows are left
    pub record WindowsLeft (c0 c1 : Sink W) (s t : ℕ) (k : ℕ) : Type 0 where
      pub count : ℕ
      pub enough : n ≤ k + count * w
      pub few : k + count * w < n + w
      pub putting : Putting contents c0 c1 s t (datagrams_of rollover m (windows_after w n k count)) all_windows

    pub windows_first : 1 ≤ w → (c : Sink W) (s : ℕ) → WindowsLeft c c s s 0
    windows_first some c s =
        let held = windows_hold n w some in
        record { count = windows_of m; enough = omega (arith, held.0); few = omega (arith, held.1); putting = putting_first contents c s all_windows }

    -- the next window, up to a block: its blocks, its ACK, and what is left then
    record Front (c0 c1 : Sink W) (s t : ℕ) (k last : ℕ) : Type 0 where
      count : ℕ
      later : k < last
      enough : n ≤ last + count * w
      few : last + count * w < n + w
      putting : Putting contents c0 c1 s t (datagrams_of rollover m (blocks_after k (last - k)) ++ (normal_datagram_by rollover m (Ack last) ∷ datagrams_of rollover m (windows_after w n last count))) all_windows

    front_by : (c0 c1 : Sink W) (s t : ℕ) (k count : ℕ) → k < n → n ≤ k + count * w → k + count * w < n + w → Putting contents c0 c1 s t (datagrams_of rollover m (windows_after w n k count)) all_windows → Front c0 c1 s t k (min (k + w) n)
    front_by c0 c1 s t k zero low enough few p = let none = zero-mul w in absurd (omega (arith, low, enough, none))
    front_by c0 c1 s t k (suc more) low enough few p =
        let size : suc more * w ≡ more * w + w = suc-mul more w in
        let some : 1 ≤ w = omega (arith, low, few, size) in
        record {
          count = more;
          later = omega (arith, low, some);
          enough = omega (arith, enough, size);
          few = omega (arith, few, size, low);
          putting =
              subst (λ ds. Putting contents c0 c1 s t ds all_windows)
              (map-append (normal_datagram_by rollover m) (blocks_after k (min (k + w) n - k)) (Ack (min (k + w) n) ∷ windows_after w n (min (k + w) n) more)) p;
        }

    module _ (c0 c1 : Sink W) (s t : ℕ) (k : ℕ) (low : k < n) (last : ℕ) (at : last ≡ min (k + w) n) (left : WindowsLeft c0 c1 s t k) where
      front : Front c0 c1 s t k last
      front = subst (Front c0 c1 s t k) (sym at) (front_by c0 c1 s t k left.count low left.enough left.few left.putting)

      abbrev blocks : List Datagram
      blocks = datagrams_of rollover m (blocks_after k (last - k))

      pub window_later : k < last
      window_later = front.later

      pub window_count_fits : t + (last - k) + 1 ≤ s + length all_windows
      window_count_fits =
          let f = front in
          let count = putting_count contents rollover m c0 c1 s t _ _ f.putting in
          let both = length-append blocks (normal_datagram_by rollover m (Ack last) ∷ datagrams_of rollover m (windows_after w n last f.count)) in
          let size = length-blocks rollover m k (last - k) in
          omega (arith, count, both, size)

      pub window_failed : (c2 : Sink W) → WritesPart contents c1 c2 (lines_of blocks) → WritesPart contents c0 c2 (lines_of all_windows)
      window_failed c2 p = let f = front in putting_failed contents c0 c1 c2 s t blocks _ all_windows f.putting p

      module _ (c2 : Sink W) (u : ℕ) (put : HasPut contents c1 c2 t u blocks) where
        acks : Putting contents c0 c2 s u (normal_datagram_by rollover m (Ack last) ∷ datagrams_of rollover m (windows_after w n last front.count)) all_windows
        acks = let f = front in putting_next contents c0 c1 c2 s t u blocks _ all_windows f.putting put

        pub ack_failed : (c3 : Sink W) (d : Datagram) → d ≡ normal_datagram_by rollover m (Ack last) → WritesPart contents c2 c3 (lines_of (d ∷ [])) → WritesPart contents c0 c3 (lines_of all_windows)
        ack_failed c3 d is p =
            putting_failed contents c0 c2 c3 s u (normal_datagram_by rollover m (Ack last) ∷ []) (datagrams_of rollover m (windows_after w n last front.count)) all_windows acks (subst (λ x. WritesPart contents c2 c3 (lines_of (x ∷ []))) is p)

        pub window_put : (c3 : Sink W) (v : ℕ) (d : Datagram) → d ≡ normal_datagram_by rollover m (Ack last) → HasPut contents c2 c3 u v (d ∷ []) → WindowsLeft c0 c3 s v last
        window_put c3 v d is p = record {
          count = front.count;
          enough = front.enough;
          few = front.few;
          putting =
              putting_next contents c0 c2 c3 s u v (normal_datagram_by rollover m (Ack last) ∷ []) (datagrams_of rollover m (windows_after w n last front.count)) all_windows acks (subst (λ x. HasPut contents c2 c3 u v (x ∷ [])) is p);
        }

    done_by : (c0 c1 : Sink W) (s t : ℕ) (k count : ℕ) → n ≤ k → k + count * w < n + w → Putting contents c0 c1 s t (datagrams_of rollover m (windows_after w n k count)) all_windows → HasPut contents c0 c1 s t all_windows
    done_by c0 c1 s t k zero high few p = putting_all contents c0 c1 s t all_windows p
    done_by c0 c1 s t k (suc more) high few p = let size : suc more * w ≡ more * w + w = suc-mul more w in absurd (omega (arith, high, few, size))

    pub windows_done : (c0 c1 : Sink W) (s t : ℕ) (k : ℕ) → n ≤ k → WindowsLeft c0 c1 s t k → HasPut contents c0 c1 s t all_windows
    windows_done c0 c1 s t k high left = done_by c0 c1 s t k left.count high left.few left.putting
