-- How many datagrams the normal capture has.
use Rattle.std.proofs.Common.{◌≡◌, ℕ, zero, suc, ◌+◌, ◌-◌, ◌*◌, ◌<◌, ◌≤◌, min, List, ◌∷◌, length, length-append, refl, ap, ◌∙◌, arith, suc-mul, zero-mul, Option}
use Rattle.std.proofs.lemmas.List.{length-map}
use Rattle.std.specs.FinMap as finite
use Rattle.tftp_packet.specs.{Rollover, Side, Get, Put}
use Rattle.law_model.specs.Model.{Meaning, windowsize_of, Ack}
use Rattle.law_end.specs.{wire_of, blocks_of, ShowsBy}
use Rattle.tftp_normal.specs.{windows_of, opening, opening_on, blocks_after, windows_after, normal_packets, normal_datagram_by, normal_datagrams_by, opening_count, normal_count}
use Rattle.law_end.proofs.Written.Passed.{some_window}
use Rattle.tftp_normal.proofs.Shortest.{windows_hold, count_is_least}
use Rattle.tftp_packet.specs.Hosts.{Datagram, Header}

pub opening_length : (side : Side) (agreed : ℕ) → length (opening_on side agreed) ≡ opening_count side agreed
opening_length Get zero = refl
opening_length Get (suc more) = refl
opening_length Put zero = refl
opening_length Put (suc more) = refl

pub blocks_length : (k more : ℕ) → length (blocks_after k more) ≡ more
blocks_length k zero = refl
blocks_length k (suc more) = ap suc (blocks_length (k + 1) more)

-- so many windows after block k are just enough for n blocks
pub windows_length : (w n k count : ℕ) → k ≤ n → n ≤ k + count * w → k + count * w < n + w → length (windows_after w n k count) ≡ n - k + count
windows_length w n k zero low enough few = let none = zero-mul w in omega (arith, enough)
windows_length w n k (suc more) low enough few =
    let size : suc more * w ≡ more * w + w = suc-mul more w in
    let rest = windows_length w n (min (k + w) n) more (omega arith) (omega (arith, enough, size)) (omega (arith, few, size)) in
    let here = blocks_length k (min (k + w) n - k) in
    let all = length-append (blocks_after k (min (k + w) n - k)) (Ack (min (k + w) n) ∷ windows_after w n (min (k + w) n) more) in
    omega (arith, rest, here, all, few, size)

pub counted : (rollover : Option Rollover) (m : Meaning) → 1 ≤ windowsize_of m → length (normal_datagrams_by rollover m) ≡ normal_count m
counted rollover m some =
    let held = windows_hold (blocks_of m) (windowsize_of m) some in
    let windows = windows_length (windowsize_of m) (blocks_of m) 0 (windows_of m) (omega arith) (omega (arith, held.0)) (omega (arith, held.1)) in
    let first = opening_length m.side (finite.len m.agreed) in
    let all = length-append (opening m) (windows_after (windowsize_of m) (blocks_of m) 0 (windows_of m)) in
    length-map (normal_packets m) (normal_datagram_by rollover m) ∙ omega (arith, windows, first, all)

-- whatever comes after block 65535, since it is as long by each
pub shortest : (rollover : Option Rollover) (h : Header) (m : Meaning) (datagrams : List Datagram) → ShowsBy h m (wire_of m) datagrams → length (normal_datagrams_by rollover m) ≤ length datagrams
shortest rollover h m datagrams shown =
    let count = counted rollover m (some_window h m (wire_of m) datagrams shown) in
    let least = count_is_least h m datagrams shown in
    omega (arith, count, least)
