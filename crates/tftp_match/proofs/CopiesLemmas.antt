-- Which packets passed of those that were asked for so far.
use Rattle.std.proofs.Common.{◌≡◌, ◌≤◌, ◌++◌, ◌∷◌, ◌+◌, ◌*◌, ◌-◌, [], ℕ, List, Ok, ap, ◌∙◌, add-one, append_assoc, append-nil, arith, filter, flat_map, map, refl, suc, sym, zero}
use Rattle.std.specs.List.{range_with_len}
use Rattle.std.proofs.lemmas.List.{flat_map_more, map-append}
use Rattle.std.proofs.lemmas.List.Elements.{filter-append}
use Rattle.tftp_packet.specs.{End}
use Rattle.tftp_packet.specs.Hosts.{Datagram}
use Rattle.judge_pair.specs.declared.counts.packets.CountedPacket.{CountedPacket}
use Rattle.judge_pair.specs.declared.counts.packets.CountedPacket.TheVariants.{Opening, Error, Data, Ack}
use Rattle.judge_pair.specs.Counts.{AreCounted, sent, taken}
use Rattle.judge_pair.specs.Counts.Counts.{number_of}
use Rattle.judge_pair.specs.declared.judge.matched.Matched.{Matched}
use Rattle.judge_pair.specs.declared.match_texts.said.PairSaid.{PairSaid}
use Rattle.tftp_match.specs.Copies.{HavePassed, blocks, copies_of, has_passed, of_block, packets_to, passed_copies}
use Rattle.tftp_match.specs.declared.copies.Copies.{Copies}

-- of some packets and of others
pub passed_both : (from : End) (sender receiver : List Datagram) (ps qs : List CountedPacket) → passed_copies from sender receiver (ps ++ qs) ≡ passed_copies from sender receiver ps ++ passed_copies from sender receiver qs
passed_both from sender receiver ps qs = ap (filter has_passed) (map-append (copies_of from sender receiver) ps qs) ∙ filter-append has_passed (map (copies_of from sender receiver) ps) (map (copies_of from sender receiver) qs)

-- the numbers below this one, and it
range_next : (n a : ℕ) → range_with_len a (suc n) ≡ range_with_len a n ++ (a + n) ∷ []
range_next zero a = let e : a ≡ a + 0 = omega arith in ap (λ k. k ∷ []) e
range_next (suc n) a = let e : a + 1 + n ≡ a + suc n = omega arith in ap (λ l. a ∷ l) (range_next n (a + 1) ∙ ap (λ k. range_with_len (a + 1) n ++ k ∷ []) e)

range_more : (n : ℕ) → range_with_len 0 (n + 1) ≡ range_with_len 0 n ++ n ∷ []
range_more n = let e : 0 + n ≡ n = omega arith in rw (add-one n) (range_next n 0 ∙ ap (λ k. range_with_len 0 n ++ k ∷ []) e)

-- the packets of one block more
pub packets_more : (n : ℕ) → packets_to (n + 1) ≡ packets_to n ++ of_block n
packets_more n = ap (λ l. Opening ∷ Error ∷ flat_map of_block l) (range_more n) ∙ ap (λ l. Opening ∷ Error ∷ l) (sym (flat_map_more of_block [] (range_with_len 0 n) n))

pub block_numbers : (n : ℕ) → n ≡ 8421376 → n ≡ blocks
unfolding blocks
block_numbers n is = is

-- where those of a block were added behind those of the blocks before
pub block_more : (from : End) (sender receiver : List Datagram) (n : ℕ) (old was half now : List Copies) → was ≡ old ++ passed_copies from sender receiver (packets_to n) → half ≡ was ++ passed_copies from sender receiver (Data n ∷ []) → now ≡ half ++ passed_copies from sender receiver (Ack n ∷ []) → now ≡ old ++ passed_copies from sender receiver (packets_to (n + 1))
block_more from sender receiver n old was half now before of_data of_ack =
    let passed = passed_copies from sender receiver in
    let pair : passed (Data n ∷ []) ++ passed (Ack n ∷ []) ≡ passed (of_block n) = sym (passed_both from sender receiver (Data n ∷ []) (Ack n ∷ [])) in
    let whole : passed (packets_to n) ++ passed (of_block n) ≡ passed (packets_to (n + 1)) = sym (passed_both from sender receiver (packets_to n) (of_block n)) ∙ ap passed (sym (packets_more n)) in
    of_ack ∙ ap (λ l. l ++ passed (Ack n ∷ [])) of_data ∙ append_assoc was (passed (Data n ∷ [])) (passed (Ack n ∷ [])) ∙ ap (λ l. was ++ l) pair
    ∙ ap (λ l. l ++ passed (of_block n)) before ∙ append_assoc old (passed (packets_to n)) (passed (of_block n)) ∙ ap (λ l. old ++ l) whole

-- of a packet no copy passed
not_told : (from : End) (p : CountedPacket) (out came : ℕ) → out ≡ 0 → came ≡ 0 → filter has_passed (record { from = from; packet = p; sent = out; taken = came } ∷ []) ≡ []
not_told from p out came none nothing = rw none (rw nothing refl)

-- neither end has a packet of this block, or of a later one
abbrev pub AreNoneFrom : ℕ → List Datagram → List Datagram → Type 0
AreNoneFrom n sender receiver = (packet : ℕ) → 4 * n + 1 ≤ packet → (sent packet sender ≡ 0) × (taken packet receiver ≡ 0)

-- so those of the blocks before are those of more
later_none : (from : End) (sender receiver : List Datagram) (n k : ℕ) → AreNoneFrom n sender receiver → passed_copies from sender receiver (packets_to (n + k)) ≡ passed_copies from sender receiver (packets_to n)
later_none from sender receiver n zero none = let e : n + 0 ≡ n = omega arith in ap (λ m. passed_copies from sender receiver (packets_to m)) e
later_none from sender receiver n (suc k) none =
    let passed = passed_copies from sender receiver in
    let m = n + k in
    let next : n + suc k ≡ m + 1 = omega arith in
    let low : 4 * n + 1 ≤ 4 * m + 1 = omega arith in
    let high : 4 * n + 1 ≤ 4 * m + 2 = omega arith in
    let of_data : passed (Data m ∷ []) ≡ [] = not_told from (Data m) (sent (4 * m + 1) sender) (taken (4 * m + 1) receiver) (none (4 * m + 1) low).0 (none (4 * m + 1) low).1 in
    let of_ack : passed (Ack m ∷ []) ≡ [] = not_told from (Ack m) (sent (4 * m + 2) sender) (taken (4 * m + 2) receiver) (none (4 * m + 2) high).0 (none (4 * m + 2) high).1 in
    let nothing : passed (of_block m) ≡ [] = passed_both from sender receiver (Data m ∷ []) (Ack m ∷ []) ∙ ap (λ l. l ++ passed (Ack m ∷ [])) of_data ∙ of_ack in
    ap (λ i. passed (packets_to i)) next ∙ ap passed (packets_more m) ∙ passed_both from sender receiver (packets_to m) (of_block m)
    ∙ ap (λ l. passed (packets_to m) ++ l) nothing ∙ append-nil (passed (packets_to m)) ∙ later_none from sender receiver n k none

-- where that was the last block that a number is read as
pub last_block : (from : End) (sender receiver : List Datagram) (n : ℕ) (old now : List Copies) → n ≡ 8421376 → now ≡ old ++ passed_copies from sender receiver (packets_to n) → now ≡ old ++ passed_copies from sender receiver (packets_to blocks)
last_block from sender receiver n old now last is = is ∙ ap (λ k. old ++ passed_copies from sender receiver (packets_to k)) (block_numbers n last)

-- where neither end has one of this block or of a later one
pub none_further : (from : End) (sender receiver : List Datagram) (n : ℕ) (old now : List Copies) → n ≤ 8421376 → AreNoneFrom n sender receiver
    → now ≡ old ++ passed_copies from sender receiver (packets_to n) → now ≡ old ++ passed_copies from sender receiver (packets_to blocks)
none_further from sender receiver n old now few none is =
    let all : n + (8421376 - n) ≡ 8421376 = omega (arith, few) in
    is ∙ ap (λ l. old ++ l) (sym (later_none from sender receiver n (8421376 - n) none))
    ∙ ap (λ k. old ++ passed_copies from sender receiver (packets_to k)) (block_numbers (n + (8421376 - n)) all)

-- ---- what passed

-- where what was counted is what these datagrams have
pub counted_have_passed : (s : PairSaid) (m : Matched) (client server : List Datagram) → s.together ≡ Ok m → AreCounted m.client_counts client → AreCounted m.server_counts server → HavePassed s client server
counted_have_passed s m client server is of_client of_server = rw is (of_client, of_server)
