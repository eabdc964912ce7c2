-- A capture shows only meanings that can be written.
use Rattle.std.proofs.Common.{◌+◌, ◌≡◌, ℕ, ◌<◌, ◌≤◌, ◌⊎◌, List, [], ◌∷◌, length, reverse, All, Contains, Option, Some, Bool, true, false, ◌==◌, if◌then◌else◌, codes, inl, inr, refl, sym, subst, ap, ◌∙◌, arith, None, ◌/◌}
use Rattle.std.specs.List.{AllByRecursion}
use Rattle.std.proofs.lemmas.List.Elements.{recursion_from_All}
use Rattle.std.specs.FinMap as finite
use Rattle.tftp_packet.specs.{OptionValue, Num, range_of, is_within, Spells, Mode, Octet, Netascii, Side, Get, Put, End, but_third}
use Rattle.tftp_packet.specs.{Rollover}
use Rattle.tftp_netascii.specs.{nul, lf, cr, canonical_bytes, canonical_wire}
use Rattle.tftp_nego.specs.{MayAgree, AreInRange, number_or}
use Rattle.tftp_packet.specs.Hosts.{Datagram, Header}
use Rattle.law_model.specs.Model.{request_of, Meaning, NothingAgreed, blksize_of, MachinePacket, Req, Oack, Data, Deed, Sent, Took, History, message_of, IsOneSided, block, block_count}
use Rattle.law_model.proofs.ModelLemmas.Defaults.{default_blksize}
use Rattle.law_model.proofs.ModelLemmas.Members.{contains_first, contains_later, contains_cases, contains_none}
use Rattle.law_model.proofs.ModelLemmas.OneSided.{view_one_sided}
use Rattle.law_end.specs.Dress.{StrayAnswer}
use Rattle.law_end.specs.{Label, Main, Stray, Division, TransferIds, view_in, datagrams_of, packet_of, HasLabel, HaveLabels, Fits, ReadsAs, written_wire, IsWritable, Shows, wire_of, HasPayload, CanBeNumbered, CanBeWritten}
use Rattle.tftp_packet.proofs.CanonicalLaws.{spells_again, shortest as canonical_shortest}
use Rattle.tftp_netascii.proofs.CanonicalLemmas.{Reads-canonical}
use Rattle.tftp_nego.proofs.Numbers.{map_in_range, blksize_range}
use Rattle.law_end.proofs.Written.EachOf.{Bytes, all_both, all_contains, all_reverse}
use Rattle.law_end.proofs.Written.Needed.{HasPassed, opened_get, opened_put}
use Rattle.law_end.proofs.Written.Passed.{first, each_block, some_window}
use Rattle.law_end.proofs.Written.OwnBytes.{block_bytes, file_bytes}

-- a datagram of the list spells the packet of each deed
module _ (h : Header) (m : Meaning) (wire : List ℕ) (ids : TransferIds) where
  abbrev pub Spelled : List Datagram → MachinePacket → Type 0
  Spelled ds p = (d : Datagram) × Contains ds d × Spells d.payload (message_of m wire p)

  spelled_later : (d : Datagram) (ds : List Datagram) (p : MachinePacket) → Spelled ds p → Spelled (d ∷ ds) p
  spelled_later d ds p (x, at, s) = (x, contains_later d ds x at, s)

  carried_one : (d : Datagram) (label : Label) (earlier : Division) → HasLabel h m wire ids earlier d label
      → ((deed : Deed) → Contains (view_in earlier) deed → Spelled (datagrams_of earlier) (packet_of deed))
      → (deed : Deed) → Contains (view_in (record { datagram = d; label = label } ∷ earlier)) deed → Spelled (d ∷ datagrams_of earlier) (packet_of deed)
  carried_one d (Main done) earlier has rest deed at = elim (contains_cases done (view_in earlier) deed at) [
    | inl same ↦ (d, contains_first d (datagrams_of earlier), subst (λ x. Spells d.payload (message_of m wire (packet_of x))) same has.spells)
    | inr before ↦ spelled_later d (datagrams_of earlier) (packet_of deed) (rest deed before)
  ]
  carried_one d Stray earlier has rest deed at = spelled_later d (datagrams_of earlier) (packet_of deed) (rest deed at)
  carried_one d StrayAnswer earlier has rest deed at = spelled_later d (datagrams_of earlier) (packet_of deed) (rest deed at)

  carried : (division : Division) → HaveLabels h m wire ids division → (deed : Deed) → Contains (view_in division) deed → Spelled (datagrams_of division) (packet_of deed)
  carried [] labels deed at = absurd (contains_none deed at)
  carried (p ∷ earlier) labels deed at = carried_one p.datagram p.label earlier labels.0 (carried earlier labels.1) deed at

  pub passed_spelled : (division : Division) → HaveLabels h m wire ids division → (p : MachinePacket) → HasPassed (view_in division) p → Spelled (datagrams_of division) p
  passed_spelled division labels p passed = elim passed [
    | inl sent ↦ carried division labels (Sent p) sent
    | inr took ↦ carried division labels (Took p) took
  ]

-- with something agreed the OACK has passed, and the request always
opened : (m : Meaning) (wire : List ℕ) (e : End) (v : History) → IsOneSided m wire e v → HasPassed v (Data 1) → HasPassed v Req × (NothingAgreed m ⊎ HasPassed v Oack)
opened m wire e v own passed = by m.side refl where
  by : (side : Side) → m.side ≡ side → HasPassed v Req × (NothingAgreed m ⊎ HasPassed v Oack)
  by Get is = let (asked, answer) = opened_get m wire e v own is 1 passed in (asked, elim answer [ inl none ↦ inl none | inr some ↦ inr some.0 ])
  by Put is = let (asked, answer) = opened_put m wire e v own is 1 passed in (asked, elim answer [ inl none ↦ inl none.0 | inr some ↦ inr some ])

most_of : (o : Option OptionValue) → ((n : ℕ) → o ≡ Some (Num n) → is_within (range_of (codes "blksize")) n ≡ true) → number_or 512 o ≤ 65464
most_of (Some (Num n)) within = (blksize_range n (within n refl)).1
most_of _ within = omega arith

some_of : (o : Option OptionValue) → ((n : ℕ) → o ≡ Some (Num n) → is_within (range_of (codes "blksize")) n ≡ true) → 1 ≤ number_or 512 o
some_of (Some (Num n)) within = let low = (blksize_range n (within n refl)).0 in omega (arith, low)
some_of _ within = omega arith

-- ---- the bytes of the wire

one_written : (a b : Bool) (x : ℕ) → x < 256 → Bytes (if a then cr ∷ lf ∷ [] else if b then cr ∷ nul ∷ [] else x ∷ [])
one_written true b x low = (omega arith, (omega arith, tt))
one_written false true x low = (omega arith, (omega arith, tt))
one_written false false x low = (low, tt)

wire_bytes : (file : List ℕ) → Bytes file → Bytes (canonical_wire file)
wire_bytes [] all = tt
wire_bytes (x ∷ file) all = all_both (λ b. b < 256) (canonical_bytes x) (canonical_wire file) (one_written (x == lf) (x == cr) x all.0) (wire_bytes file all.1)

written_bytes : (mode : Mode) (file : List ℕ) → Bytes file → Bytes (written_wire mode file)
written_bytes Octet file all = all
written_bytes Netascii file all = wire_bytes file all

-- ---- the meaning

reads_own : (mode : Mode) (file : List ℕ) → ReadsAs mode (written_wire mode file) file
reads_own Octet file = refl
reads_own Netascii file = Reads-canonical file

octet_wire : (mode : Mode) (wire file : List ℕ) → mode ≡ Octet → ReadsAs mode wire file → wire ≡ written_wire mode file
octet_wire Octet wire file is reads = reads
octet_wire Netascii wire file is reads = absurd (cc)

-- what is agreed may be agreed without a rollover too, where the wire has few enough blocks: a size that is agreed is its length
still_agreed : (rollover : Option Rollover) (m : Meaning) (wire : List ℕ) → Fits rollover m wire → IsWritable None m → MayAgree None (request_of m) m.agreed
still_agreed rollover m wire fits writable = record {
  asked = fits.may_agree.asked;
  size = λ octet size agreed.
      let long : length (wire_of m) ≡ size = sym (ap length (octet_wire m.mode wire m.file octet fits.reads)) ∙ fits.size octet size agreed in
      subst (λ n. n / blksize_of m + 1 ≤ 65535) long writable;
}

pub by_two_bytes : (m : Meaning) → CanBeNumbered m → IsWritable None m → CanBeWritten None m
by_two_bytes m (rollover, can) few = record {
  fits = record { may_agree = still_agreed rollover m (wire_of m) can.fits few; reads = can.fits.reads; size = can.fits.size; numbered = few };
  bytes = can.bytes;
  request = can.request;
  oack = can.oack;
  block_size = can.block_size;
  window_size = can.window_size;
}

own_fits : (rollover : Option Rollover) (m : Meaning) (wire : List ℕ) → Fits rollover m wire → IsWritable rollover m → Fits rollover m (wire_of m)
own_fits rollover m wire fits writable = record {
  may_agree = fits.may_agree;
  reads = reads_own m.mode m.file;
  size = λ octet size agreed. sym (ap length (octet_wire m.mode wire m.file octet fits.reads)) ∙ fits.size octet size agreed;
  numbered = writable;
}

pub can_be_written : (h : Header) (m : Meaning) (datagrams : List Datagram) → AllByRecursion (λ (d : Datagram). length d.payload ≤ 65527) datagrams
    → Shows h m datagrams → CanBeWritten h.rollover m
can_be_written h m datagrams short shows =
    let shown = shows.shown in
    let seen = shown.seen in
    let dressed = seen.dressed in
    let own = view_one_sided m shows.wire h.named seen.view seen.run in
    let first_block = first m shows.wire h.named seen.view own shown.complete in
    let (asked, answer) = opened m shows.wire h.named seen.view own first_block in
    let spelled : (p : MachinePacket) → HasPassed seen.view p → Spelled h m shows.wire dressed.ids (reverse datagrams) p = λ p passed.
    subst (λ ds. Spelled h m shows.wire dressed.ids ds p) dressed.whole
    (passed_spelled h m shows.wire dressed.ids dressed.division dressed.labels p (subst (λ v. HasPassed v p) (sym dressed.main) passed)) in
    let large : 1 ≤ blksize_of m = elim answer [
      | inl none ↦ let is = default_blksize m none in omega (arith, is)
      | inr passed ↦
          let (d, at, spells) = spelled Oack passed in
          some_of (finite.get m.agreed (codes "blksize")) (subst AreInRange (sym spells.1.map) (map_in_range spells.1.pairs) (codes "blksize"))
    ] in
    let of_block : (k : ℕ) → 1 ≤ k → k ≤ block_count (blksize_of m) shows.wire → Bytes (block (blksize_of m) shows.wire k) = λ k low high.
    (let (d, at, spells) = spelled (Data k) (each_block m shows.wire h.named seen.view own shown.complete k low high) in
    let (x, y, pair, is) = spells.1 in (subst (λ (p : List ℕ). Bytes (but_third p)) is spells.0).1.1.1) in
    let bytes = file_bytes m.mode shows.wire m.file seen.fits.reads (block_bytes (blksize_of m) shows.wire large of_block) in
    let payload : (p : MachinePacket) → HasPassed seen.view p → HasPayload (message_of m shows.wire p) = λ p passed.
    (let (d, at, spells) = spelled p passed in let less = canonical_shortest d.payload (message_of m shows.wire p) spells in let limit = all_contains (λ (d : Datagram). length d.payload ≤ 65527) (reverse datagrams) d (all_reverse (λ (d : Datagram). length d.payload ≤ 65527) datagrams short) at in (spells_again d.payload (message_of m shows.wire p) spells, omega (arith, less, limit))) in
    record {
      fits = own_fits h.rollover m shows.wire seen.fits shows.writable;
      bytes = written_bytes m.mode m.file bytes;
      request = payload Req asked;
      oack = λ some. elim answer [ inl none ↦ absurd (some none) | inr passed ↦ payload Oack passed ];
      block_size = elim answer [
        | inl none ↦ let is = default_blksize m none in omega (arith, is)
        | inr passed ↦
            let (d, at, spells) = spelled Oack passed in
            most_of (finite.get m.agreed (codes "blksize")) (subst AreInRange (sym spells.1.map) (map_in_range spells.1.pairs) (codes "blksize"))
      ];
      window_size = some_window h m shows.wire datagrams shown;
    }

pub shown_can_be_written : (h : Header) (m : Meaning) (datagrams : List Datagram) → All (λ (d : Datagram). length d.payload ≤ 65527) datagrams → Shows h m datagrams → CanBeWritten h.rollover m
shown_can_be_written h m datagrams short shows = can_be_written h m datagrams (recursion_from_All (λ (d : Datagram). length d.payload ≤ 65527) datagrams short) shows
