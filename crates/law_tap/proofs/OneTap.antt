-- What is whole at a tap has one meaning and one wire.
use Rattle.std.proofs.Common.{◌≡◌, ℕ, ◌≤◌, List, [], ◌∷◌, Contains, codes, inl, inr, refl, sym, subst, ap, ◌∙◌, arith, Option}
use Rattle.std.specs.FinMap as map
use Rattle.tftp_packet.specs.{OptionMap, no_options, Message, RequestParts, Spells, Side, Get, Put, End, Client, Server}
use Rattle.tftp_packet.specs.{Rollover}
use Rattle.tftp_packet.proofs.Unique.{one_message}
use Rattle.tftp_nego.specs.{number_or, AreInRange}
use Rattle.tftp_nego.proofs.Numbers.{map_in_range, empty_in_range}
use Rattle.law_model.specs.Model.{Meaning, request_of, NothingAgreed, SomethingAgreed, blksize_of, block, block_count, Sent, MachinePacket, Req, Oack, Data, Ack, HasSent, message_of, heard, LetsStartOn, LetsAckZeroOn}
use Rattle.law_model.specs.Model.Machines.{sender_of}
use Rattle.law_model.proofs.ModelLemmas.Members.{contains_first, contains_later, contains_cases, contains_none}
use Rattle.law_model.proofs.ModelLemmas.Stops.{heard_done}
use Rattle.law_model.proofs.ModelLemmas.Wires.{same_wire}
use Rattle.law_end.specs.{ReadsAs, meaning_from}
use Rattle.law_end.proofs.Whole.OneMeaning.{file_one}
use Rattle.law_end.proofs.Soundness.SameOrNot.{same_options}
use Rattle.law_end.proofs.Soundness.MadeMeaning.{from_eight}
use Rattle.law_tap.specs.{Pass, as_at, MayPass, MayPassEach, Tapped, AreCarried, ShowsAtTap}
use Rattle.law_tap.proofs.Passed.{sent_passed}
use Rattle.law_tap.proofs.Projects.{view_may_pass}
use Rattle.law_tap.proofs.Wholes.{blocks_passed}

abbrev pub Has : List Pass → End → MachinePacket → Type 0
Has passed e p = Contains passed (record { from = e; packet = p })

-- ---- the moment when a packet passed

pub record PassMoment (m : Meaning) (wire : List ℕ) (passed : List Pass) (e : End) (p : MachinePacket) : Type 0 where
  pub earlier : List Pass
  pub may : MayPassEach m wire earlier
  pub allowed : MayPass m wire earlier e p
  pub kept : (x : Pass) → Contains earlier x → Contains passed x

pub pass_moment : (m : Meaning) (wire : List ℕ) (passed : List Pass) (e : End) (p : MachinePacket) → MayPassEach m wire passed → Has passed e p → PassMoment m wire passed e p
pass_moment m wire [] e p may at = absurd (contains_none _ at)
pass_moment m wire (x ∷ passed) e p may at = elim (contains_cases x passed _ at) [
  | inl now ↦ record { earlier = passed; may = may.1; allowed = subst (λ (y : Pass). MayPass m wire passed y.from y.packet) now may.0; kept = λ y there. contains_later x passed y there }
  | inr before ↦
      let past = pass_moment m wire passed e p may.1 before in
      record { earlier = past.earlier; may = past.may; allowed = past.allowed; kept = λ y there. contains_later x passed y (past.kept y there) }
]

-- ---- how it began

module _ (m : Meaning) (wire : List ℕ) (passed : List Pass) (may : MayPassEach m wire passed) where
  -- what a packet answers had passed
  pub heard_passed : (e : End) (p : MachinePacket) (f : End) (q : MachinePacket) (past : PassMoment m wire passed f q) → HasSent (heard (as_at e past.earlier)) p → Has passed e p
  heard_passed e p f q past at = past.kept _ (sent_passed e p past.earlier (heard_done (as_at e past.earlier) (Sent p) at))

  pub asked_by_oack : Has passed Server Oack → Has passed Client Req
  asked_by_oack at = let past = pass_moment m wire passed Server Oack may at in past.kept _ (sent_passed Client Req past.earlier past.allowed.asked)

  pub zero_get : m.side ≡ Get → Has passed Client (Ack 0) → Has passed Server Oack
  zero_get get at =
      let past = pass_moment m wire passed Client (Ack 0) may at in
      heard_passed Server Oack Client (Ack 0) past (subst (λ side. LetsAckZeroOn side m (heard (as_at Server past.earlier))) get (past.allowed.zero refl)).1

  zero_put : m.side ≡ Put → NothingAgreed m → Has passed Server (Ack 0) → Has passed Client Req
  zero_put put none at =
      let past = pass_moment m wire passed Server (Ack 0) may at in
      elim (subst (λ side. LetsAckZeroOn side m (heard (as_at Client past.earlier))) put (past.allowed.zero refl)) [
        | inl plain ↦ heard_passed Client Req Server (Ack 0) past plain.1
        | inr oacked ↦ absurd (oacked.0 none)
      ]

  -- the request has passed, and the OACK where something is agreed
  abbrev pub Begun : Type 0
  Begun = Has passed Client Req × (SomethingAgreed m → Has passed Server Oack)

  by_oack : Has passed Server Oack → Begun
  by_oack at = (asked_by_oack at, λ some. at)

  pub begun : (k : ℕ) → Has passed (sender_of m.side) (Data k) → Begun
  begun k at = by m.side refl at where
    by : (side : Side) → m.side ≡ side → Has passed (sender_of side) (Data k) → Begun
    by Get get there =
        let past = pass_moment m wire passed Server (Data k) may there in
        elim (subst (λ side. LetsStartOn side m (heard (as_at Client past.earlier))) get past.allowed.started) [
          | inl plain ↦ (heard_passed Client Req Server (Data k) past plain.1, λ some. absurd (some plain.0))
          | inr oacked ↦ by_oack (zero_get get (heard_passed Client (Ack 0) Server (Data k) past oacked.1))
        ]
    by Put put there =
        let past = pass_moment m wire passed Client (Data k) may there in
        elim (subst (λ side. LetsStartOn side m (heard (as_at Server past.earlier))) put past.allowed.started) [
          | inl plain ↦ (zero_put put plain.0 (heard_passed Server (Ack 0) Client (Data k) past plain.1), λ some. absurd (some plain.0))
          | inr oacked ↦ by_oack (heard_passed Server Oack Client (Data k) past oacked.1)
        ]

-- ---- one packet, by two meanings

carried_payload : (m : Meaning) (wire : List ℕ) (passed : List Pass) (tapped : List Tapped) → AreCarried m wire passed tapped → (x : Pass) → Contains passed x
    → (t : Tapped) × Contains tapped t × (t.from ≡ x.from) × Spells t.payload (message_of m wire x.packet)
carried_payload m wire [] [] carried x at = absurd (contains_none x at)
carried_payload m wire [] (t ∷ tapped) carried x at = absurd carried
carried_payload m wire (y ∷ passed) [] carried x at = absurd carried
carried_payload m wire (y ∷ passed) (t ∷ tapped) carried x at = elim (contains_cases y passed x at) [
  | inl now ↦ (t, contains_first t tapped, subst (λ (z : Pass). t.from ≡ z.from) now carried.0, subst (λ (z : Pass). Spells t.payload (message_of m wire z.packet)) now carried.1)
  | inr before ↦ let r = carried_payload m wire passed tapped carried.2 x before in (r.0, contains_later t tapped r.0 r.1, r.2, r.3)
]

carried_packet : (m : Meaning) (wire : List ℕ) (passed : List Pass) (tapped : List Tapped) → AreCarried m wire passed tapped → (t : Tapped) → Contains tapped t
    → (x : Pass) × Contains passed x × (t.from ≡ x.from) × Spells t.payload (message_of m wire x.packet)
carried_packet m wire [] [] carried t at = absurd (contains_none t at)
carried_packet m wire [] (u ∷ tapped) carried t at = absurd carried
carried_packet m wire (y ∷ passed) [] carried t at = absurd carried
carried_packet m wire (y ∷ passed) (u ∷ tapped) carried t at = elim (contains_cases u tapped t at) [
  | inl now ↦ (y, contains_first y passed, subst (λ (z : Tapped). z.from ≡ y.from) now carried.0, subst (λ (z : Tapped). Spells z.payload (message_of m wire y.packet)) now carried.1)
  | inr before ↦ let r = carried_packet m wire passed tapped carried.2 t before in (r.0, contains_later y passed r.0 r.1, r.2, r.3)
]

module _ (m n : Meaning) (wire other : List ℕ) (tapped : List Tapped) (p_list q_list : List Pass) (p_carried : AreCarried m wire p_list tapped) (q_carried : AreCarried n other q_list tapped) where
  again : (e : End) (p : MachinePacket) → Has p_list e p → (q : MachinePacket) × Has q_list e q × (message_of m wire p ≡ message_of n other q)
  again e p at =
      let one = carried_payload m wire p_list tapped p_carried (record { from = e; packet = p }) at in
      let two = carried_packet n other q_list tapped q_carried one.0 one.1 in
      let from : two.0.from ≡ e = sym two.2 ∙ one.2 in
      (two.0.packet, subst (λ f. Has q_list f two.0.packet) from two.1, one_message one.0.payload (message_of m wire p) (message_of n other two.0.packet) one.3.1 two.3.1)

  same_asked : (q : MachinePacket) → Message.Request (request_of m) ≡ message_of n other q → request_of m ≡ request_of n
  same_asked Req is = cc
  same_asked _ is = absurd (cc)

  same_agreed : (q : MachinePacket) → Message.Oack m.agreed ≡ message_of n other q → m.agreed ≡ n.agreed
  same_agreed Oack is = cc
  same_agreed _ is = absurd (cc)

  same_block : (k : ℕ) (q : MachinePacket) → message_of m wire (Data k) ≡ message_of n other q → (q ≡ Data k) × (block (blksize_of m) wire k ≡ block (blksize_of n) other k)
  same_block k (Data i) is = let number : k ≡ i = cc in let bytes : block (blksize_of m) wire k ≡ block (blksize_of n) other i = cc in (ap Data (sym number), bytes ∙ ap (block (blksize_of n) other) (sym number))
  same_block k _ is = absurd (cc)

  pub asked_one : Has p_list Client Req → request_of m ≡ request_of n
  asked_one at = let q = again Client Req at in same_asked q.0 q.2

  pub agreed_one : Has p_list Server Oack → m.agreed ≡ n.agreed
  agreed_one at = let q = again Server Oack at in same_agreed q.0 q.2

  -- the block that passed is a block of the other meaning, with the same bytes
  pub block_one : (e : End) (k : ℕ) → Has p_list e (Data k) → Has q_list e (Data k) × (block (blksize_of m) wire k ≡ block (blksize_of n) other k)
  block_one e k at = let q = again e (Data k) at in let same = same_block k q.0 q.2 in (subst (Has q_list e) same.0 q.1, same.1)

block_in_wire : (m : Meaning) (wire : List ℕ) (passed : List Pass) → MayPassEach m wire passed → (e : End) (k : ℕ) → Has passed e (Data k) → k ≤ block_count (blksize_of m) wire
block_in_wire m wire passed may e k at = (pass_moment m wire passed e (Data k) may at).allowed.in_wire

-- the size of a block is agreed, or 512
size_at_least : (m : Meaning) (wire : List ℕ) (passed : List Pass) (tapped : List Tapped) → AreCarried m wire passed tapped → (SomethingAgreed m → Has passed Server Oack) → 8 ≤ blksize_of m
size_at_least m wire passed tapped carried oacked = from_eight (map.get m.agreed (codes "blksize")) (range (codes "blksize")) where
  range : AreInRange m.agreed
  range = elim (same_options m.agreed no_options) [
    | inl none ↦ empty_in_range m.agreed none
    | inr some ↦
        let t = carried_payload m wire passed tapped carried (record { from = Server; packet = Oack }) (oacked some) in
        subst AreInRange (sym t.3.1.map) (map_in_range t.3.1.pairs)
  ]

whole : (a b : RequestParts) (c d : OptionMap) (f g : List ℕ) → a ≡ b → c ≡ d → f ≡ g → meaning_from (a, (c, f)) ≡ meaning_from (b, (d, g))
whole a b c d f g e p q = λ i. meaning_from (e i, (p i, q i))

pub shown_one : (rollover : Option Rollover) (m n : Meaning) (wire other : List ℕ) (tapped : List Tapped) → ShowsAtTap rollover m wire tapped → ShowsAtTap rollover n other tapped → (m ≡ n) × (wire ≡ other)
shown_one rollover m n wire other tapped one two =
    let may = view_may_pass m wire one.seen.passed one.seen.view in
    let mayb = view_may_pass n other two.seen.passed two.seen.view in
    let blocks = blocks_passed m wire one.seen.passed may one.whole in
    let blocksb = blocks_passed n other two.seen.passed mayb two.whole in
    let start = begun m wire one.seen.passed may 1 (blocks 1 (omega arith) (omega arith)) in
    let startb = begun n other two.seen.passed mayb 1 (blocksb 1 (omega arith) (omega arith)) in
    let asked = asked_one m n wire other tapped one.seen.passed two.seen.passed one.seen.carried two.seen.carried start.0 in
    let agreed : m.agreed ≡ n.agreed = elim (same_options m.agreed no_options) [
      | inr some ↦ agreed_one m n wire other tapped one.seen.passed two.seen.passed one.seen.carried two.seen.carried (start.1 some)
      | inl none ↦ elim (same_options n.agreed no_options) [
        | inl also ↦ none ∙ sym also
        | inr some ↦ sym (agreed_one n m other wire tapped two.seen.passed one.seen.passed two.seen.carried one.seen.carried (startb.1 some))
      ]
    ] in
    let size : blksize_of m ≡ blksize_of n = ap (λ o. number_or 512 (map.get o (codes "blksize"))) agreed in
    let last = block_count (blksize_of m) wire in
    let lastb = block_count (blksize_of n) other in
    let there = block_one m n wire other tapped one.seen.passed two.seen.passed one.seen.carried two.seen.carried (sender_of m.side) last (blocks last (omega arith) (omega arith)) in
    let thereb = block_one n m other wire tapped two.seen.passed one.seen.passed two.seen.carried one.seen.carried (sender_of n.side) lastb (blocksb lastb (omega arith) (omega arith)) in
    let up = block_in_wire n other two.seen.passed mayb (sender_of m.side) last there.0 in
    let down = block_in_wire m wire one.seen.passed may (sender_of n.side) lastb thereb.0 in
    let count : last ≡ lastb = omega arith in
    let low = size_at_least m wire one.seen.passed tapped one.seen.carried start.1 in
    let wires : wire ≡ other = same_wire (blksize_of m) wire other (omega arith) (count ∙ ap (λ b. block_count b other) (sym size))
    (λ k from to. (block_one m n wire other tapped one.seen.passed two.seen.passed one.seen.carried two.seen.carried (sender_of m.side) k (blocks k from to)).1 ∙ ap (λ b. block b other k) (sym size)) in
    let mode : n.mode ≡ m.mode = ap (λ (r : RequestParts). r.mode) (sym asked) in
    let file = file_one m.mode wire m.file n.file one.seen.fits.reads (subst (λ w. ReadsAs m.mode w n.file) (sym wires) (subst (λ x. ReadsAs x other n.file) mode two.seen.fits.reads)) in
    (whole (request_of m) (request_of n) m.agreed n.agreed m.file n.file asked agreed file, wires)
