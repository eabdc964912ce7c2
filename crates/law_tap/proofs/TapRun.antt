-- What breaks no rule between the ends is what some run shows there.
use Rattle.std.proofs.Common.{◌≡◌, ◌⊎◌, ℕ, ◌≤◌, Bool, true, false, List, [], ◌∷◌, Any, Contains, Some, inl, inr, refl, sym, subst, ap, ◌∙◌, ◌&&◌, ◌||◌, not, map}
use Rattle.std.specs.List.{list_any}
use Rattle.std.proofs.lemmas.Bool.{true≢false, cases_Bool, cases_eq}
use Rattle.tftp_packet.specs.{no_options, Message, RequestParts, Spells, Side, Get, Put, End, Client, Server}
use Rattle.law_model.specs.Model.{Meaning, request_of, SomethingAgreed, MachinePacket, Req, Oack, Data, Ack, Error, HasSent, HasTaken, MayAckZeroOn, is_error, heard, LetsAckZeroOn, MayComeError, IsOneSided}
use Rattle.law_model.specs.Model.Machines.{other_end, sender_of, receiver_of}
use Rattle.law_model.proofs.ModelLemmas.Members.{contains_first, contains_later, contains_cases, contains_none}
use Rattle.law_model.proofs.ModelLemmas.Stops.{lawful_tail}
use Rattle.law_model.specs.{EndRule}
use Rattle.law_end.specs.{view_in, says_of, Fits, AreRouted, packet_in, says_some}
use Rattle.law_end.specs.declared.rule.Rule.TheVariants as rule
use Rattle.law_end.proofs.Soundness.MadeMeaning.{some_accord}
use Rattle.law_end.proofs.Soundness.RulesDivide.{divides}
use Rattle.law_end.proofs.Division.Parted.{parts_of}
use Rattle.law_end.proofs.Division.OneDivision.{run_divides, division_one}
use Rattle.law_end.proofs.Division.Routed.{routed_by}
use Rattle.law_end.proofs.Soundness.SameOrNot.{same_options, same_text}
use Rattle.law_end.proofs.Spelled.{spelled_once}
use Rattle.law_end.proofs.FirstBroken.FirstRequests.{some_same, request_same}
use Rattle.law_end.proofs.Division.Divided.{any_first, any_later}
use Rattle.law_tap.specs.{Pass, deed_at, as_at, MayPassEach, TapDatagram, TapSides, side_of, AreApart, is_left_out, kept_of, before_error, same_end, is_request, pass_tests, IsAnsweredInTime, IsInTime, AreInTime, recorded_at, header_at, FirstTapAsked, Says, HasKind, IsBlock, IsSomeBlock, IsOack, IsLateZero}
use Rattle.law_tap.proofs.Passed.{sent_at, at_sent, took_passed}
use Rattle.law_tap.proofs.AtReceiver.{receiver_is}
use Rattle.law_tap.proofs.OneTap.{Has, pass_moment, begun}
use Rattle.law_tap.proofs.KeptOf.{any_skip, any_of, some_of, before_there, before_all, before_less, kept_out, kept_in, kept_there, kept_plain, kept_asks}
use Rattle.law_tap.proofs.TapKept.{before_sent, request_is}
use Rattle.law_tap.proofs.TapBack.{kept_tells}
use Rattle.law_tap.proofs.TapRouted.{Carried}
use Rattle.law_tap.proofs.TapRecorded.{Each, kept_each, kept_map, asks_same, IsCarried, pair_tests, datagram_in, pass_in, passes_each, header_of_end, placed, placed_datagrams, placed_view, placed_routes}
use Rattle.law_tap.proofs.TapBefore.{before_map, before_each, pass_at}
use Rattle.law_tap.proofs.TapLawful.{Lawful, AreLawful, server_after, Sends, begins_before, Right, rights}
use Rattle.law_tap.proofs.TapMade.{Decides, decide_kind, find_kind, each_both, told_some, recorded_payload, reply_kept, decide_before, block_replied, known_kept, ended_kept, deed_packet}

pub each_at : {X : Type 0} (P : X → Type 0) (xs : List X) (x : X) → Each P xs → Contains xs x → P x
each_at P [] x each at = absurd (contains_none x at)
each_at P (y ∷ xs) x each at = elim (contains_cases y xs x at) [ inl now ↦ subst P now each.0 | inr before ↦ each_at P xs x each.1 before ]

has_pass : (bs : List Carried) (b : Carried) (e : End) (p : MachinePacket) → Contains bs b → b.pass.from ≡ e → b.pass.packet ≡ p → Has (map pass_in bs) e p
has_pass bs b e p at from packet = subst (Contains (map pass_in bs)) (whole b.pass from packet) (pass_at bs b at) where
  whole : (x : Pass) → x.from ≡ e → x.packet ≡ p → x ≡ record { from = e; packet = p }
  whole x one other = λ i. record { from = one i; packet = other i }

before_has : (o : End) (cs : List Carried) (b : Carried) (e : End) (p : MachinePacket) → Contains (before_error pair_tests o cs) b → b.pass.from ≡ e → b.pass.packet ≡ p → Has (before_error pass_tests o (map pass_in cs)) e p
before_has o cs b e p at from packet = subst (λ l. Has l e p) (sym (before_map pass_in pair_tests pass_tests o cs (passes_each cs))) (has_pass (before_error pair_tests o cs) b e p at from packet)

decide_block : (k : ℕ) → Decides (IsBlock k)
decide_block k (Message.Data i bytes) = cases_eq i k
decide_block k _ = inr (λ is. is)

decide_some_block : Decides IsSomeBlock
decide_some_block (Message.Data i bytes) = inl tt
decide_some_block _ = inr (λ is. is)

decide_oack : Decides IsOack
decide_oack (Message.Oack options) = inl tt
decide_oack _ = inr (λ is. is)

module _ (s : TapSides) (apart : AreApart s) (asked : RequestParts) where
  -- ---- the packet of a message
  spelled_packet : (c : Carried) → IsCarried s says_some c → (n : Message) → Spells c.datagram.payload n → packet_in n ≡ Some c.pass.packet
  spelled_packet c is n t = ap packet_in (spelled_once c.datagram.payload n is.spells.0 t is.spells.1) ∙ is.spells.2

  block_packet : (c : Carried) → IsCarried s says_some c → (k : ℕ) (n : Message) → Spells c.datagram.payload n → IsBlock k n → c.pass.packet ≡ Data k
  block_packet c is k (Message.Data i bytes) t kind = sym (some_same (Data i) c.pass.packet (spelled_packet c is (Message.Data i bytes) t)) ∙ ap Data kind
  block_packet c is k _ t kind = absurd kind

  some_packet : (c : Carried) → IsCarried s says_some c → (n : Message) → Spells c.datagram.payload n → IsSomeBlock n → (k : ℕ) × (c.pass.packet ≡ Data k)
  some_packet c is (Message.Data i bytes) t kind = (i, sym (some_same (Data i) c.pass.packet (spelled_packet c is (Message.Data i bytes) t)))
  some_packet c is _ t kind = absurd kind

  oack_packet : (c : Carried) → IsCarried s says_some c → (n : Message) → Spells c.datagram.payload n → IsOack n → c.pass.packet ≡ Oack
  oack_packet c is (Message.Oack options) t kind = sym (some_same Oack c.pass.packet (spelled_packet c is (Message.Oack options) t))
  oack_packet c is _ t kind = absurd kind

  error_message : (b : Carried) → IsCarried s says_some b → (code : ℕ) (text : List ℕ) → b.pass.packet ≡ Error code text → Spells b.datagram.payload (Message.Error code text)
  error_message b is code text packet = by is.spells.0 is.spells.1 (is.spells.2 ∙ ap Some packet) where
    by : (n : Message) → Spells b.datagram.payload n → packet_in n ≡ Some (Error code text) → Spells b.datagram.payload (Message.Error code text)
    by (Message.Error one words) t at = let first : one ≡ code = cc in let second : words ≡ text = cc in subst (λ x. Spells b.datagram.payload (Message.Error code x)) second (subst (λ x. Spells b.datagram.payload (Message.Error x words)) first t)
    by _ t at = absurd (cc)

  -- ---- a datagram is in time

  abbrev Both : Carried → Type 0
  Both b = IsCarried s says_some b × Right s apart asked b

  module _ (m : Meaning) (wire : List ℕ) (side : asked.side ≡ m.side) (c : Carried) (cs : List Carried) (is : IsCarried s says_some c) (lawful : Lawful s c cs) (right : Right s apart asked c)
      (begins : (cs ≡ []) ⊎ FirstTapAsked s (map datagram_in cs) asked) (each : Each (IsCarried s says_some) cs) (all : AreLawful s cs) (rightly : Each (Right s apart asked) cs)
      (own : IsOneSided m wire (receiver_of m.side) (as_at (receiver_of m.side) (map pass_in (kept_of pair_tests (receiver_of m.side) cs))))
      (mine : (p : MachinePacket) → c.pass.packet ≡ p → is_request p ≡ false → is_error p ≡ false → IsOneSided m wire (receiver_of m.side) (deed_at (receiver_of m.side) c.pass.from p ∷ as_at (receiver_of m.side) (map pass_in (kept_of pair_tests (receiver_of m.side) cs)))) where
    both : Each Both cs
    both = each_both (IsCarried s says_some) (Right s apart asked) cs each rightly

    both_before : (o : End) → Each Both (before_error pair_tests o cs)
    both_before o = before_each Both pair_tests o cs both

    first_of_all : (c.pass.packet ≡ Req → ⊥) → FirstTapAsked s (map datagram_in cs) asked
    first_of_all other = elim begins [ inr first ↦ first | inl none ↦ absurd (by c.pass.from refl none) ] where
      by : (f : End) → c.pass.from ≡ f → cs ≡ [] → ⊥
      by Client from none = true≢false (sym (ap (list_any pair_tests.answers) (sym none) ∙ lawful.answered from other))
      by Server from none = true≢false (sym (ap (list_any pair_tests.asks) (sym none) ∙ server_after s apart c cs lawful from each))

    answered_in_time : (k : ℕ) → c.pass.packet ≡ Data k → IsAnsweredInTime m.side (map pass_in cs)
    answered_in_time k packet = by m.side refl where
      by : (x : Side) → m.side ≡ x → IsAnsweredInTime x (map pass_in cs)
      by Get same = tt
      by Put same =
          let reply = block_replied s apart asked c cs is lawful (side ∙ same) k packet (first_of_all (λ req. let bad : Data k ≡ Req = sym packet ∙ req in cc)) each rightly in
          elim reply.3 [
            | inl oack ↦ inl (before_has Client cs reply.0 Server Oack reply.1 reply.2 oack)
            | inr ack ↦ inr (before_has Client cs reply.0 Server (Ack 0) reply.1 reply.2 ack)
          ]

    -- the message of an ACK
    ack_message : (j : ℕ) → c.pass.packet ≡ Ack j → Spells c.datagram.payload (Message.Ack j)
    ack_message j packet = by is.spells.0 is.spells.1 (is.spells.2 ∙ ap Some packet) where
      by : (n : Message) → Spells c.datagram.payload n → packet_in n ≡ Some (Ack j) → Spells c.datagram.payload (Message.Ack j)
      by (Message.Ack i) t at = let same : i ≡ j = cc in subst (λ x. Spells c.datagram.payload (Message.Ack x)) same t
      by _ t at = absurd (cc)

    not_request : (j : ℕ) → c.pass.packet ≡ Ack j → c.pass.packet ≡ Req → ⊥
    not_request j packet req = let bad : Ack j ≡ Req = sym packet ∙ req in cc

    ack_from : (j : ℕ) → c.pass.packet ≡ Ack j → c.pass.from ≡ receiver_of m.side
    ack_from j packet = subst (Sends s apart asked.side c.pass.from) packet right.sends ∙ ap receiver_of side

    other_of : (x : Side) → other_end (receiver_of x) ≡ sender_of x
    other_of Get = refl
    other_of Put = refl

    other_other : (x : End) → other_end (other_end x) ≡ x
    other_other Client = refl
    other_other Server = refl

    -- what had passed before the ERROR of the ACK's end is heard
    hears : (o : End) (p : MachinePacket) → c.pass.from ≡ o → Has (before_error pass_tests o (map pass_in cs)) (other_end c.pass.from) p → HasSent (heard (as_at (other_end c.pass.from) (map pass_in cs))) p
    hears o p from at = before_sent (other_end c.pass.from) (map pass_in cs) p (subst (λ x. Has (before_error pass_tests x (map pass_in cs)) (other_end c.pass.from) p) (sym from ∙ sym (other_other c.pass.from)) at)

    block_sent : (j : ℕ) → c.pass.packet ≡ Ack j → (k : ℕ) → 1 ≤ k → k ≤ j → HasSent (heard (as_at (other_end c.pass.from) (map pass_in cs))) (Data k)
    block_sent j packet k low high = elim (decide_before s apart asked (IsBlock k) (decide_block k) (receiver_of asked.side) cs each) [
      | inr never ↦ absurd (lawful.late (rule.Block EndRule.AckAhead) (record { asked = asked; first = first_of_all (not_request j packet); message = Message.Ack j; says = ack_message j packet; breaks = (k, low, high, never) }))
      | inl there ↦
          let r = receiver_of asked.side in
          let found = find_kind (IsBlock k) Both (before_error pair_tests r cs) (both_before r) there in
          let carries = block_packet found.0 found.2.0 k found.3.0 found.3.1 found.3.2 in
          let from = subst (Sends s apart asked.side found.0.pass.from) carries found.2.1.sends in
          let sender : sender_of asked.side ≡ other_end c.pass.from = ap sender_of side ∙ sym (other_of m.side) ∙ ap other_end (sym (ack_from j packet)) in
          hears r (Data k) (ack_from j packet ∙ ap receiver_of (sym side)) (before_has r cs found.0 (other_end c.pass.from) (Data k) found.1 (from ∙ sender) carries)
    ]

    -- an OACK that has passed agrees to something
    oack_agrees : Has (map pass_in cs) Server Oack → SomethingAgreed m
    oack_agrees at =
        let ks = kept_of pair_tests (receiver_of m.side) cs in
        let may = ((receiver_is m wire (map pass_in ks)).0 own).0 in
        let there = carried_pass cs at in
        let kept = reply_kept s apart asked (receiver_of m.side) cs there.0 there.1 there.2 (ap is_error there.3) in
        (pass_moment m wire (map pass_in ks) Server Oack may (has_pass ks there.0 Server Oack kept there.2 there.3)).allowed.agreed
      where
        carried_pass : (bs : List Carried) → Has (map pass_in bs) Server Oack → (b : Carried) × Contains bs b × (b.pass.from ≡ Server) × (b.pass.packet ≡ Oack)
        carried_pass [] at = absurd (contains_none _ at)
        carried_pass (b ∷ bs) at = elim (contains_cases b.pass (map pass_in bs) (record { from = Server; packet = Oack }) at) [
          | inl now ↦ (b, contains_first b bs, ap (λ (x : Pass). x.from) now, ap (λ (x : Pass). x.packet) now)
          | inr before ↦ let r = carried_pass bs before in (r.0, contains_later b bs r.0 r.1, r.2, r.3)
        ]

    -- the request has passed before the server's first ERROR
    request_before : (bs : List Carried) → AreLawful s bs → Each (IsCarried s says_some) bs → list_any pair_tests.asks bs ≡ true → list_any pair_tests.asks (before_error pair_tests Server bs) ≡ true
    request_before [] lawful each some = some
    request_before (b ∷ bs) lawful each some = elim (cases_Bool (list_any (pair_tests.ends Server) (b ∷ bs))) [
      | inr none ↦ subst (λ l. list_any pair_tests.asks l ≡ true) (sym (before_all pair_tests Server (b ∷ bs) none)) some
      | inl ended ↦ subst (λ l. list_any pair_tests.asks l ≡ true) (sym (before_less pair_tests Server b bs ended)) (request_before bs lawful.1 each.1 (elim (cases_Bool (pair_tests.ends Server b)) [
        | inl now ↦ server_after s apart b bs lawful.0 (server_is b.pass.from b.pass.packet now) each.1
        | inr other ↦ asks_later bs lawful.1 each.1 (sym (any_skip (pair_tests.ends Server) b bs other) ∙ ended)
      ]))
    ]
      where
        server_is : (f : End) (p : MachinePacket) → (same_end Server f && is_error p) ≡ true → f ≡ Server
        server_is Server p is = refl
        server_is Client p is = absurd (true≢false (sym is))

        asks_later : (bs : List Carried) → AreLawful s bs → Each (IsCarried s says_some) bs → list_any (pair_tests.ends Server) bs ≡ true → list_any pair_tests.asks bs ≡ true
        asks_later [] lawful each ended = absurd (true≢false (sym ended))
        asks_later (x ∷ bs) lawful each ended = elim (cases_Bool (pair_tests.ends Server x)) [
          | inl now ↦ any_more_asks x bs (server_after s apart x bs lawful.0 (server_is x.pass.from x.pass.packet now) each.1)
          | inr other ↦ any_more_asks x bs (asks_later bs lawful.1 each.1 (sym (any_skip (pair_tests.ends Server) x bs other) ∙ ended))
        ]
          where
            any_more_asks : (x : Carried) (bs : List Carried) → list_any pair_tests.asks bs ≡ true → list_any pair_tests.asks (x ∷ bs) ≡ true
            any_more_asks x bs some = let found = some_of pair_tests.asks bs some in any_of pair_tests.asks (x ∷ bs) found.0 (contains_later x bs found.0 found.1) found.2

    late_zero : (x : Side) → asked.side ≡ x → (j : ℕ) → c.pass.packet ≡ Ack j → j ≡ 0 → IsLateZero s x (map datagram_in cs) → ⊥
    late_zero x same j packet none late = lawful.late (rule.Block EndRule.AckZero) (record {
      asked = asked;
      first = first_of_all (not_request j packet);
      message = Message.Ack j;
      says = ack_message j packet;
      breaks = (none, subst (λ y. IsLateZero s y (map datagram_in cs)) (sym same) late);
    })

    from_receiver : (j : ℕ) → c.pass.packet ≡ Ack j → (x : Side) → m.side ≡ x → c.pass.from ≡ receiver_of x
    from_receiver j packet x same = ack_from j packet ∙ ap receiver_of same

    zero_read : (j : ℕ) → c.pass.packet ≡ Ack j → j ≡ 0 → m.side ≡ Get → LetsAckZeroOn Get m (heard (as_at (other_end c.pass.from) (map pass_in cs)))
    zero_read j packet none get = elim (decide_before s apart asked IsOack decide_oack Client cs each) [
      | inr never ↦ absurd (late_zero Get (side ∙ get) j packet none never)
      | inl there ↦
          let found = find_kind IsOack Both (before_error pair_tests Client cs) (both_before Client) there in
          let oack = oack_packet found.0 found.2.0 found.3.0 found.3.1 found.3.2 in
          let from : found.0.pass.from ≡ Server = subst (Sends s apart asked.side found.0.pass.from) oack found.2.1.sends in
          let client = from_receiver j packet Get get in (
            oack_agrees (has_pass cs found.0 Server Oack (before_there pair_tests Client cs found.0 found.1) from oack),
            hears Client Oack client (before_has Client cs found.0 (other_end c.pass.from) Oack found.1 (from ∙ ap other_end (sym client)) oack),
          )
    ]

    no_oack : (HasKind IsOack (map datagram_in cs) → ⊥) → Has (map pass_in cs) Server Oack → ⊥
    no_oack never at = never (there cs each at) where
      is_oack : (n : Message) → packet_in n ≡ Some Oack → IsOack n
      is_oack (Message.Oack options) at = tt
      is_oack _ at = absurd (cc)

      there : (bs : List Carried) → Each (IsCarried s says_some) bs → Has (map pass_in bs) Server Oack → HasKind IsOack (map datagram_in bs)
      there [] each at = absurd (contains_none _ at)
      there (b ∷ bs) each at = elim (contains_cases b.pass (map pass_in bs) (record { from = Server; packet = Oack }) at) [
        | inl now ↦ any_first (Says IsOack) b.datagram (map datagram_in bs) (each.0.spells.0, each.0.spells.1, is_oack each.0.spells.0 (each.0.spells.2 ∙ ap (λ (x : Pass). Some x.packet) now))
        | inr before ↦ any_later (Says IsOack) b.datagram (map datagram_in bs) (there bs each.1 before)
      ]

    -- by its own rules an ACK 0 of a write with options follows a block
    needs_block : (j : ℕ) → c.pass.packet ≡ Ack j → j ≡ 0 → m.side ≡ Put → SomethingAgreed m → (HasKind IsOack (map datagram_in cs) → ⊥) → ⊥
    needs_block j packet none put some never =
        let ks = kept_of pair_tests (receiver_of m.side) cs in
        let now = mine (Ack j) packet refl refl in
        let sent = subst (λ d. IsOneSided m wire (receiver_of m.side) (d ∷ as_at (receiver_of m.side) (map pass_in ks))) (ap (λ f. deed_at (receiver_of m.side) f (Ack j)) (ack_from j packet) ∙ sent_at (receiver_of m.side) (Ack j)) now in
        elim (subst (λ x. MayAckZeroOn x m (as_at (receiver_of m.side) (map pass_in ks))) put (sent.0.zero none)) [
          | inl plain ↦ some plain.0
          | inr oacked ↦
              let may = ((receiver_is m wire (map pass_in ks)).0 own).0 in
              let block = took_passed (receiver_of m.side) (Data oacked.1) (map pass_in ks) oacked.2 in
              let oack = (begun m wire (map pass_in ks) may oacked.1 (subst (λ x. Has (map pass_in ks) x (Data oacked.1)) (other_of m.side) block)).1 some in
              no_oack never (kept_has oack)
        ]
      where
        kept_has : Has (map pass_in (kept_of pair_tests (receiver_of m.side) cs)) Server Oack → Has (map pass_in cs) Server Oack
        kept_has at = kept_there pass_tests (receiver_of m.side) (map pass_in cs) _ (subst (λ l. Has l Server Oack) (sym (kept_map pass_in pair_tests pass_tests (receiver_of m.side) cs (passes_each cs))) at)

    zero_write : (j : ℕ) → c.pass.packet ≡ Ack j → j ≡ 0 → m.side ≡ Put → LetsAckZeroOn Put m (heard (as_at (other_end c.pass.from) (map pass_in cs)))
    zero_write j packet none put = elim (same_options m.agreed no_options) [
      | inl plain ↦
          let found = some_of pair_tests.asks (before_error pair_tests Server cs) (request_before cs all each (server_after s apart c cs lawful from each)) in
          let request = request_is found.0.pass found.2 in
          inl (plain, hears Server Req from (before_has Server cs found.0 (other_end c.pass.from) Req found.1 (ap (λ (x : Pass). x.from) request ∙ ap other_end (sym from)) (ap (λ (x : Pass). x.packet) request)))
      | inr some ↦ elim (decide_kind IsOack decide_oack s cs each) [
        | inr never ↦ absurd (needs_block j packet none put some never)
        | inl oacked ↦ elim (decide_before s apart asked IsSomeBlock decide_some_block Server cs each) [
          | inr never ↦ absurd (late_zero Put (side ∙ put) j packet none (oacked, never))
          | inl there ↦
              let found = find_kind IsSomeBlock Both (before_error pair_tests Server cs) (both_before Server) there in
              let block = some_packet found.0 found.2.0 found.3.0 found.3.1 found.3.2 in
              let sender : found.0.pass.from ≡ Client = subst (Sends s apart asked.side found.0.pass.from) block.1 found.2.1.sends ∙ ap sender_of (side ∙ put) in
              inr (some, block.0, hears Server (Data block.0) from (before_has Server cs found.0 (other_end c.pass.from) (Data block.0) found.1 (sender ∙ ap other_end (sym from)) block.1))
        ]
      ]
    ]
      where
        from : c.pass.from ≡ Server
        from = from_receiver j packet Put put

    -- ---- ERRORs

    spells_error : (code : ℕ) (text : List ℕ) → Has (map pass_in cs) c.pass.from (Error code text) → Any (λ (x : TapDatagram). (x.source ≡ side_of s c.pass.from) × Spells x.payload (Message.Error code text)) (map datagram_in cs)
    spells_error code text at = there cs each at where
      there : (bs : List Carried) → Each (IsCarried s says_some) bs → Has (map pass_in bs) c.pass.from (Error code text) → Any (λ (x : TapDatagram). (x.source ≡ side_of s c.pass.from) × Spells x.payload (Message.Error code text)) (map datagram_in bs)
      there [] each at = absurd (contains_none _ at)
      there (b ∷ bs) each at = elim (contains_cases b.pass (map pass_in bs) (record { from = c.pass.from; packet = Error code text }) at) [
        | inl now ↦ any_first (λ (x : TapDatagram). (x.source ≡ side_of s c.pass.from) × Spells x.payload (Message.Error code text)) b.datagram (map datagram_in bs)
            (each.0.source ∙ ap (λ (x : Pass). side_of s x.from) now, error_message b each.0 code text (ap (λ (x : Pass). x.packet) now))
        | inr before ↦ any_later (λ (x : TapDatagram). (x.source ≡ side_of s c.pass.from) × Spells x.payload (Message.Error code text)) b.datagram (map datagram_in bs) (there bs each.1 before)
      ]

    error_comes : (code : ℕ) (text : List ℕ) → c.pass.packet ≡ Error code text → MayComeError (other_end c.pass.from) (as_at (other_end c.pass.from) (map pass_in cs)) code text
    error_comes code text packet = record { asked = asks; same = same } where
      asks : other_end c.pass.from ≡ Client → HasSent (as_at (other_end c.pass.from) (map pass_in cs)) Req
      asks client =
          let server : c.pass.from ≡ Server = sym (other_other c.pass.from) ∙ ap other_end client in
          let some = sym (asks_same pass_in pair_tests pass_tests cs (passes_each cs)) in
          let found = some_of pass_tests.asks (map pass_in cs) (asks_same pass_in pair_tests pass_tests cs (passes_each cs) ∙ server_after s apart c cs lawful server each) in
          subst (λ e. HasSent (as_at e (map pass_in cs)) Req) (sym client) (at_sent Client Req (map pass_in cs) (subst (Contains (map pass_in cs)) (request_is found.0 found.2) found.1))

      same : (one : ℕ) (words : List ℕ) → HasTaken (as_at (other_end c.pass.from) (map pass_in cs)) (Error one words) → (one ≡ code) × (words ≡ text)
      same one words at = equal (spells_error one words (subst (λ e. Has (map pass_in cs) e (Error one words)) (other_other c.pass.from) (took_passed (other_end c.pass.from) (Error one words) (map pass_in cs) at))) where
        other : ((code ≡ one) × (text ≡ words) → ⊥) → Any (λ (x : TapDatagram). (x.source ≡ side_of s c.pass.from) × Spells x.payload (Message.Error one words)) (map datagram_in cs) → ⊥
        other differs before = lawful.passing rule.AfterError (record {
          end = c.pass.from;
          source = is.source;
          code = code;
          text = text;
          says = error_message c is code text packet;
          first_code = one;
          first_text = words;
          before = before;
          differs = differs;
        })

        equal : Any (λ (x : TapDatagram). (x.source ≡ side_of s c.pass.from) × Spells x.payload (Message.Error one words)) (map datagram_in cs) → (one ≡ code) × (words ≡ text)
        equal before = elim (cases_eq one code) [
          | inr differs ↦ absurd (other (λ both. differs (sym both.0)) before)
          | inl number ↦ elim (same_text words text) [
            | inr differs ↦ absurd (other (λ both. differs (sym both.1)) before)
            | inl words_same ↦ (number, words_same)
          ]
        ]

    pub time_of : (p : MachinePacket) → c.pass.packet ≡ p → IsInTime m wire (map pass_in cs) c.pass.from p
    time_of Req packet = subst (Sends s apart asked.side c.pass.from) packet right.sends
    time_of Oack packet = tt
    time_of (Data k) packet = answered_in_time k packet
    time_of (Error code text) packet = error_comes code text packet
    time_of (Ack j) packet = record {
      sender = ap other_end (ack_from j packet) ∙ other_of m.side;
      zero = λ none. zeros none m.side refl;
      sent = block_sent j packet;
    }
      where
        zeros : j ≡ 0 → (x : Side) → m.side ≡ x → LetsAckZeroOn x m (heard (as_at (other_end c.pass.from) (map pass_in cs)))
        zeros none Get same = zero_read j packet none same
        zeros none Put same = zero_write j packet none same

  -- ---- all of them

  never_out : (r f : End) (p : MachinePacket) (d : TapDatagram) (rest : List Carried) → is_request p ≡ false → is_error p ≡ false → is_left_out pair_tests r (record { datagram = d; pass = record { from = f; packet = p } }) rest ≡ false
  never_out r f p d rest plain quiet = by (same_end Client f) (same_end r f) where
    by : (a b : Bool) → ((a && is_request p) && list_any pair_tests.asks rest) || ((b && is_error p) || ((a && is_error p) && not (list_any pair_tests.answers rest))) ≡ false
    by true true = rw (plain, quiet) refl
    by true false = rw (plain, quiet) refl
    by false true = rw (quiet) refl
    by false false = refl

  own_rest : (m : Meaning) (wire : List ℕ) (r : End) (c : Carried) (cs : List Carried) → IsOneSided m wire r (as_at r (map pass_in (kept_of pair_tests r (c ∷ cs)))) → IsOneSided m wire r (as_at r (map pass_in (kept_of pair_tests r cs)))
  own_rest m wire r c cs own = elim (cases_Bool (is_left_out pair_tests r c (kept_of pair_tests r cs))) [
    | inl out ↦ subst (λ l. IsOneSided m wire r (as_at r (map pass_in l))) (kept_out pair_tests r c cs out) own
    | inr stays ↦ lawful_tail m wire r (deed_at r c.pass.from c.pass.packet) (as_at r (map pass_in (kept_of pair_tests r cs))) (subst (λ l. IsOneSided m wire r (as_at r (map pass_in l))) (kept_in pair_tests r c cs stays) own)
  ]

  own_now : (m : Meaning) (wire : List ℕ) (r : End) (c : Carried) (cs : List Carried) → IsOneSided m wire r (as_at r (map pass_in (kept_of pair_tests r (c ∷ cs)))) → (p : MachinePacket) → c.pass.packet ≡ p → is_request p ≡ false → is_error p ≡ false
      → IsOneSided m wire r (deed_at r c.pass.from p ∷ as_at r (map pass_in (kept_of pair_tests r cs)))
  own_now m wire r c cs own p packet plain quiet =
      let stays = never_out r c.pass.from c.pass.packet c.datagram (kept_of pair_tests r cs) (ap is_request packet ∙ plain) (ap is_error packet ∙ quiet) in
      subst (λ q. IsOneSided m wire r (deed_at r c.pass.from q ∷ as_at r (map pass_in (kept_of pair_tests r cs)))) packet (subst (λ l. IsOneSided m wire r (as_at r (map pass_in l))) (kept_in pair_tests r c cs stays) own)

  pub in_times : (m : Meaning) (wire : List ℕ) → asked.side ≡ m.side → (cs : List Carried) → Each (IsCarried s says_some) cs → AreLawful s cs → Each (Right s apart asked) cs → (cs ≡ []) ⊎ FirstTapAsked s (map datagram_in cs) asked
      → IsOneSided m wire (receiver_of m.side) (as_at (receiver_of m.side) (map pass_in (kept_of pair_tests (receiver_of m.side) cs))) → AreInTime m wire (map pass_in cs)
  in_times m wire side [] each lawful right begins own = tt
  in_times m wire side (c ∷ cs) each lawful right (inl none) own = absurd (cc)
  in_times m wire side (c ∷ cs) each lawful right (inr first) own =
      let before = begins_before s apart asked c cs lawful.1 each.1 first in
      let rest = own_rest m wire (receiver_of m.side) c cs own in (
        time_of m wire side c cs each.0 lawful.0 right.0 before each.1 lawful.1 right.1 rest (own_now m wire (receiver_of m.side) c cs own) c.pass.packet refl,
        in_times m wire side cs each.1 lawful.1 right.1 before rest,
      )

  -- ---- a meaning and a wire

  pub record Made (cs : List Carried) : Type 0 where
    pub m : Meaning
    pub wire : List ℕ
    pub fits : Fits s.rollover m wire
    pub may : MayPassEach m wire (map pass_in cs)
    pub says : Each (λ c. says_of m wire c.pass.packet c.datagram.payload) cs

  pub says_each : (m : Meaning) (wire : List ℕ) (r : End) (ks : List Carried) → AreRouted (header_of_end s r) m wire (placed s r ks) → Each (λ c. says_of m wire c.pass.packet c.datagram.payload) ks
  says_each m wire r [] routed = tt
  says_each m wire r (k ∷ ks) routed = (
    subst (λ l. says_of m wire k.pass.packet l) (recorded_payload s r k.datagram) (subst (λ p. says_of m wire p (recorded_at s r k.datagram).payload) (deed_packet r k.pass.from k.pass.packet) routed.1.1),
    says_each m wire r ks routed.2,
  )

  each_of : {X : Type 0} (P : X → Type 0) (xs : List X) → ((x : X) → Contains xs x → P x) → Each P xs
  each_of P [] all = tt
  each_of P (x ∷ xs) all = (all x (contains_first x xs), each_of P xs (λ y at. all y (contains_later x xs y at)))

  -- what a meaning says that says what is kept
  pub says_all : (m : Meaning) (wire : List ℕ) (r : End) (cs : List Carried) → asked ≡ request_of m → Each (IsCarried s says_some) cs → Each (Right s apart asked) cs
      → Each (λ c. says_of m wire c.pass.packet c.datagram.payload) (kept_of pair_tests r cs) → Each (λ c. says_of m wire c.pass.packet c.datagram.payload) cs
  says_all m wire r cs same each right kept = each_of (λ c. says_of m wire c.pass.packet c.datagram.payload) cs (λ c at. by c at c.pass.packet refl) where
    none : (b : Bool) → (b && false) ≡ false
    none true = refl
    none false = refl

    in_kept : (c : Carried) → Contains cs c → is_request c.pass.packet ≡ false → is_error c.pass.packet ≡ false → says_of m wire c.pass.packet c.datagram.payload
    in_kept c at plain quiet = each_at (λ c. says_of m wire c.pass.packet c.datagram.payload) (kept_of pair_tests r cs) c kept
        (kept_plain pair_tests r cs c at (ap (λ b. same_end Client c.pass.from && b) plain ∙ none (same_end Client c.pass.from)) (λ e. ap (λ b. same_end e c.pass.from && b) quiet ∙ none (same_end e c.pass.from)))

    by : (c : Carried) → Contains cs c → (p : MachinePacket) → c.pass.packet ≡ p → says_of m wire c.pass.packet c.datagram.payload
    by c at Req packet = subst (λ p. says_of m wire p c.datagram.payload) (sym packet) (subst (λ q. Spells c.datagram.payload (Message.Request q)) same ((each_at (Right s apart asked) cs c right at).request packet))
    by c at (Error code text) packet = subst (λ p. says_of m wire p c.datagram.payload) (sym packet) (error_message c (each_at (IsCarried s says_some) cs c each at) code text packet)
    by c at _ packet = in_kept c at (ap is_request packet) (ap is_error packet)

  -- the meaning's request is the one that was asked
  pub request_one : (m : Meaning) (wire : List ℕ) (r : End) (cs : List Carried) → Each (Right s apart asked) cs → list_any pair_tests.asks cs ≡ true
      → Each (λ c. says_of m wire c.pass.packet c.datagram.payload) (kept_of pair_tests r cs) → asked ≡ request_of m
  request_one m wire r cs right some kept =
      let found = some_of pair_tests.asks (kept_of pair_tests r cs) (kept_asks pair_tests r cs quiet some) in
      let packet = ap (λ (x : Pass). x.packet) (request_is found.0.pass found.2) in
      let asks = (each_at (Right s apart asked) cs found.0 right (kept_there pair_tests r cs found.0 found.1)).request packet in
      let says = subst (λ p. says_of m wire p found.0.datagram.payload) packet (each_at (λ c. says_of m wire c.pass.packet c.datagram.payload) (kept_of pair_tests r cs) found.0 kept found.1) in
      request_same asked (request_of m) (spelled_once found.0.datagram.payload (Message.Request asked) (Message.Request (request_of m)) asks says)
    where
      quiet : (x : Carried) → pair_tests.asks x ≡ true → (e : End) → pair_tests.ends e x ≡ false
      quiet x is e = ap (λ p. same_end e x.pass.from && is_error p) (ap (λ (y : Pass). y.packet) (request_is x.pass is)) ∙ none (same_end e x.pass.from) where
        none : (b : Bool) → (b && false) ≡ false
        none true = refl
        none false = refl

  pub made : (cs : List Carried) → Each (IsCarried s says_some) cs → AreLawful s cs → FirstTapAsked s (map datagram_in cs) asked → list_any pair_tests.asks cs ≡ true → Made cs
  made cs each lawful first some =
      let right = rights s apart asked cs lawful each (inr first) in
      let r = receiver_of asked.side in
      let h = header_at s asked.side in
      let ks = kept_of pair_tests r cs in
      let captured = map (recorded_at s r) (map datagram_in ks) in
      let ended = ended_kept s apart asked cs each lawful right (inr first) in
      let known = known_kept s apart asked cs each lawful right (inr first) in
      let by_rules = placed_routes s apart says_some told_some r ks (kept_each (IsCarried s says_some) pair_tests r cs each) known in
      let (m, wire, acc) = some_accord h captured ended in
      let (division, same, routed, own, starts) = divides h m wire captured ended acc in
      let p = parts_of h m wire division routed starts in
      let run = run_divides h m wire p.0 division p.1 own in
      let by_run = routed_by h says_some told_some p.0 division run.0 run.1 in
      let one : division ≡ placed s r ks = division_one h division (placed s r ks) (same ∙ sym (placed_datagrams s r ks)) by_run by_rules in
      let says = says_each m wire r ks (subst (AreRouted h m wire) one routed) in
      let request = request_one m wire r cs right some says in
      let side : asked.side ≡ m.side = ap (λ (q : RequestParts). q.side) request in
      let view : IsOneSided m wire r (as_at r (map pass_in ks)) = subst (IsOneSided m wire r) (placed_view s r ks) (subst (λ d. IsOneSided m wire r (view_in d)) one own) in
      let own_at : IsOneSided m wire (receiver_of m.side) (as_at (receiver_of m.side) (map pass_in (kept_of pair_tests (receiver_of m.side) cs)))
      = subst (λ x. IsOneSided m wire (receiver_of x) (as_at (receiver_of x) (map pass_in (kept_of pair_tests (receiver_of x) cs)))) side view in
      let kept_passes = kept_map pass_in pair_tests pass_tests (receiver_of m.side) cs (passes_each cs) in
      record {
        m = m;
        wire = wire;
        fits = acc.fits;
        may = (kept_tells m wire (map pass_in cs)).1 (subst (λ l. IsOneSided m wire (receiver_of m.side) (as_at (receiver_of m.side) l)) (sym kept_passes) own_at, in_times m wire side cs each lawful right (inr first) own_at);
        says = says_all m wire r cs request each right says;
      }
