-- What breaks no rule between the ends is kept as a capture of the receiver that breaks none.
use Rattle.std.proofs.Common.{◌≡◌, ◌⊎◌, ℕ, Bool, true, false, List, [], ◌∷◌, Contains, Some, inl, inr, refl, sym, subst, ap, ◌∙◌, arith, ◌&&◌, map}
use Rattle.std.specs.List.{list_any}
use Rattle.std.proofs.lemmas.Bool.{true≢false, cases_lt, cases_Bool}
use Rattle.tftp_packet.specs.{Message, RequestParts, Spells, Side, Get, Put, End, Client, Server}
use Rattle.tftp_packet.specs.Hosts.{Datagram, Header, same_peer}
use Rattle.law_model.specs.Model.Machines.{receiver_of}
use Rattle.law_model.specs.Model.{MachinePacket, Req, Oack, Data, Ack, Error, is_error}
use Rattle.law_model.specs.Rules.{Route, route_of, is_of_transfer, asks}
use Rattle.law_model.specs.{EndRule}
use Rattle.law_model.proofs.ModelLemmas.Members.{contains_first, contains_later}
use Rattle.law_end.specs.{packet_of, packet_route, packet_in, says_some, OneEnded, Passes, IsRead, Broken, Rule}
use Rattle.law_end.specs.declared.rule.Rule.TheVariants as rule
use Rattle.law_end.proofs.Division.RouteTests.{IsTold}
use Rattle.law_end.proofs.Spelled.{spelled_once}
use Rattle.law_end.proofs.FirstBroken.FirstRequests.{some_same}
use Rattle.law_end.proofs.FirstBroken.OneMessage.{only_messages, port_off}
use Rattle.law_end.proofs.Division.Divided.{any_none, any_cases, any_first, any_later}
use Rattle.law_tap.specs.{deed_at, TapDatagram, TapSides, side_of, AreApart, is_left_out, kept_of, before_error, same_end, is_request, tap_tests, recorded_at, header_at, FirstTapAsked, Says, HasKind, IsReply, IsLateBlock, is_of_ports}
use Rattle.law_tap.proofs.KeptOf.{any_here, any_skip, any_of, some_of, before_there, kept_out, kept_in, kept_more, kept_plain, kept_asks}
use Rattle.law_tap.proofs.TapTests.{asks_some}
use Rattle.law_tap.proofs.TapRouted.{Carried}
use Rattle.law_tap.proofs.TapRecorded.{Agrees, Each, kept_each, out_same, kept_map, IsCarried, pair_tests, datagram_in, datagrams_each, Known, AreKnown, placed_datagrams, placed_routes}
use Rattle.law_tap.proofs.TapBefore.{before_map, before_each}
use Rattle.law_tap.proofs.TapLawful.{Lawful, AreLawful, server_after, is_req_or, Sends, begins_before, Right, rights}

-- what breaks a rule of ports at an end is none of the transfer there
pub ports_off : (h : Header) (earlier : List Datagram) (d : Datagram) (broken : Rule) → is_of_ports broken ≡ true → Broken h earlier d broken → is_of_transfer (route_of h earlier d) ≡ false
ports_off h earlier d (rule.Port port) ports b = port_off h earlier d port b
ports_off h earlier d broken ports b = absurd (true≢false (sym ports))

-- ---- messages of a kind

abbrev pub Decides : (Message → Type 0) → Type 0
Decides Kind = (n : Message) → Kind n ⊎ (Kind n → ⊥)

pub decide_kind : (Kind : Message → Type 0) → Decides Kind → (s : TapSides) (bs : List Carried) → Each (IsCarried s says_some) bs → HasKind Kind (map datagram_in bs) ⊎ (HasKind Kind (map datagram_in bs) → ⊥)
decide_kind Kind test s [] each = inr (λ any. any_none (Says Kind) any)
decide_kind Kind test s (b ∷ bs) each = elim (test each.0.spells.0) [
  | inl now ↦ inl (any_first (Says Kind) b.datagram (map datagram_in bs) (each.0.spells.0, each.0.spells.1, now))
  | inr other ↦ elim (decide_kind Kind test s bs each.1) [
    | inl before ↦ inl (any_later (Says Kind) b.datagram (map datagram_in bs) before)
    | inr never ↦ inr (λ any. elim (any_cases (Says Kind) b.datagram (map datagram_in bs) any) [
      | inl (n, t, kind) ↦ other (subst Kind (spelled_once b.datagram.payload n each.0.spells.0 t each.0.spells.1) kind)
      | inr before ↦ never before
    ])
  ]
]

pub find_kind : (Kind : Message → Type 0) (P : Carried → Type 0) (bs : List Carried) → Each P bs → HasKind Kind (map datagram_in bs)
    → (c : Carried) × Contains bs c × P c × ((n : Message) × Spells c.datagram.payload n × Kind n)
find_kind Kind P [] each any = absurd (any_none (Says Kind) any)
find_kind Kind P (b ∷ bs) each any = elim (any_cases (Says Kind) b.datagram (map datagram_in bs) any) [
  | inl now ↦ (b, contains_first b bs, each.0, now)
  | inr before ↦ let found = find_kind Kind P bs each.1 before in (found.0, contains_later b bs found.0 found.1, found.2, found.3)
]

pub decide_reply : Decides IsReply
decide_reply (Message.Oack options) = inl tt
decide_reply (Message.Ack j) = elim (cases_lt 0 j) [ inl above ↦ inr (λ is. let e : j ≡ 0 = is in omega (arith, above)) | inr none ↦ let e : j ≡ 0 = omega (arith, none) in inl e ]
decide_reply _ = inr (λ is. is)

pub each_both : {X : Type 0} (P Q : X → Type 0) (xs : List X) → Each P xs → Each Q xs → Each (λ x. P x × Q x) xs
each_both P Q [] one other = tt
each_both P Q (x ∷ xs) one other = ((one.0, other.0), each_both P Q xs one.1 other.1)

pub told_some : IsTold says_some
told_some = record {
  request = λ payload t. asks_some payload Req t;
  other = λ p apart payload t. asks_some payload p t ∙ plain p apart;
} where
  plain : (p : MachinePacket) → (p ≡ Req → ⊥) → is_request p ≡ false
  plain Req other = absurd (other refl)
  plain _ other = refl

pub deed_packet : (r f : End) (p : MachinePacket) → packet_of (deed_at r f p) ≡ p
deed_packet Client Client p = refl
deed_packet Client Server p = refl
deed_packet Server Client p = refl
deed_packet Server Server p = refl

pub recorded_payload : (s : TapSides) (r : End) (d : TapDatagram) → (recorded_at s r d).payload ≡ d.payload
recorded_payload s r d = elim (cases_Bool (same_peer d.source (side_of s r))) [ inl own ↦ yours own | inr other ↦ theirs other ] where
  yours : same_peer d.source (side_of s r) ≡ true → (recorded_at s r d).payload ≡ d.payload
  yours is = rw (is) refl

  theirs : same_peer d.source (side_of s r) ≡ false → (recorded_at s r d).payload ≡ d.payload
  theirs is = rw (is) refl

-- the first request breaks no rule
first_breaks_none : (h : Header) (d : Datagram) (n : Message) → route_of h [] d ≡ Route.Request → Spells d.payload n → (broken : Rule) → Broken h [] d broken → ⊥
first_breaks_none h d n route t broken b =
    let said = only_messages h [] d n (ap is_of_transfer route) t (λ none peer. let same = sym route ∙ peer in cc) broken b in
    let none = said.first.1 in
    cc

-- ---- what is kept is known

module _ (s : TapSides) (apart : AreApart s) (asked : RequestParts) where
  quiet_request : (c : Carried) → pair_tests.asks c ≡ true → (e : End) → pair_tests.ends e c ≡ false
  quiet_request c is e = by c.pass.from c.pass.packet is where
    by : (f : End) (p : MachinePacket) → (same_end Client f && is_request p) ≡ true → (same_end e f && is_error p) ≡ false
    by Client Req is = plain (same_end e Client) where
      plain : (b : Bool) → (b && false) ≡ false
      plain true = refl
      plain false = refl
    by _ _ is = absurd (true≢false (sym is))

  -- on a read all of the server's is kept
  answers_get : (cs : List Carried) → list_any pair_tests.answers cs ≡ true → list_any pair_tests.answers (kept_of pair_tests Client cs) ≡ true
  answers_get [] some = some
  answers_get (c ∷ cs) some = elim (cases_Bool (pair_tests.answers c)) [
    | inl now ↦ subst (λ l. list_any pair_tests.answers l ≡ true) (sym (kept_in pair_tests Client c cs (stays c.pass.from now))) (any_here pair_tests.answers c (kept_of pair_tests Client cs) now)
    | inr other ↦
        let found = some_of pair_tests.answers (kept_of pair_tests Client cs) (answers_get cs (sym (any_skip pair_tests.answers c cs other) ∙ some)) in
        any_of pair_tests.answers (kept_of pair_tests Client (c ∷ cs)) found.0 (kept_more pair_tests Client c cs found.0 found.1) found.2
  ]
    where
      stays : (f : End) → same_end Server f ≡ true → is_left_out pair_tests Client (record { datagram = c.datagram; pass = record { from = f; packet = c.pass.packet } }) (kept_of pair_tests Client cs) ≡ false
      stays Server is = refl
      stays Client is = absurd (true≢false (sym is))

  -- an answer of the server's is kept
  pub reply_kept : (r : End) (cs : List Carried) (c : Carried) → Contains cs c → c.pass.from ≡ Server → is_error c.pass.packet ≡ false → Contains (kept_of pair_tests r cs) c
  reply_kept r cs c at server plain = kept_plain pair_tests r cs c at (ap (λ f. same_end Client f && is_request c.pass.packet) server) (λ e. ap (λ b. same_end e c.pass.from && b) plain ∙ none (same_end e c.pass.from)) where
    none : (b : Bool) → (b && false) ≡ false
    none true = refl
    none false = refl

  -- what a reply's datagram is
  pub reply_is : (c : Carried) → IsCarried s says_some c → (asked.side ≡ Put) → Right s apart asked c → (n : Message) → Spells c.datagram.payload n → IsReply n
      → (c.pass.from ≡ Server) × ((c.pass.packet ≡ Oack) ⊎ (c.pass.packet ≡ Ack 0))
  reply_is c is put right n t kind = by n kind (spelled_once c.datagram.payload n is.spells.0 t is.spells.1) where
    packet : (n : Message) (p : MachinePacket) → packet_in n ≡ Some p → n ≡ is.spells.0 → p ≡ c.pass.packet
    packet n p at same = some_same p c.pass.packet (sym at ∙ ap packet_in same ∙ is.spells.2)

    by : (n : Message) → IsReply n → n ≡ is.spells.0 → (c.pass.from ≡ Server) × ((c.pass.packet ≡ Oack) ⊎ (c.pass.packet ≡ Ack 0))
    by (Message.Oack options) kind same = let p = sym (packet (Message.Oack options) Oack refl same) in (subst (Sends s apart asked.side c.pass.from) p right.sends, inl p)
    by (Message.Ack j) kind same =
        let p = sym (packet (Message.Ack j) (Ack j) refl same) in
        (subst (Sends s apart asked.side c.pass.from) p right.sends ∙ ap receiver_of put, inr (p ∙ ap Ack kind))
    by _ kind same = absurd kind

  pub some_before : (Kind : Message → Type 0) (o : End) (cs : List Carried) → Each (IsCarried s says_some) cs → HasKind Kind (before_error (tap_tests s) o (map datagram_in cs)) → HasKind Kind (map datagram_in (before_error pair_tests o cs))
  some_before Kind o cs each any = subst (HasKind Kind) (before_map datagram_in pair_tests (tap_tests s) o cs (datagrams_each s apart cs each)) any

  -- whether a kind stands before an ERROR
  pub decide_before : (Kind : Message → Type 0) → Decides Kind → (o : End) (cs : List Carried) → Each (IsCarried s says_some) cs
      → HasKind Kind (map datagram_in (before_error pair_tests o cs)) ⊎ (HasKind Kind (before_error (tap_tests s) o (map datagram_in cs)) → ⊥)
  decide_before Kind test o cs each = elim (decide_kind Kind test s (before_error pair_tests o cs) (before_each (IsCarried s says_some) pair_tests o cs each)) [
    | inl there ↦ inl there
    | inr never ↦ inr (λ any. never (some_before Kind o cs each any))
  ]

  -- a block of a write follows a reply
  pub block_replied : (c : Carried) (cs : List Carried) → IsCarried s says_some c → Lawful s c cs → asked.side ≡ Put → (k : ℕ) → c.pass.packet ≡ Data k → FirstTapAsked s (map datagram_in cs) asked → Each (IsCarried s says_some) cs → Each (Right s apart asked) cs
      → (b : Carried) × Contains (before_error pair_tests Client cs) b × (b.pass.from ≡ Server) × ((b.pass.packet ≡ Oack) ⊎ (b.pass.packet ≡ Ack 0))
  block_replied c cs is lawful put k packet first each right = elim (decide_before IsReply decide_reply Client cs each) [
    | inr never ↦ absurd (of_block is.spells.0 is.spells.1 (is.spells.2 ∙ ap Some packet) never)
    | inl there ↦
        let found = find_kind IsReply (λ b. IsCarried s says_some b × Right s apart asked b) (before_error pair_tests Client cs)
        (before_each (λ b. IsCarried s says_some b × Right s apart asked b) pair_tests Client cs (each_both (IsCarried s says_some) (Right s apart asked) cs each right)) there in
        let reply = reply_is found.0 found.2.0 put found.2.1 found.3.0 found.3.1 found.3.2 in
        (found.0, found.1, reply.0, reply.1)
  ]
    where
      late_put : (side : Side) → side ≡ Put → (HasKind IsReply (before_error (tap_tests s) Client (map datagram_in cs)) → ⊥) → IsLateBlock s side (map datagram_in cs)
      late_put Put same never = never
      late_put Get same never = absurd (cc)

      of_block : (n : Message) → Spells c.datagram.payload n → packet_in n ≡ Some (Data k) → (HasKind IsReply (before_error (tap_tests s) Client (map datagram_in cs)) → ⊥) → ⊥
      of_block (Message.Data i bytes) t at never = lawful.late (rule.Block EndRule.NotStarted) (record { asked = asked; first = first; message = Message.Data i bytes; says = t; breaks = late_put asked.side put never })
      of_block _ t at never = absurd (cc)

  known_next : (c : Carried) (cs : List Carried) → IsCarried s says_some c → Lawful s c cs → Right s apart asked c → (cs ≡ []) ⊎ FirstTapAsked s (map datagram_in cs) asked → Each (IsCarried s says_some) cs → Each (Right s apart asked) cs
      → is_left_out pair_tests (receiver_of asked.side) c (kept_of pair_tests (receiver_of asked.side) cs) ≡ false → Known c (kept_of pair_tests (receiver_of asked.side) cs)
  known_next c cs is lawful right begins each rights stays = record {
    server = λ from. (λ req. two from (subst (Sends s apart asked.side c.pass.from) req right.sends), kept_asks pair_tests (receiver_of asked.side) cs quiet_request (server_after s apart c cs lawful from each));
    client = λ from other. by asked.side refl c.pass.packet refl from other stays;
  }
    where
      two : c.pass.from ≡ Server → c.pass.from ≡ Client → ⊥
      two one other = let both : Server ≡ Client = sym one ∙ other in absurd (cc)

      nothing : cs ≡ [] → c.pass.from ≡ Client → (c.pass.packet ≡ Req → ⊥) → ⊥
      nothing none from other = true≢false (sym (ap (list_any pair_tests.answers) (sym none) ∙ lawful.answered from other))

      error_out : (p : MachinePacket) → c.pass.from ≡ Client → is_error c.pass.packet ≡ true → is_left_out pair_tests Server c (kept_of pair_tests Server cs) ≡ false → list_any pair_tests.answers (kept_of pair_tests Server cs) ≡ true
      error_out p from error stays = elim (cases_Bool (list_any pair_tests.answers (kept_of pair_tests Server cs))) [
        | inl some ↦ some
        | inr none ↦ absurd (true≢false (sym (out none) ∙ stays))
      ]
        where
          out : list_any pair_tests.answers (kept_of pair_tests Server cs) ≡ false → is_left_out pair_tests Server c (kept_of pair_tests Server cs) ≡ true
          out none = by_asks (is_request c.pass.packet && list_any pair_tests.asks (kept_of pair_tests Server cs)) where
            by_asks : (b : Bool) → is_left_out pair_tests Server c (kept_of pair_tests Server cs) ≡ true
            by_asks b = either (is_request c.pass.packet) refl where
              either : (b : Bool) → is_request c.pass.packet ≡ b → is_left_out pair_tests Server c (kept_of pair_tests Server cs) ≡ true
              either true asks = absurd (apart_kinds c.pass.packet asks error) where
                apart_kinds : (p : MachinePacket) → is_request p ≡ true → is_error p ≡ true → ⊥
                apart_kinds (Error code text) one other = true≢false (sym one)
                apart_kinds _ one other = true≢false (sym other)
              either false asks = rw (from, asks, error, none) refl

      by : (side : Side) → asked.side ≡ side → (p : MachinePacket) → c.pass.packet ≡ p → c.pass.from ≡ Client → (c.pass.packet ≡ Req → ⊥)
          → is_left_out pair_tests (receiver_of asked.side) c (kept_of pair_tests (receiver_of asked.side) cs) ≡ false → list_any pair_tests.answers (kept_of pair_tests (receiver_of asked.side) cs) ≡ true
      by Get side p packet from other stays = subst (λ r. list_any pair_tests.answers (kept_of pair_tests r cs) ≡ true) (sym (ap receiver_of side)) (answers_get cs (lawful.answered from other))
      by Put side Req packet from other stays = absurd (other packet)
      by Put side Oack packet from other stays = absurd (two (subst (Sends s apart asked.side c.pass.from) packet right.sends) from)
      by Put side (Ack j) packet from other stays = absurd (two (subst (Sends s apart asked.side c.pass.from) packet right.sends ∙ ap receiver_of side) from)
      by Put side (Error code text) packet from other stays = subst (λ r. list_any pair_tests.answers (kept_of pair_tests r cs) ≡ true) (sym (ap receiver_of side))
          (error_out (Error code text) from (ap is_error packet) (subst (λ r. is_left_out pair_tests r c (kept_of pair_tests r cs) ≡ false) (ap receiver_of side) stays))
      by Put side (Data k) packet from other stays = elim begins [
        | inl none ↦ absurd (nothing none from other)
        | inr first ↦
            let found = block_replied c cs is lawful side k packet first each rights in
            let plain : is_error found.0.pass.packet ≡ false = elim found.3 [ inl oack ↦ ap is_error oack | inr ack ↦ ap is_error ack ] in
            any_of pair_tests.answers (kept_of pair_tests (receiver_of asked.side) cs) found.0 (reply_kept (receiver_of asked.side) cs found.0 (before_there pair_tests Client cs found.0 found.1) found.2 plain) (ap (same_end Server) found.2)
      ]

  pub known_kept : (cs : List Carried) → Each (IsCarried s says_some) cs → AreLawful s cs → Each (Right s apart asked) cs → (cs ≡ []) ⊎ FirstTapAsked s (map datagram_in cs) asked → AreKnown (kept_of pair_tests (receiver_of asked.side) cs)
  known_kept [] each lawful right begins = tt
  known_kept (c ∷ cs) each lawful right (inl none) = absurd (cc)
  known_kept (c ∷ cs) each lawful right (inr first) =
      let begins = begins_before s apart asked c cs lawful.1 each.1 first in
      let before = known_kept cs each.1 lawful.1 right.1 begins in
      let r = receiver_of asked.side in
      elim (cases_Bool (is_left_out pair_tests r c (kept_of pair_tests r cs))) [
        | inl out ↦ subst AreKnown (sym (kept_out pair_tests r c cs out)) before
        | inr stays ↦ subst AreKnown (sym (kept_in pair_tests r c cs stays)) (known_next c cs each.0 lawful.0 right.0 begins each.1 right.1 stays, before)
      ]

  -- ---- and breaks no rule at the receiver

  read_on : (p : MachinePacket) (d : Datagram) (n : Message) → Spells d.payload n → IsRead (packet_route p) d
  read_on Req d n t = (n, t)
  read_on _ d n t = (n, t)

  of_packet : (p : MachinePacket) → is_of_transfer (packet_route p) ≡ true
  of_packet Req = refl
  of_packet _ = refl

  ended_next : (c : Carried) (cs : List Carried) → IsCarried s says_some c → Lawful s c cs → Right s apart asked c → (cs ≡ []) ⊎ FirstTapAsked s (map datagram_in cs) asked
      → Each (IsCarried s says_some) cs → Each (IsCarried s says_some) (kept_of pair_tests (receiver_of asked.side) cs) → AreKnown (c ∷ kept_of pair_tests (receiver_of asked.side) cs)
      → is_left_out pair_tests (receiver_of asked.side) c (kept_of pair_tests (receiver_of asked.side) cs) ≡ false
      → Passes (header_at s asked.side) (map (recorded_at s (receiver_of asked.side)) (map datagram_in (kept_of pair_tests (receiver_of asked.side) cs))) (recorded_at s (receiver_of asked.side) c.datagram)
  ended_next c cs is lawful right begins each kept known stays = record {
    read = subst (λ x. IsRead x (recorded_at s (receiver_of asked.side) c.datagram)) (sym route) (read_on c.pass.packet (recorded_at s (receiver_of asked.side) c.datagram) is.spells.0 says);
    lawful = elim begins [ inr first ↦ later first | inl none ↦ alone none ];
  }
    where
      says : Spells (recorded_at s (receiver_of asked.side) c.datagram).payload is.spells.0
      says = subst (λ l. Spells l is.spells.0) (sym (recorded_payload s (receiver_of asked.side) c.datagram)) is.spells.1

      route : route_of (header_at s asked.side) (map (recorded_at s (receiver_of asked.side)) (map datagram_in (kept_of pair_tests (receiver_of asked.side) cs))) (recorded_at s (receiver_of asked.side) c.datagram) ≡ packet_route c.pass.packet
      route =
          let r = receiver_of asked.side in
          let ks = kept_of pair_tests r cs in
          subst (λ l. route_of (header_at s asked.side) l (recorded_at s r c.datagram) ≡ packet_route c.pass.packet) (placed_datagrams s r ks)
          ((placed_routes s apart says_some told_some r (c ∷ ks) (is, kept) known).0 ∙ ap packet_route (deed_packet r c.pass.from c.pass.packet))

      later : FirstTapAsked s (map datagram_in cs) asked → (broken : Rule)
          → Broken (header_at s asked.side) (map (recorded_at s (receiver_of asked.side)) (map datagram_in (kept_of pair_tests (receiver_of asked.side) cs))) (recorded_at s (receiver_of asked.side) c.datagram) broken → ⊥
      later first broken b =
          let r = receiver_of asked.side in
          let ks = kept_of pair_tests r cs in
          let agree = datagrams_each s apart cs each in
          let same : kept_of (tap_tests s) r (map datagram_in cs) ≡ map datagram_in ks = kept_map datagram_in pair_tests (tap_tests s) r cs agree in
          let out : is_left_out (tap_tests s) r c.datagram (map datagram_in ks) ≡ is_left_out pair_tests r c ks
          = out_same datagram_in pair_tests (tap_tests s) r c ks (datagrams_each s apart (c ∷ []) (is, tt)).0 (kept_each (Agrees datagram_in pair_tests (tap_tests s)) pair_tests r cs agree) in
          elim (cases_Bool (is_of_ports broken)) [
            | inl ports ↦ true≢false (sym (ap is_of_transfer route ∙ of_packet c.pass.packet) ∙ ports_off (header_at s asked.side) (map (recorded_at s r) (map datagram_in ks)) (recorded_at s r c.datagram) broken ports b)
            | inr content ↦ lawful.kept broken (record {
              of_content = content;
              asked = asked;
              first = first;
              stays = subst (λ l. is_left_out (tap_tests s) r c.datagram l ≡ false) (sym same) (out ∙ stays);
              breaks = subst (λ l. Broken (header_at s asked.side) (map (recorded_at s r) l) (recorded_at s r c.datagram) broken) (sym same) b;
            })
          ]

      request : cs ≡ [] → c.pass.packet ≡ Req
      request none = elim (is_req_or s apart c.pass.packet) [ inl req ↦ req | inr other ↦ absurd (not_first c.pass.from refl other) ] where
        not_first : (f : End) → c.pass.from ≡ f → (c.pass.packet ≡ Req → ⊥) → ⊥
        not_first Client from other = true≢false (sym (ap (list_any pair_tests.answers) (sym none) ∙ lawful.answered from other))
        not_first Server from other = true≢false (sym (ap (list_any pair_tests.asks) (sym none) ∙ server_after s apart c cs lawful from each))

      alone : cs ≡ [] → (broken : Rule)
          → Broken (header_at s asked.side) (map (recorded_at s (receiver_of asked.side)) (map datagram_in (kept_of pair_tests (receiver_of asked.side) cs))) (recorded_at s (receiver_of asked.side) c.datagram) broken → ⊥
      alone none broken b =
          let r = receiver_of asked.side in
          let at : route_of (header_at s asked.side) [] (recorded_at s r c.datagram) ≡ Route.Request
          = subst (λ l. route_of (header_at s asked.side) (map (recorded_at s r) (map datagram_in (kept_of pair_tests r l))) (recorded_at s r c.datagram) ≡ Route.Request) none (route ∙ ap packet_route (request none)) in
          first_breaks_none (header_at s asked.side) (recorded_at s r c.datagram) is.spells.0 at says broken
          (subst (λ l. Broken (header_at s asked.side) (map (recorded_at s r) (map datagram_in (kept_of pair_tests r l))) (recorded_at s r c.datagram) broken) none b)

  pub ended_kept : (cs : List Carried) → Each (IsCarried s says_some) cs → AreLawful s cs → Each (Right s apart asked) cs → (cs ≡ []) ⊎ FirstTapAsked s (map datagram_in cs) asked
      → OneEnded (header_at s asked.side) (map (recorded_at s (receiver_of asked.side)) (map datagram_in (kept_of pair_tests (receiver_of asked.side) cs)))
  ended_kept [] each lawful right begins = tt
  ended_kept (c ∷ cs) each lawful right (inl none) = absurd (cc)
  ended_kept (c ∷ cs) each lawful right (inr first) =
      let begins = begins_before s apart asked c cs lawful.1 each.1 first in
      let before = ended_kept cs each.1 lawful.1 right.1 begins in
      let r = receiver_of asked.side in
      elim (cases_Bool (is_left_out pair_tests r c (kept_of pair_tests r cs))) [
        | inl out ↦ subst (λ l. OneEnded (header_at s asked.side) (map (recorded_at s r) (map datagram_in l))) (sym (kept_out pair_tests r c cs out)) before
        | inr stays ↦ subst (λ l. OneEnded (header_at s asked.side) (map (recorded_at s r) (map datagram_in l))) (sym (kept_in pair_tests r c cs stays)) (
          ended_next c cs each.0 lawful.0 right.0 begins each.1 (kept_each (IsCarried s says_some) pair_tests r cs each.1)
              (known_next c cs each.0 lawful.0 right.0 begins each.1 right.1 stays, known_kept cs each.1 lawful.1 right.1 begins) stays,
          before,
        )
      ]
