-- What a run shows between its ends breaks no rule there.
use Rattle.std.proofs.Common.{◌≡◌, ℕ, zero, suc, true, false, List, [], ◌∷◌, Any, Contains, inl, inr, refl, sym, subst, ap, ◌∙◌, arith, not, map}
use Rattle.std.specs.List.{list_any}
use Rattle.std.proofs.lemmas.Bool.{true≢false, cases_Bool}
use Rattle.tftp_packet.specs.{Message, RequestParts, Spells, Side, Get, Put, End, Client, Server, no_options}
use Rattle.tftp_packet.proofs.NoFault.{no_fault}
use Rattle.law_model.specs.Model.{Meaning, request_of, MachinePacket, Req, Oack, Data, Ack, Error, HasSent, message_of, is_error, heard, LetsStartOn, LetsAckZeroOn, IsOneSided}
use Rattle.law_model.specs.Model.Machines.{other_end, sender_of, receiver_of}
use Rattle.law_model.proofs.ModelLemmas.Members.{contains_first, contains_later}
use Rattle.law_model.specs.{EndRule, PortRule}
use Rattle.law_end.specs.{Fits, says_of, view_in, says_some, OneEnded, IsWrongKind, Broken, Rule}
use Rattle.law_end.specs.declared.rule.Rule.TheVariants as rule
use Rattle.law_end.proofs.Spelled.{spelled_once}
use Rattle.law_end.proofs.Division.Divided.{any_none, any_cases}
use Rattle.law_end.proofs.Division.Routed.{told_of}
use Rattle.law_end.proofs.Completeness.RunsPass.{ruled}
use Rattle.law_tap.specs.{Pass, as_at, MayPass, MayPassEach, TapDatagram, TapSides, side_of, AreApart, is_left_out, kept_of, before_error, pass_tests, kept_at, IsAnsweredInTime, IsInTime, TapLabel, Main, TapLabelled, TapDivision, tapped_of, passed_of, IsSeenBetween, HasTapLabel, HaveTapLabels, tap_tests, tap_route, is_passing, transfer_between, recorded_at, header_at, kept_between, FirstTapAsked, Says, HasKind, IsBlock, IsSomeBlock, IsOack, IsReply, SidesBreak, OtherError, IsLateAck, IsLateZero, IsLateBlock, LateBreaks, LateBroken, PassingBreaks, KeptBreaks, IsTapRead, TapPasses, BreaksNoTapRule, TapRoute}
use Rattle.law_tap.specs.TapDress.{Stray, StrayAnswer}
use Rattle.law_tap.proofs.Replays.{tap_view_is}
use Rattle.law_tap.proofs.Passed.{sent_passed, at_took}
use Rattle.law_tap.proofs.OneTap.{Has, begun}
use Rattle.law_tap.proofs.Ordered.{ack_asked, client_reads}
use Rattle.law_tap.proofs.OneTapDivision.{labels_some, some_of}
use Rattle.law_tap.proofs.KeptOf.{any_of, before_there, kept_out, kept_in}
use Rattle.law_tap.proofs.TapKept.{sent_before, kept_may, kept_one_sided}
use Rattle.law_tap.proofs.TapBack.{in_time}
use Rattle.law_tap.proofs.TapRouted.{Carried, mains, pass_route, route_is, transfer_is}
use Rattle.law_tap.proofs.TapRecorded.{Agrees, Each, kept_each, asks_same, answers_same, kept_map, out_same, IsCarried, carried_is, mains_carried, pair_tests, datagram_in, pass_in, passes_each, passed_is, datagrams_each, Known, AreKnown, header_of_end, placed, placed_datagrams, placed_view, placed_starts, placed_routes}
use Rattle.law_tap.proofs.TapBefore.{before_map, before_each, some_each, kind_there, asked_of, first_asked_is}

-- a route of which no rule of sides is broken
sides_none : (d : TapDatagram) (route : TapRoute) → (route ≡ TapRoute.ForeignPort → ⊥) → (route ≡ TapRoute.WrongPort → ⊥) → (route ≡ TapRoute.NoStrayAnswer → ⊥) → (route ≡ TapRoute.StrayAnswer → ⊥) → (broken : Rule) → SidesBreak route d broken → ⊥
sides_none d route one two three four (rule.Port PortRule.Foreign) b = one b
sides_none d route one two three four (rule.Port PortRule.Wrong) b = two b
sides_none d route one two three four (rule.Port PortRule.BadAnswer) b = elim b [ inl bad ↦ three bad | inr not ↦ four not.0 ]
sides_none d route one two three four broken b = absurd b

-- ---- what passes is known

module _ (m : Meaning) (wire : List ℕ) (l : List Pass) (each : MayPassEach m wire l) where
  heard_has : (e : End) (p : MachinePacket) → HasSent (heard (as_at e l)) p → Has l e p
  heard_has e p at = before_there pass_tests (other_end e) l _ (sent_before e l p at)

  block_asked : (k : ℕ) (side : Side) → m.side ≡ side → sender_of side ≡ Client → Has l Client (Data k) → Has l Client Req
  block_asked k side is client at = (begun m wire l each k (subst (λ e. Has l e (Data k)) (sym client ∙ sym (ap sender_of is)) at)).0

  client_sends : (side : Side) → Client ≡ sender_of side → side ≡ Put
  client_sends Put is = refl
  client_sends Get is = absurd (cc)

  server_sends : (side : Side) → Server ≡ sender_of side → side ≡ Get
  server_sends Get is = refl
  server_sends Put is = absurd (cc)

  server_takes : (side : Side) → Server ≡ receiver_of side → side ≡ Put
  server_takes Put is = refl
  server_takes Get is = absurd (cc)

  -- what the server sends follows the request
  pub server_asked : (p : MachinePacket) → MayPass m wire l Server p → (p ≡ Req → ⊥) × Has l Client Req
  server_asked Req may = absurd (cc)
  server_asked Oack may = (λ is. cc, sent_passed Client Req l may.asked)
  server_asked (Error code text) may = (λ is. cc, sent_passed Client Req l (may.asked refl))
  server_asked (Data k) may =
      let get = client_reads m.side may.receiver in (
        λ is. cc,
        elim (subst (λ side. LetsStartOn side m (heard (as_at Client l))) get may.started) [
          | inl plain ↦ heard_has Client Req plain.1
          | inr oacked ↦ ack_asked m wire l each get 0 (heard_has Client (Ack 0) oacked.1)
        ],
      )
  server_asked (Ack zero) may =
      let put = client_sends m.side may.sender in (
        λ is. cc,
        elim (subst (λ side. LetsAckZeroOn side m (heard (as_at Client l))) put (may.zero refl)) [
          | inl plain ↦ heard_has Client Req plain.1
          | inr oacked ↦ block_asked oacked.1 m.side refl (sym may.sender) (heard_has Client (Data oacked.1) oacked.2)
        ],
      )
  server_asked (Ack (suc j)) may = (λ is. cc, block_asked 1 m.side refl (sym may.sender) (heard_has Client (Data 1) (may.sent 1 (omega arith) (omega arith))))

  from_server : (p : MachinePacket) → Has l Server p → list_any pass_tests.answers l ≡ true
  from_server p at = any_of pass_tests.answers l (record { from = Server; packet = p }) at refl

  -- what the client sends after its request follows an answer
  pub client_answered : (p : MachinePacket) → (p ≡ Req → ⊥) → is_error p ≡ false → MayPass m wire l Client p → list_any pass_tests.answers l ≡ true
  client_answered Req other plain may = absurd (other refl)
  client_answered Oack other plain may = absurd (let is = may.client in cc)
  client_answered (Error code text) other plain may = absurd (true≢false plain)
  client_answered (Data k) other plain may = elim (subst (λ side. LetsStartOn side m (heard (as_at Server l))) (server_takes m.side may.receiver) may.started) [
    | inl ack ↦ from_server (Ack 0) (heard_has Server (Ack 0) ack.1)
    | inr oacked ↦ from_server Oack (heard_has Server Oack oacked.1)
  ]
  client_answered (Ack zero) other plain may = from_server Oack (heard_has Server Oack (subst (λ side. LetsAckZeroOn side m (heard (as_at Server l))) (server_sends m.side may.sender) (may.zero refl)).1)
  client_answered (Ack (suc j)) other plain may = from_server (Data 1) (heard_has Server (Data 1) (may.sent 1 (omega arith) (omega arith)))

-- ---- what is kept of a run is known, and breaks no rule at the receiver

module _ (s : TapSides) (apart : AreApart s) (m : Meaning) (wire : List ℕ) (fits : Fits s.rollover m wire) where
  known_next : (r : End) (c : Carried) (ks : List Carried) → MayPassEach m wire (map pass_in ks) → MayPass m wire (map pass_in ks) c.pass.from c.pass.packet → is_left_out pair_tests r c ks ≡ false → Known c ks
  known_next r c ks each may stays = by c.pass.from c.pass.packet may stays where
    asked : Has (map pass_in ks) Client Req → list_any pair_tests.asks ks ≡ true
    asked at = sym (asks_same pass_in pair_tests pass_tests ks (passes_each ks)) ∙ any_of pass_tests.asks (map pass_in ks) (record { from = Client; packet = Req }) at refl

    answered : list_any pass_tests.answers (map pass_in ks) ≡ true → list_any pair_tests.answers ks ≡ true
    answered is = sym (answers_same pass_in pair_tests pass_tests ks (passes_each ks)) ∙ is

    error_known : (r : End) (code : ℕ) (text : List ℕ) → is_left_out pair_tests r (record { datagram = c.datagram; pass = record { from = Client; packet = Error code text } }) ks ≡ false → list_any pair_tests.answers ks ≡ true
    error_known r code text stays = elim (cases_Bool (list_any pair_tests.answers ks)) [ inl is ↦ is | inr none ↦ absurd (true≢false (sym (out r none) ∙ stays)) ] where
      out : (r : End) → list_any pair_tests.answers ks ≡ false → is_left_out pair_tests r (record { datagram = c.datagram; pass = record { from = Client; packet = Error code text } }) ks ≡ true
      out Client none = refl
      out Server none = rw (none) refl

    by : (f : End) (p : MachinePacket) → MayPass m wire (map pass_in ks) f p → is_left_out pair_tests r (record { datagram = c.datagram; pass = record { from = f; packet = p } }) ks ≡ false
        → Known (record { datagram = c.datagram; pass = record { from = f; packet = p } }) ks
    by Server p may stays = record { server = λ same. let a = server_asked m wire (map pass_in ks) each p may in (a.0, asked a.1); client = λ same. absurd (cc) }
    by Client Req may stays = record { server = λ same. absurd (cc); client = λ same other. absurd (other refl) }
    by Client Oack may stays = record { server = λ same. absurd (cc); client = λ same other. answered (client_answered m wire (map pass_in ks) each Oack other refl may) }
    by Client (Data k) may stays = record { server = λ same. absurd (cc); client = λ same other. answered (client_answered m wire (map pass_in ks) each (Data k) other refl may) }
    by Client (Ack j) may stays = record { server = λ same. absurd (cc); client = λ same other. answered (client_answered m wire (map pass_in ks) each (Ack j) other refl may) }
    by Client (Error code text) may stays = record { server = λ same. absurd (cc); client = λ same other. error_known r code text stays }

  kept_passes : (r : End) (cs : List Carried) → kept_at r (map pass_in cs) ≡ map pass_in (kept_of pair_tests r cs)
  kept_passes r cs = kept_map pass_in pair_tests pass_tests r cs (passes_each cs)

  pub kept_known : (r : End) (cs : List Carried) → MayPassEach m wire (map pass_in cs) → AreKnown (kept_of pair_tests r cs)
  kept_known r [] may = tt
  kept_known r (c ∷ cs) may = elim (cases_Bool (is_left_out pair_tests r c (kept_of pair_tests r cs))) [
    | inl out ↦ subst AreKnown (sym (kept_out pair_tests r c cs out)) (kept_known r cs may.1)
    | inr stays ↦
        let all : MayPassEach m wire (map pass_in (c ∷ kept_of pair_tests r cs))
        = subst (λ l. MayPassEach m wire (map pass_in l)) (kept_in pair_tests r c cs stays) (subst (MayPassEach m wire) (kept_passes r (c ∷ cs)) (kept_may m wire r (map pass_in (c ∷ cs)) may)) in
        subst AreKnown (sym (kept_in pair_tests r c cs stays)) (known_next r c (kept_of pair_tests r cs) all.1 all.0 stays, kept_known r cs may.1)
  ]

  kept_ended : (cs : List Carried) → Each (IsCarried s (says_of m wire)) cs → MayPassEach m wire (map pass_in cs)
      → OneEnded (header_of_end s (receiver_of m.side)) (map (recorded_at s (receiver_of m.side)) (map datagram_in (kept_of pair_tests (receiver_of m.side) cs)))
  kept_ended cs each may =
      let r = receiver_of m.side in
      let ks = kept_of pair_tests r cs in
      let known = kept_known r cs may in
      let carried = kept_each (IsCarried s (says_of m wire)) pair_tests r cs each in
      let own : IsOneSided m wire r (view_in (placed s r ks)) = subst (IsOneSided m wire r) (ap (as_at r) (kept_passes r cs) ∙ sym (placed_view s r ks)) (kept_one_sided m wire (map pass_in cs) may) in
      subst (OneEnded (header_of_end s r)) (placed_datagrams s r ks)
      (ruled (header_of_end s r) m wire fits (placed s r ks) (placed_routes s apart (says_of m wire) (told_of m wire) r ks carried known) own (placed_starts s apart r ks known))

  -- ---- one datagram

  module _ (cs : List Carried) (each : Each (IsCarried s (says_of m wire)) cs) (may : MayPassEach m wire (map pass_in cs)) (c : Carried) (is : IsCarried s (says_of m wire) c) (allowed : MayPass m wire (map pass_in cs) c.pass.from c.pass.packet) where
    says_message : (n : Message) → Spells c.datagram.payload n → n ≡ message_of m wire c.pass.packet
    says_message n t = spelled_once c.datagram.payload n (message_of m wire c.pass.packet) t is.spells

    side_is : (asked : RequestParts) → FirstTapAsked s (map datagram_in cs) asked → asked.side ≡ m.side
    side_is asked first = ap (λ (q : RequestParts). q.side) (first_asked_is s m wire cs each asked first)

    some_cs : Each (IsCarried s says_some) cs
    some_cs = some_each s m wire cs each

    agree : Each (Agrees datagram_in pair_tests (tap_tests s)) cs
    agree = datagrams_each s apart cs some_cs

    end_is : (e : End) → c.datagram.source ≡ side_of s e → e ≡ c.pass.from
    end_is e source = by e c.pass.from (sym source ∙ is.source) where
      by : (e f : End) → side_of s e ≡ side_of s f → e ≡ f
      by Client Server same = absurd (apart.server same)
      by Server Client same = absurd (apart.server (sym same))
      by _ _ same = refl

    no_request : list_any (tap_tests s).asks (map datagram_in cs) ≡ false → pass_route c.pass.from c.pass.packet ≡ TapRoute.FromServer → ⊥
    no_request none at = by c.pass.from c.pass.packet allowed at where
      by : (f : End) (p : MachinePacket) → MayPass m wire (map pass_in cs) f p → pass_route f p ≡ TapRoute.FromServer → ⊥
      by Client Req allowed at = cc
      by Client _ allowed at = cc
      by Server p allowed at =
          let asked = any_of pass_tests.asks (map pass_in cs) (record { from = Client; packet = Req }) (server_asked m wire (map pass_in cs) may p allowed).1 refl in
          true≢false (sym asked ∙ asks_same pass_in pair_tests pass_tests cs (passes_each cs) ∙ sym (asks_same datagram_in pair_tests (tap_tests s) cs agree) ∙ none)

    right_kind : (e : End) (p : MachinePacket) → MayPass m wire (map pass_in cs) e p → IsWrongKind e m.side (message_of m wire p) → ⊥
    right_kind Client Req allowed wrong = by m.side wrong where
      by : (side : Side) → IsWrongKind Client side (Message.Request (request_of m)) → ⊥
      by Get wrong = wrong
      by Put wrong = wrong
    right_kind Server Req allowed wrong = cc
    right_kind Client Oack allowed wrong = let same = allowed.client in cc
    right_kind Server Oack allowed wrong = by m.side wrong where
      by : (side : Side) → IsWrongKind Server side (Message.Oack m.agreed) → ⊥
      by Get wrong = wrong
      by Put wrong = wrong
    right_kind Client (Data k) allowed wrong = by m.side allowed.receiver wrong where
      by : (side : Side) → Server ≡ receiver_of side → IsWrongKind Client side (message_of m wire (Data k)) → ⊥
      by Get same wrong = cc
      by Put same wrong = wrong
    right_kind Server (Data k) allowed wrong = by m.side allowed.receiver wrong where
      by : (side : Side) → Client ≡ receiver_of side → IsWrongKind Server side (message_of m wire (Data k)) → ⊥
      by Get same wrong = wrong
      by Put same wrong = cc
    right_kind Client (Ack j) allowed wrong = by m.side allowed.sender wrong where
      by : (side : Side) → Server ≡ sender_of side → IsWrongKind Client side (Message.Ack j) → ⊥
      by Get same wrong = wrong
      by Put same wrong = cc
    right_kind Server (Ack j) allowed wrong = by m.side allowed.sender wrong where
      by : (side : Side) → Client ≡ sender_of side → IsWrongKind Server side (Message.Ack j) → ⊥
      by Get same wrong = cc
      by Put same wrong = wrong
    right_kind Client (Error code text) allowed wrong = by m.side wrong where
      by : (side : Side) → IsWrongKind Client side (Message.Error code text) → ⊥
      by Get wrong = wrong
      by Put wrong = wrong
    right_kind Server (Error code text) allowed wrong = by m.side wrong where
      by : (side : Side) → IsWrongKind Server side (Message.Error code text) → ⊥
      by Get wrong = wrong
      by Put wrong = wrong

    -- an ERROR that is spelled is the packet
    error_of : (payload : List ℕ) (p : MachinePacket) (code : ℕ) (text : List ℕ) → Spells payload (message_of m wire p) → Spells payload (Message.Error code text) → p ≡ Error code text
    error_of payload Req code text t u = let same = spelled_once payload (Message.Request (request_of m)) (Message.Error code text) t u in absurd (cc)
    error_of payload Oack code text t u = let same = spelled_once payload (Message.Oack m.agreed) (Message.Error code text) t u in absurd (cc)
    error_of payload (Data k) code text t u = let same = spelled_once payload (message_of m wire (Data k)) (Message.Error code text) t u in absurd (cc)
    error_of payload (Ack j) code text t u = let same = spelled_once payload (Message.Ack j) (Message.Error code text) t u in absurd (cc)
    error_of payload (Error c w) code text t u = let same = spelled_once payload (Message.Error c w) (Message.Error code text) t u in cc

    same_error : OtherError s (map datagram_in cs) c.datagram → ⊥
    same_error o = there (any_pass cs each o.before) where
      first : MachinePacket
      first = Error o.first_code o.first_text

      any_pass : (cs : List Carried) → Each (IsCarried s (says_of m wire)) cs → Any (λ x. (x.source ≡ side_of s o.end) × Spells x.payload (Message.Error o.first_code o.first_text)) (map datagram_in cs)
          → Has (map pass_in cs) o.end (Error o.first_code o.first_text)
      any_pass [] each any = absurd (any_none (λ (x : TapDatagram). (x.source ≡ side_of s o.end) × Spells x.payload (Message.Error o.first_code o.first_text)) any)
      any_pass (b ∷ cs) each any = elim (any_cases (λ (x : TapDatagram). (x.source ≡ side_of s o.end) × Spells x.payload (Message.Error o.first_code o.first_text)) b.datagram (map datagram_in cs) any) [
        | inr before ↦ contains_later b.pass (map pass_in cs) _ (any_pass cs each.1 before)
        | inl now ↦
            let packet = error_of b.datagram.payload b.pass.packet o.first_code o.first_text each.0.spells now.1 in
            let from = same_side o.end b.pass.from (sym now.0 ∙ each.0.source) in
            subst (Contains (b.pass ∷ map pass_in cs)) (whole b.pass o.end (Error o.first_code o.first_text) (sym from) packet) (contains_first b.pass (map pass_in cs))
      ]
        where
          same_side : (e f : End) → side_of s e ≡ side_of s f → e ≡ f
          same_side Client Server same = absurd (apart.server same)
          same_side Server Client same = absurd (apart.server (sym same))
          same_side _ _ same = refl

          whole : (x : Pass) (f : End) (p : MachinePacket) → x.from ≡ f → x.packet ≡ p → x ≡ record { from = f; packet = p }
          whole x f p one other = λ i. record { from = one i; packet = other i }

      there : Has (map pass_in cs) o.end (Error o.first_code o.first_text) → ⊥
      there at =
          let end = end_is o.end o.source in
          let packet = error_of c.datagram.payload c.pass.packet o.code o.text is.spells o.says in
          let now : MayPass m wire (map pass_in cs) c.pass.from (Error o.code o.text) = subst (MayPass m wire (map pass_in cs) c.pass.from) packet allowed in
          let equal = now.same o.first_code o.first_text (at_took (other_end c.pass.from) (Error o.first_code o.first_text) (map pass_in cs) (subst (λ f. Has (map pass_in cs) f (Error o.first_code o.first_text)) (end ∙ sym (back c.pass.from)) at)) in
          o.differs (sym equal.0, sym equal.1)
        where
          back : (e : End) → other_end (other_end e) ≡ e
          back Client = refl
          back Server = refl

    -- what had passed before an ERROR is spelled before it
    before_kind : (Kind : Message → Type 0) (o e : End) (p : MachinePacket) → Has (before_error pass_tests o (map pass_in cs)) e p → Kind (message_of m wire p) → HasKind Kind (before_error (tap_tests s) o (map datagram_in cs))
    before_kind Kind o e p at kind =
        let bs = before_error pair_tests o cs in
        subst (HasKind Kind) (sym (before_map datagram_in pair_tests (tap_tests s) o cs agree))
        (kind_there Kind s m wire bs (before_each (IsCarried s (says_of m wire)) pair_tests o cs each) e p (subst (λ l. Has l e p) (before_map pass_in pair_tests pass_tests o cs (passes_each cs)) at) kind)

    late_block : (side : Side) → IsAnsweredInTime side (map pass_in cs) → IsLateBlock s side (map datagram_in cs) → ⊥
    late_block Get time late = late
    late_block Put time late = elim time [
      | inl oack ↦ late (before_kind IsReply Client Server Oack oack tt)
      | inr ack ↦ late (before_kind IsReply Client Server (Ack 0) ack refl)
    ]

    oack_some : HasKind IsOack (map datagram_in cs) → m.agreed ≡ no_options → ⊥
    oack_some any none = by cs each may any where
      by : (cs : List Carried) → Each (IsCarried s (says_of m wire)) cs → MayPassEach m wire (map pass_in cs) → HasKind IsOack (map datagram_in cs) → ⊥
      by [] each may any = any_none (Says IsOack) any
      by (b ∷ cs) each may any = elim (any_cases (Says IsOack) b.datagram (map datagram_in cs) any) [
        | inr before ↦ by cs each.1 may.1 before
        | inl (n, t, kind) ↦ oack b.pass.packet n (spelled_once b.datagram.payload n (message_of m wire b.pass.packet) t each.0.spells) kind may.0
      ]
        where
          oack : (p : MachinePacket) (n : Message) → n ≡ message_of m wire p → IsOack n → MayPass m wire (map pass_in cs) b.pass.from p → ⊥
          oack Oack n same kind allowed = allowed.agreed none
          oack _ n same kind allowed = subst IsOack same kind

    late_ack : (j : ℕ) → MayPass m wire (map pass_in cs) c.pass.from (Ack j) → IsLateAck s m.side (map datagram_in cs) j → ⊥
    late_ack j may_ack (k, low, high, none) = none (before_kind (IsBlock k) (receiver_of m.side) (other_end c.pass.from) (Data k) there refl) where
      receives : (f : End) (side : Side) → other_end f ≡ sender_of side → other_end (other_end f) ≡ receiver_of side
      receives Client Put same = absurd (cc)
      receives Server Get same = absurd (cc)
      receives _ _ same = refl

      there : Has (before_error pass_tests (receiver_of m.side) (map pass_in cs)) (other_end c.pass.from) (Data k)
      there = subst (λ o. Has (before_error pass_tests o (map pass_in cs)) (other_end c.pass.from) (Data k)) (receives c.pass.from m.side may_ack.sender)
          (sent_before (other_end c.pass.from) (map pass_in cs) (Data k) (may_ack.sent k low high))

    late_zero : MayPass m wire (map pass_in cs) c.pass.from (Ack 0) → IsLateZero s m.side (map datagram_in cs) → ⊥
    late_zero may_ack late = by m.side may_ack.sender (may_ack.zero refl) late where
      side_read : (f : End) → other_end f ≡ Server → other_end (other_end f) ≡ Client
      side_read f same = ap other_end same

      by : (side : Side) → other_end c.pass.from ≡ sender_of side → LetsAckZeroOn side m (heard (as_at (other_end c.pass.from) (map pass_in cs))) → IsLateZero s side (map datagram_in cs) → ⊥
      by Get same zeros late = late (before_kind IsOack Client (other_end c.pass.from) Oack
          (subst (λ o. Has (before_error pass_tests o (map pass_in cs)) (other_end c.pass.from) Oack) (ap other_end same) (sent_before (other_end c.pass.from) (map pass_in cs) Oack zeros.1)) tt)
      by Put same zeros late = elim zeros [
        | inl plain ↦ oack_some late.0 plain.0
        | inr oacked ↦ late.1 (before_kind IsSomeBlock Server (other_end c.pass.from) (Data oacked.1)
            (subst (λ o. Has (before_error pass_tests o (map pass_in cs)) (other_end c.pass.from) (Data oacked.1)) (ap other_end same) (sent_before (other_end c.pass.from) (map pass_in cs) (Data oacked.1) oacked.2)) tt)
      ]

    late_breaks : (p : MachinePacket) (broken : Rule) → c.pass.packet ≡ p → LateBreaks s m.side (map datagram_in cs) (message_of m wire p) broken → ⊥
    late_breaks (Data k) (rule.Block EndRule.NotStarted) same late = late_block m.side (subst (λ q. IsInTime m wire (map pass_in cs) c.pass.from q) same (in_time m wire c.pass.from c.pass.packet (map pass_in cs) allowed)) late
    late_breaks (Ack j) (rule.Block EndRule.AckAhead) same late = late_ack j (subst (MayPass m wire (map pass_in cs) c.pass.from) same allowed) late
    late_breaks (Ack j) (rule.Block EndRule.AckZero) same late = late_zero (subst (λ q. MayPass m wire (map pass_in cs) c.pass.from (Ack q)) late.0 (subst (MayPass m wire (map pass_in cs) c.pass.from) same allowed)) late.1
    late_breaks p broken same late = absurd late

    late_broken : (broken : Rule) → LateBroken s (map datagram_in cs) c.datagram broken → ⊥
    late_broken broken l = late_breaks c.pass.packet broken refl (subst (λ n. LateBreaks s m.side (map datagram_in cs) n broken) (says_message l.message l.says) (subst (λ side. LateBreaks s side (map datagram_in cs) l.message broken) (side_is l.asked l.first) l.breaks))

    kept_breaks : (broken : Rule) → KeptBreaks s (map datagram_in cs) c.datagram broken → ⊥
    kept_breaks broken k =
        let r = receiver_of m.side in
        let ks = kept_of pair_tests r cs in
        let side = side_is k.asked k.first in
        let same : kept_of (tap_tests s) r (map datagram_in cs) ≡ map datagram_in ks = kept_map datagram_in pair_tests (tap_tests s) r cs agree in
        let mine = datagrams_each s apart (c ∷ []) (record { source = is.source; goes = is.goes; spells = some_of m wire c.pass.packet c.datagram.payload is.spells }, tt) in
        let stays_there : is_left_out (tap_tests s) r c.datagram (map datagram_in ks) ≡ false
        = subst (λ l. is_left_out (tap_tests s) r c.datagram l ≡ false) same (subst (λ x. is_left_out (tap_tests s) (receiver_of x) c.datagram (kept_of (tap_tests s) (receiver_of x) (map datagram_in cs)) ≡ false) side k.stays) in
        let stays : is_left_out pair_tests r c ks ≡ false
        = sym (out_same datagram_in pair_tests (tap_tests s) r c ks mine.0 (kept_each (Agrees datagram_in pair_tests (tap_tests s)) pair_tests r cs agree)) ∙ stays_there in
        let ended = subst (λ l. OneEnded (header_of_end s r) (map (recorded_at s r) (map datagram_in l))) (kept_in pair_tests r c cs stays) (kept_ended (c ∷ cs) (is, each) (allowed, may)) in
        let breaks : Broken (header_of_end s r) (map (recorded_at s r) (map datagram_in ks)) (recorded_at s r c.datagram) broken
        = subst (λ l. Broken (header_of_end s r) (map (recorded_at s r) l) (recorded_at s r c.datagram) broken) same
        (subst (λ x. Broken (header_at s x) (kept_between s x (map datagram_in cs)) (recorded_at s (receiver_of x) c.datagram) broken) side k.breaks) in
        ended.0.lawful broken breaks

    passing_breaks : (broken : Rule) → PassingBreaks s (map datagram_in cs) (pass_route c.pass.from c.pass.packet) c.datagram broken → ⊥
    passing_breaks rule.NoRequest b = no_request b.0 b.1
    passing_breaks (rule.Malformed fault) b = no_fault c.datagram.payload (message_of m wire c.pass.packet) fault is.spells.1 b.0
    passing_breaks rule.WrongKind (asked, first, e, source, (n, t, wrong)) =
        right_kind c.pass.from c.pass.packet allowed (subst (λ f. IsWrongKind f m.side (message_of m wire c.pass.packet)) (end_is e source)
        (subst (λ q. IsWrongKind e m.side q) (says_message n t) (subst (λ x. IsWrongKind e x n) (side_is asked first) wrong)))
    passing_breaks rule.AfterError b = same_error b
    passing_breaks rule.RequestChanged (first, now, asked, source, t, differs) = differs ((asked_of m wire c.datagram.payload c.pass.packet now is.spells t).1 ∙ sym (first_asked_is s m wire cs each first asked))
    passing_breaks broken b = absurd b

    passed_route : (e : End) (p : MachinePacket) (d : TapDatagram) → (n : Message) → Spells d.payload n → IsTapRead (pass_route e p) d
    passed_route Client Req d n t = (n, t)
    passed_route _ _ d n t = (n, t)

    none_broken : (route : TapRoute) (broken : Rule) → (route ≡ TapRoute.ForeignPort → ⊥) → (route ≡ TapRoute.WrongPort → ⊥) → (route ≡ TapRoute.NoStrayAnswer → ⊥) → (route ≡ TapRoute.StrayAnswer → ⊥) → SidesBreak route c.datagram broken → ⊥
    none_broken route broken one two three four b = sides_none c.datagram route one two three four broken b

    sides_break : (e : End) (p : MachinePacket) (broken : Rule) → SidesBreak (pass_route e p) c.datagram broken → ⊥
    sides_break Client Req broken b = none_broken TapRoute.Request broken (λ is. cc) (λ is. cc) (λ is. cc) (λ is. cc) b
    sides_break Server p broken b = none_broken TapRoute.FromServer broken (λ is. cc) (λ is. cc) (λ is. cc) (λ is. cc) b
    sides_break Client _ broken b = none_broken TapRoute.FromClient broken (λ is. cc) (λ is. cc) (λ is. cc) (λ is. cc) b

    -- a main datagram passes
    pub main_passes : (earlier : List TapDatagram) → transfer_between s earlier ≡ map datagram_in cs → tap_route s earlier c.datagram ≡ pass_route c.pass.from c.pass.packet → TapPasses s earlier c.datagram
    main_passes earlier transfer route = record {
      read = subst (λ x. IsTapRead x c.datagram) (sym route) (passed_route c.pass.from c.pass.packet c.datagram (message_of m wire c.pass.packet) is.spells);
      lawful = λ broken b. elim b [
        | inl sides ↦ sides_break c.pass.from c.pass.packet broken (subst (λ x. SidesBreak x c.datagram broken) route sides)
        | inr passing ↦ elim passing.1 [
          | inl by_kind ↦ passing_breaks broken (subst (λ x. PassingBreaks s (map datagram_in cs) x c.datagram broken) route (subst (λ l. PassingBreaks s l (tap_route s earlier c.datagram) c.datagram broken) transfer by_kind))
          | inr more ↦ elim more [
            | inl late ↦ late_broken broken (subst (λ l. LateBroken s l c.datagram broken) transfer late)
            | inr kept ↦ kept_breaks broken (subst (λ l. KeptBreaks s l c.datagram broken) transfer kept)
          ]
        ]
      ];
    }

  stray_passes : (earlier : List TapDatagram) (d : TapDatagram) → tap_route s earlier d ≡ TapRoute.Stray → TapPasses s earlier d
  stray_passes earlier d route = record {
    read = subst (λ x. IsTapRead x d) (sym route) tt;
    lawful = λ broken b. elim b [
      | inl sides ↦ sides_none d TapRoute.Stray (λ is. cc) (λ is. cc) (λ is. cc) (λ is. cc) broken (subst (λ x. SidesBreak x d broken) route sides)
      | inr passing ↦ true≢false (sym passing.0 ∙ ap is_passing route)
    ];
  }

  answer_passes : (earlier : List TapDatagram) (d : TapDatagram) → tap_route s earlier d ≡ TapRoute.StrayAnswer → (text : List ℕ) → Spells d.payload (Message.Error 5 text) → TapPasses s earlier d
  answer_passes earlier d route text says = record {
    read = subst (λ x. IsTapRead x d) (sym route) (text, says);
    lawful = λ broken b. elim b [
      | inl sides ↦ answer_breaks broken (subst (λ x. SidesBreak x d broken) route sides)
      | inr passing ↦ true≢false (sym passing.0 ∙ ap is_passing route)
    ];
  }
    where
      answer_breaks : (broken : Rule) → SidesBreak TapRoute.StrayAnswer d broken → ⊥
      answer_breaks (rule.Port PortRule.Foreign) b = cc
      answer_breaks (rule.Port PortRule.Wrong) b = cc
      answer_breaks (rule.Port PortRule.BadAnswer) b = elim b [ inl bad ↦ absurd (cc) | inr not ↦ not.1 text says ]
      answer_breaks broken b = b

  module _ where
    label_passes : (earlier : TapDivision) → HaveTapLabels s (says_of m wire) earlier → MayPassEach m wire (passed_of earlier) → (d : TapDatagram) (label : TapLabel) → HasTapLabel s (says_of m wire) earlier d label
        → HasTapLabel s says_some earlier d label → MayPassEach m wire (passed_of (record { datagram = d; label = label } ∷ earlier)) → TapPasses s (tapped_of earlier) d
    label_passes earlier labels may d (Main x) has known all =
        let carried = mains_carried s (says_of m wire) earlier labels in
        main_passes (mains earlier) carried (subst (MayPassEach m wire) (passed_is earlier) may) (record { datagram = d; pass = x }) (carried_is s (says_of m wire) earlier d x has)
        (subst (λ l. MayPass m wire l x.from x.packet) (passed_is earlier) all.0) (tapped_of earlier) (transfer_is s apart earlier (labels_some s m wire earlier labels)) (route_is s apart earlier (labels_some s m wire earlier labels) d (Main x) known)
    label_passes earlier labels may d Stray has known all = stray_passes (tapped_of earlier) d (route_is s apart earlier (labels_some s m wire earlier labels) d Stray known)
    label_passes earlier labels may d StrayAnswer has known all = answer_passes (tapped_of earlier) d (route_is s apart earlier (labels_some s m wire earlier labels) d StrayAnswer known) has.spells.0 has.spells.1

  may_rest : (p : TapLabelled) (earlier : TapDivision) → MayPassEach m wire (passed_of (p ∷ earlier)) → MayPassEach m wire (passed_of earlier)
  may_rest p earlier may = by p.label may where
    by : (label : TapLabel) → MayPassEach m wire (passed_of (record { datagram = p.datagram; label = label } ∷ earlier)) → MayPassEach m wire (passed_of earlier)
    by (Main x) may = may.1
    by Stray may = may
    by StrayAnswer may = may

  pub division_passes : (division : TapDivision) → HaveTapLabels s (says_of m wire) division → MayPassEach m wire (passed_of division) → BreaksNoTapRule s (tapped_of division)
  division_passes [] labels may = tt
  division_passes (p ∷ earlier) labels may = (
    label_passes earlier labels.1 (may_rest p earlier may) p.datagram p.label labels.0 (labels_some s m wire (p ∷ earlier) labels).0 may,
    division_passes earlier labels.1 (may_rest p earlier may),
  )

pub runs_break_none : (s : TapSides) (m : Meaning) (wire : List ℕ) (tapped : List TapDatagram) → AreApart s → IsSeenBetween s m wire tapped → BreaksNoTapRule s tapped
runs_break_none s m wire tapped apart seen =
    let may = (tap_view_is m wire seen.passed).0 seen.view in
    subst (BreaksNoTapRule s) seen.dressed.whole
    (division_passes s apart m wire seen.fits seen.dressed.division seen.dressed.labels (subst (MayPassEach m wire) (sym seen.dressed.main) may))
