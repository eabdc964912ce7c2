-- The rules of the order in which an end sends are never the first that is broken between the ends.
use Rattle.std.proofs.Common.{◌≡◌, ◌<◌, Bool, true, false, List, [], ◌∷◌, Contains, inl, inr, refl, sym, subst, ap, ◌∙◌, arith, ◌&&◌, map}
use Rattle.std.specs.List.{list_any}
use Rattle.std.proofs.lemmas.Bool.{true≢false, or_parts, cases_Bool}
use Rattle.tftp_packet.specs.{Message, RequestParts, Spells, Side, Get, Put, End, Client, Server, OptionMap}
use Rattle.tftp_packet.specs.Hosts.{Datagram, Header, same_peer}
use Rattle.tftp_packet.specs.{In, Out}
use Rattle.law_model.specs.Model.Machines.{sender_of, receiver_of}
use Rattle.law_model.specs.Model.{MachinePacket, Req, Oack, Data, Ack, Error, is_error}
use Rattle.law_model.specs.Rules.{asks, transfer_of, IsSender, EndBroken}
use Rattle.law_model.specs.{EndRule, NoReply, Terms}
use Rattle.law_model.proofs.ModelLemmas.Members.{contains_first, contains_later, contains_cases, contains_none}
use Rattle.law_end.specs.{packet_in, says_some, number_of, FirstAsked, Answer, Agrees, Begins, AreTerms, plain_terms, terms_after, IsWrongKind, KindBreaks, MessageBreaks, MessageBroken, Broken, Rule}
use Rattle.law_end.specs.declared.rule.Rule.TheVariants as rule
use Rattle.law_end.proofs.Spelled.{spelled_once}
use Rattle.law_end.proofs.FirstBroken.FirstRequests.{request_same, some_same}
use Rattle.law_end.proofs.Division.RouteTests.{is_same, same_is}
use Rattle.law_tap.specs.{TapDatagram, TapSides, side_of, AreApart, is_left_out, kept_of, same_end, is_request, asks_in, tap_tests, tap_route, is_passing, transfer_between, recorded_at, header_at, FirstTapAsked, LateBroken, LateBreaks, SidesBreak, PassingBreaks, KeptBreaks, FirstTapBroken, BreaksNoTapRule, IsOfSending, TapRoute}
use Rattle.law_tap.proofs.KeptOf.{any_of, kept_there, kept_asks}
use Rattle.law_tap.proofs.TapTests.{asks_says}
use Rattle.law_tap.proofs.TapRouted.{Carried, mains, transfer_is}
use Rattle.law_tap.proofs.TapRecorded.{Each, kept_map, asks_same, kept_each, IsCarried, mains_carried, pair_tests, datagram_in, datagrams_each}
use Rattle.law_tap.proofs.TapBefore.{first_holds}
use Rattle.law_tap.proofs.TapLawful.{parted, AreLawful, mains_lawful, asks_is, Right, rights}
use Rattle.law_tap.proofs.TapMade.{recorded_payload}
use Rattle.law_tap.proofs.TapRun.{each_at}
use Rattle.law_tap.proofs.AtReceiver.{not_sender}

-- what is said of the terms of a transfer
terms_side : (h : Header) (asked : RequestParts) (answer : Answer) → ((terms_after h asked answer).named ≡ h.named) × ((terms_after h asked answer).side ≡ asked.side)
terms_side h asked (Agrees options) = (refl, refl)
terms_side h asked Begins = (refl, refl)

module _ (s : TapSides) (apart : AreApart s) (asked : RequestParts) (cs : List Carried) (each : Each (IsCarried s says_some) cs) (lawful : AreLawful s cs) (first : FirstTapAsked s (map datagram_in cs) asked) where
  right : Each (Right s apart asked) cs
  right = rights s apart asked cs lawful each (inr first)

  recorded_of : (r : End) (ks : List Carried) (x : Datagram) → Contains (map (recorded_at s r) (map datagram_in ks)) x → (c : Carried) × Contains ks c × (recorded_at s r c.datagram ≡ x)
  recorded_of r [] x at = absurd (contains_none x at)
  recorded_of r (k ∷ ks) x at = elim (contains_cases (recorded_at s r k.datagram) (map (recorded_at s r) (map datagram_in ks)) x at) [
    | inl now ↦ (k, contains_first k ks, now)
    | inr before ↦ let found = recorded_of r ks x before in (found.0, contains_later k ks found.0 found.1, found.2)
  ]

  -- what the receiver was asked is what was asked
  inner_asked : (other : RequestParts) → FirstAsked (header_at s asked.side) (map (recorded_at s (receiver_of asked.side)) (map datagram_in (kept_of pair_tests (receiver_of asked.side) cs))) other → other ≡ asked
  inner_asked other (x, here, says) =
      let r = receiver_of asked.side in
      let there = first_holds (asks (header_at s asked.side)) (map (recorded_at s r) (map datagram_in (kept_of pair_tests r cs))) x here in
      let found = recorded_of r (kept_of pair_tests r cs) x there.1 in
      let c = found.0 in
      let at = kept_there pair_tests r cs c found.1 in
      let spelled : Spells c.datagram.payload (Message.Request other) = subst (λ l. Spells l (Message.Request other)) (recorded_payload s r c.datagram) (subst (λ (v : Datagram). Spells v.payload (Message.Request other)) (sym found.2) says) in
      let is = each_at (IsCarried s says_some) cs c each at in
      let packet : c.pass.packet ≡ Req = sym (some_same Req c.pass.packet (ap packet_in (spelled_once c.datagram.payload (Message.Request other) is.spells.0 spelled is.spells.1) ∙ is.spells.2)) in
      request_same other asked (spelled_once c.datagram.payload (Message.Request other) (Message.Request asked) spelled ((each_at (Right s apart asked) cs c right at).request packet))

  inner_receives : (t : Terms) → AreTerms (header_at s asked.side) (map (recorded_at s (receiver_of asked.side)) (map datagram_in (kept_of pair_tests (receiver_of asked.side) cs))) t → IsSender t → ⊥
  inner_receives t known sends = elim known.2 [ inl none ↦ plain (inner_asked known.0 known.1) none.1 | inr some ↦ answered some.0 (inner_asked known.0 known.1) some.2 ] where
    plain : known.0 ≡ asked → t ≡ plain_terms (header_at s asked.side) known.0.side NoReply → ⊥
    plain same is = not_sender asked.side (ap (λ (x : Terms). x.named) (sym is) ∙ sends ∙ ap sender_of (ap (λ (x : Terms). x.side) is ∙ ap (λ (q : RequestParts). q.side) same))

    answered : (answer : Answer) → known.0 ≡ asked → t ≡ terms_after (header_at s asked.side) known.0 answer → ⊥
    answered answer same is =
        let both = terms_side (header_at s asked.side) known.0 answer in
        not_sender asked.side (sym (ap (λ (x : Terms). x.named) is ∙ both.0) ∙ sends ∙ ap sender_of (ap (λ (x : Terms). x.side) is ∙ both.1 ∙ ap (λ (q : RequestParts). q.side) same))

  -- ---- one datagram

  module _ (d : TapDatagram) (stays : is_left_out (tap_tests s) (receiver_of asked.side) d (kept_of (tap_tests s) (receiver_of asked.side) (map datagram_in cs)) ≡ false)
      (not_wrong : (e : End) → d.source ≡ side_of s e → (n : Message) → Spells d.payload n → IsWrongKind e asked.side n → ⊥) where
    kept_is : kept_of (tap_tests s) (receiver_of asked.side) (map datagram_in cs) ≡ map datagram_in (kept_of pair_tests (receiver_of asked.side) cs)
    kept_is = kept_map datagram_in pair_tests (tap_tests s) (receiver_of asked.side) cs (datagrams_each s apart cs each)

    goes_out_is : (r : End) → (recorded_at s r d).dir ≡ Out → d.source ≡ side_of s r
    goes_out_is r out = elim (cases_Bool (same_peer d.source (side_of s r))) [ inl own ↦ is_same d.source (side_of s r) own | inr other ↦ absurd (comes other out) ] where
      comes : same_peer d.source (side_of s r) ≡ false → (recorded_at s r d).dir ≡ Out → ⊥
      comes other out = let turned : In ≡ Out = sym (ap_dir other) ∙ out in cc where
        ap_dir : same_peer d.source (side_of s r) ≡ false → (recorded_at s r d).dir ≡ In
        ap_dir is = rw (is) refl

    -- a request of the client is left out: one has passed
    request_left : d.source ≡ s.client → asks_in d.payload ≡ true → ⊥
    request_left source asks =
        let none = or_parts ((tap_tests s).asks d && list_any (tap_tests s).asks (kept_of (tap_tests s) (receiver_of asked.side) (map datagram_in cs))) _ stays in
        let some : list_any (tap_tests s).asks (kept_of (tap_tests s) (receiver_of asked.side) (map datagram_in cs)) ≡ true
        = ap (list_any (tap_tests s).asks) kept_is ∙ asks_same datagram_in pair_tests (tap_tests s) (kept_of pair_tests (receiver_of asked.side) cs)
        (datagrams_each s apart (kept_of pair_tests (receiver_of asked.side) cs) (kept_each (IsCarried s says_some) pair_tests (receiver_of asked.side) cs each)) ∙ kept_asks pair_tests (receiver_of asked.side) cs quiet asked_there in
        true≢false (sym (both some) ∙ none.0)
      where
        both : list_any (tap_tests s).asks (kept_of (tap_tests s) (receiver_of asked.side) (map datagram_in cs)) ≡ true
            → ((tap_tests s).asks d && list_any (tap_tests s).asks (kept_of (tap_tests s) (receiver_of asked.side) (map datagram_in cs))) ≡ true
        both some = rw (same_is d.source s.client source, asks, some) refl

        asked_there : list_any pair_tests.asks cs ≡ true
        asked_there =
            let there = first_holds (tap_tests s).asks (map datagram_in cs) first.0 first.1 in
            sym (asks_is s apart cs each) ∙ any_of (tap_tests s).asks (map datagram_in cs) first.0 there.1 there.0

        quiet : (x : Carried) → pair_tests.asks x ≡ true → (e : End) → pair_tests.ends e x ≡ false
        quiet x is e = by x.pass.from x.pass.packet is where
          none : (b : Bool) → (b && false) ≡ false
          none true = refl
          none false = refl

          by : (f : End) (p : MachinePacket) → (same_end Client f && is_request p) ≡ true → (same_end e f && is_error p) ≡ false
          by Client (Error code text) is = absurd (true≢false (sym is))
          by Server (Error code text) is = absurd (true≢false (sym is))
          by f _ is = none (same_end e f)

    spelled_there : (n : Message) → Spells (recorded_at s (receiver_of asked.side) d).payload n → Spells d.payload n
    spelled_there n t = subst (λ l. Spells l n) (recorded_payload s (receiver_of asked.side) d) t

    request_out : (side : Side) → d.source ≡ side_of s (receiver_of side) → asked.side ≡ side → (now : RequestParts) → Spells d.payload (Message.Request now) → ⊥
    request_out Get source same now t = request_left source (asks_says d.payload (Message.Request now) t)
    request_out Put source same now t = not_wrong Server source (Message.Request now) t (subst (λ x. IsWrongKind Server x (Message.Request now)) (sym same) tt)

    oack_out : d.source ≡ side_of s (receiver_of asked.side) → asked.side ≡ Get → (options : OptionMap) → Spells d.payload (Message.Oack options) → ⊥
    oack_out source get options t =
        not_wrong Client (source ∙ ap (λ x. side_of s (receiver_of x)) get) (Message.Oack options) t (subst (λ x. IsWrongKind Client x (Message.Oack options)) (sym get) tt)

    abbrev Known : Terms → Type 0
    Known t = AreTerms (header_at s asked.side) (map (recorded_at s (receiver_of asked.side)) (map datagram_in (kept_of pair_tests (receiver_of asked.side) cs))) t

    abbrev inner : List Datagram
    inner = transfer_of (header_at s asked.side) (map (recorded_at s (receiver_of asked.side)) (map datagram_in (kept_of pair_tests (receiver_of asked.side) cs)))

    end_never : (n : Message) (e : EndRule) → IsOfSending (Rule.Block e) → (t : Terms) → Known t → EndBroken t inner n e → ⊥
    end_never (Message.Data k bytes) EndRule.BlockSkipped of t known b = inner_receives t known b.0
    end_never (Message.Data k bytes) EndRule.GoneBack of t known b = inner_receives t known b.0
    end_never (Message.Ack j) EndRule.BlockSkipped of t known b = b
    end_never (Message.Ack j) EndRule.GoneBack of t known b = b
    end_never (Message.Request now) e of t known b = b
    end_never (Message.Oack options) e of t known b = b
    end_never (Message.Error code text) e of t known b = b
    end_never n e of t known b = absurd of

    kind_never : (n : Message) → Spells d.payload n → (other : RequestParts) → FirstAsked (header_at s asked.side) (map (recorded_at s (receiver_of asked.side)) (map datagram_in (kept_of pair_tests (receiver_of asked.side) cs))) other
        → (broken : Rule) → IsOfSending broken → KindBreaks (header_at s asked.side) other inner (recorded_at s (receiver_of asked.side) d).dir n broken → ⊥
    kind_never (Message.Request now) t other first rule.RequestAfterStart of b = request_out asked.side (goes_out_is (receiver_of asked.side) b.0) refl now t
    kind_never (Message.Request now) t other first rule.RequestChanged of b = of
    kind_never (Message.Request now) t other first broken of b = b
    kind_never (Message.Oack options) t other first rule.OackAfterStart of b =
        oack_out (goes_out_is (receiver_of asked.side) b.0) (ap (λ (q : RequestParts). q.side) (sym (inner_asked other first)) ∙ b.1) options t
    kind_never (Message.Oack options) t other first rule.RequestAfterStart of b = b.1
    kind_never (Message.Oack options) t other first (rule.Block EndRule.BlockSkipped) of b = b.1
    kind_never (Message.Oack options) t other first (rule.Block EndRule.GoneBack) of b = b.1
    kind_never (Message.Oack options) t other first broken of b = absurd of
    kind_never (Message.Data k bytes) t other first broken of (e, is, u, known, b) = end_never (Message.Data k bytes) e (subst IsOfSending is of) u (other, first, known) b
    kind_never (Message.Ack j) t other first broken of (e, is, u, known, b) = end_never (Message.Ack j) e (subst IsOfSending is of) u (other, first, known) b
    kind_never (Message.Error code text) t other first broken of b = b

    message_never : (broken : Rule) → IsOfSending broken → MessageBroken (header_at s asked.side) (map (recorded_at s (receiver_of asked.side)) (map datagram_in (kept_of pair_tests (receiver_of asked.side) cs))) (recorded_at s (receiver_of asked.side) d) broken → ⊥
    message_never broken of x = by x.breaks where
      by : MessageBreaks (header_at s asked.side) x.asked inner (recorded_at s (receiver_of asked.side) d).dir x.message broken → ⊥
      by (inl (is, wrong)) = subst IsOfSending is of
      by (inr (inl (is, goes))) = subst IsOfSending is of
      by (inr (inr b)) = kind_never x.message (spelled_there x.message x.says.spells) x.asked x.first broken of b

    kept_never : (broken : Rule) → IsOfSending broken → Broken (header_at s asked.side) (map (recorded_at s (receiver_of asked.side)) (map datagram_in (kept_of pair_tests (receiver_of asked.side) cs))) (recorded_at s (receiver_of asked.side) d) broken → ⊥
    kept_never rule.RequestAfterStart of b = message_never rule.RequestAfterStart of b
    kept_never rule.OackAfterStart of b = message_never rule.OackAfterStart of b
    kept_never (rule.Block EndRule.BlockSkipped) of b = message_never (rule.Block EndRule.BlockSkipped) of b
    kept_never (rule.Block EndRule.GoneBack) of b = message_never (rule.Block EndRule.GoneBack) of b
    kept_never broken of b = absurd of

late_never : (s : TapSides) (passed : List TapDatagram) (d : TapDatagram) (broken : Rule) → IsOfSending broken → LateBroken s passed d broken → ⊥
late_never s passed d broken of l = by l.message broken of l.breaks where
  by : (n : Message) (broken : Rule) → IsOfSending broken → LateBreaks s l.asked.side passed n broken → ⊥
  by (Message.Data k bytes) (rule.Block EndRule.NotStarted) of b = of
  by (Message.Ack j) (rule.Block EndRule.AckAhead) of b = of
  by (Message.Ack j) (rule.Block EndRule.AckZero) of b = of
  by _ _ of b = b

low_number : (broken : Rule) → IsOfSending broken → 6 < number_of broken
low_number rule.RequestAfterStart of = omega arith
low_number rule.OackAfterStart of = omega arith
low_number (rule.Block EndRule.BlockSkipped) of = omega arith
low_number (rule.Block EndRule.GoneBack) of = omega arith
low_number broken of = absurd of

sides_never : (route : TapRoute) (d : TapDatagram) (broken : Rule) → IsOfSending broken → SidesBreak route d broken → ⊥
sides_never route d rule.RequestAfterStart of b = b
sides_never route d rule.OackAfterStart of b = b
sides_never route d (rule.Block EndRule.BlockSkipped) of b = b
sides_never route d (rule.Block EndRule.GoneBack) of b = b
sides_never route d broken of b = absurd of

passing_never : (s : TapSides) (passed : List TapDatagram) (route : TapRoute) (d : TapDatagram) (broken : Rule) → IsOfSending broken → PassingBreaks s passed route d broken → ⊥
passing_never s passed route d rule.RequestAfterStart of b = b
passing_never s passed route d rule.OackAfterStart of b = b
passing_never s passed route d (rule.Block EndRule.BlockSkipped) of b = b
passing_never s passed route d (rule.Block EndRule.GoneBack) of b = b
passing_never s passed route d broken of b = absurd of

pub never_first : (s : TapSides) (earlier : List TapDatagram) (d : TapDatagram) (broken : Rule) → AreApart s → BreaksNoTapRule s earlier → FirstTapBroken s earlier d broken → IsOfSending broken → ⊥
never_first s earlier d broken apart passes first of = elim first.breaks [
  | inl sides ↦ sides_never (tap_route s earlier d) d broken of sides
  | inr passing ↦ elim passing.1 [
    | inl by_kind ↦ passing_never s (transfer_between s earlier) (tap_route s earlier d) d broken of by_kind
    | inr more ↦ elim more [ inl late ↦ late_never s (transfer_between s earlier) d broken of late | inr kept ↦ by passing.0 kept ]
  ]
]
  where
    by : is_passing (tap_route s earlier d) ≡ true → KeptBreaks s (transfer_between s earlier) d broken → ⊥
    by passing k =
        let x = parted s apart earlier passes in
        let cs = mains x.division in
        let each = mains_carried s says_some x.division x.labels in
        let lawful = mains_lawful s apart x.division x.labels (subst (BreaksNoTapRule s) (sym x.whole) passes) in
        let same : transfer_between s earlier ≡ map datagram_in cs = ap (transfer_between s) (sym x.whole) ∙ transfer_is s apart x.division x.labels in
        let asked_first = subst (λ l. FirstTapAsked s l k.asked) same k.first in
        let stays = subst (λ l. is_left_out (tap_tests s) (receiver_of k.asked.side) d (kept_of (tap_tests s) (receiver_of k.asked.side) l) ≡ false) same k.stays in
        let not_wrong : (e : End) → d.source ≡ side_of s e → (n : Message) → Spells d.payload n → IsWrongKind e k.asked.side n → ⊥
        = λ e source n t wrong. first.first rule.WrongKind (low_number broken of) (inr (passing, inl (k.asked, k.first, e, source, (n, t, wrong)))) in
        let inner = subst (λ l. Broken (header_at s k.asked.side) (map (recorded_at s (receiver_of k.asked.side)) l) (recorded_at s (receiver_of k.asked.side) d) broken)
        (ap (kept_of (tap_tests s) (receiver_of k.asked.side)) same ∙ kept_map datagram_in pair_tests (tap_tests s) (receiver_of k.asked.side) cs (datagrams_each s apart cs each)) k.breaks in
        kept_never s apart k.asked cs each lawful asked_first d stays not_wrong broken of inner
