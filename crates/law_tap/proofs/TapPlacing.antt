-- A datagram that passes between the ends has a label.
use Rattle.std.proofs.Common.{◌≡◌, ℕ, true, false, List, [], ◌∷◌, Any, inl, inr, refl, sym, subst, ◌∙◌, ◌&&◌, ◌==◌}
use Rattle.std.proofs.lemmas.Bool.{true≢false, eq-eqb, cases_Bool, and_parts}
use Rattle.tftp_packet.specs.{Message, Spells, End, Client, Server}
use Rattle.tftp_packet.specs.Hosts.{same_peer}
use Rattle.law_model.specs.Model.{MachinePacket, Req, Oack, Data, Ack, Error}
use Rattle.law_model.specs.{PortRule}
use Rattle.law_end.specs.{BeginsAsRequest, says_some}
use Rattle.law_end.specs.declared.rule.Rule.TheVariants as rule
use Rattle.law_end.proofs.Division.RouteTests.{same_is, is_same, apart_is}
use Rattle.law_end.proofs.FirstBroken.FirstRequests.{begins_asked}
use Rattle.law_end.proofs.Division.Divided.{any_first, any_later}
use Rattle.law_tap.specs.{Pass, PeerId, TapDatagram, TapSides, side_of, AreApart, TapLabel, Main, TapLabelled, TapDivision, tapped_of, IsMainFrom, GoesThere, HasTapLabel, HaveTapLabels, asks_in, ends_in, has_gone, route_astray, tap_route, IsTapRead, TapPasses, TapRoute}
use Rattle.law_tap.specs.TapDress.{Stray, StrayAnswer}
use Rattle.law_tap.proofs.OneTapDivision.{no_stray_side}
use Rattle.law_tap.proofs.KeptOf.{any_skip}
use Rattle.law_tap.proofs.TapTests.{asks_says, source_is}

-- a payload that opens as a request, tested
request_tested : (payload : List ℕ) → BeginsAsRequest payload → asks_in payload ≡ true
request_tested payload (rest, inl is) = subst (λ p. asks_in p ≡ true) (sym is) refl
request_tested payload (rest, inr is) = subst (λ p. asks_in p ≡ true) (sym is) refl

module _ (s : TapSides) (apart : AreApart s) where
  -- what went from the server to the client is a packet of the server
  from_server_is : (division : TapDivision) → HaveTapLabels s says_some division → (d : TapDatagram) (label : TapLabel) → HasTapLabel s says_some division d label → d.source ≡ s.server → d.destination ≡ s.client → IsMainFrom Server label
  from_server_is division labels d (Main x) c source to = by x.from x.packet c.source where
    by : (e : End) (p : MachinePacket) → d.source ≡ side_of s e → (packet : MachinePacket) × (Main (record { from = e; packet = p }) ≡ Main (record { from = Server; packet = packet }))
    by Client p at = absurd (apart.server (sym at ∙ source))
    by Server p at = (p, refl)
  from_server_is division labels d Stray c source to = absurd (c.elsewhere Server source)
  from_server_is division labels d StrayAnswer c source to = absurd (no_stray_side s apart division labels Client d.source d.destination to c.there)

  gone_answered : (division : TapDivision) → HaveTapLabels s says_some division → has_gone s.server s.client (tapped_of division) ≡ true → Any (λ p. IsMainFrom Server p.label) division
  gone_answered [] labels gone = absurd (true≢false (sym gone))
  gone_answered (p ∷ division) labels gone = elim (cases_Bool (same_peer p.datagram.source s.server && same_peer p.datagram.destination s.client)) [
    | inl now ↦
        let both = and_parts (same_peer p.datagram.source s.server) (same_peer p.datagram.destination s.client) now in
        any_first (λ (q : TapLabelled). IsMainFrom Server q.label) p division (from_server_is division labels.1 p.datagram p.label labels.0 (is_same p.datagram.source s.server both.0) (is_same p.datagram.destination s.client both.1))
    | inr other ↦ any_later (λ (q : TapLabelled). IsMainFrom Server q.label) p division (gone_answered division labels.1 (sym (any_skip (λ d. same_peer d.source s.server && same_peer d.destination s.client) p.datagram (tapped_of division) other) ∙ gone))
  ]

  -- what went to an end from where neither it nor the other end sends to it is a stray
  stray_is : (division : TapDivision) → HaveTapLabels s says_some division → (d : TapDatagram) (label : TapLabel) → HasTapLabel s says_some division d label → (e : End) → d.destination ≡ side_of s e
      → (d.source ≡ s.client → e ≡ Client) → (d.source ≡ s.server → e ≡ Server) → label ≡ Stray
  stray_is division labels d (Main x) c e to client server = by x.from x.packet c.source c.goes where
    by : (f : End) (p : MachinePacket) → d.source ≡ side_of s f → GoesThere s division d f p → Main x ≡ Stray
    by Client Req source goes = absurd (apart.asked (sym (subst (λ v. d.destination ≡ side_of s v) (client source) to) ∙ goes))
    by Server p source goes = absurd (apart.server (sym goes ∙ subst (λ v. d.destination ≡ side_of s v) (server source) to))
    by Client _ source goes = absurd (apart.server (sym (subst (λ v. d.destination ≡ side_of s v) (client source) to) ∙ goes.0))
  stray_is division labels d Stray c e to client server = refl
  stray_is division labels d StrayAnswer c e to client server = absurd (no_stray_side s apart division labels e d.source d.destination to c.there)

  gone_stray : (from to : PeerId) (e : End) → to ≡ side_of s e → (from ≡ s.client → e ≡ Client) → (from ≡ s.server → e ≡ Server) → (division : TapDivision) → HaveTapLabels s says_some division
      → has_gone from to (tapped_of division) ≡ true → Any (λ p. (p.label ≡ Stray) × (p.datagram.source ≡ from) × (p.datagram.destination ≡ to)) division
  gone_stray from to e at client server [] labels gone = absurd (true≢false (sym gone))
  gone_stray from to e at client server (p ∷ division) labels gone = elim (cases_Bool (same_peer p.datagram.source from && same_peer p.datagram.destination to)) [
    | inl now ↦
        let both = and_parts (same_peer p.datagram.source from) (same_peer p.datagram.destination to) now in
        let source = is_same p.datagram.source from both.0 in
        let there = is_same p.datagram.destination to both.1 in
        any_first (λ (q : TapLabelled). (q.label ≡ Stray) × (q.datagram.source ≡ from) × (q.datagram.destination ≡ to)) p division
        (stray_is division labels.1 p.datagram p.label labels.0 e (there ∙ at) (λ is. client (sym source ∙ is)) (λ is. server (sym source ∙ is)), source, there)
    | inr other ↦ any_later (λ (q : TapLabelled). (q.label ≡ Stray) × (q.datagram.source ≡ from) × (q.datagram.destination ≡ to)) p division
        (gone_stray from to e at client server division labels.1 (sym (any_skip (λ d. same_peer d.source from && same_peer d.destination to) p.datagram (tapped_of division) other) ∙ gone))
  ]

  module _ (earlier : TapDivision) (labels : HaveTapLabels s says_some earlier) (d : TapDatagram) (passes : TapPasses s (tapped_of earlier) d) where
    abbrev HasLabel : Type 0
    HasLabel = (label : TapLabel) × HasTapLabel s says_some earlier d label

    read_as : (route : TapRoute) → tap_route s (tapped_of earlier) d ≡ route → IsTapRead route d
    read_as route is = subst (λ r. IsTapRead r d) is passes.read

    not_wrong : tap_route s (tapped_of earlier) d ≡ TapRoute.WrongPort → ⊥
    not_wrong is = passes.lawful (rule.Port PortRule.Wrong) (inl is)

    not_foreign : tap_route s (tapped_of earlier) d ≡ TapRoute.ForeignPort → ⊥
    not_foreign is = passes.lawful (rule.Port PortRule.Foreign) (inl is)

    -- a packet of the end, whatever its kind
    of_end : (x : Pass) → d.source ≡ side_of s x.from → GoesThere s earlier d x.from x.packet → says_some x.packet d.payload → HasLabel
    of_end x source goes says = (Main x, record { source = source; goes = goes; spells = says })

    client_said : d.source ≡ s.client → asks_in d.payload ≡ false → (d.destination ≡ s.server) × Any (λ p. IsMainFrom Server p.label) earlier → (m : Message) → Spells d.payload m → HasLabel
    client_said source plain goes (Message.Request asked) says = absurd (true≢false (sym (asks_says d.payload (Message.Request asked) says) ∙ plain))
    client_said source plain goes (Message.Oack options) says = of_end (record { from = Client; packet = Oack }) source goes (Message.Oack options, says, refl)
    client_said source plain goes (Message.Data k bytes) says = of_end (record { from = Client; packet = Data k }) source goes (Message.Data k bytes, says, refl)
    client_said source plain goes (Message.Ack j) says = of_end (record { from = Client; packet = Ack j }) source goes (Message.Ack j, says, refl)
    client_said source plain goes (Message.Error code text) says = of_end (record { from = Client; packet = Error code text }) source goes (Message.Error code text, says, refl)

    server_said : d.source ≡ s.server → d.destination ≡ s.client → (m : Message) → Spells d.payload m → HasLabel
    server_said source to (Message.Request asked) says = of_end (record { from = Server; packet = Req }) source to (Message.Request asked, says, refl)
    server_said source to (Message.Oack options) says = of_end (record { from = Server; packet = Oack }) source to (Message.Oack options, says, refl)
    server_said source to (Message.Data k bytes) says = of_end (record { from = Server; packet = Data k }) source to (Message.Data k bytes, says, refl)
    server_said source to (Message.Ack j) says = of_end (record { from = Server; packet = Ack j }) source to (Message.Ack j, says, refl)
    server_said source to (Message.Error code text) says = of_end (record { from = Server; packet = Error code text }) source to (Message.Error code text, says, refl)

    -- an answer to a stray
    astray : (e : End) → d.source ≡ side_of s e → (d.destination ≡ s.client → e ≡ Client) → (d.destination ≡ s.server → e ≡ Server) → tap_route s (tapped_of earlier) d ≡ route_astray (tapped_of earlier) d → HasLabel
    astray e source client server is = elim (cases_Bool (has_gone d.destination d.source (tapped_of earlier))) [
      | inr never ↦ absurd (not_wrong (is ∙ wrong never))
      | inl gone ↦ elim (cases_Bool (ends_in d.payload)) [
        | inr other ↦ absurd (passes.lawful (rule.Port PortRule.BadAnswer) (inl (inl (is ∙ bad gone other))))
        | inl ends ↦ (StrayAnswer, record { own = (e, source); there = gone_stray d.destination d.source e source client server earlier labels gone; spells = read_as TapRoute.StrayAnswer (is ∙ good gone ends) })
      ]
    ]
      where
        wrong : has_gone d.destination d.source (tapped_of earlier) ≡ false → route_astray (tapped_of earlier) d ≡ TapRoute.WrongPort
        wrong never = rw (never) refl

        bad : has_gone d.destination d.source (tapped_of earlier) ≡ true → ends_in d.payload ≡ false → route_astray (tapped_of earlier) d ≡ TapRoute.NoStrayAnswer
        bad gone other = rw (gone, other) refl

        good : has_gone d.destination d.source (tapped_of earlier) ≡ true → ends_in d.payload ≡ true → route_astray (tapped_of earlier) d ≡ TapRoute.StrayAnswer
        good gone ends = rw (gone, ends) refl

    by_client : d.source ≡ s.client → HasLabel
    by_client source = elim (cases_Bool (asks_in d.payload)) [
      | inl asks ↦ elim (cases_Bool (same_peer d.destination s.asked)) [
        | inl there ↦
            let read = read_as TapRoute.Request (rw (same, asks, there) refl) in
            let asked = begins_asked d.payload read.0 read.1 asks in
            of_end (record { from = Client; packet = Req }) source (is_same d.destination s.asked there) (Message.Request asked.0, subst (Spells d.payload) asked.1 read.1, refl)
        | inr elsewhere ↦ absurd (not_wrong (rw (same, asks, elsewhere) refl))
      ]
      | inr plain ↦ elim (cases_Bool (same_peer d.destination s.server)) [
        | inl there ↦ elim (cases_Bool (has_gone s.server s.client (tapped_of earlier))) [
          | inl gone ↦ let read = read_as TapRoute.FromClient (rw (same, plain, there, gone) refl) in client_said source plain (is_same d.destination s.server there, gone_answered earlier labels gone) read.0 read.1
          | inr never ↦ absurd (not_wrong (rw (same, plain, there, never) refl))
        ]
        | inr elsewhere ↦ astray Client source (λ is. refl) (λ is. absurd (apart_is d.destination s.server elsewhere is)) (rw (same, plain, elsewhere) refl)
      ]
    ]
      where
        same : same_peer d.source s.client ≡ true
        same = same_is d.source s.client source

    by_server : d.source ≡ s.server → HasLabel
    by_server source = elim (cases_Bool (same_peer d.destination s.client)) [
      | inl there ↦ let read = read_as TapRoute.FromServer (rw (other, same, there) refl) in server_said source (is_same d.destination s.client there) read.0 read.1
      | inr elsewhere ↦ astray Server source (λ is. absurd (apart_is d.destination s.client elsewhere is)) (λ is. refl) (rw (other, same, elsewhere) refl)
    ]
      where
        other : same_peer d.source s.client ≡ false
        other = source_is s apart d Server Client source

        same : same_peer d.source s.server ≡ true
        same = source_is s apart d Server Server source

    by_other : same_peer d.source s.client ≡ false → same_peer d.source s.server ≡ false → HasLabel
    by_other no_client no_server = elim (cases_Bool (same_peer d.destination s.client)) [
      | inl there ↦ (Stray, record { elsewhere = elsewhere; here = (Client, is_same d.destination s.client there); no_request = λ to. absurd (apart.server (sym (is_same d.destination s.client there) ∙ to)) })
      | inr not_client ↦ elim (cases_Bool (same_peer d.destination s.server)) [
        | inr not_server ↦ absurd (not_foreign (rw (no_client, no_server, not_client, not_server) refl))
        | inl there ↦ elim (cases_Bool ((s.server.port == s.asked.port) && asks_in d.payload)) [
          | inl another ↦ absurd (not_foreign (rw (no_client, no_server, not_client, there, another) refl))
          | inr fine ↦ (Stray, record { elsewhere = elsewhere; here = (Server, is_same d.destination s.server there); no_request = λ to port begins. true≢false (sym (both port begins) ∙ fine) })
        ]
      ]
    ]
      where
        elsewhere : (e : End) → d.source ≡ side_of s e → ⊥
        elsewhere Client is = apart_is d.source s.client no_client is
        elsewhere Server is = apart_is d.source s.server no_server is

        both : s.server.port ≡ s.asked.port → BeginsAsRequest d.payload → ((s.server.port == s.asked.port) && asks_in d.payload) ≡ true
        both port begins = rw (eq-eqb s.server.port s.asked.port port, request_tested d.payload begins) refl

    pub has_label : HasLabel
    has_label = elim (cases_Bool (same_peer d.source s.client)) [
      | inl client ↦ by_client (is_same d.source s.client client)
      | inr no_client ↦ elim (cases_Bool (same_peer d.source s.server)) [
        | inl server ↦ by_server (is_same d.source s.server server)
        | inr no_server ↦ by_other no_client no_server
      ]
    ]
