-- What the labels of a lawful capture at the client tell of each datagram, by where it came from and went.
use Rattle.std.proofs.Common.{◌≡◌, ◌⊎◌, ℕ, true, false, List, [], ◌∷◌, Any, inl, inr, refl, sym, ap, subst, ◌∙◌}
use Rattle.std.specs.List.{AllByRecursion}
use Rattle.std.proofs.lemmas.Bool.{false≢true}
use Rattle.tftp_packet.specs.{Message, Spells, Client}
use Rattle.tftp_packet.specs.Hosts.{Datagram, PeerId, peer_of}
use Rattle.tftp_packet.specs.{In, Out}
use Rattle.law_model.specs.Model.{Meaning, MachinePacket, Sent, Took, Req, Oack, Data, Ack, Error}
use Rattle.law_end.specs.{Label, Labelled, view_in, TransferIds, IsMain, CarriesDeed, HasLabelBy, HaveLabelsBy, says_of, Starts}
use Rattle.law_end.specs.Dress.{Main, Stray, StrayAnswer}
use Rattle.law_end.proofs.Division.Divided.{any_none, any_cases, any_first, any_later}
use Rattle.law_end.proofs.Division.Placing.{CameIn, one, starts_before}
use Rattle.audit_flows.specs.Lines.{Recorded, same_endpoint}
use Rattle.audit_flows.specs.{Transfer}
use Rattle.audit_flows.proofs.LinesLemmas.Endpoints.{same_itself}
use Rattle.audit_views.specs.Views.{captured, captured_at_client, client_header}
use Rattle.audit_views.specs.Parties.{host_name}
use Rattle.audit_recording.specs.Between.{peer_of as side}
use Rattle.audit_cleared.proofs.Own.{IsOwn}
use Rattle.audit_cleared.proofs.Pairs.{Pair, placed_in, labelled, division_of, Way, went, came, way, came_to, any_weaker}

-- it did not come from the client
abbrev pub Came : Transfer → Pair → Type 0
Came x q = same_endpoint q.placed.datagram.source x.client ≡ false

module _ (x : Transfer) (m : Meaning) (wire : List ℕ) (ids : TransferIds) where
  abbrev pub Labels : List Pair → Type 0
  Labels pairs = HaveLabelsBy (client_header x) (says_of m wire) ids (division_of x pairs)

  abbrev pub StrayFrom : PeerId → Pair → Type 0
  StrayFrom there q = (q.label ≡ Stray) × Came x q × (side q.placed.datagram.source ≡ there) × (q.placed.datagram.target ≡ x.client)

  -- what the client sent: a request, a packet to whom it knows, or an answer to a stray
  pub data GoesOut (earlier : List Pair) (d : Recorded) (label : Label) : Type 0 where
    asking : label ≡ Main (Sent Req) → d.target.port ≡ x.asked.port → host_name d.target.address ≡ ids.asked → says_of m wire Req d.payload → GoesOut earlier d label
    going_on : (packet : MachinePacket) → label ≡ Main (Sent packet) → (packet ≡ Req → ⊥) → side d.target ≡ ids.peer → Any (Came x) earlier → says_of m wire packet d.payload → GoesOut earlier d label
    answering : label ≡ StrayAnswer → Any (StrayFrom (side d.target)) earlier → (text : List ℕ) → Spells d.payload (Message.Error 5 text) → GoesOut earlier d label

  -- what came to it: a packet from whom it knows, or a stray
  pub data ComesIn (earlier : List Pair) (d : Recorded) (label : Label) : Type 0 where
    from_there : (packet : MachinePacket) → label ≡ Main (Took packet) → side d.source ≡ ids.peer → says_of m wire packet d.payload → ComesIn earlier d label
    astray : label ≡ Stray → (side d.source ≡ ids.peer → ⊥) → Any (Came x) earlier → ComesIn earlier d label

  pub data Says (earlier : List Pair) (q : Pair) : Type 0 where
    sent : q.placed.datagram.source ≡ x.client → GoesOut earlier q.placed.datagram q.label → Says earlier q
    taken : Came x q → q.placed.datagram.target ≡ x.client → ComesIn earlier q.placed.datagram q.label → Says earlier q

  abbrev pub Told : List Pair → Type 0
  Told [] = Unit {0}
  Told (q ∷ earlier) = Says earlier q × Told earlier

  -- ---- in the words of pairs

  came_before : (pairs : List Pair) → Any CameIn (division_of x pairs) → Any (Came x) pairs
  came_before [] any = absurd (any_none CameIn any)
  came_before (q ∷ pairs) any = elim (any_cases CameIn (labelled x q) (division_of x pairs) any) [
    | inl now ↦ any_first (Came x) q pairs (by (way x q.placed) now)
    | inr before ↦ any_later (Came x) q pairs (came_before pairs before)
  ]
    where
      by : Way x q.placed → (captured_at_client host_name x q.placed).dir ≡ In → Came x q
      by (went source is) now = let both : Out ≡ In = sym (ap (λ (d : Datagram). d.dir) is) ∙ now in absurd (cc)
      by (came off is) now = off

  stray_before : (there : PeerId) (pairs : List Pair) → Told pairs → Any (λ p. (p.label ≡ Stray) × (peer_of p.datagram ≡ there)) (division_of x pairs) → Any (StrayFrom there) pairs
  stray_before there [] told any = absurd (any_none (λ p. (p.label ≡ Stray) × (peer_of p.datagram ≡ there)) any)
  stray_before there (q ∷ pairs) told any = elim (any_cases (λ p. (p.label ≡ Stray) × (peer_of p.datagram ≡ there)) (labelled x q) (division_of x pairs) any) [
    | inl now ↦ any_first (StrayFrom there) q pairs (by told.0 (way x q.placed) now.0 now.1)
    | inr before ↦ any_later (StrayFrom there) q pairs (stray_before there pairs told.1 before)
  ]
    where
      not_out : GoesOut pairs q.placed.datagram q.label → q.label ≡ Stray → ⊥
      not_out (asking is port host says) stray = let both : Main (Sent Req) ≡ Stray = sym is ∙ stray in cc
      not_out (going_on packet is other to before says) stray = let both : Main (Sent packet) ≡ Stray = sym is ∙ stray in cc
      not_out (answering is before text spells) stray = let both : StrayAnswer ≡ Stray = sym is ∙ stray in cc

      by : Says pairs q → Way x q.placed → q.label ≡ Stray → peer_of (captured_at_client host_name x q.placed) ≡ there → StrayFrom there q
      by (sent source out) w stray from = absurd (not_out out stray)
      by (taken off to c) (went source is) stray from = absurd (false≢true (sym off ∙ subst (λ e. same_endpoint e x.client ≡ true) (sym source) (same_itself x.client)))
      by (taken off to c) (came also is) stray from = (stray, off, ap peer_of (sym is) ∙ from, to)

  -- ---- by the labels

  module _ (earlier : List Pair) (told : Told earlier) (d : Recorded) where
    any_in : (Out ≡ In) ⊎ Any CameIn (division_of x earlier) → Any (Came x) earlier
    any_in (inl is) = absurd (cc)
    any_in (inr before) = came_before earlier before

    main_out : (p : MachinePacket) → CarriesDeed (client_header x) m wire ids (division_of x earlier) (captured host_name Out d) (Sent p) → GoesOut earlier d (Main (Sent p))
    main_out Req c = asking refl c.server.0 (c.server.1 refl) c.spells
    main_out Oack c = going_on Oack refl (λ e. cc) c.server.0 (any_in c.server.1) c.spells
    main_out (Data k) c = going_on (Data k) refl (λ e. cc) c.server.0 (any_in c.server.1) c.spells
    main_out (Ack j) c = going_on (Ack j) refl (λ e. cc) c.server.0 (any_in c.server.1) c.spells
    main_out (Error code text) c = going_on (Error code text) refl (λ e. cc) c.server.0 (any_in c.server.1) c.spells

    goes_out : (label : Label) → HasLabelBy (client_header x) (says_of m wire) ids (division_of x earlier) (captured host_name Out d) label → GoesOut earlier d label
    goes_out (Main (Sent p)) has = main_out p has
    goes_out (Main (Took p)) has = let both : Out ≡ In = has.dir in absurd (cc)
    goes_out Stray has = let both : Out ≡ In = has.dir in absurd (cc)
    goes_out StrayAnswer has = answering refl (stray_before (side d.target) earlier told has.there) has.spells.0 has.spells.1

    main_in : (p : MachinePacket) → (p ≡ Req → ⊥) → CarriesDeed (client_header x) m wire ids (division_of x earlier) (captured host_name In d) (Took p) → ComesIn earlier d (Main (Took p))
    main_in Req other c = absurd (other refl)
    main_in Oack other c = from_there Oack refl c.server.0 c.spells
    main_in (Data k) other c = from_there (Data k) refl c.server.0 c.spells
    main_in (Ack j) other c = from_there (Ack j) refl c.server.0 c.spells
    main_in (Error code text) other c = from_there (Error code text) refl c.server.0 c.spells

    main_before : Any (λ p. IsMain p.label × (p.datagram.dir ≡ In)) (division_of x earlier) → Any (Came x) earlier
    main_before any = came_before earlier (any_weaker (λ (p : Labelled). IsMain p.label × (p.datagram.dir ≡ In)) CameIn (λ p both. both.1) (division_of x earlier) any)

    comes_in : (label : Label) → (label ≡ Main (Took Req) → ⊥) → HasLabelBy (client_header x) (says_of m wire) ids (division_of x earlier) (captured host_name In d) label → ComesIn earlier d label
    comes_in (Main (Took p)) other has = main_in p (λ e. other (ap (λ r. Main (Took r)) e)) has
    comes_in (Main (Sent p)) other has = let both : In ≡ Out = has.dir in absurd (cc)
    comes_in Stray other has = astray refl has.elsewhere (main_before has.after)
    comes_in StrayAnswer other has = let both : In ≡ Out = has.dir in absurd (cc)

  -- no request comes from a server
  not_back : (q : Pair) (earlier : List Pair) → Starts Client (view_in (division_of x (q ∷ earlier))) → q.label ≡ Main (Took Req) → ⊥
  not_back q earlier starts is = (subst (λ l. Starts Client (view_in (one (captured_at_client host_name x q.placed) l (division_of x earlier)))) is starts).0.not_back refl

  pub told_all : (pairs : List Pair) → Labels pairs → Starts Client (view_in (division_of x pairs)) → AllByRecursion (IsOwn x) (placed_in pairs) → Told pairs
  told_all [] labels starts own = tt
  told_all (q ∷ earlier) labels starts own = with_this (told_all earlier labels.1 (starts_before Client (captured_at_client host_name x q.placed) q.label (division_of x earlier) starts) own.1) where
    by : Told earlier → Way x q.placed → Says earlier q
    by before (went source is) = sent source (goes_out earlier before q.placed.datagram q.label (subst (λ d. HasLabelBy (client_header x) (says_of m wire) ids (division_of x earlier) d q.label) is labels.0))
    by before (came off is) = taken off (came_to x q.placed own.0 off) (comes_in earlier before q.placed.datagram q.label (not_back q earlier starts)
        (subst (λ d. HasLabelBy (client_header x) (says_of m wire) ids (division_of x earlier) d q.label) is labels.0))

    with_this : Told earlier → Told (q ∷ earlier)
    with_this before = (by before (way x q.placed), before)
