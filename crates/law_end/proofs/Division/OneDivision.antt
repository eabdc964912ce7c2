-- A list that finds its places divides, in one way, which is that of its routes.
use Rattle.std.proofs.Common.{◌≡◌, ℕ, ◌≤◌, Bool, true, false, List, [], ◌∷◌, Some, inl, inr, refl, sym, subst, ap, ◌∙◌, arith, ◌||◌, ◌==◌}
use Rattle.tftp_packet.specs.{Message, RequestParts, Spells, opcode_of, End, Client, Server}
use Rattle.tftp_packet.specs.Hosts.{Datagram, Header}
use Rattle.tftp_packet.specs.{Dir, In, Out}
use Rattle.law_model.specs.Model.{Meaning, MachinePacket, Req, Oack, Data, Ack, Deed, Sent, Took, message_of, Error, IsOneSided}
use Rattle.law_model.specs.Rules.{Route, asks, first_of, route_of, is_of_transfer}
use Rattle.law_model.specs.{PortRule}
use Rattle.tftp_packet.proofs.NoFault.{no_fault}
use Rattle.law_end.specs.Dress.{StrayAnswer}
use Rattle.law_end.specs.{Label, Main, Stray, Division, datagrams_of, view_in, dir_of, packet_of, TransferIds, says_of, HasLabelBy, HaveLabelsBy, HaveLabels, packet_route, label_route, SaysAsBy, AreRoutedBy, request_at, request_back, Starts, packet_in, says_some, FindsPlace, FindPlaces, Divides, Broken, number_of, IsRead, Rule}
use Rattle.law_end.proofs.Spelled.{spelled_once}
use Rattle.law_model.proofs.RulesLemmas.EndRules.{from_18}
use Rattle.law_end.proofs.FirstBroken.OneMessage.{agreement_from}
use Rattle.law_end.proofs.FirstBroken.FirstRequests.{begins_asked, or_some, asks_route}
use Rattle.law_end.proofs.Division.RouteTests.{two_ways, IsTold, request_begins}
use Rattle.law_end.proofs.Division.Routed.{routed_by, starts_of}
use Rattle.law_end.proofs.Division.Unasked.{none_view}
use Rattle.law_end.proofs.Division.RoutesBack.{request_is}
use Rattle.law_end.proofs.Division.Parted.{parted}
use Rattle.law_end.proofs.Division.Placing.{one, starts_before}

-- ---- what is told

packet_one : (payload : List ℕ) (p q : MachinePacket) → says_some p payload → says_some q payload → p ≡ q
packet_one payload p q (m, s, is) (n, t, at) = some_one (sym is ∙ ap packet_in (spelled_once payload m n s t) ∙ at) where
  some_one : Some p ≡ Some q → p ≡ q
  some_one e = cc

told_some : IsTold says_some
told_some = record {
  request = λ payload s. by payload s.0 s.1 s.2;
  other = λ p apart payload s. not_by p apart payload s.0 s.1 s.2;
} where
  by : (payload : List ℕ) (m : Message) → Spells payload m → packet_in m ≡ Some Req → ((opcode_of payload == 1) || (opcode_of payload == 2)) ≡ true
  by payload (Message.Request asked) s is = request_begins payload asked s
  by payload _ s is = absurd (cc)

  no_request : (payload : List ℕ) (p : MachinePacket) (m : Message) → (p ≡ Req → ⊥) → Spells payload m → packet_in m ≡ Some p → (b : Bool) → ((opcode_of payload == 1) || (opcode_of payload == 2)) ≡ b → b ≡ false
  no_request payload p m apart s is false e = refl
  no_request payload p m apart s is true e =
      let (asked, at) = begins_asked payload m s e in
      let both : Some Req ≡ Some p = sym (ap packet_in at) ∙ is in
      absurd (apart (cc))

  not_by : (p : MachinePacket) → (p ≡ Req → ⊥) → (payload : List ℕ) (m : Message) → Spells payload m → packet_in m ≡ Some p → ((opcode_of payload == 1) || (opcode_of payload == 2)) ≡ false
  not_by p apart payload m s is = no_request payload p m apart s is ((opcode_of payload == 1) || (opcode_of payload == 2)) refl

-- ---- one division

no_stray_route : (p : MachinePacket) → packet_route p ≡ Route.Stray → ⊥
no_stray_route Req e = cc
no_stray_route _ e = cc

no_answer_route : (p : MachinePacket) → packet_route p ≡ Route.StrayAnswer → ⊥
no_answer_route Req e = cc
no_answer_route _ e = cc

deed_one : (a b : Deed) → dir_of a ≡ dir_of b → packet_of a ≡ packet_of b → a ≡ b
deed_one (Sent p) (Sent q) way is = ap Sent is
deed_one (Took p) (Took q) way is = ap Took is
deed_one _ _ way is = absurd (cc)

label_one : (d : Datagram) (a b : Label) → label_route a ≡ label_route b → SaysAsBy says_some d a → SaysAsBy says_some d b → a ≡ b
label_one d (Main a) (Main b) e (way, s) (gone, t) = ap Main (deed_one a b (sym way ∙ gone) (packet_one d.payload (packet_of a) (packet_of b) s t))
label_one d (Main a) Stray e s t = absurd (no_stray_route (packet_of a) e)
label_one d (Main a) StrayAnswer e s t = absurd (no_answer_route (packet_of a) e)
label_one d Stray (Main b) e s t = absurd (no_stray_route (packet_of b) (sym e))
label_one d StrayAnswer (Main b) e s t = absurd (no_answer_route (packet_of b) (sym e))
label_one d Stray Stray e s t = refl
label_one d StrayAnswer StrayAnswer e s t = refl
label_one d Stray StrayAnswer e s t = absurd (cc)
label_one d StrayAnswer Stray e s t = absurd (cc)

module _ (h : Header) where
  pub division_one : (a b : Division) → datagrams_of a ≡ datagrams_of b → AreRoutedBy h says_some a → AreRoutedBy h says_some b → a ≡ b
  division_one [] [] e x y = refl
  division_one [] (q ∷ b) e x y = absurd (cc)
  division_one (p ∷ a) [] e x y = absurd (cc)
  division_one (p ∷ a) (q ∷ b) e x y =
      let head : p.datagram ≡ q.datagram = cc in
      let rest : datagrams_of a ≡ datagrams_of b = cc in
      let route : route_of h (datagrams_of a) p.datagram ≡ route_of h (datagrams_of b) q.datagram = λ i. route_of h (rest i) (head i) in
      let label = label_one p.datagram p.label q.label (sym x.0 ∙ route ∙ y.0) x.1 (subst (λ d. SaysAsBy says_some d q.label) (sym head) y.1) in
      let tail = division_one a b rest x.2 y.2 in
      λ i. record { datagram = head i; label = label i } ∷ tail i

  pub divides_routed : (earlier : List Datagram) → (x : Divides h earlier) → AreRoutedBy h says_some x.division
  divides_routed earlier x = routed_by h says_some told_some x.ids x.division x.labels x.starts

  pub divides_one : (earlier : List Datagram) (x y : Divides h earlier) → x.division ≡ y.division
  divides_one earlier x y = division_one x.division y.division (x.whole ∙ sym y.whole) (divides_routed earlier x) (divides_routed earlier y)

  -- ---- a list that finds its places divides

  record Routed (earlier : List Datagram) : Type 0 where
    division : Division
    whole : datagrams_of division ≡ earlier
    starts : Starts h.named (view_in division)
    routed : AreRoutedBy h says_some division

  no_deed : (d : Datagram) (label : Label) (earlier : Division) → view_in (one d label earlier) ≡ [] → view_in earlier ≡ []
  no_deed d (Main deed) earlier e = absurd (cc)
  no_deed d Stray earlier e = e
  no_deed d StrayAnswer earlier e = e

  request_deed : (d : Datagram) (label : Label) (earlier : Division) → label_route label ≡ Route.Request → view_in (one d label earlier) ≡ [] → ⊥
  request_deed d (Main deed) earlier is e = cc
  request_deed d _ earlier is e = cc

  asked_view : (division : Division) → AreRoutedBy h says_some division → (d : Datagram) → first_of (asks h) (datagrams_of division) ≡ Some d → view_in division ≡ [] → ⊥
  asked_view [] routed d is e = cc
  asked_view (p ∷ earlier) routed d is e = elim (or_some (first_of (asks h) (datagrams_of earlier)) (asks h p.datagram) p.datagram d is) [
    | inl before ↦ asked_view earlier routed.2 d before (no_deed p.datagram p.label earlier e)
    | inr now ↦ request_deed p.datagram p.label earlier (sym routed.0 ∙ asks_route h (datagrams_of earlier) p.datagram now.0 now.1) e
  ]

  not_both_ways : (e : End) → request_at e ≡ request_back e → ⊥
  not_both_ways Client e = cc
  not_both_ways Server e = cc

  abbrev deed_at : Dir → MachinePacket → Deed
  deed_at Out p = Sent p
  deed_at In p = Took p

  at_dir : (dir : Dir) (p : MachinePacket) → (dir ≡ dir_of (deed_at dir p)) × (packet_of (deed_at dir p) ≡ p)
  at_dir Out p = (refl, refl)
  at_dir In p = (refl, refl)

  back_asks : (e : End) → packet_of (request_back e) ≡ Req
  back_asks Client = refl
  back_asks Server = refl

  front_asks : (e : End) → packet_of (request_at e) ≡ Req
  front_asks Client = refl
  front_asks Server = refl

  module _ (x : Division) (starts : Starts h.named (view_in x)) (routed : AreRoutedBy h says_some x) (d : Datagram) where
    abbrev ds : List Datagram
    ds = datagrams_of x

    abbrev More : Type 0
    More = (label : Label) × Starts h.named (view_in (one d label x)) × (route_of h ds d ≡ label_route label) × SaysAsBy says_some d label

    add_request : (m : Message) → Spells d.payload m → route_of h ds d ≡ Route.Request → More
    add_request m s is =
        let (way, begins) = request_is h ds d is in
        let (asked, at) = begins_asked d.payload m s begins in
        let asks_so = front_asks h.named in (
          Main (request_at h.named),
          (record { first = λ e. refl; not_back = not_both_ways h.named }, starts),
          is ∙ ap packet_route (sym asks_so),
          (way, (m, s, ap packet_in at ∙ ap (λ p. Some p) (sym asks_so))),
        )

    add_peer : FindsPlace h ds d → (p : MachinePacket) → (p ≡ Req → ⊥) → packet_route p ≡ Route.Peer → (m : Message) → Spells d.payload m → packet_in m ≡ Some p → route_of h ds d ≡ Route.Peer → More
    add_peer place p apart peer m s at is =
        let (way, same) = at_dir d.dir p in (
          Main (deed_at d.dir p),
          (
            record {
              first = λ e. absurd (elim (two_ways (first_of (asks h) ds)) [
                | inl none ↦ place.lawful Rule.NoRequest (omega arith) (none, is)
                | inr some ↦ asked_view x routed some.0 some.1 e
              ]);
              not_back = λ e. apart (sym same ∙ ap packet_of e ∙ back_asks h.named);
            },
            starts,
          ),
          is ∙ sym peer ∙ ap packet_route (sym same),
          (way, (m, s, at ∙ ap (λ q. Some q) (sym same))),
        )

    add_said : FindsPlace h ds d → (m : Message) → Spells d.payload m → route_of h ds d ≡ Route.Peer → More
    add_said place (Message.Request asked) s is = absurd (place.not_back is asked s)
    add_said place (Message.Error code text) s is = add_peer place (Error code text) (λ e. cc) refl (Message.Error code text) s refl is
    add_said place (Message.Oack options) s is = add_peer place Oack (λ e. cc) refl (Message.Oack options) s refl is
    add_said place (Message.Data k bytes) s is = add_peer place (Data k) (λ e. cc) refl (Message.Data k bytes) s refl is
    add_said place (Message.Ack j) s is = add_peer place (Ack j) (λ e. cc) refl (Message.Ack j) s refl is

    add : FindsPlace h ds d → (r : Route) → route_of h ds d ≡ r → IsRead r d → More
    add place Route.Request is read = add_request read.0 read.1 is
    add place Route.Peer is read = add_said place read.0 read.1 is
    add place Route.Stray is read = (Stray, starts, is, tt)
    add place Route.StrayAnswer is read = (StrayAnswer, starts, is, read)
    add place _ is read = absurd read

  placed_routed : (earlier : List Datagram) → FindPlaces h earlier → Routed earlier
  placed_routed [] places = record { division = []; whole = refl; starts = tt; routed = tt }
  placed_routed (d ∷ earlier) places =
      let x = placed_routed earlier places.1 in
      let place = subst (λ ds. FindsPlace h ds d) (sym x.whole) places.0 in
      let (label, starts, route, says) = add x.division x.starts x.routed d place (route_of h (datagrams_of x.division) d) refl place.read in
      record { division = one d label x.division; whole = ap (λ ds. d ∷ ds) x.whole; starts = starts; routed = (route, says, x.routed) }

  pub placed_divides : (earlier : List Datagram) → FindPlaces h earlier → Divides h earlier
  placed_divides earlier places =
      let x = placed_routed earlier places in
      let p = parted h says_some x.division x.routed x.starts in
      record { division = x.division; whole = x.whole; starts = x.starts; ids = p.0; labels = p.1 }

  -- ---- and what divides finds its places

  read_of : (d : Datagram) (label : Label) → SaysAsBy says_some d label → IsRead (label_route label) d
  read_of d (Main deed) (way, (m, s, is)) = by (packet_of deed) where
    by : (p : MachinePacket) → IsRead (packet_route p) d
    by Req = (m, s)
    by _ = (m, s)
  read_of d Stray s = tt
  read_of d StrayAnswer s = s

  peer_main : (d : Datagram) (label : Label) → SaysAsBy says_some d label → label_route label ≡ Route.Peer → (deed : Deed) × (label ≡ Main deed) × says_some (packet_of deed) d.payload
  peer_main d (Main deed) s is = (deed, refl, s.1)
  peer_main d _ s is = absurd (cc)

  -- what is read as a packet of the transfer spells a message
  spelled : (r : Route) (d : Datagram) → is_of_transfer r ≡ true → IsRead r d → (m : Message) × Spells d.payload m
  spelled Route.Request d t read = read
  spelled Route.Peer d t read = read
  spelled _ d t read = absurd (cc)

  peer_is_other : (deed : Deed) → packet_route (packet_of deed) ≡ Route.Peer → packet_of deed ≡ Req → ⊥
  peer_is_other deed is e = let both : Route.Request ≡ Route.Peer = sym (ap packet_route e) ∙ is in cc

  first_main : (d : Datagram) (label : Label) (x : Division) → Starts h.named (view_in (one d label x)) → view_in x ≡ [] → label_route label ≡ Route.Peer → ⊥
  first_main d (Main deed) x starts empty is = peer_is_other deed is (ap packet_of (starts.0.first empty) ∙ front_asks h.named)
  first_main d _ x starts empty is = cc

  place_of : (x : Division) (d : Datagram) (label : Label) → Starts h.named (view_in (one d label x)) → AreRoutedBy h says_some (one d label x) → FindsPlace h (datagrams_of x) d
  place_of x d label starts routed = record {
    read = read;
    lawful = lawful;
    not_back = λ is asked s. back asked s (peer_main d label routed.1 (sym routed.0 ∙ is)) (sym routed.0 ∙ is);
  } where
    read : IsRead (route_of h (datagrams_of x) d) d
    read = subst (λ r. IsRead r d) (sym routed.0) (read_of d label routed.1)

    back : (asked : RequestParts) → Spells d.payload (Message.Request asked) → (deed : Deed) × (label ≡ Main deed) × says_some (packet_of deed) d.payload → label_route label ≡ Route.Peer → ⊥
    back asked s (deed, is, (m, t, at)) peer =
        let both : Some Req ≡ Some (packet_of deed) = ap packet_in (spelled_once d.payload (Message.Request asked) m s t) ∙ at in
        peer_is_other deed (ap label_route (sym is) ∙ peer) (cc)

    lawful : (rule : Rule) → number_of rule ≤ 5 → Broken h (datagrams_of x) d rule → ⊥
    lawful (Rule.Port PortRule.Foreign) low b = subst (λ r. IsRead r d) b read
    lawful (Rule.Port PortRule.Wrong) low b = subst (λ r. IsRead r d) b read
    lawful (Rule.Port PortRule.BadAnswer) low b = elim b [ inl is ↦ subst (λ r. IsRead r d) is read | inr is ↦ is.1 (subst (λ r. IsRead r d) is.0 read) ]
    lawful Rule.NoRequest low b = first_main d label x starts (none_view h says_some x routed.2 (starts_before h.named d label x starts) b.0) (sym routed.0 ∙ b.1)
    lawful (Rule.Malformed fault) low b = let (m, s) = spelled (route_of h (datagrams_of x) d) d b.0 read in no_fault d.payload m fault s.1 b.1.0
    lawful (Rule.Agreement broken) low b = omega (arith, low, agreement_from broken)
    lawful (Rule.Block e) low b = omega (arith, low, from_18 e)
    lawful _ low b = omega (arith, low)

  places_of : (x : Division) → Starts h.named (view_in x) → AreRoutedBy h says_some x → FindPlaces h (datagrams_of x)
  places_of [] starts routed = tt
  places_of (p ∷ x) starts routed = (place_of x p.datagram p.label starts routed, places_of x (starts_before h.named p.datagram p.label x starts) routed.2)

  pub divides_placed : (earlier : List Datagram) → Divides h earlier → FindPlaces h earlier
  divides_placed earlier x = subst (FindPlaces h) x.whole (places_of x.division x.starts (divides_routed earlier x))

-- ---- a division of a meaning is one

some_of : (m : Meaning) (wire : List ℕ) (p : MachinePacket) (payload : List ℕ) → says_of m wire p payload → says_some p payload
some_of m wire Req payload s = (message_of m wire Req, s, refl)
some_of m wire Oack payload s = (message_of m wire Oack, s, refl)
some_of m wire (Data k) payload s = (message_of m wire (Data k), s, refl)
some_of m wire (Ack j) payload s = (message_of m wire (Ack j), s, refl)
some_of m wire (Error code text) payload s = (message_of m wire (Error code text), s, refl)

label_some : (h : Header) (m : Meaning) (wire : List ℕ) (ids : TransferIds) (earlier : Division) (d : Datagram) (label : Label) → HasLabelBy h (says_of m wire) ids earlier d label → HasLabelBy h says_some ids earlier d label
label_some h m wire ids earlier d (Main deed) p = record { dir = p.dir; client = p.client; server = p.server; spells = some_of m wire (packet_of deed) d.payload p.spells }
label_some h m wire ids earlier d Stray p = p
label_some h m wire ids earlier d StrayAnswer p = p

labels_some : (h : Header) (m : Meaning) (wire : List ℕ) (ids : TransferIds) (division : Division) → HaveLabels h m wire ids division → HaveLabelsBy h says_some ids division
labels_some h m wire ids [] labels = tt
labels_some h m wire ids (p ∷ earlier) labels = (label_some h m wire ids earlier p.datagram p.label labels.0, labels_some h m wire ids earlier labels.1)

pub run_divides : (h : Header) (m : Meaning) (wire : List ℕ) (ids : TransferIds) (division : Division) → HaveLabels h m wire ids division → IsOneSided m wire h.named (view_in division)
    → HaveLabelsBy h says_some ids division × Starts h.named (view_in division)
run_divides h m wire ids division labels own = (labels_some h m wire ids division labels, starts_of h m wire ids division labels own)
