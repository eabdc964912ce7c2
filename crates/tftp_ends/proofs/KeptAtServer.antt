-- At the server, what is kept stands for one datagram more after its client's first request.
use Rattle.std.proofs.Common.{◌≡◌, ℕ, Bool, true, false, List, ◌∷◌, Option, Some, None, refl, sym, ap, subst, ◌∙◌, ◌&&◌, ◌||◌, option_map}
use Rattle.std.proofs.lemmas.Bool.{false≢true}
use Rattle.tftp_packet.specs.{Server}
use Rattle.tftp_packet.specs.{Rollover}
use Rattle.tftp_packet.specs.Hosts.{Datagram, Header, PeerId, peer_of, same_peer}
use Rattle.law_model.specs.Rules.{Route, goes_out, asks, first_of, or_this, route_of}
use Rattle.tftp_ends.specs.{KnownIds, StandsFor, answers, is_noted, is_other, other_end, sides_of}
use Rattle.law_model.specs.Rules.Ports.Route.{Request, Peer, Stray, StrayAnswer}
use Rattle.tftp_ends.proofs.NotedPeers.{noted_out}
use Rattle.tftp_ends.proofs.RouteSides.{AtServer, at_server}
use Rattle.tftp_ends.proofs.KeptIds.{first_stays, or_kept, map_none, asked_is, answered_is, stands_on, stays_out, stays_in, strays_in, ComesFirst}

module _ (service : ℕ) (rollover : Option Rollover) where
  abbrev pub at : Header
  at = record { named = Server; service = service; rollover = rollover }

module _ (service : ℕ) (rollover : Option Rollover) (known : KnownIds) (earlier : List Datagram) (stands : StandsFor known (at service rollover) earlier) (d first : Datagram) (some : first_of (asks (at service rollover)) earlier ≡ Some first) where
  abbrev answer : Option Datagram
  answer = first_of (answers Server first) earlier

  routed : (r : Route) → r ≡ route_of (at service rollover) earlier d → AtServer r (goes_out d) (option_map (λ a. a.local) answer) (peer_of first) d
  routed r is =
      let route : route_of (at service rollover) earlier d ≡ _ = rw some refl in
      subst (λ x. AtServer x (goes_out d) (option_map (λ a. a.local) answer) (peer_of first) d) (sym (is ∙ route))
      (at_server (at service rollover) (peer_of first) (option_map (λ a. a.local) answer) earlier d)

  answered : (o : Option Datagram) → answer ≡ o → known.answered ≡ option_map sides_of o
  answered o e = answered_is (at service rollover) known earlier stands d first some ∙ ap (option_map sides_of) e

  client_known : other_end Server known.asked known.answered ≡ Some (peer_of first)
  client_known = ap (option_map (λ s. s.peer)) (asked_is (at service rollover) known earlier stands d first some)

  back_same : goes_out d ≡ false → first_of (answers Server first) (d ∷ earlier) ≡ answer
  back_same back = ap (λ b. or_this answer (b && same_peer (peer_of d) (peer_of first)) d) back ∙ or_kept answer d

  still : (a : Datagram) → answer ≡ Some a → first_of (answers Server first) (d ∷ earlier) ≡ answer
  still a e = first_stays (answers Server first) d a earlier e ∙ sym e

  in_stands : goes_out d ≡ false → same_peer (peer_of d) (peer_of first) ≡ true → StandsFor known (at service rollover) (d ∷ earlier)
  in_stands back there = stays_in (at service rollover) known earlier stands d first some back (back_same back) (peer_of first) client_known there

  pub request_stands : Request ≡ route_of (at service rollover) earlier d → StandsFor known (at service rollover) (d ∷ earlier)
  request_stands is = let told = routed Request is in in_stands told.0 told.1

  pub error_stands : StrayAnswer ≡ route_of (at service rollover) earlier d → StandsFor known (at service rollover) (d ∷ earlier)
  error_stands is = by answer refl (routed StrayAnswer is) where
    by : (o : Option Datagram) → answer ≡ o → AtServer StrayAnswer (goes_out d) (option_map (λ a. a.local) o) (peer_of first) d → StandsFor known (at service rollover) (d ∷ earlier)
    by None e told = absurd told
    by (Some a) e told = stays_out (at service rollover) known earlier stands d first some told (still a e)

  pub peer_stands : Peer ≡ route_of (at service rollover) earlier d → ComesFirst known Server d ≡ false → StandsFor known (at service rollover) (d ∷ earlier)
  peer_stands is later = by (goes_out d) refl answer refl (routed Peer is) where
    by : (b : Bool) → goes_out d ≡ b → (o : Option Datagram) → answer ≡ o → AtServer Peer b (option_map (λ a. a.local) o) (peer_of first) d → StandsFor known (at service rollover) (d ∷ earlier)
    by false back o e told = in_stands back told
    by true out (Some a) e told = stays_out (at service rollover) known earlier stands d first some out (still a e)
    by true out None e told =
        let none : known.answered ≡ None = answered None e in
        let begun = asked_is (at service rollover) known earlier stands d first some in
        absurd (false≢true (sym later ∙ rw (begun, none, out) refl))

  pub stray_stands : (more : List PeerId) → Stray ≡ route_of (at service rollover) earlier d
      → ((peer : PeerId) → is_noted peer more ≡ (same_peer (peer_of d) peer || is_noted peer known.strays))
      → StandsFor (record { header = known.header; asked = known.asked; answered = known.answered; strays = more }) (at service rollover) (d ∷ earlier)
  stray_stands more is adds =
      let told = routed Stray is in
      strays_in (at service rollover) known earlier stands d first some more told.0 (back_same told.0) (peer_of first) client_known told.1 adds

  pub answer_stands : Peer ≡ route_of (at service rollover) earlier d → goes_out d ≡ true → known.answered ≡ None
      → StandsFor (record { header = known.header; asked = known.asked; answered = Some (sides_of d); strays = known.strays }) (at service rollover) (d ∷ earlier)
  answer_stands is out none =
      let unknown : answer ≡ None = map_none sides_of answer (sym (answered answer refl) ∙ none) in
      let there : same_peer (peer_of d) (peer_of first) ≡ true = subst (λ o. AtServer Peer true (option_map (λ a. a.local) o) (peer_of first) d) unknown
      (subst (λ b. AtServer Peer b (option_map (λ a. a.local) answer) (peer_of first) d) out (routed Peer is)) in
      stands_on (at service rollover) known earlier stands d first some (record { header = known.header; asked = known.asked; answered = Some (sides_of d); strays = known.strays }) refl refl
      (rw (unknown, out, there) refl)
      (noted_out known.strays earlier d (other_end Server known.asked (Some (sides_of d))) out stands.strays)

  pub stray_apart : Stray ≡ route_of (at service rollover) earlier d → is_other (peer_of d) (other_end Server known.asked known.answered) ≡ false
  stray_apart is = let told = routed Stray is in ap (is_other (peer_of d)) client_known ∙ told.1
