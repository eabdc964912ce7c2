-- At the client, what is kept stands for one datagram more after its first request.
use Rattle.std.proofs.Common.{◌≡◌, ℕ, Bool, true, false, List, ◌∷◌, Option, Some, None, refl, sym, ap, subst, ◌∙◌, ◌||◌, not, option_map}
use Rattle.std.proofs.lemmas.Bool.{false≢true}
use Rattle.tftp_packet.specs.{Client}
use Rattle.tftp_packet.specs.{Rollover}
use Rattle.tftp_packet.specs.Hosts.{Datagram, Header, PeerId, peer_of, same_peer}
use Rattle.law_model.specs.Rules.{Route, goes_out, comes_in, asks, first_of, or_this, route_of}
use Rattle.tftp_ends.specs.{KnownIds, StandsFor, NotesStrays, is_noted, is_other, other_end, sides_of}
use Rattle.law_model.specs.Rules.Ports.Route.{Request, Peer, Stray, StrayAnswer}
use Rattle.tftp_ends.proofs.NotedPeers.{noted_first}
use Rattle.tftp_ends.proofs.RouteSides.{AtClient, at_client}
use Rattle.tftp_ends.proofs.KeptIds.{first_stays, or_kept, map_none, asked_is, answered_is, stands_on, stays_out, stays_in, strays_in, ComesFirst}

module _ (service : ℕ) (rollover : Option Rollover) where
  abbrev pub at : Header
  at = record { named = Client; service = service; rollover = rollover }

module _ (service : ℕ) (rollover : Option Rollover) (known : KnownIds) (earlier : List Datagram) (stands : StandsFor known (at service rollover) earlier) (d first : Datagram) (some : first_of (asks (at service rollover)) earlier ≡ Some first) where
  routed : (r : Route) → r ≡ route_of (at service rollover) earlier d → AtClient r (goes_out d) (option_map peer_of (first_of comes_in earlier)) d
  routed r is =
      let route : route_of (at service rollover) earlier d ≡ _ = rw some refl in
      subst (λ x. AtClient x (goes_out d) (option_map peer_of (first_of comes_in earlier)) d) (sym (is ∙ route))
      (at_client first.local (peer_of first) (option_map peer_of (first_of comes_in earlier)) earlier d)

  answered : (o : Option Datagram) → first_of comes_in earlier ≡ o → known.answered ≡ option_map sides_of o
  answered o e = answered_is (at service rollover) known earlier stands d first some ∙ ap (option_map sides_of) e

  out_stands : goes_out d ≡ true → StandsFor known (at service rollover) (d ∷ earlier)
  out_stands out = stays_out (at service rollover) known earlier stands d first some out
      (ap (λ b. or_this (first_of comes_in earlier) (not b) d) out ∙ or_kept (first_of comes_in earlier) d)

  pub request_stands : Request ≡ route_of (at service rollover) earlier d → StandsFor known (at service rollover) (d ∷ earlier)
  request_stands is = out_stands (routed Request is)

  pub error_stands : StrayAnswer ≡ route_of (at service rollover) earlier d → StandsFor known (at service rollover) (d ∷ earlier)
  error_stands is = out_stands (routed StrayAnswer is)

  known_server : (t : Datagram) → first_of comes_in earlier ≡ Some t → other_end Client known.asked known.answered ≡ Some (peer_of t)
  known_server t e = ap (option_map (λ s. s.peer)) (answered (Some t) e)

  still : (t : Datagram) → first_of comes_in earlier ≡ Some t → first_of comes_in (d ∷ earlier) ≡ first_of comes_in earlier
  still t e = first_stays comes_in d t earlier e ∙ sym e

  pub peer_stands : Peer ≡ route_of (at service rollover) earlier d → ComesFirst known Client d ≡ false → StandsFor known (at service rollover) (d ∷ earlier)
  peer_stands is later = by (goes_out d) refl (first_of comes_in earlier) refl (routed Peer is) where
    by : (b : Bool) → goes_out d ≡ b → (o : Option Datagram) → first_of comes_in earlier ≡ o → AtClient Peer b (option_map peer_of o) d → StandsFor known (at service rollover) (d ∷ earlier)
    by true out o e told = out_stands out
    by false back None e told =
        let none : known.answered ≡ None = answered None e in
        let begun = asked_is (at service rollover) known earlier stands d first some in
        absurd (false≢true (sym later ∙ rw (begun, none, back) refl))
    by false back (Some t) e told = stays_in (at service rollover) known earlier stands d first some back (still t e) (peer_of t) (known_server t e) told

  pub stray_stands : (more : List PeerId) → Stray ≡ route_of (at service rollover) earlier d
      → ((peer : PeerId) → is_noted peer more ≡ (same_peer (peer_of d) peer || is_noted peer known.strays))
      → StandsFor (record { header = known.header; asked = known.asked; answered = known.answered; strays = more }) (at service rollover) (d ∷ earlier)
  stray_stands more is adds = by (first_of comes_in earlier) refl (routed Stray is) where
    by : (o : Option Datagram) → first_of comes_in earlier ≡ o → AtClient Stray (goes_out d) (option_map peer_of o) d
        → StandsFor (record { header = known.header; asked = known.asked; answered = known.answered; strays = more }) (at service rollover) (d ∷ earlier)
    by None e told = absurd told
    by (Some t) e told = strays_in (at service rollover) known earlier stands d first some more told.0 (still t e) (peer_of t) (known_server t e) told.1 adds

  pub answer_stands : Peer ≡ route_of (at service rollover) earlier d → goes_out d ≡ false → known.answered ≡ None
      → StandsFor (record { header = known.header; asked = known.asked; answered = Some (sides_of d); strays = known.strays }) (at service rollover) (d ∷ earlier)
  answer_stands is back none =
      let unknown : first_of comes_in earlier ≡ None = map_none sides_of (first_of comes_in earlier) (sym (answered (first_of comes_in earlier) refl) ∙ none) in
      let notes : NotesStrays known.strays None earlier = subst (λ o. NotesStrays known.strays o earlier) (ap (option_map (λ s. s.peer)) none) stands.strays in
      stands_on (at service rollover) known earlier stands d first some (record { header = known.header; asked = known.asked; answered = Some (sides_of d); strays = known.strays }) refl refl
      (rw (unknown, back) refl)
      (noted_first known.strays earlier d back unknown notes)

  pub stray_apart : Stray ≡ route_of (at service rollover) earlier d → is_other (peer_of d) (other_end Client known.asked known.answered) ≡ false
  stray_apart is = by (first_of comes_in earlier) refl (routed Stray is) where
    by : (o : Option Datagram) → first_of comes_in earlier ≡ o → AtClient Stray (goes_out d) (option_map peer_of o) d → is_other (peer_of d) (other_end Client known.asked known.answered) ≡ false
    by None e told = absurd told
    by (Some t) e told = ap (is_other (peer_of d)) (known_server t e) ∙ told.1
