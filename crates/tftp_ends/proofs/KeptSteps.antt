-- What is kept tells the route of a datagram, and with it stands for one datagram more.
use Rattle.std.proofs.Common.{◌≡◌, ◌⊎◌, inl, inr, ℕ, Bool, true, false, List, ◌∷◌, Option, Some, None, refl, sym, ap, subst, ◌∙◌, if◌then◌else◌, ◌==◌, ◌&&◌, ◌||◌, not, is_some, option_map, Ok, Err}
use Rattle.std.proofs.lemmas.Bool.{false≢true, and_parts}
use Rattle.tftp_packet.specs.Hosts.{Datagram, Header, PeerId, peer_of, same_peer}
use Rattle.tftp_packet.specs.{Rollover}
use Rattle.tftp_packet.specs.{Dir}
use Rattle.tftp_packet.specs.{End, Client, Server}
use Rattle.law_model.specs.Rules.{Route, goes_out, comes_in, asks, begins_request, first_of, has_come_from, is_from_client, port_of_server, route_before, route_at_client, route_at_server, route_of}
use Rattle.tftp_ends.specs.{KnownIds, StandsFor, NotesStrays, HasNumbers, HasNoRequest, among_all, answers, answer_of, is_noted, is_other, other_end, sides_of, Route as MayPass, PortFault, Sides}
use Rattle.law_model.specs.Rules.Ports.Route.{Request, Peer, Stray, StrayAnswer, WrongPort, ForeignPort, NoStrayAnswer}
use Rattle.tftp_ends.specs.declared.route.Route.TheVariants as may
use Rattle.tftp_ends.proofs.KeptIds.{two_ways, answered_is, ComesFirst}
use Rattle.tftp_ends.proofs.KeptAtClient as client
use Rattle.tftp_ends.proofs.KeptAtServer as server

map_some : (o : Option Datagram) (sides : Sides) → option_map sides_of o ≡ Some sides → (first : Datagram) × (o ≡ Some first) × (sides_of first ≡ sides)
map_some None sides e = absurd (cc)
map_some (Some first) sides e = (first, refl, cc)

map_peer : (o : Option Datagram) → option_map (λ s. s.peer) (option_map sides_of o) ≡ option_map peer_of o
map_peer None = refl
map_peer (Some d) = refl

map_local : (o : Option Datagram) → option_map (λ s. s.local) (option_map sides_of o) ≡ option_map (λ d. d.local) o
map_local None = refl
map_local (Some d) = refl

first_asked : (h : Header) (known : KnownIds) (earlier : List Datagram) → StandsFor known h earlier → (sides : Sides) → known.asked ≡ Some sides
    → (first : Datagram) × (first_of (asks h) earlier ≡ Some first) × (sides_of first ≡ sides)
first_asked h known earlier stands sides is = map_some (first_of (asks h) earlier) sides (sym stands.asked ∙ is)

-- ---- the route after the first request

at_client : (service : ℕ) (rollover : Option Rollover) (known : KnownIds) (earlier : List Datagram) (d : Datagram) → StandsFor known (client.at service rollover) earlier → (sides : Sides) → known.asked ≡ Some sides
    → route_at_client sides.local sides.peer (option_map (λ s. s.peer) known.answered) earlier d ≡ route_of (client.at service rollover) earlier d
at_client service rollover known earlier d stands sides is =
    let (first, some, same) = first_asked (client.at service rollover) known earlier stands sides is in
    let whence = ap (option_map (λ s. s.peer)) (answered_is (client.at service rollover) known earlier stands d first some) ∙ map_peer (first_of comes_in earlier) in
    let route : route_of (client.at service rollover) earlier d ≡ route_at_client first.local (peer_of first) (option_map peer_of (first_of comes_in earlier)) earlier d = rw some refl in
    (let back = sym same in λ i. route_at_client (back i).local (back i).peer (whence i) earlier d) ∙ sym route

-- the route at a server is the same, whatever comes after block 65535
whatever_comes : (service : ℕ) (rollover : Option Rollover) (client : PeerId) (own : Option ℕ) (earlier : List Datagram) (d : Datagram)
    → route_at_server (server.at service None) client own earlier d ≡ route_at_server (server.at service rollover) client own earlier d
whatever_comes service rollover client None earlier d = refl
whatever_comes service rollover client (Some own) earlier d = refl

at_server : (service : ℕ) (rollover : Option Rollover) (known : KnownIds) (earlier : List Datagram) (d : Datagram) → StandsFor known (server.at service rollover) earlier → (sides : Sides) → known.asked ≡ Some sides
    → route_at_server known.header sides.peer (option_map (λ s. s.local) known.answered) earlier d ≡ route_of (server.at service rollover) earlier d
at_server service rollover known earlier d stands sides is =
    let (first, some, same) = first_asked (server.at service rollover) known earlier stands sides is in
    let own = ap (option_map (λ s. s.local)) (answered_is (server.at service rollover) known earlier stands d first some) ∙ map_local (first_of (answers Server first) earlier) in
    let route : route_of (server.at service rollover) earlier d ≡ route_at_server (server.at service rollover) (peer_of first) (option_map (λ d. d.local) (first_of (answers Server first) earlier)) earlier d = rw some refl in
    let back = sym same in
    let header = stands.header in
    (λ i. route_at_server (header i) (back i).peer (own i) earlier d)
    ∙ whatever_comes service rollover (peer_of first) (option_map (λ d. d.local) (first_of (answers Server first) earlier)) earlier d ∙ sym route

is_named : (named : End) (h : Header) → h.named ≡ named → record { named = named; service = h.service; rollover = h.rollover } ≡ h
is_named named h e = let back = sym e in λ i. record { named = back i; service = h.service; rollover = h.rollover }

module _ (h : Header) (known : KnownIds) (earlier : List Datagram) (stands : StandsFor known h earlier) (d : Datagram) (sides : Sides) (asked : known.asked ≡ Some sides) where
  named_is : (named : End) → known.header.named ≡ named → h.named ≡ named
  named_is named e = ap (λ (x : Header). x.named) (sym stands.header) ∙ e

  pub routed_at_client : known.header.named ≡ Client → route_at_client sides.local sides.peer (option_map (λ s. s.peer) known.answered) earlier d ≡ route_of h earlier d
  routed_at_client e =
      let is = is_named Client h (named_is Client e) in
      at_client h.service h.rollover known earlier d (subst (λ x. StandsFor known x earlier) (sym is) stands) sides asked ∙ ap (λ x. route_of x earlier d) is

  pub notes_at_client : known.header.named ≡ Client → NotesStrays known.strays (option_map (λ s. s.peer) known.answered) earlier
  notes_at_client e = subst (λ n. NotesStrays known.strays (other_end n known.asked known.answered) earlier) (named_is Client e) stands.strays

  pub routed_at_server : known.header.named ≡ Server → route_at_server known.header sides.peer (option_map (λ s. s.local) known.answered) earlier d ≡ route_of h earlier d
  routed_at_server e =
      let is = is_named Server h (named_is Server e) in
      at_server h.service h.rollover known earlier d (subst (λ x. StandsFor known x earlier) (sym is) stands) sides asked ∙ ap (λ x. route_of x earlier d) is

  pub notes_at_server : known.header.named ≡ Server → NotesStrays known.strays (Some sides.peer) earlier
  notes_at_server e = subst (λ o. NotesStrays known.strays (option_map (λ s. s.peer) o) earlier) asked
      (subst (λ n. NotesStrays known.strays (other_end n known.asked known.answered) earlier) (named_is Server e) stands.strays)

-- ---- one datagram more

is_false : (b : Bool) → not b ≡ true → b ≡ false
is_false true e = absurd (false≢true e)
is_false false e = refl

and_true : (b : Bool) → b ≡ (b && true)
and_true true = refl
and_true false = refl

is_true : (b : Bool) → not (not b) ≡ true → b ≡ true
is_true true e = refl
is_true false e = absurd (false≢true e)

is_none : {X : Type 0} (o : Option X) → not (is_some o) ≡ true → o ≡ None
is_none None e = refl
is_none (Some x) e = absurd (false≢true e)

module _ (known : KnownIds) (earlier : List Datagram) (d : Datagram) where
  abbrev at : End → ℕ → Option Rollover → Header
  at named service rollover = record { named = named; service = service; rollover = rollover }

  request_by : (named : End) (service : ℕ) (rollover : Option Rollover) → StandsFor known (at named service rollover) earlier → (first : Datagram) → first_of (asks (at named service rollover)) earlier ≡ Some first
      → Request ≡ route_of (at named service rollover) earlier d → StandsFor known (at named service rollover) (d ∷ earlier)
  request_by Client service rollover stands first some is = client.request_stands service rollover known earlier stands d first some is
  request_by Server service rollover stands first some is = server.request_stands service rollover known earlier stands d first some is

  error_by : (named : End) (service : ℕ) (rollover : Option Rollover) → StandsFor known (at named service rollover) earlier → (first : Datagram) → first_of (asks (at named service rollover)) earlier ≡ Some first
      → StrayAnswer ≡ route_of (at named service rollover) earlier d → StandsFor known (at named service rollover) (d ∷ earlier)
  error_by Client service rollover stands first some is = client.error_stands service rollover known earlier stands d first some is
  error_by Server service rollover stands first some is = server.error_stands service rollover known earlier stands d first some is

  peer_by : (named : End) (service : ℕ) (rollover : Option Rollover) → StandsFor known (at named service rollover) earlier → (first : Datagram) → first_of (asks (at named service rollover)) earlier ≡ Some first
      → Peer ≡ route_of (at named service rollover) earlier d → ComesFirst known named d ≡ false → StandsFor known (at named service rollover) (d ∷ earlier)
  peer_by Client service rollover stands first some is later = client.peer_stands service rollover known earlier stands d first some is later
  peer_by Server service rollover stands first some is later = server.peer_stands service rollover known earlier stands d first some is later

  stray_by : (named : End) (service : ℕ) (rollover : Option Rollover) → StandsFor known (at named service rollover) earlier → (first : Datagram) → first_of (asks (at named service rollover)) earlier ≡ Some first
      → (more : List PeerId) → Stray ≡ route_of (at named service rollover) earlier d
      → ((peer : PeerId) → is_noted peer more ≡ (same_peer (peer_of d) peer || is_noted peer known.strays))
      → StandsFor (record { header = known.header; asked = known.asked; answered = known.answered; strays = more }) (at named service rollover) (d ∷ earlier)
  stray_by Client service rollover stands first some more is adds = client.stray_stands service rollover known earlier stands d first some more is adds
  stray_by Server service rollover stands first some more is adds = server.stray_stands service rollover known earlier stands d first some more is adds

  answer_by : (named : End) (service : ℕ) (rollover : Option Rollover) → StandsFor known (at named service rollover) earlier → (first : Datagram) → first_of (asks (at named service rollover)) earlier ≡ Some first
      → Peer ≡ route_of (at named service rollover) earlier d → not (is_from_client named d) ≡ true → known.answered ≡ None
      → StandsFor (record { header = known.header; asked = known.asked; answered = Some (sides_of d); strays = known.strays }) (at named service rollover) (d ∷ earlier)
  answer_by Client service rollover stands first some is back none = client.answer_stands service rollover known earlier stands d first some is (is_false (goes_out d) back) none
  answer_by Server service rollover stands first some is out none = server.answer_stands service rollover known earlier stands d first some is (is_true (goes_out d) out) none

  apart_by : (named : End) (service : ℕ) (rollover : Option Rollover) → StandsFor known (at named service rollover) earlier → (first : Datagram) → first_of (asks (at named service rollover)) earlier ≡ Some first
      → Stray ≡ route_of (at named service rollover) earlier d → is_other (peer_of d) (other_end named known.asked known.answered) ≡ false
  apart_by Client service rollover stands first some is = client.stray_apart service rollover known earlier stands d first some is
  apart_by Server service rollover stands first some is = server.stray_apart service rollover known earlier stands d first some is

-- till the first request there are no strays
no_strays : (b c : Bool) (r : Route) → r ≡ (if b then (if c then Request else WrongPort) else Peer) → (r ≡ Stray) ⊎ (r ≡ StrayAnswer) → ⊥
no_strays b c Request e stray = elim stray [ inl one ↦ absurd (cc) | inr other ↦ absurd (cc) ]
no_strays b c Peer e stray = elim stray [ inl one ↦ absurd (cc) | inr other ↦ absurd (cc) ]
no_strays true true Stray e stray = absurd (cc)
no_strays true false Stray e stray = absurd (cc)
no_strays false c Stray e stray = absurd (cc)
no_strays true true StrayAnswer e stray = absurd (cc)
no_strays true false StrayAnswer e stray = absurd (cc)
no_strays false c StrayAnswer e stray = absurd (cc)
no_strays b c ForeignPort e stray = elim stray [ inl one ↦ absurd (cc) | inr other ↦ absurd (cc) ]
no_strays b c WrongPort e stray = elim stray [ inl one ↦ absurd (cc) | inr other ↦ absurd (cc) ]
no_strays b c NoStrayAnswer e stray = elim stray [ inl one ↦ absurd (cc) | inr other ↦ absurd (cc) ]

pub never_first : (known : KnownIds) (named : End) (d : Datagram) → known.asked ≡ None → ComesFirst known named d ≡ false
never_first known named d none = rw none refl

module _ (h : Header) (known : KnownIds) (earlier : List Datagram) (stands : StandsFor known h earlier) (d : Datagram) where
  first_here : ComesFirst known h.named d ≡ ComesFirst known known.header.named d
  first_here = ap (λ (x : Header). ComesFirst known x.named d) (sym stands.header)

  asked_none : first_of (asks h) earlier ≡ None → known.asked ≡ None
  asked_none none = stands.asked ∙ ap (option_map sides_of) none

  begun : (r : Route) → r ≡ route_of h earlier d → (r ≡ Stray) ⊎ (r ≡ StrayAnswer) → (first : Datagram) × (first_of (asks h) earlier ≡ Some first)
  begun r is stray = elim (two_ways (first_of (asks h) earlier)) [
    | inl none ↦
        let before : route_of h earlier d ≡ route_before h d = rw none refl in
        absurd (no_strays (is_from_client h.named d && begins_request d) (port_of_server h.named d == h.service) r (is ∙ before) stray)
    | inr some ↦ some
  ]

  pub request_stands : Request ≡ route_of h earlier d → is_some known.asked ≡ true → StandsFor known h (d ∷ earlier)
  request_stands is asked = elim (two_ways (first_of (asks h) earlier)) [
    | inl none ↦ absurd (false≢true (ap is_some (sym (asked_none none)) ∙ asked))
    | inr some ↦ request_by known earlier d h.named h.service h.rollover stands some.0 some.1 is
  ]

  pub peer_stands : Peer ≡ route_of h earlier d → (HasNoRequest h earlier d → ⊥) → ComesFirst known known.header.named d ≡ false → StandsFor known h (d ∷ earlier)
  peer_stands is has later = elim (two_ways (first_of (asks h) earlier)) [
    | inl none ↦ absurd (has (none, sym is))
    | inr some ↦ peer_by known earlier d h.named h.service h.rollover stands some.0 some.1 is (first_here ∙ later)
  ]

  pub error_stands : StrayAnswer ≡ route_of h earlier d → StandsFor known h (d ∷ earlier)
  error_stands is = let some = begun StrayAnswer is (inr refl) in error_by known earlier d h.named h.service h.rollover stands some.0 some.1 is

  pub stray_stands : (more : List PeerId) → Stray ≡ route_of h earlier d
      → ((peer : PeerId) → is_noted peer more ≡ (same_peer (peer_of d) peer || is_noted peer known.strays))
      → StandsFor (record { header = known.header; asked = known.asked; answered = known.answered; strays = more }) h (d ∷ earlier)
  stray_stands more is adds = let some = begun Stray is (inl refl) in stray_by known earlier d h.named h.service h.rollover stands some.0 some.1 more is adds

  pub answer_stands : Peer ≡ route_of h earlier d → ComesFirst known known.header.named d ≡ true
      → StandsFor (record { header = known.header; asked = known.asked; answered = Some (sides_of d); strays = known.strays }) h (d ∷ earlier)
  answer_stands is now =
      let parts = and_parts (is_some known.asked && not (is_some known.answered)) (not (is_from_client h.named d)) (first_here ∙ now) in
      let more = and_parts (is_some known.asked) (not (is_some known.answered)) parts.0 in
      elim (two_ways (first_of (asks h) earlier)) [
        | inl none ↦ absurd (false≢true (ap is_some (sym (asked_none none)) ∙ more.0))
        | inr some ↦ answer_by known earlier d h.named h.service h.rollover stands some.0 some.1 is parts.1 (is_none known.answered more.1)
      ]

  -- a stray that was not noted is from where nothing has come
  pub new_stray : Stray ≡ route_of h earlier d → is_noted (peer_of d) known.strays ≡ false → has_come_from (peer_of d) earlier ≡ false
  new_stray is new =
      let some = begun Stray is (inl refl) in
      let apart = apart_by known earlier d h.named h.service h.rollover stands some.0 some.1 is in
      and_true (has_come_from (peer_of d) earlier) ∙ ap (λ b. has_come_from (peer_of d) earlier && not b) (sym apart) ∙ sym (stands.strays (peer_of d)) ∙ new

-- ---- a datagram with these numbers

pub same_numbers : (d : Datagram) (way : Dir) (own : ℕ) (name : List ℕ) (port code : ℕ) → HasNumbers d way own name port code
    → record { dir = way; local = own; host = name; remote = port; payload = d.payload } ≡ d
same_numbers d way own name port code has =
    let dir = sym has.dir in
    let local = sym has.local in
    let host = sym has.host in
    let remote = sym has.remote in
    λ i. record { dir = dir i; local = local i; host = host i; remote = remote i; payload = d.payload }

-- what passes has its own route
pub passing_is : (route : Route) (passed : MayPass) → Ok passed ≡ answer_of route → among_all passed ≡ route
passing_is Request passed e = let same : may.Request ≡ passed = cc in sym (ap among_all same)
passing_is Peer passed e = let same : may.Peer ≡ passed = cc in sym (ap among_all same)
passing_is Stray passed e = let same : may.Stray ≡ passed = cc in sym (ap among_all same)
passing_is StrayAnswer passed e = let same : may.StrayAnswer ≡ passed = cc in sym (ap among_all same)
passing_is ForeignPort passed e = absurd (cc)
passing_is WrongPort passed e = absurd (cc)
passing_is NoStrayAnswer passed e = absurd (cc)

-- no route is being out of memory
pub route_takes_none : (route : Route) → Err PortFault.Memory ≡ answer_of route → ⊥
route_takes_none Request e = cc
route_takes_none Peer e = cc
route_takes_none Stray e = cc
route_takes_none StrayAnswer e = cc
route_takes_none ForeignPort e = cc
route_takes_none WrongPort e = cc
route_takes_none NoStrayAnswer e = cc
