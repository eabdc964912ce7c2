-- Where each datagram passes, nothing comes before the first request, and what begins as it spells one.
use Rattle.std.proofs.Common.{◌≡◌, ◌⊎◌, ℕ, ◌<◌, Bool, true, false, List, [], ◌∷◌, Option, Some, None, inl, inr, refl, sym, subst, ap, ◌∙◌, if◌then◌else◌, arith, ◌&&◌, ◌||◌, ◌==◌}
use Rattle.std.proofs.lemmas.Bool.{and_parts, or_cases, eqb-true, false≢true}
use Rattle.tftp_packet.specs.{Message, RequestParts, Spells, opcode_of}
use Rattle.tftp_packet.specs.Hosts.{Datagram, Header}
use Rattle.law_model.specs.Rules.{Route, asks, first_of, or_this, begins_request, is_from_client, port_of_server, route_before, route_of, is_of_transfer, transfer_of}
use Rattle.law_end.specs.{FirstAsked, Rule, IsRead, OneEnded}
use Rattle.law_end.proofs.Spelled.{spelled_once}

-- ---- by the opcode

other_opcode : (payload : List ℕ) (n : ℕ) → opcode_of payload ≡ n → 2 < n → ((opcode_of payload == 1) || (opcode_of payload == 2)) ≡ true → ⊥
other_opcode payload n is high begins = elim (or_cases (opcode_of payload == 1) (opcode_of payload == 2) begins) [
  | inl read ↦ let e = eqb-true (opcode_of payload) 1 read in omega arith
  | inr write ↦ let e = eqb-true (opcode_of payload) 2 write in omega arith
]

pub begins_asked : (payload : List ℕ) (m : Message) → Spells payload m → ((opcode_of payload == 1) || (opcode_of payload == 2)) ≡ true → (asked : RequestParts) × (m ≡ Message.Request asked)
begins_asked payload (Message.Request asked) s begins = (asked, refl)
begins_asked payload (Message.Data k bytes) (b, (x, y, pair, is)) begins = absurd (other_opcode payload 3 (ap opcode_of is) (omega arith) begins)
begins_asked payload (Message.Ack j) (b, (x, y, pair, is)) begins = absurd (other_opcode payload 4 (ap opcode_of is) (omega arith) begins)
begins_asked payload (Message.Error code text) (b, (x, y, pair, string, is)) begins = absurd (other_opcode payload 5 (ap opcode_of is) (omega arith) begins)
begins_asked payload (Message.Oack options) (b, l) begins = absurd (other_opcode payload 6 (ap opcode_of l.bytes) (omega arith) begins)

-- ---- the first that passes a test

pub some_same : {X : Type 0} (a b : X) → Some a ≡ Some b → a ≡ b
some_same a b e = cc

pub request_same : (a b : RequestParts) → Message.Request a ≡ Message.Request b → a ≡ b
request_same a b e = cc

pub or_none : {X : Type 0} (o : Option X) (b : Bool) (x : X) → or_this o b x ≡ None → (o ≡ None) × (b ≡ false)
or_none None true x e = absurd (cc)
or_none None false x e = (refl, refl)
or_none (Some y) b x e = absurd (cc)

pub or_some : (o : Option Datagram) (b : Bool) (d x : Datagram) → or_this o b d ≡ Some x → (o ≡ Some x) ⊎ ((o ≡ None) × (b ≡ true) × (d ≡ x))
or_some (Some y) b d x e = inl e
or_some None true d x e = inr (refl, refl, cc)
or_some None false d x e = absurd (cc)

-- what was first stays first
pub first_stays : {X : Type 0} (test : X → Bool) (x y : X) (xs : List X) → first_of test xs ≡ Some y → first_of test (x ∷ xs) ≡ Some y
first_stays test x y xs is = ap (λ o. or_this o (test x) x) is

-- the first that passes a test passes it
pub first_passes : (test : Datagram → Bool) (ds : List Datagram) (x : Datagram) → first_of test ds ≡ Some x → test x ≡ true
first_passes test [] x is = absurd (cc)
first_passes test (d ∷ ds) x is = elim (or_some (first_of test ds) (test d) d x is) [
  | inl before ↦ first_passes test ds x before
  | inr this ↦ subst (λ y. test y ≡ true) this.2 this.1
]

-- its route, where none came before
asks_by : (b c : Bool) → (if b then (if c then Route.Request else Route.WrongPort) else Route.Peer) ≡ Route.Request → (b ≡ true) × (c ≡ true)
asks_by true true e = (refl, refl)
asks_by true false e = absurd (cc)
asks_by false c e = absurd (cc)

asked_by : (b c : Bool) → (b && c) ≡ true → (if b then (if c then Route.Request else Route.WrongPort) else Route.Peer) ≡ Route.Request
asked_by true true e = refl
asked_by true false e = absurd (false≢true e)
asked_by false c e = absurd (false≢true e)

pub before_is : (h : Header) (ds : List Datagram) (d : Datagram) → first_of (asks h) ds ≡ None → route_of h ds d ≡ route_before h d
before_is h ds d e = rw e

not_main : (r : Route) → (r ≡ Route.Request → ⊥) → (r ≡ Route.Peer → ⊥) → is_of_transfer r ≡ false
not_main Route.Request a b = absurd (a refl)
not_main Route.Peer a b = absurd (b refl)
not_main _ a b = refl

module _ (h : Header) where
  -- it goes from the client to the server as a request does, and to the service port
  abbrev from_begins : Datagram → Bool
  from_begins d = is_from_client h.named d && begins_request d

  abbrev to_service : Datagram → Bool
  to_service d = port_of_server h.named d == h.service

  pub asks_is : (ds : List Datagram) (d : Datagram) → first_of (asks h) ds ≡ None → route_of h ds d ≡ Route.Request → asks h d ≡ true
  asks_is ds d none is =
      let parts = asks_by (from_begins d) (to_service d) (sym (before_is h ds d none) ∙ is) in
      ap (λ (b : Bool). b && to_service d) parts.0 ∙ parts.1

  -- and what asks then has the route of a request
  pub asks_route : (ds : List Datagram) (d : Datagram) → first_of (asks h) ds ≡ None → asks h d ≡ true → route_of h ds d ≡ Route.Request
  asks_route ds d none t = before_is h ds d none ∙ asked_by (from_begins d) (to_service d) t

  pub none_before : (ds : List Datagram) → first_of (asks h) ds ≡ None → OneEnded h ds → transfer_of h ds ≡ []
  none_before [] none one = refl
  none_before (d ∷ ds) none one =
      let parts = or_none (first_of (asks h) ds) (asks h d) d none in
      let other = not_main (route_of h ds d)
      (λ is. false≢true (sym parts.1 ∙ asks_is ds d parts.0 is))
      (λ is. one.0.lawful Rule.NoRequest (parts.0, is)) in
      ap (λ (b : Bool). if b then d ∷ transfer_of h ds else transfer_of h ds) other ∙ none_before ds parts.0 one.1

  request_begins : (ds : List Datagram) (d : Datagram) → first_of (asks h) ds ≡ None → route_of h ds d ≡ Route.Request → begins_request d ≡ true
  request_begins ds d none is =
      let parts = asks_by (from_begins d) (to_service d) (sym (before_is h ds d none) ∙ is) in
      (and_parts (is_from_client h.named d) (begins_request d) parts.0).1

  -- what has the first request's route spells a request
  pub first_spells : (ds : List Datagram) (d : Datagram) (m : Message) → first_of (asks h) ds ≡ None → route_of h ds d ≡ Route.Request → Spells d.payload m → (asked : RequestParts) × (m ≡ Message.Request asked)
  first_spells ds d m none is s = begins_asked d.payload m s (request_begins ds d none is)

  request_read : (ds : List Datagram) (d : Datagram) → first_of (asks h) ds ≡ None → asks h d ≡ true → IsRead (route_of h ds d) d → (asked : RequestParts) × Spells d.payload (Message.Request asked)
  request_read ds d none t read =
      let route = asks_route ds d none t in
      let (m, s) = subst (λ r. IsRead r d) route read in
      let (asked, is) = first_spells ds d m none route s in
      (asked, subst (Spells d.payload) is s)

  pub first_asks : (ds : List Datagram) (d : Datagram) → first_of (asks h) ds ≡ Some d → OneEnded h ds → (asked : RequestParts) × Spells d.payload (Message.Request asked)
  first_asks [] d is one = absurd (cc)
  first_asks (x ∷ ds) d is one = elim (or_some (first_of (asks h) ds) (asks h x) x d is) [
    | inl before ↦ first_asks ds d before one.1
    | inr now ↦ subst (λ (y : Datagram). (asked : RequestParts) × Spells y.payload (Message.Request asked)) now.2 (request_read ds x now.0 now.1 one.0.read)
  ]

  pub asked_once : (ds : List Datagram) (a b : RequestParts) → FirstAsked h ds a → FirstAsked h ds b → a ≡ b
  asked_once ds a b (d, is, s) (e, at, t) =
      let same : d ≡ e = some_same d e (sym is ∙ at) in
      request_same a b (spelled_once d.payload (Message.Request a) (Message.Request b) s (subst (λ (y : Datagram). Spells y.payload (Message.Request b)) (sym same) t))
