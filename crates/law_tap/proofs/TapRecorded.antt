-- What is kept of a division, as the receiver's capture.
use Rattle.std.proofs.Common.{◌≡◌, ◌⊎◌, Bool, true, false, List, [], ◌∷◌, Any, inl, inr, refl, sym, subst, ap, ◌∙◌, map}
use Rattle.std.specs.List.{list_any}
use Rattle.std.proofs.lemmas.Bool.{true≢false, cases_Bool}
use Rattle.tftp_packet.specs.{End, Client, Server}
use Rattle.tftp_packet.specs.Hosts.{Datagram, Header, peer_of, same_peer}
use Rattle.tftp_packet.specs.{In, Out}
use Rattle.law_model.specs.Model.Machines.{other_end}
use Rattle.law_model.specs.Model.{MachinePacket, Req, Oack, Data, Ack, Error}
use Rattle.law_end.specs.{from_server, Main, Labelled, Division, datagrams_of, view_in, TransferIds, Saying, GoesToServer, Carries, HaveLabelsBy, AreRoutedBy, Stands, Starts, request_at, request_back, says_some}
use Rattle.law_end.proofs.Division.RouteTests.{same_is, IsTold}
use Rattle.law_end.proofs.Division.Routed.{routed_by}
use Rattle.law_end.proofs.Division.Divided.{any_first, any_later}
use Rattle.law_tap.specs.{Pass, deed_at, as_at, TapDatagram, TapSides, side_of, AreApart, Tests, is_left_out, kept_of, same_end, pass_tests, TapLabel, TapDivision, passed_of, GoesThere, CarriesPass, HasTapLabel, HaveTapLabels, tap_tests, recorded_at}
use Rattle.law_tap.specs.TapDress as tap
use Rattle.law_tap.proofs.KeptOf.{kept_out, kept_in, any_skip}
use Rattle.law_tap.proofs.TapTests.{source_is, asks_some, ends_some}
use Rattle.law_tap.proofs.TapRouted.{Carried, add_main, mains}

-- ---- lists kept by tests that agree

pub record Agrees {X Y : Type 0} (f : X → Y) (t : Tests X) (u : Tests Y) (x : X) : Type 0 where
  pub asks : u.asks (f x) ≡ t.asks x
  pub answers : u.answers (f x) ≡ t.answers x
  pub ends : (e : End) → u.ends e (f x) ≡ t.ends e x

abbrev pub Each : {X : Type 0} → (X → Type 0) → List X → Type 0
Each P [] = Unit {0}
Each P (x ∷ xs) = P x × Each P xs

pub kept_each : {X : Type 0} (P : X → Type 0) (t : Tests X) (r : End) (xs : List X) → Each P xs → Each P (kept_of t r xs)
kept_each P t r [] each = tt
kept_each P t r (x ∷ xs) each = elim (cases_Bool (is_left_out t r x (kept_of t r xs))) [
  | inl out ↦ subst (Each P) (sym (kept_out t r x xs out)) (kept_each P t r xs each.1)
  | inr stays ↦ subst (Each P) (sym (kept_in t r x xs stays)) (each.0, kept_each P t r xs each.1)
]

module _ {X Y : Type 0} (f : X → Y) (t : Tests X) (u : Tests Y) where
  pub any_map : (one : X → Bool) (other : Y → Bool) (xs : List X) → Each (λ x. other (f x) ≡ one x) xs → list_any other (map f xs) ≡ list_any one xs
  any_map one other [] each = refl
  any_map one other (x ∷ xs) each = rw (each.0, any_map one other xs each.1) refl

  asks_each : (xs : List X) → Each (Agrees f t u) xs → Each (λ x. u.asks (f x) ≡ t.asks x) xs
  asks_each [] each = tt
  asks_each (x ∷ xs) each = (each.0.asks, asks_each xs each.1)

  answers_each : (xs : List X) → Each (Agrees f t u) xs → Each (λ x. u.answers (f x) ≡ t.answers x) xs
  answers_each [] each = tt
  answers_each (x ∷ xs) each = (each.0.answers, answers_each xs each.1)

  ends_each : (e : End) (xs : List X) → Each (Agrees f t u) xs → Each (λ x. u.ends e (f x) ≡ t.ends e x) xs
  ends_each e [] each = tt
  ends_each e (x ∷ xs) each = (each.0.ends e, ends_each e xs each.1)

  pub asks_same : (xs : List X) → Each (Agrees f t u) xs → list_any u.asks (map f xs) ≡ list_any t.asks xs
  asks_same xs each = any_map t.asks u.asks xs (asks_each xs each)

  pub answers_same : (xs : List X) → Each (Agrees f t u) xs → list_any u.answers (map f xs) ≡ list_any t.answers xs
  answers_same xs each = any_map t.answers u.answers xs (answers_each xs each)

  pub ends_same : (e : End) (xs : List X) → Each (Agrees f t u) xs → list_any (u.ends e) (map f xs) ≡ list_any (t.ends e) xs
  ends_same e xs each = any_map (t.ends e) (u.ends e) xs (ends_each e xs each)

  pub out_same : (r : End) (x : X) (xs : List X) → Agrees f t u x → Each (Agrees f t u) xs → is_left_out u r (f x) (map f xs) ≡ is_left_out t r x xs
  out_same r x xs a each = rw (a.asks, a.ends r, a.ends Client, asks_same xs each, answers_same xs each) refl

  pub kept_map : (r : End) (xs : List X) → Each (Agrees f t u) xs → kept_of u r (map f xs) ≡ map f (kept_of t r xs)
  kept_map r [] each = refl
  kept_map r (x ∷ xs) each =
      let before = kept_map r xs each.1 in
      let same : is_left_out u r (f x) (kept_of u r (map f xs)) ≡ is_left_out t r x (kept_of t r xs)
      = ap (is_left_out u r (f x)) before ∙ out_same r x (kept_of t r xs) each.0 (kept_each (Agrees f t u) t r xs each.1) in
      elim (cases_Bool (is_left_out t r x (kept_of t r xs))) [
        | inl out ↦ kept_out u r (f x) (map f xs) (same ∙ out) ∙ before ∙ ap (map f) (sym (kept_out t r x xs out))
        | inr stays ↦ kept_in u r (f x) (map f xs) (same ∙ stays) ∙ ap (λ l. f x ∷ l) before ∙ ap (map f) (sym (kept_in t r x xs stays))
      ]

-- ---- the main datagrams

abbrev pub goes_to : TapSides → End → MachinePacket → TapDatagram → Type 0
goes_to s Client Req d = d.destination ≡ s.asked
goes_to s Client Oack d = d.destination ≡ s.server
goes_to s Client (Data k) d = d.destination ≡ s.server
goes_to s Client (Ack j) d = d.destination ≡ s.server
goes_to s Client (Error code text) d = d.destination ≡ s.server
goes_to s Server p d = d.destination ≡ s.client

pub record IsCarried (s : TapSides) (says : Saying) (c : Carried) : Type 0 where
  pub source : c.datagram.source ≡ side_of s c.pass.from
  pub goes : goes_to s c.pass.from c.pass.packet c.datagram
  pub spells : says c.pass.packet c.datagram.payload

abbrev pub pair_tests : Tests Carried
pair_tests = record { asks = λ c. pass_tests.asks c.pass; answers = λ c. pass_tests.answers c.pass; ends = λ e c. pass_tests.ends e c.pass }

abbrev pub datagram_in : Carried → TapDatagram
datagram_in c = c.datagram

abbrev pub pass_in : Carried → Pass
pass_in c = c.pass

pub passes_each : (cs : List Carried) → Each (Agrees pass_in pair_tests pass_tests) cs
passes_each [] = tt
passes_each (c ∷ cs) = (record { asks = refl; answers = refl; ends = λ e. refl }, passes_each cs)

pub passed_is : (division : TapDivision) → passed_of division ≡ map pass_in (mains division)
passed_is [] = refl
passed_is (p ∷ division) = by p.label (passed_is division) where
  by : (x : TapLabel) → passed_of division ≡ map pass_in (mains division) → passed_of (record { datagram = p.datagram; label = x } ∷ division) ≡ map pass_in (add_main p.datagram x (mains division))
  by (tap.Main x) before = ap (λ l. x ∷ l) before
  by tap.Stray before = before
  by tap.StrayAnswer before = before

module _ (s : TapSides) (says : Saying) where
  pub carried_is : (division : TapDivision) (d : TapDatagram) (x : Pass) → CarriesPass s says division d x → IsCarried s says (record { datagram = d; pass = x })
  carried_is division d x c = record { source = c.source; goes = by x.from x.packet c.goes; spells = c.spells } where
    by : (e : End) (p : MachinePacket) → GoesThere s division d e p → goes_to s e p d
    by Client Req goes = goes
    by Server p goes = goes
    by Client _ goes = goes.0

  pub mains_carried : (division : TapDivision) → HaveTapLabels s says division → Each (IsCarried s says) (mains division)
  mains_carried [] labels = tt
  mains_carried (p ∷ division) labels = by p.label labels.0 (mains_carried division labels.1) where
    by : (x : TapLabel) → HasTapLabel s says division p.datagram x → Each (IsCarried s says) (mains division) → Each (IsCarried s says) (add_main p.datagram x (mains division))
    by (tap.Main x) c before = (carried_is division p.datagram x c, before)
    by tap.Stray c before = before
    by tap.StrayAnswer c before = before

module _ (s : TapSides) (apart : AreApart s) where
  pub datagram_agrees : (c : Carried) → IsCarried s says_some c → Agrees datagram_in pair_tests (tap_tests s) c
  datagram_agrees c is = record {
    asks = rw (source_is s apart c.datagram c.pass.from Client is.source, asks_some c.datagram.payload c.pass.packet is.spells) refl;
    answers = source_is s apart c.datagram c.pass.from Server is.source;
    ends = λ e. rw (source_is s apart c.datagram c.pass.from e is.source, ends_some c.datagram.payload c.pass.packet is.spells) refl;
  }

  pub datagrams_each : (cs : List Carried) → Each (IsCarried s says_some) cs → Each (Agrees datagram_in pair_tests (tap_tests s)) cs
  datagrams_each [] each = tt
  datagrams_each (c ∷ cs) each = (datagram_agrees c each.0, datagrams_each cs each.1)

-- ---- as the receiver's capture

pub record Known (k : Carried) (ks : List Carried) : Type 0 where
  pub server : k.pass.from ≡ Server → (k.pass.packet ≡ Req → ⊥) × (list_any pair_tests.asks ks ≡ true)
  pub client : k.pass.from ≡ Client → (k.pass.packet ≡ Req → ⊥) → list_any pair_tests.answers ks ≡ true

abbrev pub AreKnown : List Carried → Type 0
AreKnown [] = Unit {0}
AreKnown (k ∷ ks) = Known k ks × AreKnown ks

abbrev pub header_of_end : TapSides → End → Header
header_of_end s r = record { named = r; service = s.asked.port; rollover = s.rollover }

abbrev pub ids_at : TapSides → End → TransferIds
ids_at s r = record { own = (side_of s r).port; peer = side_of s (other_end r); asked = s.asked.host }

abbrev pub place : TapSides → End → Carried → Labelled
place s r c = record { datagram = recorded_at s r c.datagram; label = Main (deed_at r c.pass.from c.pass.packet) }

abbrev pub placed : TapSides → End → List Carried → Division
placed s r ks = map (place s r) ks

pub placed_datagrams : (s : TapSides) (r : End) (ks : List Carried) → datagrams_of (placed s r ks) ≡ map (recorded_at s r) (map datagram_in ks)
placed_datagrams s r [] = refl
placed_datagrams s r (k ∷ ks) = ap (λ l. recorded_at s r k.datagram ∷ l) (placed_datagrams s r ks)

pub placed_view : (s : TapSides) (r : End) (ks : List Carried) → view_in (placed s r ks) ≡ as_at r (map pass_in ks)
placed_view s r [] = refl
placed_view s r (k ∷ ks) = ap (λ l. deed_at r k.pass.from k.pass.packet ∷ l) (placed_view s r ks)

module _ (s : TapSides) (apart : AreApart s) where
  abbrev recorded_out : TapDatagram → Datagram
  recorded_out d = record { dir = Out; local = d.source.port; host = d.destination.host; remote = d.destination.port; payload = d.payload }

  abbrev recorded_in : TapDatagram → Datagram
  recorded_in d = record { dir = In; local = d.destination.port; host = d.source.host; remote = d.source.port; payload = d.payload }

  out_is : (r : End) (d : TapDatagram) → d.source ≡ side_of s r → recorded_at s r d ≡ recorded_out d
  out_is r d source = by (same_is d.source (side_of s r) source) where
    by : same_peer d.source (side_of s r) ≡ true → recorded_at s r d ≡ recorded_out d
    by is = rw (is) refl

  in_is : (r : End) (d : TapDatagram) → d.source ≡ side_of s (other_end r) → recorded_at s r d ≡ recorded_in d
  in_is r d source = by (source_is s apart d (other_end r) r source ∙ other r) where
    other : (r : End) → same_end r (other_end r) ≡ false
    other Client = refl
    other Server = refl

    by : same_peer d.source (side_of s r) ≡ false → recorded_at s r d ≡ recorded_in d
    by is = rw (is) refl

  from_dir : (r : End) (c : Carried) (says : Saying) → IsCarried s says c → pass_tests.answers c.pass ≡ true → (recorded_at s r c.datagram).dir ≡ from_server r
  from_dir r c says is answers = by r c.pass.from is.source answers where
    by : (r f : End) → c.datagram.source ≡ side_of s f → same_end Server f ≡ true → (recorded_at s r c.datagram).dir ≡ from_server r
    by r Client source answers = absurd (true≢false (sym answers))
    by Client Server source answers = ap (λ (d : Datagram). d.dir) (in_is Client c.datagram source)
    by Server Server source answers = ap (λ (d : Datagram). d.dir) (out_is Server c.datagram source)

  any_from : (r : End) (says : Saying) (ks : List Carried) → Each (IsCarried s says) ks → list_any pair_tests.answers ks ≡ true → Any (λ (p : Labelled). p.datagram.dir ≡ from_server r) (placed s r ks)
  any_from r says [] each some = absurd (true≢false (sym some))
  any_from r says (k ∷ ks) each some = elim (cases_Bool (pair_tests.answers k)) [
    | inl now ↦ any_first (λ (p : Labelled). p.datagram.dir ≡ from_server r) (place s r k) (placed s r ks) (from_dir r k says each.0 now)
    | inr other ↦ any_later (λ (p : Labelled). p.datagram.dir ≡ from_server r) (place s r k) (placed s r ks) (any_from r says ks each.1 (sym (any_skip pair_tests.answers k ks other) ∙ some))
  ]

  module _ (says : Saying) where
    to_server : (r : End) (e : Division) (d : TapDatagram) (p : MachinePacket) → (p ≡ Req → ⊥) → goes_to s Client p d → d.source ≡ s.client → Any (λ (q : Labelled). q.datagram.dir ≡ from_server r) e
        → GoesToServer (header_of_end s r) (ids_at s r) e (recorded_at s r d) p
    to_server Client e d Req other goes source any = absurd (other refl)
    to_server Server e d Req other goes source any = absurd (other refl)
    to_server Client e d _ other goes source any = subst (λ x. (peer_of x ≡ s.server) × ((x.dir ≡ In) ⊎ Any (λ (q : Labelled). q.datagram.dir ≡ In) e)) (sym (out_is Client d source)) (goes, inr any)
    to_server Server e d _ other goes source any = subst (λ x. (x.local ≡ s.server.port) × ((x.dir ≡ Out) ⊎ Any (λ (q : Labelled). q.datagram.dir ≡ Out) e)) (sym (in_is Server d source)) (ap (λ x. x.port) goes, inr any)

    asking : (r : End) (e : Division) (d : TapDatagram) → d.destination ≡ s.asked → d.source ≡ s.client → GoesToServer (header_of_end s r) (ids_at s r) e (recorded_at s r d) Req
    asking Client e d goes source = subst (λ x. (x.remote ≡ s.asked.port) × (Client ≡ Client → x.host ≡ s.asked.host)) (sym (out_is Client d source)) (ap (λ x. x.port) goes, λ same. ap (λ x. x.host) goes)
    asking Server e d goes source = subst (λ x. (x.local ≡ s.asked.port) × (Server ≡ Client → x.host ≡ s.asked.host)) (sym (in_is Server d source)) (ap (λ x. x.port) goes, λ same. absurd (cc))

    back : (r : End) (e : Division) (d : TapDatagram) (p : MachinePacket) → (p ≡ Req → ⊥) → d.source ≡ s.server → GoesToServer (header_of_end s r) (ids_at s r) e (recorded_at s r d) p
    back r e d Req other source = absurd (other refl)
    back Client e d _ other source = subst (λ x. (peer_of x ≡ s.server) × ((x.dir ≡ In) ⊎ Any (λ (q : Labelled). q.datagram.dir ≡ In) e)) (sym (in_is Client d source)) (source, inl refl)
    back Server e d _ other source = subst (λ x. (x.local ≡ s.server.port) × ((x.dir ≡ Out) ⊎ Any (λ (q : Labelled). q.datagram.dir ≡ Out) e)) (sym (out_is Server d source)) (ap (λ x. x.port) source, inl refl)

    is_req_or : (p : MachinePacket) → (p ≡ Req) ⊎ (p ≡ Req → ⊥)
    is_req_or Req = inl refl
    is_req_or _ = inr (λ is. cc)

    carries : (r : End) (k : Carried) (ks : List Carried) → IsCarried s says k → Each (IsCarried s says) ks → Known k ks
        → Carries (header_of_end s r) says (ids_at s r) (placed s r ks) (recorded_at s r k.datagram) (deed_at r k.pass.from k.pass.packet)
    carries r k ks is each known = by r k.pass.from k.pass.packet is.source is.goes is.spells known.server known.client where
      by : (r f : End) (p : MachinePacket) → k.datagram.source ≡ side_of s f → goes_to s f p k.datagram → says p k.datagram.payload
          → (f ≡ Server → (p ≡ Req → ⊥) × (list_any pair_tests.asks ks ≡ true)) → (f ≡ Client → (p ≡ Req → ⊥) → list_any pair_tests.answers ks ≡ true)
          → Carries (header_of_end s r) says (ids_at s r) (placed s r ks) (recorded_at s r k.datagram) (deed_at r f p)
      by Client Client p source goes spells server client = record {
        dir = ap (λ (d : Datagram). d.dir) (out_is Client k.datagram source);
        client = ap (λ (d : Datagram). d.local) (out_is Client k.datagram source) ∙ ap (λ x. x.port) source;
        server = elim (is_req_or p) [
          | inl req ↦ subst (λ q. GoesToServer (header_of_end s Client) (ids_at s Client) (placed s Client ks) (recorded_at s Client k.datagram) q) (sym req) (asking Client (placed s Client ks) k.datagram (subst (λ q. goes_to s Client q k.datagram) req goes) source)
          | inr other ↦ to_server Client (placed s Client ks) k.datagram p other goes source (any_from Client says ks each (client refl other))
        ];
        spells = subst (λ (d : Datagram). says p d.payload) (sym (out_is Client k.datagram source)) spells;
      }
      by Client Server p source goes spells server client = record {
        dir = ap (λ (d : Datagram). d.dir) (in_is Client k.datagram source);
        client = ap (λ (d : Datagram). d.local) (in_is Client k.datagram source) ∙ ap (λ x. x.port) goes;
        server = back Client (placed s Client ks) k.datagram p (server refl).0 source;
        spells = subst (λ (d : Datagram). says p d.payload) (sym (in_is Client k.datagram source)) spells;
      }
      by Server Client p source goes spells server client = record {
        dir = ap (λ (d : Datagram). d.dir) (in_is Server k.datagram source);
        client = ap peer_of (in_is Server k.datagram source) ∙ source;
        server = elim (is_req_or p) [
          | inl req ↦ subst (λ q. GoesToServer (header_of_end s Server) (ids_at s Server) (placed s Server ks) (recorded_at s Server k.datagram) q) (sym req) (asking Server (placed s Server ks) k.datagram (subst (λ q. goes_to s Client q k.datagram) req goes) source)
          | inr other ↦ to_server Server (placed s Server ks) k.datagram p other goes source (any_from Server says ks each (client refl other))
        ];
        spells = subst (λ (d : Datagram). says p d.payload) (sym (in_is Server k.datagram source)) spells;
      }
      by Server Server p source goes spells server client = record {
        dir = ap (λ (d : Datagram). d.dir) (out_is Server k.datagram source);
        client = ap peer_of (out_is Server k.datagram source) ∙ goes;
        server = back Server (placed s Server ks) k.datagram p (server refl).0 source;
        spells = subst (λ (d : Datagram). says p d.payload) (sym (out_is Server k.datagram source)) spells;
      }

    pub placed_labels : (r : End) (ks : List Carried) → Each (IsCarried s says) ks → AreKnown ks → HaveLabelsBy (header_of_end s r) says (ids_at s r) (placed s r ks)
    placed_labels r [] each known = tt
    placed_labels r (k ∷ ks) each known = (carries r k ks each.0 each.1 known.0, placed_labels r ks each.1 known.1)

  placed_stands : (r : End) (k : Carried) (ks : List Carried) → Known k ks → Stands r (view_in (placed s r ks)) (deed_at r k.pass.from k.pass.packet)
  placed_stands r k ks known = record { first = first ks k.pass.from k.pass.packet known.server known.client; not_back = not_back r k.pass.from k.pass.packet known.server } where
    none_there : (ks : List Carried) → view_in (placed s r ks) ≡ [] → (test : Carried → Bool) → list_any test ks ≡ true → ⊥
    none_there [] is test some = true≢false (sym some)
    none_there (k ∷ ks) is test some = absurd (cc)

    asks_first : (r : End) → deed_at r Client Req ≡ request_at r
    asks_first Client = refl
    asks_first Server = refl

    first : (ks : List Carried) (f : End) (p : MachinePacket) → (f ≡ Server → (p ≡ Req → ⊥) × (list_any pair_tests.asks ks ≡ true)) → (f ≡ Client → (p ≡ Req → ⊥) → list_any pair_tests.answers ks ≡ true)
        → view_in (placed s r ks) ≡ [] → deed_at r f p ≡ request_at r
    first ks Server p server client none = absurd (none_there ks none pair_tests.asks (server refl).1)
    first ks Client Req server client none = asks_first r
    first ks Client _ server client none = absurd (none_there ks none pair_tests.answers (client refl (λ is. cc)))

    not_back : (r f : End) (p : MachinePacket) → (f ≡ Server → (p ≡ Req → ⊥) × (list_any pair_tests.asks ks ≡ true)) → deed_at r f p ≡ request_back r → ⊥
    not_back Client Client p server is = absurd (cc)
    not_back Client Server p server is = (server refl).0 (cc)
    not_back Server Client p server is = absurd (cc)
    not_back Server Server p server is = (server refl).0 (cc)

  pub placed_starts : (r : End) (ks : List Carried) → AreKnown ks → Starts r (view_in (placed s r ks))
  placed_starts r [] known = tt
  placed_starts r (k ∷ ks) known = (placed_stands r k ks known.0, placed_starts r ks known.1)

  pub placed_routes : (says : Saying) → IsTold says → (r : End) (ks : List Carried) → Each (IsCarried s says) ks → AreKnown ks → AreRoutedBy (header_of_end s r) says (placed s r ks)
  placed_routes says told r ks each known = routed_by (header_of_end s r) says told (ids_at s r) (placed s r ks) (placed_labels says r ks each known) (placed_starts r ks known)
