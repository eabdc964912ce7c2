-- Routes read backwards: what each tells of its datagram.
use Rattle.std.proofs.Common.{◌≡◌, ◌⊎◌, ℕ, Bool, true, false, List, [], ◌∷◌, Option, Some, None, option_map, Any, inl, inr, refl, sym, subst, ap, ◌∙◌, if◌then◌else◌, not, ◌||◌, ◌&&◌, ◌==◌}
use Rattle.std.proofs.lemmas.Bool.{false≢true, true≢false, and_parts, eqb-true}
use Rattle.tftp_packet.specs.{End, Client, Server, opcode_of}
use Rattle.tftp_packet.specs.Hosts.{Datagram, Header, PeerId, peer_of, same_peer}
use Rattle.tftp_packet.specs.{Dir, In, Out}
use Rattle.law_model.specs.Rules.{Route, goes_out, comes_in, begins_request, begins_error, is_from_client, port_of_server, asks, first_of, or_this, has_come_from, route_out, route_at_client, route_to_service, route_at_server, route_after, route_of}
use Rattle.law_end.specs.{Labelled, Division, datagrams_of, dir_of, BeginsAsRequest, request_at}
use Rattle.law_end.proofs.FirstBroken.FirstRequests.{asks_is, or_some, before_is}
use Rattle.law_end.proofs.Division.RouteTests.{out_true, in_false, out_false, two_ways, is_same, apart_is}
use Rattle.law_end.proofs.Division.Divided.{any_first, any_later}

-- ---- tests

pub dir_out : (d : Datagram) → goes_out d ≡ true → d.dir ≡ Out
dir_out d t = by d.dir refl where
  by : (dir : Dir) → d.dir ≡ dir → d.dir ≡ Out
  by Out is = is
  by In is = absurd (false≢true (sym (in_false d is) ∙ t))

pub dir_in : (d : Datagram) → goes_out d ≡ false → d.dir ≡ In
dir_in d t = by d.dir refl where
  by : (dir : Dir) → d.dir ≡ dir → d.dir ≡ In
  by In is = is
  by Out is = absurd (true≢false (sym (out_true d is) ∙ t))

pub came_dir : (d : Datagram) → comes_in d ≡ true → d.dir ≡ In
came_dir d t = by d.dir refl where
  by : (dir : Dir) → d.dir ≡ dir → d.dir ≡ In
  by In is = is
  by Out is = absurd (false≢true (sym (out_false d is) ∙ t))

pub this_one : (test : Datagram → Bool) (d : Datagram) (ds : List Datagram) → first_of test ds ≡ None → test d ≡ true → first_of test (d ∷ ds) ≡ Some d
this_one test d ds none t = ap (λ o. or_this o (test d) d) none ∙ ap (λ b. or_this None b d) t

pub first_any : (test : Datagram → Bool) (P : Labelled → Type 0) → ((p : Labelled) → test p.datagram ≡ true → P p) → (division : Division) (x : Datagram) → first_of test (datagrams_of division) ≡ Some x → Any P division
first_any test P holds [] x e = absurd (cc)
first_any test P holds (p ∷ earlier) x e = elim (or_some (first_of test (datagrams_of earlier)) (test p.datagram) p.datagram x e) [
  | inl before ↦ any_later P p earlier (first_any test P holds earlier x before)
  | inr this ↦ any_first P p earlier (holds p this.1)
]

pub map_some : {X : Type 0} (f : Datagram → X) (o : Option Datagram) (y : X) → option_map f o ≡ Some y → (x : Datagram) × (o ≡ Some x) × (f x ≡ y)
map_some f None y e = absurd (cc)
map_some f (Some x) y e = (x, refl, cc)

pub map_none : {X : Type 0} (f : Datagram → X) (o : Option Datagram) → option_map f o ≡ None → o ≡ None
map_none f None e = refl
map_none f (Some x) e = absurd (cc)

pub begins_byte : (d : Datagram) → BeginsAsRequest d.payload → begins_request d ≡ true
begins_byte d (rest, inl is) = subst (λ p. ((opcode_of p == 1) || (opcode_of p == 2)) ≡ true) (sym is) refl
begins_byte d (rest, inr is) = subst (λ p. ((opcode_of p == 1) || (opcode_of p == 2)) ≡ true) (sym is) refl

-- ---- routes, read backwards

out_is_peer : (same noted error : Bool) → (if same then Route.Peer else if noted then (if error then Route.StrayAnswer else Route.NoStrayAnswer) else Route.WrongPort) ≡ Route.Peer → same ≡ true
out_is_peer true noted error is = refl
out_is_peer false true true is = absurd (cc)
out_is_peer false true false is = absurd (cc)
out_is_peer false false error is = absurd (cc)

out_is_answer : (same noted error : Bool) → (if same then Route.Peer else if noted then (if error then Route.StrayAnswer else Route.NoStrayAnswer) else Route.WrongPort) ≡ Route.StrayAnswer → (same ≡ false) × (noted ≡ true)
out_is_answer true noted error is = absurd (cc)
out_is_answer false true true is = (refl, refl)
out_is_answer false true false is = absurd (cc)
out_is_answer false false error is = absurd (cc)

out_no_stray : (same noted error : Bool) → (if same then Route.Peer else if noted then (if error then Route.StrayAnswer else Route.NoStrayAnswer) else Route.WrongPort) ≡ Route.Stray → ⊥
out_no_stray true noted error is = cc
out_no_stray false true true is = cc
out_no_stray false true false is = cc
out_no_stray false false error is = cc

out_no_request : (same noted error : Bool) → (if same then Route.Peer else if noted then (if error then Route.StrayAnswer else Route.NoStrayAnswer) else Route.WrongPort) ≡ Route.Request → ⊥
out_no_request true noted error is = cc
out_no_request false true true is = cc
out_no_request false true false is = cc
out_no_request false false error is = cc

back_is_peer : (same : Bool) → (if same then Route.Peer else Route.Stray) ≡ Route.Peer → same ≡ true
back_is_peer true is = refl
back_is_peer false is = absurd (cc)

back_is_stray : (same : Bool) → (if same then Route.Peer else Route.Stray) ≡ Route.Stray → same ≡ false
back_is_stray true is = absurd (cc)
back_is_stray false is = refl

back_no_answer : (same : Bool) → (if same then Route.Peer else Route.Stray) ≡ Route.StrayAnswer → ⊥
back_no_answer true is = cc
back_no_answer false is = cc

back_no_request : (same : Bool) → (if same then Route.Peer else Route.Stray) ≡ Route.Request → ⊥
back_no_request true is = cc
back_no_request false is = cc

client_request : (own out begins there : Bool) (one other : Route) → (one ≡ Route.Request → ⊥) → (other ≡ Route.Request → ⊥)
    → (if not own then Route.ForeignPort else if out then (if begins then (if there then Route.Request else Route.WrongPort) else one) else other) ≡ Route.Request
    → (own ≡ true) × (there ≡ true) × (out ≡ true) × (begins ≡ true)
client_request true true true true one other a b is = (refl, refl, refl, refl)
client_request true true true false one other a b is = absurd (cc)
client_request true true false there one other a b is = absurd (a is)
client_request true false begins there one other a b is = absurd (b is)
client_request false out begins there one other a b is = absurd (cc)

client_rest : (own out begins there : Bool) (one other r : Route) → (Route.ForeignPort ≡ r → ⊥) → (Route.Request ≡ r → ⊥) → (Route.WrongPort ≡ r → ⊥)
    → (if not own then Route.ForeignPort else if out then (if begins then (if there then Route.Request else Route.WrongPort) else one) else other) ≡ r
    → (own ≡ true) × (((out ≡ true) × (one ≡ r)) ⊎ ((out ≡ false) × (other ≡ r)))
client_rest true true true true one other r f q w is = absurd (q is)
client_rest true true true false one other r f q w is = absurd (w is)
client_rest true true false there one other r f q w is = (refl, inl (refl, is))
client_rest true false begins there one other r f q w is = (refl, inr (refl, is))
client_rest false out begins there one other r f q w is = absurd (f is)

service_request : (here same begins : Bool) → (if not here then Route.ForeignPort else if not same then Route.ForeignPort else if begins then Route.Request else Route.WrongPort) ≡ Route.Request
    → (here ≡ true) × (same ≡ true) × (begins ≡ true)
service_request true true true is = (refl, refl, refl)
service_request true true false is = absurd (cc)
service_request true false begins is = absurd (cc)
service_request false same begins is = absurd (cc)

service_rest : (here same begins : Bool) (r : Route) → (Route.ForeignPort ≡ r → ⊥) → (Route.Request ≡ r → ⊥) → (Route.WrongPort ≡ r → ⊥)
    → (if not here then Route.ForeignPort else if not same then Route.ForeignPort else if begins then Route.Request else Route.WrongPort) ≡ r → ⊥
service_rest true true true r f q w is = q is
service_rest true true false r f q w is = w is
service_rest true false begins r f q w is = f is
service_rest false same begins r f q w is = f is

server_none : (out same : Bool) (service r : Route) → (Route.WrongPort ≡ r → ⊥) → (if out then (if same then Route.Peer else Route.WrongPort) else service) ≡ r
    → ((out ≡ true) × (same ≡ true) × (Route.Peer ≡ r)) ⊎ ((out ≡ false) × (service ≡ r))
server_none true true service r w is = inl (refl, refl, is)
server_none true false service r w is = absurd (w is)
server_none false same service r w is = inr (refl, is)

server_some : (out own to same begins : Bool) (one service r : Route) → (Route.ForeignPort ≡ r → ⊥) → (Route.WrongPort ≡ r → ⊥)
    → (if out then (if not own then Route.ForeignPort else one) else if to then service else if same then (if begins then Route.WrongPort else Route.Peer) else Route.Stray) ≡ r
    → ((out ≡ true) × (own ≡ true) × (one ≡ r)) ⊎ (((out ≡ false) × (service ≡ r)) ⊎ ((out ≡ false) × (to ≡ false) × ((if same then Route.Peer else Route.Stray) ≡ r)))
server_some true true to same begins one service r f w is = inl (refl, refl, is)
server_some true false to same begins one service r f w is = absurd (f is)
server_some false own true same begins one service r f w is = inr (inl (refl, is))
server_some false own false true true one service r f w is = absurd (w is)
server_some false own false true false one service r f w is = inr (inr (refl, refl, is))
server_some false own false false begins one service r f w is = inr (inr (refl, refl, is))

no_longer : (own x : Bool) → (not own || x) ≡ false → (own ≡ true) × (x ≡ false)
no_longer true false is = (refl, refl)
no_longer true true is = absurd (true≢false is)
no_longer false x is = absurd (true≢false is)

before_rest : (b c : Bool) (r : Route) → (Route.Request ≡ r → ⊥) → (Route.WrongPort ≡ r → ⊥) → (Route.Peer ≡ r → ⊥) → (if b then (if c then Route.Request else Route.WrongPort) else Route.Peer) ≡ r → ⊥
before_rest true true r q w p is = q is
before_rest true false r q w p is = w is
before_rest false c r q w p is = p is

module _ (h : Header) (ds : List Datagram) (d : Datagram) where
  pub c_request : (own : ℕ) (asked : PeerId) (o : Option PeerId) → route_at_client own asked o ds d ≡ Route.Request → (d.local ≡ own) × (peer_of d ≡ asked) × (goes_out d ≡ true) × (begins_request d ≡ true)
  c_request own asked None is =
      let a = client_request (d.local == own) (goes_out d) (begins_request d) (same_peer (peer_of d) asked) Route.WrongPort Route.Peer (λ e. cc) (λ e. cc) is in
      (eqb-true d.local own a.0, is_same (peer_of d) asked a.1, a.2, a.3)
  c_request own asked (Some p) is =
      let a = client_request (d.local == own) (goes_out d) (begins_request d) (same_peer (peer_of d) asked) (route_out p ds d) (if same_peer (peer_of d) p then Route.Peer else Route.Stray)
      (out_no_request (same_peer (peer_of d) p) (has_come_from (peer_of d) ds) (begins_error d)) (back_no_request (same_peer (peer_of d) p)) is in
      (eqb-true d.local own a.0, is_same (peer_of d) asked a.1, a.2, a.3)

  -- what has a route of the peer
  abbrev FromPeer : ℕ → Option PeerId → Type 0
  FromPeer own o = (d.local ≡ own) × (((goes_out d ≡ false) × (o ≡ None)) ⊎ ((p : PeerId) × (o ≡ Some p) × (peer_of d ≡ p)))

  pub c_peer : (own : ℕ) (asked : PeerId) (o : Option PeerId) → route_at_client own asked o ds d ≡ Route.Peer → FromPeer own o
  c_peer own asked None is =
      let a = client_rest (d.local == own) (goes_out d) (begins_request d) (same_peer (peer_of d) asked) Route.WrongPort Route.Peer Route.Peer (λ e. cc) (λ e. cc) (λ e. cc) is in
      (eqb-true d.local own a.0, elim a.1 [ inl x ↦ absurd (let e : Route.WrongPort ≡ Route.Peer = x.1 in cc) | inr x ↦ inl (x.0, refl) ])
  c_peer own asked (Some p) is =
      let a = client_rest (d.local == own) (goes_out d) (begins_request d) (same_peer (peer_of d) asked) (route_out p ds d) (if same_peer (peer_of d) p then Route.Peer else Route.Stray) Route.Peer (λ e. cc) (λ e. cc) (λ e. cc) is in (
        eqb-true d.local own a.0,
        inr (
          p,
          refl,
          is_same (peer_of d) p (elim a.1 [
            | inl x ↦ out_is_peer (same_peer (peer_of d) p) (has_come_from (peer_of d) ds) (begins_error d) x.1
            | inr x ↦ back_is_peer (same_peer (peer_of d) p) x.1
          ]),
        ),
      )

  pub c_stray : (own : ℕ) (asked : PeerId) (o : Option PeerId) → route_at_client own asked o ds d ≡ Route.Stray → (d.local ≡ own) × (goes_out d ≡ false) × (p : PeerId) × (o ≡ Some p) × (peer_of d ≡ p → ⊥)
  c_stray own asked None is =
      let a = client_rest (d.local == own) (goes_out d) (begins_request d) (same_peer (peer_of d) asked) Route.WrongPort Route.Peer Route.Stray (λ e. cc) (λ e. cc) (λ e. cc) is in
      absurd (elim a.1 [ inl x ↦ (let e : Route.WrongPort ≡ Route.Stray = x.1 in cc) | inr x ↦ (let e : Route.Peer ≡ Route.Stray = x.1 in cc) ])
  c_stray own asked (Some p) is =
      let a = client_rest (d.local == own) (goes_out d) (begins_request d) (same_peer (peer_of d) asked) (route_out p ds d) (if same_peer (peer_of d) p then Route.Peer else Route.Stray) Route.Stray (λ e. cc) (λ e. cc) (λ e. cc) is in
      elim a.1 [
        | inl x ↦ absurd (out_no_stray (same_peer (peer_of d) p) (has_come_from (peer_of d) ds) (begins_error d) x.1)
        | inr x ↦ (eqb-true d.local own a.0, x.0, p, refl, apart_is (peer_of d) p (back_is_stray (same_peer (peer_of d) p) x.1))
      ]

  abbrev ToStray : ℕ → PeerId → Type 0
  ToStray own p = (d.local ≡ own) × (goes_out d ≡ true) × (peer_of d ≡ p → ⊥) × (has_come_from (peer_of d) ds ≡ true)

  pub c_answer : (own : ℕ) (asked : PeerId) (o : Option PeerId) → route_at_client own asked o ds d ≡ Route.StrayAnswer → (p : PeerId) × (o ≡ Some p) × ToStray own p
  c_answer own asked None is =
      let a = client_rest (d.local == own) (goes_out d) (begins_request d) (same_peer (peer_of d) asked) Route.WrongPort Route.Peer Route.StrayAnswer (λ e. cc) (λ e. cc) (λ e. cc) is in
      absurd (elim a.1 [ inl x ↦ (let e : Route.WrongPort ≡ Route.StrayAnswer = x.1 in cc) | inr x ↦ (let e : Route.Peer ≡ Route.StrayAnswer = x.1 in cc) ])
  c_answer own asked (Some p) is =
      let a = client_rest (d.local == own) (goes_out d) (begins_request d) (same_peer (peer_of d) asked) (route_out p ds d) (if same_peer (peer_of d) p then Route.Peer else Route.Stray) Route.StrayAnswer (λ e. cc) (λ e. cc) (λ e. cc) is in
      elim a.1 [
        | inl x ↦ let b = out_is_answer (same_peer (peer_of d) p) (has_come_from (peer_of d) ds) (begins_error d) x.1 in (p, refl, (eqb-true d.local own a.0, x.0, apart_is (peer_of d) p b.0, b.1))
        | inr x ↦ absurd (back_no_answer (same_peer (peer_of d) p) x.1)
      ]

  s_service : (client : PeerId) → route_to_service h client d ≡ Route.Request → (d.local ≡ h.service) × (peer_of d ≡ client) × (begins_request d ≡ true)
  s_service client is =
      let a = service_request (d.local == h.service) (same_peer (peer_of d) client) (begins_request d) is in
      (eqb-true d.local h.service a.0, is_same (peer_of d) client a.1, a.2)

  no_service : (client : PeerId) (r : Route) → (Route.ForeignPort ≡ r → ⊥) → (Route.Request ≡ r → ⊥) → (Route.WrongPort ≡ r → ⊥) → route_to_service h client d ≡ r → ⊥
  no_service client r f q w is = service_rest (d.local == h.service) (same_peer (peer_of d) client) (begins_request d) r f q w is

  abbrev split_none : (client : PeerId) (r : Route) → Type 0
  split_none client r = ((goes_out d ≡ true) × (same_peer (peer_of d) client ≡ true) × (Route.Peer ≡ r)) ⊎ ((goes_out d ≡ false) × (route_to_service h client d ≡ r))

  s_none : (client : PeerId) (r : Route) → (Route.WrongPort ≡ r → ⊥) → route_at_server h client None ds d ≡ r → split_none client r
  s_none client r w is = server_none (goes_out d) (same_peer (peer_of d) client) (route_to_service h client d) r w is

  abbrev split_some : (client : PeerId) (own : ℕ) (r : Route) → Type 0
  split_some client own r =
      ((goes_out d ≡ true) × ((d.local == own) ≡ true) × (route_out client ds d ≡ r))
      ⊎ (((goes_out d ≡ false) × (route_to_service h client d ≡ r))
      ⊎ ((goes_out d ≡ false) × ((not (d.local == own) || (begins_request d && (d.local == h.service))) ≡ false) × ((if same_peer (peer_of d) client then Route.Peer else Route.Stray) ≡ r)))

  s_some : (client : PeerId) (own : ℕ) (r : Route) → (Route.ForeignPort ≡ r → ⊥) → (Route.WrongPort ≡ r → ⊥) → route_at_server h client (Some own) ds d ≡ r → split_some client own r
  s_some client own r f w is =
      server_some (goes_out d) (d.local == own) (not (d.local == own) || (begins_request d && (d.local == h.service))) (same_peer (peer_of d) client) (begins_request d) (route_out client ds d) (route_to_service h client d) r f w is

  pub s_request : (client : PeerId) (o : Option ℕ) → route_at_server h client o ds d ≡ Route.Request → (d.local ≡ h.service) × (peer_of d ≡ client) × (goes_out d ≡ false) × (begins_request d ≡ true)
  s_request client None is = elim (s_none client Route.Request (λ e. cc) is) [ inl x ↦ absurd (let e = x.2 in cc) | inr x ↦ let a = s_service client x.1 in (a.0, a.1, x.0, a.2) ]
  s_request client (Some own) is = elim (s_some client own Route.Request (λ e. cc) (λ e. cc) is) [
    | inl x ↦ absurd (out_no_request (same_peer (peer_of d) client) (has_come_from (peer_of d) ds) (begins_error d) x.2)
    | inr y ↦ elim y [ inl x ↦ let a = s_service client x.1 in (a.0, a.1, x.0, a.2) | inr x ↦ absurd (back_no_request (same_peer (peer_of d) client) x.2) ]
  ]

  pub s_peer : (client : PeerId) (o : Option ℕ) → route_at_server h client o ds d ≡ Route.Peer → (peer_of d ≡ client) × (((goes_out d ≡ true) × (o ≡ None)) ⊎ ((own : ℕ) × (o ≡ Some own) × (d.local ≡ own)))
  s_peer client None is = elim (s_none client Route.Peer (λ e. cc) is) [
    | inl x ↦ (is_same (peer_of d) client x.1, inl (x.0, refl))
    | inr x ↦ absurd (no_service client Route.Peer (λ e. cc) (λ e. cc) (λ e. cc) x.1)
  ]
  s_peer client (Some own) is = elim (s_some client own Route.Peer (λ e. cc) (λ e. cc) is) [
    | inl x ↦ (is_same (peer_of d) client (out_is_peer (same_peer (peer_of d) client) (has_come_from (peer_of d) ds) (begins_error d) x.2), inr (own, refl, eqb-true d.local own x.1))
    | inr y ↦ elim y [
      | inl x ↦ absurd (no_service client Route.Peer (λ e. cc) (λ e. cc) (λ e. cc) x.1)
      | inr x ↦ (is_same (peer_of d) client (back_is_peer (same_peer (peer_of d) client) x.2), inr (own, refl, eqb-true d.local own (no_longer (d.local == own) (begins_request d && (d.local == h.service)) x.1).0))
    ]
  ]

  pub s_stray : (client : PeerId) (o : Option ℕ) → route_at_server h client o ds d ≡ Route.Stray
      → (own : ℕ) × (o ≡ Some own) × (d.local ≡ own) × (goes_out d ≡ false) × (peer_of d ≡ client → ⊥) × ((begins_request d && (d.local == h.service)) ≡ false)
  s_stray client None is = elim (s_none client Route.Stray (λ e. cc) is) [ inl x ↦ absurd (let e = x.2 in cc) | inr x ↦ absurd (no_service client Route.Stray (λ e. cc) (λ e. cc) (λ e. cc) x.1) ]
  s_stray client (Some own) is = elim (s_some client own Route.Stray (λ e. cc) (λ e. cc) is) [
    | inl x ↦ absurd (out_no_stray (same_peer (peer_of d) client) (has_come_from (peer_of d) ds) (begins_error d) x.2)
    | inr y ↦ elim y [
      | inl x ↦ absurd (no_service client Route.Stray (λ e. cc) (λ e. cc) (λ e. cc) x.1)
      | inr x ↦
          let a = no_longer (d.local == own) (begins_request d && (d.local == h.service)) x.1 in
          (own, refl, eqb-true d.local own a.0, x.0, apart_is (peer_of d) client (back_is_stray (same_peer (peer_of d) client) x.2), a.1)
    ]
  ]

  pub s_answer : (client : PeerId) (o : Option ℕ) → route_at_server h client o ds d ≡ Route.StrayAnswer → (own : ℕ) × (o ≡ Some own) × ToStray own client
  s_answer client None is = elim (s_none client Route.StrayAnswer (λ e. cc) is) [ inl x ↦ absurd (let e = x.2 in cc) | inr x ↦ absurd (no_service client Route.StrayAnswer (λ e. cc) (λ e. cc) (λ e. cc) x.1) ]
  s_answer client (Some own) is = elim (s_some client own Route.StrayAnswer (λ e. cc) (λ e. cc) is) [
    | inl x ↦
        let b = out_is_answer (same_peer (peer_of d) client) (has_come_from (peer_of d) ds) (begins_error d) x.2 in
        (own, refl, (eqb-true d.local own x.1, x.0, apart_is (peer_of d) client b.0, b.1))
    | inr y ↦ elim y [
      | inl x ↦ absurd (no_service client Route.StrayAnswer (λ e. cc) (λ e. cc) (λ e. cc) x.1)
      | inr x ↦ absurd (back_no_answer (same_peer (peer_of d) client) x.2)
    ]
  ]

  -- before the first request nothing is a stray, nor an answer to one
  pub no_stray_before : (r : Route) → (Route.Request ≡ r → ⊥) → (Route.WrongPort ≡ r → ⊥) → (Route.Peer ≡ r → ⊥) → first_of (asks h) ds ≡ None → route_of h ds d ≡ r → ⊥
  no_stray_before r q w p none is = before_rest _ _ r q w p (sym (before_is h ds d none) ∙ is)

-- what has the request's route comes from the client and begins as a request
from_way : (e : End) (d : Datagram) → is_from_client e d ≡ true → d.dir ≡ dir_of (request_at e)
from_way Client d t = dir_out d t
from_way Server d t = came_dir d t

module _ (h : Header) (ds : List Datagram) (d : Datagram) where
  asked_after : (e : End) (first : Datagram) → route_after e h first ds d ≡ Route.Request → (d.dir ≡ dir_of (request_at e)) × (begins_request d ≡ true)
  asked_after Client first is = let a = c_request h ds d first.local (peer_of first) _ is in (dir_out d a.2, a.3)
  asked_after Server first is = let a = s_request h ds d (peer_of first) _ is in (dir_in d a.2, a.3)

  -- what has the route of a request comes from the client and begins as one
  pub request_is : route_of h ds d ≡ Route.Request → (d.dir ≡ dir_of (request_at h.named)) × (begins_request d ≡ true)
  request_is is = elim (two_ways (first_of (asks h) ds)) [
    | inl none ↦
        let t = and_parts (is_from_client h.named d && begins_request d) (port_of_server h.named d == h.service) (asks_is h ds d none is) in
        let u = and_parts (is_from_client h.named d) (begins_request d) t.0 in
        (from_way h.named d u.0, u.1)
    | inr some ↦ let e : route_of h ds d ≡ route_after h.named h some.0 ds d = rw some.1 refl in asked_after h.named some.0 (sym e ∙ is)
  ]
