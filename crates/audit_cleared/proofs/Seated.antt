-- Of a recording: where each datagram passed, between the client and its server, between one of them and another, or elsewhere.
use Rattle.std.proofs.Common.{◌≡◌, ◌⊎◌, ◌==◌, ◌&&◌, ◌||◌, ◌++◌, ℕ, Bool, true, false, cond, List, [], ◌∷◌, All, Option, Some, None, inl, inr, refl, sym, ap, subst, ◌∙◌, filter, max, option_map, if◌then◌else◌}
use Rattle.std.specs.List.{AllByRecursion}
use Rattle.std.proofs.lemmas.Bool.{false≢true, eq-eqb, and_from, and_parts, or_left, or_right}
use Rattle.std.proofs.lemmas.List.Elements.{recursion_from_All}
use Rattle.tftp_packet.specs.Hosts.{Datagram}
use Rattle.tftp_packet.specs.{In, Out}
use Rattle.law_end.specs.{OneEnded, Rule}
use Rattle.law_model.specs.Rules.{first_of}
use Rattle.audit_flows.specs.Lines.{Recorded, begins_request, other_of, same_address, same_endpoint, Placed, clock, is_of, is_request}
use Rattle.audit_flows.specs.{Endpoint, Place, Opens, Repeats, Talks, Beside, Transfer}
use Rattle.audit_flows.proofs.LinesLemmas.Endpoints.{is_same, address_itself}
use Rattle.audit_flows.proofs.LinesLemmas.Lines.{by_test}
use Rattle.audit_flows.specs.Transfers.{answered_by, asked_of, client_view, comes, goes_on, goes_to_asked, has_host, has_port, is_at_server, is_end, is_server, place_of, placed, server_of, went_on_with}
use Rattle.law_tap.specs.{BreaksNoTapRule, IsTapRefused}
use Rattle.law_tap.proofs.TapBefore.{first_holds}
use Rattle.audit_cleared.specs.{BothSaw, HasAddresses, IsSentThere, IsServedIn, IsWith}
use Rattle.audit_views.specs.Views.{captured, captured_at_server, server_capture, server_header}
use Rattle.audit_views.specs.Parties.{IsAddress, host_name}
use Rattle.audit_recording.specs.Between.{passed_of, peer_of as side, sides_of, sides_with, between_capture}
use Rattle.audit_cleared.proofs.Own.{IsOwn, as_request, as_talk, own_all, opened_own}
use Rattle.audit_cleared.proofs.Besides.{IsAsideOther, besides_all}
use Rattle.audit_cleared.proofs.Pairs.{came_to, at_all}
use Rattle.audit_cleared.proofs.Named.{named_same, placed_addresses, kept_all, opening_addresses}
use Rattle.audit_cleared.proofs.Merged.{Seat, both, own, aside, neither, asks, to_server, from_server, sends, gets}
use Rattle.audit_cleared.proofs.ServerLaw.{Opening, IsSeenOpening, none_sent, not_refused, server_breaks_none}

-- ---- lists

guarded : (P : Placed → Type 0) (test : Placed → Bool) (qs : List Placed) → AllByRecursion P (filter test qs) → AllByRecursion (λ q. test q ≡ true → P q) qs
guarded P test [] all = tt
guarded P test (q ∷ qs) all = by_test (test q)
    (λ is. let kept = subst (AllByRecursion P) (ap (λ b. cond b (q ∷ filter test qs) (filter test qs)) is) all in ((λ passes. kept.0), guarded P test qs kept.1))
    (λ off. ((λ passes. absurd (false≢true (sym off ∙ passes))), guarded P test qs (subst (AllByRecursion P) (ap (λ b. cond b (q ∷ filter test qs) (filter test qs)) off) all)))

all_later : (P : Recorded → Type 0) (more part : List Recorded) → AllByRecursion P (more ++ part) → AllByRecursion P part
all_later P [] part all = all
all_later P (d ∷ more) part all = all_later P more part all.1

-- ends that are not the same are told apart
differ : (one other : Endpoint) → (one ≡ other → ⊥) → same_endpoint one other ≡ false
differ one other apart = by_test (same_endpoint one other) (λ is. absurd (apart (is_same one other is))) (λ off. off)

-- ---- who the server is

server_itself : (n : ℕ) (whole : List Placed) (server : Endpoint) → server_of n whole ≡ Some server → is_server n whole server ≡ true
server_itself n whole server known = and_from (has_port server (server_of n whole)) _ (rw known (eq-eqb server.port server.port refl)) (by (went_on_with n whole) refl) where
  by : (went : Option Endpoint) → went_on_with n whole ≡ went → (has_host server (asked_of n whole) || has_host server (answered_by n whole) || has_host server (went_on_with n whole)) ≡ true
  by (Some e) is =
      let this : Some e ≡ Some server = rw is at known in
      let same : e ≡ server = cc in
      or_right _ (has_host server (went_on_with n whole)) (rw is (subst (λ (o : Endpoint). same_address server.address o.address ≡ true) (sym same) (address_itself server.address)))
  by None is =
      let this : answered_by n whole ≡ Some server = rw is at known in
      or_left _ (has_host server (went_on_with n whole)) (or_right (has_host server (asked_of n whole)) _ (rw this (address_itself server.address)))

server_address : (n : ℕ) (whole : List Placed) (server : Endpoint) → AllByRecursion (λ p. HasAddresses p.datagram) whole → server_of n whole ≡ Some server → IsAddress server.address
server_address n whole server all known = by (first_of (goes_on n) whole) refl where
  answered : (o : Option Placed) → first_of (comes n) whole ≡ o → option_map (λ (p : Placed). p.datagram.source) o ≡ Some server → IsAddress server.address
  answered None first is = absurd (cc)
  answered (Some p) first is = let same : p.datagram.source ≡ server = cc in
      subst (λ (e : Endpoint). IsAddress e.address) same (at_all (λ (p : Placed). HasAddresses p.datagram) whole p all (first_holds (comes n) whole p first).1).0

  by : (o : Option Placed) → first_of (goes_on n) whole ≡ o → IsAddress server.address
  by (Some p) first =
      let this : Some p.datagram.target ≡ Some server = rw first at known in
      let same : p.datagram.target ≡ server = cc in
      subst (λ (e : Endpoint). IsAddress e.address) same (at_all (λ (p : Placed). HasAddresses p.datagram) whole p all (first_holds (goes_on n) whole p first).1).1
  by None first =
      let this : answered_by n whole ≡ Some server = rw first at known in
      answered (first_of (comes n) whole) refl this

-- ---- one datagram

module _ (x : Transfer) (server : Endpoint) (whole : List Placed) (known : server_of x.number whole ≡ Some server)
    (client_at : IsAddress x.client.address) (server_at : IsAddress server.address) where
  abbrev sees : Placed → Bool
  sees p = is_at_server x.number whole p

  abbrev cap : Placed → Datagram
  cap p = captured_at_server host_name x whole p

  -- requests are at the server, and come in there
  request_sees : (p : Placed) → is_request p ≡ true → sees p ≡ is_of x.number p
  request_sees p is = by p.place is where
    by : (place : Place) → is_request (record { datagram = p.datagram; moment = p.moment; place = place }) ≡ true
        → sees (record { datagram = p.datagram; moment = p.moment; place = place }) ≡ is_of x.number (record { datagram = p.datagram; moment = p.moment; place = place })
    by (Opens y) is = refl
    by (Repeats y) is = refl
    by _ is = absurd (false≢true is)

  request_way : (p : Placed) → is_request p ≡ true → cap p ≡ captured host_name In p.datagram
  request_way p is = by p.place is where
    by : (place : Place) → is_request (record { datagram = p.datagram; moment = p.moment; place = place }) ≡ true → cap (record { datagram = p.datagram; moment = p.moment; place = place }) ≡ captured host_name In p.datagram
    by (Opens y) is = refl
    by (Repeats y) is = refl
    by _ is = absurd (false≢true is)

  -- what was talked came in there if the client sent it, and else went out
  talk_way : (p : Placed) → p.place ≡ Talks x → (b : Bool) → same_endpoint p.datagram.source x.client ≡ b → cap p ≡ captured host_name (if b then In else Out) p.datagram
  talk_way p at b is = rw at (rw is refl)

  aside_way : (p : Placed) (y : Transfer) → p.place ≡ Beside y → (cap p ≡ captured host_name In p.datagram) ⊎ (cap p ≡ captured host_name Out p.datagram)
  aside_way p y at = by_test (is_end p.datagram.source (server_of x.number whole))
      (λ is. inr (rw at (rw is refl)))
      (λ off. inl (rw at (rw off refl)))

  -- what passed with the server was seen by it
  with_server : (p : Placed) → p.place ≡ Talks x → other_of x.client p.datagram ≡ server → sees p ≡ true
  with_server p at other = rw at (and_from (x.number == x.number) (is_server x.number whole (other_of x.client p.datagram) || goes_to_asked x p.datagram) (eq-eqb x.number x.number refl)
      (or_left (is_server x.number whole (other_of x.client p.datagram)) (goes_to_asked x p.datagram)
      (subst (λ o. is_server x.number whole o ≡ true) (sym other) (server_itself x.number whole server known))))

  talk_of : (p : Placed) → p.place ≡ Talks x → is_of x.number p ≡ true
  talk_of p at = rw at (eq-eqb x.number x.number refl)

  abbrev Seats : Placed → Type 0
  Seats p = Seat x server sees cap p

  other_is : (p : Placed) (b : Bool) → same_endpoint p.datagram.source x.client ≡ b → other_of x.client p.datagram ≡ (if b then p.datagram.target else p.datagram.source)
  other_is p b is = ap (λ c. if c then p.datagram.target else p.datagram.source) is

  seat_talk : (p : Placed) → IsOwn x p → p.place ≡ Talks x → (begins_request p.datagram.payload ≡ true → p.datagram.target.port ≡ x.asked.port → ⊥) → HasAddresses p.datagram → IsWith x server whole p → Seats p
  seat_talk p is_own at asks_not hosts one = by_test (sees p) seen unseen where
    from : same_endpoint p.datagram.source x.client ≡ true → p.datagram.source ≡ x.client
    from is = is_same p.datagram.source x.client is

    seen : sees p ≡ true → Seats p
    seen is = both (talk_of p at) is (by_test (same_endpoint p.datagram.source x.client)
        (λ ours. to_server (from ours) (sym (other_is p true ours) ∙ one at is) asks_not (talk_way p at true ours))
        (λ off. from_server (sym (other_is p false off) ∙ one at is) (came_to x p is_own off) (talk_way p at false off)))

    not_there : (o : Endpoint) → IsAddress o.address → other_of x.client p.datagram ≡ o → sees p ≡ false → side o ≡ side server → ⊥
    not_there o host other off same = by_test (same_endpoint o server)
        (λ is. false≢true (sym off ∙ with_server p at (other ∙ is_same o server is)))
        (λ differs. named_same o server host server_at differs same)

    unseen : sees p ≡ false → Seats p
    unseen off = own (talk_of p at) off (by_test (same_endpoint p.datagram.source x.client)
        (λ ours. sends (from ours) (not_there p.datagram.target hosts.1 (other_is p true ours) off) asks_not)
        (λ theirs. gets (came_to x p is_own theirs) (not_there p.datagram.source hosts.0 (other_is p false theirs) off) (named_same p.datagram.source x.client hosts.0 client_at theirs)))

  seat_own : (p : Placed) → is_of x.number p ≡ true → IsOwn x p → HasAddresses p.datagram → IsWith x server whole p → Seats p
  seat_own p of (as_request is begins source target) hosts one = both of (request_sees p is ∙ of) (asks source target begins (request_way p is))
  seat_own p of (as_talk at ends asks_not) hosts one = seat_talk p (as_talk at ends asks_not) at asks_not hosts one

  -- what is not the client's but the server's passed beside it
  is_aside : (p : Placed) → is_of x.number p ≡ false → sees p ≡ true → (y : Transfer) × (p.place ≡ Beside y)
  is_aside p off is = by p.place refl off is where
    by : (place : Place) → p.place ≡ place → is_of x.number (record { datagram = p.datagram; moment = p.moment; place = place }) ≡ false → sees (record { datagram = p.datagram; moment = p.moment; place = place }) ≡ true
        → (y : Transfer) × (p.place ≡ Beside y)
    by (Opens y) at off is = absurd (false≢true (sym off ∙ is))
    by (Repeats y) at off is = absurd (false≢true (sym off ∙ is))
    by (Talks y) at off is = absurd (false≢true (sym (ap (λ b. b && (is_server x.number whole (other_of y.client p.datagram) || goes_to_asked y p.datagram)) off) ∙ is))
    by (Beside y) at off is = (y, at)
    by _ at off is = absurd (false≢true is)

  number_of_aside : (p : Placed) (y : Transfer) → p.place ≡ Beside y → sees p ≡ true → (y.number == x.number) ≡ true
  number_of_aside p y at is =
      let both : ((y.number == x.number) && (is_end p.datagram.source (server_of x.number whole) || is_end p.datagram.target (server_of x.number whole))) ≡ true = rw at at is in
      (and_parts (y.number == x.number) (is_end p.datagram.source (server_of x.number whole) || is_end p.datagram.target (server_of x.number whole)) both).0

  seat_other : (p : Placed) → is_of x.number p ≡ false → HasAddresses p.datagram → IsAsideOther x p → Seats p
  seat_other p off hosts others = by_test (sees p) seen (λ unseen. neither off unseen) where
    seen : sees p ≡ true → Seats p
    seen is =
        let (y, at) = is_aside p off is in
        let ends = others y at (number_of_aside p y at is) in
        aside off is (record {
          source = named_same p.datagram.source x.client hosts.0 client_at (differ p.datagram.source x.client ends.0);
          target = named_same p.datagram.target x.client hosts.1 client_at (differ p.datagram.target x.client ends.1);
          captured_so = aside_way p y at;
        })

  seat : (p : Placed) → (is_of x.number p ≡ true → IsOwn x p) → HasAddresses p.datagram → IsWith x server whole p → IsAsideOther x p → Seats p
  seat p is_own hosts one others = by_test (is_of x.number p)
      (λ of. seat_own p of (is_own of) hosts one)
      (λ off. seat_other p off hosts others)

  seats : (qs : List Placed) → AllByRecursion (λ q. is_of x.number q ≡ true → IsOwn x q) qs → AllByRecursion (λ q. HasAddresses q.datagram) qs → AllByRecursion (IsWith x server whole) qs → AllByRecursion (IsAsideOther x) qs
      → AllByRecursion (Seat x server sees cap) qs
  seats [] is_own hosts one others = tt
  seats (p ∷ qs) is_own hosts one others = (seat p is_own.0 hosts.0 one.0 others.0, seats qs is_own.1 hosts.1 one.1 others.1)

  module _ (client_apart : side x.client ≡ side server → ⊥) where
    opening : (p : Placed) → (is_of x.number p ≡ true → IsOwn x p) → p.place ≡ Opens x → Opening x server sees cap client_apart p
    opening p is_own at = by (is_own of) where
      of : is_of x.number p ≡ true
      of = rw at (eq-eqb x.number x.number refl)

      by : IsOwn x p → Opening x server sees cap client_apart p
      by (as_request is begins source target) = record { sees = request_sees p is ∙ of; source = source; target = target; begins = begins; way = request_way p is }
      by (as_talk talks ends asks_not) = let both : Opens x ≡ Talks x = sym at ∙ talks in absurd (cc)

    openings : (qs : List Placed) → AllByRecursion (λ q. is_of x.number q ≡ true → IsOwn x q) qs → AllByRecursion (IsSeenOpening x server sees cap client_apart) qs
    openings [] is_own = tt
    openings (p ∷ qs) is_own = (opening p is_own.0, openings qs is_own.1)

-- ---- the law

module _ (x : Transfer) (server : Endpoint) (named : List ℕ) (more part : List Recorded) (one : IsServedIn x server named more part) where
  all_addresses : AllByRecursion HasAddresses (more ++ part)
  all_addresses = recursion_from_All HasAddresses (more ++ part) one.addresses

  part_addresses : AllByRecursion (λ p. HasAddresses p.datagram) (placed named part)
  part_addresses = placed_addresses named part (all_later HasAddresses more part all_addresses)

  own_part : AllByRecursion (IsOwn x) (client_view x.number (placed named part))
  own_part = own_all named part x one.at_service one.opened

  guards : AllByRecursion (λ q. is_of x.number q ≡ true → IsOwn x q) (placed named part)
  guards = guarded (IsOwn x) (is_of x.number) (placed named part) own_part

  ends : IsAddress x.client.address × IsAddress x.asked.address
  ends = opening_addresses x (client_view x.number (placed named part)) own_part (kept_all (λ p. HasAddresses p.datagram) (is_of x.number) (placed named part) part_addresses) (opened_own x (placed named part) one.opened)

  server_at : IsAddress server.address
  server_at = server_address x.number (placed named (more ++ part)) server (placed_addresses named (more ++ part) all_addresses) one.known

  client_apart : side x.client ≡ side server → ⊥
  client_apart = named_same x.client server ends.0 server_at one.not_itself

  asked_apart : side x.client ≡ side x.asked → ⊥
  asked_apart = named_same x.client x.asked ends.0 ends.1 one.apart

  abbrev Sees : Placed → Bool
  Sees p = is_at_server x.number (placed named (more ++ part)) p

  abbrev Cap : Placed → Datagram
  Cap p = captured_at_server host_name x (placed named (more ++ part)) p

  all_seats : AllByRecursion (Seat x server Sees Cap) (placed named part)
  all_seats = seats x server (placed named (more ++ part)) one.known ends.0 server_at (placed named part) guards part_addresses
      (recursion_from_All (IsWith x server (placed named (more ++ part))) (placed named part) one.one) (besides_all named part x one.opened)

  all_openings : AllByRecursion (IsSeenOpening x server Sees Cap client_apart) (placed named part)
  all_openings = openings x server (placed named (more ++ part)) one.known ends.0 server_at client_apart (placed named part) guards

  pub rules_at_server : All (IsSentThere x (placed named (more ++ part))) (placed named part) → OneEnded (server_header x) (server_capture host_name x (placed named (more ++ part)) (placed named part))
      → BreaksNoTapRule (sides_of x (placed named (more ++ part))) (between_capture x (placed named part))
  rules_at_server sent lawful = subst (λ o. BreaksNoTapRule (sides_with x o) (between_capture x (placed named part))) (sym one.known)
      (server_breaks_none x server Sees Cap client_apart asked_apart (placed named part) all_seats all_openings one.opened
      (none_sent x server Sees Cap client_apart asked_apart (placed named part) (recursion_from_All (IsSentThere x (placed named (more ++ part))) (placed named part) sent)) lawful)

pub server_cleared : (x : Transfer) (server : Endpoint) (named : List ℕ) (more rest : List Recorded) (d : Recorded) → IsServedIn x server named more (d ∷ rest)
    → BothSaw x (placed named (more ++ d ∷ rest)) (placed named (d ∷ rest))
    → OneEnded (server_header x) (server_capture host_name x (placed named (more ++ d ∷ rest)) (placed named (d ∷ rest)))
    → (rule : Rule) → IsTapRefused (sides_of x (placed named (more ++ d ∷ rest))) (between_capture x (placed named rest)) (passed_of d) rule → ⊥
server_cleared x server named more rest d one saw lawful rule refused =
    not_refused x server (Sees x server named more (d ∷ rest) one) (Cap x server named more (d ∷ rest) one) (client_apart x server named more (d ∷ rest) one) (asked_apart x server named more (d ∷ rest) one)
    (record { datagram = d; moment = max d.time (clock (placed named rest)); place = place_of named (placed named rest) (max d.time (clock (placed named rest))) d }) (placed named rest)
    (all_seats x server named more (d ∷ rest) one) (all_openings x server named more (d ∷ rest) one) one.opened saw.0 saw.1 lawful rule
    (subst (λ o. IsTapRefused (sides_with x o) (between_capture x (placed named rest)) (passed_of d) rule) one.known refused)
