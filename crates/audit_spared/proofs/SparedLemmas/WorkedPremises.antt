-- Premises of the laws that a recording meets, by computation; and a refusal by the ports.
use Rattle.std.proofs.Common.{◌≡◌, ◌<◌, ◌+◌, ℕ, zero, suc, Bool, true, false, ◌==◌, ◌&&◌, ◌||◌, not, nat_le, List, [], ◌∷◌, ◌++◌, Contains, inl, inr, refl, sym, ap, subst, ◌∙◌, map, reverse, arith}
use Rattle.std.specs.List.{All, AllByRecursion, list_all, list_any}
use Rattle.std.proofs.lemmas.Bool.{false≢true, or_left, or_right, and_parts, leb-true, eq-eqb, or_cases}
use Rattle.tftp_packet.specs.Hosts.{Datagram, Header}
use Rattle.law_model.specs.Rules.{Route, route_of}
use Rattle.law_model.specs.{PortRule}
use Rattle.law_end.specs.{Broken, IsLawful, IsRefused, OneEnded, Rule, number_of}
use Rattle.law_end.proofs.FirstBroken.OneMessage.{agreement_from}
use Rattle.law_model.proofs.RulesLemmas.EndRules.{from_18}
use Rattle.law_model.proofs.ModelLemmas.Members.{contains_cases, contains_first, contains_later, contains_none}
use Rattle.audit_flows.specs.Lines.{Recorded, begins_request, other_of, same_endpoint, silence}
use Rattle.audit_flows.specs.{Address, V4, V6, Endpoint}
use Rattle.audit_flows.proofs.LinesLemmas.Endpoints.{is_same}
use Rattle.audit_flows.proofs.LinesLemmas.Lines.{by_test}
use Rattle.audit_spared.specs.Spared.Seen.{HasNoSilence, as_seen_by, at_client_of, is_with}
use Rattle.audit_spared.specs.Spared.{AreAtHost, AreInOrder, AskersAreElsewhere, AsksInTime, FollowOneAnother, HaveNoServicePort, HaveOwnNames, IsServedCapture, IsTimelyCapture, IsWholeCapture, as_served, asks_from, at_server_of, goes_on_from}
use Rattle.audit_spared.specs.Spared.Worked.{own_name}
use Rattle.audit_spared.proofs.SparedLemmas.Lists.{all_at}

-- ---- lists

module _ {X : Type 0} (P : X → Type 0) where
  pub all_none : All P []
  all_none k d low = absurd (omega arith)

  pub all_more : (x : X) (xs : List X) → P x → All P xs → All P (x ∷ xs)
  all_more x xs here rest zero d low = here
  all_more x xs here rest (suc k) d low = rest k d (omega arith)

pub at_one : {X : Type 0} (P : X → Type 0) (x y : X) → P x → Contains (x ∷ []) y → P y
at_one P x y here there = elim (contains_cases x [] y there) [ inl is ↦ subst P is here | inr none ↦ absurd (contains_none y none) ]

pub at_two : {X : Type 0} (P : X → Type 0) (x z y : X) → P x → P z → Contains (x ∷ z ∷ []) y → P y
at_two P x z y here also there = elim (contains_cases x (z ∷ []) y there) [ inl is ↦ subst P is here | inr later ↦ at_one P z y also later ]

each_of : {X : Type 0} (test : X → Bool) (xs : List X) → list_all test xs ≡ true → AllByRecursion (λ x. test x ≡ true) xs
each_of test [] e = tt
each_of test (x ∷ xs) e = let parts = and_parts (test x) (list_all test xs) e in (parts.0, each_of test xs parts.1)

-- ---- premises

-- it is at a client, or says no request, or its source takes part in nothing that is at a client
abbrev pub asks_elsewhere_only : List Endpoint → List Recorded → Recorded → Bool
asks_elsewhere_only clients recorded request =
    list_any (λ c. is_with c request) clients || not (begins_request request.payload) || list_all (λ d. not (list_any (λ c. is_with c d) clients) || not (is_with request.source d)) recorded

none_with : (clients : List Endpoint) (d : Recorded) → ((c : Endpoint) → Contains clients c → is_with c d ≡ false) → list_any (λ c. is_with c d) clients ≡ false
none_with [] d none = refl
none_with (c ∷ clients) d none =
    ap (λ b. b || list_any (λ e. is_with e d) clients) (none c (contains_first c clients)) ∙ none_with clients d (λ e there. none e (contains_later c clients e there))

some_with : (clients : List Endpoint) (d : Recorded) (c : Endpoint) → Contains clients c → is_with c d ≡ true → list_any (λ e. is_with e d) clients ≡ true
some_with [] d c there with = absurd (contains_none c there)
some_with (e ∷ clients) d c there with = elim (contains_cases e clients c there) [
  | inl this ↦ or_left (is_with e d) (list_any (λ o. is_with o d) clients) (subst (λ o. is_with o d ≡ true) (sym this) with)
  | inr later ↦ or_right (is_with e d) (list_any (λ o. is_with o d) clients) (some_with clients d c later with)
]

both_off : (a b : Bool) → (not a || not b) ≡ true → a ≡ true → b ≡ false
both_off a b e is = by_test b
    (λ also. absurd (false≢true ((λ i. not (sym is i) || not (sym also i)) ∙ e)))
    (λ off. off)

pub others_by : (clients : List Endpoint) (recorded : List Recorded) → list_all (asks_elsewhere_only clients recorded) recorded ≡ true → AskersAreElsewhere clients recorded
others_by clients recorded e request d there also none begins_it c is_client with =
    let here : asks_elsewhere_only clients recorded request ≡ true = all_at (λ x. asks_elsewhere_only clients recorded x ≡ true) recorded request (each_of (asks_elsewhere_only clients recorded) recorded e) there in
    let rest : list_all (λ x. not (list_any (λ o. is_with o x) clients) || not (is_with request.source x)) recorded ≡ true =
    sym (λ i. none_with clients request none i || not (begins_it i) || list_all (λ x. not (list_any (λ o. is_with o x) clients) || not (is_with request.source x)) recorded) ∙ here in
    both_off (list_any (λ o. is_with o d) clients) (is_with request.source d)
    (all_at (λ x. (not (list_any (λ o. is_with o x) clients) || not (is_with request.source x)) ≡ true) recorded d
    (each_of (λ x. not (list_any (λ o. is_with o x) clients) || not (is_with request.source x)) recorded rest) also)
    (some_with clients d c is_client with)

pub ports_by : (clients : List Endpoint) → list_all (λ c. not (c.port == 69)) clients ≡ true → HaveNoServicePort clients
ports_by clients e c there is =
    let off = all_at (λ x. not (x.port == 69) ≡ true) clients c (each_of (λ x. not (x.port == 69)) clients e) there in
    false≢true (sym (ap not (eq-eqb c.port 69 is)) ∙ off)

abbrev pub in_order : List Recorded → Bool
in_order [] = true
in_order (d ∷ []) = true
in_order (d ∷ e ∷ older) = nat_le e.time d.time && in_order (e ∷ older)

pub order_by : (recorded : List Recorded) → in_order recorded ≡ true → AreInOrder recorded
order_by [] e = tt
order_by (d ∷ []) e = tt
order_by (d ∷ r ∷ older) e = let parts = and_parts (nat_le r.time d.time) (in_order (r ∷ older)) e in (leb-true r.time d.time parts.0, order_by (r ∷ older) parts.1)

abbrev pub is_steady : List Recorded → Bool
is_steady [] = true
is_steady (d ∷ []) = true
is_steady (d ∷ e ∷ older) = nat_le e.time d.time && (nat_le d.time (e.time + silence) && is_steady (e ∷ older))

pub steady_by : (capture : List Recorded) → is_steady capture ≡ true → HasNoSilence capture
steady_by [] e = tt
steady_by (d ∷ []) e = tt
steady_by (d ∷ r ∷ older) e =
    let parts = and_parts (nat_le r.time d.time) (nat_le d.time (r.time + silence) && is_steady (r ∷ older)) e in
    let more = and_parts (nat_le d.time (r.time + silence)) (is_steady (r ∷ older)) parts.1 in
    (leb-true r.time d.time parts.0, leb-true d.time (r.time + silence) more.0, steady_by (r ∷ older) more.1)

abbrev pub asks_in_time : Endpoint → List Recorded → Bool
asks_in_time c [] = true
asks_in_time c (d ∷ k) = not (asks_from c d && list_any (goes_on_from c) k) && asks_in_time c k

pub in_time_by : (c : Endpoint) (k : List Recorded) → asks_in_time c k ≡ true → AsksInTime c k
in_time_by c [] e = tt
in_time_by c (d ∷ k) e =
    let parts = and_parts (not (asks_from c d && list_any (goes_on_from c) k)) (asks_in_time c k) e in (
      λ is. by_test (list_any (goes_on_from c) k)
          (λ any. absurd (false≢true (sym ((λ i. not (is i && any i))) ∙ parts.0)))
          (λ none. none),
      in_time_by c k parts.1,
    )

-- an endpoint of this host, whatever its port
abbrev pub is_at_host : Endpoint → Endpoint → Recorded → Bool
is_at_host host c d = not (is_with c d) || same_endpoint (record { address = (other_of c d).address; port = host.port }) host

host_at : (host c : Endpoint) (d : Recorded) → is_at_host host c d ≡ true → is_with c d ≡ true → (other_of c d).address ≡ host.address
host_at host c d e with = elim (or_cases (not (is_with c d)) (same_endpoint (record { address = (other_of c d).address; port = host.port }) host) e) [
  | inl off ↦ absurd (false≢true (sym (ap not with) ∙ off))
  | inr same ↦ ap (λ (o : Endpoint). o.address) (is_same (record { address = (other_of c d).address; port = host.port }) host same)
]

pub here_by : (host : Endpoint) (clients : List Endpoint) (recorded : List Recorded) → list_all (λ c. list_all (is_at_host host c) recorded) clients ≡ true → AreAtHost host.address clients recorded
here_by host clients recorded e d c there is_client with =
    let all = all_at (λ x. list_all (is_at_host host x) recorded ≡ true) clients c (each_of (λ x. list_all (is_at_host host x) recorded) clients e) is_client in
    host_at host c d (all_at (λ x. is_at_host host c x ≡ true) recorded d (each_of (is_at_host host c) recorded all) there) with

-- a host's version and address are one name
begins_with : ℕ → List ℕ → Bool
begins_with n [] = false
begins_with n (x ∷ xs) = x == n

own_one : (a b : Address) → own_name a ≡ own_name b → a ≡ b
unfolding begins_with
own_one (V4 a) (V4 b) is = let same : a ≡ b = cc in ap V4 same
own_one (V6 a) (V6 b) is = let same : a ≡ b = cc in ap V6 same
own_one (V4 a) (V6 b) is = absurd (false≢true (sym (ap (begins_with 4) is)))
own_one (V6 a) (V4 b) is = absurd (false≢true (ap (begins_with 4) is))

pub own_names : (recorded : List Recorded) → HaveOwnNames own_name recorded
own_names recorded a b there also is = own_one a b is

-- ---- captures

pub follow_one : (P : List Recorded → Type 0) (k recorded : List Recorded) → recorded ≡ k ++ [] → P k → FollowOneAnother P recorded
follow_one P k recorded is here = (k ∷ [], is, all_more P k [] here (all_none P))

pub follow_two : (P : List Recorded → Type 0) (one other recorded : List Recorded) → recorded ≡ one ++ (other ++ []) → P one → P other → FollowOneAnother P recorded
follow_two P one other recorded is here also = (one ∷ other ∷ [], is, all_more P one (other ∷ []) here (all_more P other [] also (all_none P)))

pub whole_by : (write : Address → List ℕ) (c : Endpoint) (k : List Recorded) → IsLawful (at_client_of 69) (map (as_seen_by write c) (reverse k)) → is_steady k ≡ true → IsWholeCapture write c k
whole_by write c k lawful steady = record { lawful = lawful; steady = steady_by k steady }

pub late_by : (write : Address → List ℕ) (c : Endpoint) (k : List Recorded) → IsLawful (at_server_of 69) (map (as_served write c) (reverse k)) → is_steady k ≡ true → IsServedCapture write c k
late_by write c k lawful steady = record { lawful = lawful; steady = steady_by k steady }

pub served_by : (write : Address → List ℕ) (c : Endpoint) (k : List Recorded) → IsLawful (at_server_of 69) (map (as_served write c) (reverse k)) → is_steady k ≡ true → asks_in_time c k ≡ true → IsTimelyCapture write c k
served_by write c k lawful steady in_time = record { served = late_by write c k lawful steady; in_time = in_time_by c k in_time }

-- ---- a refusal by the ports

-- only the first rule stands before the second
before_two : (P : Rule → Type 0) → (P (Rule.Port PortRule.Foreign) → ⊥) → (q : Rule) → number_of q < 2 → P q → ⊥
before_two P none (Rule.Port PortRule.Foreign) low is = none is
before_two P none (Rule.Port PortRule.Wrong) low is = absurd (omega arith)
before_two P none (Rule.Port PortRule.BadAnswer) low is = absurd (omega arith)
before_two P none (Rule.Agreement r) low is = let high = agreement_from r in absurd (omega (arith, high, low))
before_two P none (Rule.Block r) low is = let high = from_18 r in absurd (omega (arith, high, low))
before_two P none (Rule.Malformed fault) low is = absurd (omega arith)
before_two P none Rule.NoRequest low is = absurd (omega arith)
before_two P none Rule.WrongKind low is = absurd (omega arith)
before_two P none Rule.AfterError low is = absurd (omega arith)
before_two P none Rule.RequestChanged low is = absurd (omega arith)
before_two P none Rule.RequestAfterStart low is = absurd (omega arith)
before_two P none Rule.ReplyChanged low is = absurd (omega arith)
before_two P none Rule.OackChanged low is = absurd (omega arith)
before_two P none Rule.OackAfterStart low is = absurd (omega arith)

pub wrong_port : (h : Header) (earlier : List Datagram) (d : Datagram) → OneEnded h earlier → route_of h earlier d ≡ Route.WrongPort → IsRefused h earlier d (Rule.Port PortRule.Wrong)
wrong_port h earlier d lawful route = record {
  lawful = lawful;
  broken = (route, before_two (Broken h earlier d) (λ is. let both : Route.WrongPort ≡ Route.ForeignPort = sym route ∙ is in absurd (cc)));
}

pub foreign_port : (h : Header) (earlier : List Datagram) (d : Datagram) → OneEnded h earlier → route_of h earlier d ≡ Route.ForeignPort → IsRefused h earlier d (Rule.Port PortRule.Foreign)
foreign_port h earlier d lawful route = record {
  lawful = lawful;
  broken = (route, λ q low is. before_two (λ r. number_of r < 1) (λ none. absurd (omega arith)) q (omega arith) low);
}
