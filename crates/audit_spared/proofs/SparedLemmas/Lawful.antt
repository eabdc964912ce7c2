-- A lawful capture at a client is such as the division of a recording looks for.
use Rattle.std.proofs.Common.{◌≡◌, ℕ, Bool, true, false, List, [], ◌∷◌, Some, None, inl, inr, refl, sym, ap, subst, ◌∙◌, ◌&&◌, ◌||◌, not, map, bytes_eq, if◌then◌else◌}
use Rattle.std.specs.List.{list_any, AllByRecursion}
use Rattle.std.proofs.lemmas.Bool.{false≢true, or_cases, or_left, or_right, and_from, and_parts, eqb-true}
use Rattle.std.proofs.lemmas.Slice.Eq.{bytes_eq-Decides}
use Rattle.tftp_packet.specs.Hosts.{Datagram, PeerId, peer_of, same_peer}
use Rattle.law_model.specs.Rules.{begins_request as says_request, begins_error as says_error, comes_in, goes_out, has_come_from, asks, first_of}
use Rattle.law_end.proofs.FirstBroken.FirstRequests.{or_some}
use Rattle.law_end.proofs.Division.RouteTests.{is_same as same_peers}
use Rattle.audit_flows.specs.Lines.{Recorded, asked_part, asks_alike, same_endpoint, other_of, begins_request, begins_error, goes}
use Rattle.audit_flows.specs.{Address, Endpoint}
use Rattle.audit_flows.specs.Lines.Recording.{is_answer}
use Rattle.audit_flows.proofs.LinesLemmas.Endpoints.{is_same, same_itself}
use Rattle.audit_flows.proofs.LinesLemmas.Lines.{by_test}
use Rattle.audit_spared.specs.Spared.Seen.{as_seen_by, at_client_of}
use Rattle.audit_spared.specs.Spared.{AsksInTime, Follows, IsLawfulAt, asks_from, comes_at, goes_from, goes_on_from}
use Rattle.audit_spared.proofs.SparedLemmas.Captured.{AreHere}
use Rattle.audit_spared.proofs.SparedLemmas.Places.{comes_to_it}
use Rattle.audit_spared.proofs.SparedLemmas.Rules.{some_asked, heard_from, requests_go, first_service}
use Rattle.audit_spared.proofs.SparedLemmas.Begun.{went_on_none, first_answers, requests_alike}
use Rattle.audit_spared.proofs.SparedLemmas.Views.{name, peer_seen, goes_seen, payload_seen, name_one}

module _ (write : Address → List ℕ) (write_one : (a b : Address) → write a ≡ write b → a ≡ b) (c : Endpoint) where
  abbrev seen : Recorded → Datagram
  seen = as_seen_by write c

  request_seen : (d : Recorded) → says_request (seen d) ≡ begins_request d.payload
  request_seen d = ap begins_request (payload_seen write c d)

  error_seen : (d : Recorded) → says_error (seen d) ≡ begins_error d.payload
  error_seen d = ap begins_error (payload_seen write c d)

  remote_seen : (d : Recorded) → goes_from c d ≡ true → (seen d).remote ≡ d.target.port
  remote_seen d from = ap (λ (p : PeerId). p.port) (peer_seen write c d) ∙ ap (λ b. (name write c (if b then d.target else d.source)).port) from

  -- ---- lists as the client saw them

  came_seen : (k : List Recorded) → list_any comes_in (map seen k) ≡ list_any (comes_at c) k
  came_seen [] = refl
  came_seen (d ∷ k) = λ i. not (goes_seen write c d i) || came_seen k i

  went_on_seen : (k : List Recorded) → list_any (λ e. (goes_out e && not (says_request e)) && not (says_error e)) (map seen k) ≡ list_any (goes_on_from c) k
  went_on_seen [] = refl
  went_on_seen (d ∷ k) = λ i. one i || went_on_seen k i where
    turned : (g r e : Bool) → ((g && not r) && not e) ≡ (if r then false else (g && not e))
    turned true true e = refl
    turned true false e = refl
    turned false true e = refl
    turned false false e = refl

    one : ((goes_out (seen d) && not (says_request (seen d))) && not (says_error (seen d))) ≡ goes_on_from c d
    one = (λ i. (goes_seen write c d i && not (request_seen d i)) && not (error_seen d i)) ∙ turned (goes_from c d) (begins_request d.payload) (begins_error d.payload)

  -- ---- each clause

  module _ (d : Recorded) (k : List Recorded) (passes : IsLawfulAt write c (d ∷ k)) where
    out : asks_from c d ≡ true → goes_out (seen d) ≡ true
    out is = goes_seen write c d ∙ (and_parts (goes_from c d) (begins_request d.payload) is).0

    says : asks_from c d ≡ true → says_request (seen d) ≡ true
    says is = request_seen d ∙ (and_parts (goes_from c d) (begins_request d.payload) is).1

    peer_first : asks_from c d ≡ true → (f : Datagram) → first_of (asks (at_client_of 69)) (seen d ∷ map seen k) ≡ Some f → peer_of (seen d) ≡ peer_of f
    peer_first is f found = (requests_go 69 (seen d ∷ map seen k) f passes found).0 (out is) (says is)

    to_service : asks_from c d ≡ true → d.target.port ≡ 69
    to_service is =
        let (f, found) = some_asked 69 (seen d) (map seen k) passes in
        let service = first_service 69 (seen d ∷ map seen k) f found in
        sym (remote_seen d (and_parts (goes_from c d) (begins_request d.payload) is).0) ∙ ap (λ (p : PeerId). p.port) (peer_first is f found) ∙ eqb-true f.remote 69 service.2

    same_target : (e : Recorded) → goes_from c d ≡ true → goes_from c e ≡ true → peer_of (seen e) ≡ peer_of (seen d) → e.target ≡ d.target
    same_target e from also same =
        let other : other_of c e ≡ other_of c d = name_one write c write_one (other_of c e) (other_of c d) (sym (peer_seen write c e) ∙ same ∙ peer_seen write c d) in
        sym (ap (λ b. if b then e.target else e.source) also) ∙ other ∙ ap (λ b. if b then d.target else d.source) from

    alike_one : asks_from c d ≡ true → (e : Recorded) → asks_from c e ≡ true → asked_part e.payload ≡ asked_part d.payload → peer_of (seen e) ≡ peer_of (seen d) → asks_alike e d ≡ true
    alike_one is e also words same =
        let from = (and_parts (goes_from c d) (begins_request d.payload) is).0 in
        let there = (and_parts (goes_from c e) (begins_request e.payload) also).0 in
        and_from (bytes_eq (asked_part e.payload) (asked_part d.payload)) (goes d.source d.target e) ((bytes_eq-Decides (asked_part e.payload) (asked_part d.payload)).1 words)
        (and_from (same_endpoint e.source d.source) (same_endpoint e.target d.target)
        (subst (λ s. same_endpoint e.source s ≡ true) (sym (is_same d.source c from)) there)
        (subst (λ s. same_endpoint s d.target ≡ true) (sym (same_target e from there same)) (same_itself d.target)))

    abbrev Words : Datagram → Type 0
    Words e = goes_out e ≡ true → says_request e ≡ true → asked_part e.payload ≡ asked_part (seen d).payload

    alike_all : asks_from c d ≡ true → (f : Datagram) → peer_of (seen d) ≡ peer_of f → (ks : List Recorded) → AllByRecursion Words (map seen ks)
        → AllByRecursion (λ e. goes_out e ≡ true → says_request e ≡ true → peer_of e ≡ peer_of f) (map seen ks) → AllByRecursion (λ e. asks_from c e ≡ true → asks_alike e d ≡ true) ks
    alike_all is f same [] words all = tt
    alike_all is f same (e ∷ ks) words all = (
      λ also.
          let parts = and_parts (goes_from c e) (begins_request e.payload) also in
          let out : goes_out (seen e) ≡ true = goes_seen write c e ∙ parts.0 in
          let says : says_request (seen e) ≡ true = request_seen e ∙ parts.1 in
          alike_one is e also (sym (ap asked_part (payload_seen write c e)) ∙ words.0 out says ∙ ap asked_part (payload_seen write c d)) (all.0 out says ∙ sym same),
      alike_all is f same ks words.1 all.1,
    )

    alike : asks_from c d ≡ true → AllByRecursion (λ e. asks_from c e ≡ true → asks_alike e d ≡ true) k
    alike is =
        let (f, found) = some_asked 69 (seen d) (map seen k) passes in
        alike_all is f (peer_first is f found) k (requests_alike 69 (seen d) (map seen k) passes (out is) (says is)) (requests_go 69 (seen d ∷ map seen k) f passes found).1

    heard_by : goes_from c d ≡ true → (ks : List Recorded) → AreHere c ks → has_come_from (peer_of (seen d)) (map seen ks) ≡ true → list_any (λ e. goes d.target c e && comes_at c e) ks ≡ true
    heard_by from [] here any = absurd (false≢true any)
    heard_by from (e ∷ ks) here any = elim (or_cases (comes_in (seen e) && same_peer (peer_of (seen e)) (peer_of (seen d))) (has_come_from (peer_of (seen d)) (map seen ks)) any) [
      | inl this ↦
          let parts = and_parts (comes_in (seen e)) (same_peer (peer_of (seen e)) (peer_of (seen d))) this in
          let came : comes_at c e ≡ true = sym (ap not (goes_seen write c e)) ∙ parts.0 in
          let off : goes_from c e ≡ false = by_test (goes_from c e) (λ t. absurd (false≢true (sym (ap not t) ∙ came))) (λ f. f) in
          let other : other_of c e ≡ d.target = name_one write c write_one (other_of c e) (other_of c d)
          (sym (peer_seen write c e) ∙ same_peers (peer_of (seen e)) (peer_of (seen d)) parts.1 ∙ peer_seen write c d) ∙ ap (λ b. if b then d.target else d.source) from in
          or_left (goes d.target c e && comes_at c e) (list_any (λ r. goes d.target c r && comes_at c r) ks)
          (and_from (goes d.target c e) (comes_at c e) (subst (λ o. goes o c e ≡ true) other (comes_to_it c e off here.0)) came)
      | inr later ↦ or_right (goes d.target c e && comes_at c e) (list_any (λ r. goes d.target c r && comes_at c r) ks) (heard_by from ks here.1 later)
    ]

  known : (d : Recorded) (k : List Recorded) → IsLawfulAt write c (d ∷ k) → AreHere c k → (k ≡ [] → asks_from c d ≡ true) → goes_from c d ≡ true → begins_request d.payload ≡ false
      → list_any (λ e. goes d.target c e && comes_at c e) k ≡ true
  known d [] passes here first from plain = absurd (false≢true (sym plain ∙ (and_parts (goes_from c d) (begins_request d.payload) (first refl)).1))
  known d (e ∷ ks) passes here first from plain = heard_by d (e ∷ ks) passes from (e ∷ ks) here (heard_from 69 (seen d) (seen e) (map seen ks) passes (goes_seen write c d ∙ from) (request_seen d ∙ plain))

  first_asks : (d : Recorded) → IsLawfulAt write c (d ∷ []) → asks_from c d ≡ true
  first_asks d passes =
      let (f, found) = some_asked 69 (seen d) [] passes in
      let service = first_service 69 (seen d ∷ []) f found in
      let same : seen d ≡ f = elim (or_some None (asks (at_client_of 69) (seen d)) (seen d) f found) [
        | inl none ↦ absurd (cc)
        | inr this ↦ this.2
      ] in
      and_from (goes_from c d) (begins_request d.payload)
      (sym (goes_seen write c d) ∙ ap goes_out same ∙ service.0)
      (sym (request_seen d) ∙ ap says_request same ∙ service.1)

  -- so it follows
  pub follows_lawful : (d : Recorded) (k : List Recorded) → IsLawfulAt write c (d ∷ k) → AreHere c (d ∷ k) → Follows c k d
  follows_lawful d k passes here =
      let first : k ≡ [] → asks_from c d ≡ true = λ is. first_asks d (subst (λ l. IsLawfulAt write c (d ∷ l)) is passes) in
      record {
        here = here.0;
        first = first;
        service = to_service d k passes;
        alike = alike d k passes;
        known = known d k passes here.1 first;
      }

  -- what comes first is an answer
  pub answers_lawful : (d : Recorded) (k : List Recorded) → IsLawfulAt write c (d ∷ k) → goes_from c d ≡ false → list_any (comes_at c) k ≡ false → is_answer d.payload ≡ true
  answers_lawful d k passes off none = sym (ap is_answer (payload_seen write c d)) ∙ first_answers 69 (seen d) (map seen k) passes (ap not (goes_seen write c d ∙ off)) (came_seen k ∙ none)

  -- and it is asked for in time
  pub in_time_lawful : (k : List Recorded) → IsLawfulAt write c k → AsksInTime c k
  in_time_lawful [] passes = tt
  in_time_lawful (d ∷ k) passes = (
    λ is. sym (went_on_seen k) ∙ went_on_none 69 (seen d) (map seen k) passes (out d k passes is) (says d k passes is),
    in_time_lawful k passes.1,
  )
