-- A lawful capture between a client and a server is such as the division of a recording looks for.
use Rattle.std.proofs.Common.{◌≡◌, ◌⊎◌, ℕ, Bool, true, false, List, [], ◌∷◌, Contains, inl, inr, refl, sym, ap, subst, ◌∙◌, ◌&&◌, ◌||◌, not, map, bytes_eq, if◌then◌else◌}
use Rattle.std.specs.List.{list_any, AllByRecursion}
use Rattle.std.proofs.lemmas.Bool.{false≢true, or_cases, or_left, or_right, and_from, and_parts}
use Rattle.std.proofs.lemmas.Slice.Eq.{bytes_eq-Decides}
use Rattle.tftp_packet.specs.{Spells}
use Rattle.tftp_packet.specs.Hosts.{Datagram, PeerId, peer_of}
use Rattle.law_model.specs.Model.{Meaning, Req, message_of, request_of}
use Rattle.law_model.specs.Rules.{begins_request as says_request, comes_in, goes_out}
use Rattle.law_end.specs.{OneEnded, TransferIds}
use Rattle.audit_flows.specs.Lines.{Recorded, asked_part, asks_alike, same_endpoint, other_of, begins_request, goes}
use Rattle.audit_flows.specs.{Address, Endpoint}
use Rattle.audit_flows.specs.Lines.Recording.{is_answer}
use Rattle.audit_flows.proofs.LinesLemmas.Endpoints.{is_same, same_itself}
use Rattle.audit_flows.proofs.LinesLemmas.Lines.{by_test}
use Rattle.audit_spared.specs.Spared.Seen.{is_with}
use Rattle.audit_spared.specs.Spared.{AnswersFirst, AsksInTime, Follows, as_served, at_server_of, captured_there, asks_from, comes_at, goes_from}
use Rattle.audit_spared.proofs.SparedLemmas.Alike.{asked_alike}
use Rattle.audit_spared.proofs.SparedLemmas.Captured.{AreHere}
use Rattle.audit_spared.proofs.SparedLemmas.Places.{comes_to_it}
use Rattle.audit_spared.proofs.SparedLemmas.Lists.{all_at}
use Rattle.audit_spared.proofs.SparedLemmas.ServedRuns.{IsPart, IsRun, asked_alone, run_of}

-- what passed between a client and a server's host, lawful as the server saw it; requests come in time, unless they may come late
pub record IsServed (Late : Type 0) (write : Address → List ℕ) (host : Address) (c : Endpoint) (k : List Recorded) : Type 0 where
  pub passes : OneEnded (at_server_of 69) (map (as_served write c) k)
  pub here : AllByRecursion (λ d. is_with c d ≡ true) k
  pub at_host : AllByRecursion (λ d. (other_of c d).address ≡ host) k
  pub timely : Late ⊎ AsksInTime c k

module _ (write : Address → List ℕ) (host : Address) (c : Endpoint) where
  abbrev pub see : Recorded → Datagram
  see = as_served write c

  pub served_before : (Late : Type 0) (d e : Recorded) (k : List Recorded) → IsServed Late write host c (d ∷ e ∷ k) → IsServed Late write host c (e ∷ k)
  served_before Late d e k s = record { passes = s.passes.1; here = s.here.1; at_host = s.at_host.1; timely = elim s.timely [ inl late ↦ inl late | inr in_time ↦ inr in_time.1 ] }

  -- ---- as the server saw it

  pub came_seen : (d : Recorded) → comes_in (see d) ≡ goes_from c d
  came_seen d = by_test (goes_from c d)
      (λ is. ap (λ b. comes_in (captured_there write (not b) d)) is ∙ sym is)
      (λ off. ap (λ b. comes_in (captured_there write (not b) d)) off ∙ sym off)

  pub went_seen : (d : Recorded) → goes_out (see d) ≡ comes_at c d
  went_seen d = by_test (goes_from c d)
      (λ is. ap (λ b. goes_out (captured_there write (not b) d)) is ∙ sym (ap not is))
      (λ off. ap (λ b. goes_out (captured_there write (not b) d)) off ∙ sym (ap not off))

  pub payload_seen : (d : Recorded) → (see d).payload ≡ d.payload
  payload_seen d = by_test (goes_from c d)
      (λ is. ap (λ b. (captured_there write (not b) d).payload) is)
      (λ off. ap (λ b. (captured_there write (not b) d).payload) off)

  pub local_seen : (d : Recorded) → (see d).local ≡ (other_of c d).port
  local_seen d = by_test (goes_from c d)
      (λ is. ap (λ b. (captured_there write (not b) d).local) is ∙ sym (ap (λ (b : Bool). (if b then d.target else d.source).port) is))
      (λ off. ap (λ b. (captured_there write (not b) d).local) off ∙ sym (ap (λ (b : Bool). (if b then d.target else d.source).port) off))

  abbrev pub name : Endpoint → PeerId
  name o = record { host = write o.address; port = o.port }

  pub peer_seen : (d : Recorded) → is_with c d ≡ true → peer_of (see d) ≡ name c
  peer_seen d with = by_test (goes_from c d)
      (λ is. ap (λ b. peer_of (captured_there write (not b) d)) is ∙ ap name (is_same d.source c is))
      (λ off. ap (λ b. peer_of (captured_there write (not b) d)) off ∙ ap name (is_same d.target c (elim (or_cases (same_endpoint d.source c) (same_endpoint d.target c) with) [
        | inl from ↦ absurd (false≢true (sym off ∙ from))
        | inr to ↦ to
      ])))

  pub peers : (k : List Recorded) → AllByRecursion (λ d. is_with c d ≡ true) k → AllByRecursion (λ e. peer_of e ≡ name c) (map see k)
  peers [] all = tt
  peers (d ∷ k) all = (peer_seen d all.0, peers k all.1)

  says_seen : (d : Recorded) → says_request (see d) ≡ begins_request d.payload
  says_seen d = ap begins_request (payload_seen d)

  -- ---- lists

  went_none : (k : List Recorded) → list_any (comes_at c) k ≡ false → list_any goes_out (map see k) ≡ false
  went_none k none = same k ∙ none where
    same : (k : List Recorded) → list_any goes_out (map see k) ≡ list_any (comes_at c) k
    same [] = refl
    same (d ∷ k) = λ i. went_seen d i || same k i

  module _ (m : Meaning) (wire : List ℕ) (ids : TransferIds) where
    abbrev Own : Endpoint
    Own = record { address = host; port = ids.own }

    other_part : (d : Recorded) → IsPart m wire ids (see d) → (other_of c d).address ≡ host → asks_from c d ≡ false → other_of c d ≡ Own
    other_part d part there off =
        let port : (other_of c d).port ≡ ids.own = sym (local_seen d) ∙ part.other ((λ i. came_seen d i && says_seen d i) ∙ off) in
        λ i. record { address = there i; port = port i }

    others_part : (k : List Recorded) → AllByRecursion (IsPart m wire ids) (map see k) → AllByRecursion (λ d. (other_of c d).address ≡ host) k → AllByRecursion (λ d. asks_from c d ≡ false → other_of c d ≡ Own) k
    others_part [] parts there = tt
    others_part (d ∷ k) parts there = (other_part d parts.0 there.0, others_part k parts.1 there.1)

    asked_spells : (d : Recorded) → IsPart m wire ids (see d) → asks_from c d ≡ true → Spells d.payload (message_of m wire Req)
    asked_spells d part is =
        let parts = and_parts (goes_from c d) (begins_request d.payload) is in
        subst (λ l. Spells l (message_of m wire Req)) (payload_seen d) (part.asked (came_seen d ∙ parts.0) (says_seen d ∙ parts.1)).1

    to_service : (d : Recorded) → IsPart m wire ids (see d) → asks_from c d ≡ true → d.target.port ≡ 69
    to_service d part is =
        let parts = and_parts (goes_from c d) (begins_request d.payload) is in
        sym (ap (λ (b : Bool). (if b then d.target else d.source).port) parts.0) ∙ sym (local_seen d) ∙ (part.asked (came_seen d ∙ parts.0) (says_seen d ∙ parts.1)).0

    asked_there : (d : Recorded) → IsPart m wire ids (see d) → (other_of c d).address ≡ host → asks_from c d ≡ true → d.target ≡ record { address = host; port = 69 }
    asked_there d part there is =
        let from = (and_parts (goes_from c d) (begins_request d.payload) is).0 in
        let address : d.target.address ≡ host = sym (ap (λ (b : Bool). (if b then d.target else d.source).address) from) ∙ there in
        let port : d.target.port ≡ 69 = to_service d part is in
        λ i. record { address = address i; port = port i }

    alike_one : (d e : Recorded) → IsPart m wire ids (see d) → IsPart m wire ids (see e) → (other_of c d).address ≡ host → (other_of c e).address ≡ host → asks_from c d ≡ true → asks_from c e ≡ true → asks_alike e d ≡ true
    alike_one d e part also there there_too is is_too =
        let from = (and_parts (goes_from c d) (begins_request d.payload) is).0 in
        let from_too = (and_parts (goes_from c e) (begins_request e.payload) is_too).0 in
        let words : asked_part e.payload ≡ asked_part d.payload = asked_alike e.payload d.payload (request_of m) (asked_spells e also is_too) (asked_spells d part is) in
        let target : e.target ≡ d.target = asked_there e also there_too is_too ∙ sym (asked_there d part there is) in
        and_from (bytes_eq (asked_part e.payload) (asked_part d.payload)) (goes d.source d.target e) ((bytes_eq-Decides (asked_part e.payload) (asked_part d.payload)).1 words)
        (and_from (same_endpoint e.source d.source) (same_endpoint e.target d.target)
        (subst (λ s. same_endpoint e.source s ≡ true) (sym (is_same d.source c from)) from_too)
        (subst (λ s. same_endpoint s d.target ≡ true) (sym target) (same_itself d.target)))

    alike_all : (d : Recorded) → IsPart m wire ids (see d) → (other_of c d).address ≡ host → asks_from c d ≡ true → (k : List Recorded) → AllByRecursion (IsPart m wire ids) (map see k) → AllByRecursion (λ e. (other_of c e).address ≡ host) k
        → AllByRecursion (λ e. asks_from c e ≡ true → asks_alike e d ≡ true) k
    alike_all d part there is [] parts hosts = tt
    alike_all d part there is (e ∷ k) parts hosts = (λ is_too. alike_one d e part parts.0 there hosts.0 is is_too, alike_all d part there is k parts.1 hosts.1)

    heard_all : (o : Endpoint) → o ≡ Own → (k : List Recorded) → AreHere c k → AllByRecursion (λ e. asks_from c e ≡ false → other_of c e ≡ Own) k → list_any goes_out (map see k) ≡ true
        → list_any (λ e. goes o c e && comes_at c e) k ≡ true
    heard_all o own [] here parts any = absurd (false≢true any)
    heard_all o own (e ∷ k) here parts any = elim (or_cases (goes_out (see e)) (list_any goes_out (map see k)) any) [
      | inl went ↦
          let came : comes_at c e ≡ true = sym (went_seen e) ∙ went in
          let off : goes_from c e ≡ false = by_test (goes_from c e) (λ t. absurd (false≢true (sym (ap not t) ∙ came))) (λ f. f) in
          let there : other_of c e ≡ o = parts.0 (ap (λ b. b && begins_request e.payload) off) ∙ sym own in
          or_left (goes o c e && comes_at c e) (list_any (λ r. goes o c r && comes_at c r) k)
          (and_from (goes o c e) (comes_at c e) (subst (λ s. goes s c e ≡ true) there (comes_to_it c e off here.0)) came)
      | inr later ↦ or_right (goes o c e && comes_at c e) (list_any (λ r. goes o c r && comes_at c r) k) (heard_all o own k here.1 parts.1 later)
    ]

  -- ---- so it follows

  module _ (Late : Type 0) (d : Recorded) (k : List Recorded) (s : IsServed Late write host c (d ∷ k)) where
    run : IsRun (see d) (map see k)
    run = run_of (name c) (see d) (map see k) s.passes (peers (d ∷ k) s.here)

    -- all but the requests pass with one endpoint
    pub one_server : (o : Endpoint) × AllByRecursion (λ e. asks_from c e ≡ false → other_of c e ≡ o) (d ∷ k)
    one_server = (Own run.m run.wire run.ids, others_part run.m run.wire run.ids (d ∷ k) run.parts s.at_host)

    first_asks : k ≡ [] → asks_from c d ≡ true
    first_asks none =
        let is = run.first (ap (map see) none) in
        and_from (goes_from c d) (begins_request d.payload) (sym (came_seen d) ∙ is.0) (sym (says_seen d) ∙ is.1)

    plain_off : goes_from c d ≡ true → begins_request d.payload ≡ false → asks_from c d ≡ false
    plain_off from plain = (λ i. from i && plain i)

    pub follows_served : AreHere c (d ∷ k) → Follows c k d
    follows_served here = record {
      here = here.0;
      first = first_asks;
      service = to_service run.m run.wire run.ids d run.parts.0;
      alike = λ is. alike_all run.m run.wire run.ids d run.parts.0 s.at_host.0 is k run.parts.1 s.at_host.1;
      known = λ from plain.
          let parts = others_part run.m run.wire run.ids (d ∷ k) run.parts s.at_host in
          let there : d.target ≡ Own run.m run.wire run.ids = sym (ap (λ b. if b then d.target else d.source) from) ∙ parts.0 (plain_off from plain) in
          heard_all run.m run.wire run.ids d.target there k here.1 parts.1 (run.heard (came_seen d ∙ from) (says_seen d ∙ plain));
    }

    first_answers : goes_from c d ≡ false → list_any (comes_at c) k ≡ false → is_answer d.payload ≡ true
    first_answers off none = sym (ap is_answer (payload_seen d)) ∙ run.answers (went_seen d ∙ ap not off) (went_none k none)

    -- what comes to the client says no request
    pub comes_plain : goes_from c d ≡ false → begins_request d.payload ≡ false
    comes_plain off = sym (says_seen d) ∙ run.parts.0.plain (went_seen d ∙ ap not off)

    -- each request of it is lawful alone
    pub alone_lawful : (r : Recorded) → Contains (d ∷ k) r → asks_from c r ≡ true → OneEnded (at_server_of 69) (see r ∷ [])
    alone_lawful r there is =
        let parts = and_parts (goes_from c r) (begins_request r.payload) is in
        let part = all_at (λ e. IsPart run.m run.wire run.ids (see e)) (d ∷ k) r (unmapped (d ∷ k) run.parts) there in
        let said = part.asked (came_seen r ∙ parts.0) (says_seen r ∙ parts.1) in
        asked_alone run.m run.wire run.fits (see r) (came_seen r ∙ parts.0) said.0 said.1
      where
        unmapped : (ks : List Recorded) → AllByRecursion (IsPart run.m run.wire run.ids) (map see ks) → AllByRecursion (λ e. IsPart run.m run.wire run.ids (see e)) ks
        unmapped [] all = tt
        unmapped (e ∷ ks) all = (all.0, unmapped ks all.1)

  -- what comes first is an answer
  pub answers_served : (Late : Type 0) (k : List Recorded) → IsServed Late write host c k → AnswersFirst c k
  answers_served Late [] s = tt
  answers_served Late (d ∷ []) s = (first_answers Late d [] s, tt)
  answers_served Late (d ∷ e ∷ k) s = (first_answers Late d (e ∷ k) s, answers_served Late (e ∷ k) (served_before Late d e k s))
