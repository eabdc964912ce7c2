-- A capture with strays is such as the division of a recording looks for.
use Rattle.std.proofs.Common.{◌≡◌, ◌≢◌, ℕ, Bool, true, false, List, [], ◌∷◌, refl, sym, ap, subst, ◌∙◌, ◌&&◌, ◌||◌, not, filter, arith, if◌then◌else◌}
use Rattle.std.specs.List.{list_any, AllByRecursion}
use Rattle.std.proofs.lemmas.Bool.{false≢true, and_parts}
use Rattle.tftp_packet.specs.{IsPair, Message, Spells, terminated}
use Rattle.tftp_packet.specs.Hosts.{Datagram}
use Rattle.tftp_packet.specs.{Out}
use Rattle.law_end.proofs.Division.RouteTests.{error_begins}
use Rattle.audit_flows.specs.Lines.{Recorded, same_endpoint, other_of, goes, is_between, asks_alike, begins_request, begins_error, begins_unknown_id}
use Rattle.audit_flows.specs.{Address, Endpoint}
use Rattle.audit_flows.proofs.LinesLemmas.Endpoints.{is_same}
use Rattle.audit_flows.proofs.LinesLemmas.Lines.{by_test}
use Rattle.audit_spared.proofs.FairLemmas.Thinned.{filter_kept, filter_dropped, kept_or_not}
use Rattle.audit_spared.specs.Spared.{AsksInTime, Follows, IsLawfulAt, asks_from, comes_at, goes_from, goes_on_from, without_strays}
use Rattle.audit_spared.proofs.SparedLemmas.Captured.{AreHere}
use Rattle.audit_spared.proofs.SparedLemmas.Lawful.{follows_lawful, in_time_lawful}
use Rattle.audit_spared.proofs.SparedLemmas.Lists.{any_filter, passing}
use Rattle.audit_spared.proofs.SparedLemmas.Places.{asks_none}
use Rattle.audit_spared.proofs.SparedLemmas.Requests.{all_filter}
use Rattle.audit_spared.proofs.SparedLemmas.Retold.{all_both}
use Rattle.audit_spared.proofs.SparedLemmas.Stands.{came_from}

-- ---- ERROR 5 is an ERROR, and no request

-- a datagram with this payload
abbrev with_payload : List ℕ → Datagram
with_payload payload = record { dir = Out; local = 0; host = []; remote = 0; payload = payload }

unknown_begins : (payload text : List ℕ) → Spells payload (Message.Error 5 text) → (begins_request payload ≡ false) × (begins_error payload ≡ true)
unknown_begins payload text spells = error_begins (with_payload payload) 5 text spells

error_5 : (x y : ℕ) → IsPair x y 5 → (x ≡ 0) × (y ≡ 5)
error_5 x y (low, high, is) = (omega arith, omega arith)

pub says_unknown_id : (payload text : List ℕ) → Spells payload (Message.Error 5 text) → begins_unknown_id payload ≡ true
says_unknown_id payload text (b, (x, y, pair, string, is)) =
    let (left, right) = error_5 x y pair in
    subst (λ p. begins_unknown_id p ≡ true) (sym (is ∙ (λ i. 0 ∷ 5 ∷ left i ∷ right i ∷ terminated text))) refl

-- a stray passes behind another datagram; and what the client says to one is ERROR 5, to where something came from
pub record IsTold (c : Endpoint) (passed : List Recorded) (d : Recorded) : Type 0 where
  pub behind : passed ≢ []
  pub told : goes_from c d ≡ true → ((text : List ℕ) × Spells d.payload (Message.Error 5 text)) × (list_any (λ e. goes d.target c e && comes_at c e) passed ≡ true)

-- so are all strays, and with whom one passes, nothing passes that is none
abbrev pub AreTold : (Recorded → Bool) → Endpoint → List Recorded → Type 0
AreTold strays c [] = Unit {0}
AreTold strays c (d ∷ passed) = (strays d ≡ true → IsTold c passed d) × AllByRecursion (λ e. other_of c e ≡ other_of c d → strays e ≡ strays d) passed × AreTold strays c passed

module _ (strays : Recorded → Bool) (c : Endpoint) where
  abbrev pub keeps : Recorded → Bool
  keeps d = not (strays d)

  -- what the client says to a stray is no request, and goes on with nobody
  one_stray : (d : Recorded) (k : List Recorded) → IsTold c k d → (asks_from c d ≡ false) × (goes_on_from c d ≡ false)
  one_stray d k e = by_test (goes_from c d)
      (λ from.
      let said = (e.told from).0 in
      let (plain, error) = unknown_begins d.payload said.0 said.1 in (
        ap (λ b. goes_from c d && b) plain ∙ and_off (goes_from c d),
        ap (λ b. if b then false else (goes_from c d && not (begins_error d.payload))) plain ∙ ap (λ b. goes_from c d && not b) error ∙ and_off (goes_from c d),
      ))
      (λ off. (asks_none c d off, ap (λ b. if begins_request d.payload then false else (b && not (begins_error d.payload))) off ∙ either_off (begins_request d.payload)))
    where
      and_off : (b : Bool) → (b && false) ≡ false
      and_off true = refl
      and_off false = refl

      either_off : (b : Bool) → (if b then false else false) ≡ false
      either_off true = refl
      either_off false = refl

  pub all_strays : (k : List Recorded) → AreTold strays c k → AllByRecursion (λ e. strays e ≡ true → (asks_from c e ≡ false) × (goes_on_from c e ≡ false)) k
  all_strays [] apart = tt
  all_strays (d ∷ k) apart = ((λ is. one_stray d k (apart.0 is)), all_strays k apart.2)

  -- ---- what is left follows, and so does each

  any_kept : (f : Recorded → Bool) (k : List Recorded) → AllByRecursion (λ e. strays e ≡ true → f e ≡ false) k → list_any f k ≡ list_any f (filter keeps k)
  any_kept f [] all = refl
  any_kept f (d ∷ k) all = by_test (strays d)
      (λ is. ap (λ b. b || list_any f k) (all.0 is) ∙ any_kept f k all.1 ∙ sym (ap (list_any f) (filter_dropped keeps d k (ap not is))))
      (λ off. ap (λ b. f d || b) (any_kept f k all.1) ∙ sym (ap (list_any f) (filter_kept keeps d k (ap not off))))

  in_time_kept : (k : List Recorded) → AreTold strays c k → AsksInTime c (filter keeps k) → AsksInTime c k
  in_time_kept [] apart timely = tt
  in_time_kept (d ∷ k) apart timely = by_test (strays d)
      (λ is. (
        (λ asks_it. absurd (false≢true (sym (one_stray d k (apart.0 is)).0 ∙ asks_it))),
        in_time_kept k apart.2 (subst (AsksInTime c) (filter_dropped keeps d k (ap not is)) timely),
      ))
      (λ off.
      let both : AsksInTime c (d ∷ filter keeps k) = subst (AsksInTime c) (filter_kept keeps d k (ap not off)) timely in
      let quiet = all_strays k apart.2 in (
        (λ asks_it. any_kept (goes_on_from c) k (all_both (λ e. strays e ≡ true → (asks_from c e ≡ false) × (goes_on_from c e ≡ false)) (λ e. strays e ≡ true → (asks_from c e ≡ false) × (goes_on_from c e ≡ false)) (λ e. strays e ≡ true → goes_on_from c e ≡ false) (λ e one other is. (one is).1) k quiet quiet) ∙ both.0 asks_it),
        in_time_kept k apart.2 both.1,
      ))

  -- ---- from where one came, all are strays, where this one is

  pub came_other : (o : Endpoint) (e : Recorded) → came_from c o e ≡ true → other_of c e ≡ o
  came_other o e is =
      let parts = and_parts (goes o c e) (comes_at c e) is in
      let off : goes_from c e ≡ false = by_test (goes_from c e) (λ t. absurd (false≢true (sym (ap not t) ∙ parts.1))) (λ f. f) in
      ap (λ b. if b then e.target else e.source) off ∙ is_same e.source o (and_parts (same_endpoint e.source o) (same_endpoint e.target c) parts.0).0

-- ---- at a client

-- what is left is lawful, and the strays are apart
pub record IsStrayedAt (write : Address → List ℕ) (strays : Recorded → Bool) (c : Endpoint) (k : List Recorded) : Type 0 where
  pub passes : IsLawfulAt write c (without_strays strays k)
  pub apart : AreTold strays c k

module _ (write : Address → List ℕ) (write_one : (a b : Address) → write a ≡ write b → a ≡ b) (strays : Recorded → Bool) (c : Endpoint) where
  pub strayed_before : (d e : Recorded) (k : List Recorded) → IsStrayedAt write strays c (d ∷ e ∷ k) → IsStrayedAt write strays c (e ∷ k)
  strayed_before d e k s = record {
    passes = kept_or_not (keeps strays c) d
        (λ is. let both : IsLawfulAt write c (d ∷ without_strays strays (e ∷ k)) = subst (IsLawfulAt write c) (filter_kept (keeps strays c) d (e ∷ k) is) s.passes in both.1)
        (λ off. subst (IsLawfulAt write c) (filter_dropped (keeps strays c) d (e ∷ k) off) s.passes);
    apart = s.apart.2;
  }

  pub follows_strayed : (d : Recorded) (k : List Recorded) → IsStrayedAt write strays c (d ∷ k) → AreHere c (d ∷ k) → Follows c k d
  follows_strayed d k s here = by_test (strays d) stray kept where
    stray : strays d ≡ true → Follows c k d
    stray is =
        let e = s.apart.0 is in
        let no_ask : asks_from c d ≡ true → ⊥ = λ asks_it. false≢true (sym (one_stray strays c d k e).0 ∙ asks_it) in
        record {
          here = here.0;
          first = λ none. absurd (e.behind none);
          service = λ asks_it. absurd (no_ask asks_it);
          alike = λ asks_it. absurd (no_ask asks_it);
          known = λ from plain. (e.told from).1;
        }

    alike_more : AllByRecursion (λ e. asks_from c e ≡ true → asks_alike e d ≡ true) (without_strays strays k) → AllByRecursion (λ e. asks_from c e ≡ true → asks_alike e d ≡ true) k
    alike_more all = all_both (λ e. keeps strays c e ≡ true → asks_from c e ≡ true → asks_alike e d ≡ true) (λ e. strays e ≡ true → (asks_from c e ≡ false) × (goes_on_from c e ≡ false)) (λ e. asks_from c e ≡ true → asks_alike e d ≡ true)
        (λ e left stray asks_it. by_test (strays e) (λ is. absurd (false≢true (sym (stray is).0 ∙ asks_it))) (λ off. left (ap not off) asks_it))
        k (passing (λ e. asks_from c e ≡ true → asks_alike e d ≡ true) (keeps strays c) k all) (all_strays strays c k s.apart.2)

    kept : strays d ≡ false → Follows c k d
    kept off =
        let left : IsLawfulAt write c (d ∷ without_strays strays k) = subst (IsLawfulAt write c) (filter_kept (keeps strays c) d k (ap not off)) s.passes in
        let f = follows_lawful write write_one c d (without_strays strays k) left (here.0, all_filter (λ e. is_between c (other_of c e) e ≡ true) (keeps strays c) k here.1) in
        record {
          here = here.0;
          first = λ none. f.first (ap (without_strays strays) none);
          service = f.service;
          alike = λ asks_it. alike_more (f.alike asks_it);
          known = λ from plain. any_filter (λ e. goes d.target c e && comes_at c e) (keeps strays c) k (f.known from plain);
        }

  pub in_time_strayed : (k : List Recorded) → IsStrayedAt write strays c k → AsksInTime c k
  in_time_strayed k s = in_time_kept strays c k s.apart (in_time_lawful write write_one c (without_strays strays k) s.passes)
