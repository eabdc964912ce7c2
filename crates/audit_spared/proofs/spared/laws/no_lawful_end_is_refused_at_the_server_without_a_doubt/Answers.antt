use Rattle.std.proofs.Common.{◌≡◌, ◌⊎◌, ◌||◌, ℕ, [], ◌∷◌, ◌++◌, List, inl, inr, map, refl, subst, sym}
use Rattle.std.specs.List.{AllByRecursion}
use Rattle.std.proofs.lemmas.Bool.{or_cases, or_left, or_right}
use Rattle.law_end.specs.{IsRefused, OneEnded, Rule}
use Rattle.audit_flows.specs.Lines.{Placed, Recorded, may_be_earlier}
use Rattle.audit_flows.specs.{Address, Endpoint, Transfer}
use Rattle.audit_flows.specs.Transfers.{is_beside}
use Rattle.audit_flows.specs.Transfers.Places.{placed}
use Rattle.audit_spared.specs.Spared.{AreServed, AsksInTime, IsServedCapture, IsTimelyCapture, SparesLateServersByFive, SparesServersByFour, as_served, at_server_of, is_shared, needs_doubt, seen_at_server, server_saw}
use Rattle.audit_spared.specs.Spared.Seen.{HasNoSilence, is_with}
use Rattle.audit_spared.proofs.SparedLemmas.Lists.{by_recursion}
use Rattle.audit_spared.proofs.SparedLemmas.Renamed.{IsNamedAsBefore, renamed, renamed_one}
use Rattle.audit_spared.proofs.SparedLemmas.Retold.{all_both, captures_before, server_before, server_here, served_same}
use Rattle.audit_spared.proofs.SparedLemmas.Whole.{AreAll, with_aside, with_strangers}
use Rattle.audit_spared.proofs.SparedLemmas.ServedLaw.{IsServed, comes_plain}
use Rattle.audit_spared.proofs.SparedLemmas.ServedEnd.{earlier_shared, doubtful_if_earlier, doubtful_there, late_server_is_spared, served_each, served_lawful, server_captures, server_is_spared}
use Rattle.audit_spared.proofs.spared.laws.no_lawful_end_is_refused_at_the_server_without_a_doubt.Goals as goal

-- what is said of each capture
abbrev Said : Type 0 → (Address → List ℕ) → Endpoint → List Recorded → Type 0
Said Late write c k = OneEnded (at_server_of 69) (map (as_served write c) k) × HasNoSilence k × (Late ⊎ AsksInTime c k)

abbrev given : (Late : Type 0) (IsCapture : Endpoint → List Recorded → Type 0) (write : Address → List ℕ) (host : Address) (clients : List Endpoint) (recorded : List Recorded)
    → ((c : Endpoint) (k : List Recorded) → IsCapture c k → Said Late write c k) → AreServed IsCapture write host clients recorded → AreAll (IsServed Late (renamed write recorded) host) clients recorded
given Late IsCapture write host clients recorded said g = record {
  busy = is_with;
  busy_with = λ c d is. is;
  asides = λ c is_client. with_aside c recorded;
  strangers = λ c e is_client other. with_strangers c e recorded;
  captures = λ c is_client.
      let (each, same, all) = g.captures c is_client in
      server_captures Late (renamed write recorded) host c recorded each same
      (served_each Late (renamed write recorded) host c recorded each same (λ d there with. g.here d c there is_client with)
      (all_both (IsCapture c) (λ k. AllByRecursion (IsNamedAsBefore write recorded) k) (Said Late (renamed write recorded) c) (λ k capture before. renamed_said c k (said c k capture) before)
      each (by_recursion (IsCapture c) each all) (captures_before write recorded (is_with c) each same)));
  others = g.others;
  quiet = λ c is_client. inr (λ d k served. comes_plain (renamed write recorded) host c Late d k served);
  order = g.order;
} where
  renamed_said : (c : Endpoint) (k : List Recorded) → Said Late write c k → AllByRecursion (IsNamedAsBefore write recorded) k → Said Late (renamed write recorded) c k
  renamed_said c k is before = (subst (OneEnded (at_server_of 69)) (sym (served_same write recorded c k before)) is.0, is.1, is.2)

-- what is refused is refused with names that no other host has
renamed_refused : (write : Address → List ℕ) (recorded : List Recorded) (newer older : List Placed) (p : Placed) → placed [] recorded ≡ newer ++ p ∷ older → (x : Transfer) (rule : Rule)
    → IsRefused (at_server_of x.asked.port) (server_saw write x (placed [] recorded) older) (seen_at_server write x (placed [] recorded) p) rule
    → IsRefused (at_server_of x.asked.port) (server_saw (renamed write recorded) x (placed [] recorded) older) (seen_at_server (renamed write recorded) x (placed [] recorded) p) rule
renamed_refused write recorded newer older p are x rule refused =
    subst (λ l. IsRefused (at_server_of x.asked.port) l (seen_at_server (renamed write recorded) x (placed [] recorded) p) rule) (sym (server_before write recorded newer older p are x (placed [] recorded)))
    (subst (λ d. IsRefused (at_server_of x.asked.port) (server_saw write x (placed [] recorded) older) d rule) (sym (server_here write recorded newer older p are x (placed [] recorded))) refused)

of_late : (write : Address → List ℕ) (c : Endpoint) (k : List Recorded) → IsServedCapture write c k → Said (Unit {0}) write c k
of_late write c k capture = (served_lawful write c k capture.lawful, capture.steady, inl tt)

of_timely : (write : Address → List ℕ) (c : Endpoint) (k : List Recorded) → IsTimelyCapture write c k → Said ⊥ write c k
of_timely write c k capture = (served_lawful write c k capture.served.lawful, capture.served.steady, inr capture.in_time)

by_four : SparesServersByFour
by_four write host clients recorded g newer older p are x at is_client rule refused =
    let served : AreAll (IsServed ⊥ (renamed write recorded) host) clients recorded = given ⊥ (IsTimelyCapture write) write host clients recorded (of_timely write) g in
    elim (server_is_spared ⊥ (renamed write recorded) (renamed_one write recorded g.hosts) host clients recorded served (λ c d. refl)
    newer older p are x at is_client rule (renamed_refused write recorded newer older p are x rule refused)) [
      | inl doubt ↦ doubt
      | inr never ↦ absurd never
    ]

pub returns-clause-spared : goal.returns-clause-spared
returns-clause-spared c write host clients recorded g newer older p are x at is_client rule refused =
    doubtful_there x.number (placed [] recorded) p older (by_four write host clients recorded g newer older p are x at is_client rule refused)

pub returns-clause-by_four : goal.returns-clause-by_four
returns-clause-by_four c = by_four

-- ---- by the program's own doubt

late_by_five : SparesLateServersByFive
late_by_five write host clients recorded g newer older p are x at is_client rule refused =
    let served : AreAll (IsServed (Unit {0}) (renamed write recorded) host) clients recorded = given (Unit {0}) (IsServedCapture write) write host clients recorded (of_late write) g in
    late_server_is_spared (Unit {0}) (renamed write recorded) (renamed_one write recorded g.hosts) host clients recorded served (λ c d. refl)
    newer older p are x at is_client rule (renamed_refused write recorded newer older p are x rule refused)

pub returns-clause-late_by_five : goal.returns-clause-late_by_five
returns-clause-late_by_five c = late_by_five

pub returns-clause-late : goal.returns-clause-late
returns-clause-late c write host clients recorded g newer older p are x at is_client rule refused =
    doubtful_if_earlier x.number (placed [] recorded) p older (late_by_five write host clients recorded g newer older p are x at is_client rule refused)

-- it passed where another transfer was talked of then
pub returns-clause-by_five : goal.returns-clause-by_five
returns-clause-by_five c write host clients recorded g newer older p are x at is_client rule refused =
    elim (or_cases (needs_doubt x.number (placed [] recorded) p older || is_beside p) (may_be_earlier p older) (late_by_five write host clients recorded g newer older p are x at is_client rule refused)) [
      | inl doubt ↦ or_left (needs_doubt x.number (placed [] recorded) p older || is_beside p) (is_shared p older) doubt
      | inr earlier ↦ or_right (needs_doubt x.number (placed [] recorded) p older || is_beside p) (is_shared p older) (earlier_shared p older earlier)
    ]
