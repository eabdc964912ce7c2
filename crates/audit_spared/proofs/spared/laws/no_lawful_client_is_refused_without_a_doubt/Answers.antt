use Rattle.std.proofs.Common.{◌≡◌, ℕ, Bool, false, [], ◌∷◌, List, inl, inr, refl, ap, subst, sym}
use Rattle.std.specs.List.{AllByRecursion}
use Rattle.std.proofs.lemmas.Bool.{false≢true}
use Rattle.audit_spared.proofs.FairLemmas.Thinned.{all_of}
use Rattle.law_end.specs.{IsLawful}
use Rattle.audit_flows.specs.Lines.{Recorded, other_of}
use Rattle.audit_flows.specs.{Address, Endpoint}
use Rattle.audit_spared.specs.Spared.{AreInterleaved, IsLawfulAt, IsWholeCapture, SparesClientsByThree, without_strays}
use Rattle.audit_spared.specs.Spared.Seen.{HasNoSilence, at_client_of, is_with}
use Rattle.audit_spared.proofs.SparedLemmas.Basics.{doubtful_is}
use Rattle.audit_spared.proofs.SparedLemmas.ClientEnd.{client_captures, lawful_at}
use Rattle.audit_spared.proofs.SparedLemmas.Interleaved.{strayed_or, view_or}
use Rattle.audit_spared.proofs.SparedLemmas.Lists.{by_recursion}
use Rattle.audit_spared.proofs.SparedLemmas.Renamed.{IsNamedAsBefore, renamed, renamed_one}
use Rattle.audit_spared.proofs.SparedLemmas.Retold.{all_both, capture_same, captures_before}
use Rattle.audit_spared.proofs.SparedLemmas.Strays.{AreTold, IsStrayedAt}
use Rattle.audit_spared.proofs.SparedLemmas.Whole.{AreAll, asked_of, with_aside, with_strangers}
use Rattle.audit_flows.specs.Transfers.Places.{placed}
use Rattle.audit_spared.proofs.spared.laws.no_lawful_client_is_refused_without_a_doubt.Goals as goal

-- none is a stray
abbrev none : Recorded → Bool
none d = false

all_kept : (k : List Recorded) → without_strays none k ≡ k
all_kept [] = refl
all_kept (d ∷ k) = ap (λ l. d ∷ l) (all_kept k)

none_told : (c : Endpoint) (k : List Recorded) → AreTold none c k
none_told c [] = tt
none_told c (d ∷ k) = ((λ is. absurd (false≢true is)), all_of (λ e. other_of c e ≡ other_of c d → none e ≡ none d) (λ e same. refl) k, none_told c k)

-- with names that no other host has
given : (write : Address → List ℕ) (clients : List Endpoint) (recorded : List Recorded) → AreInterleaved write clients recorded → AreAll (IsStrayedAt (renamed write recorded) none) clients recorded
given write clients recorded g = record {
  busy = is_with;
  busy_with = λ c d is. is;
  asides = λ c is_client. with_aside c recorded;
  strangers = λ c e is_client other. with_strangers c e recorded;
  captures = λ c is_client.
      let (each, same, all) = g.captures c is_client in
      client_captures (renamed write recorded) (renamed_one write recorded g.hosts) none c (is_with c) (λ d is. is) recorded each same
      (all_both (IsWholeCapture write c) (λ k. AllByRecursion (IsNamedAsBefore write recorded) k) (λ k. IsStrayedAt (renamed write recorded) none c k × HasNoSilence k)
      (λ k capture before. (
        record {
          passes = subst (IsLawfulAt (renamed write recorded) c) (sym (all_kept k)) (lawful_at (renamed write recorded) c k (subst (IsLawful (at_client_of 69)) (sym (capture_same write recorded c k before)) capture.lawful));
          apart = none_told c k;
        },
        capture.steady,
      ))
      each (by_recursion (IsWholeCapture write c) each all) (captures_before write recorded (is_with c) each same));
  others = g.others;
  quiet = λ c is_client. inl (g.ports c is_client);
  order = g.order;
}

by_three : SparesClientsByThree
by_three write clients recorded g newer older p are x at is_client rule refused =
    elim (strayed_or write none clients recorded g.hosts (given write clients recorded g) newer older p are x at is_client rule refused) [
      | inl doubt ↦ doubt
      | inr stray ↦ absurd (false≢true stray.1)
    ]

pub returns-clause-spared : goal.returns-clause-spared
returns-clause-spared c write clients recorded g newer older p are x at is_client rule refused =
    doubtful_is x.number (placed [] recorded) p older (by_three write clients recorded g newer older p are x at is_client rule refused)

pub returns-clause-by_three : goal.returns-clause-by_three
returns-clause-by_three c = by_three

pub returns-clause-views : goal.returns-clause-views
returns-clause-views c write clients recorded g newer older p are x at is_client =
    elim (view_or write none clients recorded g.hosts (given write clients recorded g) newer older p are x at is_client) [
      | inl doubt ↦ inl doubt
      | inr (inl fair) ↦ inr fair
      | inr (inr stray) ↦ absurd (false≢true stray.1)
    ]

pub returns-clause-asked : goal.returns-clause-asked
returns-clause-asked c write clients recorded g newer older p are x at is_client =
    asked_of (IsStrayedAt (renamed write recorded) none) clients recorded (given write clients recorded g) newer older p are x at is_client
