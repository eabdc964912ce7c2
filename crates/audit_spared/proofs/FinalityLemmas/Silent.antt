-- Where a client's line is silent, nothing that comes later is of its transfers, and none of it makes them doubtful.
use Rattle.std.proofs.Common.{◌≡◌, ◌≢◌, ◌≤◌, ◌<◌, ℕ, ◌+◌, Bool, true, false, List, [], ◌∷◌, ◌++◌, Option, Some, None, arith, refl, sym, ap, subst, ◌∙◌, ◌==◌, ◌&&◌, ◌||◌, not, nat_le, cond, filter, length, if◌then◌else◌}
use Rattle.std.proofs.Math.Nat.{le-max_right}
use Rattle.std.proofs.lemmas.Bool.{ne_eqb, eqb-true, eq-eqb, leb-false, lt-leb}
use Rattle.audit_flows.specs.Lines.{Recorded, Placed, same_endpoint, other_of, is_at, newest_of, live, line, silence, transfer_of, latest_in, answered_in, may_answer, clock, is_another, is_next_data, answer_of, may_be_answer_of, comes_in, follows_strays, follows_unanswered, follows_unknown_id, goes_on_with_first, is_asked_again, is_disordered, is_late, is_sent_by_client, says_first_word, speaks_first}
use Rattle.audit_flows.specs.{Endpoint, Place, Opens, Repeats, Talks, Apart, Beside, Nowhere, Transfer, Served}
use Rattle.audit_flows.specs.Transfers.{last_served, served_within, placed, is_about, is_it, is_answered_apart, is_at_server, is_beside, is_doubted, is_doubtful, is_led_astray, is_settled, opened_it, some_of, client_view, comes_of_earlier, server_view, server_of, tells_strays}
use Rattle.audit_spared.specs.Finality.{AreSameDoubts, IsFinal, IsSilent, opened}
use Rattle.audit_flows.proofs.LinesLemmas.Lines.{by_test}
use Rattle.audit_flows.proofs.LinesLemmas.Endpoints.{is_same, same_itself}
use Rattle.audit_flows.proofs.LinesLemmas.Silences.{live_is}
use Rattle.audit_flows.proofs.TransfersLemmas.Ends.{AreAt, lived_at}
use Rattle.audit_flows.proofs.TransfersLemmas.OwnDatagrams.{about_none, at_server_kept, opens_none, client_view_kept, server_view_kept, server_kept, settled_kept}
use Rattle.audit_flows.proofs.TransfersLemmas.Numbers.{length_placed}
use Rattle.audit_spared.proofs.FinalityLemmas.Naming.{AreGood, AreServedGood, GoesOnGood, IsGood, IsOneGood, all_go_on, go_on_later, go_on_with, last_served_good, latest_good, newest_good, place_good, transfer_good}
use Rattle.audit_spared.proofs.FinalityLemmas.Known.{IsFresh, IsKnown, all_fresh, all_known, next, source_at}

-- ---- where the client's line is silent, nothing of its transfer goes on

abbrev pub IsOther : ℕ → Transfer → Type 0
IsOther n x = (x.number == n) ≡ false

module _ (n : ℕ) (named : List ℕ) (recorded : List Recorded) (x : Transfer) (is_x : x.number ≡ n) (known : IsKnown n recorded x)
    (silent : live (clock (placed named recorded)) (line x.client (placed named recorded)) ≡ []) where
  same_client : (y : Transfer) → IsKnown n recorded y → (y.number == n) ≡ true → y.client ≡ x.client
  same_client y other is =
      let one : source_at n recorded ≡ Some x.client = known.client (eq-eqb x.number n is_x) in
      let both : Some y.client ≡ Some x.client = sym (other.client is) ∙ one in cc

  other_client : (c : Endpoint) → same_endpoint x.client c ≡ false → (y : Transfer) → y.client ≡ c → IsKnown n recorded y → IsOther n y
  other_client c off y client other = by_test (y.number == n)
      (λ is. let same : x.client ≡ c = sym (same_client y other is) ∙ client in
      let both : false ≡ true = sym off ∙ subst (λ e. same_endpoint x.client e ≡ true) same (same_itself x.client) in absurd (cc))
      (λ no. no)

  place_other : (c : Endpoint) → same_endpoint x.client c ≡ false → (d : Recorded) (now : ℕ) (place : Place) → is_at c (record { datagram = d; moment = now; place = place }) ≡ true
      → IsGood (IsKnown n recorded) place → IsGood (IsOther n) place
  place_other c off d now (Opens y) at other = other_client c off y (is_same y.client c at) other
  place_other c off d now (Repeats y) at other = other_client c off y (is_same y.client c at) other
  place_other c off d now (Talks y) at other = other_client c off y (is_same y.client c at) other
  place_other c off d now (Apart a) at other = tt
  place_other c off d now (Beside y) at other = absurd (cc)
  place_other c off d now Nowhere at other = tt

  line_other : (c : Endpoint) → same_endpoint x.client c ≡ false → (ps : List Placed) → AreAt c ps → AreGood (IsKnown n recorded) ps → AreGood (IsOther n) ps
  line_other c off [] at other = tt
  line_other c off (p ∷ ps) at other = (place_other c off p.datagram p.moment p.place at.0 other.0, line_other c off ps at.1 other.1)

  served_other : (last : Option Served) → IsFresh (placed named recorded) last → AreServedGood (IsKnown n recorded) last → IsOneGood (IsOther n) (served_within (clock (placed named recorded)) last)
  served_other None fresh other = tt
  served_other (Some s) fresh other = by_test (nat_le (clock (placed named recorded)) (s.moment + silence))
      (λ is. subst (IsOneGood (IsOther n)) (sym (ap (λ b. if b then Some s.transfer else None) is)) (by_test (s.transfer.number == n)
      (λ same. let client : s.transfer.client ≡ x.client = same_client s.transfer other same in
      let heard : (s.moment ≤ clock (line x.client (placed named recorded))) × (line x.client (placed named recorded) ≢ []) =
      subst (λ c. (s.moment ≤ clock (line c (placed named recorded))) × (line c (placed named recorded) ≢ [])) client fresh in
      absurd (by_test (nat_le (clock (placed named recorded)) (clock (line x.client (placed named recorded)) + silence))
      (λ goes_on. heard.1 (sym (live_is (clock (placed named recorded)) (line x.client (placed named recorded)) goes_on) ∙ silent))
      (λ over. let up = heard.0 in let past = leb-false (clock (placed named recorded)) (clock (line x.client (placed named recorded)) + silence) over in
      let both : true ≡ false = sym is ∙ lt-leb (clock (placed named recorded)) (s.moment + silence) (omega arith) in cc)))
      (λ no. no)))
      (λ off. subst (IsOneGood (IsOther n)) (sym (ap (λ b. if b then Some s.transfer else None) off)) tt)

  pub none_goes_on : GoesOnGood (IsOther n) (clock (placed named recorded)) (placed named recorded)
  none_goes_on = record {
    lines = λ c. by_test (same_endpoint x.client c)
        (λ is. subst (AreGood (IsOther n)) (sym (subst (λ e. live (clock (placed named recorded)) (line e (placed named recorded)) ≡ []) (is_same x.client c is) silent)) tt)
        (λ off. line_other c off (live (clock (placed named recorded)) (line c (placed named recorded))) (lived_at c (clock (placed named recorded)) (placed named recorded))
        ((all_go_on (IsKnown n recorded) (clock (placed named recorded)) (placed named recorded) (all_known n named recorded)).lines c));
    served = λ o. served_other (last_served o (placed named recorded)) (all_fresh o named recorded)
        (last_served_good (IsKnown n recorded) o (placed named recorded) (all_known n named recorded));
  }

-- ---- and what comes later is of others

other_about : (n : ℕ) (d : Recorded) (now : ℕ) (place : Place) → IsGood (IsOther n) place → is_about n (record { datagram = d; moment = now; place = place }) ≡ false
other_about n d now (Opens x) is = is
other_about n d now (Repeats x) is = is
other_about n d now (Talks x) is = is
other_about n d now (Beside x) is = is
other_about n d now _ is = refl

chosen_none : (b : Bool) (n number : ℕ) → (number == n) ≡ false → is_it n (if b then Some number else None) ≡ false
chosen_none true n number off = off
chosen_none false n number off = refl

no_answer_of : (n : ℕ) (x : Transfer) (o : Endpoint) (before : List Placed) (d : Recorded) → AreGood (IsOther n) before → is_it n (answer_of x o before d (latest_in before)) ≡ false
no_answer_of n x o before d all = by (latest_in before) refl where
  by : (found : Option Transfer) → latest_in before ≡ found → is_it n (answer_of x o before d found) ≡ false
  by None is = refl
  by (Some latest) is = chosen_none (is_another x (Some latest) && (may_answer x.client o (answered_in latest before) d && is_next_data x o before d)) n latest.number
      (latest_good (IsOther n) before latest all is)

other_answer : (n : ℕ) (d : Recorded) (now : ℕ) (place : Place) (older : List Placed) → ((c : Endpoint) → AreGood (IsOther n) (live now (line c older)))
    → is_it n (may_be_answer_of (record { datagram = d; moment = now; place = place }) older) ≡ false
other_answer n d now (Talks x) older lines = no_answer_of n x (other_of x.client d) (live now (line x.client older)) d (lines x.client)
other_answer n d now _ older lines = refl

-- the datagrams after these tell nothing more of the transfer
pub record AreApartFrom (n : ℕ) (named : List ℕ) (recorded more : List Recorded) : Type 0 where
  pub opening : newest_of (opened_it n) (placed named (more ++ recorded)) ≡ newest_of (opened_it n) (placed named recorded)
  pub about : filter (is_about n) (placed named (more ++ recorded)) ≡ filter (is_about n) (placed named recorded)
  pub some : (test : Placed → List Placed → Bool) → some_of n test (placed named (more ++ recorded)) ≡ some_of n test (placed named recorded)
  pub answered : is_answered_apart n (placed named (more ++ recorded)) ≡ is_answered_apart n (placed named recorded)
  pub goes_on : GoesOnGood (IsOther n) (clock (placed named (more ++ recorded))) (placed named (more ++ recorded))
  pub longer : n < length (placed named (more ++ recorded))

apart_on : (n : ℕ) (named : List ℕ) (recorded more : List Recorded) (d : Recorded) → AreApartFrom n named recorded more → AreApartFrom n named recorded (d ∷ more)
apart_on n named recorded more d before =
    let older = placed named (more ++ recorded) in
    let p = next named (placed named (more ++ recorded)) d in
    let on = go_on_later (IsOther n) (clock (placed named (more ++ recorded))) p.moment (placed named (more ++ recorded)) (le-max_right d.time (clock (placed named (more ++ recorded)))) before.goes_on in
    let up = before.longer in
    let good : IsGood (IsOther n) p.place = place_good (IsOther n) named (placed named (more ++ recorded)) p.moment d
    (ne_eqb (length (placed named (more ++ recorded))) n (λ e. let no : n < n = subst (λ k. n < k) e up in omega arith)) on.lines on.served in
    let off : is_about n p ≡ false = other_about n d p.moment p.place good in
    let none : is_it n (may_be_answer_of p (placed named (more ++ recorded))) ≡ false = other_answer n d p.moment p.place (placed named (more ++ recorded)) on.lines in
    record {
      opening = ap (λ b. if b then Some p else newest_of (opened_it n) (placed named (more ++ recorded))) (opens_none n p (about_none n p off)) ∙ before.opening;
      about = ap (λ b. cond b (p ∷ filter (is_about n) (placed named (more ++ recorded))) (filter (is_about n) (placed named (more ++ recorded)))) off ∙ before.about;
      some = λ test. ap (λ b. (b && test p (placed named (more ++ recorded))) || some_of n test (placed named (more ++ recorded))) (about_none n p off) ∙ before.some test;
      answered = ap (λ b. b || is_answered_apart n (placed named (more ++ recorded))) none ∙ before.answered;
      goes_on = go_on_with (IsOther n) p (placed named (more ++ recorded)) good on;
      longer = omega arith;
    }

apart_all : (n : ℕ) (named : List ℕ) (recorded more : List Recorded) → AreApartFrom n named recorded [] → AreApartFrom n named recorded more
apart_all n named recorded [] now = now
apart_all n named recorded (d ∷ more) now = apart_on n named recorded more d (apart_all n named recorded more now)

-- ---- from the opening's number

opened_one : (n : ℕ) (Good : Transfer → Type 0) (ps : List Placed) (p : Placed) (x : Transfer) → AreGood Good ps → newest_of (opened_it n) ps ≡ Some p → transfer_of p.place ≡ Some x → Good x
opened_one n Good ps p x all found is = transfer_good Good p.place x (newest_good Good (opened_it n) ps p all found) is

opened_number : (n : ℕ) (d : Recorded) (now : ℕ) (place : Place) (x : Transfer) → opened_it n (record { datagram = d; moment = now; place = place }) ≡ true → transfer_of place ≡ Some x → x.number ≡ n
opened_number n d now (Opens y) x opens is = let this : y ≡ x = cc in subst (λ z. z.number ≡ n) this (eqb-true y.number n opens)
opened_number n d now _ x opens is = absurd (cc)

passes : (test : Placed → Bool) (ps : List Placed) (p : Placed) → newest_of test ps ≡ Some p → test p ≡ true
passes test [] p found = absurd (cc)
passes test (q ∷ ps) p found = by_test (test q)
    (λ is. let same : Some q ≡ Some p = sym (ap (λ b. if b then Some q else newest_of test ps) is) ∙ found in
    let this : q ≡ p = cc in subst (λ r. test r ≡ true) this is)
    (λ off. passes test ps p (sym (ap (λ b. if b then Some q else newest_of test ps) off) ∙ found))

apart_from_then : (named : List ℕ) (recorded more : List Recorded) (n : ℕ) (p : Placed) (x : Transfer)
    → newest_of (opened_it n) (placed named recorded) ≡ Some p → transfer_of p.place ≡ Some x
    → live (clock (placed named recorded)) (line x.client (placed named recorded)) ≡ [] → AreApartFrom n named recorded more
apart_from_then named recorded more n p x found of silent =
    let number : x.number ≡ n = opened_number n p.datagram p.moment p.place x (passes (opened_it n) (placed named recorded) p found) of in
    let known = opened_one n (IsKnown n recorded) (placed named recorded) p x (all_known n named recorded) found of in
    apart_all n named recorded more (record {
      opening = refl;
      about = refl;
      some = λ test. refl;
      answered = refl;
      goes_on = none_goes_on n named recorded x number known silent;
      longer = subst (λ k. n < k) (sym (length_placed named recorded)) (subst (λ k. k < length recorded) number known.below);
    })

-- the same of all datagrams that are about it tells the same
module _ (n : ℕ) (named : List ℕ) (recorded more : List Recorded) (apart : AreApartFrom n named recorded more) where
  abbrev before : List Placed
  before = placed named recorded

  abbrev after : List Placed
  after = placed named (more ++ recorded)

  same_doubted : is_doubted n (placed named (more ++ recorded)) ≡ is_doubted n (placed named recorded)
  same_doubted =
      ap (λ b. b || some_of n is_asked_again after || is_answered_apart n after || some_of n follows_strays after || some_of n follows_unanswered after) (apart.some is_disordered)
      ∙ ap (λ b. some_of n is_disordered before || b || is_answered_apart n after || some_of n follows_strays after || some_of n follows_unanswered after) (apart.some is_asked_again)
      ∙ ap (λ b. some_of n is_disordered before || some_of n is_asked_again before || b || some_of n follows_strays after || some_of n follows_unanswered after) apart.answered
      ∙ ap (λ b. some_of n is_disordered before || some_of n is_asked_again before || is_answered_apart n before || b || some_of n follows_unanswered after) (apart.some follows_strays)
      ∙ ap (λ b. some_of n is_disordered before || some_of n is_asked_again before || is_answered_apart n before || some_of n follows_strays before || b) (apart.some follows_unanswered)

  same_doubtful : (p : Placed) (older : List Placed) → is_doubtful n after p older ≡ is_doubtful n before p older
  same_doubtful p older =
      ap (λ b. b || is_led_astray n after p older || some_of n is_late (p ∷ older) || is_beside p || tells_strays n p older || some_of n says_first_word (p ∷ older)) same_doubted
      ∙ ap (λ b. is_doubted n before || (some_of n comes_in (p ∷ older) && not b) || some_of n is_late (p ∷ older) || is_beside p || tells_strays n p older || some_of n says_first_word (p ∷ older)) (apart.some goes_on_with_first)

  same_doubts : AreSameDoubts n before after
  same_doubts = record {
    some = apart.some;
    answered = apart.answered;
    at_client = λ p older. ap (λ b. b || (not (is_sent_by_client p) && comes_of_earlier n p older)) (same_doubtful p older);
    at_server = λ p older. ap (λ b. b || speaks_first p older || comes_of_earlier n p older) (same_doubtful p older);
    between = λ p older. ap (λ b. b || comes_of_earlier n p older || follows_unknown_id p older) (same_doubtful p older);
  }

  final_from : IsFinal n before after
  final_from = record {
    transfer = rw apart.opening refl;
    about = apart.about;
    client = sym (client_view_kept n after) ∙ ap (client_view n) apart.about ∙ client_view_kept n before;
    server = sym (server_view_kept n after) ∙ ap (server_view n) apart.about ∙ server_view_kept n before;
    who = sym (server_kept n (is_about n) (about_none n) after) ∙ ap (server_of n) apart.about ∙ server_kept n (is_about n) (about_none n) before;
    settled = sym (settled_kept n (is_about n) (about_none n) after) ∙ ap (is_settled n) apart.about ∙ settled_kept n (is_about n) (about_none n) before;
    seen = λ p. sym (at_server_kept n (is_about n) (about_none n) after p) ∙ ap (λ ps. is_at_server n ps p) apart.about ∙ at_server_kept n (is_about n) (about_none n) before p;
    doubts = same_doubts;
  }

pub silent_is_final : (named : List ℕ) (recorded more : List Recorded) (n : ℕ) (x : Transfer) → opened n (placed named recorded) ≡ Some x
    → IsSilent x.client (placed named recorded) → IsFinal n (placed named recorded) (placed named (more ++ recorded))
silent_is_final named recorded more n x is silent = by (newest_of (opened_it n) (placed named recorded)) refl where
  by : (found : Option Placed) → newest_of (opened_it n) (placed named recorded) ≡ found → IsFinal n (placed named recorded) (placed named (more ++ recorded))
  by None none = let both : None ≡ Some x = rw none at is in absurd (cc)
  by (Some p) found =
      let of : transfer_of p.place ≡ Some x = rw found at is in
      final_from n named recorded more (apart_from_then named recorded more n p x found of silent)

-- a transfer that was opened has its number
pub opened_has_number : (n : ℕ) (ps : List Placed) (x : Transfer) → opened n ps ≡ Some x → x.number ≡ n
opened_has_number n ps x is = by (newest_of (opened_it n) ps) refl where
  by : (found : Option Placed) → newest_of (opened_it n) ps ≡ found → x.number ≡ n
  by None none = let both : None ≡ Some x = rw none at is in absurd (cc)
  by (Some p) found =
      let of : transfer_of p.place ≡ Some x = rw found at is in
      opened_number n p.datagram p.moment p.place x (passes (opened_it n) ps p found) of
