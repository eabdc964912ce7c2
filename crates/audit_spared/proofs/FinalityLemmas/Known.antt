-- A transfer's number tells its client; and who served last did so no later than its client's line was heard.
use Rattle.std.proofs.Common.{◌≡◌, ◌≢◌, ◌≤◌, ◌<◌, ℕ, suc, true, false, List, [], ◌∷◌, Option, Some, None, arith, sym, ap, subst, ◌∙◌, ◌==◌, max, length, if◌then◌else◌}
use Rattle.std.proofs.Math.Nat.{le-max_right}
use Rattle.std.proofs.lemmas.Bool.{ne_eqb, eqb-true}
use Rattle.audit_flows.specs.Lines.{Recorded, goes, Placed, is_at, line, clock, opening}
use Rattle.audit_flows.specs.{Endpoint, Place, Talks, Transfer, Served}
use Rattle.audit_flows.specs.Transfers.{serves, newer, last_served, place_of, placed}
use Rattle.audit_flows.proofs.LinesLemmas.Lines.{by_test}
use Rattle.audit_flows.proofs.LinesLemmas.Endpoints.{same_itself}
use Rattle.audit_flows.proofs.TransfersLemmas.AllLines.{line_here, line_elsewhere}
use Rattle.audit_flows.proofs.TransfersLemmas.Numbers.{length_placed}
use Rattle.audit_spared.proofs.FinalityLemmas.Naming.{AreGood, all_good, all_go_on, place_good}

-- ---- a transfer's number tells its client: who sent the datagram of that number

abbrev pub source_at : ℕ → List Recorded → Option Endpoint
source_at n [] = None
source_at n (d ∷ older) = if length older == n then Some d.source else source_at n older

pub record IsKnown (n : ℕ) (recorded : List Recorded) (x : Transfer) : Type 0 where
  pub below : x.number < length recorded
  pub client : (x.number == n) ≡ true → source_at n recorded ≡ Some x.client

known_on : (n : ℕ) (d : Recorded) (recorded : List Recorded) (x : Transfer) → IsKnown n recorded x → IsKnown n (d ∷ recorded) x
known_on n d recorded x known =
    let below = known.below in
    record {
      below = omega arith;
      client = λ is.
          let this : x.number ≡ n = eqb-true x.number n is in
          let off : (length recorded == n) ≡ false = ne_eqb (length recorded) n (λ e. let no : n < n = subst (λ k. n < k) e (subst (λ k. k < length recorded) this below) in omega arith) in
          ap (λ b. if b then Some d.source else source_at n recorded) off ∙ known.client is;
    }

known_opening : (n : ℕ) (named : List ℕ) (d : Recorded) (recorded : List Recorded) → IsKnown n (d ∷ recorded) (opening (length (placed named recorded)) d)
known_opening n named d recorded = record {
  below = subst (λ k. k < suc (length recorded)) (sym (length_placed named recorded)) (omega arith);
  client = λ is. ap (λ b. if b then Some d.source else source_at n recorded) (sym (ap (λ k. k == n) (length_placed named recorded)) ∙ is);
}

pub all_known : (n : ℕ) (named : List ℕ) (recorded : List Recorded) → AreGood (IsKnown n recorded) (placed named recorded)
all_known n named [] = tt
all_known n named (d ∷ recorded) =
    let older = placed named recorded in
    let all : AreGood (IsKnown n (d ∷ recorded)) (placed named recorded) = all_good (IsKnown n recorded) (IsKnown n (d ∷ recorded)) (known_on n d recorded) (placed named recorded) (all_known n named recorded) in
    let on = all_go_on (IsKnown n (d ∷ recorded)) (max d.time (clock (placed named recorded))) (placed named recorded) all in
    (place_good (IsKnown n (d ∷ recorded)) named (placed named recorded) (max d.time (clock (placed named recorded))) d (known_opening n named d recorded) on.lines on.served, all)

-- ---- who served last did so no later than its client's line was heard

line_clock : (c : Endpoint) (named : List ℕ) (recorded : List Recorded) → clock (line c (placed named recorded)) ≤ clock (placed named recorded)
line_clock c named [] = omega arith
line_clock c named (d ∷ recorded) =
    let older = placed named recorded in
    let now = max d.time (clock (placed named recorded)) in
    let p : Placed = record { datagram = d; moment = max d.time (clock (placed named recorded)); place = place_of named (placed named recorded) (max d.time (clock (placed named recorded))) d } in
    let before = line_clock c named recorded in
    by_test (is_at c p)
    (λ is. subst (λ l. clock l ≤ p.moment) (sym (line_here c p (placed named recorded) is)) (omega arith))
    (λ off. subst (λ l. clock l ≤ p.moment) (sym (line_elsewhere c p (placed named recorded) off)) (let up = le-max_right d.time (clock (placed named recorded)) in omega arith))

abbrev pub IsFresh : List Placed → Option Served → Type 0
IsFresh ps None = Unit {0}
IsFresh ps (Some s) = (s.moment ≤ clock (line s.transfer.client ps)) × (line s.transfer.client ps ≢ [])

-- the datagram that comes next, with its place
abbrev pub next : List ℕ → List Placed → Recorded → Placed
next named older d = record { datagram = d; moment = max d.time (clock older); place = place_of named older (max d.time (clock older)) d }

fresh_on : (p : Placed) (older : List Placed) → ((c : Endpoint) → clock (line c older) ≤ p.moment) → (last : Option Served) → IsFresh older last → IsFresh (p ∷ older) last
fresh_on p older up None fresh = tt
fresh_on p older up (Some s) fresh = by_test (is_at s.transfer.client p)
    (λ is. subst (λ l. (s.moment ≤ clock l) × (l ≢ [])) (sym (line_here s.transfer.client p older is))
    (let first = fresh.0 in let later = up s.transfer.client in omega arith, λ none. absurd (cc)))
    (λ off. subst (λ l. (s.moment ≤ clock l) × (l ≢ [])) (sym (line_elsewhere s.transfer.client p older off)) fresh)

fresh_newer : (ps : List Placed) (one other : Option Served) → IsFresh ps one → IsFresh ps other → IsFresh ps (newer one other)
fresh_newer ps None other is also = also
fresh_newer ps (Some s) other is also = is

fresh_serves : (o : Endpoint) (d : Recorded) (now : ℕ) (place : Place) (older : List Placed)
    → IsFresh (record { datagram = d; moment = now; place = place } ∷ older) (serves o (record { datagram = d; moment = now; place = place }))
fresh_serves o d now (Talks x) older = by_test (goes o x.client d)
    (λ is. subst (IsFresh (record { datagram = d; moment = now; place = Talks x } ∷ older)) (sym (ap (λ b. if b then Some (record { transfer = x; moment = now }) else None) is))
    (subst (λ l. (now ≤ clock l) × (l ≢ [])) (sym (line_here x.client (record { datagram = d; moment = now; place = Talks x }) older (same_itself x.client))) (omega arith, λ none. absurd (cc))))
    (λ off. subst (IsFresh (record { datagram = d; moment = now; place = Talks x } ∷ older)) (sym (ap (λ b. if b then Some (record { transfer = x; moment = now }) else None) off)) tt)
fresh_serves o d now _ older = tt

pub all_fresh : (o : Endpoint) (named : List ℕ) (recorded : List Recorded) → IsFresh (placed named recorded) (last_served o (placed named recorded))
all_fresh o named [] = tt
all_fresh o named (d ∷ recorded) =
    fresh_newer (placed named (d ∷ recorded)) (serves o (next named (placed named recorded) d)) (last_served o (placed named recorded))
    (fresh_serves o d (max d.time (clock (placed named recorded))) (place_of named (placed named recorded) (max d.time (clock (placed named recorded))) d) (placed named recorded))
    (fresh_on (next named (placed named recorded) d) (placed named recorded)
    (λ c. let up = le-max_right d.time (clock (placed named recorded)) in let before = line_clock c named recorded in omega arith)
    (last_served o (placed named recorded)) (all_fresh o named recorded))
