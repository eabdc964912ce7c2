-- A transfer's own datagrams tell who its ends are, and what each of them saw.
use Rattle.std.proofs.Common.{◌≡◌, ℕ, Bool, false, cond, List, [], ◌∷◌, Option, Some, None, refl, sym, ap, ◌∙◌, ◌==◌, ◌&&◌, ◌||◌, not, filter, is_some, option_map}
use Rattle.std.proofs.lemmas.List.Elements.{filter_agree}
use Rattle.law_model.specs.Rules.{first_of, or_this}
use Rattle.audit_flows.specs.Lines.{Recorded, begins_error, other_of, same_endpoint, Placed, is_of}
use Rattle.audit_flows.specs.declared.lines.endpoint.Endpoint.{Endpoint}
use Rattle.audit_flows.specs.declared.lines.place.Place.{Place}
use Rattle.audit_flows.specs.declared.lines.place.Place.TheVariants.{Opens, Repeats, Talks, Apart, Beside, Nowhere}
use Rattle.audit_flows.specs.Transfers.{is_settled, answered_by, asked_of, client_view, comes, goes_on, goes_to_asked, has_host, has_port, is_about, is_at_server, is_end, is_server, opened_it, server_of, server_view, went_on_with}
use Rattle.audit_flows.proofs.LinesLemmas.Lines.{by_test}

-- ---- the same ends, the same server and the same view of it

server_by : (n : ℕ) (one other : List Placed) → went_on_with n one ≡ went_on_with n other → answered_by n one ≡ answered_by n other → server_of n one ≡ server_of n other
server_by n one other went answered = by (went_on_with n other) refl where
  by : (o : Option Endpoint) → went_on_with n other ≡ o → server_of n one ≡ server_of n other
  by None none = rw (went ∙ none) (rw none answered)
  by (Some s) is = rw (went ∙ is) (rw is refl)

module _ (n : ℕ) (one other : List Placed) (asked : asked_of n one ≡ asked_of n other) (answered : answered_by n one ≡ answered_by n other) (went_on : went_on_with n one ≡ went_on_with n other) where
  pub server_same : server_of n one ≡ server_of n other
  server_same = server_by n one other went_on answered

  is_server_same : (o : Endpoint) → is_server n one o ≡ is_server n other o
  is_server_same o =
      ap (λ s. has_port o s && (has_host o (asked_of n one) || has_host o (answered_by n one) || has_host o (went_on_with n one))) server_same
      ∙ ap (λ s. has_port o (server_of n other) && (has_host o s || has_host o (answered_by n one) || has_host o (went_on_with n one))) asked
      ∙ ap (λ s. has_port o (server_of n other) && (has_host o (asked_of n other) || has_host o s || has_host o (went_on_with n one))) answered
      ∙ ap (λ s. has_port o (server_of n other) && (has_host o (asked_of n other) || has_host o (answered_by n other) || has_host o s)) went_on

  at_place : (d : Recorded) (now : ℕ) (place : Place) → is_at_server n one (record { datagram = d; moment = now; place = place }) ≡ is_at_server n other (record { datagram = d; moment = now; place = place })
  at_place d now (Talks x) = ap (λ b. (x.number == n) && (b || goes_to_asked x d)) (is_server_same (other_of x.client d))
  at_place d now (Beside x) = ap (λ s. (x.number == n) && (is_end d.source s || is_end d.target s)) server_same
  at_place d now _ = refl

  pub at_server_same : (p : Placed) → is_at_server n one p ≡ is_at_server n other p
  at_server_same p = at_place p.datagram p.moment p.place

  pub settled_same : is_settled n one ≡ is_settled n other
  settled_same = ap (λ o. is_some o && is_some (answered_by n one) && is_some (went_on_with n one)) asked
      ∙ ap (λ o. is_some (asked_of n other) && is_some o && is_some (went_on_with n one)) answered
      ∙ ap (λ o. is_some (asked_of n other) && is_some (answered_by n other) && is_some o) went_on

-- ---- those that are kept have all that pass a test

module _ (test keep : Placed → Bool) (kept : (p : Placed) → keep p ≡ false → test p ≡ false) where
  passed_over : (o : Option Placed) (p : Placed) → test p ≡ false → or_this o (test p) p ≡ o
  passed_over None p off = ap (λ b. or_this None b p) off
  passed_over (Some q) p off = refl

  pub first_kept : (ps : List Placed) → first_of test (filter keep ps) ≡ first_of test ps
  first_kept [] = refl
  first_kept (p ∷ ps) = by_test (keep p)
      (λ is. ap (λ b. first_of test (cond b (p ∷ filter keep ps) (filter keep ps))) is ∙ ap (λ o. or_this o (test p) p) (first_kept ps))
      (λ off. ap (λ b. first_of test (cond b (p ∷ filter keep ps) (filter keep ps))) off ∙ first_kept ps ∙ sym (passed_over (first_of test ps) p (kept p off)))

  pub filter_kept : (ps : List Placed) → filter test (filter keep ps) ≡ filter test ps
  filter_kept [] = refl
  filter_kept (p ∷ ps) = by_test (keep p)
      (λ is. ap (λ b. filter test (cond b (p ∷ filter keep ps) (filter keep ps))) is ∙ ap (λ l. cond (test p) (p ∷ l) l) (filter_kept ps))
      (λ off. ap (λ b. filter test (cond b (p ∷ filter keep ps) (filter keep ps))) off ∙ filter_kept ps ∙ sym (ap (λ b. cond b (p ∷ filter test ps) (filter test ps)) (kept p off)))

-- ---- what is not of the transfer tells nothing of its ends

module _ (n : ℕ) (d : Recorded) (now : ℕ) where
  opened_of : (place : Place) → is_of n (record { datagram = d; moment = now; place = place }) ≡ false → opened_it n (record { datagram = d; moment = now; place = place }) ≡ false
  opened_of (Opens x) off = off
  opened_of _ off = refl

  comes_of : (place : Place) → is_of n (record { datagram = d; moment = now; place = place }) ≡ false → comes n (record { datagram = d; moment = now; place = place }) ≡ false
  comes_of (Talks x) off = ap (λ b. b && same_endpoint d.target x.client) off
  comes_of _ off = refl

  goes_of : (place : Place) → is_of n (record { datagram = d; moment = now; place = place }) ≡ false → goes_on n (record { datagram = d; moment = now; place = place }) ≡ false
  goes_of (Talks x) off = ap (λ b. b && same_endpoint d.source x.client && not (begins_error d.payload)) off
  goes_of _ off = refl

  not_of : (place : Place) → is_about n (record { datagram = d; moment = now; place = place }) ≡ false → is_of n (record { datagram = d; moment = now; place = place }) ≡ false
  not_of (Apart c) off = refl
  not_of (Beside x) off = refl
  not_of Nowhere off = refl
  not_of _ off = off

  not_seen : (placed : List Placed) (place : Place) → is_about n (record { datagram = d; moment = now; place = place }) ≡ false → is_at_server n placed (record { datagram = d; moment = now; place = place }) ≡ false
  not_seen placed (Opens x) off = off
  not_seen placed (Repeats x) off = off
  not_seen placed (Talks x) off = ap (λ b. b && (is_server n placed (other_of x.client d) || goes_to_asked x d)) off
  not_seen placed (Beside x) off = ap (λ b. b && (is_end d.source (server_of n placed) || is_end d.target (server_of n placed))) off
  not_seen placed _ off = refl

pub opens_none : (n : ℕ) (p : Placed) → is_of n p ≡ false → opened_it n p ≡ false
opens_none n p off = opened_of n p.datagram p.moment p.place off

pub comes_none : (n : ℕ) (p : Placed) → is_of n p ≡ false → comes n p ≡ false
comes_none n p off = comes_of n p.datagram p.moment p.place off

pub goes_none : (n : ℕ) (p : Placed) → is_of n p ≡ false → goes_on n p ≡ false
goes_none n p off = goes_of n p.datagram p.moment p.place off

pub about_none : (n : ℕ) (p : Placed) → is_about n p ≡ false → is_of n p ≡ false
about_none n p off = not_of n p.datagram p.moment p.place off

pub seen_none : (n : ℕ) (placed : List Placed) (p : Placed) → is_about n p ≡ false → is_at_server n placed p ≡ false
seen_none n placed p off = not_seen n p.datagram p.moment placed p.place off

-- its place alone tells of which transfer it is
module _ (n : ℕ) (d e : Recorded) (now then : ℕ) where
  by_place : (place : Place) → is_of n (record { datagram = e; moment = then; place = place }) ≡ is_of n (record { datagram = d; moment = now; place = place })
  by_place (Opens x) = refl
  by_place _ = refl

pub of_place : (n : ℕ) (p q : Placed) → p.place ≡ q.place → is_of n q ≡ is_of n p
of_place n p q same = ap (λ (place : Place). is_of n (record { datagram = q.datagram; moment = q.moment; place = place })) (sym same) ∙ by_place n p.datagram q.datagram p.moment q.moment p.place

-- what passes no test is not noted
pub none_passes : (known : Option Endpoint) (end : Endpoint) {passes : Bool} → passes ≡ false → or_this known passes end ≡ known
none_passes None end off = ap (λ b. or_this None b end) off
none_passes (Some first) end off = refl

-- ---- the ends of those that are kept, where all of the transfer are

module _ (n : ℕ) (keep : Placed → Bool) (kept : (p : Placed) → keep p ≡ false → is_of n p ≡ false) (placed : List Placed) where
  pub asked_kept : asked_of n (filter keep placed) ≡ asked_of n placed
  asked_kept = ap (option_map (λ p. p.datagram.target)) (first_kept (opened_it n) keep (λ p off. opens_none n p (kept p off)) placed)

  pub answered_kept : answered_by n (filter keep placed) ≡ answered_by n placed
  answered_kept = ap (option_map (λ p. p.datagram.source)) (first_kept (comes n) keep (λ p off. comes_none n p (kept p off)) placed)

  pub went_on_kept : went_on_with n (filter keep placed) ≡ went_on_with n placed
  went_on_kept = ap (option_map (λ p. p.datagram.target)) (first_kept (goes_on n) keep (λ p off. goes_none n p (kept p off)) placed)

  pub server_kept : server_of n (filter keep placed) ≡ server_of n placed
  server_kept = server_same n (filter keep placed) placed asked_kept answered_kept went_on_kept

  pub settled_kept : is_settled n (filter keep placed) ≡ is_settled n placed
  settled_kept = settled_same n (filter keep placed) placed asked_kept answered_kept went_on_kept

  pub at_server_kept : (p : Placed) → is_at_server n (filter keep placed) p ≡ is_at_server n placed p
  at_server_kept = at_server_same n (filter keep placed) placed asked_kept answered_kept went_on_kept

pub client_view_kept : (n : ℕ) (placed : List Placed) → client_view n (filter (is_about n) placed) ≡ client_view n placed
client_view_kept n placed = filter_kept (is_of n) (is_about n) (about_none n) placed

pub server_view_kept : (n : ℕ) (placed : List Placed) → server_view n (filter (is_about n) placed) ≡ server_view n placed
server_view_kept n placed =
    filter_agree (is_at_server n (filter (is_about n) placed)) (is_at_server n placed) (at_server_kept n (is_about n) (about_none n) placed) (filter (is_about n) placed)
    ∙ filter_kept (is_at_server n placed) (is_about n) (seen_none n placed) placed
