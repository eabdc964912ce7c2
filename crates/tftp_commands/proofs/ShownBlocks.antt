-- By which block `show` reads a number: in the first round, and in a capture that is judged by numbers.
use Rattle.std.proofs.Common.{◌≡◌, ◌⊎◌, inl, inr, ℕ, ◌+◌, ◌==◌, ◌≤◌, ◌&&◌, ◌||◌, not, Bool, true, false, List, [], ◌∷◌, Option, None, Some, if◌then◌else◌, refl, sym, ap, ◌∙◌, subst}
use Rattle.std.specs.List.{list_any}
use Rattle.std.proofs.Math.Bool.{or-true}
use Rattle.std.proofs.lemmas.Bool.{eq-eqb}
use Rattle.tftp_packet.specs.{Rollover}
use Rattle.tftp_packet.specs.Rounds.{first_of as first_number, half_round, position_of}
use Rattle.tftp_packet.specs.Hosts.{Datagram, Header}
use Rattle.tftp_packet.proofs.RoundsLemmas.Positions.{low_is_near, read_back}
use Rattle.tftp_packet.proofs.RoundsLemmas.Turns.{low_numbers}
use Rattle.law_model.specs.Rules.{IsHigh, Route, asks, begins_request, is_from_client, port_of_server, route_of, transfer_of}
use Rattle.law_model.specs.Rules.Ports.Route.{Request, Peer, Stray, StrayAnswer, WrongPort}
use Rattle.law_end.specs.{IsRead, OneEnded, Passes, Rule}
use Rattle.law_end.proofs.FirstBroken.FirstRequests.{asks_is}
use Rattle.law_rollover.specs.{AreUnrolled}
use Rattle.tftp_judge.specs.{header_by}
use Rattle.tftp_commands.specs.{IsHighFor, other_block, since_request}
use Rattle.tftp_commands.proofs.NumbersKept.{asks_same}

-- ---- in the first round

pub own_block : (r : Rollover) (high n : ℕ) → n ≤ 65535 → high ≤ n + half_round → position_of r high n ≡ n
own_block r high n low timely =
    let same = low_numbers (first_number r) n low in
    ap (position_of r high) (sym same) ∙ read_back r high n (low_is_near r high n low timely)

same_number : (n : ℕ) → (n == n) ≡ true
same_number n = eq-eqb n n refl

pub none_beside : (rollover : Option Rollover) (high n : ℕ) → n ≤ 65535 → high ≤ n + half_round → other_block rollover high n ≡ None
none_beside None high n low timely = refl
none_beside (Some r) high n low timely = ap (λ k. if k == n then None else Some k) (own_block r high n low timely) ∙ ap (λ b. if b then None else Some n) (same_number n)

-- ---- where it is judged

no_stray : (b c : Bool) → (if b then (if c then Request else WrongPort) else Peer) ≡ Stray → ⊥
no_stray true true e = cc
no_stray true false e = cc
no_stray false c e = cc

no_answer : (b c : Bool) → (if b then (if c then Request else WrongPort) else Peer) ≡ StrayAnswer → ⊥
no_answer true true e = cc
no_answer true false e = cc
no_answer false c e = cc

-- the first datagram that passes is a request
first_asks : (h : Header) (d : Datagram) → Passes h [] d → asks h d ≡ true
first_asks h d passes = by (route_of h [] d) refl passes.read where
  by : (r : Route) → route_of h [] d ≡ r → IsRead r d → asks h d ≡ true
  by Request is read = asks_is h [] d refl is
  by Peer is read = absurd (passes.lawful Rule.NoRequest (refl, is))
  by Stray is read = absurd (no_stray (is_from_client h.named d && begins_request d) (port_of_server h.named d == h.service) is)
  by StrayAnswer is read = absurd (no_answer (is_from_client h.named d && begins_request d) (port_of_server h.named d == h.service) is)
  by _ is read = absurd read

module _ (r : Rollover) (h : Header) where
  one_asks : (earlier taken : List Datagram) → AreUnrolled r h earlier taken → OneEnded h taken → (earlier ≡ []) ⊎ (list_any (asks h) earlier ≡ true)
  one_asks [] taken are lawful = inl refl
  one_asks (d ∷ earlier) [] are lawful = absurd are
  one_asks (d ∷ []) (t ∷ []) are lawful =
      let (high, top, is) = are.0 in
      let asking : asks h d ≡ true = sym (asks_same h r high d) ∙ ap (asks h) (sym is) ∙ first_asks h t lawful.0 in
      inr (ap (λ b. b || false) asking)
  one_asks (d ∷ []) (t ∷ u ∷ taken) are lawful = absurd are.1
  one_asks (d ∷ e ∷ earlier) (t ∷ taken) are lawful = elim (one_asks (e ∷ earlier) taken are.1 lawful.1) as (λ _. ((d ∷ e ∷ earlier) ≡ []) ⊎ (list_any (asks h) (d ∷ e ∷ earlier) ≡ true)) [
    | inl none ↦ absurd (cc)
    | inr some ↦ inr (ap (λ b. asks h d || b) some ∙ or-true (asks h d))
  ]

  since_all : (earlier taken : List Datagram) → AreUnrolled r h earlier taken → OneEnded h taken → since_request h earlier ≡ earlier
  since_all [] taken are lawful = refl
  since_all (d ∷ earlier) [] are lawful = absurd are
  since_all (d ∷ earlier) (t ∷ taken) are lawful = elim (one_asks earlier taken are.1 lawful.1) as (λ _. since_request h (d ∷ earlier) ≡ d ∷ earlier) [
    | inl none ↦ subst (λ ds. since_request h (d ∷ ds) ≡ d ∷ ds) (sym none) (alone (asks h d))
    | inr some ↦
        ap (λ b. if asks h d && not b then d ∷ [] else d ∷ since_request h earlier) some ∙ further (asks h d) (since_request h earlier)
        ∙ ap (λ ds. d ∷ ds) (since_all earlier taken are.1 lawful.1)
  ] where
    alone : (b : Bool) → (if b && true then d ∷ [] else d ∷ []) ≡ d ∷ []
    alone true = refl
    alone false = refl

    further : (b : Bool) (rest : List Datagram) → (if b && false then d ∷ [] else d ∷ rest) ≡ d ∷ rest
    further true rest = refl
    further false rest = refl

-- numbers are read by the highest block that the judge reads them by
pub judged_high : (r : Rollover) (header : Header) (earlier taken : List Datagram) (high : ℕ) → AreUnrolled r (header_by (Some r) header) earlier taken → OneEnded (header_by (Some r) header) taken
    → IsHigh (transfer_of (header_by (Some r) header) taken) high → IsHighFor (Some r) header earlier high
judged_high r header earlier taken high are lawful is =
    let h = header_by (Some r) header in
    (taken, subst (λ (ds : List Datagram). AreUnrolled r h ds taken) (sym (since_all r h earlier taken are lawful)) are, is)
