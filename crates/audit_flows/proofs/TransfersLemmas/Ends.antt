-- What a place says of the ends of its datagram.
use Rattle.std.proofs.Common.{◌≡◌, ◌≢◌, ◌⊎◌, ℕ, ◌+◌, Bool, true, false, List, [], ◌∷◌, Option, Some, None, inl, inr, refl, sym, ap, subst, ◌∙◌, ◌&&◌, not, nat_le, option_map, length, if◌then◌else◌}
use Rattle.std.specs.List.{AllByRecursion}
use Rattle.audit_flows.specs.Lines.{Recorded, same_endpoint, is_between, is_again, Placed, opens, is_request, is_apart, is_at, newest_of, live, line, silence, transfer_of, latest_in, answered_in, talked_of, talk_in, place_asked, place_talked, place_at, opened_by, opening, asked_after, is_known_host, last_was_ack_0}
use Rattle.audit_flows.specs.declared.lines.endpoint.Endpoint.{Endpoint}
use Rattle.audit_flows.specs.declared.lines.place.Place.{Place}
use Rattle.audit_flows.specs.declared.lines.place.Place.TheVariants.{Opens, Repeats, Talks, Apart, Beside, Nowhere}
use Rattle.audit_flows.specs.declared.lines.place.Transfer.{Transfer}
use Rattle.audit_flows.specs.declared.lines.line.Talk.{Talk}
use Rattle.audit_flows.specs.Transfers.{either, or_talks, at_client, beside, beside_by, served_at, is_nowhere, asks, place_of}
use Rattle.audit_flows.proofs.LinesLemmas.Endpoints.{is_same}
use Rattle.audit_flows.proofs.LinesLemmas.Lines.{by_test}
use Rattle.audit_flows.proofs.TransfersLemmas.AllLines.{line_here, line_elsewhere}

-- ---- all of a line passed at its client

abbrev pub AreAt : Endpoint → List Placed → Type 0
AreAt c ps = AllByRecursion (λ p. is_at c p ≡ true) ps

live_at : (c : Endpoint) (now : ℕ) (ps : List Placed) → AreAt c ps → AreAt c (live now ps)
live_at c now [] all = tt
live_at c now (p ∷ ps) all = by_test (nat_le now (p.moment + silence))
    (λ is. subst (AreAt c) (sym (ap (λ b. if b then p ∷ ps else []) is)) all)
    (λ off. subst (AreAt c) (sym (ap (λ b. if b then p ∷ ps else []) off)) tt)

pub line_at : (c : Endpoint) (older : List Placed) → AreAt c (line c older)
line_at c [] = tt
line_at c (p ∷ older) = by_test (is_at c p)
    (λ is. subst (AreAt c) (sym (line_here c p older is)) (is, live_at c p.moment (line c older) (line_at c older)))
    (λ off. subst (AreAt c) (sym (line_elsewhere c p older off)) (line_at c older))

pub lived_at : (c : Endpoint) (now : ℕ) (older : List Placed) → AreAt c (live now (line c older))
lived_at c now older = live_at c now (line c older) (line_at c older)

newest_at : (c : Endpoint) (test : Placed → Bool) (ps : List Placed) (p : Placed) → AreAt c ps → newest_of test ps ≡ Some p → (is_at c p ≡ true) × (test p ≡ true)
newest_at c test [] p all found = absurd (cc)
newest_at c test (q ∷ ps) p all found = by_test (test q)
    (λ is. let same : Some q ≡ Some p = sym (ap (λ b. if b then Some q else newest_of test ps) is) ∙ found in
    let this : q ≡ p = cc in (subst (λ r. is_at c r ≡ true) this all.0, subst (λ r. test r ≡ true) this is))
    (λ off. newest_at c test ps p all.1 (sym (ap (λ b. if b then Some q else newest_of test ps) off) ∙ found))

-- ---- the latest transfer is its client's, and so is what is talked of

transfer_at : (c : Endpoint) (d : Recorded) (now : ℕ) (place : Place) (x : Transfer) → is_at c (record { datagram = d; moment = now; place = place }) ≡ true → transfer_of place ≡ Some x → x.client ≡ c
transfer_at c d now (Opens y) x at is = let this : y ≡ x = cc in ap (λ z. z.client) (sym this) ∙ is_same y.client c at
transfer_at c d now (Repeats y) x at is = let this : y ≡ x = cc in ap (λ z. z.client) (sym this) ∙ is_same y.client c at
transfer_at c d now (Talks y) x at is = let this : y ≡ x = cc in ap (λ z. z.client) (sym this) ∙ is_same y.client c at
transfer_at c d now _ x at is = absurd (cc)

talked_at : (place : Place) (x : Transfer) → talked_of place ≡ Some x → transfer_of place ≡ Some x
talked_at (Talks y) x is = is
talked_at _ x is = absurd (cc)

latest_at : (c : Endpoint) (ps : List Placed) (x : Transfer) → AreAt c ps → latest_in ps ≡ Some x → x.client ≡ c
latest_at c ps x all is = by (newest_of opens ps) refl where
  by : (found : Option Placed) → newest_of opens ps ≡ found → x.client ≡ c
  by None none = let both : None ≡ Some x = rw none at is in absurd (cc)
  by (Some p) found =
      let this : transfer_of p.place ≡ Some x = rw found at is in
      transfer_at c p.datagram p.moment p.place x (newest_at c opens ps p all found).0 this

abbrev pub spoken : Endpoint → Endpoint → Placed → Bool
spoken c o p = not (is_request p) && is_between c o p.datagram

talks_at : (c o : Endpoint) (ps : List Placed) (t : Talk) (x : Transfer) → AreAt c ps → talk_in c o ps ≡ Some t → t.transfer ≡ Some x → x.client ≡ c
talks_at c o ps t x all is of = by (newest_of (spoken c o) ps) refl where
  by : (found : Option Placed) → newest_of (spoken c o) ps ≡ found → x.client ≡ c
  by None none = let both : None ≡ Some t = sym (ap (option_map (λ p. record { transfer = talked_of p.place; acked_0 = last_was_ack_0 c o ps })) none) ∙ is in absurd (cc)
  by (Some p) found =
      let same : Some (record { transfer = talked_of p.place; acked_0 = last_was_ack_0 c o ps }) ≡ Some t = sym (ap (option_map (λ q. record { transfer = talked_of q.place; acked_0 = last_was_ack_0 c o ps })) found) ∙ is in
      let this : record { transfer = talked_of p.place; acked_0 = last_was_ack_0 c o ps } ≡ t = cc in
      transfer_at c p.datagram p.moment p.place x (newest_at c (spoken c o) ps p all found).0 (talked_at p.place x (ap (λ u. u.transfer) this ∙ of))

-- ---- what a line says of a datagram: of a transfer of its client, or apart from it

pub record IsTalkAt (c : Endpoint) (place : Place) : Type 0 where
  pub nowhere : place ≡ Nowhere → ⊥
  pub talks : (x : Transfer) → place ≡ Talks x → x.client ≡ c
  pub apart : (a : Endpoint) → place ≡ Apart a → a ≡ c
  pub opens : (x : Transfer) → place ≡ Opens x → ⊥
  pub repeats : (x : Transfer) → place ≡ Repeats x → ⊥

apart_talk : (c : Endpoint) → IsTalkAt c (Apart c)
apart_talk c = record {
  nowhere = λ e. absurd (cc);
  talks = λ x e. absurd (cc);
  apart = λ a e. let same : c ≡ a = cc in sym same;
  opens = λ x e. absurd (cc);
  repeats = λ x e. absurd (cc);
}

transfer_talk : (c : Endpoint) (y : Transfer) → y.client ≡ c → IsTalkAt c (Talks y)
transfer_talk c y client = record {
  nowhere = λ e. absurd (cc);
  talks = λ x e. let same : y ≡ x = cc in ap (λ z. z.client) (sym same) ∙ client;
  apart = λ a e. absurd (cc);
  opens = λ x e. absurd (cc);
  repeats = λ x e. absurd (cc);
}

chosen_talk : (b : Bool) (c : Endpoint) (one other : Place) → IsTalkAt c one → IsTalkAt c other → IsTalkAt c (if b then one else other)
chosen_talk true c one other is also = is
chosen_talk false c one other is also = also

place_talk : (c o : Endpoint) (x : Transfer) (answered : Option Endpoint) (d : Recorded) (talk : Option Talk) → x.client ≡ c
    → ((t : Talk) (y : Transfer) → talk ≡ Some t → t.transfer ≡ Some y → y.client ≡ c) → IsTalkAt c (place_talked c o x answered d talk)
place_talk c o x answered d None client clients = chosen_talk (same_endpoint d.source c && not (is_known_host x answered o)) c (Apart c) (Talks x) (apart_talk c) (transfer_talk c x client)
place_talk c o x answered d (Some t) client clients = by t.transfer refl where
  by : (of : Option Transfer) → t.transfer ≡ of → IsTalkAt c (place_talked c o x answered d (Some t))
  by None is = rw is (apart_talk c)
  by (Some y) is = rw is (chosen_talk _ c (Talks x) (Talks y) (transfer_talk c x client) (transfer_talk c y (clients t y refl is)))

-- it is a talk of the client's, and its line is not silent; or nothing is said
pub data IsSaidAt (c : Endpoint) (ps : List Placed) (place : Place) : Type 0 where
  said : ps ≢ [] → IsTalkAt c place → IsSaidAt c ps place
  silent : place ≡ Nowhere → IsSaidAt c ps place

pub place_said : (c o : Endpoint) (ps : List Placed) (d : Recorded) → AreAt c ps → IsSaidAt c ps (place_at c o ps d)
place_said c o ps d all = by (latest_in ps) refl where
  some : (x : Transfer) → latest_in ps ≡ Some x → ps ≢ []
  some x is none = let both : None ≡ Some x = sym (ap latest_in none) ∙ is in absurd (cc)

  by : (found : Option Transfer) → latest_in ps ≡ found → IsSaidAt c ps (place_at c o ps d)
  by None is = silent (rw is refl)
  by (Some x) is = said (some x is) (rw is (place_talk c o x (answered_in x ps) d (talk_in c o ps) (latest_at c ps x all is) (λ t y. talks_at c o ps t y all)))

-- ---- where a datagram belongs, by its ends

-- one of the datagram's ends is this client, whose line is not silent
abbrev pub IsEnd : List Placed → ℕ → Recorded → Endpoint → Type 0
IsEnd older now d c = ((c ≡ d.source) ⊎ (c ≡ d.target)) × (live now (line c older) ≢ [])

pub record IsEndAt (older : List Placed) (now : ℕ) (d : Recorded) (place : Place) : Type 0 where
  pub talks : (x : Transfer) → place ≡ Talks x → IsEnd older now d x.client
  pub apart : (c : Endpoint) → place ≡ Apart c → IsEnd older now d c
  pub opens : (x : Transfer) → place ≡ Opens x → ⊥
  pub repeats : (x : Transfer) → place ≡ Repeats x → ⊥

said_end : (older : List Placed) (now : ℕ) (d : Recorded) (c : Endpoint) (place : Place) → (c ≡ d.source) ⊎ (c ≡ d.target) → IsSaidAt c (live now (line c older)) place → IsEndAt older now d place
said_end older now d c place which (said some talk) = record {
  talks = λ x e. subst (IsEnd older now d) (sym (talk.talks x e)) (which, some);
  apart = λ a e. subst (IsEnd older now d) (sym (talk.apart a e)) (which, some);
  opens = talk.opens;
  repeats = talk.repeats;
}
said_end older now d c place which (silent none) = record {
  talks = λ x e. let both : Nowhere ≡ Talks x = sym none ∙ e in absurd (cc);
  apart = λ a e. let both : Nowhere ≡ Apart a = sym none ∙ e in absurd (cc);
  opens = λ x e. let both : Nowhere ≡ Opens x = sym none ∙ e in absurd (cc);
  repeats = λ x e. let both : Nowhere ≡ Repeats x = sym none ∙ e in absurd (cc);
}

or_talks_is : (one other : Place) → (or_talks one other ≡ one) ⊎ (or_talks one other ≡ other)
or_talks_is one (Talks x) = inr refl
or_talks_is one _ = inl refl

pub either_is : (one other : Place) → (either one other ≡ one) ⊎ (either one other ≡ other)
either_is (Talks x) other = inl refl
either_is Nowhere other = inr refl
either_is (Opens x) other = or_talks_is (Opens x) other
either_is (Repeats x) other = or_talks_is (Repeats x) other
either_is (Apart c) other = or_talks_is (Apart c) other
either_is (Beside x) other = or_talks_is (Beside x) other

pub client_end : (older : List Placed) (now : ℕ) (d : Recorded) → IsEndAt older now d (at_client older now d)
client_end older now d =
    let one = place_at d.source d.target (live now (line d.source older)) d in
    let other = place_at d.target d.source (live now (line d.target older)) d in
    elim (either_is (place_at d.source d.target (live now (line d.source older)) d) (place_at d.target d.source (live now (line d.target older)) d)) [
      | inl is ↦ subst (IsEndAt older now d) (sym is) (said_end older now d d.source (place_at d.source d.target (live now (line d.source older)) d) (inl refl)
          (place_said d.source d.target (live now (line d.source older)) d (lived_at d.source now older)))
      | inr is ↦ subst (IsEndAt older now d) (sym is) (said_end older now d d.target (place_at d.target d.source (live now (line d.target older)) d) (inr refl)
          (place_said d.target d.source (live now (line d.target older)) d (lived_at d.target now older)))
    ]

nowhere_end : (older : List Placed) (now : ℕ) (d : Recorded) → IsEndAt older now d Nowhere
nowhere_end older now d = record { talks = λ x e. absurd (cc); apart = λ a e. absurd (cc); opens = λ x e. absurd (cc); repeats = λ x e. absurd (cc) }

pub beside_end : (older : List Placed) (now : ℕ) (d : Recorded) (one other : Option Transfer) → IsEndAt older now d (beside_by one other)
beside_end older now d (Some y) other = record { talks = λ x e. absurd (cc); apart = λ a e. absurd (cc); opens = λ x e. absurd (cc); repeats = λ x e. absurd (cc) }
beside_end older now d None (Some y) = record { talks = λ x e. absurd (cc); apart = λ a e. absurd (cc); opens = λ x e. absurd (cc); repeats = λ x e. absurd (cc) }
beside_end older now d None None = nowhere_end older now d

-- ---- requests

abbrev pub asked_place : List Placed → ℕ → Recorded → Place
asked_place older now d = place_asked (length older) d (live now (line d.source older))

pub record IsWhere (older : List Placed) (now : ℕ) (d : Recorded) (place : Place) : Type 0 where
  pub talks : (x : Transfer) → place ≡ Talks x → IsEnd older now d x.client
  pub apart : (c : Endpoint) → place ≡ Apart c → IsEnd older now d c
  pub opens : (x : Transfer) → place ≡ Opens x → (x.client ≡ d.source) × (x.asked ≡ d.target)
  pub repeats : (x : Transfer) → place ≡ Repeats x → (x.client ≡ d.source) × (asked_place older now d ≡ Repeats x)

end_where : (older : List Placed) (now : ℕ) (d : Recorded) (place : Place) → IsEndAt older now d place → IsWhere older now d place
end_where older now d place is = record { talks = is.talks; apart = is.apart; opens = λ x e. absurd (is.opens x e); repeats = λ x e. absurd (is.repeats x e) }

pub data IsAskedAs (place result : Place) (number : ℕ) (d : Recorded) : Type 0 where
  opened : result ≡ opened_by number d → IsAskedAs place result number d
  again : (x : Transfer) → result ≡ Repeats x → transfer_of place ≡ Some x → IsAskedAs place result number d

chosen_as : (place : Place) (x : Transfer) (b : Bool) (number : ℕ) (d : Recorded) → transfer_of place ≡ Some x → IsAskedAs place (if b then Repeats x else opened_by number d) number d
chosen_as place x true number d is = again x refl is
chosen_as place x false number d is = opened refl

pub asked_as : (place : Place) (b : Bool) (number : ℕ) (d : Recorded) → IsAskedAs place (asked_after (opened_by number d) place b) number d
asked_as (Opens x) b number d = chosen_as (Opens x) x b number d refl
asked_as (Repeats x) b number d = chosen_as (Repeats x) x b number d refl
asked_as _ b number d = opened refl

opened_where : (older : List Placed) (now : ℕ) (d : Recorded) (place : Place) (number : ℕ) → place ≡ opened_by number d → IsWhere older now d place
opened_where older now d place number is = record {
  talks = λ x e. let both : opened_by number d ≡ Talks x = sym is ∙ e in absurd (cc);
  apart = λ a e. let both : opened_by number d ≡ Apart a = sym is ∙ e in absurd (cc);
  opens = λ x e. let both : opened_by number d ≡ Opens x = sym is ∙ e in
      let same : opening number d ≡ x = cc in (ap (λ z. z.client) (sym same), ap (λ z. z.asked) (sym same));
  repeats = λ x e. let both : opened_by number d ≡ Repeats x = sym is ∙ e in absurd (cc);
}

repeats_where : (older : List Placed) (now : ℕ) (d : Recorded) (y : Transfer) → y.client ≡ d.source → asked_place older now d ≡ Repeats y → IsWhere older now d (Repeats y)
repeats_where older now d y client is = record {
  talks = λ x e. absurd (cc);
  apart = λ a e. absurd (cc);
  opens = λ x e. absurd (cc);
  repeats = λ x e. let same : y ≡ x = cc in (ap (λ z. z.client) (sym same) ∙ client, is ∙ e);
}

asked_where : (older : List Placed) (now : ℕ) (d : Recorded) → IsWhere older now d (asked_place older now d)
asked_where older now d = by (newest_of (λ p. not (is_apart p)) (live now (line d.source older))) refl where
  by : (found : Option Placed) → newest_of (λ p. not (is_apart p)) (live now (line d.source older)) ≡ found → IsWhere older now d (asked_place older now d)
  by None none = opened_where older now d (asked_place older now d) (length older) (rw none refl)
  by (Some p) found =
      let is : asked_place older now d ≡ asked_after (opened_by (length older) d) p.place (is_again p.datagram d) = rw found refl in
      elim (asked_as p.place (is_again p.datagram d) (length older) d) [
        | opened e ↦ opened_where older now d (asked_place older now d) (length older) (is ∙ e)
        | again x e of ↦ subst (IsWhere older now d) (sym (is ∙ e)) (repeats_where older now d x
            (transfer_at d.source p.datagram p.moment p.place x (newest_at d.source (λ q. not (is_apart q)) (live now (line d.source older)) p (lived_at d.source now older) found).0 of) (is ∙ e))
      ]

pub placed_where : (named : List ℕ) (older : List Placed) (now : ℕ) (d : Recorded) → IsWhere older now d (place_of named older now d)
placed_where named older now d = by_test (asks named older now d)
    (λ is. subst (IsWhere older now d) (sym (ap (λ b. if b then asked_place older now d else if is_nowhere (at_client older now d) then beside named older now d else at_client older now d) is)) (asked_where older now d))
    (λ off. subst (IsWhere older now d) (sym (ap (λ b. if b then asked_place older now d else if is_nowhere (at_client older now d) then beside named older now d else at_client older now d) off)) (by_test (is_nowhere (at_client older now d))
    (λ is. subst (IsWhere older now d) (sym (ap (λ b. if b then beside named older now d else at_client older now d) is))
    (end_where older now d (beside named older now d) (beside_end older now d (served_at named older now d.source) (served_at named older now d.target))))
    (λ there. subst (IsWhere older now d) (sym (ap (λ b. if b then beside named older now d else at_client older now d) there))
    (end_where older now d (at_client older now d) (client_end older now d)))))
