-- A whole recording at one client, whose captures follow one another.
use Rattle.std.proofs.Common.{◌≡◌, ◌⊎◌, inl, inr, ◌<◌, ◌≤◌, ℕ, ◌+◌, Bool, true, false, List, [], ◌∷◌, ◌++◌, refl, sym, ap, subst, ◌∙◌, ◌==◌, ◌&&◌, ◌||◌, not, map, length, nat_le, max, is_some, ne_eqb, arith, if◌then◌else◌}
use Rattle.std.specs.List.{list_any, AllByRecursion}
use Rattle.std.proofs.lemmas.Bool.{or_left, and_parts, eq-eqb, le-leb, leb-true}
use Rattle.audit_flows.specs.Lines.{Recorded, Placed, same_endpoint, other_of, is_of, is_request, is_at, live, line, latest_in, clock, silence, begins_request, place_asked, place_at, talk_in, goes}
use Rattle.audit_flows.specs.{Endpoint, Place, Opens, Repeats, Talks, Transfer}
use Rattle.audit_flows.specs.Transfers.{asks, at_client, beside, either, is_client, is_nowhere, is_service, place_of, placed}
use Rattle.audit_flows.proofs.LinesLemmas.Endpoints.{is_same}
use Rattle.audit_flows.proofs.LinesLemmas.Lines.{by_test}
use Rattle.audit_flows.proofs.LinesLemmas.Silences.{live_is, live_not}
use Rattle.audit_flows.proofs.TransfersLemmas.AllLines.{line_here, line_elsewhere}
use Rattle.audit_flows.proofs.TransfersLemmas.Numbers.{AreBelow, IsBelow, placed_below, length_placed}
use Rattle.audit_spared.specs.Spared.{AreInOrder, Follows, asks_from, goes_from}
use Rattle.audit_spared.proofs.SparedLemmas.Places.{comes_to_it}
use Rattle.audit_spared.proofs.SparedLemmas.Stands.{new, Has}
use Rattle.audit_spared.proofs.SparedLemmas.Talks.{talk_step, no_begin}
use Rattle.audit_spared.proofs.SparedLemmas.Requests.{request_step, begin_step, next_step}

-- ---- an endpoint at which none passed has no line

pub no_line : (e : Endpoint) (older : List Placed) → AllByRecursion (λ q. is_at e q ≡ false) older → line e older ≡ []
no_line e [] none = refl
no_line e (q ∷ older) none = line_elsewhere e q older none.0 ∙ no_line e older none.1

-- ---- what holds of all holds of a line

pub live_all : (P : Placed → Type 0) (now : ℕ) (ps : List Placed) → AllByRecursion P ps → AllByRecursion P (live now ps)
live_all P now [] all = tt
live_all P now (p ∷ ps) all = by_test (nat_le now (p.moment + silence))
    (λ is. subst (AllByRecursion P) (sym (ap (λ b. if b then p ∷ ps else []) is)) all)
    (λ off. subst (AllByRecursion P) (sym (ap (λ b. if b then p ∷ ps else []) off)) tt)

pub line_all : (P : Placed → Type 0) (c : Endpoint) (older : List Placed) → AllByRecursion P older → AllByRecursion P (line c older)
line_all P c [] all = tt
line_all P c (p ∷ older) all = by_test (is_at c p)
    (λ is. subst (AllByRecursion P) (sym (line_here c p older is)) (all.0, live_all P p.moment (line c older) (line_all P c older all.1)))
    (λ off. subst (AllByRecursion P) (sym (line_elsewhere c p older off)) (line_all P c older all.1))

live_either : {P : Type 0} (now : ℕ) (ps : List Placed) → (live now ps ≡ [] → P) → (live now ps ≡ ps → P) → P
live_either now ps if_silent if_live = by_test (nat_le now (clock ps + silence)) (λ is. if_live (live_is now ps is)) (λ off. if_silent (live_not now ps off))

-- ---- no datagram has the number of the next

below_is : (bound n : ℕ) (d : Recorded) (now : ℕ) (place : Place) → bound ≤ n → IsBelow bound place → is_of n (new d now place) ≡ false
below_is bound n d now (Opens x) up below = ne_eqb x.number n (λ e. omega arith)
below_is bound n d now (Repeats x) up below = ne_eqb x.number n (λ e. omega arith)
below_is bound n d now (Talks x) up below = ne_eqb x.number n (λ e. omega arith)
below_is bound n d now _ up below = refl

all_fresh : (bound n : ℕ) → bound ≤ n → (ps : List Placed) → AreBelow bound ps → AllByRecursion (λ q. is_of n q ≡ false) ps
all_fresh bound n up [] all = tt
all_fresh bound n up (p ∷ ps) all = (below_is bound n p.datagram p.moment p.place up all.0, all_fresh bound n up ps all.1)

pub fresh : (ds : List Recorded) → AllByRecursion (λ q. is_of (length (placed [] ds)) q ≡ false) (placed [] ds)
fresh ds = all_fresh (length ds) (length (placed [] ds)) (rw (length_placed [] ds) (omega arith)) (placed [] ds) (placed_below [] ds)

-- ---- places

service_is : (older : List Placed) (port : ℕ) → port ≡ 69 → is_service [] older port ≡ true
service_is older port is = or_left ((port == 69) || list_any (λ n. n == port) []) (list_any (λ p. is_request p && (p.datagram.target.port == port)) older)
    (or_left (port == 69) (list_any (λ n. n == port) []) (eq-eqb port 69 is))

pub request_place : (c : Endpoint) (older : List Placed) (now : ℕ) (d : Recorded) → asks_from c d ≡ true → d.target.port ≡ 69 → place_of [] older now d ≡ place_asked (length older) d (live now (line c older))
request_place c older now d is service =
    let parts = and_parts (goes_from c d) (begins_request d.payload) is in
    let named : is_service [] [] d.target.port ≡ true = service_is [] d.target.port service in
    let asked : asks [] older now d ≡ true = λ i. parts.1 i && (named i || (not (is_client older now d.target)
    && (is_service [] older d.target.port || (d.is_spelled && not (is_some (talk_in d.source d.target (live now (line d.source older)))))))) in
    ap (λ b. if b then place_asked (length older) d (live now (line d.source older)) else if is_nowhere (at_client older now d) then beside [] older now d else at_client older now d) asked
    ∙ ap (λ e. place_asked (length older) d (live now (line e older))) (is_same d.source c parts.0)

client_sent : (c : Endpoint) (older : List Placed) (now : ℕ) (d : Recorded) (y : Transfer) → goes_from c d ≡ true → place_at c (other_of c d) (live now (line c older)) d ≡ Talks y → at_client older now d ≡ Talks y
client_sent c older now d y from place =
    let there = place_at d.target d.source (live now (line d.target older)) d in
    ap (λ e. either (place_at e d.target (live now (line e older)) d) (place_at d.target d.source (live now (line d.target older)) d)) (is_same d.source c from)
    ∙ ap (λ o. either (place_at c o (live now (line c older)) d) (place_at d.target d.source (live now (line d.target older)) d)) (sym (ap (λ b. if b then d.target else d.source) from))
    ∙ ap (λ p. either p (place_at d.target d.source (live now (line d.target older)) d)) place

client_took : (c : Endpoint) (older : List Placed) (now : ℕ) (d : Recorded) (y : Transfer) → line d.source older ≡ [] → goes_from c d ≡ false → goes (other_of c d) c d ≡ true
    → place_at c (other_of c d) (live now (line c older)) d ≡ Talks y → at_client older now d ≡ Talks y
client_took c older now d y none off came place =
    let to = and_parts (same_endpoint d.source (other_of c d)) (same_endpoint d.target c) came in
    ap (λ l. either (place_at d.source d.target (live now l) d) (place_at d.target d.source (live now (line d.target older)) d)) none
    ∙ ap (λ e. place_at e d.source (live now (line e older)) d) (is_same d.target c to.1)
    ∙ ap (λ o. place_at c o (live now (line c older)) d) (sym (ap (λ b. if b then d.target else d.source) off))
    ∙ place

pub talk_place : (c : Endpoint) (older : List Placed) (now : ℕ) (d : Recorded) (y : Transfer) → (goes_from c d ≡ false → line d.source older ≡ []) → asks [] older now d ≡ false
    → (goes_from c d ≡ false → goes (other_of c d) c d ≡ true) → place_at c (other_of c d) (live now (line c older)) d ≡ Talks y → place_of [] older now d ≡ Talks y
talk_place c older now d y none plain came place =
    let at : at_client older now d ≡ Talks y = by_test (goes_from c d) (λ from. client_sent c older now d y from place) (λ off. client_took c older now d y (none off) off (came off) place) in
    ap (λ b. if b then place_asked (length older) d (live now (line d.source older)) else if is_nowhere (at_client older now d) then beside [] older now d else at_client older now d) plain
    ∙ ap (λ p. if is_nowhere p then beside [] older now d else p) at

-- ---- what does not ask

-- what says no request
pub plain_asks : (older : List Placed) (now : ℕ) (d : Recorded) → begins_request d.payload ≡ false → asks [] older now d ≡ false
plain_asks older now d plain = λ i. plain i && (is_service [] [] d.target.port || (not (is_client older now d.target)
    && (is_service [] older d.target.port || (d.is_spelled && not (is_some (talk_in d.source d.target (live now (line d.source older))))))))

and_none : (b : Bool) → (b && false) ≡ false
and_none true = refl
and_none false = refl

-- what comes to a client whose line goes on
came_asks : (c : Endpoint) (older : List Placed) (now : ℕ) (d : Recorded) → (c.port ≡ 69 → ⊥) → d.target ≡ c → is_client older now c ≡ true → asks [] older now d ≡ false
came_asks c older now d other to client =
    let service : is_service [] [] d.target.port ≡ false = ap (λ e. is_service [] [] e.port) to ∙ ap (λ b. (b || list_any (λ n. n == c.port) []) || false) (ne_eqb c.port 69 other) in
    let there : is_client older now d.target ≡ true = ap (is_client older now) to ∙ client in
    (λ i. begins_request d.payload && (service i || (not (there i)
    && (is_service [] older d.target.port || (d.is_spelled && not (is_some (talk_in d.source d.target (live now (line d.source older)))))))))
    ∙ and_none (begins_request d.payload)

-- ---- the recording

abbrev pub IsOnTime : Placed → Type 0
IsOnTime q = q.moment ≡ q.datagram.time

pub data Standing (c : Endpoint) (k : List Recorded) (older : List Placed) : Type 0 where
  nothing : line c older ≡ [] → k ≡ [] → Standing c k older
  standing : (kp rest : List Placed) (x : Transfer) → Has c k older kp rest x → Standing c k older

cons_first : (x y : Recorded) (xs ys : List Recorded) → x ∷ xs ≡ y ∷ ys → x ≡ y
cons_first x y xs ys e = cc

-- the newest of the line is the newest of the capture
live_on : (c : Endpoint) (e : Recorded) (k : List Recorded) (older kp rest : List Placed) (x : Transfer) (now : ℕ) → Has c (e ∷ k) older kp rest x → AllByRecursion IsOnTime older → now ≤ e.time + silence
    → live now (line c older) ≡ line c older
live_on c e k older [] rest x now has clear near = absurd (has.some refl)
live_on c e k older (q ∷ ps) rest x now has clear near =
    let this : q.datagram ≡ e = cons_first q.datagram e (map (λ p. p.datagram) ps) k has.are in
    let all : AllByRecursion IsOnTime (q ∷ ps ++ rest) = subst (AllByRecursion IsOnTime) has.whole (line_all IsOnTime c older clear) in
    let moment : q.moment ≡ e.time = all.0 ∙ ap (λ d. d.time) this in
    live_is now (line c older) (ap (λ l. nat_le now (clock l + silence)) has.whole ∙ ap (λ m. nat_le now (m + silence)) moment ∙ le-leb now (e.time + silence) near)

-- it has been silent since
pub live_off : (c : Endpoint) (e : Recorded) (k : List Recorded) (older kp rest : List Placed) (x : Transfer) (now : ℕ) → Has c (e ∷ k) older kp rest x → AllByRecursion IsOnTime older → e.time + silence < now
    → live now (line c older) ≡ []
live_off c e k older [] rest x now has clear far = absurd (has.some refl)
live_off c e k older (q ∷ ps) rest x now has clear far =
    let this : q.datagram ≡ e = cons_first q.datagram e (map (λ p. p.datagram) ps) k has.are in
    let all : AllByRecursion IsOnTime (q ∷ ps ++ rest) = subst (AllByRecursion IsOnTime) has.whole (line_all IsOnTime c older clear) in
    let moment : q.moment ≡ e.time = all.0 ∙ ap (λ d. d.time) this in
    let off : nat_le now (e.time + silence) ≡ false = by_test (nat_le now (e.time + silence))
    (λ is. let low : now ≤ e.time + silence = leb-true now (e.time + silence) is in absurd (omega (arith, low, far)))
    (λ none. none) in
    live_not now (line c older) (ap (λ l. nat_le now (clock l + silence)) has.whole ∙ ap (λ m. nat_le now (m + silence)) moment ∙ off)

-- ---- the times

later : (d : Recorded) (at : ℕ) → at ≤ d.time → max d.time at ≡ d.time
later d at below = omega arith

clock_on : (d : Recorded) (ds : List Recorded) → AreInOrder (d ∷ ds) → AllByRecursion IsOnTime (placed [] ds) → max d.time (clock (placed [] ds)) ≡ d.time
clock_on d [] order on_time = later d 0 (omega arith)
clock_on d (e ∷ ds) order on_time = ap (λ t. max d.time t) on_time.0 ∙ later d e.time order.0

pub order_rest : (d : Recorded) (ds : List Recorded) → AreInOrder (d ∷ ds) → AreInOrder ds
order_rest d [] order = tt
order_rest d (e ∷ ds) order = order.1

pub on_time : (ds : List Recorded) → AreInOrder ds → AllByRecursion IsOnTime (placed [] ds)
on_time [] order = tt
on_time (d ∷ ds) order = let before = on_time ds (order_rest d ds order) in (clock_on d ds order before, before)

pub clock_now : (d : Recorded) (ds : List Recorded) → AreInOrder (d ∷ ds) → max d.time (clock (placed [] ds)) ≡ d.time
clock_now d ds order = clock_on d ds order (on_time ds (order_rest d ds order))

-- ---- each of a capture, after those before it

-- the client's port is no service port, or what comes to it says no request
abbrev pub IsQuietAt : Endpoint → Recorded → Type 0
IsQuietAt c d = (c.port ≡ 69 → ⊥) ⊎ (goes_from c d ≡ false → begins_request d.payload ≡ false)

-- so it is of each capture
abbrev pub IsQuiet : (List Recorded → Type 0) → Endpoint → Type 0
IsQuiet lawful c = (c.port ≡ 69 → ⊥) ⊎ ((d : Recorded) (k : List Recorded) → lawful (d ∷ k) → goes_from c d ≡ false → begins_request d.payload ≡ false)

pub quiet_at : (lawful : List Recorded → Type 0) (c : Endpoint) → IsQuiet lawful c → (d : Recorded) (k : List Recorded) → lawful (d ∷ k) → IsQuietAt c d
quiet_at lawful c quiet d k good = elim quiet [ inl port ↦ inl port | inr plain ↦ inr (plain d k good) ]

module _ (lawful : List Recorded → Type 0) (c : Endpoint) where
  abbrev pub Next : List Recorded → Recorded → List Placed → ℕ → Place → Type 0
  Next k d older now place = (kp rest : List Placed) × (x : Transfer) × Has c (d ∷ k) (new d now place ∷ older) (new d now place ∷ kp) rest x

  -- the first of a capture
  pub first_next : (ds k0 : List Recorded) (d : Recorded) → Follows c [] d → Standing c k0 (placed [] ds)
      → (now : ℕ) → Next [] d (placed [] ds) now (place_of [] (placed [] ds) now d)
  first_next ds k0 d follows stands now = subst (Next [] d (placed [] ds) now) (sym (request_place c (placed [] ds) now d is (follows.service is))) (live_either now (line c (placed [] ds)) silent live_case) where
    is : asks_from c d ≡ true
    is = follows.first refl

    Goal : Type 0
    Goal = Next [] d (placed [] ds) now (place_asked (length (placed [] ds)) d (live now (line c (placed [] ds))))

    silent : live now (line c (placed [] ds)) ≡ [] → Goal
    silent none = let (rest, y, has) = begin_step c (placed [] ds) d now follows none (fresh ds) in ([], rest, y, has)

    by : live now (line c (placed [] ds)) ≡ line c (placed [] ds) → Standing c k0 (placed [] ds) → Goal
    by lived (nothing none empty) = silent (ap (live now) none)
    by lived (standing kp rest x has) =
        let (more, y, next) = next_step c k0 (placed [] ds) kp rest x d now has follows lived (fresh ds)
        (line_all (λ q. is_of (length (placed [] ds)) q ≡ false) c (placed [] ds) (fresh ds)) in
        ([], more, y, subst (λ l. Has c (d ∷ []) (new d now (place_asked (length (placed [] ds)) d l) ∷ placed [] ds) (new d now (place_asked (length (placed [] ds)) d l) ∷ []) more y) (sym lived) next)

    live_case : live now (line c (placed [] ds)) ≡ line c (placed [] ds) → Goal
    live_case lived = by lived stands

  -- of a capture that goes on, what is no request of its client does not ask
  pub asks_not : (ds k0 : List Recorded) (e d : Recorded) → Follows c (e ∷ k0) d → Standing c (e ∷ k0) (placed [] ds) → AllByRecursion IsOnTime (placed [] ds) → IsQuietAt c d
      → (now : ℕ) → now ≤ e.time + silence → asks_from c d ≡ false → asks [] (placed [] ds) now d ≡ false
  asks_not ds k0 e d follows (nothing none empty) clear quiet now near off = absurd (cc)
  asks_not ds k0 e d follows (standing kp rest x has) clear quiet now near off = by_test (goes_from c d)
      (λ from. plain_asks (placed [] ds) now d (no_begin c d off from))
      (λ came. elim quiet [
        | inl other ↦
            let lived = live_on c e k0 (placed [] ds) kp rest x now has clear near in
            let to = and_parts (same_endpoint d.source (other_of c d)) (same_endpoint d.target c) (comes_to_it c d came follows.here) in
            came_asks c (placed [] ds) now d other (is_same d.target c to.1)
            (ap (λ l. is_some (latest_in l)) (lived ∙ has.whole) ∙ ap is_some has.latest)
        | inr plain ↦ plain_asks (placed [] ds) now d (plain came)
      ])

  -- one more of it
  pub more_next : (ds k0 : List Recorded) (e d : Recorded) → Follows c (e ∷ k0) d → Standing c (e ∷ k0) (placed [] ds) → AllByRecursion IsOnTime (placed [] ds) → IsQuietAt c d → (goes_from c d ≡ false → line d.source (placed [] ds) ≡ [])
      → (now : ℕ) → now ≤ e.time + silence → Next (e ∷ k0) d (placed [] ds) now (place_of [] (placed [] ds) now d)
  more_next ds k0 e d follows (nothing none empty) clear quiet alone now near = absurd (cc)
  more_next ds k0 e d follows (standing kp rest x has) clear quiet alone now near =
      let lived = live_on c e k0 (placed [] ds) kp rest x now has clear near in
      by_test (asks_from c d)
      (λ is. let (y, next) = request_step c (e ∷ k0) (placed [] ds) kp rest x d now has follows is lived (fresh ds) (line_all (λ q. is_of (length (placed [] ds)) q ≡ false) c (placed [] ds) (fresh ds)) in
      subst (Next (e ∷ k0) d (placed [] ds) now) (ap (place_asked (length (placed [] ds)) d) (sym lived) ∙ sym (request_place c (placed [] ds) now d is (follows.service is))) (kp, rest, y, next))
      (λ off. let (y, client, place, next) = talk_step c (e ∷ k0) (placed [] ds) kp rest x d now has follows off lived in
      let plain : asks [] (placed [] ds) now d ≡ false = asks_not ds k0 e d follows (standing kp rest x has) clear quiet now near off in
      subst (Next (e ∷ k0) d (placed [] ds) now) (sym (talk_place c (placed [] ds) now d y alone plain (λ came. comes_to_it c d came follows.here)
      (ap (λ l. place_at c (other_of c d) l d) lived ∙ place))) (kp, rest, x, next))
