-- What is kept of each transfer of a client's, while its captures follow one another.
use Rattle.std.proofs.Common.{◌≡◌, ◌≢◌, ◌⊎◌, inl, inr, ◌<◌, ◌≤◌, ℕ, ◌+◌, Bool, map, true, false, List, [], ◌∷◌, ◌++◌, refl, sym, ap, subst, ◌∙◌, max, filter, append_assoc, if◌then◌else◌}
use Rattle.std.specs.List.{AllByRecursion}
use Rattle.std.proofs.lemmas.Bool.{false≢true}
use Rattle.audit_flows.specs.Lines.{Recorded, Placed, begins_request, is_of, is_at, live, line, clock, silence}
use Rattle.audit_flows.specs.{Endpoint, Place, Transfer}
use Rattle.audit_flows.specs.Transfers.{asks, placed, place_of}
use Rattle.audit_spared.specs.Spared.Seen.{is_with}
use Rattle.audit_flows.proofs.LinesLemmas.Lines.{by_test}
use Rattle.audit_spared.proofs.FairLemmas.Thinned.{filter_kept, filter_dropped, kept_or_not}
use Rattle.audit_spared.specs.Spared.{AreCaptures, AreInOrder, IsNext, begins, goes_on, goes_from}
use Rattle.audit_spared.proofs.SparedLemmas.Stands.{new, Has}
use Rattle.audit_spared.proofs.SparedLemmas.Owned.{AreOwn, latest_below, line_below}
use Rattle.audit_spared.proofs.SparedLemmas.Recordings.{IsQuiet, quiet_at, Standing, nothing, standing, clock_now, first_next, live_off, more_next, on_time, order_rest, plain_asks}
use Rattle.audit_spared.proofs.SparedLemmas.Clients.{AreAtClients, all_own, alone, at_lived, has_other, not_at, not_of, own}

-- ---- what passes aside

-- It says no request, and nothing else passed at the client in the last 300 s.
pub record IsLone (busy : Recorded → Bool) (before : List Recorded) (d : Recorded) : Type 0 where
  pub plain : begins_request d.payload ≡ false
  pub alone : AllByRecursion (λ e. busy e ≡ true → e.time + silence < d.time) before

-- what passes at a client aside is so
abbrev pub AreAside : Endpoint → (Recorded → Bool) → List Recorded → Type 0
AreAside c busy [] = Unit {0}
AreAside c busy (d ∷ ds) = (busy d ≡ false → (is_with c d ≡ false) ⊎ IsLone busy ds d) × AreAside c busy ds

none_empty : (kp : List Placed) → kp ≢ [] → map (λ p. p.datagram) kp ≡ [] → ⊥
none_empty [] some are = some refl
none_empty (q ∷ kp) some are = absurd (cc)

pub told_filter : (P : Recorded → Type 0) (test : Recorded → Bool) (ds : List Recorded) → AllByRecursion (λ d. test d ≡ true → P d) ds → AllByRecursion P (filter test ds)
told_filter P test [] all = tt
told_filter P test (d ∷ ds) all = kept_or_not test d
    (λ is. subst (AllByRecursion P) (sym (filter_kept test d ds is)) (all.0 is, told_filter P test ds all.1))
    (λ off. subst (AllByRecursion P) (sym (filter_dropped test d ds off)) (told_filter P test ds all.1))

module _ (lawful : List Recorded → Type 0) (c : Endpoint) (busy : Recorded → Bool) where
  abbrev pub moment : Recorded → List Recorded → ℕ
  moment d ds = max d.time (clock (placed [] ds))

  abbrev pub top : Recorded → List Recorded → Placed
  top d ds = new d (moment d ds) (place_of [] (placed [] ds) (moment d ds) d)

  -- what is at the client, of a recording, but what passes aside
  abbrev pub At : List Recorded → List Recorded → Type 0
  At ds k = AreCaptures lawful c (filter busy ds) k

  pub at_here : (d : Recorded) (ds k : List Recorded) → busy d ≡ true → At (d ∷ ds) k → IsNext lawful c (At ds) d k
  at_here d ds k is captures = subst (λ l. AreCaptures lawful c l k) (filter_kept busy d ds is) captures

  at_elsewhere : (d : Recorded) (ds k : List Recorded) → busy d ≡ false → At (d ∷ ds) k → At ds k
  at_elsewhere d ds k off captures = subst (λ l. AreCaptures lawful c l k) (filter_dropped busy d ds off) captures

  module _ (Here : Endpoint → Type 0) (whole : List Recorded) where
    -- what comes to the client comes from none of this kind
    abbrev pub ComesFromElsewhere : List Recorded → Type 0
    ComesFromElsewhere ds = AllByRecursion (λ d. is_with c d ≡ true → goes_from c d ≡ false → Here d.source → ⊥) ds

    pub record IsGiven (ds : List Recorded) : Type 0 where
      pub busy_with : (d : Recorded) → busy d ≡ true → is_with c d ≡ true
      pub asides : AreAside c busy ds
      pub order : AreInOrder ds
      pub quiet : IsQuiet lawful c
      pub elsewhere : ComesFromElsewhere ds
      pub newer : List Recorded
      pub is : whole ≡ newer ++ ds

    given_rest : (d : Recorded) (ds : List Recorded) → IsGiven (d ∷ ds) → IsGiven ds
    given_rest d ds g = record { busy_with = g.busy_with; asides = g.asides.1; order = order_rest d ds g.order; quiet = g.quiet; elsewhere = g.elsewhere.1; newer = g.newer ++ d ∷ []; is = g.is ∙ sym (append_assoc g.newer (d ∷ []) ds) }

    -- what stands of the recording before
    pub record Before (ds : List Recorded) : Type 0 where
      pub at : AreAtClients Here (placed [] ds)
      pub stood : (k : List Recorded) → At ds k → Standing c k (placed [] ds)

    no_other : (d : Recorded) (ds : List Recorded) → IsGiven (d ∷ ds) → Before ds → is_with c d ≡ true → goes_from c d ≡ false → line d.source (placed [] ds) ≡ []
    no_other d ds g b with off = alone Here d.source (placed [] ds) b.at (g.elsewhere.0 with off)

    pub next_has : (d : Recorded) (ds k : List Recorded) → IsGiven (d ∷ ds) → is_with c d ≡ true → Before ds → IsNext lawful c (At ds) d k
        → (kp rest : List Placed) × (x : Transfer) × Has c k (placed [] (d ∷ ds)) (top d ds ∷ kp) rest x
    next_has d ds k g with b (begins k0 before follows good is) =
        let (kp, rest, x, has) = first_next lawful c ds k0 d follows (b.stood k0 before) (moment d ds) in
        (kp, rest, x, subst (λ l. Has c l (placed [] (d ∷ ds)) (top d ds ∷ kp) rest x) (sym is) has)
    next_has d ds k g with b (goes_on e k0 before follows near good is) =
        let (kp, rest, x, has) = more_next lawful c ds k0 e d follows (b.stood (e ∷ k0) before) (on_time ds (order_rest d ds g.order)) (quiet_at lawful c g.quiet d (e ∷ k0) good) (no_other d ds g b with) (moment d ds)
        (subst (λ t. t ≤ e.time + silence) (sym (clock_now d ds g.order)) near) in
        (kp, rest, x, subst (λ l. Has c l (placed [] (d ∷ ds)) (top d ds ∷ kp) rest x) (sym is) has)

    -- the newest of the captures is the newest of what they have
    newest_of_them : (P : Recorded → Type 0) (ps : List Recorded) (e : Recorded) (k : List Recorded) → AllByRecursion P ps → AreCaptures lawful c ps (e ∷ k) → P e
    newest_of_them P [] e k all captures = absurd (cc)
    newest_of_them P (d ∷ ps) e k all (begins k0 before follows good is) = let this : e ≡ d = cc in subst P (sym this) all.0
    newest_of_them P (d ∷ ps) e k all (goes_on r k0 before follows near good is) = let this : e ≡ d = cc in subst P (sym this) all.0

    -- what passes aside is not at the client
    away : (d : Recorded) (ds k : List Recorded) → IsGiven (d ∷ ds) → busy d ≡ false → At ds k → Standing c k (placed [] ds) → is_at c (top d ds) ≡ false
    away d ds k g off captures stands = elim (g.asides.0 off) [
      | inl out ↦ not_at (placed [] ds) (moment d ds) d c out
      | inr lone ↦ by_test (is_at c (top d ds)) (λ is. absurd (none lone (at_lived (placed [] ds) (moment d ds) d c is))) (λ none_there. none_there)
    ] where
      silent : (k : List Recorded) → AllByRecursion (λ e. e.time + silence < d.time) (filter busy ds) → At ds k → Standing c k (placed [] ds) → live (moment d ds) (line c (placed [] ds)) ≡ []
      silent k all at (nothing none empty) = ap (live (moment d ds)) none
      silent [] all at (standing kp rest x has) = absurd (none_empty kp has.some has.are)
      silent (e ∷ k) all at (standing kp rest x has) = live_off c e k (placed [] ds) kp rest x (moment d ds) has (on_time ds (order_rest d ds g.order))
          (subst (λ t. e.time + silence < t) (sym (clock_now d ds g.order)) (newest_of_them (λ r. r.time + silence < d.time) (filter busy ds) e k all at))

      none : IsLone busy ds d → (asks [] (placed [] ds) (moment d ds) d ≡ true) ⊎ (live (moment d ds) (line c (placed [] ds)) ≢ []) → ⊥
      none lone is = elim is [
        | inl says ↦ false≢true (sym (plain_asks (placed [] ds) (moment d ds) d lone.plain) ∙ says)
        | inr some ↦ some (silent k (told_filter (λ e. e.time + silence < d.time) busy ds lone.alone) captures stands)
      ]

    -- the datagram of another's changes nothing here
    pub other_not : (x : Transfer) (d : Recorded) (ds : List Recorded) → IsGiven (d ∷ ds) → is_at c (top d ds) ≡ false → own whole x → x.client ≡ c → is_of x.number (top d ds) ≡ false
    other_not x d ds g off of is_client = not_of whole x d (moment d ds) (place_of [] (placed [] ds) (moment d ds) d) of (all_own whole g.newer (d ∷ ds) g.is).0
        (ap (λ e. is_at e (top d ds)) is_client ∙ off)

    standing_other : (d : Recorded) (ds k : List Recorded) → IsGiven (d ∷ ds) → is_at c (top d ds) ≡ false → Standing c k (placed [] ds) → Standing c k (placed [] (d ∷ ds))
    standing_other d ds k g off (nothing none empty) =
        nothing (ap (λ b. if b then top d ds ∷ live (moment d ds) (line c (placed [] ds)) else line c (placed [] ds)) off ∙ none) empty
    standing_other d ds k g off (standing kp rest x has) =
        let owned : AreOwn (own whole) (kp ++ rest) = subst (AreOwn (own whole)) has.whole (line_below (own whole) c (placed [] ds) (all_own whole g.newer (d ∷ ds) g.is).1) in
        let of : own whole x = latest_below (own whole) (kp ++ rest) x owned has.latest in
        standing kp rest x (has_other c k (placed [] ds) kp rest x (top d ds) off (other_not x d ds g off of has.client) has)

    pub step : (d : Recorded) (ds k : List Recorded) → IsGiven (d ∷ ds) → Before ds → At (d ∷ ds) k → Standing c k (placed [] (d ∷ ds))
    step d ds k g b captures = by_test (busy d)
        (λ is.
        let (kp, rest, x, has) = next_has d ds k g (g.busy_with d is) b (at_here d ds k is captures) in
        standing (top d ds ∷ kp) rest x has)
        (λ off.
        let before = at_elsewhere d ds k off captures in
        standing_other d ds k g (away d ds k g off before (b.stood k before)) (b.stood k before))

    pub next_lawful : (d : Recorded) (ds k : List Recorded) → IsNext lawful c (At ds) d k → lawful k
    next_lawful d ds k (begins k0 before follows good is) = subst lawful (sym is) good
    next_lawful d ds k (goes_on e k0 before follows near good is) = subst lawful (sym is) good

    next_before : (d : Recorded) (ds k : List Recorded) → IsNext lawful c (At ds) d k → (k0 : List Recorded) × At ds k0
    next_before d ds k (begins k0 before follows good is) = (k0, before)
    next_before d ds k (goes_on e k0 before follows near good is) = (e ∷ k0, before)

    pub at_before : (d : Recorded) (ds k : List Recorded) → At (d ∷ ds) k → (k0 : List Recorded) × At ds k0
    at_before d ds k captures = by_test (busy d)
        (λ is. next_before d ds k (at_here d ds k is captures))
        (λ off. (k, at_elsewhere d ds k off captures))

    abbrev pub AllBefore : List Recorded → Type 0
    AllBefore [] = Unit {0}
    AllBefore (d ∷ ds) = Before ds × AllBefore ds

    -- ---- what each datagram of a transfer keeps, and others too

    module _ (Kept : ℕ → List Placed → Type 0) (none : (n : ℕ) → Kept n [])
        (other : (n : ℕ) (p : Placed) (older : List Placed) → is_of n p ≡ false → Kept n older → Kept n (p ∷ older))
        (one : (n : ℕ) (k : List Recorded) (older kp rest : List Placed) (x : Transfer) (d : Recorded) (now : ℕ) (place : Place)
        → is_with c d ≡ true → place ≡ place_of [] older now d → Has c k (new d now place ∷ older) (new d now place ∷ kp) rest x → lawful k → is_of n (new d now place) ≡ true → Kept n older → Kept n (new d now place ∷ older)) where
      pub all_kept : (x : Transfer) → own whole x → x.client ≡ c → (ds k : List Recorded) → IsGiven ds → AllBefore ds → At ds k → Kept x.number (placed [] ds)
      all_kept x of is_client [] k g b captures = none x.number
      all_kept x of is_client (d ∷ ds) k g b captures =
          let (k0, before) = at_before d ds k captures in
          let kept = all_kept x of is_client ds k0 (given_rest d ds g) b.1 before in
          by_test (is_of x.number (top d ds))
          (λ this. by_test (busy d)
          (λ is.
          let next = at_here d ds k is captures in
          let (kp, rest, y, has) = next_has d ds k g (g.busy_with d is) b.0 next in
          one x.number k (placed [] ds) kp rest y d (moment d ds) (place_of [] (placed [] ds) (moment d ds) d) (g.busy_with d is) refl has (next_lawful d ds k next) this kept)
          (λ off. absurd (false≢true (sym (other_not x d ds g (away d ds k0 g off before (b.0.stood k0 before)) of is_client) ∙ this))))
          (λ off. other x.number (top d ds) (placed [] ds) off kept)

      pub kept_at : (x : Transfer) → own whole x → x.client ≡ c → (ds k : List Recorded) → IsGiven ds → AllBefore ds → At ds k → (newer older : List Placed) (p : Placed) → placed [] ds ≡ newer ++ p ∷ older → Kept x.number (p ∷ older)
      kept_at x of is_client [] k g b captures [] older p are = absurd (cc)
      kept_at x of is_client [] k g b captures (q ∷ newer) older p are = absurd (cc)
      kept_at x of is_client (d ∷ ds) k g b captures [] older p are = subst (Kept x.number) are (all_kept x of is_client (d ∷ ds) k g b captures)
      kept_at x of is_client (d ∷ ds) k g b captures (q ∷ newer) older p are =
          let (k0, before) = at_before d ds k captures in
          let later : placed [] ds ≡ newer ++ p ∷ older = cc in
          kept_at x of is_client ds k0 (given_rest d ds g) b.1 before newer older p later
