-- Where strays came, the view of a transfer is lawful, or the first that came in it was a stray.
use Rattle.std.proofs.Common.{◌≡◌, ◌⊎◌, ℕ, Bool, true, false, List, [], ◌∷◌, ◌++◌, Some, None, inl, inr, refl, sym, ap, subst, ◌∙◌, ◌&&◌, ◌||◌, not, map, if◌then◌else◌}
use Rattle.std.specs.List.{list_any, AllByRecursion, filter}
use Rattle.std.proofs.lemmas.Bool.{false≢true, or_cases, or_left, or_right, and_from, and_parts}
use Rattle.tftp_packet.specs.{Client}
use Rattle.law_model.specs.Rules.{comes_in, first_of, or_this}
use Rattle.law_end.specs.{OneEnded}
use Rattle.audit_flows.specs.Lines.{Recorded, Placed, same_endpoint, other_of, goes, is_of, is_request}
use Rattle.audit_flows.specs.{Address, Endpoint, Transfer}
use Rattle.audit_flows.specs.Lines.Recording.{is_answer}
use Rattle.audit_flows.proofs.LinesLemmas.Endpoints.{is_same}
use Rattle.audit_flows.proofs.LinesLemmas.Lines.{by_test}
use Rattle.audit_flows.specs.Transfers.{client_view}
use Rattle.audit_spared.proofs.FairLemmas.Thinned.{filter_both, filter_kept, filter_dropped, kept_or_not}
use Rattle.audit_spared.specs.Spared.Seen.{as_seen_by, at_client_of}
use Rattle.audit_spared.specs.Spared.{comes_at, without_strays}
use Rattle.audit_spared.proofs.SparedLemmas.Basics.{all_and, all_first, all_last}
use Rattle.audit_spared.proofs.SparedLemmas.Begun.{first_answers}
use Rattle.audit_spared.proofs.SparedLemmas.Bottoms.{all_same, seen_of, view_lawful}
use Rattle.audit_spared.proofs.SparedLemmas.PutIn.{ArePutIn, IsPutIn, put_in, same_both}
use Rattle.audit_spared.proofs.SparedLemmas.Strays.{AreTold, IsStrayedAt, all_strays, came_other}
use Rattle.audit_spared.proofs.SparedLemmas.Places.{asks_none, from_none}
use Rattle.audit_spared.proofs.SparedLemmas.Repeated.{repeated_passes}
use Rattle.audit_spared.proofs.SparedLemmas.Requests.{all_filter}
use Rattle.audit_spared.proofs.SparedLemmas.Retold.{all_both}
use Rattle.audit_spared.proofs.SparedLemmas.Stands.{Same, Bottom, OthersOf, Asking, Waiting, Misled, Answered, Unanswered, IsKnown, IsNoAnswer, Has, came_from, came_in}
use Rattle.audit_spared.proofs.SparedLemmas.Talks.{filter_told, none_first, own_requests, unanswered_asking}
use Rattle.audit_spared.proofs.SparedLemmas.Views.{goes_seen, part_lawful, payload_seen, same_seen, seen}

-- ---- lists

first_at : (test : Placed → Bool) (newer early : List Placed) (q : Placed) → list_any test early ≡ false → test q ≡ true → first_of test (newer ++ q ∷ early) ≡ Some q
first_at test [] early q none is = ap (λ o. or_this o (test q) q) (none_first test early none) ∙ ap (λ b. or_this None b q) is
first_at test (p ∷ newer) early q none is = ap (λ o. or_this o (test p) p) (first_at test newer early q none is)

-- what passes the one test passes the other
filter_twice : (f g : Placed → Bool) (ps : List Placed) → AllByRecursion (λ q. f q ≡ true → g q ≡ true) ps → filter f ps ≡ filter f (filter g ps)
filter_twice f g [] all = refl
filter_twice f g (q ∷ ps) all = kept_or_not g q
    (λ is. kept_or_not f q
    (λ of. filter_kept f q ps of ∙ ap (λ l. q ∷ l) (filter_twice f g ps all.1) ∙ sym (ap (filter f) (filter_kept g q ps is) ∙ filter_kept f q (filter g ps) of))
    (λ off. filter_dropped f q ps off ∙ filter_twice f g ps all.1 ∙ sym (ap (filter f) (filter_kept g q ps is) ∙ filter_dropped f q (filter g ps) off)))
    (λ gone.
    let off : f q ≡ false = by_test (f q) (λ of. absurd (false≢true (sym gone ∙ all.0 of))) (λ n. n) in
    filter_dropped f q ps off ∙ filter_twice f g ps all.1 ∙ sym (ap (filter f) (filter_dropped g q ps gone)))

map_filter : (test : Recorded → Bool) (ps : List Placed) → map (λ p. p.datagram) (filter (λ q. test q.datagram) ps) ≡ filter test (map (λ p. p.datagram) ps)
map_filter test [] = refl
map_filter test (p ∷ ps) = kept_or_not test p.datagram
    (λ is. ap (map (λ (q : Placed). q.datagram)) (filter_kept (λ q. test q.datagram) p ps is) ∙ ap (λ l. p.datagram ∷ l) (map_filter test ps) ∙ sym (filter_kept test p.datagram (map (λ q. q.datagram) ps) is))
    (λ off. ap (map (λ (q : Placed). q.datagram)) (filter_dropped (λ q. test q.datagram) p ps off) ∙ map_filter test ps ∙ sym (filter_dropped test p.datagram (map (λ q. q.datagram) ps) off))

module _ (write : Address → List ℕ) (write_one : (a b : Address) → write a ≡ write b → a ≡ b) (strays : Recorded → Bool) (c : Endpoint) where
  abbrev keep : Placed → Bool
  keep q = not (strays q.datagram)

  abbrev IsFair : List Placed → Type 0
  IsFair ps = OneEnded (at_client_of 69) (map (seen write c) ps)

  -- the first that came in the view is a stray
  abbrev pub IsLed : List Placed → Type 0
  IsLed view = (q : Placed) × (first_of came_in view ≡ Some q) × (strays q.datagram ≡ true)

  fair_last : (newer early : List Placed) → IsFair (filter keep (newer ++ early)) → IsFair (filter keep early)
  fair_last [] early fair = fair
  fair_last (p ∷ newer) early fair = kept_or_not keep p
      (λ is. let both : IsFair (p ∷ filter keep (newer ++ early)) = subst IsFair (filter_kept keep p (newer ++ early) is) fair in fair_last newer early both.1)
      (λ off. fair_last newer early (subst IsFair (filter_dropped keep p (newer ++ early) off) fair))

  early_last : (newer early : List Placed) → AreTold strays c (map (λ p. p.datagram) (newer ++ early)) → AreTold strays c (map (λ p. p.datagram) early)
  early_last [] early are = are
  early_last (p ∷ newer) early are = early_last newer early are.2

  -- ---- where no answer came, nothing came that is no stray

  came_seen : (ps : List Placed) → list_any comes_in (map (seen write c) ps) ≡ list_any (λ q. comes_at c q.datagram) ps
  came_seen [] = refl
  came_seen (q ∷ ps) = λ i. not (goes_seen write c q.datagram i) || came_seen ps i

  none_came : (ps : List Placed) → IsFair ps → AllByRecursion (IsNoAnswer c) ps → list_any (λ q. comes_at c q.datagram) ps ≡ false
  none_came [] fair silent = refl
  none_came (q ∷ ps) fair silent =
      let none = none_came ps fair.1 silent.1 in
      by_test (comes_at c q.datagram)
      (λ came.
      let off = from_none c q.datagram came in
      let answer : is_answer q.datagram.payload ≡ true = sym (ap is_answer (payload_seen write c q.datagram)) ∙ first_answers 69 (seen write c q) (map (seen write c) ps) fair (ap not (goes_seen write c q.datagram ∙ off)) (came_seen ps ∙ none) in
      absurd (false≢true (sym (silent.0 off) ∙ answer)))
      (λ gone. ap (λ b. b || list_any (λ p. comes_at c p.datagram) ps) gone ∙ none)

  -- from whom a datagram is that is no stray, nothing that came is one
  kept_came : (o : Endpoint) (early : List Placed) → AllByRecursion (λ e. other_of c e ≡ o → strays e ≡ false) (map (λ p. p.datagram) early) → list_any (λ e. came_from c o e.datagram) early ≡ true
      → list_any (λ q. comes_at c q.datagram) (filter keep early) ≡ true
  kept_came o [] apart any = absurd (false≢true any)
  kept_came o (q ∷ early) apart any = elim (or_cases (came_from c o q.datagram) (list_any (λ e. came_from c o e.datagram) early) any) [
    | inl this ↦
        let parts = and_parts (goes o c q.datagram) (comes_at c q.datagram) this in
        let off = from_none c q.datagram parts.1 in
        let other : other_of c q.datagram ≡ o = ap (λ b. if b then q.datagram.target else q.datagram.source) off ∙ is_same q.datagram.source o (and_parts (same_endpoint q.datagram.source o) (same_endpoint q.datagram.target c) parts.0).0 in
        ap (list_any (λ (p : Placed). comes_at c p.datagram)) (filter_kept keep q early (ap not (apart.0 other)))
        ∙ or_left (comes_at c q.datagram) (list_any (λ p. comes_at c p.datagram) (filter keep early)) parts.1
    | inr later ↦ kept_or_not keep q
        (λ is. ap (list_any (λ (p : Placed). comes_at c p.datagram)) (filter_kept keep q early is) ∙ or_right (comes_at c q.datagram) (list_any (λ p. comes_at c p.datagram) (filter keep early)) (kept_came o early apart.1 later))
        (λ gone. ap (list_any (λ (p : Placed). comes_at c p.datagram)) (filter_dropped keep q early gone) ∙ kept_came o early apart.1 later)
  ]

  -- ---- a capture as it was placed

  module _ (k : List Recorded) (older kp rest : List Placed) (x : Transfer) (has : Has c k older kp rest x) (s : IsStrayedAt write strays c k) where
    are_early : AreTold strays c (map (λ p. p.datagram) kp)
    are_early = subst (AreTold strays c) (sym has.are) s.apart

    kept_fair : IsFair (filter keep kp)
    kept_fair = seen_of (at_client_of 69) (as_seen_by write c) (same_seen write c) (filter keep kp) (without_strays strays k)
        (map_filter (λ d. not (strays d)) kp ∙ ap (without_strays strays) has.are) s.passes

    -- what was only asked for
    alone : (r : Recorded) (n : ℕ) (ps : List Placed) → Bottom r n ps → AreTold strays c (map (λ p. p.datagram) ps) → IsFair (filter keep ps) → OneEnded (at_client_of 69) (as_seen_by write c r ∷ [])
    alone r n [] bottom are fair = absurd bottom
    alone r n (q ∷ []) bottom are fair = by_test (strays q.datagram)
        (λ is. absurd ((are.0 is).behind refl))
        (λ off. subst (λ e. OneEnded (at_client_of 69) (e ∷ [])) (same_seen write c q.datagram r bottom.2) (subst IsFair (filter_kept keep q [] (ap not off)) fair))
    alone r n (q ∷ p ∷ ps) bottom are fair = alone r n (p ∷ ps) bottom are.2 (fair_last (q ∷ []) (p ∷ ps) fair)

    pub unanswered_fair : Unanswered c older kp rest x → IsFair (client_view x.number older)
    unanswered_fair u = all_same (at_client_of 69) (as_seen_by write c) (same_seen write c) (repeated_passes Client 69) u.asked.r (client_view x.number older)
        (subst (AllByRecursion (λ q. (is_request q ≡ true) × Same q.datagram u.asked.r)) (sym u.asked.view)
        (all_and (λ q. (is_request q ≡ true) × Same q.datagram u.asked.r) (filter (is_of x.number) kp) u.asked.before
        (filter_told (λ q. (is_request q ≡ true) × Same q.datagram u.asked.r) (is_of x.number) kp own) u.asked.repeated))
        (alone u.asked.r x.number kp u.bottom are_early kept_fair)
      where
        own : AllByRecursion (λ q. is_of x.number q ≡ true → (is_request q ≡ true) × Same q.datagram u.asked.r) kp
        own = all_both (λ q. is_of x.number q ≡ true → is_request q ≡ true) (λ q. is_request q ≡ true → (is_of x.number q ≡ true) × Same q.datagram u.asked.r) (λ q. is_of x.number q ≡ true → (is_request q ≡ true) × Same q.datagram u.asked.r)
            (λ q asks_it same of. (asks_it of, (same (asks_it of)).1)) kp (own_requests x.number kp (all_first (OthersOf x.number) kp rest u.others)) u.requests

    pub misled_led : Misled c k older kp rest x → IsLed (client_view x.number older)
    misled_led a = (a.opened.opener, a.opened.view, by_test (strays a.opened.opener.datagram) (λ is. is) (λ kept. absurd (false≢true (sym (none kept) ∙ some kept)))) where
      o : Endpoint
      o = other_of c a.opened.opener.datagram

      here : AreTold strays c (map (λ p. p.datagram) (a.opened.opener ∷ a.opened.early))
      here = early_last a.opened.newer (a.opened.opener ∷ a.opened.early) (subst (λ l. AreTold strays c (map (λ (p : Placed). p.datagram) l)) a.opened.split are_early)

      some : strays a.opened.opener.datagram ≡ false → list_any (λ q. comes_at c q.datagram) (filter keep a.opened.early) ≡ true
      some kept = kept_came o a.opened.early
          (all_both (λ e. other_of c e ≡ o → strays e ≡ strays a.opened.opener.datagram) (λ e. other_of c e ≡ o → strays e ≡ strays a.opened.opener.datagram) (λ e. other_of c e ≡ o → strays e ≡ false)
          (λ e same twice other. same other ∙ kept) (map (λ p. p.datagram) a.opened.early) here.1 here.1) a.heard

      none : strays a.opened.opener.datagram ≡ false → list_any (λ q. comes_at c q.datagram) (filter keep a.opened.early) ≡ false
      none kept =
          let left = fair_last a.opened.newer (a.opened.opener ∷ a.opened.early) (subst (λ l. IsFair (filter keep l)) a.opened.split kept_fair) in
          let both : IsFair (a.opened.opener ∷ filter keep a.opened.early) = subst IsFair (filter_kept keep a.opened.opener a.opened.early (ap not kept)) left in
          none_came (filter keep a.opened.early) both.1 (all_filter (IsNoAnswer c) keep a.opened.early a.opened.silent)

    module _ (a : Answered c k older kp rest x) (kept : strays a.opened.opener.datagram ≡ false) where
      abbrev opener : Placed
      opener = a.opened.opener

      abbrev mine : Placed → Bool
      mine = is_of x.number

      abbrev both : Placed → Bool
      both q = keep q || mine q

      -- a stray that is of the transfer
      abbrev put : Placed → Bool
      put q = not (keep q) && mine q

      abbrev IsTold : Placed → Type 0
      IsTold q = is_request q ≡ false → is_of x.number q ≡ a.talked (other_of c q.datagram)

      split_of : (P : Placed → Type 0) → AllByRecursion P kp → AllByRecursion P (a.opened.newer ++ opener ∷ a.opened.early)
      split_of P all = subst (AllByRecursion P) a.opened.split all

      part_of : (P : Placed → Type 0) → AllByRecursion P kp → AllByRecursion P (opener ∷ a.opened.early)
      part_of P all = all_last P a.opened.newer (opener ∷ a.opened.early) (split_of P all)

      -- a stray is no request
      plain_stray : (ps : List Placed) → AllByRecursion (IsKnown c) ps → AreTold strays c (map (λ p. p.datagram) ps) → AllByRecursion (λ q. strays q.datagram ≡ true → is_request q ≡ false) ps
      plain_stray [] known are = tt
      plain_stray (q ∷ ps) known are = ((λ is. known.0.kind ∙ ((all_strays strays c (map (λ p. p.datagram) (q ∷ ps)) are).0 is).0), plain_stray ps known.1 are.2)

      all_plain : AllByRecursion (λ q. strays q.datagram ≡ true → is_request q ≡ false) kp
      all_plain = plain_stray kp has.known are_early

      -- before the first that came no stray is of the transfer
      clear : AllByRecursion (λ q. put q ≡ false) a.opened.early
      clear = all_both (OthersOf x.number) (λ q. strays q.datagram ≡ true → is_request q ≡ false) (λ q. put q ≡ false)
          (λ q others plain. by_test (strays q.datagram)
          (λ is. ap (λ b. not (not (strays q.datagram)) && b) (others (plain is)) ∙ and_off (not (not (strays q.datagram))))
          (λ off. ap (λ b. not (not b) && mine q) off))
          a.opened.early a.opened.others (part_of (λ q. strays q.datagram ≡ true → is_request q ≡ false) all_plain).1
        where
          and_off : (b : Bool) → (b && false) ≡ false
          and_off true = refl
          and_off false = refl

      -- from where one came, another of the transfer did
      there_too : (d : Recorded) (o : Endpoint) → other_of c d ≡ o → strays d ≡ true → a.talked o ≡ true → (ps : List Placed) → AllByRecursion (IsKnown c) ps → AllByRecursion IsTold ps
          → AllByRecursion (λ e. other_of c e ≡ other_of c d → strays e ≡ strays d) (map (λ p. p.datagram) ps) → list_any (came_from c o) (map (λ p. p.datagram) ps) ≡ true
          → list_any (λ e. put e && came_from c o e.datagram) ps ≡ true
      there_too d o there is talked [] known told same any = absurd (false≢true any)
      there_too d o there is talked (q ∷ ps) known told same any = elim (or_cases (came_from c o q.datagram) (list_any (came_from c o) (map (λ p. p.datagram) ps)) any) [
        | inl this ↦
            let other : other_of c q.datagram ≡ o = came_other strays c o q.datagram this in
            let stray : strays q.datagram ≡ true = same.0 (other ∙ sym there) ∙ is in
            let plain : is_request q ≡ false = known.0.kind ∙ asks_none c q.datagram (from_none c q.datagram (and_parts (goes o c q.datagram) (comes_at c q.datagram) this).1) in
            let of : mine q ≡ true = told.0 plain ∙ ap a.talked other ∙ talked in
            or_left (put q && came_from c o q.datagram) (list_any (λ e. put e && came_from c o e.datagram) ps)
            (and_from (put q) (came_from c o q.datagram) (and_from (not (keep q)) (mine q) (ap (λ b. not (not b)) stray) of) this)
        | inr later ↦ or_right (put q && came_from c o q.datagram) (list_any (λ e. put e && came_from c o e.datagram) ps)
            (there_too d o there is talked ps known.1 told.1 same.1 later)
      ]

      -- one of all
      at_opener : (P : Recorded → Type 0) (newer : List Placed) → AllByRecursion P (map (λ p. p.datagram) (newer ++ opener ∷ a.opened.early)) → P opener.datagram
      at_opener P [] all = all.0
      at_opener P (p ∷ newer) all = at_opener P newer all.1

      put_all : (newer : List Placed) → AllByRecursion (IsKnown c) (newer ++ opener ∷ a.opened.early) → AllByRecursion IsTold (newer ++ opener ∷ a.opened.early)
          → AreTold strays c (map (λ p. p.datagram) (newer ++ opener ∷ a.opened.early)) → ArePutIn write write_one c keep mine opener a.opened.early newer
      put_all [] known told are = tt
      put_all (q ∷ newer) known told are = (one, put_all newer known.1 told.1 are.2) where
        stray_of : put q ≡ true → strays q.datagram ≡ true
        stray_of is_it = by_test (strays q.datagram) (λ is. is) (λ off. absurd (false≢true (sym (ap (λ b. not (not b)) off) ∙ (and_parts (not (keep q)) (mine q) is_it).0)))

        one : put q ≡ true → IsPutIn write write_one c keep mine opener a.opened.early (newer ++ opener ∷ a.opened.early) q
        one is_it =
            let is = stray_of is_it in
            let of : mine q ≡ true = (and_parts (not (keep q)) (mine q) is_it).1 in
            let said = are.0 is in
            let plain : is_request q ≡ false = known.0.kind ∙ ((all_strays strays c (map (λ p. p.datagram) (q ∷ newer ++ opener ∷ a.opened.early)) are).0 is).0 in
            record {
              here = known.0.here;
              apart = λ off same. false≢true (sym kept ∙ at_opener (λ e. other_of c e ≡ other_of c q.datagram → strays e ≡ strays q.datagram) newer are.1 (sym same) ∙ is);
              there = λ from. there_too q.datagram (other_of c q.datagram) refl is (sym (told.0 plain) ∙ of) (newer ++ opener ∷ a.opened.early) known.1 told.1 are.1
                  (subst (λ e. list_any (came_from c e) (map (λ p. p.datagram) (newer ++ opener ∷ a.opened.early)) ≡ true) (sym (ap (λ b. if b then q.datagram.target else q.datagram.source) from)) ((said.told from).1));
              says = λ from. (said.told from).0;
            }

      split_fair : IsFair (filter keep (a.opened.newer ++ opener ∷ a.opened.early))
      split_fair = subst (λ l. IsFair (filter keep l)) a.opened.split kept_fair

      early_none : list_any (λ q. comes_at c q.datagram) (filter keep a.opened.early) ≡ false
      early_none =
          let left : IsFair (opener ∷ filter keep a.opened.early) = subst IsFair (filter_kept keep opener a.opened.early (ap not kept)) (fair_last a.opened.newer (opener ∷ a.opened.early) split_fair) in
          none_came (filter keep a.opened.early) left.1 (all_filter (IsNoAnswer c) keep a.opened.early a.opened.silent)

      both_fair : IsFair (filter both kp)
      both_fair = subst (λ l. IsFair (filter both l)) (sym a.opened.split)
          (put_in write write_one c keep mine opener a.opened.early (ap not kept) a.opened.from (part_of (IsKnown c) has.known).0.here early_none clear a.opened.newer
          (put_all a.opened.newer (split_of (IsKnown c) has.known) (split_of IsTold a.talks) (subst (λ l. AreTold strays c (map (λ (p : Placed). p.datagram) l)) a.opened.split are_early)) split_fair)

      -- the first that came is the transfer's
      first_both : (q : Placed) → first_of (λ p. comes_at c p.datagram) (filter both kp) ≡ Some q → a.talked (other_of c q.datagram) ≡ true
      first_both q found =
          let split : filter both kp ≡ filter both a.opened.newer ++ opener ∷ filter both a.opened.early = ap (filter both) a.opened.split ∙ filter_both both a.opened.newer (opener ∷ a.opened.early)
          ∙ ap (λ l. filter both a.opened.newer ++ l) (filter_kept both opener a.opened.early (or_left (keep opener) (mine opener) (ap not kept))) in
          let none : list_any (λ p. comes_at c p.datagram) (filter both a.opened.early) ≡ false = ap (list_any (λ (p : Placed). comes_at c p.datagram)) (same_both write write_one c keep mine opener a.opened.early a.opened.early clear) ∙ early_none in
          let first : first_of (λ p. comes_at c p.datagram) (filter both kp) ≡ Some opener = ap (first_of (λ (p : Placed). comes_at c p.datagram)) split
          ∙ first_at (λ p. comes_at c p.datagram) (filter both a.opened.newer) (filter both a.opened.early) opener none (ap not a.opened.from) in
          let same : Some opener ≡ Some q = sym first ∙ found in
          let this : opener ≡ q = cc in
          ap (λ (p : Placed). a.talked (other_of c p.datagram)) (sym this) ∙ ap a.talked a.first ∙ a.is_talked

      kept_answered_fair : IsFair (client_view x.number older)
      kept_answered_fair =
          let part = part_lawful write c write_one x.number (filter both kp) a.talked
          (all_filter (λ q. is_request q ≡ true → is_of x.number q ≡ true) both kp a.requests)
          (all_filter IsTold both kp a.talks)
          first_both (all_filter (IsKnown c) both kp has.known) both_fair in
          view_lawful (at_client_of 69) (as_seen_by write c) (same_seen write c) (repeated_passes Client 69) older kp x.number a.asked a.bottom
          (subst IsFair (sym (filter_twice mine both kp (every kp))) part)
        where
          every : (ps : List Placed) → AllByRecursion (λ q. mine q ≡ true → both q ≡ true) ps
          every [] = tt
          every (q ∷ ps) = ((λ of. or_right (keep q) (mine q) of), every ps)

    pub answered_good : Answered c k older kp rest x → IsFair (client_view x.number older) ⊎ IsLed (client_view x.number older)
    answered_good a = by_test (strays a.opened.opener.datagram)
        (λ is. inr (a.opened.opener, a.opened.view, is))
        (λ kept. inl (kept_answered_fair a kept))

    pub asking_fair : Asking c k older kp rest x → IsFair (client_view x.number older)
    asking_fair a = unanswered_fair (unanswered_asking c k older kp rest x has a)

    pub waiting_fair : Waiting c k older kp rest x → IsFair (client_view x.number older)
    waiting_fair a = unanswered_fair a.core
