-- What is held of the datagrams of a view, with one more, and the one of a number among them. Lists of frames have the newest
-- first, what is held has the oldest first.
use Rattle.std.proofs.Common.{◌≡◌, ◌⊎◌, ◌≤◌, ◌<◌, ◌+◌, ◌-◌, ℕ, suc, zero, drop, get_or, Bool, true, false, cond, List, [], ◌∷◌, ◌++◌, append_assoc, append-nil, arith, filter, inl, inr, length, map, reverse, Option, Some, None, option_map, refl, sym, ap, subst, ◌∙◌}
use Rattle.std.specs.List.{slice_get}
use Rattle.std.proofs.lemmas.List.{drop_more, length-reverse, map-append, reverse-append}
use Rattle.std.proofs.lemmas.List.Elements.{filter-append, filter_agree}
use Rattle.law_end.specs.{Rule}
use Rattle.tftp_packet.specs.{Rollover}
use Rattle.audit_flows.specs.Lines.{Placed, Recorded}
use Rattle.audit_flows.specs.{Place, Transfer}
use Rattle.audit_flows.specs.declared.lines.place.Place.TheVariants.{Opens, Repeats, Talks, Apart, Beside, Nowhere}
use Rattle.audit_flows.specs.Transfers.{is_about}
use Rattle.audit_flows.proofs.LinesLemmas.Lines.{by_test}
use Rattle.audit_flows.proofs.TransfersLemmas.OwnDatagrams.{about_none, seen_none}
use Rattle.audit_recording.specs.declared.blame.blame.Blamed.{Blamed}
use Rattle.audit_recording.specs.declared.blame.facts.Found.{Found}
use Rattle.audit_recording.specs.declared.blame.facts.ViewFacts.{ViewFacts}
use Rattle.audit_recording.specs.declared.blame.passed.Passed.{Passed}
use Rattle.audit_recording.specs.declared.rows.row.Point.{Point}
use Rattle.audit_recording.specs.declared.rows.row.Point.TheVariants as point
use Rattle.audit_recording.specs.Blame.Facts.{IsRefusedAt, blamed_of}
use Rattle.audit_recording.specs.Blame.Frames.{Framed, is_seen, numbered, seen_of}
use Rattle.audit_recording.specs.Blame.Kept.{Accepts, AreFactsOf, HoldsBy, IsFixed, IsFound, IsHeld, IsHeldBy, IsOpen, Refuses, blamed_in, is_about_it, passed_of, placed_by}
use Rattle.audit_recording.proofs.BlameLemmas.Telling.{from_1}

-- ---- lists

module _ {X Y : Type 0} (f : X → Y) where
  get_map : (xs : List X) (k : ℕ) → slice_get (map f xs) k ≡ option_map f (slice_get xs k)
  get_map [] k = refl
  get_map (x ∷ xs) zero = refl
  get_map (x ∷ xs) (suc k) = get_map xs k

  pub filter_map : (test : Y → Bool) (xs : List X) → filter test (map f xs) ≡ map f (filter (λ x. test (f x)) xs)
  filter_map test [] = refl
  filter_map test (x ∷ xs) = by_test (test (f x))
      (λ is. ap (λ b. cond b (f x ∷ filter test (map f xs)) (filter test (map f xs))) is ∙ ap (λ l. f x ∷ l) (filter_map test xs)
      ∙ ap (map f) (ap (λ b. cond b (x ∷ filter (λ y. test (f y)) xs) (filter (λ y. test (f y)) xs)) (sym is)))
      (λ off. ap (λ b. cond b (f x ∷ filter test (map f xs)) (filter test (map f xs))) off ∙ filter_map test xs
      ∙ ap (map f) (ap (λ b. cond b (x ∷ filter (λ y. test (f y)) xs) (filter (λ y. test (f y)) xs)) (sym off)))

  pub count_map : (test : Y → Bool) (xs : List X) → length (filter test (map f xs)) ≡ length (filter (λ x. test (f x)) xs)
  count_map test [] = refl
  count_map test (x ∷ xs) = by_test (test (f x))
      (λ is. ap (λ b. length (cond b (f x ∷ filter test (map f xs)) (filter test (map f xs)))) is ∙ ap suc (count_map test xs)
      ∙ ap (λ b. length (cond b (x ∷ filter (λ y. test (f y)) xs) (filter (λ y. test (f y)) xs))) (sym is))
      (λ off. ap (λ b. length (cond b (f x ∷ filter test (map f xs)) (filter test (map f xs)))) off ∙ count_map test xs
      ∙ ap (λ b. length (cond b (x ∷ filter (λ y. test (f y)) xs) (filter (λ y. test (f y)) xs))) (sym off))

module _ {X : Type 0} where
  get_after : (early late : List X) (k : ℕ) → slice_get (early ++ late) (length early + k) ≡ slice_get late k
  get_after [] late k = ap (slice_get late) (omega arith)
  get_after (x ∷ early) late k = ap (slice_get (x ∷ (early ++ late))) (let up : suc (length early) + k ≡ suc (length early + k) = omega arith in up) ∙ get_after early late k

  get_more : {Y : Type 0} (f : X → Y) (xs ys : List X) (k : ℕ) (y : Y) → option_map f (slice_get xs k) ≡ Some y → option_map f (slice_get (xs ++ ys) k) ≡ Some y
  get_more f [] ys k y is = absurd (cc)
  get_more f (x ∷ xs) ys zero y is = is
  get_more f (x ∷ xs) ys (suc k) y is = get_more f xs ys k y is

  pub filter_one : (test : X → Bool) (x : X) (xs : List X) → test x ≡ true → filter test (x ∷ xs) ≡ x ∷ filter test xs
  filter_one test x xs is = ap (λ b. cond b (x ∷ filter test xs) (filter test xs)) is

  pub filter_none : (test : X → Bool) (x : X) (xs : List X) → test x ≡ false → filter test (x ∷ xs) ≡ filter test xs
  filter_none test x xs off = ap (λ b. cond b (x ∷ filter test xs) (filter test xs)) off

  reverse_one : (x : X) (xs : List X) → reverse (x ∷ xs) ≡ reverse xs ++ x ∷ []
  reverse_one x xs = reverse-append (x ∷ []) xs

  filter_reverse : (test : X → Bool) (xs : List X) → filter test (reverse xs) ≡ reverse (filter test xs)
  filter_reverse test [] = refl
  filter_reverse test (x ∷ xs) = by_test (test x)
      (λ is. ap (filter test) (reverse_one x xs) ∙ filter-append test (reverse xs) (x ∷ []) ∙ ap (λ l. l ++ filter test (x ∷ [])) (filter_reverse test xs)
      ∙ ap (λ l. reverse (filter test xs) ++ l) (filter_one test x [] is) ∙ sym (reverse_one x (filter test xs)) ∙ ap reverse (sym (filter_one test x xs is)))
      (λ off. ap (filter test) (reverse_one x xs) ∙ filter-append test (reverse xs) (x ∷ []) ∙ ap (λ l. l ++ filter test (x ∷ [])) (filter_reverse test xs)
      ∙ ap (λ l. reverse (filter test xs) ++ l) (filter_none test x [] off) ∙ append-nil (reverse (filter test xs)) ∙ ap reverse (sym (filter_none test x xs off)))

  pub filter_both : (test keep : X → Bool) → ((x : X) → keep x ≡ false → test x ≡ false) → (xs : List X) → filter test (filter keep xs) ≡ filter test xs
  filter_both test keep none [] = refl
  filter_both test keep none (x ∷ xs) = by_test (keep x)
      (λ is. ap (filter test) (filter_one keep x xs is) ∙ ap (λ l. cond (test x) (x ∷ l) l) (filter_both test keep none xs))
      (λ off. ap (filter test) (filter_none keep x xs off) ∙ filter_both test keep none xs ∙ sym (filter_none test x xs (none x off)))

-- ---- what is seen

-- it is seen by its ends and its place alone
held_seen : (p : Point) (n : ℕ) (whole : List Placed) (d : Recorded) (now : ℕ) (place : Place)
    → is_seen p n whole (record { datagram = record { time = 0; source = d.source; target = d.target; payload = []; is_spelled = true }; moment = 0; place = place })
    ≡ is_seen p n whole (record { datagram = d; moment = now; place = place })
held_seen point.Client n whole d now (Opens x) = refl
held_seen point.Client n whole d now (Repeats x) = refl
held_seen point.Client n whole d now (Talks x) = refl
held_seen point.Client n whole d now (Apart c) = refl
held_seen point.Client n whole d now (Beside x) = refl
held_seen point.Client n whole d now Nowhere = refl
held_seen point.Server n whole d now (Opens x) = refl
held_seen point.Server n whole d now (Repeats x) = refl
held_seen point.Server n whole d now (Talks x) = refl
held_seen point.Server n whole d now (Apart c) = refl
held_seen point.Server n whole d now (Beside x) = refl
held_seen point.Server n whole d now Nowhere = refl
held_seen point.Between n whole d now (Opens x) = refl
held_seen point.Between n whole d now (Repeats x) = refl
held_seen point.Between n whole d now (Talks x) = refl
held_seen point.Between n whole d now (Apart c) = refl
held_seen point.Between n whole d now (Beside x) = refl
held_seen point.Between n whole d now Nowhere = refl

-- what is not about the transfer is seen nowhere of it
pub seen_about : (p : Point) (n : ℕ) (whole : List Placed) (q : Placed) → is_about n q ≡ false → is_seen p n whole q ≡ false
seen_about point.Client n whole q off = about_none n q off
seen_about point.Server n whole q off = seen_none n whole q off
seen_about point.Between n whole q off = about_none n q off

-- ---- the whole grows

grown : (p : Placed) (more whole : List Placed) → (more ++ p ∷ []) ++ whole ≡ more ++ p ∷ whole
grown p more whole = append_assoc more (p ∷ []) whole

fixed_more : (at : Point) (n : ℕ) (p : Placed) (whole : List Placed) → IsFixed at n whole → IsFixed at n (p ∷ whole)
fixed_more at n p whole fixed more q =
    ap (λ w. is_seen at n w q) (sym (grown p more whole)) ∙ fixed (more ++ p ∷ []) q ∙ sym (fixed (p ∷ []) q)

same_seen_of : (at : Point) (n : ℕ) (p : Placed) (whole : List Placed) (frames : List Framed) → IsFixed at n whole → seen_of at n (p ∷ whole) frames ≡ seen_of at n whole frames
same_seen_of at n p whole frames fixed =
    filter_agree (λ f. is_seen at n (p ∷ whole) f.placed) (λ f. is_seen at n whole f.placed) (λ f. fixed (p ∷ []) f.placed) frames

enough_more : (rollover : Option Rollover) (facts : ViewFacts) (at : Point) (x : Transfer) (p : Placed) (whole : List Placed)
    → ((more : List Placed) (number : ℕ) (rule : Rule) → IsRefusedAt rollover at x (more ++ whole) number rule → IsHeld facts number)
    → (more : List Placed) (number : ℕ) (rule : Rule) → IsRefusedAt rollover at x (more ++ p ∷ whole) number rule → IsHeld facts number
enough_more rollover facts at x p whole enough more number rule said =
    enough (more ++ p ∷ []) number rule (subst (λ w. IsRefusedAt rollover at x w number rule) (sym (grown p more whole)) said)

-- ---- what is open

module _ (at : Point) (x : Transfer) (f : Framed) (whole : List Placed) (frames : List Framed) where
  early_more : (early : List Framed) → (early ≡ []) ⊎ IsFixed at x.number whole → length (seen_of at x.number whole early) ≡ length (seen_of at x.number (f.placed ∷ whole) early)
  early_more early (inl none) = ap (λ l. length (seen_of at x.number whole l)) none ∙ sym (ap (λ l. length (seen_of at x.number (f.placed ∷ whole) l)) none)
  early_more early (inr fixed) = ap length (sym (same_seen_of at x.number f.placed whole early fixed))

  stays_more : (early : List Framed) → (early ≡ []) ⊎ IsFixed at x.number whole → (early ≡ []) ⊎ IsFixed at x.number (f.placed ∷ whole)
  stays_more early (inl none) = inl none
  stays_more early (inr fixed) = inr (fixed_more at x.number f.placed whole fixed)

  open_more : (forgotten : ℕ) (held after : List Passed) → ((late : List Framed) → held ≡ map (passed_of x) (reverse (filter (is_about_it x.number) late)) → after ≡ map (passed_of x) (reverse (filter (is_about_it x.number) (f ∷ late))))
      → IsOpen forgotten held at x whole frames → IsOpen forgotten after at x (f.placed ∷ whole) (f ∷ frames)
  open_more forgotten held after more is = record {
    late = f ∷ is.late;
    early = is.early;
    split = ap (λ l. f ∷ l) is.split;
    kept = more is.late is.kept;
    counted = is.counted ∙ early_more is.early is.stays;
    stays = stays_more is.early is.stays;
  }

  found_more : (found : Found) → IsFound found at x whole frames → IsFound found at x (f.placed ∷ whole) (f ∷ frames)
  found_more found is = record {
    is = by_test (is_seen at x.number (f.placed ∷ whole) f.placed)
        (λ seen. ap (λ l. option_map (blamed_of x) (numbered l found.number)) (filter_one (λ g. is_seen at x.number (f.placed ∷ whole) g.placed) f frames seen)
        ∙ ap (λ l. option_map (blamed_of x) (slice_get l (found.number - 1))) (reverse_one f (seen_of at x.number (f.placed ∷ whole) frames))
        ∙ get_more (blamed_of x) (reverse (seen_of at x.number (f.placed ∷ whole) frames)) (f ∷ []) (found.number - 1) found.blamed before)
        (λ off. ap (λ l. option_map (blamed_of x) (numbered l found.number)) (filter_none (λ g. is_seen at x.number (f.placed ∷ whole) g.placed) f frames off) ∙ before);
    stays = fixed_more at x.number f.placed whole is.stays;
  }
    where
      before : option_map (blamed_of x) (numbered (seen_of at x.number (f.placed ∷ whole) frames) found.number) ≡ Some found.blamed
      before = ap (λ l. option_map (blamed_of x) (numbered l found.number)) (same_seen_of at x.number f.placed whole frames is.stays) ∙ is.is

held_one : (x : Transfer) (f : Framed) (held : List Passed) (late : List Framed) → is_about_it x.number f ≡ true → held ≡ map (passed_of x) (reverse (filter (is_about_it x.number) late))
    → held ++ passed_of x f ∷ [] ≡ map (passed_of x) (reverse (filter (is_about_it x.number) (f ∷ late)))
held_one x f held late about is =
    ap (λ l. l ++ passed_of x f ∷ []) is
    ∙ sym (map-append (passed_of x) (reverse (filter (is_about_it x.number) late)) (f ∷ []))
    ∙ ap (map (passed_of x)) (sym (reverse_one f (filter (is_about_it x.number) late)))
    ∙ ap (λ l. map (passed_of x) (reverse l)) (sym (filter_one (is_about_it x.number) f late about))

held_same : (x : Transfer) (f : Framed) (held : List Passed) (late : List Framed) → is_about_it x.number f ≡ false → held ≡ map (passed_of x) (reverse (filter (is_about_it x.number) late))
    → held ≡ map (passed_of x) (reverse (filter (is_about_it x.number) (f ∷ late)))
held_same x f held late off is = is ∙ ap (λ l. map (passed_of x) (reverse l)) (sym (filter_none (is_about_it x.number) f late off))

-- ---- the one of a number

pub open_at : (forgotten : ℕ) (held : List Passed) (at : Point) (x : Transfer) (whole : List Placed) (frames : List Framed) (number : ℕ) → IsOpen forgotten held at x whole frames → forgotten < number
    → option_map (λ q. q.blamed) (slice_get (filter (λ q. is_seen at x.number whole (placed_by q)) held) (number - forgotten - 1)) ≡ blamed_in at x whole frames number
open_at forgotten held at x whole frames number is above =
    let seen : Framed → Bool = λ f. is_seen at x.number whole f.placed in
    let late_seen : List Framed = reverse (seen_of at x.number whole is.late) in
    let early_seen : List Framed = reverse (seen_of at x.number whole is.early) in
    let count : length early_seen ≡ forgotten = length-reverse (seen_of at x.number whole is.early) ∙ sym is.counted in
    let place : number - 1 ≡ length early_seen + (number - forgotten - 1) = omega (arith, count, above) in
    ap (λ l. option_map (λ q. q.blamed) (slice_get (filter (λ q. is_seen at x.number whole (placed_by q)) l) (number - forgotten - 1))) is.kept
    ∙ ap (λ l. option_map (λ q. q.blamed) (slice_get l (number - forgotten - 1))) (
    filter_map (passed_of x) (λ q. is_seen at x.number whole (placed_by q)) (reverse (filter (is_about_it x.number) is.late))
    ∙ ap (map (passed_of x)) (
    filter_agree (λ f. is_seen at x.number whole (placed_by (passed_of x f))) seen (λ f. held_seen at x.number whole f.placed.datagram f.placed.moment f.placed.place) (reverse (filter (is_about_it x.number) is.late))
    ∙ filter_reverse seen (filter (is_about_it x.number) is.late)
    ∙ ap reverse (filter_both seen (is_about_it x.number) (λ f off. seen_about at x.number whole f.placed off) is.late)))
    ∙ ap (option_map (λ q. q.blamed)) (get_map (passed_of x) late_seen (number - forgotten - 1))
    ∙ blamed_there (slice_get late_seen (number - forgotten - 1))
    ∙ ap (option_map (blamed_of x)) (sym (get_after early_seen late_seen (number - forgotten - 1)))
    ∙ ap (λ k. option_map (blamed_of x) (slice_get (early_seen ++ late_seen) k)) (sym place)
    ∙ ap (λ l. option_map (blamed_of x) (slice_get l (number - 1))) (
    sym (reverse-append (seen_of at x.number whole is.late) (seen_of at x.number whole is.early))
    ∙ ap reverse (sym (filter-append seen is.late is.early))
    ∙ ap (λ l. reverse (seen_of at x.number whole l)) (sym is.split))
  where
    blamed_there : (o : Option Framed) → option_map (λ (q : Passed). q.blamed) (option_map (passed_of x) o) ≡ option_map (blamed_of x) o
    blamed_there None = refl
    blamed_there (Some f) = refl

-- ---- the facts

pub facts_new : (rollover : Option Rollover) (facts : ViewFacts) (at : Point) (x : Transfer) (whole : List Placed) (frames : List Framed) → facts.forgotten ≡ 0 → facts.held.items ≡ [] → facts.refused ≡ None
    → filter (is_about_it x.number) frames ≡ [] → AreFactsOf rollover facts at x whole frames
facts_new rollover facts at x whole frames forgotten held refused unheard = record {
  holds = subst (λ o. HoldsBy o facts at x whole frames) (sym refused) (record {
    late = frames;
    early = [];
    split = sym (append-nil frames);
    kept = held ∙ sym (ap (λ l. map (passed_of x) (reverse l)) unheard);
    counted = forgotten;
    stays = inl refl;
  });
  enough = λ more number rule said.
      subst (λ o. IsHeldBy o facts.forgotten number) (sym refused) (subst (λ k. k < number) (sym forgotten) (from_1 rollover at x (more ++ whole) number rule said));
}

facts_more : (rollover : Option Rollover) (old new : ViewFacts) (at : Point) (x : Transfer) (f : Framed) (whole : List Placed) (frames : List Framed) → new.refused ≡ old.refused → new.forgotten ≡ old.forgotten
    → (old.refused ≡ None → (late : List Framed) → old.held.items ≡ map (passed_of x) (reverse (filter (is_about_it x.number) late)) → new.held.items ≡ map (passed_of x) (reverse (filter (is_about_it x.number) (f ∷ late))))
    → AreFactsOf rollover old at x whole frames → AreFactsOf rollover new at x (f.placed ∷ whole) (f ∷ frames)
facts_more rollover old new at x f whole frames refused forgotten held are = record {
  holds = by old.refused refl are.holds;
  enough = λ more number rule said.
      subst (λ o. IsHeldBy o new.forgotten number) (sym refused) (subst (λ k. IsHeldBy old.refused k number) (sym forgotten) (enough_more rollover old at x f.placed whole are.enough more number rule said));
}
  where
    by : (o : Option Found) → old.refused ≡ o → HoldsBy o old at x whole frames → HoldsBy new.refused new at x (f.placed ∷ whole) (f ∷ frames)
    by None none is =
        subst (λ o. HoldsBy o new at x (f.placed ∷ whole) (f ∷ frames)) (sym (refused ∙ none))
        (subst (λ k. IsOpen k new.held.items at x (f.placed ∷ whole) (f ∷ frames)) (sym forgotten) (open_more at x f whole frames old.forgotten old.held.items new.held.items (held none) is))
    by (Some found) some is =
        subst (λ o. HoldsBy o new at x (f.placed ∷ whole) (f ∷ frames)) (sym (refused ∙ some)) (found_more at x f whole frames found is)

-- one more is held
pub facts_held : (rollover : Option Rollover) (old new : ViewFacts) (at : Point) (x : Transfer) (f : Framed) (whole : List Placed) (frames : List Framed) (passed : Passed) → new.refused ≡ old.refused → new.forgotten ≡ old.forgotten
    → new.held.items ≡ old.held.items ++ passed ∷ [] → passed ≡ passed_of x f → is_about_it x.number f ≡ true
    → AreFactsOf rollover old at x whole frames → AreFactsOf rollover new at x (f.placed ∷ whole) (f ∷ frames)
facts_held rollover old new at x f whole frames passed refused forgotten held is about are =
    facts_more rollover old new at x f whole frames refused forgotten
    (λ none late so. held ∙ ap (λ q. old.held.items ++ q ∷ []) is ∙ held_one x f old.held.items late about so) are

-- none is, where one is refused
pub facts_kept : (rollover : Option Rollover) (facts : ViewFacts) (found : Found) (at : Point) (x : Transfer) (f : Framed) (whole : List Placed) (frames : List Framed) → facts.refused ≡ Some found
    → AreFactsOf rollover facts at x whole frames → AreFactsOf rollover facts at x (f.placed ∷ whole) (f ∷ frames)
facts_kept rollover facts found at x f whole frames is are =
    facts_more rollover facts facts at x f whole frames refl refl (λ none late so. let both : None ≡ Some found = sym none ∙ is in absurd (cc)) are

-- nor of what is not about the transfer
pub facts_passed_by : (rollover : Option Rollover) (facts : ViewFacts) (at : Point) (x : Transfer) (f : Framed) (whole : List Placed) (frames : List Framed) → is_about_it x.number f ≡ false
    → AreFactsOf rollover facts at x whole frames → AreFactsOf rollover facts at x (f.placed ∷ whole) (f ∷ frames)
facts_passed_by rollover facts at x f whole frames off are =
    facts_more rollover facts facts at x f whole frames refl refl (λ none late so. held_same x f facts.held.items late off so) are

pub facts_forgotten : (rollover : Option Rollover) (new : ViewFacts) (at : Point) (x : Transfer) (whole : List Placed) (frames : List Framed) (count : ℕ) → new.refused ≡ None → new.forgotten ≡ count → new.held.items ≡ []
    → map (λ g. g.placed) frames ≡ whole → Accepts rollover at x whole count → AreFactsOf rollover new at x whole frames
facts_forgotten rollover new at x whole frames count refused forgotten held all accepts = record {
  holds = subst (λ o. HoldsBy o new at x whole frames) (sym refused) (record {
    late = [];
    early = frames;
    split = refl;
    kept = held;
    counted = forgotten ∙ accepts.all ∙ ap (λ w. length (filter (is_seen at x.number whole) w)) (sym all) ∙ count_map (λ (g : Framed). g.placed) (is_seen at x.number whole) frames;
    stays = inr accepts.fixed;
  });
  enough = λ more number rule said.
      subst (λ o. IsHeldBy o new.forgotten number) (sym refused) (subst (λ k. k < number) (sym forgotten) (accepts.none more number rule said));
}

pub facts_found : (rollover : Option Rollover) (new : ViewFacts) (found : Found) (at : Point) (x : Transfer) (whole : List Placed) (frames : List Framed) → new.refused ≡ Some found
    → blamed_in at x whole frames found.number ≡ Some found.blamed → Refuses rollover at x whole found.number → AreFactsOf rollover new at x whole frames
facts_found rollover new found at x whole frames refused is refuses = record {
  holds = subst (λ o. HoldsBy o new at x whole frames) (sym refused) (record { is = is; stays = refuses.fixed });
  enough = λ more number rule said. subst (λ o. IsHeldBy o new.forgotten number) (sym refused) (refuses.only more number rule said);
}

-- what is found among those that are held
pub found_at : (rollover : Option Rollover) (facts : ViewFacts) (at : Point) (x : Transfer) (whole : List Placed) (frames : List Framed) (number n : ℕ) (result : Option Blamed) → facts.refused ≡ None → n ≡ x.number
    → (facts.forgotten < number → result ≡ option_map (λ q. q.blamed) (slice_get (filter (λ q. is_seen at n whole (placed_by q)) facts.held.items) (number - facts.forgotten - 1)))
    → AreFactsOf rollover facts at x whole frames → IsHeld facts number → result ≡ blamed_in at x whole frames number
found_at rollover facts at x whole frames number n result none own finds are held =
    let above : facts.forgotten < number = subst (λ o. IsHeldBy o facts.forgotten number) none held in
    finds above
    ∙ ap (λ k. option_map (λ (q : Passed). q.blamed) (slice_get (filter (λ q. is_seen at k whole (placed_by q)) facts.held.items) (number - facts.forgotten - 1))) own
    ∙ open_at facts.forgotten facts.held.items at x whole frames number (subst (λ o. HoldsBy o facts at x whole frames) none are.holds) above

-- the one that is refused
pub kept_at : (rollover : Option Rollover) (facts : ViewFacts) (found : Found) (at : Point) (x : Transfer) (whole : List Placed) (frames : List Framed) (number : ℕ) → facts.refused ≡ Some found
    → AreFactsOf rollover facts at x whole frames → IsHeld facts number → (found.number ≡ number) × (Some found.blamed ≡ blamed_in at x whole frames number)
kept_at rollover facts found at x whole frames number is are held =
    let same : number ≡ found.number = subst (λ o. IsHeldBy o facts.forgotten number) is held in
    let holds : IsFound found at x whole frames = subst (λ o. HoldsBy o facts at x whole frames) is are.holds in
    (sym same, sym (ap (blamed_in at x whole frames) same ∙ holds.is))

-- ---- the loop over those that are held

-- of the rest, those that pass come after these
pub get_past : {X : Type 0} (test : X → Bool) (x : X) (xs : List X) (left : ℕ) → test x ≡ true → 1 < left → slice_get (filter test (x ∷ xs)) (left - 1) ≡ slice_get (filter test xs) (left - 1 - 1)
get_past test x xs left is above =
    ap (λ l. slice_get l (left - 1)) (filter_one test x xs is) ∙ ap (slice_get (x ∷ filter test xs)) (let up : left - 1 ≡ suc (left - 1 - 1) = omega (arith, above) in up)

pub get_first : {X : Type 0} (test : X → Bool) (x : X) (xs : List X) (left : ℕ) → test x ≡ true → left ≤ 1 → slice_get (filter test (x ∷ xs)) (left - 1) ≡ Some x
get_first test x xs left is low =
    ap (λ l. slice_get l (left - 1)) (filter_one test x xs is) ∙ ap (slice_get (x ∷ filter test xs)) (let none : left - 1 ≡ 0 = omega (arith, low) in none)

pub get_other : {X : Type 0} (test : X → Bool) (x : X) (xs : List X) (k : ℕ) → test x ≡ false → slice_get (filter test (x ∷ xs)) k ≡ slice_get (filter test xs) k
get_other test x xs k off = ap (λ l. slice_get l k) (filter_none test x xs off)

module _ {X : Type 0} (test : X → Bool) (xs : List X) (i : ℕ) (x : X) (wanted : Option X) (inside : i < length xs) where
  pub rest_past : (left : ℕ) → test (get_or xs i x) ≡ true → 1 < left → slice_get (filter test (drop i xs)) (left - 1) ≡ wanted → slice_get (filter test (drop (i + 1) xs)) (left - 1 - 1) ≡ wanted
  rest_past left is above at =
      sym (get_past test (get_or xs i x) (drop (i + 1) xs) left is above) ∙ ap (λ l. slice_get (filter test l) (left - 1)) (sym (drop_more xs i x inside)) ∙ at

  pub rest_other : (left : ℕ) → test (get_or xs i x) ≡ false → slice_get (filter test (drop i xs)) (left - 1) ≡ wanted → slice_get (filter test (drop (i + 1) xs)) (left - 1) ≡ wanted
  rest_other left off at =
      sym (get_other test (get_or xs i x) (drop (i + 1) xs) (left - 1) off) ∙ ap (λ l. slice_get (filter test l) (left - 1)) (sym (drop_more xs i x inside)) ∙ at
