-- What waits is that of fragments which frames brought, and so is a content that was put together.
use Rattle.std.proofs.Common.{◌≡◌, ℕ, ◌+◌, inl, inr, List, [], ◌∷◌, ◌++◌, length, map, reverse, Option, Some, None, Vec, Global, refl, sym, ap, ◌∙◌, subst}
use Rattle.std.specs.List.{AllByRecursion}
use Rattle.std.proofs.lemmas.List.{reverse-append}
use Rattle.std.proofs.lemmas.Bool.{cases_Bool}
use Rattle.net_udp.specs.Frames.{Packet}
use Rattle.net_udp.specs.declared.frames.packet.Fragment.{Fragment}
use Rattle.net_udp.specs.Fragments.{same_key, Arrival, SetState, parts_of, IsKeptOf, PutEnds, Sets, frames_of, set_at, PutTogether, content_of}
use Rattle.net_udp.specs.declared.fragments.outcome.Outcome.{Outcome}
use Rattle.net_udp.specs.declared.fragments.outcome.Outcome.TheVariants.{Waits, Apart}
use Rattle.net_udp.specs.Fragments.Whole.{Content, Part}
use Rattle.net_udp.specs.declared.fragments.content.Content.{Content as Given}
use Rattle.net_udp.specs.declared.fragments.key.Key.{Key}
use Rattle.net_udp.specs.declared.fragments.outcome.Outcome.TheVariants.{Whole}
use Rattle.net_udp.specs.Recording.{BroughtState, IsPart, LetsGoOld, MakesRoom, TakesPart, arrival_of, key_of, IsBrought, IsPutTogether, IsHistory, Step, waiting}
use Rattle.net_udp.proofs.RecordingLemmas.Accounting.{none_waits, old_at, some_is}
use Rattle.net_udp.proofs.FragmentsLemmas.Sets.{none_made, none_more}
use Rattle.net_udp.proofs.RecordingLemmas.Keys.{same_back, same_itself, same_set_at}

-- what waits under the key is that of fragments which the frames brought
record Kept (history : List Step) (sets : Sets) (key : Key) : Type 0 where
  arrivals : List Arrival
  kept : IsKeptOf (set_at key sets) arrivals
  brought : AllByRecursion (IsBrought history key) arrivals

kept_at : (history : List Step) (old new : Sets) (key : Key) → set_at key new ≡ set_at key old → Kept history old key → Kept history new key
kept_at history old new key e k = record { arrivals = k.arrivals; kept = subst (λ (o : Option SetState). IsKeptOf o k.arrivals) (sym e) k.kept; brought = k.brought }

kept_none : (history : List Step) (sets : Sets) (key : Key) → set_at key sets ≡ None → Kept history sets key
kept_none history sets key e = record { arrivals = []; kept = subst (λ (o : Option SetState). IsKeptOf o []) (sym e) refl; brought = tt }

kept_young : (history : List Step) (key : Key) (time : Option ℕ) (old new : Sets) (gone : List ℕ) → LetsGoOld key time old new gone → (k : Key) → Kept history old k → Kept history new k
kept_young history key time old new gone h k kept = elim (cases_Bool (same_key key k)) [
  | inl same ↦ elim (old_at key time old new gone h (set_at key old) refl) [
    | inl away ↦ kept_none history new k (sym (same_set_at key k new same) ∙ away.0)
    | inr stays ↦ kept_at history old new k (sym (same_set_at key k new same) ∙ stays.0 ∙ same_set_at key k old same) kept
  ]
  | inr other ↦ kept_at history old new k (h.others k other) kept
]

kept_roomy : (history : List Step) (p : Part) (old new ousted : Sets) → MakesRoom p old new ousted → (k : Key) → Kept history old k → Kept history new k
kept_roomy history p old new ousted (inl h) k kept = kept_at history old new k (ap (set_at k) h.1) kept
kept_roomy history p old new ousted (inr h) k kept = kept_none history new k (ap (set_at k) h.2)

later : (step : Step) (history : List Step) (key : Key) (arrivals : List Arrival) → AllByRecursion (IsBrought history key) arrivals → AllByRecursion (IsBrought (step ∷ history) key) arrivals
later step history key [] all = tt
later step history key (a ∷ arrivals) all = (inr all.0, later step history key arrivals all.1)

-- what is kept under the key after a fragment came
put_kept_at : (P : List Arrival → Type 0) (o m : Option SetState) (all : ℕ) (a : Arrival) (outcome : Outcome) (arrivals : List Arrival) → PutEnds o m all a outcome → IsKeptOf o arrivals → P [] → P arrivals → P (a ∷ arrivals)
    → (now : List Arrival) × IsKeptOf m now × P now
put_kept_at P o m all a Waits arrivals ends kept none same more = (a ∷ arrivals, ends.0 arrivals kept, more)
put_kept_at P o m all a (Whole content frames) arrivals ends kept none same more = ([], subst (λ (x : Option SetState). IsKeptOf x []) (sym ends.0) refl, none)
put_kept_at P o m all a (Apart frames) arrivals ends kept none same more = (a ∷ arrivals, ends.0 arrivals kept, more)
put_kept_at P o m all a _ arrivals ends kept none same more = (arrivals, subst (λ (x : Option SetState). IsKeptOf x arrivals) (sym ends.0) kept, same)

module _ (before : List Step) (step : Step) (p : Packet) (f : Fragment) (is : IsPart step.frame p f) (t : TakesPart (key_of p f) (arrival_of step.frame (length before + 1) p f) (waiting before) step.waits step.brought) where
  roomy_kept : (k : Key) → Kept before (waiting before) k → Kept before t.roomy k
  roomy_kept k kept = kept_roomy before (arrival_of step.frame (length before + 1) p f).part t.young t.roomy step.brought.ousted t.makes_room k (kept_young before (key_of p f) step.frame.time (waiting before) t.young step.brought.old t.lets_go k kept)

  part_kept : (k : Key) → Kept before (waiting before) k → Kept (step ∷ before) step.waits k
  part_kept k kept =
      let r = roomy_kept k kept in
      let a : Arrival = arrival_of step.frame (length before + 1) p f in
      let old = later step before k r.arrivals r.brought in
      elim (cases_Bool (same_key (key_of p f) k)) [
        | inl same ↦
            let here = subst (λ (o : Option SetState). IsKeptOf o r.arrivals) (sym (same_set_at (key_of p f) k t.roomy same)) r.kept in
            let new = put_kept_at (AllByRecursion (IsBrought (step ∷ before) k)) _ _ _ a t.outcome r.arrivals t.ends here tt old (inl (p, f, is, same_back (key_of p f) k same, refl), old) in
            record { arrivals = new.0; kept = subst (λ (o : Option SetState). IsKeptOf o new.0) (same_set_at (key_of p f) k step.waits same) new.1; brought = new.2 }
        | inr other ↦ record { arrivals = r.arrivals; kept = subst (λ (o : Option SetState). IsKeptOf o r.arrivals) (sym (t.others k other)) r.kept; brought = old }
      ]

all_kept : (history : List Step) → IsHistory history → (k : Key) → Kept history (waiting history) k
all_kept [] h k = kept_none [] [] k refl
all_kept (step ∷ before) h k = elim h.0 [
  | inl alone ↦
      let kept = all_kept before h.1 k in
      record { arrivals = kept.arrivals; kept = subst (λ (sets : Sets). IsKeptOf (set_at k sets) kept.arrivals) (sym alone.2) kept.kept; brought = later step before k kept.arrivals kept.brought }
  | inr part ↦ part_kept before step part.0 part.1 part.2 part.3 k (all_kept before h.1 k)
]

-- ---- a content that was put together

frames_kept : (o : Option SetState) (arrivals : List Arrival) (a : Arrival) (content : Content) → IsKeptOf o arrivals → PutTogether (parts_of (a ∷ arrivals)) content → frames_of o ≡ reverse (map (λ (x : Arrival). x.frame) arrivals)
frames_kept None arrivals a content kept give = ap (λ (l : List Arrival). reverse (map (λ (x : Arrival). x.frame) l)) (sym kept)
frames_kept (Some s) arrivals a content kept give = elim (cases_Bool s.spoiled) [
  | inl apart ↦ absurd (none_made (parts_of (a ∷ arrivals)) content (none_more a.part (parts_of arrivals) (kept.2.apart apart).1) give)
  | inr sound ↦ kept.2.frames sound
]

put_together : (before : List Step) (step : Step) (content : Given) (frames : Vec ℕ Global) → IsHistory before → (p : Packet) (f : Fragment) → IsPart step.frame p f
    → (t : TakesPart (key_of p f) (arrival_of step.frame (length before + 1) p f) (waiting before) step.waits step.brought) → t.outcome ≡ Whole content frames
    → IsPutTogether (step ∷ before) (content_of content) frames.items
put_together before step content frames h p f is t e =
    let key = key_of p f in
    let a : Arrival = arrival_of step.frame (length before + 1) p f in
    let r = roomy_kept before step p f is t key (all_kept before h key) in
    let ends = subst (PutEnds (set_at key t.roomy) (set_at key step.waits) _ a) e t.ends in
    let give = ends.1 r.arrivals r.kept in
    record {
      key = key;
      arrivals = a ∷ r.arrivals;
      brought = (inl (p, f, is, same_itself key, refl), later step before key r.arrivals r.brought);
      give = give;
      frames_are = ends.2 ∙ ap (λ (l : List ℕ). l ++ a.frame ∷ []) (frames_kept (set_at key t.roomy) r.arrivals a (content_of content) r.kept give) ∙ sym (reverse-append (a.frame ∷ []) (map (λ (x : Arrival). x.frame) r.arrivals));
    }

pub whole_put_together : (before : List Step) (step : Step) (content : Given) (frames : Vec ℕ Global) → IsHistory (step ∷ before) → step.brought.outcome ≡ Some (Whole content frames) → IsPutTogether (step ∷ before) (content_of content) frames.items
whole_put_together before step content frames h e = elim h.0 [
  | inl alone ↦ absurd (none_waits (Whole content frames) (sym (ap (λ (x : BroughtState). x.outcome) alone.1) ∙ e))
  | inr part ↦ put_together before step content frames h.1 part.0 part.1 part.2 part.3 (some_is part.3.outcome (Whole content frames) (sym part.3.is ∙ e))
]
