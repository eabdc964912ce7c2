-- Where the frames of the fragments that wait go: how often each stands there, in three stages, and then after whole histories.
use Rattle.std.proofs.Common.{◌≡◌, ◌≢◌, ◌≤◌, ◌+◌, ◌++◌, ◌==◌, ◌∷◌, ℕ, Bool, false, inl, inr, List, [], length, Option, Some, None, refl, sym, ap, subst, ◌∙◌, true≢false, eq-eqb, eqb-true, arith}
use Rattle.std.proofs.lemmas.Bool.{cases_Bool}
use Rattle.std.proofs.lemmas.List.Sums.{sum_by-cons}
use Rattle.std.specs.Map.{values_of}
use Rattle.net_udp.specs.Fragments.{Arrival, CountsAt, PutEnds, SetState, Sets, frames_of, set_at}
use Rattle.net_udp.specs.Fragments.Whole.{Part}
use Rattle.net_udp.specs.declared.fragments.key.Key.{Key}
use Rattle.net_udp.specs.declared.fragments.outcome.Outcome.{Outcome}
use Rattle.net_udp.specs.declared.fragments.outcome.Outcome.TheVariants.{Apart, Empty, Full, TooLong, Waits, Whole}
use Rattle.net_pcap.specs.{FrameParts}
use Rattle.net_udp.specs.Recording.{BroughtState, IsHistory, LetsGoOld, MakesRoom, Step, Takes, TakesPart, is_copy, nothing_brought, sharers, waiting}
use Rattle.net_udp.specs.Recording.Brought.{OthersStay}
use Rattle.net_udp.proofs.RecordingLemmas.Accounting.{old_at}
use Rattle.audit_recording.specs.Session.Noted.{frames_in, others}
use Rattle.audit_recording.proofs.SessionLemmas.Counting.{count_append, count_in, count_itself, count_others, one_if, one_other}
use Rattle.audit_recording.proofs.SessionLemmas.Distinct.{AreDistinct, changed_distinct, changed_total, total, under}

-- how often the frame stands in the sets
abbrev pub waits_in : ℕ → Sets → ℕ
waits_in k sets = count_in k (frames_in sets)

by_frames : (k : ℕ) (sets : Sets) → waits_in k sets ≡ total (λ s. count_in k s.frames) sets
by_frames k [] = refl
by_frames k (x ∷ xs) = omega (arith, count_append k x.1.frames (frames_in xs), by_frames k xs, sum_by-cons (λ (s : SetState). count_in k s.frames) x.1 (values_of xs))

by_set : (k : ℕ) (o : Option SetState) → under (λ s. count_in k s.frames) o ≡ count_in k (frames_of o)
by_set k None = refl
by_set k (Some s) = refl

-- what waits under one key has changed
changed_waits : (k : ℕ) (key : Key) (old new : Sets) → AreDistinct old → OthersStay key old new → CountsAt key old new
    → waits_in k new + count_in k (frames_of (set_at key old)) ≡ waits_in k old + count_in k (frames_of (set_at key new))
changed_waits k key old new are stay counted =
    omega (arith, by_frames k old, by_frames k new, by_set k (set_at key old), by_set k (set_at key new), changed_total key old new are stay counted (λ s. count_in k s.frames))

-- ---- what is too old

let_go_waits : (k : ℕ) (key : Key) (time : Option ℕ) (old new : Sets) (gone : List ℕ) → AreDistinct old → LetsGoOld key time old new gone → waits_in k new + count_in k gone ≡ waits_in k old
let_go_waits k key time old new gone are h =
    let changed = changed_waits k key old new are h.others h.counted in
    elim (old_at key time old new gone h (set_at key old) refl) [
      | inl away ↦ omega (arith, changed, ap (λ (o : Option SetState). count_in k (frames_of o)) away.0, ap (count_in k) away.1)
      | inr stays ↦ omega (arith, changed, ap (λ (o : Option SetState). count_in k (frames_of o)) stays.0, ap (count_in k) stays.1)
    ]

-- ---- where there is no room

room_waits : (k : ℕ) (p : Part) (old new ousted : Sets) → MakesRoom p old new ousted → waits_in k new + waits_in k ousted ≡ waits_in k old
room_waits k p old new ousted (inl h) = omega (arith, ap (waits_in k) h.0, ap (waits_in k) h.1)
room_waits k p old new ousted (inr h) = omega (arith, ap (waits_in k) h.1, ap (waits_in k) h.2)

room_distinct : (p : Part) (old new ousted : Sets) → AreDistinct old → MakesRoom p old new ousted → AreDistinct new
room_distinct p old new ousted are (inl h) = subst AreDistinct (sym h.1) are
room_distinct p old new ousted are (inr h) = subst AreDistinct (sym h.2) tt

-- ---- with the others of its packet

-- A frame stood there so often before, and stands so often after: frame n may be there once more where it waits; else those with
-- which it shares its fate are gone.
abbrev pub Goes : ℕ → ℕ → ℕ → ℕ → Option Outcome → Type 0
Goes k n before after None = after ≤ before
Goes k n before after (Some Waits) = after ≤ before + one_if k n
Goes k n before after (Some (Whole content frames)) = after + count_in k (others n frames.items) ≤ before
Goes k n before after (Some (Apart frames)) = after + count_in k (others n frames.items) ≤ before
Goes k n before after (Some Empty) = after ≤ before
Goes k n before after (Some TooLong) = after ≤ before
Goes k n before after (Some Full) = after ≤ before

fewer_others : (k n : ℕ) (xs : List ℕ) → count_in k (others n xs) ≤ count_in k xs
fewer_others k n xs = elim (cases_Bool (n == k)) [
  | inl same ↦ omega (arith, ap (λ m. count_in k (others m xs)) (eqb-true n k same), count_itself k xs)
  | inr other ↦ omega (arith, count_others k n xs (differ other))
] where
  differ : (n == k) ≡ false → n ≢ k
  differ other e = true≢false (sym (eq-eqb n k e) ∙ other)

others_before : (k n : ℕ) (xs : List ℕ) → count_in k (others n (xs ++ n ∷ [])) ≤ count_in k xs
others_before k n xs = elim (cases_Bool (n == k)) [
  | inl same ↦ omega (arith, ap (λ m. count_in k (others m (xs ++ n ∷ []))) (eqb-true n k same), count_itself k (xs ++ n ∷ []))
  | inr other ↦ omega (arith, count_others k n (xs ++ n ∷ []) (differ other), count_append k xs (n ∷ []), one_other k n (differ other))
] where
  differ : (n == k) ≡ false → n ≢ k
  differ other e = true≢false (sym (eq-eqb n k e) ∙ other)

put_goes : (k : ℕ) (o m : Option SetState) (all : ℕ) (a : Arrival) (outcome : Outcome) → PutEnds o m all a outcome → Goes k a.frame (count_in k (frames_of o)) (count_in k (frames_of m)) (Some outcome)
put_goes k o m all a Waits ends = omega (arith, ap (count_in k) ends.2, count_append k (frames_of o) (a.frame ∷ []))
put_goes k o m all a (Whole content frames) ends =
    omega (arith, ap (λ (s : Option SetState). count_in k (frames_of s)) ends.0, ap (λ (f : List ℕ). count_in k (others a.frame f)) ends.2, others_before k a.frame (frames_of o))
put_goes k o m all a (Apart frames) ends = omega (arith, ap (count_in k) ends.3, ap (count_in k) ends.1, fewer_others k a.frame frames.items)
put_goes k o m all a Empty ends = omega (arith, ap (λ (s : Option SetState). count_in k (frames_of s)) ends.0)
put_goes k o m all a TooLong ends = omega (arith, ap (λ (s : Option SetState). count_in k (frames_of s)) ends.0)
put_goes k o m all a Full ends = omega (arith, ap (λ (s : Option SetState). count_in k (frames_of s)) ends.0)

-- beside what else waits
goes_beside : (k n x y before after all gone : ℕ) (o : Option Outcome) → Goes k n x y o → after + x ≡ before + y → before + gone ≡ all → Goes k n all (after + gone) o
goes_beside k n x y before after all gone None h e f = omega (arith, h, e, f)
goes_beside k n x y before after all gone (Some Waits) h e f = omega (arith, h, e, f)
goes_beside k n x y before after all gone (Some (Whole content frames)) h e f = omega (arith, h, e, f)
goes_beside k n x y before after all gone (Some (Apart frames)) h e f = omega (arith, h, e, f)
goes_beside k n x y before after all gone (Some Empty) h e f = omega (arith, h, e, f)
goes_beside k n x y before after all gone (Some TooLong) h e f = omega (arith, h, e, f)
goes_beside k n x y before after all gone (Some Full) h e f = omega (arith, h, e, f)

-- ---- a fragment, in all three

module _ (key : Key) (a : Arrival) (old new : Sets) (b : BroughtState) (t : TakesPart key a old new b) (are : AreDistinct old) where
  young_distinct : AreDistinct t.young
  young_distinct = changed_distinct key old t.young are t.lets_go.others t.lets_go.counted

  roomy_distinct : AreDistinct t.roomy
  roomy_distinct = room_distinct a.part t.young t.roomy b.ousted young_distinct t.makes_room

  part_distinct : AreDistinct new
  part_distinct = changed_distinct key t.roomy new roomy_distinct t.others t.counted

  part_goes : (k : ℕ) → Goes k a.frame (waits_in k old) (waits_in k new + (waits_in k b.ousted + count_in k b.old)) b.outcome
  part_goes k =
      let put = put_goes k (set_at key t.roomy) (set_at key new) _ a t.outcome t.ends in
      let changed = changed_waits k key t.roomy new roomy_distinct t.others t.counted in
      let gone : waits_in k t.roomy + (waits_in k b.ousted + count_in k b.old) ≡ waits_in k old =
      omega (arith, room_waits k a.part t.young t.roomy b.ousted t.makes_room, let_go_waits k key a.time old t.young b.old are t.lets_go) in
      subst (λ (o : Option Outcome). Goes k a.frame (waits_in k old) (waits_in k new + (waits_in k b.ousted + count_in k b.old)) o) (sym t.is)
      (goes_beside k a.frame (count_in k (frames_of (set_at key t.roomy))) (count_in k (frames_of (set_at key new))) (waits_in k t.roomy) (waits_in k new) (waits_in k old)
      (waits_in k b.ousted + count_in k b.old) (Some t.outcome) put changed gone)

-- ---- a frame

takes_distinct : (is : Bool) (old : Sets) (frame : FrameParts) (number : ℕ) (b : BroughtState) (new : Sets) → AreDistinct old → Takes is old frame number b new → AreDistinct new
takes_distinct is old frame number b new are (inl h) = subst AreDistinct (sym h.2) are
takes_distinct is old frame number b new are (inr h) = part_distinct _ _ old new b h.3 are

nothing_goes : (k n : ℕ) (old new : Sets) (b : BroughtState) → b ≡ nothing_brought → new ≡ old → Goes k n (waits_in k old) (waits_in k new + (waits_in k b.ousted + count_in k b.old)) b.outcome
nothing_goes k n old new b e f =
    subst (λ (x : BroughtState). Goes k n (waits_in k old) (waits_in k new + (waits_in k x.ousted + count_in k x.old)) x.outcome) (sym e)
    (omega (arith, ap (waits_in k) f))

takes_goes : (k : ℕ) (is : Bool) (old : Sets) (frame : FrameParts) (number : ℕ) (b : BroughtState) (new : Sets) → AreDistinct old → Takes is old frame number b new
    → Goes k number (waits_in k old) (waits_in k new + (waits_in k b.ousted + count_in k b.old)) b.outcome
takes_goes k is old frame number b new are (inl h) = nothing_goes k number old new b h.1 h.2
takes_goes k is old frame number b new are (inr h) = part_goes _ _ old new b h.3 are k

-- ---- all frames

pub waiting_distinct : (history : List Step) → IsHistory history → AreDistinct (waiting history)
waiting_distinct [] h = tt
waiting_distinct (step ∷ before) h = takes_distinct (is_copy step.likeness) (waiting before) step.frame (length before + 1) step.brought step.waits (waiting_distinct before h.1) h.0

pub frames_go : (k : ℕ) (step : Step) (before : List Step) → IsHistory (step ∷ before)
    → Goes k (length before + 1) (waits_in k (waiting before)) (waits_in k step.waits + (waits_in k step.brought.ousted + count_in k step.brought.old)) step.brought.outcome
frames_go k step before h = takes_goes k (is_copy step.likeness) (waiting before) step.frame (length before + 1) step.brought step.waits (waiting_distinct before h.1) h.0

-- those with which it shares its fate are gone where it waits for none
pub shared_gone : (k n before after : ℕ) (o : Option Outcome) → o ≢ Some Waits → Goes k n before after o → after + count_in k (others n (sharers o)) ≤ before
shared_gone k n before after None differs h = omega (arith, h)
shared_gone k n before after (Some Waits) differs h = absurd (differs refl)
shared_gone k n before after (Some (Whole content frames)) differs h = h
shared_gone k n before after (Some (Apart frames)) differs h = h
shared_gone k n before after (Some Empty) differs h = omega (arith, h)
shared_gone k n before after (Some TooLong) differs h = omega (arith, h)
shared_gone k n before after (Some Full) differs h = omega (arith, h)

pub one_more : (k n before after : ℕ) (o : Option Outcome) → Goes k n before after o → after ≤ before + one_if k n
one_more k n before after None h = omega (arith, h)
one_more k n before after (Some Waits) h = h
one_more k n before after (Some (Whole content frames)) h = omega (arith, h)
one_more k n before after (Some (Apart frames)) h = omega (arith, h)
one_more k n before after (Some Empty) h = omega (arith, h)
one_more k n before after (Some TooLong) h = omega (arith, h)
one_more k n before after (Some Full) h = omega (arith, h)
