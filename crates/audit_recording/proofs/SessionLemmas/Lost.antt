-- Each frame that is lost is told once, and as nothing else.
use Rattle.std.proofs.Common.{◌≡◌, ◌≢◌, ◌≤◌, ◌<◌, ◌+◌, ◌++◌, ◌∷◌, ℕ, true, false, Bool, cond, inl, inr, List, [], length, Option, Some, None, nat_lt, refl, sym, ap, subst, ◌∙◌, ◌*◌, arith}
use Rattle.std.proofs.lemmas.Bool.{cases_lt}
use Rattle.std.specs.List.{AllByRecursion}
use Rattle.net_pcap.specs.{FrameParts}
use Rattle.net_udp.specs.Fragments.{Sets}
use Rattle.net_udp.specs.Recording.{BroughtState, EventState, IsFateBy, IsFateOf, IsHistory, Step, Takes, is_copy, waiting}
use Rattle.net_udp.specs.declared.fragments.outcome.Outcome.{Outcome}
use Rattle.net_udp.specs.declared.fragments.outcome.Outcome.TheVariants as outcome
use Rattle.net_udp.specs.declared.frames.fault.FrameFault.TheVariants as frame
use Rattle.net_udp.specs.declared.recording.fate.Fate.TheVariants.{Datagram, Discarded, Left, Waits}
use Rattle.net_udp.specs.declared.recording.fate.LeftOut.{LeftOut}
use Rattle.net_udp.specs.declared.recording.fate.LeftOut.TheVariants.{Apart as InParts, Copy, Empty, Frame, Full, TooLong, Udp}
use Rattle.net_udp.specs.declared.recording.likeness.Likeness.{Likeness}
use Rattle.net_udp.specs.declared.recording.likeness.Likeness.TheVariants as likeness
use Rattle.net_udp.specs.{Fate}
use Rattle.audit_flows.specs.declared.lines.place.Place.TheVariants.{Opens, Repeats, Talks, Apart, Beside, Nowhere}
use Rattle.audit_flows.specs.{Place}
use Rattle.audit_recording.specs.Blame.Frames.{Carried, framed_after}
use Rattle.audit_recording.specs.Losses.Noted.{Event}
use Rattle.audit_recording.specs.Losses.Noted.Event.{Finds, GivesUp}
use Rattle.audit_recording.specs.Reasons.Clock.{last_of}
use Rattle.audit_recording.specs.Session.Noted.{Noticed, copies_with, finding, frames_in, giving_up, going_back, is_none, leaving, lost_frames, may_be_datagram, one_by_one, other_links_with, others, sharers_of, told_in}
use Rattle.audit_recording.specs.Session.Recording.{AddsOne, IsNoticedOf, Leaves, letting_go, placing, reached_by}
use Rattle.audit_recording.specs.Session.Told.{AreEachOnce, IsLostAlone, Told}
use Rattle.audit_recording.proofs.SessionLemmas.Counting.{all_counted, apart, count_append, count_in, each_once, one_if, one_or_none}
use Rattle.audit_recording.proofs.SessionLemmas.Going.{Goes, frames_go, one_more, shared_gone, waits_in}

-- ---- how often it is told as lost, and as anything else

abbrev lost_in : ℕ → Noticed → ℕ
lost_in k s = count_in k (lost_frames s.events)

abbrev elsewhere : ℕ → Told → ℕ
elsewhere k t = count_in k t.copies + count_in k t.discarded + count_in k t.other_links + count_in k t.of_none + count_in k t.backwards

lost_given_up : (k : ℕ) (frames : List ℕ) (older : List Event) → count_in k (lost_frames (one_by_one GivesUp frames older)) ≡ count_in k frames + count_in k (lost_frames older)
lost_given_up k [] older = omega arith
lost_given_up k (n ∷ frames) older = let more = lost_given_up k frames (GivesUp n ∷ older) in omega (arith, more)

lost_found : (clock : ℕ) (frames : List ℕ) (older : List Event) → lost_frames (one_by_one (λ n. Finds n clock) frames older) ≡ lost_frames older
lost_found clock [] older = refl
lost_found clock (n ∷ frames) older = lost_found clock frames (Finds n clock ∷ older)

lost_let_go : (k : ℕ) (b : BroughtState) (s : Noticed) → lost_in k (letting_go b s) ≡ waits_in k b.ousted + count_in k b.old + lost_in k s
lost_let_go k b s = omega (arith, lost_given_up k (frames_in b.ousted) (giving_up b.old s).events, lost_given_up k b.old s.events)

-- ---- where it stands

-- Before frame n it waits or is lost so often, and is told elsewhere so often.
record Stands (k n here there : ℕ) : Type 0 where
  once : here ≤ 1
  within : 1 ≤ here → (1 ≤ k) × (k < n)
  alone : 1 ≤ here → there ≡ 0
  earlier : n ≤ k → there ≡ 0

-- the frame itself waits, or is lost
comes : (k n here there now told : ℕ) → 1 ≤ n → Stands k n here there → now ≤ here + one_if k n → told ≤ there → Stands k (n + 1) now told
comes k n here there now told low s few least = elim (one_or_none k n) [
  | inl is ↦
      let none : here ≡ 0 = not_yet k n here there s (omega (arith, is.0)) in
      let nothing = s.earlier (omega (arith, is.0)) in
      record { once = omega (arith, few, none, is.1); within = λ some. (omega (arith, low, is.0), omega (arith, is.0)); alone = λ some. omega (arith, least, nothing); earlier = λ late. omega (arith, least, nothing) }
  | inr other ↦ record {
    once = omega (arith, few, other, s.once);
    within = λ some. let w = s.within (omega (arith, some, few, other)) in (w.0, omega (arith, w.1));
    alone = λ some. omega (arith, least, s.alone (omega (arith, some, few, other)));
    earlier = λ late. omega (arith, least, s.earlier (omega (arith, late)));
  }
] where
  not_yet : (k n here there : ℕ) → Stands k n here there → n ≤ k → here ≡ 0
  not_yet k n here there s late = elim (cases_lt 0 here) [
    | inl some ↦ absurd (omega (arith, late, (s.within (omega (arith, some))).1))
    | inr none ↦ omega (arith, none)
  ]

-- the frame itself is told elsewhere
passes : (k n here there now told : ℕ) → Stands k n here there → now ≤ here → told ≤ there + 2 * one_if k n → Stands k (n + 1) now told
passes k n here there now told s few least = record {
  once = omega (arith, few, s.once);
  within = λ some. let w = s.within (omega (arith, some, few)) in (w.0, omega (arith, w.1));
  alone = λ some. let w = s.within (omega (arith, some, few)) in let a = s.alone (omega (arith, some, few)) in elim (one_or_none k n) [
    | inl is ↦ absurd (omega (arith, is.0, w.1))
    | inr other ↦ omega (arith, least, other, a)
  ];
  earlier = λ late. let e = s.earlier (omega (arith, late)) in elim (one_or_none k n) [
    | inl is ↦ absurd (omega (arith, is.0, late))
    | inr other ↦ omega (arith, least, other, e)
  ];
}

-- ---- by what became of the frame

back_counts : (k n : ℕ) (time : Option ℕ) (times older : List ℕ) → count_in k (going_back n time times older) ≤ count_in k older + one_if k n
back_counts k n None times older = omega arith
back_counts k n (Some time) times older = by (nat_lt time (last_of times)) where
  by : (b : Bool) → count_in k (cond b (n ∷ older) older) ≤ count_in k older + one_if k n
  by true = omega arith
  by false = omega arith

copies_count : (k : ℕ) (why : LeftOut) (n : ℕ) (older : List ℕ) → count_in k (copies_with why n older) ≤ count_in k older + one_if k n
copies_count k Copy n older = omega arith
copies_count k (Frame fault) n older = omega arith
copies_count k (Udp fault) n older = omega arith
copies_count k InParts n older = omega arith
copies_count k Empty n older = omega arith
copies_count k TooLong n older = omega arith
copies_count k Full n older = omega arith

links_count : (k : ℕ) (why : LeftOut) (n : ℕ) (older : List ℕ) → count_in k (other_links_with why n older) ≤ count_in k older + one_if k n
links_count k (Frame frame.Link) n older = omega arith
links_count k (Frame frame.Frame) n older = omega arith
links_count k (Frame frame.Network) n older = omega arith
links_count k (Frame frame.Header) n older = omega arith
links_count k (Frame frame.Protocol) n older = omega arith
links_count k (Frame frame.Length) n older = omega arith
links_count k (Frame frame.Cut) n older = omega arith
links_count k (Frame frame.Extension) n older = omega arith
links_count k Copy n older = omega arith
links_count k (Udp fault) n older = omega arith
links_count k InParts n older = omega arith
links_count k Empty n older = omega arith
links_count k TooLong n older = omega arith
links_count k Full n older = omega arith

-- nothing more is lost, and it is told elsewhere at most twice
record Tells (k n : ℕ) (s t : Noticed) : Type 0 where
  lost : lost_in k t ≡ lost_in k s
  there : elsewhere k (told_in t) ≤ elsewhere k (told_in s) + 2 * one_if k n

placing_tells : (place : Place) (k : ℕ) (event : EventState) (c : Carried) (s : Noticed) → Tells k c.frame s (placing place event c s)
placing_tells (Opens x) k event c s = record { lost = ap (count_in k) (lost_found (reached_by s.times) (sharers_of event) s.events); there = omega (arith, back_counts k c.frame c.time s.times s.backwards) }
placing_tells (Repeats x) k event c s = record { lost = ap (count_in k) (lost_found (reached_by s.times) (sharers_of event) s.events); there = omega (arith, back_counts k c.frame c.time s.times s.backwards) }
placing_tells (Talks x) k event c s = record { lost = ap (count_in k) (lost_found (reached_by s.times) (sharers_of event) s.events); there = omega (arith, back_counts k c.frame c.time s.times s.backwards) }
placing_tells (Beside x) k event c s = record { lost = ap (count_in k) (lost_found (reached_by s.times) (sharers_of event) s.events); there = omega (arith, back_counts k c.frame c.time s.times s.backwards) }
placing_tells (Apart a) k event c s = record { lost = ap (count_in k) (lost_found (reached_by s.times) (sharers_of event) s.events); there = omega (arith, back_counts k c.frame c.time s.times s.backwards) }
placing_tells Nowhere k event c s = record { lost = ap (count_in k) (lost_found (reached_by s.times) (sharers_of event) s.events); there = omega (arith, back_counts k c.frame c.time s.times s.backwards) }

leaving_tells : (k reached : ℕ) (why : LeftOut) (event : EventState) (s : Noticed) → Tells k event.frame.number s (leaving reached why event s)
leaving_tells k reached why event s = by (is_none why) where
  by : (b : Bool) → Tells k event.frame.number s (record (cond b (finding reached (sharers_of event) s) s) {
    copies = copies_with why event.frame.number (cond b (finding reached (sharers_of event) s) s).copies;
    other_links = other_links_with why event.frame.number (cond b (finding reached (sharers_of event) s) s).other_links;
  })
  by true = record {
    lost = ap (count_in k) (lost_found reached (sharers_of event) s.events);
    there = omega (arith, copies_count k why event.frame.number s.copies, links_count k why event.frame.number s.other_links);
  }
  by false = record {
    lost = refl;
    there = omega (arith, copies_count k why event.frame.number s.copies, links_count k why event.frame.number s.other_links);
  }

-- ---- a frame that does not wait for others

waits_if : (frame : FrameParts) (is : Bool) (fate : Fate) → IsFateBy is frame (Some outcome.Waits) fate → fate ≡ Waits
waits_if frame false fate h = h
waits_if frame true (Datagram d) h = absurd h
waits_if frame true (Left why) h = h
waits_if frame true Waits h = refl
waits_if frame true (Discarded d) h = absurd (differ d h) where
  differ : (d : _) → Datagram d ≡ Waits → ⊥
  differ d e = cc

fate_waits : (frame : FrameParts) (l : Likeness) (o : Option Outcome) (is : Bool) (fate : Fate) → IsFateOf frame l o is fate → (is_copy l ≡ true → o ≡ None) → o ≡ Some outcome.Waits → fate ≡ Waits
fate_waits frame likeness.New o is fate h none e = waits_if frame is fate (subst (λ (x : Option Outcome). IsFateBy is frame x fate) e h)
fate_waits frame likeness.Doubtful o is fate h none e = waits_if frame is fate (subst (λ (x : Option Outcome). IsFateBy is frame x fate) e h)
fate_waits frame likeness.Copy o is fate h none e = let f : None ≡ Some outcome.Waits = sym (none refl) ∙ e in cc

copy_brings_none : (is : Bool) (old : Sets) (frame : FrameParts) (number : ℕ) (b : BroughtState) (new : Sets) → Takes is old frame number b new → is ≡ true → b.outcome ≡ None
copy_brings_none is old frame number b new (inl h) e = ap (λ (x : BroughtState). x.outcome) h.1
copy_brings_none is old frame number b new (inr h) e = let both : true ≡ false = sym e ∙ h.4 in cc

-- ---- one frame more

module _ (named : List ℕ) (k W V : ℕ) (event : EventState) (older : List Carried) (s : Noticed) (low : 1 ≤ event.frame.number)
    (goes : Goes k event.frame.number W (V + (waits_in k event.brought.ousted + count_in k event.brought.old)) event.brought.outcome)
    (was : Stands k event.frame.number (W + lost_in k s) (elsewhere k (told_in s))) where
  -- what was told without a loss
  told_else : (t : Noticed) → event.brought.outcome ≢ Some outcome.Waits → Tells k event.frame.number (letting_go event.brought s) t → Stands k (event.frame.number + 1) (V + lost_in k t) (elsewhere k (told_in t))
  told_else t differs tells =
      let gone = shared_gone k event.frame.number W (V + (waits_in k event.brought.ousted + count_in k event.brought.old)) event.brought.outcome differs goes in
      passes k event.frame.number (W + lost_in k s) (elsewhere k (told_in s)) (V + lost_in k t) (elsewhere k (told_in t)) was
      (omega (arith, gone, tells.lost, lost_let_go k event.brought s)) tells.there

  stands_more : (fate : Fate) (all : List Carried) (t : Noticed) → (fate ≢ Waits → event.brought.outcome ≢ Some outcome.Waits) → AddsOne named event fate older (letting_go event.brought s) all t
      → Stands k (event.frame.number + 1) (V + lost_in k t) (elsewhere k (told_in t))
  stands_more (Datagram given) all t waits (c, carries, more, same) =
      let place = (framed_after named older c).placed.place in
      let tells = placing_tells place k event c (letting_go event.brought s) in
      told_else t (waits (λ e. cc)) (subst (λ (x : Noticed). Tells k event.frame.number (letting_go event.brought s) x) (sym same)
      (subst (λ n. Tells k n (letting_go event.brought s) (placing place event c (letting_go event.brought s))) carries.frame tells))
  stands_more (Left why) all t waits (more, leaves) = by (may_be_datagram why) leaves where
    by : (b : Bool) → Leaves b why event (letting_go event.brought s) t → Stands k (event.frame.number + 1) (V + lost_in k t) (elsewhere k (told_in t))
    by true (hosts, header, between, has, same) =
        let n = event.frame.number in
        let gone = shared_gone k n W (V + (waits_in k event.brought.ousted + count_in k event.brought.old)) event.brought.outcome (waits (λ e. cc)) goes in
        let lost : lost_in k t ≡ one_if k n + (count_in k (others n (sharers_of event)) + lost_in k (letting_go event.brought s)) =
        ap (lost_in k) same ∙ ap (λ m. one_if k n + m) (lost_given_up k (others n (sharers_of event)) (letting_go event.brought s).events) in
        let there : elsewhere k (told_in t) ≡ elsewhere k (told_in s) = ap (λ (x : Noticed). elsewhere k (told_in x)) same in
        comes k n (W + lost_in k s) (elsewhere k (told_in s)) (V + lost_in k t) (elsewhere k (told_in t)) low was
        (omega (arith, gone, lost, lost_let_go k event.brought s)) (omega (arith, there))
    by false same = told_else t (waits (λ e. cc))
        (subst (λ (x : Noticed). Tells k event.frame.number (letting_go event.brought s) x) (sym same) (leaving_tells k (reached_by s.times) why event (letting_go event.brought s)))
  stands_more Waits all t waits (more, (hosts, between, same)) =
      let n = event.frame.number in
      let few = one_more k n W (V + (waits_in k event.brought.ousted + count_in k event.brought.old)) event.brought.outcome goes in
      let lost : lost_in k t ≡ lost_in k (letting_go event.brought s) = ap (lost_in k) same in
      let there : elsewhere k (told_in t) ≡ elsewhere k (told_in s) = ap (λ (x : Noticed). elsewhere k (told_in x)) same in
      comes k n (W + lost_in k s) (elsewhere k (told_in s)) (V + lost_in k t) (elsewhere k (told_in t)) low was
      (omega (arith, few, lost, lost_let_go k event.brought s)) (omega (arith, there))
  stands_more (Discarded given) all t waits (more, same) =
      let lost : lost_in k t ≡ lost_in k (letting_go event.brought s) =
      ap (lost_in k) same ∙ ap (count_in k) (lost_found (reached_by s.times) (sharers_of event) (letting_go event.brought s).events) in
      let there : elsewhere k (told_in t) ≡ elsewhere k (told_in s) + one_if k event.frame.number = ap (λ (x : Noticed). elsewhere k (told_in x)) same ∙ omega arith in
      told_else t (waits (λ e. cc)) (record { lost = lost; there = omega (arith, there) })

-- ---- a recording

stands : (named : List ℕ) (k : ℕ) (history : List Step) (all : List Carried) (t : Noticed) → IsHistory history → IsNoticedOf named history all t
    → Stands k (length history + 1) (waits_in k (waiting history) + lost_in k t) (elsewhere k (told_in t))
stands named k [] all t h is =
    subst (λ (x : Noticed). Stands k 1 (0 + lost_in k x) (elsewhere k (told_in x))) (sym is.1)
    (record { once = omega arith; within = λ some. absurd (omega (arith, some)); alone = λ some. refl; earlier = λ late. refl })
stands named k (step ∷ before) all t h (older, s, event, fate, was, of, came, adds) =
    let n = length before + 1 in
    let goes = frames_go k step before h in
    let goes_so : Goes k event.frame.number (waits_in k (waiting before)) (waits_in k step.waits + (waits_in k event.brought.ousted + count_in k event.brought.old)) event.brought.outcome =
    subst (λ m. Goes k m (waits_in k (waiting before)) (waits_in k step.waits + (waits_in k event.brought.ousted + count_in k event.brought.old)) event.brought.outcome) (sym of.number)
    (subst (λ (b : BroughtState). Goes k n (waits_in k (waiting before)) (waits_in k step.waits + (waits_in k b.ousted + count_in k b.old)) b.outcome) of.brought goes) in
    let stood = subst (λ m. Stands k m (waits_in k (waiting before) + lost_in k s) (elsewhere k (told_in s))) (sym of.number) (stands named k before older s h.1 was) in
    let none : is_copy event.likeness ≡ true → event.brought.outcome ≡ None = λ copy.
    ap (λ (b : BroughtState). b.outcome) (sym of.brought) ∙ copy_brings_none (is_copy step.likeness) (waiting before) step.frame n step.brought step.waits h.0 (ap is_copy of.likeness ∙ copy) in
    let more = stands_more named k (waits_in k (waiting before)) (waits_in k step.waits) event older s (omega (arith, of.number)) goes_so stood fate all t
    (λ differs e. differs (fate_waits event.frame.parts event.likeness event.brought.outcome event.is_discarded fate came none e)) adds in
    let number : event.frame.number + 1 ≡ length (step ∷ before) + 1 = omega (arith, of.number) in
    subst (λ m. Stands k m (waits_in k step.waits + lost_in k t) (elsewhere k (told_in t))) number more

-- of what waits, and what a frame lets go
gone_stands : (k : ℕ) (step : Step) (before : List Step) → Stands k (length before + 1) (waits_in k (waiting before)) 0 → IsHistory (step ∷ before)
    → Stands k (length (step ∷ before) + 1) (waits_in k step.waits + (waits_in k step.brought.ousted + count_in k step.brought.old)) 0
gone_stands k step before was h =
    let few = one_more k (length before + 1) (waits_in k (waiting before)) (waits_in k step.waits + (waits_in k step.brought.ousted + count_in k step.brought.old)) step.brought.outcome (frames_go k step before h) in
    let number : length before + 1 + 1 ≡ length (step ∷ before) + 1 = omega arith in
    subst (λ m. Stands k m (waits_in k step.waits + (waits_in k step.brought.ousted + count_in k step.brought.old)) 0) number
    (comes k (length before + 1) (waits_in k (waiting before)) 0 (waits_in k step.waits + (waits_in k step.brought.ousted + count_in k step.brought.old)) 0 (omega arith) was few (omega arith))

wait_stands : (k : ℕ) (history : List Step) → IsHistory history → Stands k (length history + 1) (waits_in k (waiting history)) 0
wait_stands k [] h = record { once = omega arith; within = λ some. absurd (omega (arith, some)); alone = λ some. refl; earlier = λ late. refl }
wait_stands k (step ∷ before) h =
    let few = gone_stands k step before (wait_stands k before h.1) h in
    record { once = omega (arith, few.once); within = λ some. few.within (omega (arith, some)); alone = λ some. refl; earlier = λ late. refl }

pub waits_once : (history : List Step) → IsHistory history → AreEachOnce (frames_in (waiting history))
waits_once history h = each_once (frames_in (waiting history)) (λ k. (wait_stands k history h).once)

pub goes_once : (before : List Step) (step : Step) → IsHistory (step ∷ before) → AreEachOnce (step.brought.old ++ frames_in step.brought.ousted ++ frames_in step.waits)
goes_once before step h = each_once (step.brought.old ++ frames_in step.brought.ousted ++ frames_in step.waits) (λ k.
    let few = (gone_stands k step before (wait_stands k before h.1) h).once in
    omega (arith, few, count_append k (step.brought.old ++ frames_in step.brought.ousted) (frames_in step.waits), count_append k step.brought.old (frames_in step.brought.ousted)))

module _ (named : List ℕ) (history : List Step) (all : List Carried) (s : Noticed) (h : IsHistory history) (is : IsNoticedOf named history all s) where
  -- what still waits at the end is lost too
  lost_in_the_end : (k : ℕ) → count_in k (told_in (giving_up (frames_in (waiting history)) s)).lost ≡ waits_in k (waiting history) + lost_in k s
  lost_in_the_end k = lost_given_up k (frames_in (waiting history)) s.events

  pub lost_once : AreEachOnce (told_in (giving_up (frames_in (waiting history)) s)).lost
  lost_once = each_once (told_in (giving_up (frames_in (waiting history)) s)).lost (λ k. omega (arith, lost_in_the_end k, (stands named k history all s h is).once))

  none_elsewhere : (k : ℕ) → 1 ≤ count_in k (told_in (giving_up (frames_in (waiting history)) s)).lost → elsewhere k (told_in s) ≡ 0
  none_elsewhere k some = (stands named k history all s h is).alone (omega (arith, some, lost_in_the_end k))

  pub lost_alone : IsLostAlone (told_in (giving_up (frames_in (waiting history)) s))
  lost_alone = record {
    copies = apart (told_in (giving_up (frames_in (waiting history)) s)).lost s.copies (λ k some. omega (arith, none_elsewhere k some));
    discarded = apart (told_in (giving_up (frames_in (waiting history)) s)).lost (told_in s).discarded (λ k some. omega (arith, none_elsewhere k some));
    other_links = apart (told_in (giving_up (frames_in (waiting history)) s)).lost s.other_links (λ k some. omega (arith, none_elsewhere k some));
    of_none = apart (told_in (giving_up (frames_in (waiting history)) s)).lost (told_in s).of_none (λ k some. omega (arith, none_elsewhere k some));
    backwards = apart (told_in (giving_up (frames_in (waiting history)) s)).lost s.backwards (λ k some. omega (arith, none_elsewhere k some));
  }

  pub lost_within : AllByRecursion (λ n. (1 ≤ n) × (n ≤ length history)) (told_in (giving_up (frames_in (waiting history)) s)).lost
  lost_within = all_counted (λ n. (1 ≤ n) × (n ≤ length history)) (told_in (giving_up (frames_in (waiting history)) s)).lost (λ k some.
      let w = (stands named k history all s h is).within (omega (arith, some, lost_in_the_end k)) in (w.0, omega (arith, w.1)))
