-- What is kept of datagrams that did not arrive, with one frame more.
use Rattle.std.proofs.Common.{◌≡◌, ◌≤◌, ◌<◌, ◌+◌, ◌==◌, ◌&&◌, ◌||◌, ◌∷◌, nat_le, ℕ, Bool, true, false, true≢false, cond, List, [], length, Option, Some, None, inl, inr, refl, sym, ap, subst, ◌∙◌, arith}
use Rattle.std.specs.BTreeMap.{BTreeMap, get}
use Rattle.std.specs.List.{All, AllByRecursion}
use Rattle.std.specs.Ordering.{nat_cmp}
use Rattle.std.proofs.lemmas.Bool.{eqb-true}
use Rattle.std.proofs.lemmas.Bool.Decides.{nat_tests}
use Rattle.std.proofs.lemmas.List.Elements.{All-head, All-tail}
use Rattle.net_pcap.specs.{FrameState}
use Rattle.net_udp.specs.{Fate}
use Rattle.net_udp.specs.Recording.{EventState, Step}
use Rattle.net_udp.specs.declared.frames.unreachable.Unreachable.{Unreachable}
use Rattle.net_udp.specs.declared.recording.fate.Fate.TheVariants.{Datagram, Discarded, Left, Waits}
use Rattle.net_udp.specs.declared.recording.fate.LeftOut.{LeftOut}
use Rattle.audit_flows.specs.Lines.{Placed, Recorded, same_endpoint, transfer_of}
use Rattle.audit_flows.specs.declared.lines.place.Place.TheVariants.{Opens, Repeats, Talks, Apart, Beside, Nowhere}
use Rattle.audit_flows.specs.{Endpoint, Place, Transfer}
use Rattle.audit_flows.specs.Transfers.{is_about, opened_it}
use Rattle.audit_flows.proofs.LinesLemmas.Lines.{by_test}
use Rattle.audit_flows.proofs.TransfersLemmas.Numbers.{length_placed, none_before, opening_number}
use Rattle.audit_recording.specs.Audit.Audited.{IsOfEvent}
use Rattle.audit_recording.specs.Blame.Frames.{Carried, datagrams_of, framed_after, whole_of}
use Rattle.audit_recording.specs.Judges.{is_among, opened}
use Rattle.audit_recording.specs.Reasons.Unplaced.{is_it, newest_of}
use Rattle.audit_recording.specs.Session.Beside.{AreMarksKept, IsMarkedBy, Mark, events_of}
use Rattle.audit_recording.specs.Session.Heard.{AreUnreachedKept, HaveTold, IsFrameOf, IsUndeliveredOf, IsUnreached, TellsIn, is_between_ends, is_of_it, is_of_trail, newest_opened, undelivered_by, undelivered_in, up_to_frame, with_told}
use Rattle.audit_recording.specs.Session.Noted.{Noticed, finding, is_none, may_be_datagram, sharers_of, with_time}
use Rattle.audit_recording.specs.Session.Recording.{AddsOne, IsNoticedOf, Leaves, letting_go, marks_with, reached_by}
use Rattle.audit_recording.specs.Session.Trails.{AreTrailsKept, IsTrailAfter, IsTrailKept, opening_of}
use Rattle.audit_recording.specs.declared.blame.trail.Trail.{Trail}
use Rattle.audit_recording.specs.declared.blame.undelivered.Undelivered.{Undelivered}
use Rattle.audit_recording.specs.declared.judges.judging.Judging.{Judging}
use Rattle.audit_recording.specs.declared.session.unplaced.Unplaced.{Unplaced}
use Rattle.audit_recording.specs.declared.session.unreached.Unreached.{Unreached}
use Rattle.audit_recording.proofs.JudgesLemmas.Keeping.{opened_elsewhere, opened_here, opened_none, opened_number}
use Rattle.audit_recording.proofs.SessionLemmas.Beside.{newest_here}
use Rattle.audit_recording.proofs.SessionLemmas.Marking.{placing_beside}
use Rattle.audit_recording.proofs.SessionLemmas.Trails.{begun_if}
use Rattle.audit_recording.proofs.SessionLemmas.Within.{AreWithin, all_within}

-- the event stays that of its frame
pub frame_of : (step : Step) (history : List Step) (event other : EventState) → other.frame ≡ event.frame → IsOfEvent step history event → IsFrameOf step history other
frame_of step history event other same is = record {
  number = ap (λ (f : FrameState). f.number) same ∙ is.number;
  frame = is.frame ∙ ap (λ (f : FrameState). f.parts) (sym same);
}

-- ---- up to a frame

pub up_to_all : (n : ℕ) (carried : List Carried) → AreWithin n carried → (m : ℕ) → n ≤ m → up_to_frame m carried ≡ carried
up_to_all n [] within m up = refl
up_to_all n (c ∷ older) within m up =
    let here : nat_le c.frame m ≡ true = (let low = within.0 in grind (arith, nat_tests)) in
    ap (λ b. cond b (c ∷ up_to_frame m older) (up_to_frame m older)) here ∙ ap (λ l. c ∷ l) (up_to_all n older within.1 m up)

up_to_one : (c : Carried) (carried : List Carried) (n : ℕ) → n < c.frame → up_to_frame n (c ∷ carried) ≡ up_to_frame n carried
up_to_one c carried n late =
    let behind : nat_le c.frame n ≡ false = grind (arith, nat_tests) in
    ap (λ b. cond b (c ∷ up_to_frame n carried) (up_to_frame n carried)) behind

shorter : (n : ℕ) (carried : List Carried) → length (up_to_frame n carried) ≤ length carried
shorter n [] = omega arith
shorter n (c ∷ older) = by_test (nat_le c.frame n)
    (λ is. let rest = shorter n older in subst (λ b. length (cond b (c ∷ up_to_frame n older) (up_to_frame n older)) ≤ length (c ∷ older)) (sym is) (omega arith))
    (λ off. let rest = shorter n older in subst (λ b. length (cond b (c ∷ up_to_frame n older) (up_to_frame n older)) ≤ length (c ∷ older)) (sym off) (omega arith))

abbrev AreUpTo : ℕ → List Undelivered → Type 0
AreUpTo n heard = AllByRecursion (λ (u : Undelivered). u.frame ≤ n) heard

up_more : (n m : ℕ) → n ≤ m → (heard : List Undelivered) → AreUpTo n heard → AreUpTo m heard
up_more n m up [] all = tt
up_more n m up (u ∷ older) all = ((let here = all.0 in omega arith), up_more n m up older all.1)

with_told_up : (told : Option Unreachable) (n : ℕ) (older : List Undelivered) → AreUpTo n older → AreUpTo n (with_told told n older)
with_told_up None n older up = up
with_told_up (Some u) n older up = (omega arith, up)

heard_up : (history : List Step) (heard : List Undelivered) → HaveTold history heard → AreUpTo (length history) heard
heard_up [] heard is = subst (AreUpTo 0) (sym is) tt
heard_up (step ∷ before) heard (older, told, were, tells, is) =
    subst (AreUpTo (length (step ∷ before))) (sym (is ∙ ap (λ n. with_told told n older) (let long : length before + 1 ≡ length (step ∷ before) = omega arith in long)))
    (with_told_up told (length (step ∷ before)) older (up_more (length before) (length (step ∷ before)) (omega arith) older (heard_up before older were)))

undelivered_same : (x : Transfer) (named : List ℕ) (c : Carried) (carried : List Carried) (n : ℕ) → n < c.frame → (heard : List Undelivered) → AreUpTo n heard
    → undelivered_in x named (c ∷ carried) heard ≡ undelivered_in x named carried heard
undelivered_same x named c carried n late [] up = refl
undelivered_same x named c carried n late (u ∷ older) up =
    let before : u.frame < c.frame = (let low = up.0 in omega arith) in
    ap (λ l. cond (is_of_it x (whole_of named l) u) (Some u) (undelivered_in x named (c ∷ carried) older)) (up_to_one c carried u.frame before)
    ∙ ap (cond (is_of_it x (whole_of named (up_to_frame u.frame carried)) u) (Some u)) (undelivered_same x named c carried n late older up.1)

-- ---- of a transfer that was not opened yet

newest_by : (k : ℕ) (e : Endpoint) (d : Recorded) (now : ℕ) (place : Place) (older : List Placed) → is_about k (record { datagram = d; moment = now; place = place }) ≡ false → is_it k (newest_opened e older) ≡ false
    → is_it k (newest_opened e (record { datagram = d; moment = now; place = place } ∷ older)) ≡ false
newest_by k e d now (Opens x) older off rest = by_test (same_endpoint x.client e)
    (λ is. ap (λ b. is_it k (cond b (Some x.number) (newest_opened e older))) is ∙ off)
    (λ no. ap (λ b. is_it k (cond b (Some x.number) (newest_opened e older))) no ∙ rest)
newest_by k e d now (Repeats x) older off rest = rest
newest_by k e d now (Talks x) older off rest = rest
newest_by k e d now (Apart x) older off rest = rest
newest_by k e d now (Beside x) older off rest = rest
newest_by k e d now Nowhere older off rest = rest

newest_not : (k : ℕ) (e : Endpoint) (ps : List Placed) → All (λ (p : Placed). is_about k p ≡ false) ps → is_it k (newest_opened e ps) ≡ false
newest_not k e [] none = refl
newest_not k e (p ∷ older) none =
    newest_by k e p.datagram p.moment p.place older (All-head (λ (q : Placed). is_about k q ≡ false) p older none)
    (newest_not k e older (All-tail (λ (q : Placed). is_about k q ≡ false) p older none))

length_datagrams : (carried : List Carried) → length (datagrams_of carried) ≡ length carried
length_datagrams [] = refl
length_datagrams (c ∷ older) = let rest = length_datagrams older in omega arith

none_of_it : (x : Transfer) (named : List ℕ) (carried : List Carried) (u : Undelivered) → length carried ≤ x.number → is_of_it x (whole_of named (up_to_frame u.frame carried)) u ≡ false
none_of_it x named carried u low =
    let part = up_to_frame u.frame carried in
    let long = length_datagrams part in
    let less = shorter u.frame carried in
    let none : All (λ (p : Placed). is_about x.number p ≡ false) (whole_of named part) = none_before named (datagrams_of part) x.number (omega arith) in
    ap (λ b. (b || is_it x.number (newest_opened u.target (whole_of named part))) && is_between_ends x (whole_of named part) u) (newest_not x.number u.source (whole_of named part) none)
    ∙ ap (λ b. b && is_between_ends x (whole_of named part) u) (newest_not x.number u.target (whole_of named part) none)

undelivered_none : (x : Transfer) (named : List ℕ) (carried : List Carried) → length carried ≤ x.number → (heard : List Undelivered) → undelivered_in x named carried heard ≡ None
undelivered_none x named carried low [] = refl
undelivered_none x named carried low (u ∷ older) =
    ap (λ b. cond b (Some u) (undelivered_in x named carried older)) (none_of_it x named carried u low) ∙ undelivered_none x named carried low older

-- ---- one datagram more

module _ (m : Unreached) (named out : List ℕ) (history : List Step) (carried : List Carried) (c : Carried) (late : length history < c.frame) (heard : List Undelivered) (told : HaveTold history heard) where
  abbrev f : Placed
  f = (framed_after named carried c).placed

  unreached_elsewhere : (n : ℕ) (o : Option Undelivered) (w : Option Transfer) → IsUnreached n named carried heard o w → IsUnreached n named (c ∷ carried) heard o w
  unreached_elsewhere n o None is = is
  unreached_elsewhere n o (Some x) is = is ∙ sym (undelivered_same x named c carried (length history) late heard (heard_up history heard told))

  unreached_here : (n : ℕ) (o : Option Undelivered) → opened_it n f ≡ true → (place : Place) → f.place ≡ place → IsUnreached n named carried heard o None → IsUnreached n named (c ∷ carried) heard o (transfer_of place)
  unreached_here n o opens (Opens x) at is =
      let number : x.number ≡ length (whole_of named carried) = opening_number named (whole_of named carried) f.moment c.datagram x at in
      let long = length_placed named (datagrams_of carried) in
      let same = length_datagrams carried in
      is ∙ sym (undelivered_same x named c carried (length history) late heard (heard_up history heard told) ∙ undelivered_none x named carried (omega arith) heard)
  unreached_here n o opens (Repeats x) at is = let no : true ≡ false = sym opens ∙ ap (λ (p : Place). opened_it n (record { datagram = f.datagram; moment = f.moment; place = p })) at in absurd (cc)
  unreached_here n o opens (Talks x) at is = let no : true ≡ false = sym opens ∙ ap (λ (p : Place). opened_it n (record { datagram = f.datagram; moment = f.moment; place = p })) at in absurd (cc)
  unreached_here n o opens (Apart e) at is = let no : true ≡ false = sym opens ∙ ap (λ (p : Place). opened_it n (record { datagram = f.datagram; moment = f.moment; place = p })) at in absurd (cc)
  unreached_here n o opens (Beside x) at is = let no : true ≡ false = sym opens ∙ ap (λ (p : Place). opened_it n (record { datagram = f.datagram; moment = f.moment; place = p })) at in absurd (cc)
  unreached_here n o opens Nowhere at is = let no : true ≡ false = sym opens ∙ ap (λ (p : Place). opened_it n (record { datagram = f.datagram; moment = f.moment; place = p })) at in absurd (cc)

  -- before its request nothing had opened it
  unopened : (n : ℕ) → opened_it n f ≡ true → (place : Place) → f.place ≡ place → opened n (whole_of named carried) ≡ None
  unopened n opens (Opens x) at =
      let number : x.number ≡ length (whole_of named carried) = opening_number named (whole_of named carried) f.moment c.datagram x at in
      let long = length_placed named (datagrams_of carried) in
      let is : x.number ≡ n = eqb-true x.number n (sym (ap (λ (p : Place). opened_it n (record { datagram = f.datagram; moment = f.moment; place = p })) at) ∙ opens) in
      opened_none n (whole_of named carried) (none_before named (datagrams_of carried) n (omega arith))
  unopened n opens (Repeats x) at = let no : true ≡ false = sym opens ∙ ap (λ (p : Place). opened_it n (record { datagram = f.datagram; moment = f.moment; place = p })) at in absurd (cc)
  unopened n opens (Talks x) at = let no : true ≡ false = sym opens ∙ ap (λ (p : Place). opened_it n (record { datagram = f.datagram; moment = f.moment; place = p })) at in absurd (cc)
  unopened n opens (Apart e) at = let no : true ≡ false = sym opens ∙ ap (λ (p : Place). opened_it n (record { datagram = f.datagram; moment = f.moment; place = p })) at in absurd (cc)
  unopened n opens (Beside x) at = let no : true ≡ false = sym opens ∙ ap (λ (p : Place). opened_it n (record { datagram = f.datagram; moment = f.moment; place = p })) at in absurd (cc)
  unopened n opens Nowhere at = let no : true ≡ false = sym opens ∙ ap (λ (p : Place). opened_it n (record { datagram = f.datagram; moment = f.moment; place = p })) at in absurd (cc)

  unreached_one : (n : ℕ) (o : Option Undelivered) → IsUnreached n named carried heard o (opened n (whole_of named carried)) → IsUnreached n named (c ∷ carried) heard o (opened n (whole_of named (c ∷ carried)))
  unreached_one n o is = by_test (opened_it n f)
      (λ yes. subst (IsUnreached n named (c ∷ carried) heard o) (sym (opened_here n f (whole_of named carried) yes))
      (unreached_here n o yes f.place refl (subst (IsUnreached n named carried heard o) (unopened n yes f.place refl) is)))
      (λ no. subst (IsUnreached n named (c ∷ carried) heard o) (sym (opened_elsewhere n f (whole_of named carried) no))
      (unreached_elsewhere n o (opened n (whole_of named carried)) is))

pub unreached_with : (m : Unreached) (named out : List ℕ) (history : List Step) (carried : List Carried) (c : Carried) → length history < c.frame → AreUnreachedKept m named out history carried
    → AreUnreachedKept m named out history (c ∷ carried)
unreached_with m named out history carried c late (heard, told, each) =
    (heard, told, λ n here. unreached_one m named out history carried c late heard told n (get nat_cmp m.last n) (each n here))

-- ---- whose newest transfer it is

module _ (e : Endpoint) where
  placed_newest : (place : Place) (d : Recorded) (now : ℕ) (older : List Placed) (c : Carried) (times : List ℕ) (marks : List Mark) → newest_of e (events_of marks) ≡ newest_opened e older
      → newest_of e (events_of (marks_with place c times marks)) ≡ newest_opened e (record { datagram = d; moment = now; place = place } ∷ older)
  placed_newest (Opens x) d now older c times marks same = ap (cond (same_endpoint x.client e) (Some x.number)) same
  placed_newest (Repeats x) d now older c times marks same = same
  placed_newest (Talks x) d now older c times marks same = same
  placed_newest (Apart y) d now older c times marks same = same
  placed_newest (Beside x) d now older c times marks same = same
  placed_newest Nowhere d now older c times marks same = same

  either_marks : (b : Bool) (one other : Noticed) (o : Option ℕ) → newest_of e (events_of one.beside) ≡ o → newest_of e (events_of other.beside) ≡ o → newest_of e (events_of (cond b one other).beside) ≡ o
  either_marks true one other o is also = is
  either_marks false one other o is also = also

  leaves_newest : (b : Bool) (why : LeftOut) (event : EventState) (s t : Noticed) (o : Option ℕ) → Leaves b why event s t → newest_of e (events_of s.beside) ≡ o → newest_of e (events_of t.beside) ≡ o
  leaves_newest true why event s t o (hosts, header, are, is, same) was = ap (λ (r : Noticed). newest_of e (events_of r.beside)) same ∙ was
  leaves_newest false why event s t o same was =
      ap (λ (r : Noticed). newest_of e (events_of r.beside)) same ∙ either_marks (is_none why) (finding (reached_by s.times) (sharers_of event) s) s o was was

  adds_newest : (named : List ℕ) (event : EventState) (fate : Fate) (older : List Carried) (s : Noticed) (all : List Carried) (t : Noticed) → AddsOne named event fate older s all t
      → newest_of e (events_of s.beside) ≡ newest_opened e (whole_of named older) → newest_of e (events_of t.beside) ≡ newest_opened e (whole_of named all)
  adds_newest named event (Datagram given) older s all t (c, is, more, same) was =
      let p = (framed_after named older c).placed in
      ap (λ (r : Noticed). newest_of e (events_of r.beside)) same
      ∙ ap (λ l. newest_of e (events_of l)) (placing_beside p.place event c s)
      ∙ placed_newest p.place p.datagram p.moment (whole_of named older) c (with_time c.time s.times) s.beside was
      ∙ ap (λ l. newest_opened e (whole_of named l)) (sym more)
  adds_newest named event (Left why) older s all t (more, leaves) was =
      leaves_newest (may_be_datagram why) why event s t (newest_opened e (whole_of named older)) leaves was ∙ ap (λ l. newest_opened e (whole_of named l)) (sym more)
  adds_newest named event Waits older s all t (more, (hosts, are, same)) was = ap (λ (r : Noticed). newest_of e (events_of r.beside)) same ∙ was ∙ ap (λ l. newest_opened e (whole_of named l)) (sym more)
  adds_newest named event (Discarded given) older s all t (more, same) was = ap (λ (r : Noticed). newest_of e (events_of r.beside)) same ∙ was ∙ ap (λ l. newest_opened e (whole_of named l)) (sym more)

  pub newest_noted : (named : List ℕ) (history : List Step) (carried : List Carried) (s : Noticed) → IsNoticedOf named history carried s → newest_of e (events_of s.beside) ≡ newest_opened e (whole_of named carried)
  newest_noted named [] carried s is = ap (λ (r : Noticed). newest_of e (events_of r.beside)) is.1 ∙ ap (λ l. newest_opened e (whole_of named l)) (sym is.0)
  newest_noted named (step ∷ before) carried s (older, t, event, fate, was, of, came, adds) =
      adds_newest named event fate older (letting_go event.brought t) carried s adds (newest_noted named before older t was)

-- ---- what the newest frame tells

pub either_told : {X : Type 0} (a b w : Bool) (x y : X) → cond (b && w) x (cond (a && w) x y) ≡ cond ((a || b) && w) x y
either_told true true true x y = refl
either_told true true false x y = refl
either_told true false true x y = refl
either_told true false false x y = refl
either_told false true true x y = refl
either_told false true false x y = refl
either_told false false w x y = refl

module _ (trails : BTreeMap ℕ Trail) (u : Unplaced) (judging : Judging) (named out : List ℕ) (step : Step) (history : List Step) (carried : List Carried) (s : Noticed) (event : EventState)
    (of : IsFrameOf step history event) (noticed : IsNoticedOf named (step ∷ history) carried s) (kept : AreTrailsKept trails judging named out carried) (marks : AreMarksKept u trails out s.beside) where
  same_frames : up_to_frame event.frame.number carried ≡ carried
  same_frames =
      let within = all_within named (step ∷ history) carried s noticed in
      let number = of.number in
      up_to_all (length (step ∷ history)) carried within event.frame.number (omega arith)

  newest_is : (n : ℕ) (e : Endpoint) (o : Option ℕ) → is_among n out ≡ false → o ≡ newest_of e marks.history → is_it n o ≡ is_it n (newest_opened e (whole_of named carried))
  newest_is n e o here is = newest_here u trails out s.beside marks n e o here is ∙ ap (is_it n) (newest_noted e named (step ∷ history) carried s noticed)

  -- of one of which nothing is kept there is nothing
  told_of : (n : ℕ) (v : Undelivered) (first second : Bool) (o p : Option Undelivered) (heard : List Undelivered) (t : Option Trail) (w : Option Transfer) → is_among n out ≡ false → v.frame ≡ event.frame.number
      → IsTrailKept judging named out (whole_of named carried) carried n t → opened n (whole_of named carried) ≡ w
      → first ≡ is_it n (newest_opened v.source (whole_of named carried)) → second ≡ is_it n (newest_opened v.target (whole_of named carried))
      → p ≡ cond ((first || second) && is_of_trail t (whole_of named carried) v) (Some v) o → IsUnreached n named carried heard o w → IsUnreached n named carried (v ∷ heard) p w
  told_of n v first second o p heard None None here at kept_so is one other told was = told ∙ none (first || second) ∙ was where
    none : (b : Bool) → cond (b && false) (Some v) o ≡ o
    none true = refl
    none false = refl
  told_of n v first second o p heard None (Some x) here at (inl closed) is one other told was = let both : Some x ≡ None = sym is ∙ closed in absurd (cc)
  told_of n v first second o p heard None (Some x) here at (inr gone) is one other told was = let both : true ≡ false = sym gone ∙ here in absurd (cc)
  told_of n v first second o p heard (Some t) None here at kept_so is one other told was = let both : None ≡ Some t.transfer = sym is ∙ kept_so.0 in absurd (cc)
  told_of n v first second o p heard (Some t) (Some x) here at kept_so is one other told was =
      let both : Some x ≡ Some t.transfer = sym is ∙ kept_so.0 in
      let same : t.transfer ≡ x = cc in
      let number : x.number ≡ n = opened_number n (whole_of named carried) x is in
      let frames : up_to_frame v.frame carried ≡ carried = ap (λ k. up_to_frame k carried) at ∙ same_frames in
      told
      ∙ (λ i. cond ((one i || other i) && is_between_ends (same i) (whole_of named carried) v) (Some v) (was i))
      ∙ (λ i. cond ((is_it (sym number i) (newest_opened v.source (whole_of named (sym frames i))) || is_it (sym number i) (newest_opened v.target (whole_of named (sym frames i)))) && is_between_ends x (whole_of named (sym frames i)) v)
      (Some v) (undelivered_in x named carried heard))

  -- nothing is told
  pub told_nothing : (m : Unreached) → TellsIn step.frame None → AreUnreachedKept m named out history carried → AreUnreachedKept m named out (step ∷ history) carried
  told_nothing m none (heard, told, each) = (heard, (heard, None, told, none, refl), each)

  -- one is told, of the transfers that its ends opened last
  pub told_one : (old new : Unreached) (w : Unreachable) (first second : Option ℕ) → TellsIn step.frame (Some w)
      → first ≡ newest_of (undelivered_by event.frame.number w).source marks.history → second ≡ newest_of (undelivered_by event.frame.number w).target marks.history
      → ((n : ℕ) → get nat_cmp new.last n
      ≡ cond ((is_it n first || is_it n second) && is_of_trail (get nat_cmp trails n) (whole_of named carried) (undelivered_by event.frame.number w)) (Some (undelivered_by event.frame.number w)) (get nat_cmp old.last n))
      → AreUnreachedKept old named out history carried → AreUnreachedKept new named out (step ∷ history) carried
  told_one old new w first second tells one other changes (heard, told, each) =
      let v : Undelivered = undelivered_by event.frame.number w in (
        v ∷ heard,
        (heard, Some w, told, tells, ap (λ n. undelivered_by n w ∷ heard) of.number),
        λ n here. told_of n v (is_it n first) (is_it n second) (get nat_cmp old.last n) (get nat_cmp new.last n) heard (get nat_cmp trails n) (opened n (whole_of named carried)) here refl (kept n) refl
            (newest_is n v.source first here one) (newest_is n v.target second here other) (changes n) (each n here),
      )

-- ---- one is handed out

pub unreached_less : (old new : Unreached) (named out : List ℕ) (history : List Step) (carried : List Carried) (k number : ℕ) → k ≡ number
    → ((n : ℕ) → (k == n) ≡ false → get nat_cmp new.last n ≡ get nat_cmp old.last n) → AreUnreachedKept old named out history carried → AreUnreachedKept new named (number ∷ out) history carried
unreached_less old new named out history carried k number at others (heard, told, each) = (
  heard,
  told,
  λ n here. subst (λ o. IsUnreached n named carried heard o (opened n (whole_of named carried))) (sym (others n (ap (λ j. j == n) at ∙ first_off (number == n) (is_among n out) here)))
      (each n (second_off (number == n) (is_among n out) here)),
) where
  first_off : (a b : Bool) → (a || b) ≡ false → a ≡ false
  first_off true b off = off
  first_off false b off = refl

  second_off : (a b : Bool) → (a || b) ≡ false → b ≡ false
  second_off true b off = absurd (true≢false off)
  second_off false b off = off

pub unreached_of : (m : Unreached) (named out : List ℕ) (history : List Step) (carried : List Carried) (k : ℕ) (x : Transfer) (o : Option Undelivered) → k ≡ x.number → opened x.number (whole_of named carried) ≡ Some x
    → is_among k out ≡ false → o ≡ get nat_cmp m.last k → AreUnreachedKept m named out history carried → IsUndeliveredOf o x named history carried
unreached_of m named out history carried k x o at opens here is (heard, told, each) = (
  heard,
  told,
  is ∙ subst (IsUnreached k named carried heard (get nat_cmp m.last k)) (ap (λ n. opened n (whole_of named carried)) at ∙ opens) (each k here),
)

-- what is kept of how it ended changes nothing else
pub stays_telling : (t u : Trail) (o : Option Undelivered) → u ≡ record t { undelivered = o } → (judging : Judging) (x : Transfer) (named : List ℕ) (carried : List Carried)
    → IsTrailAfter t judging x named carried → IsTrailAfter u judging x named carried
stays_telling t u o is judging x named carried was = subst (λ (v : Trail). IsTrailAfter v judging x named carried) (sym is) (record {
  own = record {
    transfer = was.own.transfer;
    number = was.own.number;
    ends = was.own.ends;
    first = was.own.first;
    last = was.own.last;
    count = was.own.count;
    last_time = was.own.last_time;
    is_answered = was.own.is_answered;
    has_gone_on = was.own.has_gone_on;
    options = was.own.options;
    twice = was.own.twice;
    copied_from = was.own.copied_from;
    damaged = was.own.damaged;
    spoilt = was.own.spoilt;
    joined = was.own.joined;
    goes_on = was.own.goes_on;
    closing = was.own.closing;
    blame = was.own.blame;
  };
  between = was.between;
  begun = begun_if t (record t { undelivered = o }) refl refl (opening_of x.number named carried) was.begun;
})

pub marked_telling : (t u : Trail) (o : Option Undelivered) → u ≡ record t { undelivered = o } → (n : ℕ) (marks : List Mark) → IsMarkedBy n marks t → IsMarkedBy n marks u
marked_telling t u o is n marks was = subst (IsMarkedBy n marks) (sym is) (record { number = was.number; last_time = was.last_time; left_out = was.left_out; discarded = was.discarded })
