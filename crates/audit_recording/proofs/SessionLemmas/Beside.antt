-- What is kept beside the transfers of a recording, with one mark more.
use Rattle.std.proofs.Common.{arith, ◌≡◌, ◌==◌, ◌&&◌, ◌||◌, ◌∷◌, ◌+◌, ◌≤◌, ◌<◌, nat_le, max, min, ℕ, Bool, true, false, true≢false, cond, List, [], Option, Some, None, option_map, IfSome, IsSome, refl, sym, ap, subst, ◌∙◌}
use Rattle.std.specs.BTreeMap.{BTreeMap, IsUnchanged, get, is_at}
use Rattle.std.specs.Map.{lookup}
use Rattle.std.specs.Ordering.{is_eq, nat_cmp}
use Rattle.std.proofs.lemmas.Bool.{eqb-true, or_right}
use Rattle.std.proofs.lemmas.Bool.Decides.{nat_tests}
use Rattle.law_model.specs.Rules.{or_this}
use Rattle.audit_flows.specs.{Endpoint, Transfer}
use Rattle.audit_flows.specs.Lines.{same_endpoint, silence}
use Rattle.audit_flows.proofs.LinesLemmas.Lines.{by_test}
use Rattle.audit_recording.specs.Judges.{is_among}
use Rattle.audit_recording.specs.Losses.Kept.{lesser}
use Rattle.audit_recording.specs.Reasons.Unplaced.{Event, IsUnplacedAfter, after, begins_so, is_it, later, latest_at, newest_of}
use Rattle.audit_recording.specs.Reasons.Unplaced.Event.{Ends, Opens, Passes}
use Rattle.audit_recording.specs.Session.Beside.{AreMarksKept, HaveEnded, IsMarkedBy, Mark, discarded_beside, discarding_if, events_of, gone_of, last_time_of, leaving_out, leaving_out_if, leaving_out_some, left_out_of, without_ends}
use Rattle.audit_recording.specs.Session.Beside.Mark.{Begins, Discards, Joins, Strays}
use Rattle.audit_recording.specs.Session.Discards.{Gone, before_opening, newest_at}
use Rattle.audit_recording.specs.declared.blame.trail.Trail.{Trail}
use Rattle.audit_recording.specs.declared.session.unplaced.Moment.{Moment}
use Rattle.audit_recording.specs.declared.session.unplaced.Unplaced.{Unplaced}
use Rattle.audit_recording.proofs.JudgesLemmas.Keeping.{is_itself, same_number}

-- ---- what has ended is of no trail

other_number : (n number m : ℕ) (out : List ℕ) → is_among n out ≡ false → is_among number out ≡ true → (m == number) ≡ true → (m == n) ≡ false
other_number n number m out still gone is = by_test (m == n)
    (λ yes. let same : n ≡ number = sym (eqb-true m n yes) ∙ eqb-true m number is in absurd (true≢false (sym gone ∙ ap (λ k. is_among k out) (sym same) ∙ still)))
    (λ no. no)

not_it : (n number : ℕ) (o : Option ℕ) (out : List ℕ) → is_among n out ≡ false → is_among number out ≡ true → is_it number o ≡ true → is_it n o ≡ false
not_it n number None out still gone is = refl
not_it n number (Some m) out still gone is = other_number n number m out still gone is

ended_newest : (n number : ℕ) (one other : Option ℕ) (out : List ℕ) (here : Bool) → is_among n out ≡ false → is_among number out ≡ true → is_it n one ≡ is_it n other
    → is_it n (cond (here && is_it number one) None one) ≡ is_it n other
ended_newest n number one other out false still gone same = same
ended_newest n number one other out true still gone same = by_test (is_it number one)
    (λ is. ap (λ b. is_it n (cond b None one)) is ∙ sym (not_it n number one out still gone is) ∙ same)
    (λ off. ap (λ b. is_it n (cond b None one)) off ∙ same)

opened_newest : (n : ℕ) (number : ℕ) (one other : Option ℕ) (here : Bool) → is_it n one ≡ is_it n other → is_it n (cond here (Some number) one) ≡ is_it n (cond here (Some number) other)
opened_newest n number one other true same = refl
opened_newest n number one other false same = same

newest_kept : (n : ℕ) (c : Endpoint) (out : List ℕ) (history : List Event) → is_among n out ≡ false → HaveEnded out history → is_it n (newest_of c history) ≡ is_it n (newest_of c (without_ends history))
newest_kept n c out [] still ended = refl
newest_kept n c out (Passes source target payload m ∷ older) still ended = newest_kept n c out older still ended
newest_kept n c out (Opens client number ∷ older) still ended =
    opened_newest n number (newest_of c older) (newest_of c (without_ends older)) (same_endpoint client c) (newest_kept n c out older still ended)
newest_kept n c out (Ends client number ∷ older) still ended =
    ended_newest n number (newest_of c older) (newest_of c (without_ends older)) out (same_endpoint client c) still ended.0 (newest_kept n c out older still ended.1)

pub latest_kept : (e : Endpoint) (history : List Event) → latest_at e history ≡ latest_at e (without_ends history)
latest_kept e [] = refl
latest_kept e (Passes source target payload m ∷ older) =
    ap (λ o. cond (begins_so payload && (same_endpoint source e || same_endpoint target e)) (later o m) o) (latest_kept e older)
latest_kept e (Opens client number ∷ older) = latest_kept e older
latest_kept e (Ends client number ∷ older) = latest_kept e older

pub ended_more : (k : ℕ) (out : List ℕ) (history : List Event) → HaveEnded out history → HaveEnded (k ∷ out) history
ended_more k out [] ended = tt
ended_more k out (Passes source target payload m ∷ older) ended = ended_more k out older ended
ended_more k out (Opens client number ∷ older) ended = ended_more k out older ended
ended_more k out (Ends client number ∷ older) ended = (or_right (k == number) (is_among number out) ended.0, ended_more k out older ended.1)

-- ---- each trail that is kept, with one mark more

mapped_twice : (g f : Trail → Trail) (o : Option Trail) → option_map g (option_map f o) ≡ option_map (λ t. g (f t)) o
mapped_twice g f None = refl
mapped_twice g f (Some t) = refl

module _ (out : List ℕ) (marks more : List Mark) (f : ℕ → Trail → Trail) (old new : BTreeMap ℕ Trail) (changes : (n : ℕ) → get nat_cmp new n ≡ option_map (f n) (get nat_cmp old n)) where
  was_some : (n : ℕ) (o p : Option Trail) → p ≡ option_map (f n) o → IsSome p → IsSome o
  was_some n None p is some = subst IsSome is some
  was_some n (Some t) p is some = refl

  pub stays_still : ((n : ℕ) → IsSome (get nat_cmp old n) → is_among n out ≡ false) → (n : ℕ) → IsSome (get nat_cmp new n) → is_among n out ≡ false
  stays_still still n some = still n (was_some n (get nat_cmp old n) (get nat_cmp new n) (changes n) some)

  pub each_marked : ((n : ℕ) (t : Trail) → is_among n out ≡ false → IsMarkedBy n marks t → IsMarkedBy n more (f n t)) → ((n : ℕ) → IsSome (get nat_cmp old n) → is_among n out ≡ false)
      → ((n : ℕ) → IfSome (get nat_cmp old n) (IsMarkedBy n marks)) → (n : ℕ) → IfSome (get nat_cmp new n) (IsMarkedBy n more)
  each_marked on still marked n = subst (λ p. IfSome p (IsMarkedBy n more)) (sym (changes n)) (by (get nat_cmp old n) (still n) (marked n)) where
    by : (o : Option Trail) → (IsSome o → is_among n out ≡ false) → IfSome o (IsMarkedBy n marks) → IfSome (option_map (f n) o) (IsMarkedBy n more)
    by None here was = tt
    by (Some t) here was = on n t (here refl) was

if_so : (P Q : Trail → Type 0) (o : Option Trail) → ((t : Trail) → P t → Q t) → IfSome o P → IfSome o Q
if_so P Q None on was = tt
if_so P Q (Some t) on was = on t was

-- the transfer with this number, whose trail is kept, is its client's newest by what is kept as by what was noted
pub newest_here : (u : Unplaced) (trails : BTreeMap ℕ Trail) (out : List ℕ) (marks : List Mark) (kept : AreMarksKept u trails out marks) (n : ℕ) (c : Endpoint) (o : Option ℕ) → is_among n out ≡ false → o ≡ newest_of c kept.history
    → is_it n o ≡ is_it n (newest_of c (events_of marks))
newest_here u trails out marks kept n c o here is = ap (is_it n) is ∙ newest_kept n c out kept.history here kept.ended ∙ ap (λ es. is_it n (newest_of c es)) kept.noted

-- ---- a datagram of no client's line

or_nothing : (o : Option ℕ) (x : ℕ) → o ≡ or_this o false x
or_nothing None x = refl
or_nothing (Some y) x = refl

or_either : (o : Option ℕ) (a b : Bool) (x : ℕ) → or_this (or_this o a x) b x ≡ or_this o (a || b) x
or_either (Some y) a b x = refl
or_either None true b x = refl
or_either None false b x = refl

within_either : (a b w : Bool) → ((a && w) || (b && w)) ≡ ((a || b) && w)
within_either true true true = refl
within_either true true false = refl
within_either true false true = refl
within_either true false false = refl
within_either false true true = refl
within_either false true false = refl
within_either false false w = refl

left_so : (b : Bool) (frame : ℕ) (t : Trail) → (cond b (leaving_out frame t) t).left_out ≡ or_this t.left_out b frame
left_so true frame t = refl
left_so false frame t = or_nothing t.left_out frame

same_time : (b : Bool) (frame : ℕ) (t : Trail) → (cond b (leaving_out frame t) t).last_time ≡ t.last_time
same_time true frame t = refl
same_time false frame t = refl

same_transfer : (b : Bool) (frame : ℕ) (t : Trail) → (cond b (leaving_out frame t) t).transfer ≡ t.transfer
same_transfer true frame t = refl
same_transfer false frame t = refl

same_discarded : (b : Bool) (frame : ℕ) (t : Trail) → (cond b (leaving_out frame t) t).discarded ≡ t.discarded
same_discarded true frame t = refl
same_discarded false frame t = refl

module _ (marks : List Mark) (source target : Endpoint) (payload : List ℕ) (m : Moment) (moment : ℕ) where
  strays_at : (n : ℕ) (one other : Bool) (t : Trail) → one ≡ is_it n (newest_of source (events_of marks)) → other ≡ is_it n (newest_of target (events_of marks)) → IsMarkedBy n marks t
      → IsMarkedBy n (Strays source target payload m moment ∷ marks) (leaving_out_if other m.frame moment (leaving_out_if one m.frame moment t))
  strays_at n one other t first second was =
      let within = nat_le moment (t.last_time + silence) in
      let u : Trail = leaving_out_if one m.frame moment t in
      let later = other && nat_le moment (u.last_time + silence) in
      let time : u.last_time ≡ t.last_time = same_time (one && within) m.frame t in record {
        number = ap (λ (x : Transfer). x.number) (same_transfer later m.frame u ∙ same_transfer (one && within) m.frame t) ∙ was.number;
        last_time = same_time later m.frame u ∙ time ∙ was.last_time;
        left_out =
            left_so later m.frame u
            ∙ ap (λ o. or_this o later m.frame) (left_so (one && within) m.frame t)
            ∙ ap (λ k. or_this (or_this t.left_out (one && within) m.frame) (other && nat_le moment (k + silence)) m.frame) time
            ∙ or_either t.left_out (one && within) (other && within) m.frame
            ∙ ap (λ b. or_this t.left_out b m.frame) (within_either one other within)
            ∙ (λ i. or_this (was.left_out i) ((first i || second i) && nat_le moment (was.last_time i + silence)) m.frame);
        discarded = same_discarded later m.frame u ∙ same_discarded (one && within) m.frame t ∙ was.discarded;
      }

  pub strays_kept : (u v : Unplaced) (old middle new : BTreeMap ℕ Trail) (out : List ℕ) (first second : Option ℕ) (kept : AreMarksKept u old out marks)
      → first ≡ newest_of source kept.history → second ≡ newest_of target kept.history
      → ((n : ℕ) → get nat_cmp middle n ≡ option_map (leaving_out_if (is_it n first) m.frame moment) (get nat_cmp old n))
      → ((n : ℕ) → get nat_cmp new n ≡ option_map (leaving_out_if (is_it n second) m.frame moment) (get nat_cmp middle n))
      → IsUnplacedAfter v (Passes source target payload m ∷ kept.history) → AreMarksKept v new out (Strays source target payload m moment ∷ marks)
  strays_kept u v old middle new out first second kept one other changes more stands =
      let f : ℕ → Trail → Trail = λ n t. leaving_out_if (is_it n second) m.frame moment (leaving_out_if (is_it n first) m.frame moment t) in
      let both : (n : ℕ) → get nat_cmp new n ≡ option_map (f n) (get nat_cmp old n) = λ n.
      more n ∙ ap (option_map (leaving_out_if (is_it n second) m.frame moment)) (changes n)
      ∙ mapped_twice (leaving_out_if (is_it n second) m.frame moment) (leaving_out_if (is_it n first) m.frame moment) (get nat_cmp old n) in record {
        history = Passes source target payload m ∷ kept.history;
        stands = stands;
        noted = ap (λ es. Passes source target payload m ∷ es) kept.noted;
        ended = kept.ended;
        still = stays_still out marks (Strays source target payload m moment ∷ marks) f old new both kept.still;
        marked = each_marked out marks (Strays source target payload m moment ∷ marks) f old new both
            (λ n t here was. strays_at n (is_it n first) (is_it n second) t (newest_here u old out marks kept n source first here one) (newest_here u old out marks kept n target second here other) was)
            kept.still kept.marked;
      }

-- ---- a datagram that was discarded

min_itself : (x : ℕ) → min x x ≡ x
min_itself x = grind arith

min_again : (x y : ℕ) → min (min x y) y ≡ min x y
min_again x y = grind arith

lesser_again : (o : Option ℕ) (x : ℕ) → lesser (lesser o (Some x)) (Some x) ≡ lesser o (Some x)
lesser_again None x = ap Some (min_itself x)
lesser_again (Some y) x = ap Some (min_again y x)

lesser_either : (o : Option ℕ) (a b : Bool) (x : ℕ) → cond b (lesser (cond a (lesser o (Some x)) o) (Some x)) (cond a (lesser o (Some x)) o) ≡ cond (a || b) (lesser o (Some x)) o
lesser_either o true true x = lesser_again o x
lesser_either o true false x = refl
lesser_either o false true x = refl
lesser_either o false false x = refl

gone_so : (b : Bool) (frame : ℕ) (t : Trail) → (discarding_if b frame t).discarded ≡ cond b (lesser t.discarded (Some frame)) t.discarded
gone_so true frame t = refl
gone_so false frame t = refl

gone_time : (b : Bool) (frame : ℕ) (t : Trail) → (discarding_if b frame t).last_time ≡ t.last_time
gone_time true frame t = refl
gone_time false frame t = refl

gone_transfer : (b : Bool) (frame : ℕ) (t : Trail) → (discarding_if b frame t).transfer ≡ t.transfer
gone_transfer true frame t = refl
gone_transfer false frame t = refl

gone_left : (b : Bool) (frame : ℕ) (t : Trail) → (discarding_if b frame t).left_out ≡ t.left_out
gone_left true frame t = refl
gone_left false frame t = refl

discards_at : (n : ℕ) (marks : List Mark) (g : Gone) (one other : Bool) (t : Trail) → one ≡ is_it n (newest_of g.source (events_of marks)) → other ≡ is_it n (newest_of g.target (events_of marks)) → IsMarkedBy n marks t
    → IsMarkedBy n (Discards g ∷ marks) (discarding_if other g.frame (discarding_if one g.frame t))
discards_at n marks g one other t first second was =
    let u : Trail = discarding_if one g.frame t in record {
      number = ap (λ (x : Transfer). x.number) (gone_transfer other g.frame u ∙ gone_transfer one g.frame t) ∙ was.number;
      last_time = gone_time other g.frame u ∙ gone_time one g.frame t ∙ was.last_time;
      left_out = gone_left other g.frame u ∙ gone_left one g.frame t ∙ was.left_out;
      discarded =
          gone_so other g.frame u
          ∙ ap (λ o. cond other (lesser o (Some g.frame)) o) (gone_so one g.frame t)
          ∙ lesser_either t.discarded one other g.frame
          ∙ (λ i. cond (first i || second i) (lesser (was.discarded i) (Some g.frame)) (was.discarded i));
    }

pub discards_kept : (u : Unplaced) (old middle new : BTreeMap ℕ Trail) (out : List ℕ) (marks : List Mark) (g : Gone) (first second : Option ℕ) (kept : AreMarksKept u old out marks)
    → first ≡ newest_of g.source kept.history → second ≡ newest_of g.target kept.history
    → ((n : ℕ) → get nat_cmp middle n ≡ option_map (discarding_if (is_it n first) g.frame) (get nat_cmp old n))
    → ((n : ℕ) → get nat_cmp new n ≡ option_map (discarding_if (is_it n second) g.frame) (get nat_cmp middle n)) → AreMarksKept u new out (Discards g ∷ marks)
discards_kept u old middle new out marks g first second kept one other changes more =
    let f : ℕ → Trail → Trail = λ n t. discarding_if (is_it n second) g.frame (discarding_if (is_it n first) g.frame t) in
    let both : (n : ℕ) → get nat_cmp new n ≡ option_map (f n) (get nat_cmp old n) = λ n.
    more n ∙ ap (option_map (discarding_if (is_it n second) g.frame)) (changes n)
    ∙ mapped_twice (discarding_if (is_it n second) g.frame) (discarding_if (is_it n first) g.frame) (get nat_cmp old n) in record {
      history = kept.history;
      stands = kept.stands;
      noted = kept.noted;
      ended = kept.ended;
      still = stays_still out marks (Discards g ∷ marks) f old new both kept.still;
      marked = each_marked out marks (Discards g ∷ marks) f old new both
          (λ n t here was. discards_at n marks g (is_it n first) (is_it n second) t (newest_here u old out marks kept n g.source first here one) (newest_here u old out marks kept n g.target second here other) was)
          kept.still kept.marked;
    }

-- ---- one trail has changed

module _ (old new : BTreeMap ℕ Trail) (m : ℕ) (t v : Trail) (was : get nat_cmp old m ≡ Some t) (updates : (n : ℕ) → get nat_cmp new n ≡ cond (is_eq (nat_cmp m n)) (Some v) (get nat_cmp old n)) where
  here_now : (n : ℕ) → (m == n) ≡ true → get nat_cmp new n ≡ Some v
  here_now n is = updates n ∙ ap (λ b. cond b (Some v) (get nat_cmp old n)) (same_number m n ∙ is)

  here_then : (n : ℕ) → (m == n) ≡ true → get nat_cmp old n ≡ Some t
  here_then n is = subst (λ k. get nat_cmp old k ≡ Some t) (eqb-true m n is) was

  as_then : (n : ℕ) → (m == n) ≡ false → get nat_cmp new n ≡ get nat_cmp old n
  as_then n off = updates n ∙ ap (λ b. cond b (Some v) (get nat_cmp old n)) (same_number m n ∙ off)

  -- as a map of all of them
  pub one_mapped : (f : Bool → Trail → Trail) → v ≡ f true t → ((o : Option Trail) → option_map (f false) o ≡ o) → (n : ℕ) → get nat_cmp new n ≡ option_map (f (m == n)) (get nat_cmp old n)
  one_mapped f so same n = by_test (m == n)
      (λ is. here_now n is ∙ ap Some so ∙ ap (option_map (f true)) (sym (here_then n is)) ∙ ap (λ b. option_map (f b) (get nat_cmp old n)) (sym is))
      (λ off. as_then n off ∙ sym (same (get nat_cmp old n)) ∙ ap (λ b. option_map (f b) (get nat_cmp old n)) (sym off))

  pub one_changed : (u : Unplaced) (out : List ℕ) (marks more : List Mark) → events_of more ≡ events_of marks → (IsMarkedBy m marks t → IsMarkedBy m more v)
      → ((n : ℕ) (w : Trail) → (m == n) ≡ false → IsMarkedBy n marks w → IsMarkedBy n more w) → AreMarksKept u old out marks → AreMarksKept u new out more
  one_changed u out marks more same on others kept = record {
    history = kept.history;
    stands = kept.stands;
    noted = kept.noted ∙ sym same;
    ended = kept.ended;
    still = λ n some. by_test (m == n)
        (λ is. kept.still n (subst IsSome (sym (here_then n is)) refl))
        (λ off. kept.still n (subst IsSome (as_then n off) some));
    marked = λ n. by_test (m == n)
        (λ is. subst (λ o. IfSome o (IsMarkedBy n more)) (sym (here_now n is))
        (subst (λ k. IsMarkedBy k more v) (eqb-true m n is) (on (subst (λ o. IfSome o (IsMarkedBy m marks)) was (kept.marked m)))))
        (λ off. subst (λ o. IfSome o (IsMarkedBy n more)) (sym (as_then n off)) (if_so (IsMarkedBy n marks) (IsMarkedBy n more) (get nat_cmp old n) (λ w. others n w off) (kept.marked n)));
  }

pub discarding_not : (frame : ℕ) (o : Option Trail) → option_map (discarding_if false frame) o ≡ o
discarding_not frame None = refl
discarding_not frame (Some t) = refl

pub leaving_not : (frame moment : ℕ) (o : Option Trail) → option_map (leaving_out_if false frame moment) o ≡ o
leaving_not frame moment None = refl
leaving_not frame moment (Some t) = refl

-- there is none of that number
pub none_there : (trails : BTreeMap ℕ Trail) (m n : ℕ) (f : Bool → Trail → Trail) → ((o : Option Trail) → option_map (f false) o ≡ o) → get nat_cmp trails m ≡ None
    → get nat_cmp trails n ≡ option_map (f (m == n)) (get nat_cmp trails n)
none_there trails m n f same none = by_test (m == n)
    (λ is. let here : get nat_cmp trails n ≡ None = subst (λ k. get nat_cmp trails k ≡ None) (eqb-true m n is) none in here ∙ sym (ap (option_map (f (m == n))) here))
    (λ off. sym (ap (λ b. option_map (f b) (get nat_cmp trails n)) off ∙ same (get nat_cmp trails n)))

-- whether the moment is within the transfer's time
pub in_time : (frame moment : ℕ) (t : Trail) → moment ≤ t.last_time + silence → leaving_out_if true frame moment t ≡ leaving_out frame t
in_time frame moment t soon =
    let yes : nat_le moment (t.last_time + silence) ≡ true = grind (arith, nat_tests) in
    ap (λ b. cond b (leaving_out frame t) t) yes

pub too_late : (frame moment : ℕ) (t : Trail) → t.last_time + silence < moment → leaving_out_if true frame moment t ≡ t
too_late frame moment t late =
    let no : nat_le moment (t.last_time + silence) ≡ false = grind (arith, nat_tests) in
    ap (λ b. cond b (leaving_out frame t) t) no

-- ---- nothing has changed

pub none_changed : (u : Unplaced) (trails : BTreeMap ℕ Trail) (out : List ℕ) (marks more : List Mark) → events_of more ≡ events_of marks → ((n : ℕ) (w : Trail) → IsSome (get nat_cmp trails n) → IsMarkedBy n marks w → IsMarkedBy n more w)
    → AreMarksKept u trails out marks → AreMarksKept u trails out more
none_changed u trails out marks more same others kept = record {
  history = kept.history;
  stands = kept.stands;
  noted = kept.noted ∙ sym same;
  ended = kept.ended;
  still = kept.still;
  marked = λ n. by (get nat_cmp trails n) (others n) (kept.marked n);
} where
  by : {n : ℕ} (o : Option Trail) → ((w : Trail) → IsSome o → IsMarkedBy n marks w → IsMarkedBy n more w) → IfSome o (IsMarkedBy n marks) → IfSome o (IsMarkedBy n more)
  by None on was = tt
  by (Some w) on was = on w refl was

-- ---- a datagram passes at a transfer's client

pub joins_here : (n time : ℕ) (marks : List Mark) (t v : Trail) → v.transfer ≡ t.transfer → v.left_out ≡ t.left_out → v.discarded ≡ t.discarded → v.last_time ≡ max t.last_time time → IsMarkedBy n marks t
    → IsMarkedBy n (Joins n time ∷ marks) v
joins_here n time marks t v transfer left discarded later was = record {
  number = ap (λ (x : Transfer). x.number) transfer ∙ was.number;
  last_time = later ∙ ap (λ k. max k time) was.last_time ∙ sym (ap (λ b. cond b (max (last_time_of n marks) time) (last_time_of n marks)) (is_itself n));
  left_out = left ∙ was.left_out;
  discarded = discarded ∙ was.discarded;
}

pub joins_elsewhere : (m time : ℕ) (marks : List Mark) (n : ℕ) (w : Trail) → (m == n) ≡ false → IsMarkedBy n marks w → IsMarkedBy n (Joins m time ∷ marks) w
joins_elsewhere m time marks n w off was = record {
  number = was.number;
  last_time = was.last_time ∙ sym (ap (λ b. cond b (max (last_time_of n marks) time) (last_time_of n marks)) off);
  left_out = was.left_out;
  discarded = was.discarded;
}

pub stays_marked : (n : ℕ) (marks : List Mark) (t v : Trail) → v.transfer ≡ t.transfer → v.left_out ≡ t.left_out → v.discarded ≡ t.discarded → v.last_time ≡ t.last_time → IsMarkedBy n marks t → IsMarkedBy n marks v
stays_marked n marks t v transfer left discarded time was = record {
  number = ap (λ (x : Transfer). x.number) transfer ∙ was.number;
  last_time = time ∙ was.last_time;
  left_out = left ∙ was.left_out;
  discarded = discarded ∙ was.discarded;
}

-- ---- a request opens one

begins_elsewhere : (x : Transfer) (time : ℕ) (marks : List Mark) (n : ℕ) (w : Trail) → (x.number == n) ≡ false → IsMarkedBy n marks w → IsMarkedBy n (Begins x time ∷ marks) w
begins_elsewhere x time marks n w off was = record {
  number = was.number;
  last_time = was.last_time ∙ sym (ap (λ b. cond b 0 (last_time_of n marks)) off);
  left_out = was.left_out ∙ sym (ap (λ b. cond b (after time (latest_at x.client (events_of marks))) (left_out_of n marks)) off);
  discarded = was.discarded ∙ sym (ap (λ b. cond b (before_opening time (newest_at x.client (gone_of marks))) (discarded_beside n marks)) off);
}

pub begins_here : (x : Transfer) (time : ℕ) (marks : List Mark) (t : Trail) → t.transfer ≡ x → t.last_time ≡ 0 → t.left_out ≡ after time (latest_at x.client (events_of marks))
    → t.discarded ≡ before_opening time (newest_at x.client (gone_of marks)) → IsMarkedBy x.number (Begins x time ∷ marks) t
begins_here x time marks t transfer none left gone = record {
  number = ap (λ (y : Transfer). y.number) transfer;
  last_time = none ∙ sym (ap (λ b. cond b 0 (last_time_of x.number marks)) (is_itself x.number));
  left_out = left ∙ sym (ap (λ b. cond b (after time (latest_at x.client (events_of marks))) (left_out_of x.number marks)) (is_itself x.number));
  discarded = gone ∙ sym (ap (λ b. cond b (before_opening time (newest_at x.client (gone_of marks))) (discarded_beside x.number marks)) (is_itself x.number));
}

pub begins_kept : (u v : Unplaced) (old new : BTreeMap ℕ Trail) (out : List ℕ) (marks : List Mark) (x : Transfer) (time : ℕ) (t : Trail) (kept : AreMarksKept u old out marks) → is_among x.number out ≡ false
    → IsUnplacedAfter v (Opens x.client x.number ∷ kept.history) → IsMarkedBy x.number (Begins x time ∷ marks) t → ((n : ℕ) → get nat_cmp new n ≡ cond (is_eq (nat_cmp x.number n)) (Some t) (get nat_cmp old n))
    → AreMarksKept v new out (Begins x time ∷ marks)
begins_kept u v old new out marks x time t kept fresh stands is updates = record {
  history = Opens x.client x.number ∷ kept.history;
  stands = stands;
  noted = ap (λ es. Opens x.client x.number ∷ es) kept.noted;
  ended = kept.ended;
  still = λ n some. by_test (x.number == n)
      (λ yes. subst (λ k. is_among k out ≡ false) (eqb-true x.number n yes) fresh)
      (λ off. kept.still n (subst IsSome (updates n ∙ ap (λ b. cond b (Some t) (get nat_cmp old n)) (same_number x.number n ∙ off)) some));
  marked = λ n. by_test (x.number == n)
      (λ yes. subst (λ o. IfSome o (IsMarkedBy n (Begins x time ∷ marks))) (sym (updates n ∙ ap (λ b. cond b (Some t) (get nat_cmp old n)) (same_number x.number n ∙ yes)))
      (subst (λ k. IsMarkedBy k (Begins x time ∷ marks) t) (eqb-true x.number n yes) is))
      (λ off. subst (λ o. IfSome o (IsMarkedBy n (Begins x time ∷ marks))) (sym (updates n ∙ ap (λ b. cond b (Some t) (get nat_cmp old n)) (same_number x.number n ∙ off)))
      (if_so (IsMarkedBy n marks) (IsMarkedBy n (Begins x time ∷ marks)) (get nat_cmp old n) (λ w. begins_elsewhere x time marks n w off) (kept.marked n)));
}

-- what was left out before the request
pub latest_noted : (u : Unplaced) (trails : BTreeMap ℕ Trail) (out : List ℕ) (marks : List Mark) (kept : AreMarksKept u trails out marks) (e : Endpoint) → latest_at e kept.history ≡ latest_at e (events_of marks)
latest_noted u trails out marks kept e = latest_kept e kept.history ∙ ap (latest_at e) kept.noted

pub left_some : (frame : Option ℕ) (t : Trail) → t.left_out ≡ None → (leaving_out_some frame t).left_out ≡ frame
left_some None t none = none
left_some (Some frame) t none = ap (λ o. or_this o true frame) none

pub some_time : (frame : Option ℕ) (t : Trail) → (leaving_out_some frame t).last_time ≡ t.last_time
some_time None t = refl
some_time (Some frame) t = refl

pub some_transfer : (frame : Option ℕ) (t : Trail) → (leaving_out_some frame t).transfer ≡ t.transfer
some_transfer None t = refl
some_transfer (Some frame) t = refl

pub some_discarded : (frame : Option ℕ) (t : Trail) → (leaving_out_some frame t).discarded ≡ t.discarded
some_discarded None t = refl
some_discarded (Some frame) t = refl

-- ---- one is handed out

pub one_less : (u v : Unplaced) (old new : BTreeMap ℕ Trail) (out : List ℕ) (marks : List Mark) (client : Endpoint) (k : ℕ) (kept : AreMarksKept u old out marks)
    → IsUnplacedAfter v (Ends client k ∷ kept.history) → ((n : ℕ) → get nat_cmp new n ≡ cond (is_eq (nat_cmp k n)) None (get nat_cmp old n)) → AreMarksKept v new (k ∷ out) marks
one_less u v old new out marks client k kept stands updates = record {
  history = Ends client k ∷ kept.history;
  stands = stands;
  noted = kept.noted;
  ended = (ap (λ b. b || is_among k out) (is_itself k), ended_more k out kept.history kept.ended);
  still = λ n some. by_test (k == n)
      (λ is. let none : get nat_cmp new n ≡ None = updates n ∙ ap (λ b. cond b None (get nat_cmp old n)) (same_number k n ∙ is) in let no : IsSome {T = Trail} None = subst (IsSome {T = Trail}) none some in absurd (true≢false (sym no)))
      (λ off. ap (λ b. b || is_among n out) off ∙ kept.still n (subst IsSome (updates n ∙ ap (λ b. cond b None (get nat_cmp old n)) (same_number k n ∙ off)) some));
  marked = λ n. by_test (k == n)
      (λ is. subst (λ o. IfSome o (IsMarkedBy n marks)) (sym (updates n ∙ ap (λ b. cond b None (get nat_cmp old n)) (same_number k n ∙ is))) tt)
      (λ off. subst (λ o. IfSome o (IsMarkedBy n marks)) (sym (updates n ∙ ap (λ b. cond b None (get nat_cmp old n)) (same_number k n ∙ off))) (kept.marked n));
}

pub marks_unchanged : (u : Unplaced) (old new : BTreeMap ℕ Trail) (out : List ℕ) (marks : List Mark) → IsUnchanged old new → AreMarksKept u old out marks → AreMarksKept u new out marks
marks_unchanged u old new out marks same kept =
    let stays : (n : ℕ) → get nat_cmp new n ≡ get nat_cmp old n = λ n. ap (λ es. lookup (is_at (nat_cmp n)) es) same in record {
      history = kept.history;
      stands = kept.stands;
      noted = kept.noted;
      ended = kept.ended;
      still = λ n some. kept.still n (subst IsSome (stays n) some);
      marked = λ n. subst (λ o. IfSome o (IsMarkedBy n marks)) (sym (stays n)) (kept.marked n);
    }
