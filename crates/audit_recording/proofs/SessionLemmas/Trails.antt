-- What is kept of the transfers of a recording beside their judges, with one datagram more, and with one handed out.
use Rattle.std.proofs.Common.{rules, arith, ◌≡◌, ◌≤◌, ◌<◌, ◌==◌, ◌||◌, ◌⊎◌, ℕ, Bool, true, false, true≢false, cond, All, List, [], ◌∷◌, filter, length, Option, Some, None, option_map, Result, Ok, Err, IfSome, IsSome, OnErr, OnOk, inl, inr, refl, sym, ap, subst, ◌∙◌}
use Rattle.std.specs.BTreeMap.{BTreeMap, IsLowerBound, IsUnchanged, get, is_at}
use Rattle.std.specs.Map.{lookup}
use Rattle.std.specs.Ordering.{is_eq, is_gt, nat_cmp}
use Rattle.std.proofs.lemmas.Bool.{eqb-true, or_right}
use Rattle.std.proofs.lemmas.List.Elements.{All-head, All-tail}
use Rattle.law_model.specs.Rules.{or_this}
use Rattle.audit_flows.specs.Lines.{Placed, transfer_of}
use Rattle.audit_flows.specs.{Opens, Transfer}
use Rattle.audit_flows.specs.Transfers.{is_about, opened_it}
use Rattle.audit_flows.proofs.LinesLemmas.Lines.{by_test}
use Rattle.audit_recording.specs.Blame.Frames.{Carried, Framed, datagrams_of, framed, framed_after, whole_of}
use Rattle.audit_recording.specs.Blame.Kept.{IsBlameBetween, IsTrailBetween, IsTrailOf, is_about_it}
use Rattle.audit_recording.specs.Judges.{IsNew, WereOpened, is_among, opened}
use Rattle.audit_recording.specs.Session.Discards.{discarding}
use Rattle.audit_recording.specs.Session.Trails.{AreTrailsBegun, AreTrailsKept, IsBegunBy, IsTrailAfter, IsTrailKept, opening_of}
use Rattle.audit_recording.specs.declared.blame.blame.Blame.{Blame}
use Rattle.audit_recording.specs.declared.blame.trail.Trail.{Trail}
use Rattle.audit_recording.specs.declared.judges.judging.Judging.{Judging}
use Rattle.audit_recording.proofs.BlameLemmas.Holding.{filter_none}
use Rattle.audit_recording.proofs.BlameLemmas.Trailing.{between_passed_by, first_unheard, opens_about, or_none, trail_passed_by}
use Rattle.audit_recording.proofs.JudgesLemmas.Keeping.{new_before, opened_elsewhere, opened_here, opened_number, opens_at, same_number}

-- ---- a change of what is kept of no datagram

-- the one is kept as the other is
abbrev pub Stays : Trail → Trail → Type 0
Stays t u = (judging : Judging) (x : Transfer) (named : List ℕ) (carried : List Carried) → IsTrailAfter t judging x named carried → IsTrailAfter u judging x named carried

pub own_discarding : (t : Trail) (frame : Option ℕ) (judging : Judging) (x : Transfer) (named : List ℕ) (carried : List Carried) → IsTrailOf t judging x named carried → IsTrailOf (discarding frame t) judging x named carried
own_discarding t frame judging x named carried was = record {
  transfer = was.transfer;
  number = was.number;
  ends = was.ends;
  first = was.first;
  last = was.last;
  count = was.count;
  last_time = was.last_time;
  is_answered = was.is_answered;
  has_gone_on = was.has_gone_on;
  options = was.options;
  twice = was.twice;
  copied_from = was.copied_from;
  damaged = was.damaged;
  spoilt = was.spoilt;
  joined = was.joined;
  goes_on = was.goes_on;
  closing = was.closing;
  blame = was.blame;
}

stays_discarding : (t : Trail) (frame : Option ℕ) → Stays t (discarding frame t)
stays_discarding t frame judging x named carried was = record { own = own_discarding t frame judging x named carried was.own; between = was.between; begun = was.begun }

-- what is the same but for the frame that was discarded
pub stays_discarded : (t u : Trail) (frame : Option ℕ) → u ≡ discarding frame t → Stays t u
stays_discarded t u frame is judging x named carried was = subst (λ (v : Trail). IsTrailAfter v judging x named carried) (sym is) (stays_discarding t frame judging x named carried was)

pub begun_so : (t u : Trail) → u.first ≡ t.first → u.request ≡ t.request → (g : Framed) → IsBegunBy t g → IsBegunBy u g
begun_so t u first request g is = (is.0 ∙ sym first, is.1 ∙ sym (ap (λ r. r.items) request))

pub begun_if : (t u : Trail) → u.first ≡ t.first → u.request ≡ t.request → (o : Option Framed) → IfSome o (IsBegunBy t) → IfSome o (IsBegunBy u)
begun_if t u first request None was = tt
begun_if t u first request (Some g) was = begun_so t u first request g was

-- what a change keeps that leaves what is blamed and how it began
pub stays_so : (t u : Trail) → u.blame ≡ t.blame → u.first ≡ t.first → u.request ≡ t.request
    → ((judging : Judging) (x : Transfer) (named : List ℕ) (carried : List Carried) → IsTrailOf t judging x named carried → IsTrailOf u judging x named carried) → Stays t u
stays_so t u blame first request own judging x named carried was = record {
  own = own judging x named carried was.own;
  between = subst (λ (b : Blame). IsBlameBetween b judging x (whole_of named carried) (framed named carried)) (sym blame) was.between;
  begun = begun_if t u first request (opening_of x.number named carried) was.begun;
}

-- ---- one trail of all

module _ (old new : BTreeMap ℕ Trail) (m : ℕ) (t u : Trail) (was : get nat_cmp old m ≡ Some t) (updates : (n : ℕ) → get nat_cmp new n ≡ cond (is_eq (nat_cmp m n)) (Some u) (get nat_cmp old n)) where
  there : (n : ℕ) → (m == n) ≡ true → get nat_cmp new n ≡ Some u
  there n is = updates n ∙ ap (λ b. cond b (Some u) (get nat_cmp old n)) (same_number m n ∙ is)

  elsewhere : (n : ℕ) → (m == n) ≡ false → get nat_cmp new n ≡ get nat_cmp old n
  elsewhere n off = updates n ∙ ap (λ b. cond b (Some u) (get nat_cmp old n)) (same_number m n ∙ off)

  was_at : (n : ℕ) → (m == n) ≡ true → get nat_cmp old n ≡ Some t
  was_at n is = subst (λ k. get nat_cmp old k ≡ Some t) (eqb-true m n is) was

  -- what is kept of it is kept of what comes in its place
  held_on : (judging : Judging) (named out : List ℕ) (all : List Placed) (fed more : List Carried) (n : ℕ) → (IsTrailAfter t judging t.transfer named fed → IsTrailAfter u judging t.transfer named more)
      → IsTrailKept judging named out all fed n (Some t) → IsTrailKept judging named out all more n (Some u)
  held_on judging named out all fed more n on held =
      let stays : IsTrailAfter u judging t.transfer named more = on held.2 in
      (held.0 ∙ ap Some (sym stays.own.transfer), held.1, subst (λ (y : Transfer). IsTrailAfter u judging y named more) (sym stays.own.transfer) stays)

  pub one_stays : Stays t u → (judging : Judging) (named out : List ℕ) (carried : List Carried) → AreTrailsKept old judging named out carried → AreTrailsKept new judging named out carried
  one_stays stays judging named out carried kept = λ n. by_test (m == n)
      (λ is. subst (IsTrailKept judging named out (whole_of named carried) carried n) (sym (there n is))
      (held_on judging named out (whole_of named carried) carried carried n (stays judging t.transfer named carried)
      (subst (IsTrailKept judging named out (whole_of named carried) carried n) (was_at n is) (kept n))))
      (λ off. subst (IsTrailKept judging named out (whole_of named carried) carried n) (sym (elsewhere n off)) (kept n))

-- ---- a datagram that opens none

kept_of_all : (judging : Judging) (named out : List ℕ) (one other : List Placed) (fed : List Carried) (n : ℕ) (o : Option Trail) → opened n other ≡ opened n one
    → IsTrailKept judging named out one fed n o → IsTrailKept judging named out other fed n o
kept_of_all judging named out one other fed n None same (inl none) = inl (same ∙ none)
kept_of_all judging named out one other fed n None same (inr gone) = inr gone
kept_of_all judging named out one other fed n (Some t) same kept = (same ∙ kept.0, kept.1, kept.2)

pub none_begun : (trails : BTreeMap ℕ Trail) (judging : Judging) (named out : List ℕ) (c : Carried) (carried : List Carried) → ((n : ℕ) → opened_it n (framed_after named carried c).placed ≡ false)
    → AreTrailsKept trails judging named out carried → AreTrailsBegun trails judging named out c carried
none_begun trails judging named out c carried none kept = λ n. (
  kept_of_all judging named out (whole_of named carried) (whole_of named (c ∷ carried)) carried n (get nat_cmp trails n) (opened_elsewhere n (framed_after named carried c).placed (whole_of named carried) (none n)) (kept n),
  λ is. absurd (true≢false (sym is ∙ none n)),
)

-- ---- a datagram that opens one

unheard_framed : (n : ℕ) (named : List ℕ) (carried : List Carried) → All (λ (p : Placed). is_about n p ≡ false) (whole_of named carried) → filter (is_about_it n) (framed named carried) ≡ []
unheard_framed n named [] none = refl
unheard_framed n named (c ∷ carried) none =
    filter_none (is_about_it n) (framed_after named carried c) (framed named carried) (All-head (λ (p : Placed). is_about n p ≡ false) (framed_after named carried c).placed (whole_of named carried) none)
    ∙ unheard_framed n named carried (All-tail (λ (p : Placed). is_about n p ≡ false) (framed_after named carried c).placed (whole_of named carried) none)

pub one_begun : (old new : BTreeMap ℕ Trail) (t : Trail) (x : Transfer) (judging : Judging) (named out : List ℕ) (c : Carried) (carried : List Carried) → (framed_after named carried c).placed.place ≡ Opens x
    → WereOpened out (whole_of named carried)
    → (filter (is_about_it x.number) (framed named carried) ≡ [] → IsTrailOf t judging x named carried × IsTrailBetween t judging x named carried)
    → IsBegunBy t (framed_after named carried c)
    → ((n : ℕ) → get nat_cmp new n ≡ cond (is_eq (nat_cmp x.number n)) (Some t) (get nat_cmp old n))
    → AreTrailsKept old judging named out carried → AreTrailsBegun new judging named out c carried
one_begun old new t x judging named out c carried opens handed begins begun updates kept =
    let f : Framed = framed_after named carried c in
    let older = whole_of named carried in
    let unknown : IsNew x.number out older = new_before named out (datagrams_of carried) f.placed.moment c.datagram x handed opens in
    let unheard : filter (is_about_it x.number) (framed named carried) ≡ [] = unheard_framed x.number named carried unknown.0.0 in
    let after : IsTrailAfter t judging x named carried = record {
      own = (begins unheard).0;
      between = (begins unheard).1;
      begun = subst (λ o. IfSome o (IsBegunBy t)) (sym (first_unheard x.number (λ (g : Framed). opened_it x.number g.placed) (opens_about x.number) (framed named carried) unheard)) tt;
    } in
    λ n. by_test (x.number == n)
    (λ is. subst (λ o. IsTrailKept judging named out (whole_of named (c ∷ carried)) carried n o × (opened_it n f.placed ≡ true → IfSome o (λ k. IsBegunBy k f)))
    (sym (updates n ∙ ap (λ b. cond b (Some t) (get nat_cmp old n)) (same_number x.number n ∙ is))) (
      (
        opened_here n f.placed older (opens_at n c.datagram f.placed.moment f.placed.place x opens ∙ is) ∙ ap transfer_of opens ∙ ap Some (sym after.own.transfer),
        subst (λ k. is_among k out ≡ false) (eqb-true x.number n is) unknown.1,
        subst (λ (y : Transfer). IsTrailAfter t judging y named carried) (sym after.own.transfer) after,
      ),
      λ yes. begun,
    ))
    (λ off.
    let none : opened_it n f.placed ≡ false = opens_at n c.datagram f.placed.moment f.placed.place x opens ∙ off in
    subst (λ o. IsTrailKept judging named out (whole_of named (c ∷ carried)) carried n o × (opened_it n f.placed ≡ true → IfSome o (λ k. IsBegunBy k f)))
    (sym (updates n ∙ ap (λ b. cond b (Some t) (get nat_cmp old n)) (same_number x.number n ∙ off))) (
      kept_of_all judging named out older (whole_of named (c ∷ carried)) carried n (get nat_cmp old n) (opened_elsewhere n f.placed older none) (kept n),
      λ is. absurd (true≢false (sym is ∙ none)),
    ))

-- ---- the newest datagram is handed on

after_passed_by : (t : Trail) (judging : Judging) (x : Transfer) (named : List ℕ) (c : Carried) (carried : List Carried) → is_about_it x.number (framed_after named carried c) ≡ false
    → IsTrailAfter t judging x named carried → IsTrailAfter t judging x named (c ∷ carried)
after_passed_by t judging x named c carried off was = record {
  own = trail_passed_by t judging x named c carried off was.own;
  between = between_passed_by t judging x named c carried off was.between;
  begun = subst (λ o. IfSome o (IsBegunBy t))
      (sym (or_none (opening_of x.number named carried) (framed_after named carried c) (opened_it x.number (framed_after named carried c).placed) (opens_about x.number (framed_after named carried c) off))) was.begun;
}

passes_by : (judging : Judging) (named out : List ℕ) (c : Carried) (carried : List Carried) (n : ℕ) (o : Option Trail) → is_about_it n (framed_after named carried c) ≡ false
    → IsTrailKept judging named out (whole_of named (c ∷ carried)) carried n o → IsTrailKept judging named out (whole_of named (c ∷ carried)) (c ∷ carried) n o
passes_by judging named out c carried n None off kept = kept
passes_by judging named out c carried n (Some t) off kept =
    let number = opened_number n (whole_of named (c ∷ carried)) t.transfer kept.0 in
    (kept.0, kept.1, after_passed_by t judging t.transfer named c carried (ap (λ k. is_about_it k (framed_after named carried c)) number ∙ off) kept.2)

-- it is about none
pub all_passed_by : (trails : BTreeMap ℕ Trail) (judging : Judging) (named out : List ℕ) (c : Carried) (carried : List Carried) → ((n : ℕ) → is_about_it n (framed_after named carried c) ≡ false)
    → AreTrailsBegun trails judging named out c carried → AreTrailsKept trails judging named out (c ∷ carried)
all_passed_by trails judging named out c carried off begun = λ n. passes_by judging named out c carried n (get nat_cmp trails n) (off n) (begun n).0

none_there : (judging : Judging) (named out : List ℕ) (all : List Placed) (fed more : List Carried) (n : ℕ) (o : Option Trail) → o ≡ None → IsTrailKept judging named out all fed n o → IsTrailKept judging named out all more n o
none_there judging named out all fed more n None is kept = kept
none_there judging named out all fed more n (Some t) is kept = absurd (cc)

-- it is about one that is not kept
pub none_handed : (trails : BTreeMap ℕ Trail) (m : ℕ) (judging : Judging) (named out : List ℕ) (c : Carried) (carried : List Carried) → ((n : ℕ) → is_about_it n (framed_after named carried c) ≡ (m == n))
    → get nat_cmp trails m ≡ None → AreTrailsBegun trails judging named out c carried → AreTrailsKept trails judging named out (c ∷ carried)
none_handed trails m judging named out c carried about none begun = λ n. by_test (m == n)
    (λ is. none_there judging named out (whole_of named (c ∷ carried)) carried (c ∷ carried) n (get nat_cmp trails n) (subst (λ k. get nat_cmp trails k ≡ None) (eqb-true m n is) none) (begun n).0)
    (λ off. passes_by judging named out c carried n (get nat_cmp trails n) (about n ∙ off) (begun n).0)

begun_more : (t u : Trail) (x : Transfer) (named : List ℕ) (c : Carried) (carried : List Carried) → u.first ≡ t.first → u.request ≡ t.request
    → (opened_it x.number (framed_after named carried c).placed ≡ true → IsBegunBy t (framed_after named carried c))
    → IfSome (opening_of x.number named carried) (IsBegunBy t) → IfSome (opening_of x.number named (c ∷ carried)) (IsBegunBy u)
begun_more t u x named c carried first request opens was = by (opening_of x.number named carried) (opened_it x.number (framed_after named carried c).placed) opens was where
  by : (o : Option Framed) (b : Bool) → (b ≡ true → IsBegunBy t (framed_after named carried c)) → IfSome o (IsBegunBy t) → IfSome (or_this o b (framed_after named carried c)) (IsBegunBy u)
  by None true opens was = begun_so t u first request (framed_after named carried c) (opens refl)
  by None false opens was = tt
  by (Some g) b opens was = begun_so t u first request g was

module _ (old new : BTreeMap ℕ Trail) (m : ℕ) (t u : Trail) (was : get nat_cmp old m ≡ Some t) (updates : (n : ℕ) → get nat_cmp new n ≡ cond (is_eq (nat_cmp m n)) (Some u) (get nat_cmp old n))
    (judging : Judging) (named out : List ℕ) (c : Carried) (carried : List Carried) (begun : AreTrailsBegun old judging named out c carried) where
  -- what is known of the trail that it is handed to
  pub held_there : IsTrailKept judging named out (whole_of named (c ∷ carried)) carried m (Some t)
  held_there = subst (IsTrailKept judging named out (whole_of named (c ∷ carried)) carried m) was (begun m).0

  pub number_there : t.transfer.number ≡ m
  number_there = opened_number m (whole_of named (c ∷ carried)) t.transfer held_there.0

  pub begins_there : opened_it t.transfer.number (framed_after named carried c).placed ≡ true → IsBegunBy t (framed_after named carried c)
  begins_there opens = subst (λ o. IfSome o (λ k. IsBegunBy k (framed_after named carried c))) was ((begun m).1 (subst (λ k. opened_it k (framed_after named carried c).placed ≡ true) number_there opens))

  pub one_handed : ((n : ℕ) → is_about_it n (framed_after named carried c) ≡ (m == n)) → u.first ≡ t.first → u.request ≡ t.request
      → IsTrailOf u judging t.transfer named (c ∷ carried) → IsTrailBetween u judging t.transfer named (c ∷ carried) → AreTrailsKept new judging named out (c ∷ carried)
  one_handed about first request own between = λ n. by_test (m == n)
      (λ is. subst (IsTrailKept judging named out (whole_of named (c ∷ carried)) (c ∷ carried) n) (sym (there old new m t u was updates n is))
      (held_on old new m t u was updates judging named out (whole_of named (c ∷ carried)) carried (c ∷ carried) n
      (λ after. record { own = own; between = between; begun = begun_more t u t.transfer named c carried first request begins_there after.begun })
      (subst (IsTrailKept judging named out (whole_of named (c ∷ carried)) carried n) (was_at old new m t u was updates n is) (begun n).0)))
      (λ off. subst (IsTrailKept judging named out (whole_of named (c ∷ carried)) (c ∷ carried) n) (sym (elsewhere old new m t u was updates n off))
      (passes_by judging named out c carried n (get nat_cmp old n) (about n ∙ off) (begun n).0))

-- ---- one is handed out

pub trails_unchanged : (old new : BTreeMap ℕ Trail) (judging : Judging) (named out : List ℕ) (carried : List Carried) → IsUnchanged old new → AreTrailsKept old judging named out carried → AreTrailsKept new judging named out carried
trails_unchanged old new judging named out carried same kept = λ n.
    subst (IsTrailKept judging named out (whole_of named carried) carried n) (sym (ap (λ es. lookup (is_at (nat_cmp n)) es) same)) (kept n)

pub trail_here : (trails : BTreeMap ℕ Trail) (judging : Judging) (named out : List ℕ) (carried : List Carried) (k : ℕ) (t : Trail) → get nat_cmp trails k ≡ Some t → AreTrailsKept trails judging named out carried
    → IsTrailKept judging named out (whole_of named carried) carried k (Some t)
trail_here trails judging named out carried k t was kept = subst (IsTrailKept judging named out (whole_of named carried) carried k) was (kept k)

trail_out : (judging : Judging) (named out : List ℕ) (m : ℕ) (carried : List Carried) (n : ℕ) (o : Option Trail) → (m == n) ≡ false → IsTrailKept judging named out (whole_of named carried) carried n o
    → IsTrailKept judging named (m ∷ out) (whole_of named carried) carried n o
trail_out judging named out m carried n None off (inl none) = inl none
trail_out judging named out m carried n None off (inr gone) = inr (or_right (m == n) (is_among n out) gone)
trail_out judging named out m carried n (Some t) off kept = (kept.0, ap (λ b. b || is_among n out) off ∙ kept.1, kept.2)

pub trails_less : (old new : BTreeMap ℕ Trail) (judging : Judging) (named out : List ℕ) (carried : List Carried) (k : ℕ)
    → ((n : ℕ) → get nat_cmp new n ≡ cond (is_eq (nat_cmp k n)) None (get nat_cmp old n)) → AreTrailsKept old judging named out carried → AreTrailsKept new judging named (k ∷ out) carried
trails_less old new judging named out carried k updates kept = λ n. by_test (k == n)
    (λ is. subst (IsTrailKept judging named (k ∷ out) (whole_of named carried) carried n) (sym (updates n ∙ ap (λ b. cond b None (get nat_cmp old n)) (same_number k n ∙ is)))
    (inr (ap (λ b. b || is_among n out) is)))
    (λ off. subst (IsTrailKept judging named (k ∷ out) (whole_of named carried) carried n) (sym (updates n ∙ ap (λ b. cond b None (get nat_cmp old n)) (same_number k n ∙ off)))
    (trail_out judging named out k carried n (get nat_cmp old n) off (kept n)))

-- none is kept
pub no_trails : (judging : Judging) (named out : List ℕ) (carried : List Carried) (n : ℕ) (o : Option Trail) → o ≡ None → IsTrailKept judging named out (whole_of named carried) carried n o
    → (opened n (whole_of named carried) ≡ None) ⊎ (is_among n out ≡ true)
no_trails judging named out carried n None is kept = kept
no_trails judging named out carried n (Some t) is kept = absurd (cc)

pub at_most : (k n : ℕ) → is_gt (nat_cmp k n) ≡ false → k ≤ n
at_most k n off = search rules

is_kept : (judging : Judging) (named out : List ℕ) (carried : List Carried) (n : ℕ) (x : Transfer) (o : Option Trail) → opened n (whole_of named carried) ≡ Some x → is_among n out ≡ false
    → IsTrailKept judging named out (whole_of named carried) carried n o → IsSome o
is_kept judging named out carried n x None is once (inl none) = let no : Some x ≡ None = sym is ∙ none in absurd (cc)
is_kept judging named out carried n x None is once (inr gone) = absurd (true≢false (sym gone ∙ once))
is_kept judging named out carried n x (Some t) is once kept = refl

-- the first trail is that of the first judges
module _ (trails : BTreeMap ℕ Trail) (judging : Judging) (named out : List ℕ) (carried : List Carried) (k : ℕ) (t : Trail) (was : get nat_cmp trails k ≡ Some t)
    (least : IsLowerBound nat_cmp trails k) (kept : AreTrailsKept trails judging named out carried) (x : Transfer) (is : opened x.number (whole_of named carried) ≡ Some x) (once : is_among x.number out ≡ false)
    (first : x.number ≤ k) where
  pub first_number : k ≡ x.number
  first_number =
      let down : k ≤ x.number = at_most k x.number (least x.number (is_kept judging named out carried x.number x (get nat_cmp trails x.number) is once (kept x.number))) in
      let up : x.number ≤ k = first in
      omega arith

  same_transfer_first : t.transfer ≡ x
  same_transfer_first =
      let held = trail_here trails judging named out carried k t was kept in
      let both : Some t.transfer ≡ Some x = sym held.0 ∙ ap (λ n. opened n (whole_of named carried)) first_number ∙ is in
      cc

  pub first_trail : IsTrailAfter t judging x named carried
  first_trail = subst (λ (y : Transfer). IsTrailAfter t judging y named carried) same_transfer_first (trail_here trails judging named out carried k t was kept).2

  pub others_kept : (new : BTreeMap ℕ Trail) → ((n : ℕ) → get nat_cmp new n ≡ cond (is_eq (nat_cmp k n)) None (get nat_cmp trails n)) → AreTrailsKept new judging named (x.number ∷ out) carried
  others_kept new updates = subst (λ n. AreTrailsKept new judging named (n ∷ out) carried) first_number (trails_less trails new judging named out carried k updates kept)

-- ---- what is known beside what was told

pub told_too : {T E X : Type 0} (r : Result T E) (Is Are : X → Type 0) (P : Type 0) → OnOk r ((t : X) × Is t × Are t) → OnOk r P → OnOk r ((t : X) × Is t × (Are t × P))
told_too (Ok x) Is Are P told is = (told.0, told.1, (told.2, is))
told_too (Err e) Is Are P told is = tt

pub on_ok_both : {T E A B C : Type 0} (r : Result T E) → (A → B → C) → OnOk r A → OnOk r B → OnOk r C
on_ok_both (Ok x) f a b = f a b
on_ok_both (Err e) f a b = tt

pub always_err : {T E P : Type 0} (r : Result T E) → P → OnErr r P
always_err (Ok x) is = tt
always_err (Err e) is = is

pub if_both : {X : Type 0} (P Q : X → Type 0) (o : Option X) → IfSome o P → IfSome o Q → IfSome o (λ x. P x × Q x)
if_both P Q None p q = tt
if_both P Q (Some x) p q = (p, q)

pub if_some_so : {X : Type 0} (P Q : X → Type 0) (o : Option X) → ((x : X) → P x → Q x) → IfSome o P → IfSome o Q
if_some_so P Q None so p = tt
if_some_so P Q (Some x) so p = so x p

pub none_mapped : {X Y : Type 0} (f : X → Y) (r : Option X) (w : Option Y) → option_map f r ≡ w → r ≡ None → w ≡ None
none_mapped f r w is none = sym is ∙ ap (option_map f) none

pub no_entries : (trails : BTreeMap ℕ Trail) (n : ℕ) → ((0 < length trails.entries) → ⊥) → get nat_cmp trails n ≡ None
no_entries trails n none = ap (λ es. lookup (is_at (nat_cmp n)) es) (empty trails.entries none) where
  empty : {X : Type 0} (xs : List X) → ((0 < length xs) → ⊥) → xs ≡ []
  empty [] none = refl
  empty (x ∷ xs) none = absurd (none (omega arith))
