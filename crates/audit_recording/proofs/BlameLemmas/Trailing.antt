-- What is kept of a transfer, with one datagram more. Lists have the newest first.
use Rattle.std.proofs.Common.{◌≡◌, ◌+◌, ◌-◌, ◌^◌, ◌&&◌, ◌||◌, ℕ, suc, Bool, true, false, true≢false, List, [], ◌∷◌, arith, filter, length, map, max, min, Option, Some, None, IfSome, IsSome, is_some, option_map, codes, refl, sym, ap, subst, ◌∙◌, unwrap_or}
use Rattle.std.specs.List.{list_any}
use Rattle.law_model.specs.Rules.{first_of, or_this}
use Rattle.audit_flows.specs.Lines.{Placed, Recorded, agrees_late, begins_error, begins_unknown_id, is_of, may_be_earlier, rests_on_terms, same_endpoint, says_unknown_id, transfer_of}
use Rattle.audit_flows.specs.{Place, Transfer, TransferEnds}
use Rattle.audit_flows.specs.declared.lines.place.Place.TheVariants.{Opens, Repeats, Talks, Apart, Beside, Nowhere}
use Rattle.audit_flows.specs.Transfers.{AreEndsAfter, answered_by, asked_of, comes_of_earlier, is_about, opened_it, some_of, tells_strays, went_on_with}
use Rattle.audit_flows.proofs.LinesLemmas.Lines.{by_test}
use Rattle.audit_flows.proofs.TransfersLemmas.OwnDatagrams.{about_none, answered_kept, asked_kept, went_on_kept}
use Rattle.audit_recording.specs.declared.blame.blame.Blame.{Blame}
use Rattle.audit_recording.specs.declared.judges.judging.Judging.{Judging}
use Rattle.audit_recording.specs.declared.rows.row.Point.TheVariants.{Client, Server, Between}
use Rattle.audit_recording.specs.Judges.{rollover_of}
use Rattle.audit_recording.specs.Blame.Frames.{Carried, Framed, framed, framed_after, view_of, whole_of}
use Rattle.audit_recording.specs.Blame.Kept.{IsBlameOf, IsNoted, IsPassing, IsTrailBetween, IsTrailOf, comes_to, first_frame, has_several, is_about_it, is_copied, is_damaged, is_spoilt, is_wrong, last_frame, last_time_in, passed_of, sent_of}
use Rattle.audit_recording.specs.Reasons.Twice.{IsTwiceAfter, sent}
use Rattle.audit_recording.specs.Blame.Facts.{blamed_of, has_gone_on, is_for_server}
use Rattle.audit_recording.specs.Blame.Several.{is_joined}
use Rattle.audit_recording.specs.Reasons.Listed.{goes_on_by_more}
use Rattle.audit_recording.specs.Blame.Named.{is_named, named_in, names_option, with_named}
use Rattle.audit_recording.specs.Endings.Kept.{IsClosingOf}
use Rattle.audit_recording.specs.declared.blame.passed.Passed.{Passed}
use Rattle.audit_recording.specs.declared.blame.passing.Passing.{Passing}
use Rattle.audit_recording.specs.declared.blame.trail.Trail.{Trail}
use Rattle.audit_views.proofs.ViewsLemmas.Holding.{ends_too}
use Rattle.audit_recording.proofs.BlameLemmas.Holding.{facts_passed_by, filter_both, filter_map, filter_none, filter_one}

-- the datagrams in their frames are those of the recording
pub all_placed : (named : List ℕ) (carried : List Carried) → map (λ (f : Framed). f.placed) (framed named carried) ≡ whole_of named carried
all_placed named [] = refl
all_placed named (c ∷ carried) = ap (λ l. (framed_after named carried c).placed ∷ l) (all_placed named carried)

-- a datagram is held as it is by its parts
pub passed_same : (x : Transfer) (f : Framed) (q : Passed) → q.blamed ≡ blamed_of x f → q.place ≡ f.placed.place → q.target ≡ f.placed.datagram.target → q ≡ passed_of x f
passed_same x f q blamed place target = λ i. record { blamed = blamed i; place = place i; target = target i }

-- ---- what a datagram is of

module _ (n : ℕ) (d : Recorded) (now : ℕ) where
  own_by : (place : Place) → is_about n (record { datagram = d; moment = now; place = place }) ≡ true → is_of n (record { datagram = d; moment = now; place = place }) ≡ is_some (transfer_of place)
  own_by (Opens x) about = about
  own_by (Repeats x) about = about
  own_by (Talks x) about = about
  own_by (Apart c) about = absurd (true≢false (sym about))
  own_by (Beside x) about = refl
  own_by Nowhere about = absurd (true≢false (sym about))

  opens_by : (place : Place) → is_about n (record { datagram = d; moment = now; place = place }) ≡ false → opened_it n (record { datagram = d; moment = now; place = place }) ≡ false
  opens_by (Opens x) off = off
  opens_by _ off = refl

  going_by : (older : List Placed) (place : Place) → is_about n (record { datagram = d; moment = now; place = place }) ≡ true
      → (is_of n (record { datagram = d; moment = now; place = place }) && goes_on_by_more (record { datagram = d; moment = now; place = place }) older) ≡ goes_on_by_more (record { datagram = d; moment = now; place = place }) older
  going_by older (Opens x) about = ap (λ b. b && goes_on_by_more (record { datagram = d; moment = now; place = Opens x }) older) about
  going_by older (Repeats x) about = ap (λ b. b && goes_on_by_more (record { datagram = d; moment = now; place = Repeats x }) older) about
  going_by older (Talks x) about = ap (λ b. b && goes_on_by_more (record { datagram = d; moment = now; place = Talks x }) older) about
  going_by older (Apart c) about = refl
  going_by older (Beside x) about = refl
  going_by older Nowhere about = refl

  says_by : (place : Place) → begins_unknown_id d.payload ≡ false → says_unknown_id (record { datagram = d; moment = now; place = place }) ≡ false
  says_by (Talks x) off = off
  says_by _ off = refl

pub own_about : (n : ℕ) (p : Placed) → is_about n p ≡ true → is_of n p ≡ is_some (transfer_of p.place)
own_about n p = own_by n p.datagram p.moment p.place

-- by one that is about it its client goes on, or not
going_about : (n : ℕ) (p : Placed) (older : List Placed) → is_about n p ≡ true → (is_of n p && goes_on_by_more p older) ≡ goes_on_by_more p older
going_about n p older = going_by n p.datagram p.moment older p.place

-- ---- what tells of strays

off_or : (a b : Bool) → a ≡ false → (a || b) ≡ b
off_or true b off = absurd (true≢false off)
off_or false b off = refl

on_or : (a b c : Bool) → a ≡ true → (a || b) ≡ (a || c)
on_or true b c is = refl
on_or false b c is = absurd (true≢false (sym is))

and_off : (a b : Bool) → b ≡ false → (a && b) ≡ false
and_off true b off = off
and_off false b off = refl

pub tells_by : (n : ℕ) (p : Placed) (older : List Placed) (payload : List ℕ) (unknown error says : Bool) → p.datagram.payload ≡ payload → unknown ≡ begins_unknown_id payload → error ≡ begins_error payload
    → says ≡ some_of n (λ q before. says_unknown_id q) (p ∷ older) → (unknown || (error && says)) ≡ tells_strays n p older
tells_by n p older payload unknown error says same is_unknown is_error is =
    ap (λ b. b || (error && says)) is_unknown
    ∙ ap (λ b. begins_unknown_id payload || (b && says)) is_error
    ∙ ap (λ l. begins_unknown_id l || (begins_error l && says)) (sym same)
    ∙ by_test (begins_unknown_id p.datagram.payload)
    (λ on. on_or (begins_unknown_id p.datagram.payload) (begins_error p.datagram.payload && says) (begins_error p.datagram.payload && some_of n (λ q before. says_unknown_id q) older) on)
    (λ off. ap (λ b. begins_unknown_id p.datagram.payload || (begins_error p.datagram.payload && b))
    (is ∙ off_or (is_of n p && says_unknown_id p) (some_of n (λ q before. says_unknown_id q) older)
    (and_off (is_of n p) (says_unknown_id p) (says_by n p.datagram p.moment p.place off))))

pub comes_by : (n : ℕ) (p : Placed) (older : List Placed) (may agrees rests : Bool) → may ≡ may_be_earlier p older → agrees ≡ some_of n agrees_late (p ∷ older) → rests ≡ rests_on_terms p
    → (may || (agrees && rests)) ≡ comes_of_earlier n p older
comes_by n p older may agrees rests is_may is_late is_resting =
    ap (λ b. b || (agrees && rests)) is_may ∙ ap (λ b. may_be_earlier p older || (b && rests)) is_late ∙ ap (λ b. may_be_earlier p older || (some_of n agrees_late (p ∷ older) && b)) is_resting

-- ---- the facts of one datagram that is not about the transfer

pub blame_passed_by : (b : Blame) (judging : Judging) (x : Transfer) (f : Framed) (whole : List Placed) (frames : List Framed) → is_about_it x.number f ≡ false
    → IsBlameOf b judging x whole frames → IsBlameOf b judging x (f.placed ∷ whole) (f ∷ frames)
blame_passed_by b judging x f whole frames off are = record {
  client = λ there. facts_passed_by (rollover_of judging) b.at_client Client x f whole frames off (are.client there);
  server = λ there. facts_passed_by (rollover_of judging) b.at_server Server x f whole frames off (are.server there);
}

-- ---- before any datagram of the transfer

module _ (n : ℕ) (frames : List Framed) (unheard : filter (is_about_it n) frames ≡ []) where
  pub view_unheard : filter (λ (f : Framed). is_of n f.placed) frames ≡ []
  view_unheard = sym (filter_both (λ (f : Framed). is_of n f.placed) (is_about_it n) (λ f off. about_none n f.placed off) frames) ∙ ap (filter (λ (f : Framed). is_of n f.placed)) unheard

pub first_unheard : (n : ℕ) (test : Framed → Bool) → ((f : Framed) → is_about_it n f ≡ false → test f ≡ false) → (frames : List Framed) → filter (is_about_it n) frames ≡ [] → first_of test frames ≡ None
first_unheard n test none [] unheard = refl
first_unheard n test none (f ∷ frames) unheard = by_test (is_about_it n f)
    (λ is. let both : f ∷ filter (is_about_it n) frames ≡ [] = sym (filter_one (is_about_it n) f frames is) ∙ unheard in absurd (cc))
    (λ off.
    ap (λ o. or_this o (test f) f) (first_unheard n test none frames (sym (filter_none (is_about_it n) f frames off) ∙ unheard))
    ∙ ap (λ b. or_this None b f) (none f off))

pub no_first : (n : ℕ) (test : Framed → Bool) → ((f : Framed) → is_about_it n f ≡ false → test f ≡ false) → (frames : List Framed) → filter (is_about_it n) frames ≡ [] → first_frame test frames ≡ None
no_first n test none frames unheard = ap (option_map (λ (f : Framed). f.carried.frame)) (first_unheard n test none frames unheard)

whole_unheard : (n : ℕ) (named : List ℕ) (carried : List Carried) → filter (is_about_it n) (framed named carried) ≡ [] → filter (is_about n) (whole_of named carried) ≡ []
whole_unheard n named carried unheard =
    ap (filter (is_about n)) (sym (all_placed named carried))
    ∙ filter_map (λ (f : Framed). f.placed) (is_about n) (framed named carried)
    ∙ ap (map (λ (f : Framed). f.placed)) unheard

pub ends_unheard : (t : TransferEnds) (n : ℕ) (named : List ℕ) (carried : List Carried) → t.number ≡ n → filter (is_about_it n) (framed named carried) ≡ [] → AreEndsAfter t []
    → AreEndsAfter t (whole_of named carried)
ends_unheard t n named carried is unheard new =
    let whole = whole_of named carried in
    let none : filter (is_about n) whole ≡ [] = whole_unheard n named carried unheard in
    record {
      asked = new.asked ∙ ap (asked_of t.number) (sym none) ∙ ap (λ k. asked_of k (filter (is_about n) whole)) is ∙ asked_kept n (is_about n) (about_none n) whole ∙ ap (λ k. asked_of k whole) (sym is);
      answered = new.answered ∙ ap (answered_by t.number) (sym none) ∙ ap (λ k. answered_by k (filter (is_about n) whole)) is ∙ answered_kept n (is_about n) (about_none n) whole ∙ ap (λ k. answered_by k whole) (sym is);
      went_on = new.went_on ∙ ap (went_on_with t.number) (sym none) ∙ ap (λ k. went_on_with k (filter (is_about n) whole)) is ∙ went_on_kept n (is_about n) (about_none n) whole ∙ ap (λ k. went_on_with k whole) (sym is);
    }

-- its client goes on by none that is not about it
gone_same : (x : Transfer) (p : Placed) (whole : List Placed) → is_about x.number p ≡ false → has_gone_on x (p ∷ whole) ≡ has_gone_on x whole
gone_same x p whole off = ap (λ b. (b && (same_endpoint p.datagram.source x.client && is_for_server p.datagram.payload)) || has_gone_on x whole) (about_none x.number p off)

gone_unheard : (x : Transfer) (whole : List Placed) → filter (is_about x.number) whole ≡ [] → has_gone_on x whole ≡ false
gone_unheard x [] unheard = refl
gone_unheard x (p ∷ whole) unheard = by_test (is_about x.number p)
    (λ is. let both : p ∷ filter (is_about x.number) whole ≡ [] = sym (filter_one (is_about x.number) p whole is) ∙ unheard in absurd (cc))
    (λ off. gone_same x p whole off ∙ gone_unheard x whole (sym (filter_none (is_about x.number) p whole off) ∙ unheard))

going_same : (n : ℕ) (p : Placed) (whole : List Placed) → is_about n p ≡ false → some_of n goes_on_by_more (p ∷ whole) ≡ some_of n goes_on_by_more whole
going_same n p whole off = ap (λ b. (b && goes_on_by_more p whole) || some_of n goes_on_by_more whole) (about_none n p off)

going_unheard : (n : ℕ) (whole : List Placed) → filter (is_about n) whole ≡ [] → some_of n goes_on_by_more whole ≡ false
going_unheard n [] unheard = refl
going_unheard n (p ∷ whole) unheard = by_test (is_about n p)
    (λ is. let both : p ∷ filter (is_about n) whole ≡ [] = sym (filter_one (is_about n) p whole is) ∙ unheard in absurd (cc))
    (λ off. going_same n p whole off ∙ going_unheard n whole (sym (filter_none (is_about n) p whole off) ∙ unheard))

-- what is not about it names nothing of it
is_named_same : (name : List ℕ) (x : Transfer) (p : Placed) (whole : List Placed) → is_about x.number p ≡ false → is_named name x (p ∷ whole) ≡ is_named name x whole
is_named_same name x p whole off = ap (λ b. (b && names_option name p.datagram.payload) || is_named name x whole) off

named_same : (x : Transfer) (p : Placed) (whole : List Placed) → is_about x.number p ≡ false → named_in x (p ∷ whole) ≡ named_in x whole
named_same x p whole off = λ i. record { windows = is_named_same (codes "windowsize") x p whole off i; sizes = is_named_same (codes "blksize") x p whole off i }

named_unheard : (x : Transfer) (whole : List Placed) → filter (is_about x.number) whole ≡ [] → named_in x whole ≡ record { windows = false; sizes = false }
named_unheard x [] unheard = refl
named_unheard x (p ∷ whole) unheard = by_test (is_about x.number p)
    (λ is. let both : p ∷ filter (is_about x.number) whole ≡ [] = sym (filter_one (is_about x.number) p whole is) ∙ unheard in absurd (cc))
    (λ off. named_same x p whole off ∙ named_unheard x whole (sym (filter_none (is_about x.number) p whole off) ∙ unheard))

-- what is about it names this too
named_more : (x : Transfer) (p : Placed) (whole : List Placed) → is_about x.number p ≡ true → with_named p.datagram.payload (named_in x whole) ≡ named_in x (p ∷ whole)
named_more x p whole is = λ i. record { windows = more (codes "windowsize") i; sizes = more (codes "blksize") i } where
  more : (name : List ℕ) → (names_option name p.datagram.payload || is_named name x whole) ≡ is_named name x (p ∷ whole)
  more name = ap (λ b. (b && names_option name p.datagram.payload) || is_named name x whole) (sym is)

pub opens_about : (n : ℕ) (f : Framed) → is_about_it n f ≡ false → opened_it n f.placed ≡ false
opens_about n f off = opens_by n f.placed.datagram f.placed.moment f.placed.place off

-- ---- one more

-- what its client's view tells of a transfer
record IsTold (t : Trail) (x : Transfer) (view : List Framed) : Type 0 where
  pub last : t.last ≡ last_frame t.first view
  pub count : t.count ≡ min (length view) (2 ^ 64 - 1)
  pub last_time : t.last_time ≡ last_time_in view
  pub is_answered : t.is_answered ≡ list_any (comes_to x) view

pub one_counted : (k n m most : ℕ) → k ≡ min n most → m ≡ min (k + 1) most → m ≡ min (suc n) most
one_counted k n m most was is = omega (arith, was, is)

told_own : (old mid : Trail) (x : Transfer) (f : Framed) (passing : Passing) (view : List Framed) → old.transfer ≡ x → IsPassing passing f.carried → f.placed.datagram ≡ f.carried.datagram
    → IsNoted old mid passing → IsTold old x view → IsTold mid x (f ∷ view)
told_own old mid x f passing view own passes same noted was = record {
  last = noted.last ∙ passes.frame;
  count = one_counted old.count (length view) mid.count (2 ^ 64 - 1) was.count noted.count;
  last_time = noted.last_time ∙ ap (λ t. max t (unwrap_or passing.time 0)) was.last_time ∙ ap (λ t. max (last_time_in view) (unwrap_or t 0)) passes.time;
  is_answered =
      noted.is_answered
      ∙ ap (λ e. same_endpoint e old.transfer.client || old.is_answered) (passes.target ∙ ap (λ (d : Recorded). d.target) (sym same))
      ∙ ap (λ (y : Transfer). same_endpoint f.placed.datagram.target y.client || old.is_answered) own
      ∙ ap (λ b. same_endpoint f.placed.datagram.target x.client || b) was.is_answered;
}

first_one : (test : Framed → Bool) (f : Framed) (frames : List Framed) (known : Option ℕ) (holds : Bool) (frame : ℕ) → known ≡ first_frame test frames → holds ≡ test f → frame ≡ f.carried.frame
    → or_this known holds frame ≡ first_frame test (f ∷ frames)
first_one test f frames known holds frame is same at =
    ap (λ o. or_this o holds frame) is ∙ ap (λ b. or_this (first_frame test frames) b frame) same ∙ ap (or_this (first_frame test frames) (test f)) at ∙ by (first_of test frames) (test f)
  where
    by : (o : Option Framed) (b : Bool) → or_this (option_map (λ (g : Framed). g.carried.frame) o) b f.carried.frame ≡ option_map (λ (g : Framed). g.carried.frame) (or_this o b f)
    by None true = refl
    by None false = refl
    by (Some g) b = refl

and_first : (a b c : Bool) → a ≡ true → b ≡ c → b ≡ (a && c)
and_first true b c is same = same
and_first false b c is same = absurd (true≢false (sym is))

opening_one : (test : Framed → Bool) (f : Framed) (frames : List Framed) (first : ℕ) → (test f ≡ true → f.carried.frame ≡ first) → IfSome (first_frame test frames) (λ frame. frame ≡ first)
    → IfSome (first_frame test (f ∷ frames)) (λ frame. frame ≡ first)
opening_one test f frames first opens was = by (first_of test frames) (test f) opens was where
  by : (o : Option Framed) (b : Bool) → (b ≡ true → f.carried.frame ≡ first) → IfSome (option_map (λ (g : Framed). g.carried.frame) o) (λ frame. frame ≡ first)
      → IfSome (option_map (λ (g : Framed). g.carried.frame) (or_this o b f)) (λ frame. frame ≡ first)
  by None true opens was = opens refl
  by None false opens was = tt
  by (Some g) b opens was = was

module _ (old mid new : Trail) (judging : Judging) (x : Transfer) (named : List ℕ) (c : Carried) (carried : List Carried) (passing : Passing)
    (was : IsTrailOf old judging x named carried) (passes : IsPassing passing c) (about : is_about_it x.number (framed_after named carried c) ≡ true) where
  abbrev pub f : Framed
  f = framed_after named carried c

  abbrev pub view : List Framed
  view = view_of Client x.number named carried

  tells : IsTold old x view
  tells = record { last = was.last; count = was.count; last_time = was.last_time; is_answered = was.is_answered }

  -- it was noted if it passed at the client
  record IsMid : Type 0 where
    pub first : mid.first ≡ old.first
    pub transfer : mid.transfer ≡ old.transfer
    pub copied_from : mid.copied_from ≡ old.copied_from
    pub damaged : mid.damaged ≡ old.damaged
    pub spoilt : mid.spoilt ≡ old.spoilt
    pub joined : mid.joined ≡ old.joined
    pub goes_on : mid.goes_on ≡ old.goes_on
    pub options : mid.options ≡ old.options
    pub told : IsTold mid x (view_of Client x.number named (c ∷ carried))

  noted_at : (place : Place) → place ≡ f.placed.place → (IsSome (transfer_of place) → IsNoted old mid passing) → (transfer_of place ≡ None → mid ≡ old) → IsMid
  noted_at place at own beside = by (transfer_of place) refl where
    is_own : is_of x.number f.placed ≡ is_some (transfer_of place)
    is_own = own_about x.number f.placed about ∙ ap (λ p. is_some (transfer_of p)) (sym at)

    by : (o : Option Transfer) → transfer_of place ≡ o → IsMid
    by None none =
        let same : mid ≡ old = beside none in
        let view_same : view_of Client x.number named (c ∷ carried) ≡ view = filter_none (λ (g : Framed). is_of x.number g.placed) f (framed named carried) (is_own ∙ ap is_some none) in
        record {
          first = ap (λ (t : Trail). t.first) same;
          transfer = ap (λ (t : Trail). t.transfer) same;
          copied_from = ap (λ (t : Trail). t.copied_from) same;
          damaged = ap (λ (t : Trail). t.damaged) same;
          spoilt = ap (λ (t : Trail). t.spoilt) same;
          joined = ap (λ (t : Trail). t.joined) same;
          goes_on = ap (λ (t : Trail). t.goes_on) same;
          options = ap (λ (t : Trail). t.options) same;
          told = subst (λ (t : Trail). IsTold t x (view_of Client x.number named (c ∷ carried))) (sym same) (subst (IsTold old x) (sym view_same) tells);
        }
    by (Some y) is =
        let noted : IsNoted old mid passing = own (subst IsSome (sym is) refl) in
        let view_more : view_of Client x.number named (c ∷ carried) ≡ f ∷ view = filter_one (λ (g : Framed). is_of x.number g.placed) f (framed named carried) (is_own ∙ ap is_some is) in
        record {
          first = noted.first;
          transfer = noted.transfer;
          copied_from = noted.copied_from;
          damaged = noted.damaged;
          spoilt = noted.spoilt;
          joined = noted.joined;
          goes_on = noted.goes_on;
          options = noted.options;
          told = subst (IsTold mid x) (sym view_more) (told_own old mid x f passing view was.transfer passes refl noted tells);
        }

  -- it stands beside its equal, or not
  pub twice_at : (place : Place) → place ≡ f.placed.place
      → (IsSome (transfer_of place) → IsTwiceAfter mid.twice (sent passing.source passing.target passing.payload.now ∷ map sent_of view)) → (transfer_of place ≡ None → mid ≡ old)
      → IsTwiceAfter mid.twice (map sent_of (view_of Client x.number named (c ∷ carried)))
  twice_at place at own beside = by (transfer_of place) refl where
    is_own : is_of x.number f.placed ≡ is_some (transfer_of place)
    is_own = own_about x.number f.placed about ∙ ap (λ p. is_some (transfer_of p)) (sym at)

    by : (o : Option Transfer) → transfer_of place ≡ o → IsTwiceAfter mid.twice (map sent_of (view_of Client x.number named (c ∷ carried)))
    by None none =
        let view_same : view_of Client x.number named (c ∷ carried) ≡ view = filter_none (λ (g : Framed). is_of x.number g.placed) f (framed named carried) (is_own ∙ ap is_some none) in
        subst (λ l. IsTwiceAfter mid.twice (map sent_of l)) (sym view_same) (subst (λ (t : Trail). IsTwiceAfter t.twice (map sent_of view)) (sym (beside none)) was.twice)
    by (Some y) is =
        let view_more : view_of Client x.number named (c ∷ carried) ≡ f ∷ view = filter_one (λ (g : Framed). is_of x.number g.placed) f (framed named carried) (is_own ∙ ap is_some is) in
        let same : sent passing.source passing.target passing.payload.now ≡ sent_of f = λ i. sent (passes.source i) (passes.target i) (passes.payload i) in
        subst (λ l. IsTwiceAfter mid.twice (map sent_of l)) (sym view_more)
        (subst (λ d. IsTwiceAfter mid.twice (d ∷ map sent_of view)) same (own (subst IsSome (sym is) refl)))

  -- what some datagram about it names
  pub named_at : (place : Place) → place ≡ f.placed.place → (IsSome (transfer_of place) → IsNoted old mid passing) → (transfer_of place ≡ None → mid ≡ old)
      → with_named passing.payload.now mid.options ≡ named_in x (whole_of named (c ∷ carried))
  named_at place at own beside =
      (λ i. with_named (passes.payload i) ((noted_at place at own beside).options i))
      ∙ ap (with_named c.datagram.payload) was.options
      ∙ named_more x f.placed (whole_of named carried) about

  -- its client has gone on by then, or not
  pub gone_at : (place : Place) → place ≡ f.placed.place → (IsSome (transfer_of place) → IsNoted old mid passing) → (transfer_of place ≡ None → mid ≡ old)
      → mid.has_gone_on ≡ has_gone_on x (whole_of named (c ∷ carried))
  gone_at place at own beside = by (transfer_of place) refl where
    is_own : is_of x.number f.placed ≡ is_some (transfer_of place)
    is_own = own_about x.number f.placed about ∙ ap (λ p. is_some (transfer_of p)) (sym at)

    among : Bool → Bool
    among b = (b && (same_endpoint c.datagram.source x.client && is_for_server c.datagram.payload)) || has_gone_on x (whole_of named carried)

    by : (o : Option Transfer) → transfer_of place ≡ o → mid.has_gone_on ≡ has_gone_on x (whole_of named (c ∷ carried))
    by None none = ap (λ (t : Trail). t.has_gone_on) (beside none) ∙ was.has_gone_on ∙ ap among (sym (is_own ∙ ap is_some none))
    by (Some y) is =
        (own (subst IsSome (sym is) refl)).has_gone_on
        ∙ (λ i. (same_endpoint (passes.source i) (was.transfer i).client && is_for_server (passes.payload i)) || was.has_gone_on i)
        ∙ ap among (sym (is_own ∙ ap is_some is))

  -- its client has gone on by more than an ERROR by then, or not
  pub going_at : (place : Place) → place ≡ f.placed.place → (IsSome (transfer_of place) → IsNoted old mid passing) → (transfer_of place ≡ None → mid ≡ old)
      → (goes_on_by_more f.placed (whole_of named carried) || mid.goes_on) ≡ some_of x.number goes_on_by_more (whole_of named (c ∷ carried))
  going_at place at own beside =
      λ i. sym (going_about x.number f.placed (whole_of named carried) about) i || ((noted_at place at own beside).goes_on ∙ was.goes_on) i

  pub trail_more : (place : Place) → place ≡ f.placed.place → (IsSome (transfer_of place) → IsNoted old mid passing) → (transfer_of place ≡ None → mid ≡ old)
      → new.transfer ≡ mid.transfer → new.first ≡ mid.first → new.last ≡ mid.last → new.count ≡ mid.count → new.last_time ≡ mid.last_time → new.is_answered ≡ mid.is_answered
      → new.copied_from ≡ or_this mid.copied_from passing.is_doubtful passing.frame → new.damaged ≡ or_this mid.damaged passing.has_error passing.frame
      → new.spoilt ≡ or_this mid.spoilt passing.has_wrong_checksum passing.frame → new.joined ≡ or_this mid.joined passing.is_joined passing.frame
      → new.goes_on ≡ some_of x.number goes_on_by_more (whole_of named (c ∷ carried))
      → new.ends.number ≡ x.number → AreEndsAfter new.ends (whole_of named (c ∷ carried)) → (opened_it x.number f.placed ≡ true → c.frame ≡ old.first)
      → new.has_gone_on ≡ has_gone_on x (whole_of named (c ∷ carried)) → new.options ≡ named_in x (whole_of named (c ∷ carried))
      → IsTwiceAfter new.twice (map sent_of (view_of Client x.number named (c ∷ carried)))
      → IsClosingOf new.closing x (view_of Client x.number named (c ∷ carried))
      → IsBlameOf new.blame judging x (whole_of named (c ∷ carried)) (framed named (c ∷ carried)) → IsTrailOf new judging x named (c ∷ carried)
  trail_more place at own beside transfer first last count last_time is_answered copied_from damaged spoilt joined going number ends opens gone names twice closing blame =
      let m = noted_at place at own beside in
      let frames = framed named carried in
      record {
        transfer = transfer ∙ m.transfer ∙ was.transfer;
        number = number;
        ends = ends;
        first = subst (λ k. IfSome (first_frame (λ (g : Framed). opened_it x.number g.placed) (f ∷ frames)) (λ frame. frame ≡ k)) (sym (first ∙ m.first))
            (opening_one (λ (g : Framed). opened_it x.number g.placed) f frames old.first opens was.first);
        last = last ∙ m.told.last ∙ ap (λ k. last_frame k (view_of Client x.number named (c ∷ carried))) (sym first);
        count = count ∙ m.told.count;
        last_time = last_time ∙ m.told.last_time;
        is_answered = is_answered ∙ m.told.is_answered;
        has_gone_on = gone;
        options = names;
        twice = twice;
        copied_from = copied_from ∙ first_one (is_copied x.number) f frames mid.copied_from passing.is_doubtful passing.frame (m.copied_from ∙ was.copied_from)
            (and_first (is_about x.number f.placed) passing.is_doubtful c.is_doubtful about passes.is_doubtful) passes.frame;
        damaged = damaged ∙ first_one (is_damaged x.number) f frames mid.damaged passing.has_error passing.frame (m.damaged ∙ was.damaged)
            (and_first (is_about x.number f.placed) passing.has_error c.has_error about passes.has_error) passes.frame;
        spoilt = spoilt ∙ first_one (is_spoilt x.number) f frames mid.spoilt passing.has_wrong_checksum passing.frame (m.spoilt ∙ was.spoilt)
            (and_first (is_about x.number f.placed) passing.has_wrong_checksum (is_wrong c.checksum) about passes.has_wrong_checksum) passes.frame;
        joined = joined ∙ first_one (has_several x.number) f frames mid.joined passing.is_joined passing.frame (m.joined ∙ was.joined)
            (and_first (is_about x.number f.placed) passing.is_joined (is_joined c.checksum c.datagram.payload) about passes.is_joined) passes.frame;
        goes_on = going;
        closing = closing;
        blame = blame;
      }

-- ---- one that is not about it

pub or_none : {X : Type 0} (o : Option X) (x : X) (b : Bool) → b ≡ false → or_this o b x ≡ o
or_none None x true off = absurd (true≢false off)
or_none None x false off = refl
or_none (Some y) x b off = refl

first_same : (test : Framed → Bool) (f : Framed) (frames : List Framed) → test f ≡ false → first_frame test (f ∷ frames) ≡ first_frame test frames
first_same test f frames off = ap (option_map (λ (g : Framed). g.carried.frame)) (or_none (first_of test frames) f (test f) off)

and_none : (a b : Bool) → a ≡ false → (a && b) ≡ false
and_none true b off = absurd (true≢false off)
and_none false b off = refl

pub trail_passed_by : (t : Trail) (judging : Judging) (x : Transfer) (named : List ℕ) (c : Carried) (carried : List Carried) → is_about_it x.number (framed_after named carried c) ≡ false
    → IsTrailOf t judging x named carried → IsTrailOf t judging x named (c ∷ carried)
trail_passed_by t judging x named c carried off was =
    let f : Framed = framed_after named carried c in
    let frames = framed named carried in
    let view_same : view_of Client x.number named (c ∷ carried) ≡ view_of Client x.number named carried =
    filter_none (λ (g : Framed). is_of x.number g.placed) f frames (about_none x.number f.placed off) in
    record {
      transfer = was.transfer;
      number = was.number;
      ends = ends_too x.number (is_about x.number) (about_none x.number) f.placed (whole_of named carried) off t.ends was.number was.ends;
      first = subst (λ o. IfSome o (λ frame. frame ≡ t.first)) (sym (first_same (λ (g : Framed). opened_it x.number g.placed) f frames (opens_about x.number f off))) was.first;
      last = was.last ∙ ap (last_frame t.first) (sym view_same);
      count = was.count ∙ ap (λ (l : List Framed). min (length l) (2 ^ 64 - 1)) (sym view_same);
      last_time = was.last_time ∙ ap last_time_in (sym view_same);
      is_answered = was.is_answered ∙ ap (list_any (comes_to x)) (sym view_same);
      has_gone_on = was.has_gone_on ∙ sym (gone_same x f.placed (whole_of named carried) off);
      options = was.options ∙ sym (named_same x f.placed (whole_of named carried) off);
      twice = subst (λ l. IsTwiceAfter t.twice (map sent_of l)) (sym view_same) was.twice;
      copied_from = was.copied_from ∙ sym (first_same (is_copied x.number) f frames (and_none (is_about x.number f.placed) c.is_doubtful off));
      damaged = was.damaged ∙ sym (first_same (is_damaged x.number) f frames (and_none (is_about x.number f.placed) c.has_error off));
      spoilt = was.spoilt ∙ sym (first_same (is_spoilt x.number) f frames (and_none (is_about x.number f.placed) (is_wrong c.checksum) off));
      joined = was.joined ∙ sym (first_same (has_several x.number) f frames (and_none (is_about x.number f.placed) (is_joined c.checksum c.datagram.payload) off));
      goes_on = was.goes_on ∙ sym (going_same x.number f.placed (whole_of named carried) off);
      closing = subst (IsClosingOf t.closing x) (sym view_same) was.closing;
      blame = blame_passed_by t.blame judging x f (whole_of named carried) frames off was.blame;
    }

pub between_passed_by : (t : Trail) (judging : Judging) (x : Transfer) (named : List ℕ) (c : Carried) (carried : List Carried) → is_about_it x.number (framed_after named carried c) ≡ false
    → IsTrailBetween t judging x named carried → IsTrailBetween t judging x named (c ∷ carried)
between_passed_by t judging x named c carried off was there =
    facts_passed_by (rollover_of judging) t.blame.between Between x (framed_after named carried c) (whole_of named carried) (framed named carried) off (was there)

-- ---- none yet

pub trail_new : (t : Trail) (judging : Judging) (x : Transfer) (named : List ℕ) (carried : List Carried) → filter (is_about_it x.number) (framed named carried) ≡ []
    → t.transfer ≡ x → t.ends.number ≡ x.number → AreEndsAfter t.ends [] → t.last ≡ t.first → t.count ≡ 0 → t.last_time ≡ 0 → t.is_answered ≡ false → t.has_gone_on ≡ false → t.options ≡ record { windows = false; sizes = false } → t.copied_from ≡ None → t.damaged ≡ None
    → t.spoilt ≡ None → t.joined ≡ None → t.goes_on ≡ false
    → IsTwiceAfter t.twice [] → IsClosingOf t.closing x [] → IsBlameOf t.blame judging x (whole_of named carried) (framed named carried) → IsTrailOf t judging x named carried
trail_new t judging x named carried unheard transfer number ends last count last_time is_answered gone names copied_from damaged spoilt joined going twice closing blame =
    let frames = framed named carried in
    let none : view_of Client x.number named carried ≡ [] = view_unheard x.number frames unheard in
    record {
      transfer = transfer;
      number = number;
      ends = ends_unheard t.ends x.number named carried number unheard ends;
      first = subst (λ o. IfSome o (λ frame. frame ≡ t.first)) (sym (no_first x.number (λ (g : Framed). opened_it x.number g.placed) (opens_about x.number) frames unheard)) tt;
      last = last ∙ ap (last_frame t.first) (sym none);
      count = count ∙ ap (λ (l : List Framed). min (length l) (2 ^ 64 - 1)) (sym none);
      last_time = last_time ∙ ap last_time_in (sym none);
      is_answered = is_answered ∙ ap (list_any (comes_to x)) (sym none);
      has_gone_on = gone ∙ sym (gone_unheard x (whole_of named carried) (whole_unheard x.number named carried unheard));
      options = names ∙ sym (named_unheard x (whole_of named carried) (whole_unheard x.number named carried unheard));
      twice = subst (λ l. IsTwiceAfter t.twice (map sent_of l)) (sym none) twice;
      copied_from = copied_from ∙ sym (no_first x.number (is_copied x.number) (λ f off. and_none (is_about x.number f.placed) f.carried.is_doubtful off) frames unheard);
      damaged = damaged ∙ sym (no_first x.number (is_damaged x.number) (λ f off. and_none (is_about x.number f.placed) f.carried.has_error off) frames unheard);
      spoilt = spoilt ∙ sym (no_first x.number (is_spoilt x.number) (λ f off. and_none (is_about x.number f.placed) (is_wrong f.carried.checksum) off) frames unheard);
      joined = joined ∙ sym (no_first x.number (has_several x.number) (λ f off. and_none (is_about x.number f.placed) (is_joined f.carried.checksum f.carried.datagram.payload) off) frames unheard);
      goes_on = going ∙ sym (going_unheard x.number (whole_of named carried) (whole_unheard x.number named carried unheard));
      closing = subst (IsClosingOf t.closing x) (sym none) closing;
      blame = blame;
    }
