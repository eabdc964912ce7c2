-- When a transfer is past, and that nothing that comes later changes what is missing of it.
use Rattle.std.proofs.Common.{arith, ◌≡◌, ◌≤◌, ◌<◌, ◌+◌, ◌==◌, ◌⊎◌, nat_le, nat_lt, ℕ, Bool, true, false, cond, List, [], ◌∷◌, ◌++◌, Option, Some, None, MatchBool, IsSome, is_some, inl, inr, refl, sym, ap, subst, ◌∙◌}
use Rattle.std.specs.BTreeMap.{IsLowerBound, get}
use Rattle.std.specs.Ordering.{nat_cmp}
use Rattle.std.proofs.lemmas.Bool.{eqb-true, false≢true}
use Rattle.std.proofs.lemmas.Bool.Decides.{nat_tests}
use Rattle.audit_flows.specs.Lines.{clock, line, live, silence}
use Rattle.audit_recording.specs.Blame.Frames.{Carried, whole_of}
use Rattle.audit_recording.specs.Losses.Noted.{Event, IsLost, IsMissingOf, Unread, found_late, is_soon, longest_wait, waiting_at}
use Rattle.audit_recording.specs.Losses.Noted.Event.{Asks, Finds, GivesUp, Loses, Waits}
use Rattle.audit_recording.specs.Session.Noted.{AreUpTo, Noticed, stretch_of}
use Rattle.audit_recording.specs.Session.Over.{AreLater, IsOldestOver, IsOver, IsPast, IsWaitingAt}
use Rattle.audit_recording.specs.Session.Recording.{reached_by}
use Rattle.audit_recording.specs.declared.blame.trail.Trail.{Trail}
use Rattle.audit_recording.specs.declared.session.losses.Stretch.{Stretch}
use Rattle.audit_recording.specs.declared.session.session.Session.{Session}
use Rattle.audit_recording.proofs.LossesLemmas.Answering.{or_cases}
use Rattle.audit_recording.proofs.LossesLemmas.Keeping.{by_test, some_is, waits_number}
use Rattle.audit_recording.proofs.LossesLemmas.Standing.{is_found_late}
use Rattle.audit_recording.proofs.SessionLemmas.Trails.{at_most}

-- ---- a transfer is past

decides : (b : Bool) (P : Type 0) → (b ≡ true → P) → (b ≡ false → P → ⊥) → MatchBool b P (P → ⊥)
decides true P then_so else_not = then_so refl
decides false P then_so else_not = else_not refl

-- it is told by the clock and by this bound, where one waits or where none does
pub past_told : (w : Stretch) (moment bound wait : ℕ) (history : List Event)
    → (IsWaitingAt w.client history × (wait ≡ longest_wait)) ⊎ ((IsWaitingAt w.client history → ⊥) × (wait ≡ 0))
    → (bound < moment → w.last_time + silence + wait < moment) → (w.last_time + silence + wait < moment → bound < moment)
    → MatchBool (nat_lt bound moment) (IsPast w moment history) (IsPast w moment history → ⊥)
past_told w moment bound wait history waits from to = decides (nat_lt bound moment) (IsPast w moment history)
    (λ after.
    let late : w.last_time + silence + wait < moment = from (let more : bound < moment = grind (arith, nat_tests) in more) in
    record {
      silent = omega (arith, late);
      waited = λ one. elim waits [ inl is ↦ omega (arith, late, is.1) | inr none ↦ absurd (none.0 one) ];
    })
    (λ before past.
    let late : w.last_time + silence + wait < moment = elim waits [ inl is ↦ omega (arith, is.1, past.waited is.0) | inr none ↦ omega (arith, none.1, past.silent) ] in
    let more : bound < moment = to late in
    let less : moment ≤ bound = grind (arith, nat_tests) in
    omega (arith, more, less))

-- ---- the oldest transfer is over

-- it is the one with this number
over_it : (session : Session) (named : List ℕ) (carried : List Carried) (s : Noticed) (k : ℕ) (t : Trail) → get nat_cmp session.trails k ≡ Some t → IsLowerBound nat_cmp session.trails k
    → IsOldestOver session named carried s → IsOver t named carried s
over_it session named carried s k t was least r =
    let up : k ≤ r.0 = at_most k r.0 (least r.0 (subst IsSome (sym r.2) refl)) in
    let down : r.0 ≤ k = r.3 k (subst IsSome (sym was) refl) in
    let same : r.0 ≡ k = omega arith in
    let it : r.1 ≡ t = some_is (sym r.2 ∙ ap (get nat_cmp session.trails) same ∙ was) in
    subst (λ (u : Trail). IsOver u named carried s) it r.4

pub not_over : (session : Session) (named : List ℕ) (carried : List Carried) (s : Noticed) (k : ℕ) (t : Trail) → get nat_cmp session.trails k ≡ Some t → IsLowerBound nat_cmp session.trails k
    → (IsPast (stretch_of t) (reached_by s.times) s.events → ⊥) → IsOldestOver session named carried s → ⊥
not_over session named carried s k t was least not r = not (over_it session named carried s k t was least r).past

pub over_told : (session : Session) (named : List ℕ) (carried : List Carried) (s : Noticed) (k : ℕ) (t : Trail) (silent : Bool) → get nat_cmp session.trails k ≡ Some t → IsLowerBound nat_cmp session.trails k
    → IsPast (stretch_of t) (reached_by s.times) s.events
    → MatchBool silent (live (clock (whole_of named carried)) (line t.transfer.client (whole_of named carried)) ≡ [])
    (live (clock (whole_of named carried)) (line t.transfer.client (whole_of named carried)) ≡ [] → ⊥)
    → MatchBool silent (IsOldestOver session named carried s) (IsOldestOver session named carried s → ⊥)
over_told session named carried s k t true was least past silent = (k, t, was, λ m some. at_most k m (least m some), record { past = past; silent = silent })
over_told session named carried s k t false was least past silent = λ r. silent (over_it session named carried s k t was least r).silent

-- ---- what comes later

not_soon : (w : Stretch) (n time : ℕ) → w.last < n → w.last_time + silence < time → is_soon w n time ≡ true → ⊥
not_soon w n time after late soon = elim (or_cases (nat_le n w.last) (nat_le time (w.last_time + silence)) soon) [
  | inl among ↦ (let low : n ≤ w.last = grind (arith, nat_tests) in omega (arith, low, after))
  | inr early ↦ (let low : time ≤ w.last_time + silence = grind (arith, nat_tests) in omega (arith, low, late))
]

found_waits : (c : ℕ) (o : Option Unread) (f : Unread) → found_late c o ≡ Some f → o ≡ Some f
found_waits c None f is = is
found_waits c (Some g) f is = by_test (nat_lt (g.time + longest_wait) c)
    (λ late. sym (ap (λ b. cond b (Some g) None) late) ∙ is)
    (λ soon. absurd (false≢true (ap is_some (sym (ap (λ b. cond b (Some g) None) soon) ∙ is))))

module _ (w : Stretch) (newest moment : ℕ) (history : List Event) (last : w.last ≤ newest) (silent : w.last_time + silence < moment) where
  later_not_soon : (f : Unread) → newest < f.frame → moment ≤ f.time → is_soon w f.frame f.time ≡ true → ⊥
  later_not_soon f after late = not_soon w f.frame f.time (omega (arith, last, after)) (omega (arith, silent, late))

  -- what waits and is soon has waited before
  waited_before : (later : List Event) → AreLater newest moment later → (n : ℕ) (f : Unread) → is_soon w f.frame f.time ≡ true → waiting_at n (later ++ history) ≡ Some f
      → waiting_at n history ≡ Some f
  waited_before [] are n f soon is = is
  waited_before (Asks host frame ∷ later) are n f soon is = waited_before later are.1 n f soon is
  waited_before (Loses g ∷ later) are n f soon is = waited_before later are.1 n f soon is
  waited_before (Waits g ∷ later) are n f soon is = by_test (g.frame == n)
      (λ same.
      let it : g ≡ f = some_is (sym (ap (λ b. cond b (Some g) (waiting_at n (later ++ history))) same) ∙ is) in
      absurd (later_not_soon g are.0.0 are.0.1 (subst (λ (x : Unread). is_soon w x.frame x.time ≡ true) (sym it) soon)))
      (λ off. waited_before later are.1 n f soon (sym (ap (λ b. cond b (Some g) (waiting_at n (later ++ history))) off) ∙ is))
  waited_before (Finds frame clock ∷ later) are n f soon is = by_test (frame == n)
      (λ same. absurd (false≢true (ap is_some (sym (ap (λ b. cond b None (waiting_at n (later ++ history))) same) ∙ is))))
      (λ off. waited_before later are.1 n f soon (sym (ap (λ b. cond b None (waiting_at n (later ++ history))) off) ∙ is))
  waited_before (GivesUp frame ∷ later) are n f soon is = by_test (frame == n)
      (λ same. absurd (false≢true (ap is_some (sym (ap (λ b. cond b None (waiting_at n (later ++ history))) same) ∙ is))))
      (λ off. waited_before later are.1 n f soon (sym (ap (λ b. cond b None (waiting_at n (later ++ history))) off) ∙ is))

  -- one that waited is lost now: it waits before, under its own number
  was_waiting : (later : List Event) → AreLater newest moment later → (n : ℕ) (f : Unread) → is_soon w f.frame f.time ≡ true → waiting_at n (later ++ history) ≡ Some f
      → waiting_at f.frame history ≡ Some f
  was_waiting later are n f soon is =
      ap (λ m. waiting_at m history) (waits_number n (later ++ history) f is) ∙ waited_before later are n f soon is

  -- what is lost and is soon was lost before, or has waited
  lost_before : (later : List Event) → AreLater newest moment later → (f : Unread) → is_soon w f.frame f.time ≡ true → IsLost f (later ++ history)
      → IsLost f history ⊎ (waiting_at f.frame history ≡ Some f)
  lost_before [] are f soon is = inl is
  lost_before (Asks host frame ∷ later) are f soon is = elim is [ inl none ↦ absurd (false≢true (ap is_some none)) | inr was ↦ lost_before later are.1 f soon was ]
  lost_before (Loses g ∷ later) are f soon is = elim is [
    | inl here ↦ absurd (later_not_soon g are.0.0 are.0.1 (subst (λ (x : Unread). is_soon w x.frame x.time ≡ true) (sym (some_is here)) soon))
    | inr was ↦ lost_before later are.1 f soon was
  ]
  lost_before (Waits g ∷ later) are f soon is = elim is [ inl none ↦ absurd (false≢true (ap is_some none)) | inr was ↦ lost_before later are.1 f soon was ]
  lost_before (Finds frame clock ∷ later) are f soon is = elim is [
    | inl here ↦ inr (was_waiting later are.1 frame f soon (found_waits clock (waiting_at frame (later ++ history)) f here))
    | inr was ↦ lost_before later are.1 f soon was
  ]
  lost_before (GivesUp frame ∷ later) are f soon is = elim is [
    | inl here ↦ inr (was_waiting later are.1 frame f soon here)
    | inr was ↦ lost_before later are.1 f soon was
  ]

  pub missing_before : (later : List Event) → AreLater newest moment later → (n time : ℕ) → IsMissingOf w.client (later ++ history) n time → is_soon w n time ≡ true
      → IsMissingOf w.client history n time
  missing_before later are n time is soon =
      let own : is_soon w is.0.frame is.0.time ≡ true = ap (λ m. is_soon w m is.0.time) is.3 ∙ ap (is_soon w n) is.4 ∙ soon in (
        is.0,
        elim is.1 [ inl lost ↦ lost_before later are is.0 own lost | inr waits ↦ inr (was_waiting later are is.0.frame is.0 own waits) ],
        is.2,
        is.3,
        is.4,
      )

  still_lost : (later : List Event) (f : Unread) → IsLost f history → IsLost f (later ++ history)
  still_lost [] f is = is
  still_lost (e ∷ later) f is = inr (still_lost later f is)

up_to_waits : (newest : ℕ) (history : List Event) (f : Unread) (n : ℕ) → AreUpTo newest history → waiting_at n history ≡ Some f → f.frame ≤ newest
up_to_waits newest [] f n are is = absurd (false≢true (ap is_some is))
up_to_waits newest (Asks host frame ∷ older) f n are is = up_to_waits newest older f n are.1 is
up_to_waits newest (Loses g ∷ older) f n are is = up_to_waits newest older f n are.1 is
up_to_waits newest (Waits g ∷ older) f n are is = by_test (g.frame == n)
    (λ same. subst (λ (x : Unread). x.frame ≤ newest) (some_is (sym (ap (λ b. cond b (Some g) (waiting_at n older)) same) ∙ is)) are.0)
    (λ off. up_to_waits newest older f n are.1 (sym (ap (λ b. cond b (Some g) (waiting_at n older)) off) ∙ is))
up_to_waits newest (Finds frame clock ∷ older) f n are is = by_test (frame == n)
    (λ same. absurd (false≢true (ap is_some (sym (ap (λ b. cond b None (waiting_at n older)) same) ∙ is))))
    (λ off. up_to_waits newest older f n are (sym (ap (λ b. cond b None (waiting_at n older)) off) ∙ is))
up_to_waits newest (GivesUp frame ∷ older) f n are is = by_test (frame == n)
    (λ same. absurd (false≢true (ap is_some (sym (ap (λ b. cond b None (waiting_at n older)) same) ∙ is))))
    (λ off. up_to_waits newest older f n are (sym (ap (λ b. cond b None (waiting_at n older)) off) ∙ is))

module _ (w : Stretch) (newest moment : ℕ) (history : List Event) (up : AreUpTo newest history) (f : Unread) (waits : waiting_at f.frame history ≡ Some f)
    (early : f.time + longest_wait < moment) where
  -- it waits still, or it is lost
  waits_or_lost : (later : List Event) → AreLater newest moment later → IsLost f (later ++ history) ⊎ (waiting_at f.frame (later ++ history) ≡ Some f)
  waits_or_lost [] are = inr waits
  waits_or_lost (Asks host frame ∷ later) are = elim (waits_or_lost later are.1) [ inl lost ↦ inl (inr lost) | inr still ↦ inr still ]
  waits_or_lost (Loses g ∷ later) are = elim (waits_or_lost later are.1) [ inl lost ↦ inl (inr lost) | inr still ↦ inr still ]
  waits_or_lost (Waits g ∷ later) are = elim (waits_or_lost later are.1) [
    | inl lost ↦ inl (inr lost)
    | inr still ↦ by_test (g.frame == f.frame)
        (λ same. absurd (omega (arith, eqb-true g.frame f.frame same, up_to_waits newest history f f.frame up waits, are.0.0)))
        (λ off. inr (ap (λ b. cond b (Some g) (waiting_at f.frame (later ++ history))) off ∙ still))
  ]
  waits_or_lost (Finds frame clock ∷ later) are = elim (waits_or_lost later are.1) [
    | inl lost ↦ inl (inr lost)
    | inr still ↦ by_test (frame == f.frame)
        (λ same.
        let here : waiting_at frame (later ++ history) ≡ Some f = ap (λ m. waiting_at m (later ++ history)) (eqb-true frame f.frame same) ∙ still in
        let late : f.time + longest_wait < clock = omega (arith, early, are.0) in
        inl (inl (is_found_late (waiting_at frame (later ++ history)) f clock here late)))
        (λ off. inr (ap (λ b. cond b None (waiting_at f.frame (later ++ history))) off ∙ still))
  ]
  waits_or_lost (GivesUp frame ∷ later) are = elim (waits_or_lost later are.1) [
    | inl lost ↦ inl (inr lost)
    | inr still ↦ by_test (frame == f.frame)
        (λ same. inl (inl (ap (λ m. waiting_at m (later ++ history)) (eqb-true frame f.frame same) ∙ still)))
        (λ off. inr (ap (λ b. cond b None (waiting_at f.frame (later ++ history))) off ∙ still))
  ]

pub missing_later : (w : Stretch) (newest moment : ℕ) (history : List Event) → AreUpTo newest history → w.last ≤ newest → IsPast w moment history
    → (later : List Event) → AreLater newest moment later → (n time : ℕ) → IsMissingOf w.client history n time → time ≤ w.last_time + silence
    → IsMissingOf w.client (later ++ history) n time
missing_later w newest moment history up last past later are n time is early = (
  is.0,
  elim is.1 [
    | inl lost ↦ inl (still_lost w newest moment history last past.silent later is.0 lost)
    | inr waits ↦ waits_or_lost w newest moment history up is.0 waits (omega (arith, is.4, early, past.waited (is.0, waits, is.2))) later are
  ],
  is.2,
  is.3,
  is.4,
)
