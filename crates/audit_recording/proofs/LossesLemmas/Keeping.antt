-- What is kept of one host, or of unknown ones, with one event more.
use Rattle.std.proofs.Common.{◌≡◌, ◌≤◌, ◌<◌, ◌⊎◌, ◌==◌, ◌∷◌, ℕ, Bool, true, false, cond, List, [], Option, Some, None, IsSome, is_some, inl, inr, refl, sym, ap, subst, ◌∙◌, arith}
use Rattle.std.proofs.lemmas.Bool.{eq-eqb, eqb-true, false≢true}
use Rattle.audit_recording.specs.declared.session.host_losses.HostLosses.{HostLosses}
use Rattle.audit_recording.specs.Losses.Noted.{Event, Unread, waiting_at}
use Rattle.audit_recording.specs.Losses.Noted.Event.{Asks, Finds, GivesUp, Loses, Waits}
use Rattle.audit_recording.specs.Losses.Kept.{HasAskedIn, HasLost, HasWaited, KeepsLost, KeepsWaiting, asked_at, lost_at, time_where, waits_at}

pub by_test : {P : Type 0} (b : Bool) → (b ≡ true → P) → (b ≡ false → P) → P
by_test true if_true if_false = if_true refl
by_test false if_true if_false = if_false refl

pub some_is : {A : Type 0} {x y : A} → Some x ≡ Some y → x ≡ y
some_is {A} {x} {y} same = cc

-- ---- what is lost

kept_more : (o new : Option HostLosses) (frame time k : ℕ) → HasLost o new frame time → IsSome (lost_at o k) → IsSome (lost_at new k)
kept_more o new frame time k has some = elim has.lost [
  | inl noted ↦ ap is_some (noted.1 k) ∙ some
  | inr more ↦ by_test (frame == k)
      (λ same. ap is_some (more k ∙ ap (λ b. cond b (Some time) (lost_at o k)) same))
      (λ off. ap is_some (more k ∙ ap (λ b. cond b (Some time) (lost_at o k)) off) ∙ some)
]

was_lost : (o : Option HostLosses) (Before After : Unread → Type 0) (Asked : ℕ → Type 0) (n time : ℕ) → ((g : Unread) → Before g → After g) → KeepsLost o Before Asked → lost_at o n ≡ Some time
    → (f : Unread) × After f × (f.frame ≡ n) × (f.time ≡ time)
was_lost o Before After Asked n time keep keeps is = (let was = keeps.lost n time is in (was.0, keep was.0 was.1, was.2, was.3))

pub lost_more : (o new : Option HostLosses) (Before After : Unread → Type 0) (Asked : ℕ → Type 0) (f : Unread) → After f
    → ((g : Unread) → Before g → After g) → ((g : Unread) → After g → (g ≡ f) ⊎ Before g) → HasLost o new f.frame f.time
    → KeepsLost o Before Asked → KeepsLost new After Asked
lost_more o new Before After Asked f here keep only has keeps = record {
  lost = λ n time e. elim has.lost [
    | inl noted ↦ was_lost o Before After Asked n time keep keeps (sym (noted.1 n) ∙ e)
    | inr more ↦ by_test (f.frame == n)
        (λ same. (f, here, eqb-true f.frame n same, some_is (sym (more n ∙ ap (λ b. cond b (Some f.time) (lost_at o n)) same) ∙ e)))
        (λ off. was_lost o Before After Asked n time keep keeps (sym (more n ∙ ap (λ b. cond b (Some f.time) (lost_at o n)) off) ∙ e))
  ];
  first = λ g after. elim (only g after) [
    | inl same ↦ subst (λ (x : Unread). (n : ℕ) × IsSome (lost_at new n) × (n ≤ x.frame) × ((r : ℕ) → Asked r → r ≤ x.frame → r ≤ n)) (sym same)
        (elim has.lost [
          | inl noted ↦ (noted.0.0, kept_more o new f.frame f.time noted.0.0 has noted.0.1, noted.0.3, λ r asked low. omega (arith, keeps.asked r asked, noted.0.2))
          | inr more ↦ (f.frame, ap is_some (more f.frame ∙ ap (λ b. cond b (Some f.time) (lost_at o f.frame)) (eq-eqb f.frame f.frame refl)), omega arith, λ r asked low. low)
        ])
    | inr before ↦ (let old = keeps.first g before in (old.0, kept_more o new f.frame f.time old.0 has old.1, old.2, old.3))
  ];
  asked = λ r asked. omega (arith, has.asked, keeps.asked r asked);
}

pub lost_alike : (o new : Option HostLosses) (Before After : Unread → Type 0) (AskedBefore AskedAfter : ℕ → Type 0)
    → ((n : ℕ) → lost_at new n ≡ lost_at o n) → asked_at new ≡ asked_at o
    → ((g : Unread) → Before g → After g) → ((g : Unread) → After g → Before g) → ((r : ℕ) → AskedAfter r → AskedBefore r)
    → KeepsLost o Before AskedBefore → KeepsLost new After AskedAfter
lost_alike o new Before After AskedBefore AskedAfter lost asks keep only asked keeps = record {
  lost = λ n time e. (let was = keeps.lost n time (sym (lost n) ∙ e) in (was.0, keep was.0 was.1, was.2, was.3));
  first = λ g after. (let old = keeps.first g (only g after) in (old.0, ap is_some (lost old.0) ∙ old.1, old.2, λ r a low. old.3 r (asked r a) low));
  asked = λ r a. omega (arith, asks, keeps.asked r (asked r a));
}

pub asked_more : (o new : Option HostLosses) (Before After : Unread → Type 0) (AskedBefore AskedAfter : ℕ → Type 0) (frame : ℕ) → HasAskedIn o new frame
    → ((g : Unread) → Before g → After g) → ((g : Unread) → After g → Before g)
    → ((r : ℕ) → AskedAfter r → (frame ≡ r) ⊎ AskedBefore r)
    → ((g : Unread) → Before g → g.frame < frame) → ((r : ℕ) → AskedBefore r → r ≤ frame)
    → KeepsLost o Before AskedBefore → KeepsLost new After AskedAfter
asked_more o new Before After AskedBefore AskedAfter frame has keep only asked after requests keeps = record {
  lost = λ n time e. (let was = keeps.lost n time (sym (has.lost n) ∙ e) in (was.0, keep was.0 was.1, was.2, was.3));
  first = λ g is. (let old = keeps.first g (only g is) in (
    old.0,
    ap is_some (has.lost old.0) ∙ old.1,
    old.2,
    λ r a low. elim (asked r a) [
      | inl same ↦ absurd (omega (arith, same, after g (only g is)))
      | inr before ↦ old.3 r before low
    ],
  ));
  asked = λ r a. elim (asked r a) [
    | inl same ↦ omega (arith, same, has.asked)
    | inr before ↦ omega (arith, requests r before, has.asked)
  ];
}

-- ---- what waits

ended_one : (mine : Unread → Bool) (b : Bool) (x : Option ℕ) (w : Option Unread) → (b ≡ false → x ≡ time_where mine w) → cond b None x ≡ time_where mine (cond b None w)
ended_one mine true x w is = refl
ended_one mine false x w is = is refl

pub ended : (o new : Option HostLosses) (mine : Unread → Bool) (waiting : List Event) (frame : ℕ) → HasWaited o new frame None
    → ((n : ℕ) → (frame == n) ≡ false → waits_at o n ≡ time_where mine (waiting_at n waiting))
    → KeepsWaiting new mine (GivesUp frame ∷ waiting)
ended o new mine waiting frame has others = λ n. has.waits n ∙ ended_one mine (frame == n) (waits_at o n) (waiting_at n waiting) (others n)

not_ended_one : (mine : Unread → Bool) (b : Bool) (x : Option ℕ) (w : Option Unread) → x ≡ time_where mine w → (b ≡ true → time_where mine w ≡ None) → x ≡ time_where mine (cond b None w)
not_ended_one mine true x w is none = is ∙ none refl
not_ended_one mine false x w is none = is

pub not_ended : (o : Option HostLosses) (mine : Unread → Bool) (waiting : List Event) (frame : ℕ) → time_where mine (waiting_at frame waiting) ≡ None
    → KeepsWaiting o mine waiting → KeepsWaiting o mine (GivesUp frame ∷ waiting)
not_ended o mine waiting frame none keeps = λ n. not_ended_one mine (frame == n) (waits_at o n) (waiting_at n waiting) (keeps n)
    (λ same. ap (λ m. time_where mine (waiting_at m waiting)) (sym (eqb-true frame n same)) ∙ none)

began_one : (mine : Unread → Bool) (f : Unread) (b : Bool) (x : Option ℕ) (w : Option Unread) → mine f ≡ true → (b ≡ false → x ≡ time_where mine w)
    → cond b (Some f.time) x ≡ time_where mine (cond b (Some f) w)
began_one mine f true x w is others = sym (ap (λ m. cond m (Some f.time) None) is)
began_one mine f false x w is others = others refl

pub began : (o new : Option HostLosses) (mine : Unread → Bool) (waiting : List Event) (f : Unread) → HasWaited o new f.frame (Some f.time) → mine f ≡ true
    → ((n : ℕ) → (f.frame == n) ≡ false → waits_at o n ≡ time_where mine (waiting_at n waiting))
    → KeepsWaiting new mine (Waits f ∷ waiting)
began o new mine waiting f has is others = λ n. has.waits n ∙ began_one mine f (f.frame == n) (waits_at o n) (waiting_at n waiting) is (others n)

not_began_one : (mine : Unread → Bool) (f : Unread) (b : Bool) (x : Option ℕ) (w : Option Unread) → mine f ≡ false → x ≡ time_where mine (cond b None w)
    → x ≡ time_where mine (cond b (Some f) w)
not_began_one mine f true x w off is = is ∙ sym (ap (λ m. cond m (Some f.time) None) off)
not_began_one mine f false x w off is = is

pub not_began : (o : Option HostLosses) (mine : Unread → Bool) (waiting : List Event) (f : Unread) → mine f ≡ false
    → KeepsWaiting o mine (GivesUp f.frame ∷ waiting) → KeepsWaiting o mine (Waits f ∷ waiting)
not_began o mine waiting f off keeps = λ n. not_began_one mine f (f.frame == n) (waits_at o n) (waiting_at n waiting) off (keeps n)

-- those that wait beside that frame
pub others_ended : (o : Option HostLosses) (mine : Unread → Bool) (waiting : List Event) (frame : ℕ) → KeepsWaiting o mine (GivesUp frame ∷ waiting)
    → (n : ℕ) → (frame == n) ≡ false → waits_at o n ≡ time_where mine (waiting_at n waiting)
others_ended o mine waiting frame keeps n off = keeps n ∙ ap (λ b. time_where mine (cond b None (waiting_at n waiting))) off

pub others_began : (o : Option HostLosses) (mine : Unread → Bool) (waiting : List Event) (f : Unread) → KeepsWaiting o mine (Waits f ∷ waiting)
    → (n : ℕ) → (f.frame == n) ≡ false → waits_at o n ≡ time_where mine (waiting_at n waiting)
others_began o mine waiting f keeps n off = keeps n ∙ ap (λ b. time_where mine (cond b (Some f) (waiting_at n waiting))) off

pub waits_number : (n : ℕ) (history : List Event) (f : Unread) → waiting_at n history ≡ Some f → f.frame ≡ n
waits_number n [] f is = absurd (false≢true (ap is_some is))
waits_number n (Asks host frame ∷ older) f is = waits_number n older f is
waits_number n (Loses g ∷ older) f is = waits_number n older f is
waits_number n (Waits g ∷ older) f is = by_test (g.frame == n)
    (λ same. ap (λ (u : Unread). u.frame) (some_is (sym is ∙ ap (λ b. cond b (Some g) (waiting_at n older)) same)) ∙ eqb-true g.frame n same)
    (λ off. waits_number n older f (sym (ap (λ b. cond b (Some g) (waiting_at n older)) off) ∙ is))
waits_number n (Finds frame clock ∷ older) f is = by_test (frame == n)
    (λ same. absurd (false≢true (ap is_some (sym (ap (λ b. cond b None (waiting_at n older)) same) ∙ is))))
    (λ off. waits_number n older f (sym (ap (λ b. cond b None (waiting_at n older)) off) ∙ is))
waits_number n (GivesUp frame ∷ older) f is = by_test (frame == n)
    (λ same. absurd (false≢true (ap is_some (sym (ap (λ b. cond b None (waiting_at n older)) same) ∙ is))))
    (λ off. waits_number n older f (sym (ap (λ b. cond b None (waiting_at n older)) off) ∙ is))
