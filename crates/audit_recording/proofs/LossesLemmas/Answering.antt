-- The first of the frames that may be missing, from those that are kept.
use Rattle.std.proofs.Common.{◌≡◌, ◌≤◌, ◌⊎◌, ◌||◌, ◌∷◌, ℕ, Bool, true, false, cond, List, [], Option, Some, None, IsSome, is_some, inl, inr, refl, sym, ap, subst, ◌∙◌, arith, min}
use Rattle.std.proofs.lemmas.Bool.{cases_lt, false≢true}
use Rattle.audit_flows.specs.{Address}
use Rattle.audit_flows.specs.Lines.{same_address}
use Rattle.audit_recording.specs.declared.session.host_losses.HostLosses.{HostLosses}
use Rattle.audit_recording.specs.declared.session.losses.Losses.{Losses}
use Rattle.audit_recording.specs.declared.session.losses.Stretch.{Stretch}
use Rattle.audit_recording.specs.Losses.Noted.{Event, IsAsked, IsFirst, IsLost, IsMissingOf, IsTold, Since, Unread, is_of_host, is_of_none, is_soon, waiting_at}
use Rattle.audit_recording.specs.Losses.Noted.Event.{Asks, Finds, GivesUp, Loses, Waits}
use Rattle.audit_recording.specs.Losses.Kept.{AreLosses, AreOf, IsKept, lesser, lost_at, of_host, time_where, waits_at}
use Rattle.audit_recording.proofs.LossesLemmas.Keeping.{by_test, some_is, waits_number}

-- ---- of both

lesser_first : (n k : ℕ) → n ≤ k → Some (min n k) ≡ Some n
lesser_first n k low = ap (λ m. Some m) (let m : min n k ≡ n = omega arith in m)

lesser_other : (k n : ℕ) → n ≤ k → Some (min k n) ≡ Some n
lesser_other k n low = ap (λ m. Some m) (let m : min k n ≡ n = omega arith in m)

pub first_of_both : (One Other : ℕ → ℕ → Type 0) (a b : Option ℕ) → IsFirst One a → IsFirst Other b → IsFirst (λ n time. One n time ⊎ Other n time) (lesser a b)
first_of_both One Other None None one other = λ n time is. elim is [ inl it ↦ one n time it | inr it ↦ other n time it ]
first_of_both One Other None (Some y) one other = ((other.0.0, inr other.0.1), λ n time is. elim is [ inl it ↦ absurd (one n time it) | inr it ↦ other.1 n time it ])
first_of_both One Other (Some x) None one other = ((one.0.0, inl one.0.1), λ n time is. elim is [ inl it ↦ one.1 n time it | inr it ↦ absurd (other n time it) ])
first_of_both One Other (Some x) (Some y) one other = (
  elim (cases_lt y x) [
    | inl less ↦ (other.0.0, inr (subst (λ m. Other m other.0.0) (let m : y ≡ min x y = omega arith in m) other.0.1))
    | inr more ↦ (one.0.0, inl (subst (λ m. One m one.0.0) (let m : x ≡ min x y = omega arith in m) one.0.1))
  ],
  λ n time is. elim is [ inl it ↦ omega (arith, one.1 n time it) | inr it ↦ omega (arith, other.1 n time it) ],
)

both_sound : (One Other : ℕ → ℕ → Type 0) (w : Stretch) (a b : Option ℕ) → IsTold (Since One w) w a → IsTold (Since Other w) w b → (n : ℕ) → lesser a b ≡ Some n
    → (time : ℕ) × Since (λ m t. One m t ⊎ Other m t) w n time × (is_soon w n time ≡ true)
both_sound One Other w None b one other n is = (let it = other.sound n is in (it.0, (inr it.1.0, it.1.1), it.2))
both_sound One Other w (Some x) None one other n is = (let it = one.sound n is in (it.0, (inl it.1.0, it.1.1), it.2))
both_sound One Other w (Some x) (Some y) one other n is = elim (cases_lt y x) [
  | inl less ↦ (let it = other.sound n (ap (λ m. Some m) (let m : y ≡ min x y = omega arith in m) ∙ is) in (it.0, (inr it.1.0, it.1.1), it.2))
  | inr more ↦ (let it = one.sound n (ap (λ m. Some m) (let m : x ≡ min x y = omega arith in m) ∙ is) in (it.0, (inl it.1.0, it.1.1), it.2))
]

lesser_with : (n : ℕ) (b : Option ℕ) → ((k : ℕ) → b ≡ Some k → n ≤ k) → lesser (Some n) b ≡ Some n
lesser_with n None low = refl
lesser_with n (Some k) low = lesser_first n k (low k refl)

with_lesser : (a : Option ℕ) (n : ℕ) → ((k : ℕ) → a ≡ Some k → n ≤ k) → lesser a (Some n) ≡ Some n
with_lesser None n low = refl
with_lesser (Some k) n low = lesser_other k n (low k refl)

pub told_of_both : (One Other : ℕ → ℕ → Type 0) (w : Stretch) (a b : Option ℕ) → IsTold (Since One w) w a → IsTold (Since Other w) w b
    → IsTold (Since (λ n time. One n time ⊎ Other n time) w) w (lesser a b)
told_of_both One Other w a b one other = record {
  sound = both_sound One Other w a b one other;
  first = λ n time such least soon. elim such.0 [
    | inl it ↦
        ap (λ o. lesser o b) (one.first n time (it, such.1) (λ m later s. least m later (inl s.0, s.1)) (λ any s. soon any (inl s.0, s.1)))
        ∙ lesser_with n b (λ k is. (let s = other.sound k is in least k s.0 (inr s.1.0, s.1.1)))
    | inr it ↦
        ap (λ o. lesser a o) (other.first n time (it, such.1) (λ m later s. least m later (inr s.0, s.1)) (λ any s. soon any (inr s.0, s.1)))
        ∙ with_lesser a n (λ k is. (let s = one.sound k is in least k s.0 (inl s.1.0, s.1.1)))
  ];
}

-- ---- from what is kept to what is missing

first_to : (Kept Missing : ℕ → ℕ → Type 0) (o : Option ℕ) → ((n time : ℕ) → Kept n time → Missing n time)
    → ((n time : ℕ) → Missing n time → (k : ℕ) × (s : ℕ) × Kept k s × (k ≤ n)) → IsFirst Kept o → IsFirst Missing o
first_to Kept Missing None to from none = λ n time is. (let k = from n time is in none k.0 k.1 k.2)
first_to Kept Missing (Some x) to from is = ((is.0.0, to x is.0.0 is.0.1), λ n time it. (let k = from n time it in let low = is.1 k.0 k.1 k.2 in let up = k.3 in omega arith))

told_to : (Kept Missing : ℕ → ℕ → Type 0) (w : Stretch) (o : Option ℕ) → ((n time : ℕ) → Kept n time → Missing n time)
    → ((n time : ℕ) → Since Missing w n time → (k : ℕ) × (s : ℕ) × Since Kept w k s × (k ≤ n)) → IsTold (Since Kept w) w o → IsTold (Since Missing w) w o
told_to Kept Missing w o to from told = record {
  sound = λ n is. (let s = told.sound n is in (s.0, (to n s.0 s.1.0, s.1.1), s.2));
  first = λ n time such least soon.
      let k = from n time such in
      let low = least k.0 k.1 (to k.0 k.1 k.2.0, k.2.1) in
      let up = k.3 in
      let same : k.0 ≡ n = omega arith in
      told.first n k.1 (subst (λ m. Since Kept w m k.1) same k.2) (λ m later s. least m later (to m later s.0, s.1)) (λ any s. soon any (to n any s.0, s.1));
}

-- ---- of one host, or of unknown ones

abbrev IsKeptIn : Option HostLosses → ℕ → ℕ → Type 0
IsKeptIn o n time = (lost_at o n ≡ Some time) ⊎ (waits_at o n ≡ Some time)

abbrev IsMissingWhere : (Unread → Bool) → List Event → ℕ → ℕ → Type 0
IsMissingWhere mine history n time =
    (f : Unread) × (IsLost f history ⊎ (waiting_at f.frame history ≡ Some f)) × (mine f ≡ true) × (f.frame ≡ n) × (f.time ≡ time)

pub waits_where : (mine : Unread → Bool) (w : Option Unread) (time : ℕ) → time_where mine w ≡ Some time → (f : Unread) × (w ≡ Some f) × (mine f ≡ true) × (f.time ≡ time)
waits_where mine None time is = absurd (false≢true (ap is_some is))
waits_where mine (Some f) time is = by_test (mine f)
    (λ own. (f, refl, own, some_is (sym (ap (λ b. cond b (Some f.time) None) own) ∙ is)))
    (λ off. absurd (false≢true (ap is_some (sym (ap (λ b. cond b (Some f.time) None) off) ∙ is))))

to_missing : (o : Option HostLosses) (mine : Unread → Bool) (at : Address → Bool) (history : List Event) → AreOf o mine at history history
    → (n time : ℕ) → IsKeptIn o n time → IsMissingWhere mine history n time
to_missing o mine at history are n time (inl lost) = (let it = are.lost.lost n time lost in (it.0, inl it.1.0, it.1.1, it.2, it.3))
to_missing o mine at history are n time (inr waits) =
    let it = waits_where mine (waiting_at n history) time (sym (are.waits n) ∙ waits) in
    let number = waits_number n history it.0 it.1 in
    (it.0, inr (ap (λ m. waiting_at m history) number ∙ it.1), it.2, number, it.3)

when_some : (o : Option ℕ) → IsSome o → (s : ℕ) × (o ≡ Some s)
when_some None some = absurd (false≢true some)
when_some (Some s) some = (s, refl)

-- one is kept at or before it, and at or after each request that it comes after
from_missing : (o : Option HostLosses) (mine : Unread → Bool) (at : Address → Bool) (history : List Event) → AreOf o mine at history history
    → (n time : ℕ) → IsMissingWhere mine history n time
    → (k : ℕ) × (s : ℕ) × IsKeptIn o k s × (k ≤ n) × ((r : ℕ) → IsAsked at r history → r ≤ n → r ≤ k)
from_missing o mine at history are n time is = elim is.1 [
  | inl lost ↦
      (let first = are.lost.first is.0 (lost, is.2) in
      let some = when_some (lost_at o first.0) first.1 in
      let number = is.3 in
      let low = first.2 in
      (first.0, some.0, inl some.1, omega arith, λ r asked up. first.3 r asked (omega (arith, number, up))))
  | inr waits ↦
      (let number = is.3 in (
        is.0.frame,
        is.0.time,
        inr (are.waits is.0.frame ∙ ap (time_where mine) waits ∙ ap (λ b. cond b (Some is.0.time) None) is.2),
        omega arith,
        λ r asked up. omega (arith, number, up),
      ))
]

-- ---- of a client's host

or_left : (x y : Bool) → x ≡ true → (x || y) ≡ true
or_left x y is = ap (λ b. b || y) is

or_right : (x y : Bool) → y ≡ true → (x || y) ≡ true
or_right true y is = refl
or_right false y is = is

pub or_cases : (x y : Bool) → (x || y) ≡ true → (x ≡ true) ⊎ (y ≡ true)
or_cases true y is = inl refl
or_cases false y is = inr is

kept_is_missing : (l : Losses) (history : List Event) (host : Address) → AreLosses l history
    → (n time : ℕ) → IsKeptIn (of_host l.of_hosts host) n time ⊎ IsKeptIn (Some l.of_unknown) n time → IsMissingOf host history n time
kept_is_missing l history host are n time (inl own) =
    let it = to_missing (of_host l.of_hosts host) (is_of_host host) (λ a. same_address a host) history (are.hosts host) n time own in
    (it.0, it.1, or_left (is_of_host host it.0) (is_of_none it.0) it.2, it.3, it.4)
kept_is_missing l history host are n time (inr unknown) =
    let it = to_missing (Some l.of_unknown) is_of_none (λ a. true) history are.unknown n time unknown in
    (it.0, it.1, or_right (is_of_host host it.0) (is_of_none it.0) it.2, it.3, it.4)

any_asked : (host : Address) (r : ℕ) (history : List Event) → IsAsked (λ a. same_address a host) r history → IsAsked (λ a. true) r history
any_asked host r [] is = is
any_asked host r (Asks h frame ∷ older) (inl is) = inl (refl, is.1)
any_asked host r (Asks h frame ∷ older) (inr is) = inr (any_asked host r older is)
any_asked host r (Loses f ∷ older) is = any_asked host r older is
any_asked host r (Waits f ∷ older) is = any_asked host r older is
any_asked host r (Finds frame clock ∷ older) is = any_asked host r older is
any_asked host r (GivesUp frame ∷ older) is = any_asked host r older is

missing_is_kept : (l : Losses) (history : List Event) (host : Address) → AreLosses l history
    → (n time : ℕ) → IsMissingOf host history n time
    → (k : ℕ) × (s : ℕ) × (IsKeptIn (of_host l.of_hosts host) k s ⊎ IsKeptIn (Some l.of_unknown) k s) × (k ≤ n)
    × ((r : ℕ) → IsAsked (λ a. same_address a host) r history → r ≤ n → r ≤ k)
missing_is_kept l history host are n time is = elim (or_cases (is_of_host host is.0) (is_of_none is.0) is.2) [
  | inl own ↦
      (let k = from_missing (of_host l.of_hosts host) (is_of_host host) (λ a. same_address a host) history (are.hosts host) n time (is.0, is.1, own, is.3, is.4) in
      (k.0, k.1, inl k.2, k.3, k.4))
  | inr unknown ↦
      (let k = from_missing (Some l.of_unknown) is_of_none (λ a. true) history are.unknown n time (is.0, is.1, unknown, is.3, is.4) in
      (k.0, k.1, inr k.2, k.3, λ r asked up. k.4 r (any_asked host r history asked) up))
]

pub first_missing : (l : Losses) (history : List Event) (host : Address) (a b : Option ℕ) → AreLosses l history
    → IsFirst (λ n time. (lost_at (of_host l.of_hosts host) n ≡ Some time) ⊎ (waits_at (of_host l.of_hosts host) n ≡ Some time)) a → IsFirst (IsKept l.of_unknown) b
    → IsFirst (IsMissingOf host history) (lesser a b)
first_missing l history host a b are own unknown =
    first_to (λ n time. IsKeptIn (of_host l.of_hosts host) n time ⊎ IsKeptIn (Some l.of_unknown) n time) (IsMissingOf host history) (lesser a b)
    (kept_is_missing l history host are)
    (λ n time is. (let k = missing_is_kept l history host are n time is in (k.0, k.1, k.2, k.3)))
    (first_of_both (IsKeptIn (of_host l.of_hosts host)) (IsKeptIn (Some l.of_unknown)) a b own unknown)

pub told_missing : (l : Losses) (history : List Event) (w : Stretch) (a b : Option ℕ) → AreLosses l history → IsAsked (λ host. same_address host w.client) w.first history
    → IsTold (Since (λ n time. (lost_at (of_host l.of_hosts w.client) n ≡ Some time) ⊎ (waits_at (of_host l.of_hosts w.client) n ≡ Some time)) w) w a
    → IsTold (Since (IsKept l.of_unknown) w) w b
    → IsTold (Since (IsMissingOf w.client history) w) w (lesser a b)
told_missing l history w a b are asked own unknown =
    told_to (λ n time. IsKeptIn (of_host l.of_hosts w.client) n time ⊎ IsKeptIn (Some l.of_unknown) n time) (IsMissingOf w.client history) w (lesser a b)
    (kept_is_missing l history w.client are)
    (λ n time since. (let k = missing_is_kept l history w.client are n time since.0 in (k.0, k.1, (k.2, k.4 w.first asked since.1), k.3)))
    (told_of_both (IsKeptIn (of_host l.of_hosts w.client)) (IsKeptIn (Some l.of_unknown)) w a b own unknown)

pub first_of_host : (l : Losses) (history : List Event) (host : Address) (o : Option HostLosses) (a b : Option ℕ) → of_host l.of_hosts host ≡ o → AreLosses l history
    → IsFirst (λ n time. (lost_at o n ≡ Some time) ⊎ (waits_at o n ≡ Some time)) a → IsFirst (IsKept l.of_unknown) b
    → IsFirst (IsMissingOf host history) (lesser a b)
first_of_host l history host o a b at are own unknown =
    first_missing l history host a b are (subst (λ x. IsFirst (IsKeptIn x) a) (sym at) own) unknown

pub told_of_host : (l : Losses) (history : List Event) (w : Stretch) (o : Option HostLosses) (a b : Option ℕ) → of_host l.of_hosts w.client ≡ o → AreLosses l history
    → IsAsked (λ host. same_address host w.client) w.first history
    → IsTold (Since (λ n time. (lost_at o n ≡ Some time) ⊎ (waits_at o n ≡ Some time)) w) w a → IsTold (Since (IsKept l.of_unknown) w) w b
    → IsTold (Since (IsMissingOf w.client history) w) w (lesser a b)
told_of_host l history w o a b at are asked own unknown =
    told_missing l history w a b are asked (subst (λ x. IsTold (Since (IsKeptIn x) w) w a) (sym at) own) unknown

nothing : (o : Option ℕ) {x : ℕ} → o ≡ None → o ≡ Some x → ⊥
nothing o none is = false≢true (sym (ap is_some none) ∙ ap is_some is)

pub none_first : IsFirst (λ n time. (lost_at None n ≡ Some time) ⊎ (waits_at None n ≡ Some time)) None
none_first = λ n time is. elim is [ inl it ↦ nothing (lost_at None n) refl it | inr it ↦ nothing (waits_at None n) refl it ]

pub none_told : (w : Stretch) → IsTold (Since (λ n time. (lost_at None n ≡ Some time) ⊎ (waits_at None n ≡ Some time)) w) w None
none_told w = record {
  sound = λ n is. absurd (nothing (lost_at None n) refl is);
  first = λ n time such least soon. absurd (none_first n time such.0);
}
