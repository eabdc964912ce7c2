-- What is noted of a recording, with one event more, and that a request comes after all that was noted.
use Rattle.std.proofs.Common.{◌≡◌, ◌≤◌, ◌<◌, ◌+◌, ◌==◌, ◌∷◌, ◌++◌, not, nat_lt, ℕ, true, false, cond, List, [], Option, Some, None, is_some, inl, inr, refl, sym, ap, subst, ◌∙◌, arith, length, drop, get_or}
use Rattle.std.proofs.lemmas.Bool.{false≢true}
use Rattle.std.proofs.lemmas.List.{at_drop_more}
use Rattle.audit_recording.specs.declared.session.notes.Notes.{Notes}
use Rattle.audit_recording.specs.Losses.Noted.{Event, IsAfterAll, IsAsked, IsLost, Unread, found_late, longest_wait, waiting_at}
use Rattle.audit_recording.specs.Losses.Noted.Event.{Asks, Finds, GivesUp, Loses, Waits}
use Rattle.audit_recording.specs.Session.Noted.{AreNotesOf, AreUpTo, Noticed, one_by_one, others}
use Rattle.audit_recording.proofs.LossesLemmas.Keeping.{by_test, some_is}

-- ---- a request comes after all

pub up_to_more : (last more : ℕ) (history : List Event) → last ≤ more → AreUpTo last history → AreUpTo more history
up_to_more last more [] low are = tt
up_to_more last more (Asks host frame ∷ older) low are = (let up = are.0 in (omega arith, up_to_more last more older low are.1))
up_to_more last more (Loses f ∷ older) low are = (let up = are.0 in (omega arith, up_to_more last more older low are.1))
up_to_more last more (Waits f ∷ older) low are = (let up = are.0 in (omega arith, up_to_more last more older low are.1))
up_to_more last more (Finds frame clock ∷ older) low are = up_to_more last more older low are
up_to_more last more (GivesUp frame ∷ older) low are = up_to_more last more older low are

not_none : {A : Type 0} {x : A} → None ≡ Some x → ⊥
not_none is = false≢true (ap is_some is)

-- what waits stands in a frame up to the last
waiting_up_to : (last n : ℕ) (f : Unread) (history : List Event) → AreUpTo last history → waiting_at n history ≡ Some f → f.frame ≤ last
waiting_up_to last n f [] are is = absurd (not_none is)
waiting_up_to last n f (Asks host frame ∷ older) are is = waiting_up_to last n f older are.1 is
waiting_up_to last n f (Loses g ∷ older) are is = waiting_up_to last n f older are.1 is
waiting_up_to last n f (Waits g ∷ older) are is = by_test (g.frame == n)
    (λ it. subst (λ (h : Unread). h.frame ≤ last) (some_is (sym (ap (λ b. cond b (Some g) (waiting_at n older)) it) ∙ is)) are.0)
    (λ off. waiting_up_to last n f older are.1 (sym (ap (λ b. cond b (Some g) (waiting_at n older)) off) ∙ is))
waiting_up_to last n f (Finds frame clock ∷ older) are is = by_test (frame == n)
    (λ it. absurd (not_none (sym (ap (λ b. cond b None (waiting_at n older)) it) ∙ is)))
    (λ off. waiting_up_to last n f older are (sym (ap (λ b. cond b None (waiting_at n older)) off) ∙ is))
waiting_up_to last n f (GivesUp frame ∷ older) are is = by_test (frame == n)
    (λ it. absurd (not_none (sym (ap (λ b. cond b None (waiting_at n older)) it) ∙ is)))
    (λ off. waiting_up_to last n f older are (sym (ap (λ b. cond b None (waiting_at n older)) off) ∙ is))

found_it : (clock : ℕ) (w : Option Unread) (f : Unread) → found_late clock w ≡ Some f → w ≡ Some f
found_it clock None f is = is
found_it clock (Some g) f is = by_test (nat_lt (g.time + longest_wait) clock)
    (λ it. sym (ap (λ b. cond b (Some g) None) it) ∙ is)
    (λ off. absurd (not_none (sym (ap (λ b. cond b (Some g) None) off) ∙ is)))

-- so does what is lost
pub lost_up_to : (last : ℕ) (f : Unread) (history : List Event) → AreUpTo last history → IsLost f history → f.frame ≤ last
lost_up_to last f [] are is = absurd is
lost_up_to last f (Asks host frame ∷ older) are (inl is) = absurd (not_none is)
lost_up_to last f (Asks host frame ∷ older) are (inr is) = lost_up_to last f older are.1 is
lost_up_to last f (Loses g ∷ older) are (inl is) = subst (λ (h : Unread). h.frame ≤ last) (some_is is) are.0
lost_up_to last f (Loses g ∷ older) are (inr is) = lost_up_to last f older are.1 is
lost_up_to last f (Waits g ∷ older) are (inl is) = absurd (not_none is)
lost_up_to last f (Waits g ∷ older) are (inr is) = lost_up_to last f older are.1 is
lost_up_to last f (Finds frame clock ∷ older) are (inl is) = waiting_up_to last frame f older are (found_it clock (waiting_at frame older) f is)
lost_up_to last f (Finds frame clock ∷ older) are (inr is) = lost_up_to last f older are is
lost_up_to last f (GivesUp frame ∷ older) are (inl is) = waiting_up_to last frame f older are is
lost_up_to last f (GivesUp frame ∷ older) are (inr is) = lost_up_to last f older are is

asked_up_to : (last n : ℕ) (history : List Event) → AreUpTo last history → IsAsked (λ host. true) n history → n ≤ last
asked_up_to last n [] are is = absurd is
asked_up_to last n (Asks host frame ∷ older) are (inl is) = subst (λ k. k ≤ last) is.1 are.0
asked_up_to last n (Asks host frame ∷ older) are (inr is) = asked_up_to last n older are.1 is
asked_up_to last n (Loses f ∷ older) are is = asked_up_to last n older are.1 is
asked_up_to last n (Waits f ∷ older) are is = asked_up_to last n older are.1 is
asked_up_to last n (Finds frame clock ∷ older) are is = asked_up_to last n older are is
asked_up_to last n (GivesUp frame ∷ older) are is = asked_up_to last n older are is

-- a request in a later frame comes after all that was noted
pub after_all : (last frame : ℕ) (history : List Event) → AreUpTo last history → last < frame → IsAfterAll frame history
after_all last frame history are later = (
  λ f is. (let up = lost_up_to last f history are is in omega arith),
  λ n is. (let up = asked_up_to last n history are is in omega arith),
)

-- ---- frames one by one

-- the notes of what was noticed and of these events, to which those of the rest lead on to all
pub record IsSoFar (how : ℕ → Event) (n : Notes) (rest all : List ℕ) (s : Noticed) : Type 0 where
  pub events : List Event
  pub are : AreNotesOf n (record s { events = events })
  pub leads : one_by_one how rest events ≡ one_by_one how all s.events

pub begins : (how : ℕ → Event) (n : Notes) (all : List ℕ) (s : Noticed) → AreNotesOf n s → IsSoFar how n all all s
begins how n all s are = record { events = s.events; are = are; leads = refl }

pub ends : (how : ℕ → Event) (n : Notes) (rest all : List ℕ) (s : Noticed) → rest ≡ [] → IsSoFar how n rest all s → AreNotesOf n (record s { events = one_by_one how all s.events })
ends how n rest all s none so_far =
    subst (λ (events : List Event). AreNotesOf n (record s { events = events })) (sym (ap (λ (r : List ℕ). one_by_one how r so_far.events) none) ∙ so_far.leads) so_far.are

pub rest_on : {B : Type 0} (F : List ℕ → B) (frames : List ℕ) (i : ℕ) → i < length frames → F (drop i frames) ≡ F (get_or frames i 0 ∷ drop (i + 1) frames)
rest_on F frames i below = at_drop_more F frames i 0 below

pub one_after_another : (how : ℕ → Event) (first second : List ℕ) (events : List Event) → one_by_one how (first ++ second) events ≡ one_by_one how second (one_by_one how first events)
one_after_another how [] second events = refl
one_after_another how (n ∷ first) second events = one_after_another how first second (how n ∷ events)

-- ---- but for one

pub other_is_kept : (frame n : ℕ) (rest : List ℕ) → (n == frame) ≡ false → others frame (n ∷ rest) ≡ n ∷ others frame rest
other_is_kept frame n rest off = ap (λ b. cond (not b) (n ∷ others frame rest) (others frame rest)) off

pub it_is_not : (frame n : ℕ) (rest : List ℕ) → (n == frame) ≡ true → others frame (n ∷ rest) ≡ others frame rest
it_is_not frame n rest is = ap (λ b. cond (not b) (n ∷ others frame rest) (others frame rest)) is

pub others_one : (frame n : ℕ) (rest : List ℕ) → others frame (n ∷ rest) ≡ others frame (n ∷ []) ++ others frame rest
others_one frame n rest = by_test (n == frame)
    (λ is. it_is_not frame n rest is ∙ ap (λ (l : List ℕ). l ++ others frame rest) (sym (it_is_not frame n [] is)))
    (λ off. other_is_kept frame n rest off ∙ ap (λ (l : List ℕ). l ++ others frame rest) (sym (other_is_kept frame n [] off)))

-- ---- the steps of a loop

-- one frame more
pub one_more : (how : ℕ → Event) (n new : Notes) (rest left all : List ℕ) (frame : ℕ) (s : Noticed) → rest ≡ frame ∷ left
    → ((more : Noticed) → AreNotesOf n more → AreNotesOf new (record more { events = how frame ∷ more.events }))
    → IsSoFar how n rest all s → IsSoFar how new left all s
one_more how n new rest left all frame s is goes_on so_far = record {
  events = how frame ∷ so_far.events;
  are = goes_on (record s { events = so_far.events }) so_far.are;
  leads = sym (ap (λ (r : List ℕ). one_by_one how r so_far.events) is) ∙ so_far.leads;
}

-- several frames more
pub several_more : (how : ℕ → Event) (n new : Notes) (rest some left all : List ℕ) (s : Noticed) → rest ≡ some ++ left
    → ((more : Noticed) → AreNotesOf n more → AreNotesOf new (record more { events = one_by_one how some more.events }))
    → IsSoFar how n rest all s → IsSoFar how new left all s
several_more how n new rest some left all s is goes_on so_far = record {
  events = one_by_one how some so_far.events;
  are = goes_on (record s { events = so_far.events }) so_far.are;
  leads = sym (one_after_another how some left so_far.events) ∙ sym (ap (λ (r : List ℕ). one_by_one how r so_far.events) is) ∙ so_far.leads;
}

-- none more
pub none_more : (how : ℕ → Event) (n : Notes) (rest left all : List ℕ) (s : Noticed) → rest ≡ left → IsSoFar how n rest all s → IsSoFar how n left all s
none_more how n rest left all s is so_far = record {
  events = so_far.events;
  are = so_far.are;
  leads = sym (ap (λ (r : List ℕ). one_by_one how r so_far.events) is) ∙ so_far.leads;
}
