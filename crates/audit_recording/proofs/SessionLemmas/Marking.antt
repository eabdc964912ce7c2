-- What is noted beside the transfers of a recording, with one frame more.
use Rattle.std.proofs.Common.{◌≡◌, ◌==◌, ◌∷◌, ℕ, Bool, true, false, true≢false, cond, max, List, [], Option, Some, None, IsSome, unwrap_or, refl, sym, ap, subst, ◌∙◌}
use Rattle.std.specs.BTreeMap.{BTreeMap, get}
use Rattle.std.specs.Ordering.{is_eq, nat_cmp}
use Rattle.std.proofs.lemmas.Bool.{eqb-true}
use Rattle.net_udp.specs.Recording.{EventState, Step}
use Rattle.net_udp.specs.declared.recording.fate.Fate.TheVariants.{Datagram, Discarded, Left, Waits}
use Rattle.net_udp.specs.declared.recording.fate.LeftOut.{LeftOut}
use Rattle.net_udp.specs.{Fate}
use Rattle.audit_flows.specs.Lines.{Placed, transfer_of}
use Rattle.audit_flows.specs.Transfers.{is_about}
use Rattle.audit_flows.specs.declared.lines.place.Place.TheVariants.{Opens, Repeats, Talks, Apart, Beside, Nowhere}
use Rattle.audit_flows.specs.{Place}
use Rattle.audit_flows.proofs.LinesLemmas.Lines.{by_test}
use Rattle.audit_recording.specs.Blame.Frames.{Carried, framed_after}
use Rattle.audit_recording.specs.Session.Beside.{AreMarksKept, IsMarkedBy, Mark, events_of, gone_of}
use Rattle.audit_recording.specs.Session.Beside.Mark.{Joins}
use Rattle.audit_recording.specs.Session.Noted.{AreNotesOf, Noticed, finding, is_none, may_be_datagram, sharers_of, with_time}
use Rattle.audit_recording.specs.Session.Recording.{AddsOne, IsNoticedOf, Leaves, asking, gone_by, joining, letting_go, marking, marks_with, placing, reached_by, straying}
use Rattle.audit_recording.specs.declared.blame.trail.Trail.{Trail}
use Rattle.audit_recording.specs.declared.session.notes.Notes.{Notes}
use Rattle.audit_recording.specs.declared.session.unplaced.Unplaced.{Unplaced}
use Rattle.audit_recording.proofs.JudgesLemmas.Keeping.{is_itself}
use Rattle.audit_recording.proofs.SessionLemmas.Beside.{joins_elsewhere, joins_here, none_changed, one_changed, stays_marked}

-- ---- what a datagram adds

pub placing_beside : (place : Place) (event : EventState) (c : Carried) (s : Noticed) → (placing place event c s).beside ≡ marks_with place c (with_time c.time s.times) s.beside
placing_beside (Opens x) event c s = refl
placing_beside (Repeats x) event c s = refl
placing_beside (Talks x) event c s = refl
placing_beside (Apart e) event c s = refl
placing_beside (Beside x) event c s = refl
placing_beside Nowhere event c s = refl

placing_gone : (place : Place) (event : EventState) (c : Carried) (s : Noticed) → (placing place event c s).gone ≡ s.gone
placing_gone (Opens x) event c s = refl
placing_gone (Repeats x) event c s = refl
placing_gone (Talks x) event c s = refl
placing_gone (Apart e) event c s = refl
placing_gone (Beside x) event c s = refl
placing_gone Nowhere event c s = refl

marks_gone : (place : Place) (c : Carried) (times : List ℕ) (marks : List Mark) → gone_of (marks_with place c times marks) ≡ gone_of marks
marks_gone (Opens x) c times marks = refl
marks_gone (Repeats x) c times marks = refl
marks_gone (Talks x) c times marks = refl
marks_gone (Apart e) c times marks = refl
marks_gone (Beside x) c times marks = refl
marks_gone Nowhere c times marks = refl

pub asking_times : (place : Place) (frame : ℕ) (s : Noticed) → (asking place frame s).times ≡ s.times
asking_times (Opens x) frame s = refl
asking_times (Repeats x) frame s = refl
asking_times (Talks x) frame s = refl
asking_times (Apart e) frame s = refl
asking_times (Beside x) frame s = refl
asking_times Nowhere frame s = refl

-- the notes do not tell what is beside the transfers
pub notes_marked : (n : Notes) (place : Place) (c : Carried) (s : Noticed) → AreNotesOf n s → AreNotesOf n (marking place c s)
notes_marked n place c s are = record { losses = are.losses; frames = are.frames; discards = are.discards; clock = are.clock; kinds = are.kinds; behind = are.behind; begun = are.begun; asked = are.asked }

-- ---- what a frame without one adds

found_or_not : (b : Bool) (clock : ℕ) (frames : List ℕ) (s : Noticed) → (cond b (finding clock frames s) s).beside ≡ s.beside
found_or_not true clock frames s = refl
found_or_not false clock frames s = refl

found_gone : (b : Bool) (clock : ℕ) (frames : List ℕ) (s : Noticed) → (cond b (finding clock frames s) s).gone ≡ s.gone
found_gone true clock frames s = refl
found_gone false clock frames s = refl

pub leaves_beside : (b : Bool) (why : LeftOut) (event : EventState) (s t : Noticed) → Leaves b why event s t → t.beside ≡ s.beside
leaves_beside true why event s t (hosts, header, are, is, same) = ap (λ (n : Noticed). n.beside) same
leaves_beside false why event s t same = ap (λ (n : Noticed). n.beside) same ∙ found_or_not (is_none why) (reached_by s.times) (sharers_of event) s

leaves_gone : (b : Bool) (why : LeftOut) (event : EventState) (s t : Noticed) → Leaves b why event s t → t.gone ≡ s.gone
leaves_gone true why event s t (hosts, header, are, is, same) = ap (λ (n : Noticed). n.gone) same
leaves_gone false why event s t same = ap (λ (n : Noticed). n.gone) same ∙ found_gone (is_none why) (reached_by s.times) (sharers_of event) s

adds_gone : (named : List ℕ) (event : EventState) (fate : Fate) (older : List Carried) (s : Noticed) (all : List Carried) (t : Noticed) → AddsOne named event fate older s all t → gone_of s.beside ≡ s.gone
    → gone_of t.beside ≡ t.gone
adds_gone named event (Datagram given) older s all t (c, is, more, same) gone =
    let place = (framed_after named older c).placed.place in
    ap (λ (n : Noticed). gone_of n.beside) same ∙ ap gone_of (placing_beside place event c s) ∙ marks_gone place c (with_time c.time s.times) s.beside ∙ gone
    ∙ sym (ap (λ (n : Noticed). n.gone) same ∙ placing_gone place event c s)
adds_gone named event (Left why) older s all t (more, leaves) gone =
    ap gone_of (leaves_beside (may_be_datagram why) why event s t leaves) ∙ gone ∙ sym (leaves_gone (may_be_datagram why) why event s t leaves)
adds_gone named event Waits older s all t (more, (hosts, are, same)) gone = ap (λ (n : Noticed). gone_of n.beside) same ∙ gone ∙ sym (ap (λ (n : Noticed). n.gone) same)
adds_gone named event (Discarded given) older s all t (more, same) gone =
    ap (λ (n : Noticed). gone_of n.beside) same ∙ ap (λ gs. gone_by event given s.times ∷ gs) gone ∙ sym (ap (λ (n : Noticed). n.gone) same)

-- what was discarded is noted as that and beside the transfers
pub gone_is : (named : List ℕ) (history : List Step) (carried : List Carried) (s : Noticed) → IsNoticedOf named history carried s → gone_of s.beside ≡ s.gone
gone_is named [] carried s is = ap (λ (n : Noticed). gone_of n.beside) is.1 ∙ sym (ap (λ (n : Noticed). n.gone) is.1)
gone_is named (step ∷ before) carried s (older, was, event, fate, had, of, came, adds) =
    adds_gone named event fate older (letting_go event.brought was) carried s adds (gone_is named before older was had)

-- ---- where it is handed to

pub straying_about : (n : ℕ) (p : Placed) (c : Carried) (times : List ℕ) (marks : List Mark) → is_about n p ≡ true → straying p.place c times marks ≡ marks
straying_about n p c times marks is = by p.place refl where
  by : (place : Place) → p.place ≡ place → straying place c times marks ≡ marks
  by (Opens x) at = refl
  by (Repeats x) at = refl
  by (Talks x) at = refl
  by (Apart e) at = refl
  by (Beside x) at = refl
  by Nowhere at = absurd (true≢false (sym is ∙ ap (λ (q : Place). is_about n (record p { place = q })) at))

pub joining_none : (p : Placed) (time : Option ℕ) (marks : List Mark) → ((n : ℕ) → is_about n p ≡ false) → joining p.place time marks ≡ marks
joining_none p time marks none = by p.place refl where
  so : (place : Place) → p.place ≡ place → (n : ℕ) → is_about n (record p { place = place }) ≡ false
  so place at n = sym (ap (λ (q : Place). is_about n (record p { place = q })) at) ∙ none n

  by : (place : Place) → p.place ≡ place → joining place time marks ≡ marks
  by (Opens x) at = absurd (true≢false (sym (is_itself x.number) ∙ so (Opens x) at x.number))
  by (Repeats x) at = absurd (true≢false (sym (is_itself x.number) ∙ so (Repeats x) at x.number))
  by (Talks x) at = absurd (true≢false (sym (is_itself x.number) ∙ so (Talks x) at x.number))
  by (Apart e) at = refl
  by (Beside x) at = refl
  by Nowhere at = refl

pub joining_events : (place : Place) (time : Option ℕ) (marks : List Mark) → events_of (joining place time marks) ≡ events_of marks
joining_events (Opens x) time marks = refl
joining_events (Repeats x) time marks = refl
joining_events (Talks x) time marks = refl
joining_events (Apart e) time marks = refl
joining_events (Beside x) time marks = refl
joining_events Nowhere time marks = refl

-- it is of this transfer, which has that number
module _ (m : ℕ) (time : Option ℕ) (marks : List Mark) where
  joins_other : (k n : ℕ) (w : Trail) → k ≡ m → (m == n) ≡ false → IsMarkedBy n marks w → IsMarkedBy n (Joins k (unwrap_or time 0) ∷ marks) w
  joins_other k n w same off was = joins_elsewhere k (unwrap_or time 0) marks n w (ap (λ j. j == n) same ∙ off) was

  pub joined_elsewhere : (place : Place) (d : Placed) → is_about m (record d { place = place }) ≡ true → (n : ℕ) (w : Trail) → (m == n) ≡ false → IsMarkedBy n marks w → IsMarkedBy n (joining place time marks) w
  joined_elsewhere (Opens x) d is n w off was = joins_other x.number n w (eqb-true x.number m is) off was
  joined_elsewhere (Repeats x) d is n w off was = joins_other x.number n w (eqb-true x.number m is) off was
  joined_elsewhere (Talks x) d is n w off was = joins_other x.number n w (eqb-true x.number m is) off was
  joined_elsewhere (Apart e) d is n w off was = was
  joined_elsewhere (Beside x) d is n w off was = was
  joined_elsewhere Nowhere d is n w off was = was

  module _ (t v : Trail) (transfer : v.transfer ≡ t.transfer) (left : v.left_out ≡ t.left_out) (gone : v.discarded ≡ t.discarded) where
    joins_it : (k : ℕ) → k ≡ m → v.last_time ≡ max t.last_time (unwrap_or time 0) → IsMarkedBy m marks t → IsMarkedBy m (Joins k (unwrap_or time 0) ∷ marks) v
    joins_it k same later was = subst (λ j. IsMarkedBy m (Joins j (unwrap_or time 0) ∷ marks) v) (sym same) (joins_here m (unwrap_or time 0) marks t v transfer left gone later was)

    pub joined_here : (place : Place) (d : Placed) → is_about m (record d { place = place }) ≡ true → (IsSome (transfer_of place) → v.last_time ≡ max t.last_time (unwrap_or time 0))
        → (transfer_of place ≡ None → v.last_time ≡ t.last_time) → IsMarkedBy m marks t → IsMarkedBy m (joining place time marks) v
    joined_here (Opens x) d is own beside was = joins_it x.number (eqb-true x.number m is) (own refl) was
    joined_here (Repeats x) d is own beside was = joins_it x.number (eqb-true x.number m is) (own refl) was
    joined_here (Talks x) d is own beside was = joins_it x.number (eqb-true x.number m is) (own refl) was
    joined_here (Apart e) d is own beside was = stays_marked m marks t v transfer left gone (beside refl) was
    joined_here (Beside x) d is own beside was = stays_marked m marks t v transfer left gone (beside refl) was
    joined_here Nowhere d is own beside was = stays_marked m marks t v transfer left gone (beside refl) was

-- none is kept of that number
pub joined_nowhere : (u : Unplaced) (trails : BTreeMap ℕ Trail) (out : List ℕ) (marks : List Mark) (m : ℕ) (place : Place) (d : Placed) (time : Option ℕ) → get nat_cmp trails m ≡ None → is_about m (record d { place = place }) ≡ true
    → AreMarksKept u trails out marks → AreMarksKept u trails out (joining place time marks)
joined_nowhere u trails out marks m place d time none is kept = none_changed u trails out marks (joining place time marks) (joining_events place time marks)
    (λ n w some was. by_test (m == n)
    (λ yes. let no : IsSome {T = Trail} None = subst (IsSome {T = Trail}) (subst (λ k. get nat_cmp trails k ≡ None) (eqb-true m n yes) none) some in absurd (true≢false (sym no)))
    (λ off. joined_elsewhere m time marks place d is n w off was)) kept

-- one is
pub joined_one : (u : Unplaced) (old new : BTreeMap ℕ Trail) (out : List ℕ) (marks : List Mark) (m : ℕ) (place : Place) (d : Placed) (time : Option ℕ) (t v : Trail) → get nat_cmp old m ≡ Some t
    → ((n : ℕ) → get nat_cmp new n ≡ cond (is_eq (nat_cmp m n)) (Some v) (get nat_cmp old n)) → is_about m (record d { place = place }) ≡ true
    → v.transfer ≡ t.transfer → v.left_out ≡ t.left_out → v.discarded ≡ t.discarded → (IsSome (transfer_of place) → v.last_time ≡ max t.last_time (unwrap_or time 0))
    → (transfer_of place ≡ None → v.last_time ≡ t.last_time) → AreMarksKept u old out marks → AreMarksKept u new out (joining place time marks)
joined_one u old new out marks m place d time t v was updates is transfer left gone own beside kept =
    one_changed old new m t v was updates u out marks (joining place time marks) (joining_events place time marks)
    (joined_here m time marks t v transfer left gone place d is own beside) (λ n w off. joined_elsewhere m time marks place d is n w off) kept
