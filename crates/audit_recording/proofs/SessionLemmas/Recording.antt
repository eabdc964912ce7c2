-- What is noted of a recording with one frame more.
use Rattle.std.proofs.Common.{◌≡◌, ◌≢◌, ◌≤◌, ◌+◌, ◌∷◌, ◌⊎◌, ◌↔◌, ℕ, suc, zero, Bool, true, false, cond, max, min, List, [], length, Option, Some, None, Result, Ok, Err, OnOk, IsErr, IfSome, option_map, inl, inr, refl, sym, ap, subst, ◌∙◌, arith}
use Rattle.std.proofs.lemmas.Bool.{false≢true}
use Rattle.std.specs.declared.net.ip_addr.IpAddr.{IpAddr}
use Rattle.net_udp.specs.Recording.{EventState, IsFateOf, IsSameDatagram, IsSameFate, Step, checksum_told}
use Rattle.net_udp.specs.declared.fragments.outcome.Outcome.{Outcome}
use Rattle.net_udp.specs.declared.fragments.outcome.Outcome.TheVariants as outcome
use Rattle.net_udp.specs.declared.frames.unread.UnreadHeader.{UnreadHeader}
use Rattle.net_udp.specs.declared.recording.fate.Datagram.{Datagram as Given}
use Rattle.net_udp.specs.declared.recording.fate.Fate.TheVariants.{Datagram, Discarded, Left, Waits}
use Rattle.net_udp.specs.declared.recording.fate.LeftOut.{LeftOut}
use Rattle.net_udp.specs.Recording.Alike.{is_doubtful}
use Rattle.net_udp.specs.{Fate}
use Rattle.net_udp.proofs.RecordingLemmas.OneFate.{IsSameIf, fate_of_one}
use Rattle.audit_flows.specs.Lines.{Recorded}
use Rattle.audit_flows.specs.declared.lines.place.Place.TheVariants.{Opens, Repeats, Talks, Apart, Beside, Nowhere}
use Rattle.audit_flows.specs.{AttributionFault, Place}
use Rattle.audit_recording.specs.Audit.{IsOfEvent, IsTaken}
use Rattle.audit_recording.specs.Audit.Passed.{Adds, HasPassed, IsRequest, end_of, time_by}
use Rattle.audit_recording.specs.Blame.Frames.{Carried, datagrams_of, framed_after}
use Rattle.audit_recording.specs.Losses.Noted.Event.{Waits as Awaits}
use Rattle.audit_recording.specs.Reasons.Clock.{HaveReached, IsClockAfter}
use Rattle.audit_recording.specs.Session.Kept.{GivesNone, IsOneMore, ReadsOn}
use Rattle.audit_recording.specs.Session.Noted.{AreHostsOf, IsHeaderOf, AreNotesOf, Noticed, finding, is_none, leaving, losing, may_be_datagram, noting, sharers_of, unread_in}
use Rattle.audit_recording.specs.Session.Recording.{AddsOne, BeginsToWait, IsCarriedBy, IsNoticedOf, Leaves, letting_go, placing, reached_by}
use Rattle.audit_recording.specs.declared.session.clock.Clock.{Clock}
use Rattle.audit_recording.specs.declared.session.notes.Notes.{Notes}
use Rattle.audit_recording.proofs.AuditLemmas.Taking.{fate_here}

-- ---- what the clock has reached

or_max : (m a b : ℕ) → m ≤ max a b → (m ≤ a) ⊎ (m ≤ b)
or_max m a b low = grind arith

reaches : (times : List ℕ) (m : ℕ) → 1 ≤ m → (m ≤ reached_by times) ↔ HaveReached times m
reaches [] m one = (λ low. let none : m ≤ 0 = low in omega arith, λ none. absurd none)
reaches (time ∷ []) m one = (λ low. let none : m ≤ 0 = low in omega arith, λ none. absurd none)
reaches (time ∷ before ∷ older) m one = (
  λ low. elim (or_max m (min time before) (reached_by (before ∷ older)) low) [
    | inl both ↦ inl (omega arith, omega arith)
    | inr rest ↦ inr ((reaches (before ∷ older) m one).0 rest)
  ],
  λ has. elim has [
    | inl both ↦ (let up = both.0 in let also = both.1 in omega arith)
    | inr rest ↦ (let low = (reaches (before ∷ older) m one).1 rest in omega arith)
  ],
)

same_by : (r q : ℕ) → (1 ≤ r → r ≤ q) → (1 ≤ q → q ≤ r) → r ≡ q
same_by zero zero up down = refl
same_by zero (suc q) up down = let low = down (omega arith) in omega arith
same_by (suc r) zero up down = let low = up (omega arith) in omega arith
same_by (suc r) (suc q) up down = let low = up (omega arith) in let high = down (omega arith) in omega arith

-- a clock has reached what the times have
pub reached_is : (c : Clock) (times : List ℕ) → IsClockAfter c times → c.reached ≡ reached_by times
reached_is c times is =
    let itself : (n : ℕ) → n ≤ n = λ n. omega arith in
    let up : 1 ≤ c.reached → c.reached ≤ reached_by times = λ one. (reaches times c.reached one).1 ((is.reached c.reached one).0 (itself c.reached)) in
    let down : 1 ≤ reached_by times → reached_by times ≤ c.reached = λ one. (is.reached (reached_by times) one).1 ((reaches times (reached_by times) one).0 (itself (reached_by times))) in
    same_by c.reached (reached_by times) up down

-- ---- the newest frame that was noted

placing_last : (place : Place) (event : EventState) (c : Carried) (s : Noticed) (n : ℕ) → c.frame ≡ n → s.last ≤ n → (placing place event c s).last ≤ n
placing_last (Opens x) event c s n is low = omega arith
placing_last (Repeats x) event c s n is low = low
placing_last (Talks x) event c s n is low = low
placing_last (Apart a) event c s n is low = low
placing_last (Beside x) event c s n is low = low
placing_last Nowhere event c s n is low = low

leaving_last : (b : Bool) (one other : Noticed) (n : ℕ) → one.last ≤ n → other.last ≤ n → (cond b one other).last ≤ n
leaving_last true one other n is also = is
leaving_last false one other n is also = also

leaves_last : (b : Bool) (why : LeftOut) (event : EventState) (s t : Noticed) (n : ℕ) → event.frame.number ≡ n → s.last ≤ n → Leaves b why event s t → t.last ≤ n
leaves_last true why event s t n number low (hosts, header, are, has, is) = let at = ap (λ (x : Noticed). x.last) is in omega arith
leaves_last false why event s t n number low is =
    subst (λ (x : Noticed). x.last ≤ n) (sym is) (leaving_last (is_none why) (finding (reached_by s.times) (sharers_of event) s) s n low low)

last_after : (named : List ℕ) (event : EventState) (fate : Fate) (older : List Carried) (s : Noticed) (all : List Carried) (t : Noticed) (n : ℕ) → event.frame.number ≡ n → s.last ≤ n
    → AddsOne named event fate older s all t → t.last ≤ n
last_after named event (Datagram given) older s all t n number low (c, is, more, same) =
    subst (λ (x : Noticed). x.last ≤ n) (sym same) (placing_last (framed_after named older c).placed.place event c s n (is.frame ∙ number) low)
last_after named event (Left why) older s all t n number low (more, leaves) = leaves_last (may_be_datagram why) why event s t n number low leaves
last_after named event Waits older s all t n number low (more, (hosts, are, is)) = let at = ap (λ (x : Noticed). x.last) is in omega arith
last_after named event (Discarded given) older s all t n number low (more, is) = subst (λ (x : Noticed). x.last ≤ n) (sym is) low

-- it is one of the recording
pub last_up_to : (named : List ℕ) (history : List Step) (all : List Carried) (t : Noticed) → IsNoticedOf named history all t → t.last ≤ length history
last_up_to named [] all t is = let at = ap (λ (x : Noticed). x.last) is.1 in omega arith
last_up_to named (step ∷ before) all t (older, s, event, fate, was, of, came, adds) =
    let low : s.last ≤ length before = last_up_to named before older s was in
    let up : s.last ≤ length before + 1 = omega arith in
    let is : t.last ≤ length before + 1 = last_after named event fate older (letting_go event.brought s) all t (length before + 1) of.number up adds in
    omega arith

-- ---- one thing became of a frame

same_if : (o : Option Outcome) → IsSameIf o o
same_if None = refl
same_if (Some outcome.Waits) = (outcome.Waits, refl, refl)
same_if (Some (outcome.Whole content frames)) = (outcome.Whole content frames, refl, (content, frames, refl, refl, refl))
same_if (Some (outcome.Apart frames)) = (outcome.Apart frames, refl, (frames, refl, refl))
same_if (Some outcome.Empty) = (outcome.Empty, refl, refl)
same_if (Some outcome.TooLong) = (outcome.TooLong, refl, refl)
same_if (Some outcome.Full) = (outcome.Full, refl, refl)

module _ (event : EventState) where
  abbrev pub Became : Fate → Type 0
  Became fate = IsFateOf event.frame.parts event.likeness event.brought.outcome event.is_discarded fate

  pub fate_once : (fate same : Fate) → Became fate → Became same → IsSameFate fate same
  fate_once fate same is also = fate_of_one event.frame.parts event.likeness event.brought.outcome event.brought.outcome event.is_discarded fate same (same_if event.brought.outcome) is also

  pub given_once : (d e : Given) → Became (Datagram d) → Became (Datagram e) → IsSameDatagram d e
  given_once d e is also =
      let one = fate_once (Datagram d) (Datagram e) is also in
      let equal : Datagram e ≡ Datagram one.0 = one.1 in
      let same : one.0 ≡ e = cc in
      subst (λ (x : Given). IsSameDatagram d x) same one.2

  pub not_left : (d : Given) (why : LeftOut) → Became (Datagram d) → Became (Left why) → ⊥
  not_left d why is also =
      let one = fate_once (Datagram d) (Left why) is also in
      let equal : Left why ≡ Datagram one.0 = one.1 in cc

  pub not_waiting : (d : Given) → Became (Datagram d) → Became Waits → ⊥
  not_waiting d is also =
      let one = fate_once (Datagram d) Waits is also in
      let equal : Waits ≡ Datagram one.0 = one.1 in cc

  pub not_discarded : (d e : Given) → Became (Datagram d) → Became (Discarded e) → ⊥
  not_discarded d e is also =
      let one = fate_once (Datagram d) (Discarded e) is also in
      let equal : Discarded e ≡ Datagram one.0 = one.1 in cc

  pub carried_same : (d e : Given) (older : List Carried) (c : Carried) → IsSameDatagram d e → IsCarriedBy event d older c → IsCarriedBy event e older c
  carried_same d e older c same is = record {
    frame = is.frame;
    time = is.time;
    is_doubtful = is.is_doubtful;
    has_error = is.has_error;
    checksum = is.checksum;
    taken = record {
      time = is.taken.time;
      source = is.taken.source ∙ (λ i. end_of (same.source i) (same.source_port i));
      target = is.taken.target ∙ (λ i. end_of (same.target i) (same.target_port i));
      payload = is.taken.payload ∙ same.payload;
      is_spelled = subst (λ (l : List ℕ). (c.datagram.is_spelled ≡ true) ↔ IsRequest l) same.payload is.taken.is_spelled;
    };
  }

-- ---- a frame that has given no datagram

adds_alike : (time : Option ℕ) (f g : Fate) (older p before q : List Recorded) → IsSameFate f g → Adds time f older p → Adds time g before q → length older ≡ length before → length p ≡ length q
adds_alike time (Datagram d) g older p before q same one other long =
    let more : Adds time (Datagram same.0) before q = subst (λ (x : Fate). Adds time x before q) same.1 other in
    ap length one.2 ∙ ap suc long ∙ sym (ap length more.2)
adds_alike time (Left why) g older p before q same one other long =
    let more : q ≡ before = subst (λ (x : Fate). Adds time x before q) same other in ap length one ∙ long ∙ sym (ap length more)
adds_alike time Waits g older p before q same one other long =
    let more : q ≡ before = subst (λ (x : Fate). Adds time x before q) same other in ap length one ∙ long ∙ sym (ap length more)
adds_alike time (Discarded d) g older p before q same one other long =
    let more : q ≡ before = subst (λ (x : Fate). Adds time x before q) same.1 other in ap length one ∙ long ∙ sym (ap length more)

passed_alike : (history : List Step) (p q : List Recorded) → HasPassed history p → HasPassed history q → length p ≡ length q
passed_alike [] p q one other = ap length one ∙ sym (ap length other)
passed_alike (step ∷ before) p q (older, f, was, is, adds) (earlier, g, had, also, more) =
    adds_alike step.frame.time f g older p earlier q (fate_of_one step.frame step.likeness step.brought.outcome step.brought.outcome step.is_discarded f g (same_if step.brought.outcome) is also) adds more
    (passed_alike before older earlier was had)

-- with which no more have passed
pub gives_none : (history : List Step) (step : Step) (event : EventState) (passed : List Recorded) → IsOfEvent step history event → HasPassed history passed → HasPassed (step ∷ history) passed → GivesNone event
gives_none history step event passed of was (older, f, had, is, adds) given fate =
    let here : IsFateOf step.frame step.likeness step.brought.outcome step.is_discarded (Datagram given) =
    fate_here step event (Datagram given) (record { frame = of.frame; likeness = of.likeness; outcome = ap (λ b. b.outcome) of.brought; is_discarded = of.is_discarded }) fate in
    let same : IsSameFate (Datagram given) f = fate_of_one step.frame step.likeness step.brought.outcome step.brought.outcome step.is_discarded (Datagram given) f (same_if step.brought.outcome) here is in
    let more : Adds step.frame.time (Datagram same.0) older passed = subst (λ (x : Fate). Adds step.frame.time x older passed) same.1 adds in
    let longer : length passed ≡ suc (length older) = ap length more.2 in
    let alike : length passed ≡ length older = passed_alike history passed older was had in
    omega arith

-- ---- the event without what had to make room

abbrev pub bare : EventState → EventState
bare event = record event { brought = record event.brought { ousted = [] } }

pub carried_bare : (event : EventState) (given : Given) (older : List Carried) (c : Carried) → IsCarriedBy event given older c → IsCarriedBy (bare event) given older c
carried_bare event given older c is = record { frame = is.frame; time = is.time; is_doubtful = is.is_doubtful; has_error = is.has_error; checksum = is.checksum; taken = is.taken }

leaves_bare : (b : Bool) (why : LeftOut) (event : EventState) (s t : Noticed) → Leaves b why (bare event) s t → Leaves b why event s t
leaves_bare true why event s t is = is
leaves_bare false why event s t is = is

pub adds_bare : (named : List ℕ) (event : EventState) (fate : Fate) (older : List Carried) (s : Noticed) (t : Noticed) → GivesNone event → IsFateOf event.frame.parts event.likeness event.brought.outcome event.is_discarded fate
    → AddsOne named (bare event) fate older s older t → AddsOne named event fate older s older t
adds_bare named event (Datagram given) older s t none is adds = absurd (none given is)
adds_bare named event (Left why) older s t none is (same, leaves) = (same, leaves_bare (may_be_datagram why) why event s t leaves)
adds_bare named event Waits older s t none is adds = adds
adds_bare named event (Discarded given) older s t none is adds = adds

-- ---- what is left out, and what waits

pub left_told : (n : Notes) (why : LeftOut) (event : EventState) (s : Noticed) (reached : ℕ) → reached ≡ reached_by s.times
    → (may_be_datagram why ≡ false → AreNotesOf n (leaving reached why event s))
    → (may_be_datagram why ≡ true → (hosts : Option (IpAddr × IpAddr)) × (header : Option UnreadHeader) × AreHostsOf event hosts × IsHeaderOf event header × AreNotesOf n (losing reached event hosts header s))
    → (t : Noticed) × Leaves (may_be_datagram why) why event s t × AreNotesOf n t
left_told n why event s reached at none lost = by (may_be_datagram why) refl where
  by : (b : Bool) → may_be_datagram why ≡ b → (t : Noticed) × Leaves b why event s t × AreNotesOf n t
  by true is = let told = lost is in (
    losing (reached_by s.times) event told.0 told.1 s,
    (told.0, told.1, told.2, told.3, refl),
    subst (λ r. AreNotesOf n (losing r event told.0 told.1 s)) at told.4,
  )
  by false is = (leaving (reached_by s.times) why event s, refl, subst (λ r. AreNotesOf n (leaving r why event s)) at (none is))

pub waits_told : (n : Notes) (event : EventState) (s : Noticed) (reached : ℕ) → reached ≡ reached_by s.times
    → ((hosts : Option (IpAddr × IpAddr)) × AreHostsOf event hosts × AreNotesOf n (noting (Awaits (unread_in reached event hosts s.times)) event.frame.number s))
    → (t : Noticed) × BeginsToWait event s t × AreNotesOf n t
waits_told n event s reached at (hosts, are, notes) = (
  noting (Awaits (unread_in (reached_by s.times) event hosts s.times)) event.frame.number s,
  (hosts, are, refl),
  subst (λ r. AreNotesOf n (noting (Awaits (unread_in r event hosts s.times)) event.frame.number s)) at notes,
)

-- ---- what was noticed is of what has passed

adds_passed : (named : List ℕ) (time : Option ℕ) (event : EventState) (fate : Fate) (older : List Carried) (s : Noticed) (all : List Carried) (t : Noticed) → time ≡ event.frame.parts.time
    → AddsOne named event fate older s all t → Adds time fate (datagrams_of older) (datagrams_of all)
adds_passed named time event (Datagram given) older s all t at (c, is, more, same) =
    (c.datagram, subst (λ (o : Option ℕ). IsTaken given (time_by o (datagrams_of older)) c.datagram) (sym at) is.taken, ap datagrams_of more)
adds_passed named time event (Left why) older s all t at (more, leaves) = ap datagrams_of more
adds_passed named time event Waits older s all t at (more, waits) = ap datagrams_of more
adds_passed named time event (Discarded given) older s all t at (more, goes) = ap datagrams_of more

pub noticed_passed : (named : List ℕ) (history : List Step) (all : List Carried) (t : Noticed) → IsNoticedOf named history all t → HasPassed history (datagrams_of all)
noticed_passed named [] all t is = ap datagrams_of is.0
noticed_passed named (step ∷ before) all t (older, s, event, fate, was, of, came, adds) = (
  datagrams_of older,
  fate,
  noticed_passed named before older s was,
  fate_here step event fate (record { frame = of.frame; likeness = of.likeness; outcome = ap (λ b. b.outcome) of.brought; is_discarded = of.is_discarded }) came,
  adds_passed named step.frame.time event fate older (letting_go event.brought s) all t (ap (λ f. f.time) of.frame) adds,
)

-- ---- what stands after a frame

pub reads_on : (Stand : List Step → List Carried → Noticed → Type 0) (Is Are : Noticed → Type 0) (history : List Step) (carried : List Carried) (s : Noticed) (step : Step) (all : List Carried) (r : Result Bool AttributionFault)
    → r ≢ Ok false → IsOneMore carried all → OnOk r ((t : Noticed) × Is t × Are t) → ((t : Noticed) → Is t → Are t → Stand (step ∷ history) all t) → ReadsOn Stand history carried s r
reads_on Stand Is Are history carried s step all (Ok true) goes one told on = (step, all, told.0, one, on told.0 told.1 told.2)
reads_on Stand Is Are history carried s step all (Ok false) goes one told on = absurd (goes refl)
reads_on Stand Is Are history carried s step all (Err fault) goes one told on = tt

pub stops_so : (Stand : List Step → List Carried → Noticed → Type 0) (history : List Step) (carried : List Carried) (s : Noticed) (r : Result Bool AttributionFault)
    → r ≢ Ok true → OnOk r (Stand history carried s) → ReadsOn Stand history carried s r
stops_so Stand history carried s (Ok true) over told = absurd (over refl)
stops_so Stand history carried s (Ok false) over told = told
stops_so Stand history carried s (Err fault) over told = tt

pub errs_so : (Stand : List Step → List Carried → Noticed → Type 0) (history : List Step) (carried : List Carried) (s : Noticed) (r : Result Bool AttributionFault)
    → IsErr r → ReadsOn Stand history carried s r
errs_so Stand history carried s (Ok goes) is = absurd (false≢true is)
errs_so Stand history carried s (Err fault) is = tt

-- a datagram in its frame
abbrev pub carry : EventState → Recorded → Carried
carry event d = record { frame = event.frame.number; time = event.frame.parts.time; is_doubtful = is_doubtful event.likeness; has_error = event.frame.parts.damaged; checksum = checksum_told event.sent; datagram = d }

pub is_carried : (event : EventState) (given : Given) (older : List Carried) (d : Recorded) → IsTaken given (time_by event.frame.parts.time (datagrams_of older)) d → IsCarriedBy event given older (carry event d)
is_carried event given older d taken = record { frame = refl; time = refl; is_doubtful = refl; has_error = refl; checksum = refl; taken = taken }

pub always : {T E P : Type 0} (r : Result T E) → P → OnOk r P
always (Ok x) is = is
always (Err e) is = tt

-- ---- what is handed out

pub if_watched : {E W : Type 0} (watched : E → W) (P : W → Type 0) (r : Option E) (w : Option W) → option_map watched r ≡ w → IfSome w P → IfSome r (λ e. P (watched e))
if_watched watched P None w is has = tt
if_watched watched P (Some e) w is has = subst (λ o. IfSome o P) (sym is) has
