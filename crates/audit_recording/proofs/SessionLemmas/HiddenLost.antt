-- A frame that is told behind a header is told as lost, too.
use Rattle.std.proofs.Common.{◌≡◌, ◌==◌, ◌∷◌, ℕ, true, false, Bool, cond, List, [], Option, Some, None, refl, sym, subst}
use Rattle.std.specs.List.{AllByRecursion, list_any}
use Rattle.std.proofs.lemmas.Bool.{eq-eqb}
use Rattle.net_udp.specs.Recording.{BroughtState, EventState, Step}
use Rattle.net_udp.specs.declared.frames.unread.UnreadHeader.{UnreadHeader}
use Rattle.net_udp.specs.declared.recording.fate.Fate.TheVariants.{Datagram, Discarded, Left, Waits}
use Rattle.net_udp.specs.declared.recording.fate.LeftOut.{LeftOut}
use Rattle.net_udp.specs.{Fate}
use Rattle.audit_flows.specs.declared.lines.place.Place.TheVariants.{Opens, Repeats, Talks, Apart, Beside, Nowhere}
use Rattle.audit_flows.specs.{Place}
use Rattle.audit_recording.specs.Blame.Frames.{Carried, framed_after}
use Rattle.audit_recording.specs.Losses.Noted.{Event}
use Rattle.audit_recording.specs.Losses.Noted.Event.{Finds, GivesUp}
use Rattle.audit_recording.specs.Session.Hidden.{Hidden, hidden_frames, hiding}
use Rattle.audit_recording.specs.Session.Noted.{Noticed, finding, frames_in, is_none, keeping, leaving, losing, lost_frames, may_be_datagram, one_by_one, others, sharers_of}
use Rattle.audit_recording.specs.Session.Recording.{AddsOne, IsNoticedOf, Leaves, letting_go, placing, reached_by}
use Rattle.audit_recording.proofs.SessionLemmas.Firsts.{or_left, or_right}
use Rattle.audit_recording.proofs.SessionLemmas.HiddenOnce.{leaving_hides, placing_hides}

abbrev Among : ℕ → List ℕ → Type 0
Among n frames = list_any (λ m. m == n) frames ≡ true

abbrev AreLost : List Event → List Hidden → Type 0
AreLost events hidden = AllByRecursion (λ n. Among n (lost_frames events)) (hidden_frames hidden)

abbrev Grows : List Event → List Event → Type 0
Grows before after = (n : ℕ) → Among n (lost_frames before) → Among n (lost_frames after)

still : (before after : List Event) (hidden : List Hidden) → Grows before after → AreLost before hidden → AreLost after hidden
still before after [] grows are = tt
still before after (h ∷ hidden) grows are = (grows h.frame are.0, still before after hidden grows are.1)

given_up : (frames : List ℕ) (events : List Event) → Grows events (one_by_one GivesUp frames events)
given_up [] events n is = is
given_up (frame ∷ frames) events n is = given_up frames (GivesUp frame ∷ events) n (or_right (frame == n) (list_any (λ m. m == n) (lost_frames events)) is)

found : (clock : ℕ) (frames : List ℕ) (events : List Event) → Grows events (one_by_one (λ m. Finds m clock) frames events)
found clock [] events n is = is
found clock (frame ∷ frames) events n is = found clock frames (Finds frame clock ∷ events) n is

let_go : (b : BroughtState) (s : Noticed) → Grows s.events (letting_go b s).events
let_go b s n is = given_up (frames_in b.ousted) (one_by_one GivesUp b.old s.events) n (given_up b.old s.events n is)

placing_grows : (place : Place) (event : EventState) (c : Carried) (s : Noticed) → Grows s.events (placing place event c s).events
placing_grows (Opens x) event c s n is = found (reached_by s.times) (sharers_of event) s.events n is
placing_grows (Repeats x) event c s n is = found (reached_by s.times) (sharers_of event) s.events n is
placing_grows (Talks x) event c s n is = found (reached_by s.times) (sharers_of event) s.events n is
placing_grows (Beside x) event c s n is = found (reached_by s.times) (sharers_of event) s.events n is
placing_grows (Apart a) event c s n is = found (reached_by s.times) (sharers_of event) s.events n is
placing_grows Nowhere event c s n is = found (reached_by s.times) (sharers_of event) s.events n is

leaving_grows : (reached : ℕ) (why : LeftOut) (event : EventState) (s : Noticed) → Grows s.events (leaving reached why event s).events
leaving_grows reached why event s n is = by (is_none why) where
  by : (b : Bool) → Among n (lost_frames (keeping why event.frame.number (cond b (finding reached (sharers_of event) s) s)).events)
  by true = found reached (sharers_of event) s.events n is
  by false = is

stays : (s t : Noticed) → t.hidden ≡ s.hidden → Grows s.events t.events → AreLost s.events s.hidden → AreLost t.events t.hidden
stays s t same grows are = subst (AreLost t.events) (sym same) (still s.events t.events s.hidden grows are)

hides : (frame : ℕ) (header : Option UnreadHeader) (events : List Event) (hidden : List Hidden) → Among frame (lost_frames events) → AreLost events hidden → AreLost events (hiding header frame hidden)
hides frame None events hidden is are = are
hides frame (Some header) events hidden is are = (is, are)

itself : (n : ℕ) (frames : List ℕ) → Among n (n ∷ frames)
itself n frames = or_left (n == n) (list_any (λ m. m == n) frames) (eq-eqb n n refl)

leaves_lost : (b : Bool) (why : LeftOut) (event : EventState) (s t : Noticed) → AreLost s.events s.hidden → Leaves b why event s t → AreLost t.events t.hidden
leaves_lost true why event s t are (hosts, header, between, has, same) =
    let n = event.frame.number in
    let given = one_by_one GivesUp (others n (sharers_of event)) s.events in
    let now : Noticed = losing (reached_by s.times) event hosts header s in
    subst (λ (x : Noticed). AreLost x.events x.hidden) (sym same)
    (hides n header now.events s.hidden (itself n (lost_frames given))
    (still s.events now.events s.hidden (λ m is. or_right (n == m) (list_any (λ k. k == m) (lost_frames given)) (given_up (others n (sharers_of event)) s.events m is)) are))
leaves_lost false why event s t are same =
    subst (λ (x : Noticed). AreLost x.events x.hidden) (sym same) (stays s (leaving (reached_by s.times) why event s) (leaving_hides (reached_by s.times) why event s) (leaving_grows (reached_by s.times) why event s) are)

lost_more : (named : List ℕ) (event : EventState) (fate : Fate) (older : List Carried) (s : Noticed) (all : List Carried) (t : Noticed) → AreLost s.events s.hidden
    → AddsOne named event fate older s all t → AreLost t.events t.hidden
lost_more named event (Datagram given) older s all t are (c, carries, more, same) =
    let place = (framed_after named older c).placed.place in
    subst (λ (x : Noticed). AreLost x.events x.hidden) (sym same) (stays s (placing place event c s) (placing_hides place event c s) (placing_grows place event c s) are)
lost_more named event (Left why) older s all t are (more, leaves) = leaves_lost (may_be_datagram why) why event s t are leaves
lost_more named event Waits older s all t are (more, (hosts, between, same)) = subst (λ (x : Noticed). AreLost x.events x.hidden) (sym same) are
lost_more named event (Discarded given) older s all t are (more, same) =
    subst (λ (x : Noticed). AreLost x.events x.hidden) (sym same) (still s.events (finding (reached_by s.times) (sharers_of event) s).events s.hidden (found (reached_by s.times) (sharers_of event) s.events) are)

pub hidden_lost : (named : List ℕ) (history : List Step) (all : List Carried) (t : Noticed) → IsNoticedOf named history all t
    → AllByRecursion (λ n. list_any (λ m. m == n) (lost_frames t.events) ≡ true) (hidden_frames t.hidden)
hidden_lost named [] all t is = subst (λ (x : Noticed). AreLost x.events x.hidden) (sym is.1) tt
hidden_lost named (step ∷ before) all t (older, s, event, fate, was, of, came, adds) =
    lost_more named event fate older (letting_go event.brought s) all t (still s.events (letting_go event.brought s).events s.hidden (let_go event.brought s) (hidden_lost named before older s was)) adds
