-- A frame that is lost behind a header stands there once.
use Rattle.std.proofs.Common.{◌≡◌, ◌+◌, ◌∷◌, ℕ, true, false, Bool, cond, List, [], length, Option, Some, None, refl, sym, ap, subst, ◌∙◌, arith}
use Rattle.net_udp.specs.Recording.{EventState, Step}
use Rattle.net_udp.specs.declared.frames.unread.UnreadHeader.{UnreadHeader}
use Rattle.net_udp.specs.declared.recording.fate.Fate.TheVariants.{Datagram, Discarded, Left, Waits}
use Rattle.net_udp.specs.declared.recording.fate.LeftOut.{LeftOut}
use Rattle.net_udp.specs.{Fate}
use Rattle.audit_flows.specs.declared.lines.place.Place.TheVariants.{Opens, Repeats, Talks, Apart, Beside, Nowhere}
use Rattle.audit_flows.specs.{Place}
use Rattle.audit_recording.specs.Blame.Frames.{Carried, framed_after}
use Rattle.audit_recording.specs.Session.Hidden.{Hidden, hidden_frames, hiding}
use Rattle.audit_recording.specs.Session.Noted.{Noticed, finding, is_none, keeping, leaving, may_be_datagram, sharers_of}
use Rattle.audit_recording.specs.Session.Recording.{AddsOne, IsNoticedOf, Leaves, letting_go, placing, reached_by}
use Rattle.audit_recording.specs.Session.Told.{AreEarlier}
use Rattle.audit_recording.proofs.SessionLemmas.Once.{one_later, with_it}

hides_once : (n frame : ℕ) (header : Option UnreadHeader) (hidden : List Hidden) → frame ≡ n → AreEarlier n (hidden_frames hidden) → AreEarlier (n + 1) (hidden_frames (hiding header frame hidden))
hides_once n frame None hidden is are = one_later n (hidden_frames hidden) are
hides_once n frame (Some header) hidden is are = subst (λ k. AreEarlier (n + 1) (k ∷ hidden_frames hidden)) (sym is) (with_it n (hidden_frames hidden) are)

pub placing_hides : (place : Place) (event : EventState) (c : Carried) (s : Noticed) → (placing place event c s).hidden ≡ s.hidden
placing_hides (Opens x) event c s = refl
placing_hides (Repeats x) event c s = refl
placing_hides (Talks x) event c s = refl
placing_hides (Beside x) event c s = refl
placing_hides (Apart a) event c s = refl
placing_hides Nowhere event c s = refl

pub leaving_hides : (reached : ℕ) (why : LeftOut) (event : EventState) (s : Noticed) → (leaving reached why event s).hidden ≡ s.hidden
leaving_hides reached why event s = by (is_none why) where
  by : (b : Bool) → (keeping why event.frame.number (cond b (finding reached (sharers_of event) s) s)).hidden ≡ s.hidden
  by true = refl
  by false = refl

stays : (n : ℕ) (hidden now : List Hidden) → now ≡ hidden → AreEarlier n (hidden_frames hidden) → AreEarlier (n + 1) (hidden_frames now)
stays n hidden now same are = subst (λ l. AreEarlier (n + 1) (hidden_frames l)) (sym same) (one_later n (hidden_frames hidden) are)

leaves_hidden : (b : Bool) (n : ℕ) (why : LeftOut) (event : EventState) (s t : Noticed) → event.frame.number ≡ n → AreEarlier n (hidden_frames s.hidden) → Leaves b why event s t
    → AreEarlier (n + 1) (hidden_frames t.hidden)
leaves_hidden true n why event s t is are (hosts, header, between, has, same) =
    subst (λ (x : Noticed). AreEarlier (n + 1) (hidden_frames x.hidden)) (sym same) (hides_once n event.frame.number header s.hidden is are)
leaves_hidden false n why event s t is are same = stays n s.hidden t.hidden (ap (λ (x : Noticed). x.hidden) same ∙ leaving_hides (reached_by s.times) why event s) are

hidden_more : (named : List ℕ) (n : ℕ) (event : EventState) (fate : Fate) (older : List Carried) (s : Noticed) (all : List Carried) (t : Noticed) → event.frame.number ≡ n
    → AreEarlier n (hidden_frames s.hidden) → AddsOne named event fate older s all t → AreEarlier (n + 1) (hidden_frames t.hidden)
hidden_more named n event (Datagram given) older s all t is are (c, carries, more, same) =
    stays n s.hidden t.hidden (ap (λ (x : Noticed). x.hidden) same ∙ placing_hides (framed_after named older c).placed.place event c s) are
hidden_more named n event (Left why) older s all t is are (more, leaves) = leaves_hidden (may_be_datagram why) n why event s t is are leaves
hidden_more named n event Waits older s all t is are (more, (hosts, between, same)) = stays n s.hidden t.hidden (ap (λ (x : Noticed). x.hidden) same) are
hidden_more named n event (Discarded given) older s all t is are (more, same) = stays n s.hidden t.hidden (ap (λ (x : Noticed). x.hidden) same) are

pub hidden_once : (named : List ℕ) (history : List Step) (all : List Carried) (t : Noticed) → IsNoticedOf named history all t → AreEarlier (length history + 1) (hidden_frames t.hidden)
hidden_once named [] all t is = subst (λ (x : Noticed). AreEarlier 1 (hidden_frames x.hidden)) (sym is.1) tt
hidden_once named (step ∷ before) all t (older, s, event, fate, was, of, came, adds) =
    let one_more : length before + 1 + 1 ≡ length (step ∷ before) + 1 = omega arith in
    subst (λ n. AreEarlier n (hidden_frames t.hidden)) one_more
    (hidden_more named (length before + 1) event fate older (letting_go event.brought s) all t of.number (hidden_once named before older s was) adds)
