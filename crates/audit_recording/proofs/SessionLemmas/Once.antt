-- Each frame is told once in its kind.
use Rattle.std.proofs.Common.{◌≡◌, ◌≤◌, ◌+◌, ◌∷◌, ℕ, true, false, Bool, cond, List, [], length, Option, Some, None, nat_lt, sym, subst, ◌∙◌, arith}
use Rattle.net_udp.specs.Recording.{EventState, Step}
use Rattle.net_udp.specs.declared.frames.fault.FrameFault.TheVariants as frame
use Rattle.net_udp.specs.declared.recording.fate.Fate.TheVariants.{Datagram, Discarded, Left, Waits}
use Rattle.net_udp.specs.declared.recording.fate.LeftOut.{LeftOut}
use Rattle.net_udp.specs.declared.recording.fate.LeftOut.TheVariants.{Apart as InParts, Copy, Empty, Frame, Full, TooLong, Udp}
use Rattle.net_udp.specs.{Fate}
use Rattle.audit_flows.specs.declared.lines.place.Place.TheVariants.{Opens, Repeats, Talks, Apart, Beside, Nowhere}
use Rattle.audit_flows.specs.{Place}
use Rattle.audit_recording.specs.Blame.Frames.{Carried, framed_after}
use Rattle.audit_recording.specs.Reasons.Clock.{last_of}
use Rattle.audit_recording.specs.Session.Noted.{Noticed, copies_with, finding, going_back, is_none, leaving, may_be_datagram, other_links_with, sharers_of, told_in}
use Rattle.audit_recording.specs.Session.Recording.{AddsOne, IsNoticedOf, Leaves, letting_go, placing, reached_by}
use Rattle.audit_recording.specs.Session.Told.{AreEarlier, AreOnce, Told}

-- before a later frame too
later : (n m : ℕ) (frames : List ℕ) → n ≤ m → AreEarlier n frames → AreEarlier m frames
later n m [] low are = tt
later n m (frame ∷ older) low are = (let is = are.0 in omega arith, are.1)

-- with that frame itself
pub with_it : (n : ℕ) (frames : List ℕ) → AreEarlier n frames → AreEarlier (n + 1) (n ∷ frames)
with_it n frames are = (omega arith, are)

pub one_later : (n : ℕ) (frames : List ℕ) → AreEarlier n frames → AreEarlier (n + 1) frames
one_later n frames are = later n (n + 1) frames (omega arith) are

all_later : (n : ℕ) (t : Told) → AreOnce n t → AreOnce (n + 1) t
all_later n t are = record {
  copies = one_later n t.copies are.copies;
  discarded = one_later n t.discarded are.discarded;
  other_links = one_later n t.other_links are.other_links;
  of_none = one_later n t.of_none are.of_none;
  backwards = one_later n t.backwards are.backwards;
}

-- ---- by what became of the frame

back_once : (n : ℕ) (time : Option ℕ) (times older : List ℕ) → AreEarlier n older → AreEarlier (n + 1) (going_back n time times older)
back_once n None times older are = one_later n older are
back_once n (Some time) times older are = by (nat_lt time (last_of times)) where
  by : (b : Bool) → AreEarlier (n + 1) (cond b (n ∷ older) older)
  by true = with_it n older are
  by false = one_later n older are

copies_once : (why : LeftOut) (n : ℕ) (older : List ℕ) → AreEarlier n older → AreEarlier (n + 1) (copies_with why n older)
copies_once Copy n older are = with_it n older are
copies_once (Frame fault) n older are = one_later n older are
copies_once (Udp fault) n older are = one_later n older are
copies_once InParts n older are = one_later n older are
copies_once Empty n older are = one_later n older are
copies_once TooLong n older are = one_later n older are
copies_once Full n older are = one_later n older are

links_once : (why : LeftOut) (n : ℕ) (older : List ℕ) → AreEarlier n older → AreEarlier (n + 1) (other_links_with why n older)
links_once (Frame frame.Link) n older are = with_it n older are
links_once (Frame frame.Frame) n older are = one_later n older are
links_once (Frame frame.Network) n older are = one_later n older are
links_once (Frame frame.Header) n older are = one_later n older are
links_once (Frame frame.Protocol) n older are = one_later n older are
links_once (Frame frame.Length) n older are = one_later n older are
links_once (Frame frame.Cut) n older are = one_later n older are
links_once (Frame frame.Extension) n older are = one_later n older are
links_once Copy n older are = one_later n older are
links_once (Udp fault) n older are = one_later n older are
links_once InParts n older are = one_later n older are
links_once Empty n older are = one_later n older are
links_once TooLong n older are = one_later n older are
links_once Full n older are = one_later n older are

leaving_once : (n reached : ℕ) (why : LeftOut) (event : EventState) (s : Noticed) → event.frame.number ≡ n → AreOnce n (told_in s) → AreOnce (n + 1) (told_in (leaving reached why event s))
leaving_once n reached why event s is are = by (is_none why) where
  by : (b : Bool) → AreOnce (n + 1) (told_in (record (cond b (finding reached (sharers_of event) s) s) {
    copies = copies_with why event.frame.number (cond b (finding reached (sharers_of event) s) s).copies;
    other_links = other_links_with why event.frame.number (cond b (finding reached (sharers_of event) s) s).other_links;
  }))
  by true = record {
    copies = subst (λ k. AreEarlier (n + 1) (copies_with why k s.copies)) (sym is) (copies_once why n s.copies are.copies);
    discarded = one_later n (told_in s).discarded are.discarded;
    other_links = subst (λ k. AreEarlier (n + 1) (other_links_with why k s.other_links)) (sym is) (links_once why n s.other_links are.other_links);
    of_none = one_later n (told_in s).of_none are.of_none;
    backwards = one_later n s.backwards are.backwards;
  }
  by false = record {
    copies = subst (λ k. AreEarlier (n + 1) (copies_with why k s.copies)) (sym is) (copies_once why n s.copies are.copies);
    discarded = one_later n (told_in s).discarded are.discarded;
    other_links = subst (λ k. AreEarlier (n + 1) (other_links_with why k s.other_links)) (sym is) (links_once why n s.other_links are.other_links);
    of_none = one_later n (told_in s).of_none are.of_none;
    backwards = one_later n s.backwards are.backwards;
  }

leaves_once : (b : Bool) (n : ℕ) (why : LeftOut) (event : EventState) (s t : Noticed) → event.frame.number ≡ n → AreOnce n (told_in s) → Leaves b why event s t → AreOnce (n + 1) (told_in t)
leaves_once true n why event s t is are (hosts, header, between, has, same) =
    let now = all_later n (told_in s) are in
    subst (λ (x : Noticed). AreOnce (n + 1) (told_in x)) (sym same) (record { copies = now.copies; discarded = now.discarded; other_links = now.other_links; of_none = now.of_none; backwards = now.backwards })
leaves_once false n why event s t is are same = subst (λ (x : Noticed). AreOnce (n + 1) (told_in x)) (sym same) (leaving_once n (reached_by s.times) why event s is are)

-- what passed may be older than the one before
passed_once : (n : ℕ) (c : Carried) (s : Noticed) → c.frame ≡ n → AreOnce n (told_in s) → AreEarlier (n + 1) (going_back c.frame c.time s.times s.backwards)
passed_once n c s is are = subst (λ k. AreEarlier (n + 1) (going_back k c.time s.times s.backwards)) (sym is) (back_once n c.time s.times s.backwards are.backwards)

aside_once : (n : ℕ) (c : Carried) (s : Noticed) → c.frame ≡ n → AreOnce n (told_in s) → AreEarlier (n + 1) (c.frame ∷ (told_in s).of_none)
aside_once n c s is are = subst (λ k. AreEarlier (n + 1) (k ∷ (told_in s).of_none)) (sym is) (with_it n (told_in s).of_none are.of_none)

placing_once : (place : Place) (n : ℕ) (event : EventState) (c : Carried) (s : Noticed) → c.frame ≡ n → AreOnce n (told_in s) → AreOnce (n + 1) (told_in (placing place event c s))
placing_once (Opens x) n event c s is are = let now = all_later n (told_in s) are in
    record { copies = now.copies; discarded = now.discarded; other_links = now.other_links; of_none = now.of_none; backwards = passed_once n c s is are }
placing_once (Repeats x) n event c s is are = let now = all_later n (told_in s) are in
    record { copies = now.copies; discarded = now.discarded; other_links = now.other_links; of_none = now.of_none; backwards = passed_once n c s is are }
placing_once (Talks x) n event c s is are = let now = all_later n (told_in s) are in
    record { copies = now.copies; discarded = now.discarded; other_links = now.other_links; of_none = now.of_none; backwards = passed_once n c s is are }
placing_once (Beside x) n event c s is are = let now = all_later n (told_in s) are in
    record { copies = now.copies; discarded = now.discarded; other_links = now.other_links; of_none = now.of_none; backwards = passed_once n c s is are }
placing_once (Apart a) n event c s is are = let now = all_later n (told_in s) are in
    record { copies = now.copies; discarded = now.discarded; other_links = now.other_links; of_none = aside_once n c s is are; backwards = passed_once n c s is are }
placing_once Nowhere n event c s is are = let now = all_later n (told_in s) are in
    record { copies = now.copies; discarded = now.discarded; other_links = now.other_links; of_none = aside_once n c s is are; backwards = passed_once n c s is are }

-- one frame more
once_more : (named : List ℕ) (n : ℕ) (event : EventState) (fate : Fate) (older : List Carried) (s : Noticed) (all : List Carried) (t : Noticed) → event.frame.number ≡ n → AreOnce n (told_in s)
    → AddsOne named event fate older s all t → AreOnce (n + 1) (told_in t)
once_more named n event (Datagram given) older s all t is are (c, carries, more, same) =
    subst (λ (x : Noticed). AreOnce (n + 1) (told_in x)) (sym same) (placing_once (framed_after named older c).placed.place n event c s (carries.frame ∙ is) are)
once_more named n event (Left why) older s all t is are (more, leaves) = leaves_once (may_be_datagram why) n why event s t is are leaves
once_more named n event Waits older s all t is are (more, (hosts, between, same)) =
    let now = all_later n (told_in s) are in
    subst (λ (x : Noticed). AreOnce (n + 1) (told_in x)) (sym same) (record { copies = now.copies; discarded = now.discarded; other_links = now.other_links; of_none = now.of_none; backwards = now.backwards })
once_more named n event (Discarded given) older s all t is are (more, same) =
    let now = all_later n (told_in s) are in
    subst (λ (x : Noticed). AreOnce (n + 1) (told_in x)) (sym same) (record {
      copies = now.copies;
      discarded = subst (λ k. AreEarlier (n + 1) (k ∷ (told_in s).discarded)) (sym is) (with_it n (told_in s).discarded are.discarded);
      other_links = now.other_links;
      of_none = now.of_none;
      backwards = now.backwards;
    })

pub told_once : (named : List ℕ) (history : List Step) (all : List Carried) (t : Noticed) → IsNoticedOf named history all t → AreOnce (length history + 1) (told_in t)
told_once named [] all t is = subst (λ (x : Noticed). AreOnce 1 (told_in x)) (sym is.1) (record { copies = tt; discarded = tt; other_links = tt; of_none = tt; backwards = tt })
told_once named (step ∷ before) all t (older, s, event, fate, was, of, came, adds) =
    let are = told_once named before older s was in
    let one_more : length before + 1 + 1 ≡ length (step ∷ before) + 1 = omega arith in
    subst (λ n. AreOnce n (told_in t)) one_more
    (once_more named (length before + 1) event fate older (letting_go event.brought s) all t of.number
    (record { copies = are.copies; discarded = are.discarded; other_links = are.other_links; of_none = are.of_none; backwards = are.backwards }) adds)
