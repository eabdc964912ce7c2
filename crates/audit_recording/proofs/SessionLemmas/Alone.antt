-- Each frame is told as one thing alone.
use Rattle.std.proofs.Common.{◌≡◌, ◌≤◌, ◌+◌, ◌∷◌, ℕ, true, false, Bool, cond, List, [], length, sym, subst, ◌∙◌, arith}
use Rattle.net_udp.specs.Recording.{EventState, Step}
use Rattle.net_udp.specs.declared.frames.fault.FrameFault.TheVariants as frame
use Rattle.net_udp.specs.declared.recording.fate.Fate.TheVariants.{Datagram, Discarded, Left, Waits}
use Rattle.net_udp.specs.declared.recording.fate.LeftOut.{LeftOut}
use Rattle.net_udp.specs.declared.recording.fate.LeftOut.TheVariants.{Apart as InParts, Copy, Empty, Frame, Full, TooLong, Udp}
use Rattle.net_udp.specs.{Fate}
use Rattle.audit_flows.specs.declared.lines.place.Place.TheVariants.{Opens, Repeats, Talks, Apart, Beside, Nowhere}
use Rattle.audit_flows.specs.{Place}
use Rattle.audit_recording.specs.Blame.Frames.{Carried, framed_after}
use Rattle.audit_recording.specs.Session.Noted.{Noticed, finding, is_none, keeping, leaving, may_be_datagram, sharers_of, told_in}
use Rattle.audit_recording.specs.Session.Recording.{AddsOne, IsNoticedOf, Leaves, letting_go, placing, reached_by}
use Rattle.audit_recording.specs.Session.Told.{AreApart, AreEarlier, AreOfOneKind, AreOnce, IsNotAmong, Told}
use Rattle.audit_recording.proofs.SessionLemmas.Once.{told_once}

-- ---- one frame more

-- a frame is not among those of earlier frames
not_among : (n m : ℕ) (frames : List ℕ) → m ≤ n → AreEarlier m frames → IsNotAmong n frames
not_among n m [] low are = tt
not_among n m (frame ∷ older) low are = let is = are.0 in (λ e. omega (arith, e), not_among n frame older (omega arith) are.1)

-- nor are they it
apart_with : (n m : ℕ) (frames others : List ℕ) → m ≤ n → AreEarlier m frames → AreApart frames others → AreApart frames (n ∷ others)
apart_with n m [] others low are apart = tt
apart_with n m (frame ∷ older) others low are apart = let is = are.0 in ((λ e. omega (arith, e), apart.0), apart_with n frame older others (omega arith) are.1 apart.1)

module _ (n : ℕ) (t : Told) (are : AreOnce n t) (one : AreOfOneKind t) where
  copied : AreOfOneKind (record t { copies = n ∷ t.copies })
  copied = (
    (not_among n n t.discarded (omega arith) are.discarded, one.0),
    (not_among n n t.other_links (omega arith) are.other_links, one.1),
    (not_among n n t.of_none (omega arith) are.of_none, one.2),
    one.3,
    one.4,
    one.5,
  )

  discarded : AreOfOneKind (record t { discarded = n ∷ t.discarded })
  discarded = (
    apart_with n n t.copies t.discarded (omega arith) are.copies one.0,
    one.1,
    one.2,
    (not_among n n t.other_links (omega arith) are.other_links, one.3),
    (not_among n n t.of_none (omega arith) are.of_none, one.4),
    one.5,
  )

  linked : AreOfOneKind (record t { other_links = n ∷ t.other_links })
  linked = (
    one.0,
    apart_with n n t.copies t.other_links (omega arith) are.copies one.1,
    one.2,
    apart_with n n t.discarded t.other_links (omega arith) are.discarded one.3,
    one.4,
    (not_among n n t.of_none (omega arith) are.of_none, one.5),
  )

  aside : AreOfOneKind (record t { of_none = n ∷ t.of_none })
  aside = (
    one.0,
    one.1,
    apart_with n n t.copies t.of_none (omega arith) are.copies one.2,
    one.3,
    apart_with n n t.discarded t.of_none (omega arith) are.discarded one.4,
    apart_with n n t.other_links t.of_none (omega arith) are.other_links one.5,
  )

-- ---- by what became of the frame

keeping_alone : (why : LeftOut) (n : ℕ) (s : Noticed) → AreOnce n (told_in s) → AreOfOneKind (told_in s) → AreOfOneKind (told_in (keeping why n s))
keeping_alone Copy n s are one = copied n (told_in s) are one
keeping_alone (Frame frame.Link) n s are one = linked n (told_in s) are one
keeping_alone (Frame frame.Frame) n s are one = one
keeping_alone (Frame frame.Network) n s are one = one
keeping_alone (Frame frame.Header) n s are one = one
keeping_alone (Frame frame.Protocol) n s are one = one
keeping_alone (Frame frame.Length) n s are one = one
keeping_alone (Frame frame.Cut) n s are one = one
keeping_alone (Frame frame.Extension) n s are one = one
keeping_alone (Udp fault) n s are one = one
keeping_alone InParts n s are one = one
keeping_alone Empty n s are one = one
keeping_alone TooLong n s are one = one
keeping_alone Full n s are one = one

found_once : (n reached : ℕ) (frames : List ℕ) (s : Noticed) → AreOnce n (told_in s) → AreOnce n (told_in (finding reached frames s))
found_once n reached frames s are = record { copies = are.copies; discarded = are.discarded; other_links = are.other_links; of_none = are.of_none; backwards = are.backwards }

leaving_alone : (n reached : ℕ) (why : LeftOut) (event : EventState) (s : Noticed) → event.frame.number ≡ n → AreOnce n (told_in s) → AreOfOneKind (told_in s)
    → AreOfOneKind (told_in (leaving reached why event s))
leaving_alone n reached why event s is are one = by (is_none why) where
  by : (b : Bool) → AreOfOneKind (told_in (keeping why event.frame.number (cond b (finding reached (sharers_of event) s) s)))
  by true = subst (λ k. AreOfOneKind (told_in (keeping why k (finding reached (sharers_of event) s)))) (sym is) (keeping_alone why n (finding reached (sharers_of event) s) (found_once n reached (sharers_of event) s are) one)
  by false = subst (λ k. AreOfOneKind (told_in (keeping why k s))) (sym is) (keeping_alone why n s are one)

leaves_alone : (b : Bool) (n : ℕ) (why : LeftOut) (event : EventState) (s t : Noticed) → event.frame.number ≡ n → AreOnce n (told_in s) → AreOfOneKind (told_in s) → Leaves b why event s t
    → AreOfOneKind (told_in t)
leaves_alone true n why event s t is are one (hosts, header, between, has, same) = subst (λ (x : Noticed). AreOfOneKind (told_in x)) (sym same) one
leaves_alone false n why event s t is are one same = subst (λ (x : Noticed). AreOfOneKind (told_in x)) (sym same) (leaving_alone n (reached_by s.times) why event s is are one)

aside_alone : (n frame : ℕ) (s : Noticed) → frame ≡ n → AreOnce n (told_in s) → AreOfOneKind (told_in s) → AreOfOneKind (record (told_in s) { of_none = frame ∷ (told_in s).of_none })
aside_alone n frame s is are one = subst (λ k. AreOfOneKind (record (told_in s) { of_none = k ∷ (told_in s).of_none })) (sym is) (aside n (told_in s) are one)

placing_alone : (place : Place) (n : ℕ) (event : EventState) (c : Carried) (s : Noticed) → c.frame ≡ n → AreOnce n (told_in s) → AreOfOneKind (told_in s) → AreOfOneKind (told_in (placing place event c s))
placing_alone (Opens x) n event c s is are one = one
placing_alone (Repeats x) n event c s is are one = one
placing_alone (Talks x) n event c s is are one = one
placing_alone (Beside x) n event c s is are one = one
placing_alone (Apart a) n event c s is are one = aside_alone n c.frame s is are one
placing_alone Nowhere n event c s is are one = aside_alone n c.frame s is are one

alone_more : (named : List ℕ) (n : ℕ) (event : EventState) (fate : Fate) (older : List Carried) (s : Noticed) (all : List Carried) (t : Noticed) → event.frame.number ≡ n → AreOnce n (told_in s)
    → AreOfOneKind (told_in s) → AddsOne named event fate older s all t → AreOfOneKind (told_in t)
alone_more named n event (Datagram given) older s all t is are one (c, carries, more, same) =
    subst (λ (x : Noticed). AreOfOneKind (told_in x)) (sym same) (placing_alone (framed_after named older c).placed.place n event c s (carries.frame ∙ is) are one)
alone_more named n event (Left why) older s all t is are one (more, leaves) = leaves_alone (may_be_datagram why) n why event s t is are one leaves
alone_more named n event Waits older s all t is are one (more, (hosts, between, same)) = subst (λ (x : Noticed). AreOfOneKind (told_in x)) (sym same) one
alone_more named n event (Discarded given) older s all t is are one (more, same) =
    subst (λ (x : Noticed). AreOfOneKind (told_in x)) (sym same)
    (subst (λ k. AreOfOneKind (record (told_in s) { discarded = k ∷ (told_in s).discarded })) (sym is) (discarded n (told_in s) are one))

pub told_alone : (named : List ℕ) (history : List Step) (all : List Carried) (t : Noticed) → IsNoticedOf named history all t → AreOfOneKind (told_in t)
told_alone named [] all t is = subst (λ (x : Noticed). AreOfOneKind (told_in x)) (sym is.1) (tt, tt, tt, tt, tt, tt)
told_alone named (step ∷ before) all t (older, s, event, fate, was, of, came, adds) =
    let are = told_once named before older s was in
    alone_more named (length before + 1) event fate older (letting_go event.brought s) all t of.number
    (record { copies = are.copies; discarded = are.discarded; other_links = are.other_links; of_none = are.of_none; backwards = are.backwards })
    (told_alone named before older s was) adds
