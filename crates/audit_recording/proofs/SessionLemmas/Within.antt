-- The datagrams of a recording came in the frames that were read.
use Rattle.std.proofs.Common.{◌≤◌, ◌∷◌, ℕ, List, [], length, subst, sym, arith}
use Rattle.net_udp.specs.{Fate}
use Rattle.net_udp.specs.Recording.{EventState, Step}
use Rattle.net_udp.specs.declared.recording.fate.Fate.TheVariants.{Datagram, Discarded, Left, Waits}
use Rattle.audit_recording.specs.Blame.Frames.{Carried}
use Rattle.audit_recording.specs.Session.Noted.{Noticed}
use Rattle.audit_recording.specs.Session.Recording.{AddsOne, IsNoticedOf, letting_go}

abbrev pub AreWithin : ℕ → List Carried → Type 0
AreWithin n [] = Unit {0}
AreWithin n (c ∷ older) = (c.frame ≤ n) × AreWithin n older

within_more : (n m : ℕ) → n ≤ m → (carried : List Carried) → AreWithin n carried → AreWithin m carried
within_more n m up [] all = tt
within_more n m up (c ∷ older) all = ((let here = all.0 in omega arith), within_more n m up older all.1)

one_within : (named : List ℕ) (event : EventState) (fate : Fate) (older : List Carried) (s : Noticed) (all : List Carried) (t : Noticed) (n : ℕ) → event.frame.number ≤ n → AddsOne named event fate older s all t
    → AreWithin n older → AreWithin n all
one_within named event (Datagram given) older s all t n up (c, is, more, same) were = subst (AreWithin n) (sym more) ((let at = is.frame in omega arith), were)
one_within named event (Left why) older s all t n up (more, leaves) were = subst (AreWithin n) (sym more) were
one_within named event Waits older s all t n up (more, wait) were = subst (AreWithin n) (sym more) were
one_within named event (Discarded given) older s all t n up (more, same) were = subst (AreWithin n) (sym more) were

pub all_within : (named : List ℕ) (history : List Step) (carried : List Carried) (s : Noticed) → IsNoticedOf named history carried s → AreWithin (length history) carried
all_within named [] carried s is = subst (AreWithin 0) (sym is.0) tt
all_within named (step ∷ before) carried s is =
    let number = is.5.number in
    one_within named is.2 is.3 is.0 (letting_go is.2.brought is.1) carried s (length (step ∷ before)) (omega arith) is.7
    (within_more (length before) (length (step ∷ before)) (omega arith) is.0 (all_within named before is.0 is.1 is.4))
