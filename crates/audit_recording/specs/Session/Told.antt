-- The frames of which something is told of a recording as a whole. Lists have the newest first.
use Rattle.std.specs.Prelude.{◌≡◌, ◌≢◌, ◌<◌, ℕ, Bool, true, false, List, [], ◌∷◌, length, min, reverse, take}
use Rattle.audit_recording.specs.declared.session.frames.Frames.{Frames}
use Rattle.audit_recording.specs.declared.session.kinds.Kinds.{Kinds}

-- how many they are; more than can be counted are told as 2^64 - 1
abbrev pub count_of : List ℕ → ℕ
count_of frames = min (length frames) 18446744073709551615

-- those that are named: the first five that came
abbrev pub first_five : List ℕ → List ℕ
first_five frames = take 5 (reverse frames)

abbrev pub is_nil : List ℕ → Bool
is_nil [] = true
is_nil (frame ∷ older) = false

-- They stand for these frames.
pub record AreFramesOf (f : Frames) (frames : List ℕ) : Type 0 where
  pub count : f.count ≡ count_of frames
  pub first : f.first.items ≡ first_five frames

-- The frames that were left out as copies, those that their hosts discarded, those of another link type, those of datagrams of no
-- transfer, those whose time is before that of the one before, and those that are not there whole.
pub record Told : Type 0 where
  pub copies : List ℕ
  pub discarded : List ℕ
  pub other_links : List ℕ
  pub of_none : List ℕ
  pub backwards : List ℕ
  pub lost : List ℕ

abbrev pub nothing_told : Told
nothing_told = record { copies = []; discarded = []; other_links = []; of_none = []; backwards = []; lost = [] }

-- They stand for these frames, each of its kind.
pub record AreKindsOf (k : Kinds) (t : Told) : Type 0 where
  pub copies : AreFramesOf k.copies t.copies
  pub discarded : AreFramesOf k.discarded t.discarded
  pub other_links : AreFramesOf k.other_links t.other_links
  pub of_none : AreFramesOf k.of_none t.of_none
  pub backwards : AreFramesOf k.backwards t.backwards
  pub lost : AreFramesOf k.lost t.lost

-- ---- each once

-- the first of them stands before that frame, and each further one before the one that is named before it
abbrev pub AreEarlier : ℕ → List ℕ → Type 0
AreEarlier n [] = Unit {0}
AreEarlier n (frame ∷ older) = (frame < n) × AreEarlier frame older

-- before that frame each of them stands once in its kind
pub record AreOnce (n : ℕ) (t : Told) : Type 0 where
  pub copies : AreEarlier n t.copies
  pub discarded : AreEarlier n t.discarded
  pub other_links : AreEarlier n t.other_links
  pub of_none : AreEarlier n t.of_none
  pub backwards : AreEarlier n t.backwards

-- ---- as one thing alone

abbrev pub IsNotAmong : ℕ → List ℕ → Type 0
IsNotAmong n [] = Unit {0}
IsNotAmong n (frame ∷ older) = (frame ≢ n) × IsNotAmong n older

-- no frame stands in both
abbrev pub AreApart : List ℕ → List ℕ → Type 0
AreApart [] others = Unit {0}
AreApart (frame ∷ older) others = IsNotAmong frame others × AreApart older others

-- A frame that was left out as a copy was not also left out as discarded or as one of another link type, nor is it of no transfer; and so on.
abbrev pub AreOfOneKind : Told → Type 0
AreOfOneKind t =
    AreApart t.copies t.discarded × AreApart t.copies t.other_links × AreApart t.copies t.of_none
    × AreApart t.discarded t.other_links × AreApart t.discarded t.of_none × AreApart t.other_links t.of_none

-- ---- what is lost, in any order: fragments that waited are told when they are given up

-- each of them stands there once
abbrev pub AreEachOnce : List ℕ → Type 0
AreEachOnce [] = Unit {0}
AreEachOnce (frame ∷ older) = IsNotAmong frame older × AreEachOnce older

-- A frame that is not there whole was not left out as a copy, as discarded or as one of another link type; nor did it give a datagram, of no
-- transfer or older than the one before.
pub record IsLostAlone (t : Told) : Type 0 where
  pub copies : AreApart t.lost t.copies
  pub discarded : AreApart t.lost t.discarded
  pub other_links : AreApart t.lost t.other_links
  pub of_none : AreApart t.lost t.of_none
  pub backwards : AreApart t.lost t.backwards
