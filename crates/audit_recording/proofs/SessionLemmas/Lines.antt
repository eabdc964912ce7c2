-- Lines that are put one after another, and one frame more that is lost.
use Rattle.std.proofs.Common.{◌≡◌, ◌++◌, ℕ, List, Result, Ok, Err, OnOk, ap, ◌∙◌, append_assoc}
use Rattle.audit_recording.specs.Session.Lines.{lines_by, lines_of}
use Rattle.audit_recording.specs.Session.Told.{AreFramesOf, AreKindsOf, Told}
use Rattle.audit_recording.specs.declared.session.frames.Frames.{Frames}
use Rattle.audit_recording.specs.declared.session.kinds.Kinds.{Kinds}

-- some, and then others
pub puts_both : (a b c xs ys : List (List ℕ)) → b ≡ a ++ xs → c ≡ b ++ ys → c ≡ a ++ (xs ++ ys)
puts_both a b c xs ys p q = q ∙ (ap (λ l. l ++ ys) p ∙ append_assoc a xs ys)

-- that where the last call may fail
pub puts_last : {E : Type 0} (r : Result (Unit {0}) E) (a b c xs ys : List (List ℕ)) → b ≡ a ++ xs → OnOk r (c ≡ b ++ ys) → OnOk r (c ≡ a ++ (xs ++ ys))
puts_last (Ok u) a b c xs ys p q = puts_both a b c xs ys p q
puts_last (Err e) a b c xs ys p q = tt

-- what is told of frames, by what stands for them
pub told_as : (f : Frames) (frames what : List ℕ) → AreFramesOf f frames → lines_by f.count f.first.items what ≡ lines_of frames what
told_as f frames what are i = lines_by (are.count i) (are.first i) what

pub puts_told : (f : Frames) (frames what : List ℕ) (a b : List (List ℕ)) → AreFramesOf f frames → b ≡ a ++ lines_by f.count f.first.items what → b ≡ a ++ lines_of frames what
puts_told f frames what a b are p = p ∙ ap (λ (l : List (List ℕ)). a ++ l) (told_as f frames what are)

-- that where the call may fail
pub puts_told_last : {E : Type 0} (r : Result (Unit {0}) E) (f : Frames) (frames what : List ℕ) (a b : List (List ℕ)) → AreFramesOf f frames
    → OnOk r (b ≡ a ++ lines_by f.count f.first.items what) → OnOk r (b ≡ a ++ lines_of frames what)
puts_told_last (Ok u) f frames what a b are p = puts_told f frames what a b are p
puts_told_last (Err e) f frames what a b are p = tt

-- one frame more is lost
pub more_lost : (k : Kinds) (f : Frames) (t : Told) (lost : List ℕ) → AreKindsOf k t → AreFramesOf f lost → AreKindsOf (record k { lost = f }) (record t { lost = lost })
more_lost k f t lost are is = record {
  copies = are.copies;
  discarded = are.discarded;
  other_links = are.other_links;
  of_none = are.of_none;
  backwards = are.backwards;
  lost = is;
}
