-- What a list has, each once.
use Rattle.std.specs.Prelude.{◌++◌, Bool, List, [], ◌∷◌, if◌then◌else◌}
use Rattle.std.specs.List.{list_any}

-- Of all that are alike the first, the oldest first, where `alike` tells whether one is like an earlier one. The list has the newest first.
abbrev pub firsts : {A : Type 0} → (A → A → Bool) → List A → List A
firsts alike [] = []
firsts alike (x ∷ older) = firsts alike older ++ (if list_any (alike x) older then [] else x ∷ [])
