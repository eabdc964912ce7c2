-- When a line is silent.
use Rattle.std.proofs.Common.{◌≡◌, ◌≤◌, ◌<◌, ℕ, ◌+◌, true, false, List, [], ◌∷◌, arith, refl, sym, ap, ◌∙◌, nat_le, if◌then◌else◌}
use Rattle.std.proofs.lemmas.Bool.{leb-false, lt-leb}
use Rattle.audit_flows.specs.Lines.{Placed, live, clock, silence, IsLineOf}
use Rattle.audit_flows.specs.declared.lines.line.Line.{Line}
use Rattle.audit_flows.proofs.LinesLemmas.Lines.{by_test}

pub live_is : (now : ℕ) (ps : List Placed) → nat_le now (clock ps + silence) ≡ true → live now ps ≡ ps
live_is now [] is = refl
live_is now (p ∷ ps) is = rw is refl

pub live_not : (now : ℕ) (ps : List Placed) → nat_le now (clock ps + silence) ≡ false → live now ps ≡ []
live_not now [] off = refl
live_not now (p ∷ ps) off = rw off refl

pub still_false : (then_at now limit : ℕ) → then_at ≤ now → nat_le then_at limit ≡ false → nat_le now limit ≡ false
still_false then_at now limit later off = let past : limit < then_at = leb-false then_at limit off in lt-leb now limit (omega arith)

pub live_later : (then_at now : ℕ) (ps : List Placed) → then_at ≤ now → live then_at ps ≡ [] → live now ps ≡ []
live_later then_at now [] later none = refl
live_later then_at now (p ∷ ps) later none = by_test (nat_le then_at (p.moment + silence))
    (λ is. let both : p ∷ ps ≡ [] = sym (ap (λ b. if b then p ∷ ps else []) is) ∙ none in absurd (cc))
    (λ off. live_not now (p ∷ ps) (still_false then_at now (p.moment + silence) later off))

pub live_kept : (l : Line) (now : ℕ) (ps : List Placed) → IsLineOf l ps → nat_le now (l.moment + silence) ≡ true → live now ps ≡ ps
live_kept l now ps stands is = live_is now ps (ap (λ m. nat_le now (m + silence)) stands.moment ∙ is)

pub live_lost : (l : Line) (now : ℕ) (ps : List Placed) → IsLineOf l ps → nat_le now (l.moment + silence) ≡ false → live now ps ≡ []
live_lost l now ps stands off = live_not now ps (ap (λ m. nat_le now (m + silence)) stands.moment ∙ off)
