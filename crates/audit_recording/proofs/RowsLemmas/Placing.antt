-- What is refused at an end and does not depend on the place is refused between the ends, in the same frame.
use Rattle.std.proofs.Common.{◌≡◌, ◌≢◌, ◌&&◌, ◌||◌, not, ℕ, Bool, true, false, List, Option, Some, None, ap, refl, sym, subst, ◌∙◌, if◌then◌else◌}
use Rattle.std.specs.Prelude.{is_some}
use Rattle.std.proofs.lemmas.Bool.{and_parts, eqb-true, or_parts, true≢false}
use Rattle.audit_flows.specs.Lines.{Placed}
use Rattle.audit_flows.specs.{Transfer}
use Rattle.audit_recording.specs.Rows.{accused_in_row, accused_of, depends_on_place, is_at_end, is_refused, is_refused_too, is_told_at_ends, may_be_asked, refused_frame, said_at, same_frame, telling_depends}
use Rattle.audit_recording.specs.declared.rows.row.Point.TheVariants.{Between, Client, Server}
use Rattle.audit_recording.specs.declared.rows.row.Point.{Point}
use Rattle.audit_recording.specs.declared.rows.said.Said.{Said}
use Rattle.audit_recording.specs.declared.rows.telling.Telling.{Telling}
use Rattle.audit_recording.specs.declared.rows.accused.Accused.{Accused}
use Rattle.audit_recording.specs.declared.rows.said.Said.TheVariants.{Accepted, Refused, NotWhole, Memory}

-- ---- frames

one_frame : (one other : Option ℕ) → same_frame one other ≡ true → (frame : ℕ) × (one ≡ Some frame) × (other ≡ Some frame)
one_frame (Some f) (Some g) same = (f, refl, ap Some (sym (eqb-true f g same)))
one_frame (Some f) None same = absurd (cc)
one_frame None other same = absurd (cc)

refused_by_frame : (said : Said) (frame : ℕ) → refused_frame said ≡ Some frame → is_refused said ≡ true
refused_by_frame (Refused rule f) frame is = refl
refused_by_frame Accepted frame is = absurd (cc)
refused_by_frame NotWhole frame is = absurd (cc)
refused_by_frame Memory frame is = absurd (cc)

not_not : (b : Bool) → not b ≡ false → b ≡ true
not_not true is = refl
not_not false is = absurd (true≢false is)

yes_not : (b : Bool) → not b ≡ true → b ≡ false
yes_not true is = absurd (true≢false (sym is))
yes_not false is = refl

-- two are refused in one frame
too : (said between : Said) → is_refused said ≡ true → depends_on_place (Some said) (Some between) ≡ false
    → (frame : ℕ) × (refused_frame said ≡ Some frame) × (refused_frame between ≡ Some frame)
too said between refused stands =
    let is_too : is_refused_too said between ≡ true = not_not (is_refused_too said between) (subst (λ t. (t && not (is_refused_too said between)) ≡ false) refused stands) in
    one_frame (refused_frame said) (refused_frame between) (and_parts (same_frame (refused_frame said) (refused_frame between)) (not (may_be_asked between)) is_too).0

-- ---- what is told at the ends

neither_depends : (client server between : Option Said) → is_told_at_ends client server between ≡ true
    → (depends_on_place client between ≡ false) × (depends_on_place server between ≡ false)
neither_depends client server between is =
    let depends : Bool = depends_on_place client between || depends_on_place server between in
    let at_server = (and_parts (is_some client) (is_some server && not depends) is).1 in
    or_parts (depends_on_place client between) (depends_on_place server between) (yes_not depends (and_parts (is_some server) (not depends) at_server).1)

of_one : (said there : Said) (frame : ℕ) → depends_on_place (Some said) (Some there) ≡ false → refused_frame said ≡ Some frame → refused_frame there ≡ Some frame
of_one said there frame stands is =
    let both = too said there (refused_by_frame said frame is) stands in
    both.2 ∙ (sym both.1 ∙ is)

of_some : (end between : Option Said) (said there : Said) (frame : ℕ) → depends_on_place end between ≡ false → end ≡ Some said → between ≡ Some there
    → refused_frame said ≡ Some frame → refused_frame there ≡ Some frame
of_some end between said there frame stands at_end at_tap is =
    of_one said there frame (subst (λ b. depends_on_place (Some said) b ≡ false) at_tap (subst (λ e. depends_on_place e between ≡ false) at_end stands)) is

pub refused_there : (client server between : Option Said) (said there : Said) (point : Point) (frame : ℕ) → is_told_at_ends client server between ≡ true
    → point ≢ Between → said_at point client server between ≡ Some said → between ≡ Some there → refused_frame said ≡ Some frame
    → refused_frame there ≡ Some frame
refused_there client server between said there Client frame told not at_end at_tap is = of_some client between said there frame (neither_depends client server between told).0 at_end at_tap is
refused_there client server between said there Server frame told not at_end at_tap is = of_some server between said there frame (neither_depends client server between told).1 at_end at_tap is
refused_there client server between said there Between frame told not at_end at_tap is = absurd (not refl)

-- ---- whom a row accuses

chosen : (refused : Bool) (o : Option Accused) (a : Accused) → (if refused then o else None) ≡ Some a → (refused ≡ true) × (o ≡ Some a)
chosen true o a is = (refl, is)
chosen false o a is = absurd (cc)

in_row : (x : Transfer) (whole : List Placed) (p : Placed) (told : Telling) (doubtful : Bool) (a : Accused) → accused_in_row x whole p told doubtful ≡ Some a
    → (is_refused told.said ≡ true) × (accused_of x whole p (telling_depends told || doubtful) ≡ Some a)
in_row x whole p told doubtful a is = chosen (is_refused told.said) (accused_of x whole p (telling_depends told || doubtful)) a is

sure : (x : Transfer) (whole : List Placed) (p : Placed) (doubtful : Bool) (a : Accused) → accused_of x whole p doubtful ≡ Some a → doubtful ≡ false
sure x whole p true a is = absurd (cc)
sure x whole p false a is = refl

pub refused : (x : Transfer) (whole : List Placed) (p : Placed) (told : Telling) (doubtful : Bool) (a : Accused) → accused_in_row x whole p told doubtful ≡ Some a
    → is_refused told.said ≡ true
refused x whole p told doubtful a is = (in_row x whole p told doubtful a is).0

pub own : (x : Transfer) (whole : List Placed) (p : Placed) (told : Telling) (doubtful : Bool) (a : Accused) → accused_in_row x whole p told doubtful ≡ Some a
    → accused_of x whole p doubtful ≡ Some a
own x whole p told doubtful a is =
    let by_itself = (in_row x whole p told doubtful a is).1 in
    let no_doubt = sure x whole p (telling_depends told || doubtful) a by_itself in
    subst (λ d. accused_of x whole p d ≡ Some a) (no_doubt ∙ sym (or_parts (telling_depends told) doubtful no_doubt).1) by_itself

of_an_end : (point : Point) → point ≢ Between → is_at_end point ≡ true
of_an_end Client not = refl
of_an_end Server not = refl
of_an_end Between not = absurd (not refl)

pub refused_between : (x : Transfer) (whole : List Placed) (p : Placed) (point : Point) (said there : Said) (doubtful : Bool) (a : Accused)
    → accused_in_row x whole p (record { point = point; said = said; between = Some there }) doubtful ≡ Some a → point ≢ Between
    → (frame : ℕ) × (refused_frame said ≡ Some frame) × (refused_frame there ≡ Some frame)
refused_between x whole p point said there doubtful a is not =
    let told : Telling = record { point = point; said = said; between = Some there } in
    let parts = in_row x whole p told doubtful a is in
    let stands = (or_parts (telling_depends told) doubtful (sure x whole p (telling_depends told || doubtful) a parts.1)).0 in
    too said there parts.0 (subst (λ t. (t && depends_on_place (Some said) (Some there)) ≡ false) (of_an_end point not) stands)
