-- Nothing that was judged is hidden.
use Rattle.std.proofs.Common.{rules, Any, Bool, true, false, IsSome, None, Option, Some, inl, inr, refl, sym, subst, ◌≡◌, ◌≢◌, ◌++◌, [], if◌then◌else◌}
use Rattle.audit_recording.specs.Rows.{Tells, both_row, is_told_at_ends, plain_row, rows_told, said_at}
use Rattle.audit_recording.specs.declared.rows.row.Point.{Point}
use Rattle.audit_recording.specs.declared.rows.row.Point.TheVariants.{Client, Server, Between}
use Rattle.audit_recording.specs.declared.rows.said.Said.{Said}
use Rattle.audit_recording.specs.Rows.Told.{ends_told, row_of}

by_both : (c s : Said) (point : Point) → point ≢ Between → Tells (Some c) (Some s) true point both_row
by_both c s point not = inr (refl, not, refl, search rules, search rules)

pub told_at_end : (client server between : Option Said) (alike : Bool) (point : Point) → point ≢ Between → IsSome (said_at point client server between)
    → Any (Tells client server alike point) (rows_told client server between alike)
told_at_end (Some c) (Some s) b true Client not some = (0, both_row, search rules, refl, by_both c s Client not)
told_at_end (Some c) (Some s) b false Client not some = (0, plain_row Client, search rules, refl, inl refl)
told_at_end (Some c) None b alike Client not some = (0, plain_row Client, search rules, refl, inl refl)
told_at_end None s b alike Client not some = search rules
told_at_end (Some c) (Some s) b true Server not some = (0, both_row, search rules, refl, by_both c s Server not)
told_at_end (Some c) (Some s) b false Server not some = (1, plain_row Server, search rules, refl, inl refl)
told_at_end None (Some s) b alike Server not some = (0, plain_row Server, search rules, refl, inl refl)
told_at_end c None b alike Server not some = search rules
told_at_end c s b alike Between not some = absurd (not refl)

-- what is said between has the last row
last_told : (client server : Option Said) (b : Said) (alike : Bool) → Any (Tells client server alike Between) (ends_told client server alike ++ row_of Between (Some b))
last_told (Some c) (Some s) b true = (1, plain_row Between, search rules, refl, inl refl)
last_told (Some c) (Some s) b false = (2, plain_row Between, search rules, refl, inl refl)
last_told (Some c) None b alike = (1, plain_row Between, search rules, refl, inl refl)
last_told None (Some s) b alike = (1, plain_row Between, search rules, refl, inl refl)
last_told None None b alike = (0, plain_row Between, search rules, refl, inl refl)

pub told_between : (client server between : Option Said) (alike : Bool) → is_told_at_ends client server between ≡ false → IsSome between
    → Any (Tells client server alike Between) (rows_told client server between alike)
told_between client server (Some b) alike not some =
    subst (λ t. Any (Tells client server alike Between) (ends_told client server alike ++ (if t then [] else row_of Between (Some b)))) (sym not) (last_told client server b alike)
told_between client server None alike not some = search rules
