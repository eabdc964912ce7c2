-- A place of a ring: where its block lies, if it has one.
use Rattle.std.specs.Prelude.{◌≡◌, ℕ, Bool, true, false, Option, Some, None}
use Rattle.std.proofs.Common.{refl, ap, sym, ◌∙◌}
use Rattle.tftp_ends.specs.declared.blocks.waiting.Span.{Span}
use Rattle.tftp_ends.specs.declared.blocks.waiting.Place.TheInside.{Inside}

-- the span in a place, where a block is held there
abbrev pub span_in : Bool → Span → Option Span
span_in true span = Some span
span_in false span = None

abbrev pub span_of : Inside → Option Span
span_of p = span_in p.held (record { start = p.start; len = p.len })

-- the fields by which a place is kept
abbrev pub kept_as : Option Span → Inside
kept_as (Some span) = record { start = span.start; len = span.len; held = true }
kept_as None = record { start = 0; len = 0; held = false }

-- a place without a block keeps no other number than 0
abbrev pub IsPlace : Inside → Type 0
IsPlace p = p.held ≡ false → (p.start ≡ 0) × (p.len ≡ 0)

fields_again : (start len : ℕ) (held : Bool) → (held ≡ false → (start ≡ 0) × (len ≡ 0))
    → kept_as (span_in held (record { start = start; len = len })) ≡ record { start = start; len = len; held = held }
fields_again start len true none = refl
fields_again start len false none = let zeros = none refl in
    ap (λ s. record { start = s; len = 0; held = false }) (sym zeros.0) ∙ ap (λ l. record { start = start; len = l; held = false }) (sym zeros.1)

-- a place is kept in one way
pub kept_again : (p : Inside) → IsPlace p → kept_as (span_of p) ≡ p
kept_again p none = fields_again p.start p.len p.held none
