use Rattle.std.proofs.Common.{Bool, true, false, ◌∷◌, inl, if◌then◌else◌}
use Rattle.law_model.specs.Rules.{is_of_transfer, route_of, transfer_of}
use Rattle.law_end.specs.Aborted.{FirstError}
use Rattle.law_end.proofs.laws.the_first_error_stays.Goals as goal

pub returns : goal.returns
returns c header earlier d by code first = stays (is_of_transfer (route_of header earlier d)) where
  stays : (b : Bool) → FirstError (if b then d ∷ transfer_of header earlier else transfer_of header earlier) by code
  stays true = inl first
  stays false = first
