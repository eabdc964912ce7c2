-- Nothing may always be agreed, so any meaning without options fits a wire.
use Rattle.std.proofs.Common.{◌≡◌, ℕ, List, Some, codes, refl, arith, Option}
use Rattle.std.specs.FinMap as map
use Rattle.std.specs.Ordering.{nat_cmp}
use Rattle.std.specs.Cmp.Lexicographic.{slice_cmp}
use Rattle.tftp_packet.specs.{RequestParts, OptionValue, no_options}
use Rattle.tftp_packet.specs.{Rollover}
use Rattle.law_model.specs.Model.{request_of, two_bytes}
use Rattle.law_model.proofs.ModelLemmas.Worked.{one_block}
use Rattle.tftp_packet.proofs.RoundsLemmas.Greatest.{two_bytes_within}
use Rattle.tftp_nego.specs.{MayAgree}
use Rattle.law_end.specs.{Fits}

pub none_there : (name : List ℕ) (value : OptionValue) → map.get no_options name ≡ Some value → ⊥
none_there name value e = let none = map.get-empty {X = OptionValue} (slice_cmp nat_cmp) name in absurd (cc)

-- nothing is always agreed to
pub nothing_may_be_agreed_by : (rollover : Option Rollover) (request : RequestParts) → MayAgree rollover request no_options
nothing_may_be_agreed_by rollover request = record {
  asked = λ name value e. absurd (none_there name value e);
  size = λ mode size e. absurd (none_there (codes "tsize") (OptionValue.Num size) e);
}

pub two_bytes_fit : (rollover : Option Rollover) → Fits rollover two_bytes two_bytes.file
two_bytes_fit rollover = record {
  may_agree = nothing_may_be_agreed_by rollover (request_of two_bytes);
  reads = refl;
  size = λ mode size e. absurd (none_there (codes "tsize") (OptionValue.Num size) e);
  numbered = let least = two_bytes_within rollover in omega (arith, one_block);
}
