-- The worked recording at an end that shows an ACK above the last block.
use Rattle.std.proofs.Common.{[], ◌∷◌, codes, inl, refl}
use Rattle.law_model.specs.Model.{request_of, two_bytes}
use Rattle.law_model.proofs.ModelLemmas.Members.{contains_first}
use Rattle.law_end.specs.{OneEnded}
use Rattle.law_end.proofs.Completeness.RunsBreakNoRule.{run_keeps}
use Rattle.law_tap.specs.BesideEnd.{AreSidesOf}
use Rattle.law_tap.specs.Losses.{IsCertain}
use Rattle.law_tap.specs.WorkedLosses.{at_server, hi_out, request_in, second_ack_in}
use Rattle.law_tap.specs.WorkedTap.{worked_sides}
use Rattle.law_tap.proofs.EndPasses.{certain_beside}
use Rattle.law_tap.proofs.WorkedLosses.{begun_lawful, request_says}
use Rattle.law_tap.proofs.WorkedLossyRules.{above_certain}

begun : OneEnded at_server (hi_out ∷ request_in ∷ [])
begun = let (m, wire, seen) = begun_lawful in (run_keeps at_server m wire (request_in ∷ hi_out ∷ []) seen).0

pub second_sides : AreSidesOf at_server (codes "10.0.0.1") (second_ack_in ∷ hi_out ∷ request_in ∷ []) worked_sides
second_sides = record {
  rollover = refl;
  request = request_in;
  first = refl;
  client = refl;
  asked = refl;
  other = second_ack_in;
  goes = contains_first second_ack_in (hi_out ∷ request_in ∷ []);
  plain = refl;
  server = refl;
}

pub second_certain : IsCertain at_server (request_in ∷ hi_out ∷ second_ack_in ∷ []) 2
second_certain = certain_beside at_server (codes "10.0.0.1") worked_sides [] (hi_out ∷ request_in ∷ []) second_ack_in (request_of two_bytes) begun (request_in, refl, request_says) refl (inl refl) second_sides above_certain
