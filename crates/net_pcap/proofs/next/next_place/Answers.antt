use Rattle.std.proofs.Common.{◌≡◌, ◌++◌, inr, Err, List, append-nil, ap, ◌∙◌, subst, arith}
use Rattle.std.proofs.lemmas.Grind.{common_steps}
use Rattle.net_pcap.specs.{FrameParts, Stands, Memory}
use Rattle.net_pcap.proofs.Steps.{reach_said, reach_none, reach_fault, reach_short}
use Rattle.net_pcap.proofs.next.next_place.Goals as goal

pub returns-in-Some-clause-tells : goal.returns-in-Some-clause-tells
returns-in-Some-clause-tells g c = λ bytes frames stands.
    let (taken, consumed, goes) = c.pieces.invariant.reaches bytes frames stands in
    let ends = rw c.in-Ok-Some.field-0-is at c.in-Ok-Some.ensures.ends in
    let reached = reach_said bytes taken ends.0 c.step.new.piece.items frames c.pieces.pieces c.step.new.self _ _ _ consumed goes ends.1 c.in-Ok-Some.found ends.2 in
    rw c.in-Some.ensures at reached

pub pieces-preserved : goal.pieces-preserved
pieces-preserved g c =
    let ends = rw c.in-Ok-Some.field-0-is at c.in-Ok-Some.ensures.ends in
    record {
      tally = grind (arith, common_steps);
      roomy = omega (arith, c.in-Ok-Some.ensures.roomy, c.pieces.invariant.roomy);
      places = omega (arith, c.in-Ok-Some.ensures.places, c.pieces.invariant.places);
      grows = omega (arith, ends.2.2, c.pieces.invariant.grows);
      reaches = λ bytes frames stands.
          let (taken, consumed, goes) = c.pieces.invariant.reaches bytes frames stands in
          let reached = reach_said bytes taken ends.0 c.step.new.piece.items frames c.pieces.pieces c.step.new.self _ _ _ consumed goes ends.1 c.in-Ok-Some.found ends.2 in
          (reached.0, reached.1, subst (λ (f : List FrameParts). Stands (bytes ++ reached.0) c.step.new.self.mode c.step.new.self.count f) (ap (λ l. frames ++ l) (c.in-None.ensures c.step.new.piece.items) ∙ append-nil frames) reached.2);
    }

pub returns-in-Ok-None-clause-tells : goal.returns-in-Ok-None-clause-tells
returns-in-Ok-None-clause-tells g c = λ bytes frames stands.
    let (taken, consumed, goes) = c.pieces.invariant.reaches bytes frames stands in
    let ends = rw c.in-Ok-None.field-0-is at c.in-Ok-None.ensures.ends in
    reach_none bytes taken ends.0 c.step.new.piece.items frames c.pieces.pieces c.step.new.self _ _ _ consumed goes ends.1 ends.2

pub returns-in-Err-clause-tells : goal.returns-in-Err-clause-tells
returns-in-Err-clause-tells g c = λ bytes frames stands.
    let (taken, consumed, goes) = c.pieces.invariant.reaches bytes frames stands in
    reach_fault bytes taken c.in-Err.ensures.ends.0 c.step.new.piece.items frames c.pieces.pieces c.step.new.self _ _ _ consumed goes c.in-Err.ensures.ends.1 c.in-Err.kind c.in-Err.ensures.kept c.in-Err.ensures.ends.2.0

pub returns-in-Err-clause-wants : goal.returns-in-Err-clause-wants
returns-in-Err-clause-wants g c = λ bytes frames stands h.
    let (taken, consumed, goes) = c.pieces.invariant.reaches bytes frames stands in
    let kind : c.in-Err.kind ≡ Memory = cc in
    let ends = c.in-Err.ensures.ends in
    let same = ends.2.1 (inr kind) in
    reach_short bytes taken ends.0 c.step.new.piece.items frames c.pieces.pieces c.step.new.self _ _ _ consumed goes ends.1 _ _ _ _ c.pieces.invariant.roomy c.pieces.invariant.places same (c.in-Err.ensures.memory (ap Err kind))
