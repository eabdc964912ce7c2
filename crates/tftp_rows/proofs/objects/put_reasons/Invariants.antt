use Rattle.std.proofs.Common.{flat_map, take}
use Rattle.json.specs.Tree.{json_tokens}
use Rattle.tftp_rows.specs.Members.{Adds}
use Rattle.tftp_rows.specs.Objects.{reason_json}
use Rattle.tftp_rows.proofs.objects.put_reasons.Given as goal

-- what stands there is what stood there and the reasons so far
abbrev pub invariant-loop-reason : goal.invariant-loop-reason
invariant-loop-reason l = Adds l.initial.out l.out (flat_map (λ reason. json_tokens (reason_json reason)) (take l.reason-index l.reasons))
