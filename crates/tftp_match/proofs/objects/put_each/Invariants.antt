use Rattle.std.proofs.Common.{flat_map, take}
use Rattle.json.specs.Tree.{json_tokens}
use Rattle.tftp_rows.specs.Members.{Adds}
use Rattle.tftp_match.specs.Objects.{copies_json}
use Rattle.tftp_match.proofs.objects.put_each.Given as goal

-- what stands there is what stood there and the objects so far
abbrev pub invariant-loop-copies : goal.invariant-loop-copies
invariant-loop-copies l = Adds l.initial.out l.out (flat_map (λ copies. json_tokens (copies_json copies)) (take l.copies-index l.all))
