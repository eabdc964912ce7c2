use Rattle.std.proofs.Common.{ℕ, ◌↔◌, List, length}
use Rattle.net_udp.specs.Frames.{LeadsTo}
use Rattle.net_udp.proofs.frames.tag.skip_tags.Given as goal

-- what the bytes lead to is what is left of them leads to
abbrev pub invariant-tags : goal.invariant-tags
invariant-tags l = (last : ℕ) (content : List ℕ) → LeadsTo l.kind l.after last content ↔ LeadsTo l.next l.rest last content

abbrev pub decreases-tags : goal.decreases-tags
decreases-tags l = length l.rest
