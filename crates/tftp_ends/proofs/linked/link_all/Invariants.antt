use Rattle.std.proofs.Common.{◌≡◌, length}
use Rattle.tftp_ends.specs.{AreLinked, peers_of}
use Rattle.tftp_ends.proofs.linked.link_all.Given as goal

abbrev pub invariant-loop-index : goal.invariant-loop-index
invariant-loop-index l = record {
  linked : AreLinked l.latest.items l.links l.index;
  rows : length l.latest.items ≡ l.rows;
  peers : peers_of l.links ≡ peers_of l.fn.links;
}
