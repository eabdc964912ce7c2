use Rattle.net_udp.proofs.FragmentsLemmas.Distinct.{meet_at, meets}
use Rattle.net_udp.proofs.fragments.laws.parts_overlap_at_a_place.Goals as goal

pub returns-clause-place : goal.returns-clause-place
returns-clause-place c = meet_at

pub returns-clause-overlap : goal.returns-clause-overlap
returns-clause-overlap c = meets
