use Rattle.net_udp.proofs.RecordingLemmas.Accounting.{one_way, sound, within}
use Rattle.net_udp.proofs.recording.laws.each_frame_is_accounted_for_once.Goals as goal

pub returns-clause-each : goal.returns-clause-each
returns-clause-each c = λ history n h low high. (sound history h).each n low high

pub returns-clause-only : goal.returns-clause-only
returns-clause-only c = within

pub returns-clause-apart : goal.returns-clause-apart
returns-clause-apart c = λ history n h i w. (sound history h).apart n i w

pub returns-clause-once : goal.returns-clause-once
returns-clause-once c = λ history h. (sound history h).twice

pub returns-clause-one_way : goal.returns-clause-one_way
returns-clause-one_way c = one_way
