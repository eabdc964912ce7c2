use Rattle.tftp_match.proofs.judging.judge_read.Goals as goal

pub returns-in-Text-clause-told : goal.returns-in-Text-clause-told
returns-in-Text-clause-told g c = rw c.in-Text.is c.beside_text.ensures.told

pub returns-in-Recording-clause-told : goal.returns-in-Recording-clause-told
returns-in-Recording-clause-told g c = rw c.in-Recording.is c.beside_recording.ensures.told
