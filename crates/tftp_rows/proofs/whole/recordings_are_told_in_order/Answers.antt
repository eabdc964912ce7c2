use Rattle.std.proofs.Common.{Some, refl}
use Rattle.audit_recording.specs.Session.Noted.{giving_up}
use Rattle.audit_recording.specs.Session.Over.{IsOldestOver}
use Rattle.tftp_rows.specs.Telling.{JudgesAs}
use Rattle.tftp_rows.specs.Whole.{HasToldAll, so_far}
use Rattle.tftp_rows.proofs.OrderLemmas.{are_in_order}
use Rattle.tftp_rows.proofs.ReadingLemmas.{told_on}
use Rattle.tftp_rows.proofs.WholeLemmas.{HasToldSo, has_told_all, has_told_so, held_told, loses_too, nothing_told, told_in_turn}
use Rattle.tftp_rows.proofs.whole.recordings_are_told_in_order.Goals as goal

pub returns-clause-begun : goal.returns-clause-begun
returns-clause-begun g c begun lose judging named none number = nothing_told g.W.Write.contents lose begun judging named none number

pub returns-clause-read_on : goal.returns-clause-read_on
returns-clause-read_on g c begun now lose judging named all longer tellings more h = told_on g.W.Write.contents lose begun now judging named all longer tellings more h

pub returns-clause-told_over : goal.returns-clause-told_over
returns-clause-told_over g c begun old new before after lose named history carried s tellings came h turns =
    let more = told_in_turn g.W.Write.contents (λ b. IsOldestOver b named carried s × JudgesAs before b) named history carried s
    (HasToldSo g.W.Write.contents lose begun before.audit.judge.judging named (so_far history carried s))
    (λ t u d e ts told is holds step. has_told_so g.W.Write.contents lose begun t u d e before.audit.judge.judging named history carried s ts told holds.1 came is holds.0 step)
    turns.told (record old { may_lose = lose }) new tellings turns.left (loses_too g.W.Write.contents lose begun old lose _ named (so_far history carried s) tellings h, refl) turns.turns in
    (more.0, more.1.0, more.2)

pub returns-clause-told_held : goal.returns-clause-told_held
returns-clause-told_held g c begun old new lose dropped judging named end all tellings h prints none is = held_told g.W.Write.contents lose begun old new dropped judging named end all tellings h prints none is

pub returns-clause-told_all : goal.returns-clause-told_all
returns-clause-told_all g c begun old new lose dropped before after named history carried s waiting tellings came h turns =
    told_in_turn g.W.Write.contents (JudgesAs before) named history carried (giving_up waiting s)
    (λ t ts. HasToldAll g.W.Write.contents begun t lose dropped before.audit.judge.judging named (Some (so_far history carried (giving_up waiting s))) (so_far history carried s) ts)
    (λ t u d e ts told is holds step. has_told_all g.W.Write.contents lose begun t u dropped d e before.audit.judge.judging named history carried s waiting ts told holds came step)
    turns.told old new tellings turns.left h turns.turns

pub returns-clause-in_order : goal.returns-clause-in_order
returns-clause-in_order g c name named judging end all tellings told = are_in_order name judging named end all tellings told
