use Rattle.std.proofs.Common.{sym, ap, ◌∙◌, ◌≡◌, ◌++◌, max, option_to_list, OnOk, subst, append_assoc}
use Rattle.audit_recording.specs.Rows.Told.{rows_of, rows_told}
use Rattle.audit_rows.specs.Judging.{are_alike, said_there}
use Rattle.tftp_rows.specs.Telling.{AreJudgedAt, TellsPlaces, places_of, worst_at}
use Rattle.tftp_rows.proofs.TellingLemmas.{judged_first, judged_rest, places_err, places_more, places_judged, places_none, places_part, places_then, statuses_then}
use Rattle.tftp_rows.proofs.teller.Teller.tell_judged.Goals as goal

pub returns-in_err-has_same_words-clause-rows : goal.returns-in_err-has_same_words-clause-rows
returns-in_err-has_same_words-clause-rows g c = places_err g.W.Write.contents _ _ c.from_residual.result _ _ c.from_residual.ensures.0 (places_none g.W.Write.contents c.args.self.now _ _)

pub returns-in_err-tell_at-clause-rows : goal.returns-in_err-tell_at-clause-rows
returns-in_err-tell_at-clause-rows g c =
    let j = c.args.judged.now in
    let r = c.rows-rows.result in
    let all : rows_of r ≡ places_of j = c.rows-rows.ensures ∙ ap (λ same. rows_told (said_there j.client) (said_there j.server) (said_there j.between) (are_alike j.client j.server same)) c.in_ok-has_same_words.ensures in
    let judged : AreJudgedAt j (rows_of r) = rw c.rows-rows.ensures (places_judged j _) in
    places_err g.W.Write.contents _ _ c.from_residual-in_err-tell_at.result j (places_of j) c.from_residual-in_err-tell_at.ensures.0
    (rw (sym all) (places_more g.W.Write.contents _ _ j (option_to_list r.client) _ (c.in_err-tell_at.ensures.rows (judged_first j (option_to_list r.client) _ judged))))

pub returns-in_err-tell_at-2-clause-rows : goal.returns-in_err-tell_at-2-clause-rows
returns-in_err-tell_at-2-clause-rows g c =
    let j = c.args.judged.now in
    let r = c.rows-rows.result in
    let all : rows_of r ≡ places_of j = c.rows-rows.ensures ∙ ap (λ same. rows_told (said_there j.client) (said_there j.server) (said_there j.between) (are_alike j.client j.server same)) c.in_ok-has_same_words.ensures in
    let judged : AreJudgedAt j (rows_of r) = rw c.rows-rows.ensures (places_judged j _) in
    let rest = judged_rest j (option_to_list r.client) _ judged in
    let told = places_part g.W.Write.contents _ _ _ j (option_to_list r.client) (option_to_list r.server)
    (c.in_ok-tell_at.ensures.rows (judged_first j (option_to_list r.client) _ judged)) (c.in_err-tell_at-2.ensures.rows (judged_first j (option_to_list r.server) _ rest)) in
    places_err g.W.Write.contents _ _ c.from_residual-in_err-tell_at-2.result j (places_of j) c.from_residual-in_err-tell_at-2.ensures.0
    (rw (sym all) (rw append_assoc at (places_more g.W.Write.contents _ _ j (option_to_list r.client ++ option_to_list r.server) (option_to_list r.between) told)))

pub returns-clause-rows : goal.returns-clause-rows
returns-clause-rows g c =
    let j = c.args.judged.now in
    let r = c.rows-rows.result in
    let all : rows_of r ≡ places_of j = c.rows-rows.ensures ∙ ap (λ same. rows_told (said_there j.client) (said_there j.server) (said_there j.between) (are_alike j.client j.server same)) c.in_ok-has_same_words.ensures in
    let judged : AreJudgedAt j (rows_of r) = rw c.rows-rows.ensures (places_judged j _) in
    let rest = judged_rest j (option_to_list r.client) _ judged in
    let last = places_then g.W.Write.contents _ _ _ c.tell_at-3.result j (option_to_list r.server) (option_to_list r.between)
    (c.in_ok-tell_at-2.ensures.rows (judged_first j (option_to_list r.server) _ rest)) (c.tell_at-3.ensures.rows (judged_rest j (option_to_list r.server) _ rest)) in
    subst (TellsPlaces g.W.Write.contents c.args.self.now c.tell_at-3.new.self c.tell_at-3.result j) all
    (places_then g.W.Write.contents _ _ _ c.tell_at-3.result j (option_to_list r.client) _ (c.in_ok-tell_at.ensures.rows (judged_first j (option_to_list r.client) _ judged)) last)

pub returns-clause-status : goal.returns-clause-status
returns-clause-status g c =
    let j = c.args.judged.now in
    let r = c.rows-rows.result in
    let all : rows_of r ≡ places_of j = c.rows-rows.ensures ∙ ap (λ same. rows_told (said_there j.client) (said_there j.server) (said_there j.between) (are_alike j.client j.server same)) c.in_ok-has_same_words.ensures in
    let judged : AreJudgedAt j (rows_of r) = rw c.rows-rows.ensures (places_judged j _) in
    let rest = judged_rest j (option_to_list r.client) _ judged in
    subst (λ ps. OnOk c.tell_at-3.result (c.tell_at-3.new.self.status ≡ max c.args.self.now.status (worst_at j ps))) all
    (statuses_then c.tell_at-3.result j c.args.self.now.status _ _ _ (option_to_list r.client) (option_to_list r.server) (option_to_list r.between)
    (c.in_ok-tell_at.ensures.status (judged_first j (option_to_list r.client) _ judged))
    (c.in_ok-tell_at-2.ensures.status (judged_first j (option_to_list r.server) _ rest))
    (c.tell_at-3.ensures.status (judged_rest j (option_to_list r.server) _ rest)))
