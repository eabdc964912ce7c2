use Rattle.tftp_rows.specs.Objects.{reason_json}
use Rattle.tftp_rows.proofs.MembersLemmas.{adds_one, adds_then, items_tokens_of}
use Rattle.tftp_rows.proofs.objects.put_doubts.Goals as goal

pub returns : goal.returns
returns c =
    let r = c.end_array.result in
    let end = c.end_array.new.self in
    rw (items_tokens_of reason_json c.args.reasons.now)
    (adds_then r c.args.out.now c.key.new.self end _ _ (c.in_ok-key.ensures.ok, c.in_ok-key.ensures.room.0)
    (adds_then r c.key.new.self c.begin_array.new.self end _ _ (c.in_ok-begin_array.ensures.ok, c.in_ok-begin_array.ensures.room.0)
    (adds_then r c.begin_array.new.self c.put_reasons.new.out end _ _ c.in_ok-put_reasons.ensures (adds_one r c.put_reasons.new.out end _ c.end_array.ensures))))
