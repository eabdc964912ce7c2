use Rattle.tftp_rows.proofs.MembersLemmas.{adds_one, adds_then}
use Rattle.tftp_match.proofs.objects.put_pair.Goals as goal

pub returns : goal.returns
returns c =
    let r = c.end_object.result in
    let end = c.end_object.new.self in
    adds_then r c.args.out.now c.begin_object.new.self end _ _ (c.in_ok-begin_object.ensures.ok, c.in_ok-begin_object.ensures.room.0)
    (adds_then r c.begin_object.new.self c.put_side.new.out end _ _ c.in_ok-put_side.ensures
    (adds_then r c.put_side.new.out c.put_side-2.new.out end _ _ c.in_ok-put_side-2.ensures
    (adds_then r c.put_side-2.new.out c.put_some_text.new.out end _ _ (rw c.fault_of.ensures at c.in_ok-put_some_text.ensures)
    (adds_then r c.put_some_text.new.out c.put_together.new.out end _ _ c.in_ok-put_together.ensures
    (adds_then r c.put_together.new.out c.put_counts.new.out end _ _ c.in_ok-put_counts.ensures (adds_one r c.put_counts.new.out end _ c.end_object.ensures))))))
