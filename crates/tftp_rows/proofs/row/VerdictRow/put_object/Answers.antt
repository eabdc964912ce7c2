use Rattle.tftp_rows.proofs.MembersLemmas.{adds_one, adds_then}
use Rattle.tftp_rows.proofs.row.VerdictRow.put_object.Goals as goal

pub returns : goal.returns
returns c =
    let r = c.end_object.result in
    let end = c.end_object.new.self in
    adds_then r c.args.out.now c.begin_object.new.self end _ _ (c.in_ok-begin_object.ensures.ok, c.in_ok-begin_object.ensures.room.0)
    (adds_then r c.begin_object.new.self c.put_text.new.out end _ _ c.in_ok-put_text.ensures
    (adds_then r c.put_text.new.out c.put_count.new.out end _ _ c.in_ok-put_count.ensures
    (adds_then r c.put_count.new.out c.put_text-2.new.out end _ _ (rw c.place_name.ensures at c.in_ok-put_text-2.ensures)
    (adds_then r c.put_text-2.new.out c.put_some_count.new.out end _ _ c.in_ok-put_some_count.ensures
    (adds_then r c.put_some_count.new.out c.put_text-3.new.out end _ _ (rw c.as_str.ensures.value at c.in_ok-put_text-3.ensures)
    (adds_then r c.put_text-3.new.out c.put_accused.new.out end _ _ c.in_ok-put_accused.ensures
    (adds_then r c.put_accused.new.out c.put_doubts.new.out end _ _ (rw c.as_slice.ensures.value at c.in_ok-put_doubts.ensures)
    (adds_then r c.put_doubts.new.out c.put_member.new.out end _ _ c.in_ok-put_member.ensures
    (adds_then r c.put_member.new.out c.put_some_flag.new.out end _ _ c.in_ok-put_some_flag.ensures
    (adds_then r c.put_some_flag.new.out c.put_member-2.new.out end _ _ c.in_ok-put_member-2.ensures
    (adds_then r c.put_member-2.new.out c.put_some_count-2.new.out end _ _ (rw c.next_number.ensures at c.in_ok-put_some_count-2.ensures) (adds_one r c.put_some_count-2.new.out end _ c.end_object.ensures))))))))))))
