use Rattle.tftp_rows.proofs.MembersLemmas.{adds_one, adds_then}
use Rattle.tftp_rows.proofs.conclusion.Conclusion.put_member.Goals as goal

pub returns : goal.returns
returns c =
    let r = c.end_object.result in
    let end = c.end_object.new.self in
    adds_then r c.args.out.now c.key.new.self end _ _ (c.in_ok-key.ensures.ok, c.in_ok-key.ensures.room.0)
    (adds_then r c.key.new.self c.begin_object.new.self end _ _ (c.in_ok-begin_object.ensures.ok, c.in_ok-begin_object.ensures.room.0)
    (adds_then r c.begin_object.new.self c.put_text.new.out end _ _ (rw c.how.ensures at c.in_ok-put_text.ensures)
    (adds_then r c.put_text.new.out c.put_some_role.new.out end _ _ (rw c.role.ensures at c.in_ok-put_some_role.ensures)
    (adds_then r c.put_some_role.new.out c.put_some_count.new.out end _ _ (rw c.code.ensures at c.in_ok-put_some_count.ensures)
    (adds_then r c.put_some_count.new.out c.put_some_text.new.out end _ _ (rw c.in_ok-message.ensures at c.in_ok-put_some_text.ensures)
    (adds_then r c.put_some_text.new.out c.put_some_count-2.new.out end _ _ (rw c.frame.ensures at c.in_ok-put_some_count-2.ensures)
    (adds_then r c.put_some_count-2.new.out c.put_some_count-3.new.out end _ _ (rw c.seconds.ensures at c.in_ok-put_some_count-3.ensures)
    (adds_then r c.put_some_count-3.new.out c.put_flag.new.out end _ _ (rw c.is_before.ensures at c.in_ok-put_flag.ensures) (adds_one r c.put_flag.new.out end _ c.end_object.ensures)))))))))
