use Rattle.tftp_rows.proofs.MembersLemmas.{adds_one, adds_then}
use Rattle.tftp_match.proofs.objects.put_numbers.Goals as goal

pub returns : goal.returns
returns c =
    let r = c.end_object.result in
    let end = c.end_object.new.self in
    adds_then r c.args.out.now c.begin_object.new.self end _ _ (c.in_ok-begin_object.ensures.ok, c.in_ok-begin_object.ensures.room.0)
    (adds_then r c.begin_object.new.self c.put_flag.new.out end _ _ (rw c.are_matched.ensures at c.in_ok-put_flag.ensures)
    (adds_then r c.put_flag.new.out c.put_some_count.new.out end _ _ (rw c.carried_of-carried.ensures at (rw c.lost_in.ensures at c.in_ok-put_some_count.ensures))
    (adds_then r c.put_some_count.new.out c.put_some_count-2.new.out end _ _ (rw c.carried_of-carried.ensures at (rw c.repeated_in.ensures at c.in_ok-put_some_count-2.ensures))
    (adds_then r c.put_some_count-2.new.out c.put_some_count-3.new.out end _ _ (rw c.client_first-client.ensures at (rw c.number_of.ensures at c.in_ok-put_some_count-3.ensures))
    (adds_then r c.put_some_count-3.new.out c.put_some_count-4.new.out end _ _ (rw c.server_first-server.ensures at (rw c.number_of-2.ensures at c.in_ok-put_some_count-4.ensures))
    (adds_then r c.put_some_count-4.new.out c.put_some_text.new.out end _ _ (rw c.client_first-client.ensures at (rw c.word_of.ensures at c.in_ok-put_some_text.ensures))
    (adds_then r c.put_some_text.new.out c.put_some_text-2.new.out end _ _ (rw c.server_first-server.ensures at (rw c.word_of-2.ensures at c.in_ok-put_some_text-2.ensures)) (adds_one r c.put_some_text-2.new.out end _ c.end_object.ensures))))))))
