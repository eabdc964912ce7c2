use Rattle.tftp_match.specs.Objects.{copies_json}
use Rattle.tftp_rows.proofs.MembersLemmas.{adds_one, adds_then, items_tokens_of}
use Rattle.tftp_match.proofs.objects.put_counts.Goals as goal

pub returns : goal.returns
returns c =
    let r = c.end_array.result in
    let end = c.end_array.new.self in
    rw c.in-Some.is (rw (items_tokens_of copies_json c.in-Some.copies.items)
    (adds_then r c.args.out.now c.key.new.self end _ _ (c.in_ok-key.ensures.ok, c.in_ok-key.ensures.room.0)
    (adds_then r c.key.new.self c.begin_array.new.self end _ _ (c.in_ok-begin_array.ensures.ok, c.in_ok-begin_array.ensures.room.0)
    (adds_then r c.begin_array.new.self c.put_each.new.out end _ _ (rw c.as_slice.ensures.value at c.in_ok-put_each.ensures) (adds_one r c.put_each.new.out end _ c.end_array.ensures)))))
