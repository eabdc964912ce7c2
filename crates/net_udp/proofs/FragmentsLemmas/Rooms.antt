-- How many bytes are counted after a set has changed, gone or come.
use Rattle.std.proofs.Common.{◌≡◌, ℕ, ◌+◌, ◌*◌, ◌-◌, ◌≤◌, Option, Some, None, Result, Ok, Err, OnErr, refl, sym, ap, ◌∙◌, subst, arith}
use Rattle.std.specs.Option.{option_map, unwrap_or}
use Rattle.std.specs.Map.{keys_of, remove_entry, set_value}
use Rattle.std.specs.List.Sorted.{IsStrictlySortedBy}
use Rattle.std.specs.BTreeMap.{insert_entry}
use Rattle.std.proofs.Common.{Vec, Global}
use Rattle.std.proofs.lemmas.Map.Entries.{sum_by-insert_entry, sum_by-remove_entry, sum_by-set_value}
use Rattle.std.proofs.lemmas.Map.Steps.{set_value_same}
use Rattle.net_udp.specs.declared.fragments.key.Key.{Key}
use Rattle.net_udp.specs.Fragments.Whole.{Part}
use Rattle.net_udp.specs.Fragments.{end_of, key_cmp, same_key, key_total, SetState, TakeEnds, room_of, CountsAt, Sets, IsCounted, most_room, room_of_all, room_under, set_at}

pub removed_room : (key : Key) (sets : Sets) (s : SetState) → set_at key sets ≡ Some s → room_of_all (remove_entry (same_key key) sets) + room_of s ≡ room_of_all sets
removed_room key sets s e =
    ap (λ (o : Option SetState). room_of_all (remove_entry (same_key key) sets) + unwrap_or (option_map room_of o) 0) (sym e) ∙ sum_by-remove_entry room_of (same_key key) sets

pub found_room : (key : Key) (sets : Sets) (s : SetState) → set_at key sets ≡ Some s → room_of s ≤ room_of_all sets
found_room key sets s e = omega (arith, removed_room key sets s e)

pub changed_room : (key : Key) (sets : Sets) (s t : SetState) → set_at key sets ≡ Some s → room_of_all (set_value (same_key key) sets t) + room_of s ≡ room_of_all sets + room_of t
changed_room key sets s t e = sum_by-set_value room_of (same_key key) sets s t e

pub take_room : (old new : SetState) (part : Part) (frame : ℕ) (o : Option (Vec ℕ Global)) → TakeEnds old new part frame o → room_of new ≤ room_of old + (2 * end_of part + 20)
take_room old new part frame None h = h.1
take_room old new part frame (Some frames) h = omega (arith, h.1)

pub counted_removed : (key : Key) (old new : Sets) (counted room : ℕ) (s : SetState) → IsCounted old counted → set_at key old ≡ Some s → new ≡ remove_entry (same_key key) old → room ≡ room_of s → IsCounted new (counted - room)
counted_removed key old new counted room s c e is r =
    let sum : room_of_all new + room_of s ≡ room_of_all old = ap (λ (l : Sets). room_of_all l + room_of s) is ∙ removed_room key old s e in
    record { counts = omega (arith, c.counts, r); few = omega (arith, c.few) }

pub counted_changed : (key : Key) (old new : Sets) (counted before after more : ℕ) (s t : SetState) → IsCounted old counted → set_at key old ≡ Some s → new ≡ set_value (same_key key) old t → before ≡ room_of s → after ≡ room_of t
    → after ≤ before + more → counted + more ≤ most_room → IsCounted new (counted - before + after)
counted_changed key old new counted before after more s t c e is b a grown few =
    let sum : room_of_all new + room_of s ≡ room_of_all old + room_of t = ap (λ (l : Sets). room_of_all l + room_of s) is ∙ changed_room key old s t e in
    let within = found_room key old s e in
    record { counts = omega (arith, c.counts, b, a); few = omega (arith, c.counts, b) }

pub same_sets : (key : Key) (old new : Sets) (s t : SetState) → set_at key old ≡ Some s → new ≡ set_value (same_key key) old t → t ≡ s → new ≡ old
same_sets key old new s t e is same = is ∙ set_value_same (same_key key) old t (e ∙ ap (λ (x : SetState). Some x) (sym same))

pub on_err : {T E : Type 0} (r : Result T E) (P : Type 0) → P → OnErr r P
on_err (Ok x) P p = tt
on_err (Err e) P p = p

pub on_err_more : {T E : Type 0} (r : Result T E) (P Q : Type 0) → (P → Q) → OnErr r P → OnErr r Q
on_err_more (Ok x) P Q f p = tt
on_err_more (Err e) P Q f p = f p

pub counted_inserted : (key : Key) (old new : Sets) (counted room : ℕ) (t : SetState) → IsCounted old counted → IsStrictlySortedBy key_cmp (keys_of old) → set_at key old ≡ None → new ≡ insert_entry key_cmp old key t → room ≡ room_of t
    → room_of_all old + room ≤ most_room → IsCounted new (counted + room)
counted_inserted key old new counted room t c ordered e is r few =
    let sum = sum_by-insert_entry room_of key_total old key t ordered in
    let none : unwrap_or (option_map room_of (set_at key old)) 0 ≡ 0 = ap (λ (o : Option SetState). unwrap_or (option_map room_of o) 0) e in
    let all : room_of_all new ≡ room_of_all old + room_of t = ap room_of_all is ∙ omega (arith, sum, none) in
    record { counts = omega (arith, c.counts, r); few = omega (arith, c.counts, r) }

pub same_set : (s t : SetState) → Some s ≡ Some t → s ≡ t
same_set s t e = cc

pub no_set : (s : SetState) → None ≡ Some s → ⊥
no_set s e = cc

-- ---- what is counted where a set is gone, has changed or has come

pub counts_removed : (key : Key) (sets old new : Sets) (s : SetState) → sets ≡ old → set_at key sets ≡ Some s → set_at key new ≡ None → new ≡ remove_entry (same_key key) sets → CountsAt key old new
counts_removed key sets old new s view e gone is =
    let sum : room_of_all new + room_of s ≡ room_of_all sets = ap (λ (l : Sets). room_of_all l + room_of s) is ∙ removed_room key sets s e in
    subst (λ (l : Sets). CountsAt key l new) view (omega (arith, sum, ap room_under e, ap room_under gone))

pub counts_changed : (key : Key) (sets old new : Sets) (s t : SetState) → sets ≡ old → set_at key sets ≡ Some s → set_at key new ≡ Some t → new ≡ set_value (same_key key) sets t → CountsAt key old new
counts_changed key sets old new s t view e now is =
    let sum : room_of_all new + room_of s ≡ room_of_all sets + room_of t = ap (λ (l : Sets). room_of_all l + room_of s) is ∙ changed_room key sets s t e in
    subst (λ (l : Sets). CountsAt key l new) view (omega (arith, sum, ap room_under e, ap room_under now))

pub counts_inserted : (key : Key) (sets old new : Sets) (t : SetState) → sets ≡ old → IsStrictlySortedBy key_cmp (keys_of sets) → set_at key sets ≡ None → set_at key new ≡ Some t → new ≡ insert_entry key_cmp sets key t → CountsAt key old new
counts_inserted key sets old new t view ordered e now is =
    let sum = sum_by-insert_entry room_of key_total sets key t ordered in
    let none : unwrap_or (option_map room_of (set_at key sets)) 0 ≡ 0 = ap (λ (o : Option SetState). unwrap_or (option_map room_of o) 0) e in
    let all : room_of_all new ≡ room_of_all sets + room_of t = ap room_of_all is ∙ omega (arith, sum, none) in
    subst (λ (l : Sets). CountsAt key l new) view (omega (arith, all, ap room_under e, ap room_under now))

pub counts_same : (key : Key) (old new : Sets) → new ≡ old → CountsAt key old new
counts_same key old new e = subst (λ (l : Sets). CountsAt key l new) e refl
