use Rattle.std.proofs.Common.{rules, nat_cmp}
use Rattle.std.specs.Cmp.Lexicographic.{slice_cmp}
use Rattle.std.proofs.lemmas.Fn.{always_returns_same}
use Rattle.tftp_packet.specs.{lower}
use Rattle.tftp_packet.proofs.OwnedSearch.{searched_here, searched_none}
use Rattle.tftp_packet.proofs.owned_options.find_value.Goals as goal

pub returns-in-Ok : goal.returns-in-Ok
returns-in-Ok c =
    let name = lower c.args.name.now in
    let place = c.in-Ok.ensures.position (λ y. slice_cmp nat_cmp (lower y.name) name) (always_returns_same _ _ _ (λ a r f' k. search rules)) in
    searched_here c.args.entries.now name c.requires c.in-Ok.at c.index-entries-at.result c.in-Ok.ensures.bound (place c.index-entries-at.result)

pub returns-in-Err : goal.returns-in-Err
returns-in-Err c =
    let name = lower c.args.name.now in
    searched_none c.args.entries.now name c.requires c.in-Err.field-0 (c.in-Err.ensures.position (λ y. slice_cmp nat_cmp (lower y.name) name) (always_returns_same _ _ _ (λ a r f' k. search rules)))
