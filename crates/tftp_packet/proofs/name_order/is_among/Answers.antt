use Rattle.std.proofs.Common.{rules, List, ℕ, Bor, nat_cmp}
use Rattle.std.specs.Cmp.Lexicographic.{slice_cmp}
use Rattle.std.proofs.lemmas.Fn.{always_returns_same}
use Rattle.tftp_packet.specs.{lower}
use Rattle.tftp_packet.proofs.NameOrder.{searched_decides}
use Rattle.tftp_packet.proofs.name_order.is_among.Goals as goal

abbrev key : Bor (List ℕ) → List ℕ
key name = lower name.now

pub returns : goal.returns
returns c =
    let found = c.binary_search_by.ensures in
    let place = found.position (λ y. slice_cmp nat_cmp (key y) (lower c.args.name.now)) (always_returns_same _ _ _ (λ a r f' k. search rules)) in
    searched_decides key (lower c.args.name.now) c.args.names.now c.binary_search_by.result c.is_ok.result c.is_ok.ensures.value found.bound place c.requires
