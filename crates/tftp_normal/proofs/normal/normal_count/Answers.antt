use Rattle.std.proofs.Common.{◌≡◌, ◌+◌, ◌≤◌, ap, subst, sym, ◌∙◌, codes}
use Rattle.tftp_packet.specs.{OptionMap}
use Rattle.law_model.specs.Model.{option_or, windowsize_of}
use Rattle.tftp_normal.specs.{normal_count}
use Rattle.tftp_normal.proofs.Lengths.{counted}
use Rattle.tftp_normal.proofs.Windows.{counted_by_parts}
use Rattle.tftp_normal.proofs.normal.normal_count.Goals as goal
use Rattle.tftp_normal.proofs.normal.normal_count.Goals.{After-div_ceil}

window : (c : After-div_ceil) → c.window_size_of.result ≡ windowsize_of c.args.meaning.now
window c = c.window_size_of.ensures ∙ ap (λ (o : OptionMap). option_or 1 o (codes "windowsize")) c.agreed.ensures

parts : (c : After-div_ceil) → c.opening_len.result + c.from-blocks.result + c.div_ceil.result ≡ normal_count c.args.meaning.now
parts c =
    counted_by_parts c.args.meaning.now c.opening_len.result c.from-blocks.result c.window_size_of.result c.div_ceil.result c.opening_len.ensures (c.from-blocks.ensures ∙ c.blocks-2.ensures.count)
    (window c) (subst (λ n. 1 ≤ n) (sym (window c)) c.blocks-2.ensures.can.1.window_size) c.div_ceil.ensures

pub returns-clause-count : goal.returns-clause-count
returns-clause-count c = parts (goal.at.returns-clause-count c).After-div_ceil

pub returns-clause-datagrams : goal.returns-clause-datagrams
returns-clause-datagrams c = λ rollover. parts (goal.at.returns-clause-datagrams c).After-div_ceil ∙ sym (counted rollover c.args.meaning.now c.blocks-2.ensures.can.1.window_size)
