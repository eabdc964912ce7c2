use Rattle.std.proofs.Common.{◌/◌, length, sym, ap, ◌∙◌}
use Rattle.tftp_packet.specs.{pairs_of, map_of}
use Rattle.std.specs.FinMap as map
use Rattle.tftp_packet.proofs.Maps.{half, len_map}
use Rattle.tftp_packet.proofs.options.OptionsView.len.Goals as goal

pub returns-clause-count : goal.returns-clause-count
returns-clause-count c = ap (λ n. n / 2) c.string_count.ensures ∙ half c.self.inside.bytes.now (pairs_of c.self.inside.bytes.now) c.self.invariant ∙ ap length c.self.view_is

pub returns-clause-map : goal.returns-clause-map
returns-clause-map c =
    ap (λ n. n / 2) c.string_count.ensures ∙ half c.self.inside.bytes.now (pairs_of c.self.inside.bytes.now) c.self.invariant
    ∙ sym (len_map (pairs_of c.self.inside.bytes.now) c.self.invariant.1.2) ∙ ap (λ pairs. map.len (map_of pairs)) c.self.view_is
