use Rattle.std.proofs.Common.{decimal, ap, ◌∙◌}
use Rattle.net_streams.proofs.StreamsLemmas.Gathering.{adds_same}
use Rattle.tftp_commands.proofs.Unlawful.{unlawful_pieces}
use Rattle.tftp_commands.proofs.verdicts.put_unlawful.Goals as goal

pub returns : goal.returns
returns g c =
    let are =
    unlawful_pieces c.args.index c.args.rule c.as_bytes.result.now c.as_bytes-2.result.now c.as_bytes-3.result.now c.detail_of.result.0.now c.detail_of.result.1.now (c.as_bytes.ensures.value ∙ c.format.ensures.text)
    (c.as_bytes-2.ensures.value ∙ c.format-2.ensures.text ∙ ap decimal c.number.ensures) (c.as_bytes-3.ensures.value ∙ c.name.ensures) c.detail_of.ensures in
    record { adds = adds_same g.W.Write.contents c.args.writer.now c.add_all.new.self c.add_all.result _ _ are c.add_all.ensures.adds }
