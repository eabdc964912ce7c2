use Rattle.std.proofs.Common.{refl, sym, ◌∙◌}
use Rattle.tftp_commands.specs.{verdict_status}
use Rattle.tftp_commands.specs.declared.status.Status.TheVariants as status
use Rattle.tftp_commands.proofs.Told.{refused_further, refused_memory, refused_plain}
use Rattle.tftp_commands.proofs.Written.{after_fresh, cut_fresh}
use Rattle.tftp_commands.proofs.losses.check.say_refused.Goals as goal

pub returns-then-not-is_unlawful : goal.returns-then-not-is_unlawful
returns-then-not-is_unlawful g c =
    refused_plain g.W.Write.contents c.args.writer.now c.say_verdict.new.writer c.say_verdict.result c.args.verdict c.args.text.now (sym c.is_unlawful.ensures ∙ c.if-not-is_unlawful.true) c.say_verdict.ensures

pub returns-in_default : goal.returns-in_default
returns-in_default g c = refused_memory g.W.Write.contents c.args.writer.now c.say.new.writer c.say.result c.args.verdict c.args.text.now c.say.ensures

pub returns-in-Ok-put_further : goal.returns-in-Ok-put_further
returns-in-Ok-put_further g c =
    let found = c.in-Ok.ensures in
    refused_further g.W.Write.contents c.args.writer.now c.write_out.new.writer c.write_out.result c.args.verdict c.args.text.now c.as_bytes.result.now found.0 c.status_of.result
    (sym c.is_unlawful.ensures ∙ c.if-not-is_unlawful.false) found.1 (c.as_bytes.ensures.value ∙ found.2) c.status_of.ensures
    (after_fresh g.W.Write.contents c.args.writer.now c.put_further.new.writer c.write_out.new.writer _ _ _ c.requires.fresh c.in-Ok-put_further.ensures.adds c.write_out.ensures)

pub returns : goal.returns
returns g c =
    let found = c.in-Ok.ensures in
    refused_further g.W.Write.contents c.args.writer.now c.put_further.new.writer status.Fault c.args.verdict c.args.text.now c.as_bytes.result.now found.0 (verdict_status c.args.verdict)
    (sym c.is_unlawful.ensures ∙ c.if-not-is_unlawful.false) found.1 (c.as_bytes.ensures.value ∙ found.2) refl
    (cut_fresh g.W.Write.contents c.args.writer.now c.put_further.new.writer _ _ c.requires.fresh c.in-Err.ensures.adds)
