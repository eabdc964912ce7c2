use Rattle.std.proofs.Common.{rules, ◌≡◌, None, ◌++◌, take, drop, length-take-le, sym, ap, ◌∙◌}
use Rattle.std.proofs.Math.Seq.{take-append_seam}
use Rattle.law_end.specs.{written_wire}
use Rattle.tftp_normal.specs.{bytes_of}
use Rattle.tftp_normal.proofs.Runs.{run_first, run_rest}
use Rattle.tftp_normal.proofs.wire_blocks.WireBlocks.fill_run.Goals as goal

pub returns-clause-filled : goal.returns-clause-filled
returns-clause-filled c =
    let run = c.plain_run-run.result in
    let file = c.self.inside.file.now in
    let mode = c.self.inside.mode in
    let behind = drop run c.args.block.now in
    let none : c.self.inside.second ≡ None = search rules in
    let view : c.args.self.now ≡ written_wire mode file = sym c.self.view_is ∙ ap (λ second. bytes_of second ++ written_wire mode file) none in
    let bytes : c.copy_from_slice.new.self ≡ take run file = c.copy_from_slice.ensures.after ∙ c.split_at.ensures.front in
    ap (λ l. take run (l ++ behind)) bytes ∙ ap (λ n. take n (take run file ++ behind)) (sym (length-take-le run file c.plain_run-run.ensures.inside))
    ∙ take-append_seam (take run file) behind ∙ sym (run_first mode file run c.plain_run-run.ensures.inside c.plain_run-run.ensures.plain) ∙ ap (take run) (sym view)

pub returns-clause-rest : goal.returns-clause-rest
returns-clause-rest c =
    let run = c.plain_run-run.result in
    let file = c.self.inside.file.now in
    let mode = c.self.inside.mode in
    let none : c.self.inside.second ≡ None = search rules in
    let view : c.args.self.now ≡ written_wire mode file = sym c.self.view_is ∙ ap (λ second. bytes_of second ++ written_wire mode file) none in
    ap (λ second. bytes_of second ++ written_wire mode c.split_at.result.1.now) none ∙ ap (written_wire mode) c.split_at.ensures.back
    ∙ sym (run_rest mode file run c.plain_run-run.ensures.inside c.plain_run-run.ensures.plain) ∙ ap (drop run) (sym view)
