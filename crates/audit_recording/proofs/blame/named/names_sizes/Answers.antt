use Rattle.std.proofs.Common.{rules, tests, ◌≡◌, ◌==◌, ◌&&◌, ◌∙◌, not, ap, codes, false, sym}
use Rattle.std.specs.List.{list_any, slice_split}
use Rattle.std.specs.Str.{str_eq_ignore_ascii_case}
use Rattle.std.proofs.lemmas.Iterator.Search.{any_from_yields_List}
use Rattle.std.proofs.lemmas.Iterator.Splits.{YieldsList-from_slice_split}
use Rattle.tftp_packet.specs.{opcode_of}
use Rattle.audit_recording.proofs.blame.named.names_sizes.Goals as goal

pub returns-then-opcode-ne-BLOCK : goal.returns-then-opcode-ne-BLOCK
returns-then-opcode-ne-BLOCK c =
    let no_block : (opcode_of c.args.payload.now == 3) ≡ false = search (rules, tests) in
    any_from_yields_List (λ word. str_eq_ignore_ascii_case word (codes "blksize")) _ _ c.any.result c.any.ensures.ran
    (YieldsList-from_slice_split _ _ c.args.payload.now c.split.ensures.rest c.split.ensures.done c.split.ensures.closure (λ x r q k. search (rules, tests)))
    (λ x b q k. search (rules, tests))
    ∙ sym (ap (λ b. not b && list_any (λ word. str_eq_ignore_ascii_case word (codes "blksize")) (slice_split (λ z. z == 0) c.args.payload.now)) no_block)
