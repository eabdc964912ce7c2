use Rattle.std.proofs.Common.{◌≡◌, ◌^◌, ◌*◌, ◌%◌, ◌/◌, ◌<◌, ℕ, zero, suc, List, [], ◌∷◌, length, slice_index_or, slice_set, bit_or, refl, ap, ◌∙◌, arith}
use Rattle.tftp_judge.specs.{flags_of}
use Rattle.tftp_judge.proofs.Flags.{flag_noted}
use Rattle.judge_pair.proofs.judge.acks.BlockFlags.note.Goals as goal

-- where there is one, it is there whatever is put for none
there : (words : List ℕ) (i a b : ℕ) → i < length words → slice_index_or words i a ≡ slice_index_or words i b
there [] i a b low = absurd (omega (arith, low))
there (w ∷ words) zero a b low = refl
there (w ∷ words) (suc i) a b low = there words i a b (omega (arith, low))

pub returns : goal.returns
returns c = λ j.
    let k = c.args.block in
    let words = c.self.inside.words.items in
    let low = c.requires in
    let all = c.self.invariant in
    let within : k / 64 < length words = omega (arith, low, all) in
    ap (λ w. flags_of (slice_set words (k / 64) (bit_or w (1 * 2 ^ (k % 64) % 18446744073709551616))) j)
    (c.index_mut.ensures.value ∙ there words (k / 64) c.index_mut.result.now 0 within)
    ∙ flag_noted words c.args.self.now k (k / 64) j c.self.view_is refl within (omega (arith))
