use Rattle.std.proofs.Common.{◌≡◌, ◌++◌, ◌∷◌, [], List, ℕ, length, slice_set, arith, refl}
use Rattle.net_streams.proofs.streams.line_writer.spell_line.Goals as goal

alone : (bytes : List ℕ) (b : ℕ) → length bytes ≡ 1 → slice_set bytes 0 b ≡ b ∷ []
alone [] b one = absurd (omega (arith, one))
alone (a ∷ []) b one = refl
alone (a ∷ (c ∷ bytes)) b one = absurd (omega (arith, one))

pub returns : goal.returns
returns c =
    let last = alone c.split_at_mut-back.result.1.now 10 (omega arith) in
    λ i. c.copy_start.ensures i ++ (c.encode.ensures i ++ (c.encode-2.ensures i ++ last i))
