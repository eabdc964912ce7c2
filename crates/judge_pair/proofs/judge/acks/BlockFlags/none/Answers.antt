use Rattle.std.proofs.Common.{◌≡◌, ℕ, false, List, replicate, sym, subst}
use Rattle.tftp_judge.specs.{flags_of}
use Rattle.tftp_judge.proofs.Flags.{no_flag}
use Rattle.judge_pair.proofs.judge.acks.BlockFlags.none.Goals as goal

none_set : (n : ℕ) (words : List ℕ) → words ≡ replicate n 0 → (j : ℕ) → flags_of words j ≡ false
none_set n words is j = subst (λ ws. flags_of ws j ≡ false) (sym is) (no_flag n j)

pub returns : goal.returns
returns c = none_set 131584 c.in_ok-words.words.items (c.in_ok-words.ensures.items_if_clones_equal (λ y is. is))
