use Rattle.std.proofs.Common.{◌≡◌, ◌<◌, ◌≤◌, ◌⊎◌, ℕ, List, length, inl, inr, sym, subst, arith}
use Rattle.std.proofs.lemmas.Bool.{cases_lt}
use Rattle.tftp_packet.specs.{Data}
use Rattle.law_model.specs.Rules.{HasWrongLength, usable}
use Rattle.law_model.specs.{BlockLength, WindowOverrun}
use Rattle.law_model.proofs.RulesLemmas.EndRules.{none_of, first_end}
use Rattle.tftp_ends.proofs.FirstRules.{refute}
use Rattle.tftp_ends.proofs.EndLengths.{right_not_wrong}
use Rattle.tftp_ends.proofs.SoundStates.{takes_it}
use Rattle.tftp_ends.proofs.block_rules.may_open.Goals as goal

as_long : (g b k : ℕ) (bytes : List ℕ) (len : ℕ) → length bytes ≡ len → (g < k) ⊎ ((k ≡ g) × (b ≤ length bytes)) → (g < k) ⊎ ((k ≡ g) × (b ≤ len))
as_long g b k bytes len long (inl above) = inl above
as_long g b k bytes len long (inr (is, whole)) = inr (is, subst (λ n. b ≤ n) long whole)

pub returns-then-has_wrong_length-clause-first : goal.returns-then-has_wrong_length-clause-first
returns-then-has_wrong_length-clause-first g c = λ passed bytes known long.
    first_end _ passed (Data c.args.number bytes) BlockLength
    (subst (HasWrongLength c.args.terms.now passed c.args.number) (sym long) (c.has_wrong_length.ensures.wrong c.if-has_wrong_length.true passed known.blocks))
    (refute _ c.if-blocks_wait.false (c.blocks_wait.ensures (usable passed) known.zero))
    c.if-number-eq0.false
    (λ b. refute _ c.if-is_beyond.false c.is_beyond.ensures (as_long c.args.terms.now.greatest c.args.terms.now.blksize c.args.number bytes c.args.len long b))

pub returns-then-from-clause-first : goal.returns-then-from-clause-first
returns-then-from-clause-first g c = λ passed bytes known long.
    let far = c.if-from.true in
    first_end _ passed (Data c.args.number bytes) WindowOverrun
    (c.args.acked, known.acked, (let x = c.from.ensures in let y = c.from-2.ensures in let z = c.from-3.ensures in omega arith))
    (refute _ c.if-blocks_wait.false (c.blocks_wait.ensures (usable passed) known.zero))
    c.if-number-eq0.false
    (λ b. refute _ c.if-is_beyond.false c.is_beyond.ensures (as_long c.args.terms.now.greatest c.args.terms.now.blksize c.args.number bytes c.args.len long b))
    (right_not_wrong _ _ passed c.args.number bytes c.args.len known.blocks c.requires.sound long c.if-number-eq0.false (c.has_wrong_length.ensures.right c.if-has_wrong_length.false))

pub returns-clause-lawful : goal.returns-clause-lawful
returns-clause-lawful g c = λ passed bytes known long.
    let near = c.if-from.false in
    none_of _ passed (Data c.args.number bytes) 5
    (refute _ c.if-blocks_wait.false (c.blocks_wait.ensures (usable passed) known.zero))
    c.if-number-eq0.false
    (λ b. refute _ c.if-is_beyond.false c.is_beyond.ensures (as_long c.args.terms.now.greatest c.args.terms.now.blksize c.args.number bytes c.args.len long b))
    (right_not_wrong _ _ passed c.args.number bytes c.args.len known.blocks c.requires.sound long c.if-number-eq0.false (c.has_wrong_length.ensures.right c.if-has_wrong_length.false))
    (λ b. let same = known.only b.0 b.1 in let over = b.2 in let x = c.from.ensures in let y = c.from-2.ensures in let z = c.from-3.ensures in omega arith)

pub returns-clause-takes : goal.returns-clause-takes
returns-clause-takes g c =
    let near = c.if-from.false in
    let some = c.if-number-eq0.false in
    takes_it _ _ c.args.number c.args.len c.args.acked c.requires.sound (c.has_wrong_length.ensures.right c.if-has_wrong_length.false) (omega arith) c.requires.taken
    (let x = c.from.ensures in let y = c.from-2.ensures in let z = c.from-3.ensures in omega arith)

pub returns-clause-sized : goal.returns-clause-sized
returns-clause-sized g c = (c.has_wrong_length.ensures.right c.if-has_wrong_length.false).sized

pub returns-clause-low : goal.returns-clause-low
returns-clause-low g c = elim (cases_lt c.args.terms.now.greatest c.args.number) [
  | inl above ↦ absurd (refute _ c.if-is_beyond.false c.is_beyond.ensures (inl above))
  | inr within ↦ within
]
