use Rattle.std.proofs.Common.{[], ◌∷◌, refl, arith, ap, length}
use Rattle.law_tap.specs.{ack_out, hi_in, request_out}
use Rattle.judge_losses.specs.Places.{missing, none, whole}
use Rattle.judge_losses.proofs.laws.a_missed_block_is_put_in_before_its_ack.Goals as goal

pub returns-clause-there : goal.returns-clause-there
returns-clause-there c =
    missing ack_out (hi_in ∷ []) (record { before = 2; came = 1; sent = 0 }) [] (request_out ∷ []) (request_out ∷ []) (whole request_out [] [] [] none)
    (record { before = refl; some = λ e. absurd (omega (arith, ap length e)); came = refl; sent = refl })

pub returns-clause-way : goal.returns-clause-way
returns-clause-way c = λ at. absurd (omega (arith, at.came))

pub returns-clause-late : goal.returns-clause-late
returns-clause-late c = λ at. absurd (omega (arith, at.before))

pub returns-clause-count : goal.returns-clause-count
returns-clause-count c = λ at. absurd (omega (arith, at.came))
