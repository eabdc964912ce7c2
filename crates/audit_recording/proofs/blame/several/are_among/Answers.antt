use Rattle.std.proofs.Common.{arith, ◌<◌, ◌≤◌, ◌+◌, ℕ, None, ap, is_some, length, ◌∙◌}
use Rattle.memchr.specs.Find.{OccursAt}
use Rattle.memchr.proofs.lemmas.ValueLemmas.{FindsNeedle-value}
use Rattle.audit_recording.proofs.blame.several.are_among.Goals as goal

-- fewer bytes have none of them
fits_nowhere : (k some bytes : ℕ) → bytes < some → k + some ≤ bytes → ⊥
fits_nowhere k some bytes few fits = omega (arith, few, fits)

pub returns-then-bytes-some : goal.returns-then-bytes-some
returns-then-bytes-some c =
    ap is_some (FindsNeedle-value c.args.bytes.now c.args.some.now None
    (λ k low high (occurs : OccursAt c.args.bytes.now c.args.some.now k). fits_nowhere k (length c.args.some.now) (length c.args.bytes.now) c.if-bytes-some.true occurs.fits))

pub returns : goal.returns
returns c = c.is_some.ensures ∙ ap is_some (FindsNeedle-value c.args.bytes.now c.args.some.now c.find.result c.find.ensures)
