use Rattle.std.proofs.Common.{[], ◌∷◌, ◌++◌, append-nil, ap, ◌∙◌, subst, not}
use Rattle.net_pcap.specs.{OptionParts, SpellsOptions}
use Rattle.net_pcap.proofs.OptionCuts.{found_now, found_before, other_code, other_size, no_options, options_after, options_more}
use Rattle.net_pcap.proofs.options.find_option.Goals.{else-is_none-via-then-is_none+then-next-code+else-value-size, else-is_none-via-then-is_none+else-next-code, else-is_none-via-else-is_none}
use Rattle.net_pcap.proofs.options.find_option.Goals as goal

pub returns-in-End : goal.returns-in-End
returns-in-End c =
    let done = c.options.invariant.0 in
    (done, subst (λ os. SpellsOptions c.args.order c.args.options.now os) (append-nil done) (c.options.invariant.1 [] c.in-End.ensures), c.options.invariant.3)

pub returns-in-Wrong : goal.returns-in-Wrong
returns-in-Wrong c = λ os spelled.
    let left = c.options.invariant.2 os spelled in
    no_options c.args.order c.options.rest.now left.0 c.in-Wrong.ensures.0 c.in-Wrong.ensures.1 left.1

pub options-preserved-then-value-size : goal.options-preserved-then-value-size
options-preserved-then-value-size c =
    let done = c.options.invariant.0 in
    let o : OptionParts = record { code = c.in-Next.next; value = c.in-Next.value.now } in (
      done ++ o ∷ [],
      options_more c.args.order c.args.options.now c.options.rest.now c.in-Next.after.now done o c.options.invariant.1 c.in-Next.ensures,
      (λ os spelled. let left = c.options.invariant.2 os spelled in options_after c.args.order c.options.rest.now c.in-Next.after.now o left.0 c.in-Next.ensures left.1),
      found_now (λ v. v.now) c.options.found c.args.code c.args.size done o c.options.invariant.3 (c.is_none.ensures ∙ ap not c.if-is_none.true) c.if-next-code.true c.if-value-size.true,
    )

pub options-preserved : goal.options-preserved
options-preserved c =
    let done = c.options.invariant.0 in
    let o : OptionParts = record { code = c.in-Next.next; value = c.in-Next.value.now } in (
      done ++ o ∷ [],
      options_more c.args.order c.args.options.now c.options.rest.now c.in-Next.after.now done o c.options.invariant.1 c.in-Next.ensures,
      (λ os spelled. let left = c.options.invariant.2 os spelled in options_after c.args.order c.options.rest.now c.in-Next.after.now o left.0 c.in-Next.ensures left.1),
      elim c.else-is_none.branch [
        | else-is_none-via-then-is_none+then-next-code+else-value-size w ↦ other_size (λ v. v.now) c.options.found c.args.code c.args.size done o c.options.invariant.3 (c.is_none.ensures ∙ ap not w.if-is_none.true) w.if-next-code.true w.if-value-size.false
        | else-is_none-via-then-is_none+else-next-code w ↦ other_code (λ v. v.now) c.options.found c.args.code c.args.size done o c.options.invariant.3 (c.is_none.ensures ∙ ap not w.if-is_none.true) w.if-next-code.false
        | else-is_none-via-else-is_none w ↦ found_before (λ v. v.now) c.options.found c.args.code c.args.size done o c.options.invariant.3 (c.is_none.ensures ∙ ap not w.if-is_none.false)
      ],
    )
