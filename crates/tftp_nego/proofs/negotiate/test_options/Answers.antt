use Rattle.std.proofs.Common.{sym, ◌∙◌}
use Rattle.std.proofs.lemmas.Bool.{false≢true}
use Rattle.tftp_nego.proofs.Tested.{first_multicast, first_not_requested, first_outside, first_wrong_value, first_beyond, tested_agrees}
use Rattle.tftp_nego.proofs.negotiate.test_options.Goals as goal

pub returns-then-names_multicast-clause-err : goal.returns-then-names_multicast-clause-err
returns-then-names_multicast-clause-err c = first_multicast c.args.rollover c.args.request.now c.args.oack.now (c.names_multicast.ensures.0 c.if-names_multicast.true)

pub returns-then-not-all_requested-clause-err : goal.returns-then-not-all_requested-clause-err
returns-then-not-all_requested-clause-err c =
    first_not_requested c.args.rollover c.args.request.now c.args.oack.now c.all_requested.ensures.options.2
    (λ none. false≢true (sym c.if-is_empty.false ∙ c.is_empty.ensures.1 none))
    (λ has. false≢true (sym c.if-names_multicast.false ∙ c.names_multicast.ensures.1 has))
    (c.all_requested.ensures.some c.if-not-all_requested.true)

pub returns-then-not-all_known-clause-err : goal.returns-then-not-all_known-clause-err
returns-then-not-all_known-clause-err c =
    first_outside c.args.rollover c.args.request.now c.args.oack.now c.all_requested.ensures.options.2
    (λ none. false≢true (sym c.if-is_empty.false ∙ c.is_empty.ensures.1 none))
    (λ has. false≢true (sym c.if-names_multicast.false ∙ c.names_multicast.ensures.1 has))
    (c.all_requested.ensures.each c.if-not-all_requested.false)
    (c.all_known.ensures.some c.if-not-all_known.true)

pub returns-then-not-all_values-clause-err : goal.returns-then-not-all_values-clause-err
returns-then-not-all_values-clause-err c =
    first_wrong_value c.args.rollover c.args.request.now c.args.oack.now c.all_requested.ensures.options.2
    (λ none. false≢true (sym c.if-is_empty.false ∙ c.is_empty.ensures.1 none))
    (λ has. false≢true (sym c.if-names_multicast.false ∙ c.names_multicast.ensures.1 has))
    (c.all_requested.ensures.each c.if-not-all_requested.false)
    (c.all_known.ensures.each c.if-not-all_known.false)
    (c.all_values.ensures.some c.if-not-all_values.true)

pub returns-then-not-fits_block_numbers-clause-err : goal.returns-then-not-fits_block_numbers-clause-err
returns-then-not-fits_block_numbers-clause-err c =
    first_beyond c.args.rollover c.args.request.now c.args.oack.now c.all_requested.ensures.options.2
    (λ none. false≢true (sym c.if-is_empty.false ∙ c.is_empty.ensures.1 none))
    (λ has. false≢true (sym c.if-names_multicast.false ∙ c.names_multicast.ensures.1 has))
    (c.all_requested.ensures.each c.if-not-all_requested.false)
    (c.all_known.ensures.each c.if-not-all_known.false)
    (c.all_values.ensures.each c.if-not-all_values.false)
    (c.fits_block_numbers.ensures.no c.if-not-fits_block_numbers.true)

pub returns-clause-ok : goal.returns-clause-ok
returns-clause-ok c =
    tested_agrees c.args.rollover c.args.request.now c.args.oack.now c.all_requested.ensures.options.2
    (λ none. false≢true (sym c.if-is_empty.false ∙ c.is_empty.ensures.1 none))
    (c.all_known.ensures.each c.if-not-all_known.false)
    (c.all_values.ensures.each c.if-not-all_values.false)
    (c.fits_block_numbers.ensures.yes c.if-not-fits_block_numbers.false)
