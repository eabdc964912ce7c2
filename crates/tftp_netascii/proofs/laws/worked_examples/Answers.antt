use Rattle.std.proofs.Common.{[], ⊎_elim}
use Rattle.tftp_netascii.specs.{end, line_end, bare_return, itself}
use Rattle.tftp_netascii.proofs.laws.worked_examples.Goals as goal

pub returns-clause-line_end : goal.returns-clause-line_end
returns-clause-line_end c = line_end [] [] end

pub returns-clause-bare_return : goal.returns-clause-bare_return
returns-clause-bare_return c = bare_return [] [] end

pub returns-clause-return_before_a_letter : goal.returns-clause-return_before_a_letter
returns-clause-return_before_a_letter c = itself 13 _ _ (λ p. ⊎_elim (λ e. cc) (λ e. cc) p.1) (itself 65 [] [] (λ p. p) end)

pub returns-clause-bare_line_feed : goal.returns-clause-bare_line_feed
returns-clause-bare_line_feed c = itself 10 [] [] (λ p. p) end

pub returns-clause-return_at_the_end : goal.returns-clause-return_at_the_end
returns-clause-return_at_the_end c = itself 13 [] [] (λ p. p) end

pub returns-clause-return_before_a_line_end : goal.returns-clause-return_before_a_line_end
returns-clause-return_before_a_line_end c = itself 13 _ _ (λ p. ⊎_elim (λ e. cc) (λ e. cc) p.1) (line_end [] [] end)
