-- The line of a transfer that an ERROR ended.
use Rattle.std.proofs.Common.{◌≡◌, ℕ, List, ◌++◌, codes, decimal, sym, ap, ◌∙◌, append_assoc}
use Rattle.law_end.specs.{AbortedBy}
use Rattle.tftp_judge.specs.{Aborted}
use Rattle.tftp_commands.specs.{by_name, refusal_line}

joined : (p i q n e : List ℕ) → p ++ (i ++ (q ++ (n ++ e))) ≡ p ++ i ++ q ++ n ++ e
joined p i q n e = sym (append_assoc (p ++ i ++ q) n e ∙ append_assoc (p ++ i) q (n ++ e) ∙ append_assoc p i (q ++ (n ++ e)))

-- the pieces of the line are the line
pub aborted_pieces : (by : AbortedBy) (code : ℕ) (name n : List ℕ) → name ≡ by_name by → n ≡ decimal code → codes "aborted by " ++ (name ++ (codes " code " ++ (n ++ codes "\n"))) ≡ refusal_line (Aborted by code)
aborted_pieces by code name n is_name is_number =
    joined (codes "aborted by ") name (codes " code ") n (codes "\n") ∙ ap (λ l. codes "aborted by " ++ l ++ codes " code " ++ n ++ codes "\n") is_name
    ∙ ap (λ l. codes "aborted by " ++ by_name by ++ codes " code " ++ l ++ codes "\n") is_number
