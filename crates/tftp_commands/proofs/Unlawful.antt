-- The line of an unlawful datagram.
use Rattle.std.proofs.Common.{◌≡◌, ℕ, List, ◌++◌, codes, decimal, sym, ap, ◌∙◌, append_assoc}
use Rattle.law_end.specs.{rule_name, number_of, Rule}
use Rattle.tftp_judge.specs.{Unlawful}
use Rattle.tftp_commands.specs.{detail, refusal_line}

-- seven pieces, and one that is two
joined : (p i q n s name a b d e : List ℕ) → a ++ b ≡ d → p ++ (i ++ (q ++ (n ++ (s ++ (name ++ (a ++ (b ++ e))))))) ≡ p ++ i ++ q ++ n ++ s ++ name ++ d ++ e
joined p i q n s name a b d e two =
    ap (λ l. p ++ (i ++ (q ++ (n ++ (s ++ (name ++ l)))))) (sym (append_assoc a b e) ∙ ap (λ l. l ++ e) two)
    ∙ sym
    (append_assoc (p ++ i ++ q ++ n ++ s ++ name) d e ∙ append_assoc (p ++ i ++ q ++ n ++ s) name (d ++ e) ∙ append_assoc (p ++ i ++ q ++ n) s (name ++ (d ++ e))
    ∙ append_assoc (p ++ i ++ q) n (s ++ (name ++ (d ++ e))) ∙ append_assoc (p ++ i) q (n ++ (s ++ (name ++ (d ++ e)))) ∙ append_assoc p i (q ++ (n ++ (s ++ (name ++ (d ++ e))))))

-- the pieces of the line are the line
pub unlawful_pieces : (index : ℕ) (rule : Rule) (i n name a b : List ℕ) → i ≡ decimal index → n ≡ decimal (number_of rule) → name ≡ rule_name rule → a ++ b ≡ detail rule
    → codes "refused datagram " ++ (i ++ (codes " rule " ++ (n ++ (codes " " ++ (name ++ (a ++ (b ++ codes "\n"))))))) ≡ refusal_line (Unlawful index rule)
unlawful_pieces index rule i n name a b is_index is_number is_name two =
    joined (codes "refused datagram ") i (codes " rule ") n (codes " ") name a b (detail rule) (codes "\n") two
    ∙ ap (λ l. codes "refused datagram " ++ l ++ codes " rule " ++ n ++ codes " " ++ name ++ detail rule ++ codes "\n") is_index
    ∙ ap (λ l. codes "refused datagram " ++ decimal index ++ codes " rule " ++ l ++ codes " " ++ name ++ detail rule ++ codes "\n") is_number
    ∙ ap (λ l. codes "refused datagram " ++ decimal index ++ codes " rule " ++ decimal (number_of rule) ++ codes " " ++ l ++ detail rule ++ codes "\n") is_name
