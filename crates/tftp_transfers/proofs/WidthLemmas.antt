-- How wide the column of files is, name by name.
use Rattle.std.proofs.Common.{◌≡◌, ◌∷◌, ◌++◌, ◌<◌, ◌+◌, [], ℕ, List, Bor, ap, ◌∙◌, sym, arith, get_or, length, map, max, take}
use Rattle.std.proofs.lemmas.List.{map-append, take_more}
use Rattle.tftp_transfers.specs.Choices.{widest}

max_swap : (a : ℕ) → max a 4 ≡ max 4 a
max_swap a = omega arith

max_comm : (a b : ℕ) → max a b ≡ max b a
max_comm a b = omega arith

max_assoc : (a b c : ℕ) → max (max a b) c ≡ max a (max b c)
max_assoc a b c = omega arith

-- one name more
widest_more : (names : List (List ℕ)) (name : List ℕ) → widest (names ++ name ∷ []) ≡ max (widest names) (length name)
widest_more [] name = max_swap (length name)
widest_more (n ∷ names) name = ap (max (length n)) (widest_more names name) ∙ sym (max_assoc (length n) (widest names) (length name))

pub wide_enough : (names : List (Bor (List ℕ))) (i : ℕ) (d : Bor (List ℕ)) (width wider : ℕ) → i < length names → width ≡ widest (map (λ n. n.now) (take i names))
    → wider ≡ max (length (get_or names i d).now) width → wider ≡ widest (map (λ n. n.now) (take (i + 1) names))
wide_enough names i d width wider h is more =
    more ∙ max_comm (length (get_or names i d).now) width ∙ ap (λ w. max w (length (get_or names i d).now)) is ∙ sym (widest_more (map (λ n. n.now) (take i names)) (get_or names i d).now)
    ∙ sym (ap widest (ap (map (λ (n : Bor (List ℕ)). n.now)) (take_more names i d h) ∙ map-append (λ (n : Bor (List ℕ)). n.now) (take i names) (get_or names i d ∷ [])))
