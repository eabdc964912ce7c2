use Rattle.std.proofs.Common.{rules, ◌≡◌, ◌∷◌, [], List, ℕ, map, codes, ap, sym, ◌∙◌}
use Rattle.tftp_commands.proofs.Named.{four_words, two_words}
use Rattle.tftp_commands.proofs.WordsNamed.{only_four, some_four, some_two}
use Rattle.tftp_commands.proofs.words.named.Goals as goal
use Rattle.tftp_commands.proofs.words.named.Given.{Over}

pub returns-then-words-eq2-clause-some : goal.returns-then-words-eq2-clause-some
returns-then-words-eq2-clause-some g c =
    let found = two_words g.S.AsStr.text c.args.words.now c.index-words-1.result c.if-words-eq2.true c.index-words-1.is in
    some_two c.action_named.result c.as_str.result.now (map g.S.AsStr.text c.args.words.now) found.0 (found.1 ∙ ap (λ w. found.0 ∷ w ∷ []) (sym c.as_str.ensures)) c.action_named.ensures.some

-- the four words
four : (g : Over) (c : goal.After-action_named-2 g)
    → (program : List ℕ) × (map g.S.AsStr.text c.args.words.now ≡ program ∷ c.as_str-3.result.now ∷ c.as_str-else-words-ne4.result.now ∷ c.as_str-2.result.now ∷ [])
four g c =
    let found = four_words g.S.AsStr.text c.args.words.now c.index-words-1-2.result c.index-words-2.result c.index-words-3.result (search rules) c.index-words-1-2.is c.index-words-2.is c.index-words-3.is in (
      found.0,
      found.1
          ∙ ap (λ w. found.0 ∷ w ∷ g.S.AsStr.text c.index-words-2.result ∷ g.S.AsStr.text c.index-words-3.result ∷ []) (sym c.as_str-3.ensures)
          ∙ ap (λ w. found.0 ∷ c.as_str-3.result.now ∷ w ∷ g.S.AsStr.text c.index-words-3.result ∷ []) (sym c.as_str-else-words-ne4.ensures)
          ∙ ap (λ w. found.0 ∷ c.as_str-3.result.now ∷ c.as_str-else-words-ne4.result.now ∷ w ∷ []) (sym c.as_str-2.ensures),
    )

pub returns-clause-some : goal.returns-clause-some
returns-clause-some g c =
    let (program, are) = four g c in
    let option : c.as_str-else-words-ne4.result.now ≡ codes "--rollover" = search rules in
    some_four c.action_named-2.result _ _ _ c.in_ok-rollover.rollover (map g.S.AsStr.text c.args.words.now) program are option c.in_ok-rollover.ensures.some c.action_named-2.ensures.some

pub returns-clause-only : goal.returns-clause-only
returns-clause-only g c = λ a is.
    let (program, are) = four g c in
    let (name, option, r, some, digit) = only_four a _ _ _ (map g.S.AsStr.text c.args.words.now) program are is in
    c.action_named-2.ensures.only a name (some ∙ sym (c.in_ok-rollover.ensures.only r digit))
