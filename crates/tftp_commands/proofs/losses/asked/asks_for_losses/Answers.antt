use Rattle.std.proofs.Common.{◌∷◌, [], ap, sym, ◌∙◌, map}
use Rattle.tftp_commands.proofs.ThreeWords.{asked, three_words}
use Rattle.tftp_commands.proofs.losses.asked.asks_for_losses.Goals as goal

pub returns-then-words-eq3 : goal.returns-then-words-eq3
returns-then-words-eq3 g c =
    let found = three_words g.S.AsStr.text c.args.words.now c.index-words-1.result c.index-words-2.result c.if-words-eq3.true c.index-words-1.is c.index-words-2.is in
    asked (map g.S.AsStr.text c.args.words.now) found.0 c.as_str.result.now c.as_str-then-words-eq3.result.now c.are_asked.result
    (found.1 ∙ ap (λ w. found.0 ∷ w ∷ g.S.AsStr.text c.index-words-2.result ∷ []) (sym c.as_str.ensures) ∙ ap (λ w. found.0 ∷ c.as_str.result.now ∷ w ∷ []) (sym c.as_str-then-words-eq3.ensures)) c.are_asked.ensures
