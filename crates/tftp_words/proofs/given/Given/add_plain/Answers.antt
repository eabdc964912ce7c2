use Rattle.std.proofs.Common.{rules}
use Rattle.tftp_words.proofs.Reading.{more_word}
use Rattle.tftp_words.proofs.given.Given.add_plain.Goals as goal

pub loop-word-preserved : goal.loop-word-preserved
loop-word-preserved g c = λ ps h. rw c.in_ok-push.ensures.items
    (more_word g.S.AsStr.text c.args.words.now c.loop-word.word-index c.word-item.result ps _ _ _ _ _ _ _ _ _ (search rules) (search rules) c.as_str.ensures (c.loop-word.invariant ps h))
