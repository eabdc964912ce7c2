use Rattle.std.proofs.Common.{◌++◌, List, map, take}
use Rattle.tftp_words.specs.{Part, Plain, Holds}
use Rattle.tftp_words.proofs.given.Given.add_plain.Given as goal

-- the words so far are added
abbrev pub invariant-loop-word : goal.invariant-loop-word
invariant-loop-word g l = (ps : List Part) → Holds l.fn.self ps → Holds l.self (ps ++ map Plain (map g.S.AsStr.text (take l.word-index l.words)))
