-- What is put of how far two captures go together.
use Rattle.std.proofs.Common.{◌≡◌, Ok, ap}
use Rattle.judge_pair.specs.declared.judge.matched.Matched.{Matched}
use Rattle.judge_pair.specs.declared.match_texts.said.PairSaid.{PairSaid}
use Rattle.tftp_match.specs.Objects.{if_told, numbers_json, together_json}

pub together_told : (s : PairSaid) (m : Matched) → s.together ≡ Ok m → together_json s ≡ numbers_json s
together_told s m is = ap (λ t. if_told t (numbers_json s)) is
