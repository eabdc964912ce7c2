-- The highest block that has passed is the highest that is held.
use Rattle.std.proofs.Common.{ℕ, ◌≤◌, List, inl, inr, arith}
use Rattle.std.proofs.lemmas.Bool.{cases_lt}
use Rattle.tftp_packet.specs.Hosts.{Datagram}
use Rattle.tftp_ends.specs.Blocks.{Held, IsHighest}
use Rattle.law_model.specs.{Terms}
use Rattle.law_model.specs.Rules.{IsHigh}
use Rattle.tftp_ends.specs.States.{AreBlocks}
use Rattle.tftp_ends.specs.StatesKept.{IsSound}

pub high_of_held : (passed : List Datagram) (held : Held) (high : ℕ) → AreBlocks passed held → IsHighest held high → IsHigh passed high
high_of_held passed held high blocks highest = record {
  member = elim (cases_lt 0 high) [
    | inl some ↦ let there = highest.held_there some in inr (there.0, (blocks high there.0).1 there.1)
    | inr none ↦ inl (omega arith)
  ];
  most = λ n p. highest.most n p.0 ((blocks n p.0).0 p.1);
}

pub low_of_held : (t : Terms) (held : Held) (high : ℕ) → IsSound t held → IsHighest held high → high ≤ t.greatest
low_of_held t held high sound highest = elim (cases_lt 0 high) [
  | inl some ↦ sound.numbers high (highest.held_there some)
  | inr none ↦ omega arith
]
