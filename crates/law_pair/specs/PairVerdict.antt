-- What there is to say of two captures together, where either may be refused: how far each is lawful at its end, and how far
-- those parts go together.
use Rattle.std.specs.Prelude.{◌≡◌, ◌⊎◌, ℕ, ◌+◌, ◌≤◌, length, take, reverse}
use Rattle.law_end.specs.{OneEnded}
use Rattle.law_pair.specs.Captures.{Capture}
use Rattle.law_pair.specs.MatchedCaptures.{begun, AreMatchedTo}

-- the first n datagrams break no rule
abbrev pub Keeps : Capture → ℕ → Type 0
Keeps c n = OneEnded c.header (reverse (take n c.datagrams))

-- the first n datagrams break no rule, and there are no more of them, or the next one does
pub record IsLawfulTo (c : Capture) (n : ℕ) : Type 0 where
  pub within : n ≤ length c.datagrams
  pub keeps : Keeps c n
  pub ends : (n ≡ length c.datagrams) ⊎ (Keeps c (n + 1) → ⊥)

-- The client's capture is lawful for n datagrams and the server's for k, and i and j of these go together and no more.
pub record IsPairVerdict (client server : Capture) (n k i j : ℕ) : Type 0 where
  pub client_part : IsLawfulTo client n
  pub server_part : IsLawfulTo server k
  pub matched : AreMatchedTo (begun n client) (begun k server) i j

-- both are lawful to their ends, and matched to their ends
pub record IsWholePair (client server : Capture) (n k i j : ℕ) : Type 0 where
  pub client_lawful : n ≡ length client.datagrams
  pub server_lawful : k ≡ length server.datagrams
  pub client_matched : i ≡ n
  pub server_matched : j ≡ k
