-- What there is to say of a lawful transfer that is not whole. The list `passed` has its datagrams, the newest first.
use Rattle.std.specs.Prelude.{◌≡◌, ℕ, List}
use Rattle.tftp_packet.specs.Hosts.{Datagram}
use Rattle.law_end.specs.{FirstError, NoErrorPassed}
use Rattle.tftp_judge.specs.declared.refusal.Refusal.{Refusal}
use Rattle.tftp_judge.specs.declared.refusal.Refusal.TheVariants.{Aborted, Incomplete}

-- by its first ERROR, or by how many datagrams there are
abbrev pub IsUnfinished : List Datagram → ℕ → Refusal → Type 0
IsUnfinished passed total (Aborted by code) = FirstError passed by code
IsUnfinished passed total (Incomplete count) = NoErrorPassed passed × (count ≡ total)
IsUnfinished passed total _ = ⊥
