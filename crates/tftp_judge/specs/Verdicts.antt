-- What there is to say of the datagrams of a capture, the oldest first: what they mean, or why they are not accepted.
-- Lawful and shown are stated apart: by the runs of two ends, or by the rules at the named end.
use Rattle.std.specs.Prelude.{◌≡◌, ℕ, ◌+◌, List, [], ◌∷◌, ◌++◌, length, reverse, Result, Ok, Err}
use Rattle.tftp_packet.specs.Hosts.{Datagram, Header}
use Rattle.law_model.specs.Model.{Meaning}
use Rattle.law_end.specs.{IsAborted, IsNotAborted, IsWritable, IsLawful, ShowsBy, FirstBroken, Rule, IsEnded, OneEnded, Meant}
use Rattle.tftp_judge.specs.declared.refusal.Refusal.{Refusal}
use Rattle.tftp_judge.specs.declared.refusal.Refusal.TheVariants.{Unlawful, Aborted, Incomplete, NormalTooLong, Memory}

-- The datagrams before the one with this index, from 1, are lawful, and with it they are not. It breaks this rule and
-- none before it in the order.
pub record IsUnlawfulAt (Lawful : List Datagram → Type 0) (header : Header) (datagrams : List Datagram) (index : ℕ) (rule : Rule) : Type 0 where
  pub before : List Datagram
  pub datagram : Datagram
  pub rest : List Datagram
  pub split : datagrams ≡ before ++ datagram ∷ rest
  pub index_is : index ≡ length before + 1
  pub lawful : Lawful before
  pub unlawful : Lawful (before ++ datagram ∷ []) → ⊥
  pub broken : FirstBroken header (reverse before) datagram rule

-- Memory is wanting, after all datagrams, only where they are a whole transfer.
abbrev pub IsVerdictBy : (List Datagram → Type 0) → (Meaning → List Datagram → Type 0) → Header → List Datagram → Result Meaning Refusal → Type 0
IsVerdictBy Lawful Shown header datagrams (Ok m) = Lawful datagrams × Shown m datagrams × IsWritable header.rollover m
IsVerdictBy Lawful Shown header datagrams (Err (Unlawful index rule)) = IsUnlawfulAt Lawful header datagrams index rule
IsVerdictBy Lawful Shown header datagrams (Err (Aborted by code)) = Lawful datagrams × ((m : Meaning) → Shown m datagrams → ⊥) × IsAborted header (reverse datagrams) by code
IsVerdictBy Lawful Shown header datagrams (Err (Incomplete count)) =
    Lawful datagrams × ((m : Meaning) → Shown m datagrams → ⊥) × IsNotAborted header (reverse datagrams) × (count ≡ length datagrams)
IsVerdictBy Lawful Shown header datagrams (Err NormalTooLong) = Lawful datagrams × ((m : Meaning) × Shown m datagrams) × ((m : Meaning) → Shown m datagrams → IsWritable header.rollover m → ⊥)
IsVerdictBy Lawful Shown header datagrams (Err (Memory count)) = Lawful datagrams × IsEnded header (reverse datagrams) × (count ≡ length datagrams)

-- the verdict by the runs of two ends
abbrev pub IsVerdict : Header → List Datagram → Result Meaning Refusal → Type 0
IsVerdict header = IsVerdictBy (IsLawful header) (λ m datagrams. (wire : List ℕ) × ShowsBy header m wire datagrams) header

-- the verdict by the rules
abbrev pub IsVerdictByRules : Header → List Datagram → Result Meaning Refusal → Type 0
IsVerdictByRules header = IsVerdictBy (λ datagrams. OneEnded header (reverse datagrams)) (λ m datagrams. Meant header (reverse datagrams) m) header

-- said of the datagrams, and not of the memory
abbrev pub IsSaid : Result Meaning Refusal → Type 0
IsSaid (Ok m) = Unit {0}
IsSaid (Err (Unlawful index rule)) = Unit {0}
IsSaid (Err (Aborted by code)) = Unit {0}
IsSaid (Err (Incomplete count)) = Unit {0}
IsSaid (Err NormalTooLong) = Unit {0}
IsSaid (Err (Memory count)) = ⊥
