-- The faults stand in one order, so the first one is one.
use Rattle.std.proofs.Common.{◌≡◌, ℕ, ◌-◌, ◌≤◌, List, [], ◌∷◌, get_or, refl, arith}
use Rattle.tftp_packet.specs.{PacketFault, Short, Opcode, AckLength, NoTerminator, OddOptions, EmptyOptionName, DuplicateOption, UnknownMode, MailMode, RequestTooLong, Holds, number, FirstFault}
use Rattle.tftp_packet.proofs.FirstOf.{first_one, Unless, first_unless}

-- the fault with this number
abbrev pub fault_at : ℕ → PacketFault
fault_at n = get_or (Short ∷ Opcode ∷ AckLength ∷ NoTerminator ∷ OddOptions ∷ EmptyOptionName ∷ DuplicateOption ∷ UnknownMode ∷ MailMode ∷ RequestTooLong ∷ []) (n - 1) Short

pub fault_is : (f : PacketFault) → fault_at (number f) ≡ f
fault_is Short = refl
fault_is _ = refl

from_one : (f : PacketFault) → 1 ≤ number f
from_one Short = omega arith
from_one _ = omega arith

module _ (payload : List ℕ) where
  abbrev pub HoldsOfIt : PacketFault → Type 0
  HoldsOfIt f = Holds f payload

  pub first_fault_unique : (f g : PacketFault) → FirstFault payload f → FirstFault payload g → f ≡ g
  first_fault_unique = first_one number HoldsOfIt fault_at fault_is

  -- a fault that holds is the first, unless one that stands before it does
  pub first_fault : (f : PacketFault) → Holds f payload → Unless number HoldsOfIt fault_at fault_is (number f - 1) 1 (FirstFault payload f)
  first_fault = first_unless number HoldsOfIt fault_at fault_is 1 from_one
