-- The faults stand in one order, so the first one is one.
use Rattle.std.proofs.Common.{◌≡◌, ℕ, ◌-◌, ◌≤◌, [], ◌∷◌, Option, get_or, refl, arith}
use Rattle.tftp_packet.specs.{OptionMap, RequestParts}
use Rattle.tftp_packet.specs.{Rollover}
use Rattle.tftp_packet.proofs.FirstOf.{first_one, Unless, first_unless}
use Rattle.tftp_nego.specs.{NegoFault, Broken, OackEmpty, MulticastAgreed, OptionNotRequested, OptionOutsideProfile, OptionValue, BeyondBlock65535, Memory, Holds, number, FirstFault}

-- the fault with this number; the numbers between are no fault's, as if being out of memory stood there
abbrev pub fault_at : ℕ → NegoFault
fault_at n = get_or (Broken OackEmpty ∷ Broken MulticastAgreed ∷ Broken OptionNotRequested ∷ Broken OptionOutsideProfile ∷ Broken OptionValue ∷ Memory ∷ Memory ∷ Memory ∷ Memory ∷ BeyondBlock65535 ∷ []) (n - 11) Memory

pub fault_is : (f : NegoFault) → fault_at (number f) ≡ f
fault_is (Broken OackEmpty) = refl
fault_is (Broken _) = refl
fault_is _ = refl

from_eleven : (f : NegoFault) → 11 ≤ number f
from_eleven (Broken OackEmpty) = omega arith
from_eleven (Broken _) = omega arith
from_eleven _ = omega arith

module _ (rollover : Option Rollover) (request : RequestParts) (agreed : OptionMap) where
  abbrev pub HoldsOfIt : NegoFault → Type 0
  HoldsOfIt f = Holds rollover f request agreed

  pub first_fault_unique : (f g : NegoFault) → FirstFault rollover request agreed f → FirstFault rollover request agreed g → f ≡ g
  first_fault_unique = first_one number HoldsOfIt fault_at fault_is

  -- a fault that holds is the first, unless one that stands before it does
  pub first_fault : (f : NegoFault) → Holds rollover f request agreed → Unless number HoldsOfIt fault_at fault_is (number f - 11) 11 (FirstFault rollover request agreed f)
  first_fault = first_unless number HoldsOfIt fault_at fault_is 11 from_eleven
