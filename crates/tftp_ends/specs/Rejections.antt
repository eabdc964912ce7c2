-- What is answered of a packet at an end.
use Rattle.std.specs.Prelude.{◌≡◌, ◌≢◌, ℕ, List, Some, None, Result, Ok, Err}
use Rattle.std.specs.FinMap as map
use Rattle.tftp_packet.specs.{Message}
use Rattle.tftp_packet.specs.Hosts.{Datagram}
use Rattle.law_model.specs.Rules.{EndBroken, FirstEndBroken}
use Rattle.law_model.specs.{EndRule, BlockChanged, Terms}
use Rattle.tftp_ends.specs.Blocks.{Held}
use Rattle.tftp_ends.specs.declared.rejection.Rejection.{Rejection}
use Rattle.tftp_ends.specs.declared.rejection.Rejection.TheVariants.{Broken, Memory}

-- no rule of blocks and acknowledgements is broken
abbrev pub NoneBroken : Terms → List Datagram → Message → Type 0
NoneBroken t passed m = (rule : EndRule) → EndBroken t passed m rule → ⊥

-- The answer to a message, after what has passed: it breaks no rule, and passes or wants memory, or the first that it
-- breaks.
abbrev pub IsFound : Terms → List Datagram → Message → Result (Unit {0}) Rejection → Type 0
IsFound t passed m (Ok _) = NoneBroken t passed m
IsFound t passed m (Err (Broken rule)) = FirstEndBroken t passed m rule
IsFound t passed m (Err Memory) = NoneBroken t passed m

-- Why a block can't be held: another one with its number is, or memory runs out and none with its number is.
abbrev pub CannotHold : Held → ℕ → List ℕ → Rejection → Type 0
CannotHold held k bytes (Broken rule) = (rule ≡ BlockChanged) × ((other : List ℕ) × (map.get held k ≡ Some other) × (other ≢ bytes))
CannotHold held k bytes Memory = map.get held k ≡ None
