use Rattle.std.proofs.Common.{ℕ, Bool, true, false, List, [], ◌∷◌}
use Rattle.tftp_netascii.specs.{StandsFor}
use Rattle.tftp_netascii.proofs.ReadsLemmas.{given, after}
use Rattle.tftp_netascii.proofs.DecoderLemmas.{StandsFor-exists, StandsFor-unique}
use Rattle.tftp_netascii.proofs.laws.every_history_has_one_decoder.Goals as goal

pub returns-clause-exists : goal.returns-clause-exists
returns-clause-exists c fed = (after false fed, given false fed, StandsFor-exists fed)

pub returns-clause-unique : goal.returns-clause-unique
returns-clause-unique c holds other_holds fed written other_written = StandsFor-unique holds other_holds fed written other_written

reached : (holds : Bool) → (fed : List ℕ) × (written : List ℕ) × StandsFor holds fed written
reached false = ([], [], StandsFor-exists [])
reached true = (13 ∷ [], [], StandsFor-exists (13 ∷ []))

pub returns-clause-every_state : goal.returns-clause-every_state
returns-clause-every_state c = reached
