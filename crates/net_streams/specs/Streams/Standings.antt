-- What a reader answers, by how it stands.
use Rattle.std.specs.Prelude.{◌≡◌, Bool, true, false, Result, Ok, Err}
use Rattle.net_streams.specs.declared.streams.standing.Standing.{Standing}
use Rattle.net_streams.specs.declared.streams.standing.Standing.TheVariants.{Open, Over, Failed}

-- what a reader is after it has answered whether there was something more
abbrev pub standing_after : {F : Type 0} → Result Bool F → Standing F
standing_after (Ok true) = Open
standing_after (Ok false) = Over
standing_after (Err fault) = Failed fault

-- the answer of a reader that goes on no more
abbrev pub KeepsAnswer : {F : Type 0} → Standing F → Result Bool F → Type 0
KeepsAnswer Open result = Unit {0}
KeepsAnswer Over result = result ≡ Ok false
KeepsAnswer (Failed fault) result = result ≡ Err fault
