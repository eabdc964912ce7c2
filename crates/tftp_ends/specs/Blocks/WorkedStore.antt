-- Blocks of eight bytes that are held: the first, and the fourth beside it.
use Rattle.std.specs.Prelude.{codes}
use Rattle.std.specs.FinMap as map
use Rattle.tftp_ends.specs.Blocks.Store.{Held, nothing_held}

abbrev pub first_held : Held
first_held = map.insert nothing_held 1 (codes "11111111")

abbrev pub first_and_fourth : Held
first_and_fourth = map.insert first_held 4 (codes "44444444")
