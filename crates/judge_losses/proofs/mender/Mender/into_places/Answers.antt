use Rattle.std.proofs.Common.{ap, sym}
use Rattle.judge_losses.specs.Mended.{Mender}
use Rattle.judge_losses.proofs.Mending.{are_missing}
use Rattle.judge_losses.proofs.mender.Mender.into_places.Goals as goal

pub returns : goal.returns
returns c = λ h recorded mended. are_missing c.args.self h recorded c.self.inside.places.items (ap (λ (m : Mender). m.places) (sym c.self.view_is)) mended
