use Rattle.std.proofs.Common.{[]}
use Rattle.law_tap.proofs.EndPasses.{certain_beside, passes_lossy}
use Rattle.law_tap.proofs.LossyCertain.{broken_is_certain}
use Rattle.law_tap.proofs.losses_between.laws.what_is_certain_between_is_certain_at_an_end.Goals as goal

pub returns-clause-lawful : goal.returns-clause-lawful
returns-clause-lawful c = λ h own s earlier d asked lawful first goes known sides lossy. passes_lossy h own s [] earlier d asked lawful first goes known sides lossy

pub returns-clause-certain : goal.returns-clause-certain
returns-clause-certain c = λ h own s later earlier d asked lawful first goes known sides none. certain_beside h own s later earlier d asked lawful first goes known sides none

pub returns-clause-broken : goal.returns-clause-broken
returns-clause-broken c = λ h own s later earlier d asked broken lawful first goes known sides apart breaks.
    certain_beside h own s later earlier d asked lawful first goes known sides (broken_is_certain s _ (_) broken apart breaks)
