use Rattle.law_tap.proofs.TapUnrolled.{seen_on, seen_back, shows_on, shows_back}
use Rattle.law_tap.proofs.numbers.laws.what_is_unrolled_between_shows_the_run.Goals as goal

pub returns-clause-seen : goal.returns-clause-seen
returns-clause-seen c r s m wire tapped apart bytes = (seen_on r s apart m wire tapped, λ (unrolled, are, seen). seen_back r s apart m wire tapped unrolled bytes are seen)

pub returns-clause-lawful : goal.returns-clause-lawful
returns-clause-lawful c r s tapped apart bytes = (
  λ (m, wire, seen). let (unrolled, are, now) = seen_on r s apart m wire tapped seen in (unrolled, are, (m, wire, now)),
  λ (unrolled, are, (m, wire, seen)). (m, wire, seen_back r s apart m wire tapped unrolled bytes are seen),
)

pub returns-clause-shows : goal.returns-clause-shows
returns-clause-shows c r s m wire tapped apart bytes = (shows_on r s apart m wire tapped, λ (unrolled, are, shows). shows_back r s apart m wire tapped unrolled bytes are shows)
