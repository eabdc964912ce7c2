use Rattle.law_rollover.proofs.laws.what_is_unrolled_shows_the_run.Goals as goal
use Rattle.law_rollover.proofs.Shown.{dressed_on, dressed_back}

pub returns-clause-seen : goal.returns-clause-seen
returns-clause-seen c r h m wire datagrams bytes = (
  λ seen.
      let (unrolled, are, dressed) = dressed_on r h m wire (c.one_side_makes_a_run.ensures.alone m wire h.named) datagrams seen.view seen.run seen.near seen.dressed in
      (unrolled, are, record { fits = seen.fits; view = seen.view; run = seen.run; dressed = dressed }),
  λ (unrolled, are, seen).
      let (near, dressed) = dressed_back r h m wire (c.one_side_makes_a_run.ensures.alone m wire h.named) datagrams unrolled seen.view bytes seen.run are seen.dressed in
      record { fits = seen.fits; view = seen.view; run = seen.run; near = near; dressed = dressed },
)

pub returns-clause-lawful : goal.returns-clause-lawful
returns-clause-lawful c r h datagrams bytes = (
  λ (m, wire, seen).
      let (unrolled, are, dressed) = dressed_on r h m wire (c.one_side_makes_a_run.ensures.alone m wire h.named) datagrams seen.view seen.run seen.near seen.dressed in
      (unrolled, are, (m, wire, record { fits = seen.fits; view = seen.view; run = seen.run; dressed = dressed })),
  λ (unrolled, are, (m, wire, seen)).
      let (near, dressed) = dressed_back r h m wire (c.one_side_makes_a_run.ensures.alone m wire h.named) datagrams unrolled seen.view bytes seen.run are seen.dressed in
      (m, wire, record { fits = seen.fits; view = seen.view; run = seen.run; near = near; dressed = dressed }),
)

pub returns-clause-shows : goal.returns-clause-shows
returns-clause-shows c r h m wire datagrams bytes = (
  λ shows.
      let seen = shows.seen in
      let (unrolled, are, dressed) = dressed_on r h m wire (c.one_side_makes_a_run.ensures.alone m wire h.named) datagrams seen.view seen.run seen.near seen.dressed in
      (unrolled, are, record { seen = record { fits = seen.fits; view = seen.view; run = seen.run; dressed = dressed }; complete = shows.complete }),
  λ (unrolled, are, shows).
      let seen = shows.seen in
      let (near, dressed) = dressed_back r h m wire (c.one_side_makes_a_run.ensures.alone m wire h.named) datagrams unrolled seen.view bytes seen.run are seen.dressed in
      record { seen = record { fits = seen.fits; view = seen.view; run = seen.run; near = near; dressed = dressed }; complete = shows.complete },
)
