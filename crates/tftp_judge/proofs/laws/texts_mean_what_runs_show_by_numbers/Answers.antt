use Rattle.tftp_judge.specs.{header_by, unnumbered}
use Rattle.std.proofs.Common.{Some}
use Rattle.tftp_judge.proofs.ByNumbers.{capture_bytes}
use Rattle.tftp_judge.proofs.laws.texts_mean_what_runs_show_by_numbers.Goals as goal

pub returns : goal.returns
returns c r text m = (
  λ (header, datagrams, capture, (taken, are, (lawful, (wire, shown), writable))).
      let shows = c.what_is_unrolled_shows_the_run.ensures.shows r (header_by (Some r) header) m wire (unnumbered datagrams) (capture_bytes text header datagrams capture) in
      (header, datagrams, capture, writable, wire, shows.1 (taken, are, shown)),
  λ (header, datagrams, capture, writable, wire, shown).
      let shows = c.what_is_unrolled_shows_the_run.ensures.shows r (header_by (Some r) header) m wire (unnumbered datagrams) (capture_bytes text header datagrams capture) in
      let (taken, are, by_blocks) = shows.0 shown in
      (header, datagrams, capture, (taken, are, ((m, wire, by_blocks.seen), (wire, by_blocks), writable))),
)
