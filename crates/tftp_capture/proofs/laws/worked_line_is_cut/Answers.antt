use Rattle.std.proofs.Common.{codes, lit≤, refl}
use Rattle.hex.specs.Hex.{decode_pairs}
use Rattle.tftp_capture.specs.Worked.{cut_line}
use Rattle.tftp_capture.proofs.Canonical.{no_lf_text}
use Rattle.tftp_capture.proofs.laws.worked_line_is_cut.Goals as goal

pub returns-clause-held : goal.returns-clause-held
returns-clause-held c = record {
  within = lit≤ tt;
  near = lit≤ tt;
  part = record { no_end = no_lf_text cut_line refl; narrow = lit≤ tt; short = lit≤ tt };
}

pub returns-clause-begins : goal.returns-clause-begins
returns-clause-begins c = record {
  begins = refl;
  upto = lit≤ tt;
  narrow = lit≤ tt;
  count = 6;
  pairs = refl;
  some = lit≤ tt;
  fits = lit≤ tt;
}

pub returns-clause-decoded : goal.returns-clause-decoded
unfolding decode_pairs
returns-clause-decoded c = record { begins = refl; decoded = refl; upto = lit≤ tt; within = lit≤ tt }

pub returns-clause-spells : goal.returns-clause-spells
unfolding decode_pairs
returns-clause-spells c = record { digits = codes "000300016869"; are = refl; decoded = refl }
