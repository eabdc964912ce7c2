use Rattle.std.proofs.Common.{◌≡◌, inl, inr, refl, ap, arith, codes}
use Rattle.tftp_packet.specs.{Num, value_of, is_known_number, is_number, range_of, map_of}
use Rattle.tftp_nego.specs.{number_or, option_or, one}
use Rattle.tftp_packet.proofs.Maps.{text_in_map}
use Rattle.tftp_nego.proofs.laws.worked_faults.Goals as goal

pub returns-clause-raised : goal.returns-clause-raised
unfolding value_of is_known_number is_number range_of
returns-clause-raised c = (
  codes "blksize",
  Num 512,
  Num 1024,
  text_in_map (one (codes "blksize") (codes "512")) (codes "blksize"),
  text_in_map (one (codes "blksize") (codes "1024")) (codes "blksize"),
  inl (refl, omega arith),
)

pub returns-clause-changed : goal.returns-clause-changed
unfolding value_of is_known_number is_number range_of
returns-clause-changed c = (
  codes "tsize",
  Num 10,
  Num 11,
  text_in_map (one (codes "tsize") (codes "10")) (codes "tsize"),
  text_in_map (one (codes "tsize") (codes "11")) (codes "tsize"),
  inr (inr (inr (refl, refl, λ e. omega arith))),
)

pub returns-clause-beyond : goal.returns-clause-beyond
unfolding value_of is_known_number is_number range_of
returns-clause-beyond c =
    let given = text_in_map (one (codes "tsize") (codes "33553920")) in
    let block : option_or 512 (map_of (one (codes "tsize") (codes "33553920"))) (codes "blksize") ≡ 512 = ap (number_or 512) (given (codes "blksize")) in
    (33553920, refl, given (codes "tsize"), rw block (omega arith))

pub returns-clause-beyond_again : goal.returns-clause-beyond_again
unfolding value_of is_known_number is_number range_of
returns-clause-beyond_again c rollover =
    let given = text_in_map (one (codes "tsize") (codes "4294966784")) in
    let block : option_or 512 (map_of (one (codes "tsize") (codes "4294966784"))) (codes "blksize") ≡ 512 = ap (number_or 512) (given (codes "blksize")) in
    (4294966784, refl, given (codes "tsize"), rw block (omega arith))
