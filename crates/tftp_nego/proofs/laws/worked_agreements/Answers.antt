use Rattle.std.proofs.Common.{◌≡◌, inl, inr, refl, sym, ap, ◌∙◌, Some, None, arith, codes}
use Rattle.tftp_packet.specs.{Num, value_of, is_known_number, is_number, range_of, map_of}
use Rattle.tftp_nego.specs.{number_or, option_or, one}
use Rattle.tftp_packet.proofs.Maps.{text_in_map}
use Rattle.tftp_nego.proofs.Tested.{agree_on_one}
use Rattle.tftp_nego.proofs.laws.worked_agreements.Goals as goal

pub returns-clause-lowered : goal.returns-clause-lowered
unfolding value_of is_known_number is_number range_of
returns-clause-lowered c =
    agree_on_one None _ (codes "blksize") (codes "0512") 1024 512 refl (text_in_map (one (codes "blksize") (codes "1024")) (codes "blksize")) (inl (refl, omega arith))
    (λ octet size has. let none = text_in_map (one (codes "blksize") (codes "0512")) (codes "tsize") in let same : None ≡ Some (Num size) = sym none ∙ has in absurd (let x : ⊥ = cc in x))

pub returns-clause-size : goal.returns-clause-size
unfolding value_of is_known_number is_number range_of
returns-clause-size c =
    let given = text_in_map (one (codes "tsize") (codes "33553919")) in
    agree_on_one None _ (codes "tsize") (codes "33553919") 0 33553919 refl (text_in_map (one (codes "tsize") (codes "0")) (codes "tsize"))
    (inr (inr (inr (refl, λ put. absurd (let x : ⊥ = cc in x)))))
    (λ octet size has.
    let found : Some (Num 33553919) ≡ Some (Num size) = sym (given (codes "tsize")) ∙ has in
    let same : 33553919 ≡ size = cc in
    let block : option_or 512 (map_of (one (codes "tsize") (codes "33553919"))) (codes "blksize") ≡ 512 = ap (number_or 512) (given (codes "blksize")) in
    rw (block, ← same) (omega arith))

pub returns-clause-again : goal.returns-clause-again
unfolding value_of is_known_number is_number range_of
returns-clause-again c rollover =
    let given = text_in_map (one (codes "tsize") (codes "4294966783")) in
    agree_on_one (Some rollover) _ (codes "tsize") (codes "4294966783") 0 4294966783 refl (text_in_map (one (codes "tsize") (codes "0")) (codes "tsize"))
    (inr (inr (inr (refl, λ put. absurd (let x : ⊥ = cc in x)))))
    (λ octet size has.
    let found : Some (Num 4294966783) ≡ Some (Num size) = sym (given (codes "tsize")) ∙ has in
    let same : 4294966783 ≡ size = cc in
    let block : option_or 512 (map_of (one (codes "tsize") (codes "4294966783"))) (codes "blksize") ≡ 512 = ap (number_or 512) (given (codes "blksize")) in
    rw (block, ← same) (omega arith))
