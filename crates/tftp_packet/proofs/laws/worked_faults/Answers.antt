use Rattle.std.proofs.Common.{inl, [], ◌∷◌, refl, arith, rules, codes}
use Rattle.tftp_packet.specs.{strings, NoTerminator}
use Rattle.tftp_packet.proofs.Strings.{string_has_no_zero, only_more}
use Rattle.tftp_packet.proofs.RequestCases.{one_string}
use Rattle.tftp_packet.proofs.OackCases.{oack_fault}
use Rattle.tftp_packet.proofs.Judged.{error_fault}
use Rattle.tftp_packet.proofs.laws.worked_faults.Goals as goal

pub returns-clause-request : goal.returns-clause-request
returns-clause-request c = one_string 1 (inl refl) (codes "a") [] (strings (codes "a" ∷ [])) (search rules) tt refl

pub returns-clause-oack : goal.returns-clause-oack
returns-clause-oack c = oack_fault (codes "blksize") NoTerminator ((λ none. let f : ⊥ = cc in f), λ ends. string_has_no_zero (codes "blksize") ends.0 [] (search rules) ends.1)

pub returns-clause-error : goal.returns-clause-error
returns-clause-error c = error_fault _ (110 ∷ 111 ∷ 0 ∷ 0 ∷ []) 0 1 (refl, omega arith, omega arith) (only_more (codes "no") (0 ∷ []) _ (search rules) refl (λ none. let f : ⊥ = cc in f))
