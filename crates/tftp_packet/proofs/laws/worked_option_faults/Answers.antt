use Rattle.std.proofs.Common.{inl, inr, [], ◌∷◌, refl, rules, codes}
use Rattle.tftp_packet.specs.{strings, OddOptions, EmptyOptionName, DuplicateOption}
use Rattle.tftp_packet.proofs.RequestCases.{options_fault}
use Rattle.tftp_packet.proofs.OackCases.{oack_fault}
use Rattle.tftp_packet.proofs.laws.worked_option_faults.Goals as goal

pub returns-clause-odd : goal.returns-clause-odd
returns-clause-odd c =
    options_fault 1 (inl refl) (codes "a") (codes "mail") (strings (codes "blksize" ∷ [])) _ (search rules) (search rules) refl OddOptions (codes "blksize" ∷ [], refl, search rules, refl)

pub returns-clause-unnamed : goal.returns-clause-unnamed
returns-clause-unnamed c = oack_fault (strings ([] ∷ codes "8" ∷ [])) EmptyOptionName (([], codes "8") ∷ [], refl, search rules, inl refl)

pub returns-clause-twice : goal.returns-clause-twice
returns-clause-twice c =
    options_fault 2 (inr refl) (codes "a") (codes "octet") (strings (codes "blksize" ∷ codes "8" ∷ codes "BLKSIZE" ∷ codes "9" ∷ [])) _ (search rules) (search rules) refl
    DuplicateOption ((codes "blksize", codes "8") ∷ (codes "BLKSIZE", codes "9") ∷ [], refl, search rules, search rules, inl (inl refl))
