use Rattle.std.proofs.Common.{◌≢◌, inl, inr, [], ◌∷◌, refl, arith, rules, codes}
use Rattle.std.proofs.lemmas.List.Elements.{recursion_from_All, All-replicate}
use Rattle.tftp_packet.specs.{strings, IsString, long_name, Octet, UnknownMode, MailMode}
use Rattle.tftp_packet.proofs.RequestCases.{mode_fault, too_long}
use Rattle.tftp_packet.proofs.laws.worked_mode_faults.Goals as goal

pub returns-clause-unknown : goal.returns-clause-unknown
returns-clause-unknown c =
    mode_fault 1 (inl refl) (codes "a") (codes "oct") [] _ (search rules) (search rules) refl [] refl tt tt tt
    UnknownMode ((λ e. let f : ⊥ = cc in f), (λ e. let f : ⊥ = cc in f), λ e. let f : ⊥ = cc in f)

pub returns-clause-mail : goal.returns-clause-mail
returns-clause-mail c = mode_fault 2 (inr refl) (codes "a") (codes "Mail") [] _ (search rules) (search rules) refl [] refl tt tt tt MailMode refl

long_string : IsString long_name
long_string = recursion_from_All (λ b. b ≢ 0) long_name (All-replicate (λ b. b ≢ 0) 494 97 (λ e. omega arith))

pub returns-clause-long : goal.returns-clause-long
returns-clause-long c =
    too_long 1 (inl refl) long_name (codes "octet") (strings (codes "blksize" ∷ codes "8" ∷ [])) (strings (long_name ∷ codes "octet" ∷ codes "blksize" ∷ codes "8" ∷ []))
    long_string (search rules) refl ((codes "blksize", codes "8") ∷ []) refl (search rules) (search rules) (search rules) Octet refl (λ none. let f : ⊥ = cc in f) (omega arith)
