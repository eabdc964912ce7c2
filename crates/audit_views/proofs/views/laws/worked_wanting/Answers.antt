use Rattle.std.proofs.Common.{◌≡◌, ◌⊎◌, ℕ, List, [], ◌∷◌, ◌++◌, Err, None, Some, inl, inr}
use Rattle.tftp_packet.specs.Hosts.{Datagram, Header}
use Rattle.tftp_judge.specs.{IsVerdict}
use Rattle.tftp_judge.specs.declared.refusal.Refusal.TheVariants.{Memory}
use Rattle.audit_views.specs.Views.{IsRefusedIn}
use Rattle.audit_views.proofs.views.laws.worked_wanting.Goals as goal

no_parts : (later earlier : List Datagram) (d : Datagram) → [] ≡ later ++ d ∷ earlier → ⊥
no_parts [] earlier d are = absurd (cc)
no_parts (e ∷ later) earlier d are = absurd (cc)

never : (h : Header) (count : ℕ) → IsRefusedIn h [] (Memory count) ⊎ IsVerdict h [] (Err (Memory count)) → ⊥
never h count (inl at) = no_parts at.later at.earlier at.datagram at.are
never h count (inr (lawful, ended, counted)) = let (asked, (d, is, says), terms) = ended.known in let none : None ≡ Some d = is in absurd (cc)

pub returns : goal.returns
returns c h count wanting = never h count wanting
