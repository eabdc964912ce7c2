-- The role of the named end, as code keeps it.
use mathlib.Core.Logic.{inl, inr}
use Rattle.std.specs.Prelude.{◌≡◌, ◌⊎◌, refl}
use Rattle.std.specs.Coded.{Coded, code_by, coded⊎}
use Rattle.tftp_ends.specs.NamedEnds.{NamedEnd, Sends, Receives}
use Rattle.tftp_ends.specs.States.{Sender, Receiver}
use Rattle.tftp_ends.specs.StatesKept.{sender_code, receiver_code}
use Rattle.tftp_ends.specs.declared.named_end.Role.{Role}
use Rattle.tftp_ends.specs.declared.named_end.Role.TheVariants as role

abbrev pub end_of : {D : Type 0} → Role D → NamedEnd
end_of (role.Sends s) = Sends s
end_of (role.Receives r) = Receives r

abbrev pub role_of_end : NamedEnd → Sender ⊎ Receiver
role_of_end (Sends s) = inl s
role_of_end (Receives r) = inr r

abbrev pub end_from : Sender ⊎ Receiver → NamedEnd
end_from (inl s) = Sends s
end_from (inr r) = Receives r

abbrev pub end_back : (e : NamedEnd) → end_from (role_of_end e) ≡ e
end_back (Sends s) = refl
end_back (Receives r) = refl

abbrev pub named_end_code : Coded NamedEnd
named_end_code = code_by (Sender ⊎ Receiver) (coded⊎ sender_code receiver_code) role_of_end end_from end_back
