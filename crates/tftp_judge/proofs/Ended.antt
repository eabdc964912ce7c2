-- What is said of datagrams that break no rule and mean nothing.
use Rattle.std.proofs.Common.{◌≡◌, ◌⊎◌, ℕ, List, length, Err, inl, inr, refl, ◌∙◌, reverse}
use Rattle.tftp_packet.specs.{Side, Get, Put, End, Client, Server}
use Rattle.tftp_packet.specs.Hosts.{Datagram, Header}
use Rattle.law_model.specs.Model.{Meaning}
use Rattle.law_model.specs.Rules.{transfer_of}
use Rattle.law_model.specs.Model.Roles.{sender_of, receiver_of}
use Rattle.law_end.specs.{OneEnded, Meant}
use Rattle.tftp_judge.specs.{IsUnfinished, IsVerdictByRules, Refusal, Aborted, Incomplete}

pub end_is : (named : End) (side : Side) → (named ≡ receiver_of side) ⊎ (named ≡ sender_of side)
end_is Client Get = inl refl
end_is Server Get = inr refl
end_is Client Put = inr refl
end_is Server Put = inl refl

-- what there is to say of datagrams that break no rule and mean nothing
pub unfinished_by : (h : Header) (datagrams : List Datagram) (total : ℕ) (v : Refusal) → OneEnded h (reverse datagrams) → ((m : Meaning) → Meant h (reverse datagrams) m → ⊥) → total ≡ length datagrams
    → IsUnfinished (transfer_of h (reverse datagrams)) total v → IsVerdictByRules h datagrams (Err v)
unfinished_by h datagrams total (Aborted by code) lawful none is first = (lawful, none, first)
unfinished_by h datagrams total (Incomplete count) lawful none is left = (lawful, none, left.0, left.1 ∙ is)
unfinished_by h datagrams total v lawful none is other = absurd other
