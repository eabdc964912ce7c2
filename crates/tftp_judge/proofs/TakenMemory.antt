-- For which datagrams of the transfer no memory is taken.
use Rattle.std.proofs.Common.{◌≡◌, ℕ, inl, inr, List, true, sym, subst, ap, ◌∙◌}
use Rattle.std.proofs.lemmas.Bool.{false≢true}
use Rattle.tftp_packet.specs.{Message, Spells}
use Rattle.tftp_packet.specs.Hosts.{Datagram, Header}
use Rattle.tftp_ends.specs.{IsNewStray}
use Rattle.law_model.specs.Rules.{is_of_transfer, route_of, transfer_of, HasPassed, Passed}
use Rattle.law_end.proofs.Spelled.{spelled_once}
use Rattle.tftp_judge.specs.{IsNew, TakesMemory}

module _ (h : Header) (earlier : List Datagram) (d : Datagram) (on : is_of_transfer (route_of h earlier d) ≡ true) where
  no_stray : IsNewStray h earlier d → ⊥
  no_stray stray = false≢true (sym (ap is_of_transfer stray.0) ∙ on)

  -- of the message that it spells
  new_of : (m : Message) → Spells d.payload m → TakesMemory h earlier d → IsNew (transfer_of h earlier) d.dir m
  new_of m spells (inl stray) = absurd (no_stray stray)
  new_of m spells (inr (n, says, new)) = subst (IsNew (transfer_of h earlier) d.dir) (spelled_once d.payload n m says.spells spells) new

  pub no_ack : (j : ℕ) → Spells d.payload (Message.Ack j) → TakesMemory h earlier d → ⊥
  no_ack j spells takes = new_of (Message.Ack j) spells takes

  pub no_block : (k : ℕ) (bytes other : List ℕ) → Spells d.payload (Message.Data k bytes) → HasPassed (Message.Data k other) (transfer_of h earlier) → TakesMemory h earlier d → ⊥
  no_block k bytes other spells passed takes = new_of (Message.Data k bytes) spells takes other passed

  pub no_error : (code other : ℕ) (text words : List ℕ) → Spells d.payload (Message.Error code text) → Passed d.dir (Message.Error other words) (transfer_of h earlier) → TakesMemory h earlier d → ⊥
  no_error code other text words spells passed takes = new_of (Message.Error code text) spells takes other words passed
