-- The rules before a request is answered, and with a plain reply.
use Rattle.std.proofs.Common.{◌≡◌, ◌↔◌, ℕ, List, length, inl, inr}
use Rattle.tftp_packet.specs.{Message, Request, Data, Ack, Error, Oack, Get, Put}
use Rattle.tftp_packet.specs.Hosts.{Datagram}
use Rattle.law_model.specs.Rules.{HasWrongLength, BlockBreaks, AckBreaks, EndBroken, AckZeroWaits, usable}
use Rattle.law_model.specs.{EndRule, NotStarted, BlockLength, AckZero, Reply, NoReply, Plain, Terms}
use Rattle.tftp_ends.specs.{replied}

same : {A : Type 0} → A ↔ A
same = ((λ a. a), (λ a. a))

module _ (t : Terms) (passed : List Datagram) where
  length_as : (a b : Reply) (k long : ℕ) → HasWrongLength (replied a t) passed k long → HasWrongLength (replied b t) passed k long
  length_as a b k long wrong = elim wrong [
    | inl over ↦ inl over
    | inr more ↦ elim more [
      | inl misfit ↦ inr (inl misfit)
      | inr ends ↦ inr (inr (record { no_size = ends.0.no_size; all_whole = ends.0.all_whole }, ends.1, ends.2))
    ]
  ]

  block_alike : (k : ℕ) (bytes : List ℕ) → t.side ≡ Get → (rule : EndRule) → BlockBreaks (replied NoReply t) passed k bytes rule ↔ BlockBreaks (replied Plain t) passed k bytes rule
  block_alike k bytes get NotStarted = rw (get) same
  block_alike k bytes get BlockLength = (length_as NoReply Plain k (length bytes), length_as Plain NoReply k (length bytes))
  block_alike k bytes get _ = same

  ack_alike : (j : ℕ) → (AckZeroWaits t.side NoReply (usable passed) ↔ AckZeroWaits t.side Plain (usable passed)) → (rule : EndRule)
      → AckBreaks (replied NoReply t) passed j rule ↔ AckBreaks (replied Plain t) passed j rule
  ack_alike j waits AckZero = ((λ b. (b.0, waits.0 b.1)), (λ b. (b.0, waits.1 b.1)))
  ack_alike j waits _ = same

  pub ack_put_alike : (j : ℕ) → t.side ≡ Put → (rule : EndRule) → AckBreaks (replied NoReply t) passed j rule ↔ AckBreaks (replied Plain t) passed j rule
  ack_put_alike j put rule = ack_alike j (rw (put) same) rule

  pub read_alike : (m : Message) → t.side ≡ Get → (rule : EndRule) → EndBroken (replied NoReply t) passed m rule ↔ EndBroken (replied Plain t) passed m rule
  read_alike (Data k bytes) get rule = block_alike k bytes get rule
  read_alike (Ack j) get rule = ack_alike j (rw (get) same) rule
  read_alike (Request parts) get rule = same
  read_alike (Oack options) get rule = same
  read_alike (Error code text) get rule = same
