-- A datagram that is no ERROR leaves what is kept of ERRORs as it is.
use Rattle.std.proofs.Common.{◌≡◌, ◌==◌, ◌||◌, ℕ, List, ◌∷◌, Option, Some, None, inl, inr, refl, ◌∙◌}
use Rattle.tftp_packet.specs.{Message, Spells, side_opcode, Side, Get, Put}
use Rattle.tftp_packet.specs.Hosts.{Datagram}
use Rattle.tftp_packet.specs.{Dir, In, Out}
use Rattle.law_model.specs.Rules.{Passed}
use Rattle.tftp_ends.specs.{has_stopped}
use Rattle.tftp_ends.proofs.Passing.{another, stopped_out, stopped_with}
use Rattle.law_end.specs.{IsErrorBy, AbortedBy, IsFirstError}
use Rattle.law_end.proofs.Spelled.{spelled_once}
use Rattle.tftp_judge.specs.{ErrorText, Errors, IsErrorOf, AreErrors}

module _ (d : Datagram) (passed : List Datagram) (m : Message) (spells : Spells d.payload m) (other : (code : ℕ) (text : List ℕ) → m ≡ Message.Error code text → ⊥) where
  back : (dir : Dir) (code : ℕ) (text : List ℕ) → Passed dir (Message.Error code text) (d ∷ passed) → Passed dir (Message.Error code text) passed
  back dir code text p = another d d.dir dir m (Message.Error code text) passed (refl, spells) (other code text) p

  kept : (dir : Dir) (o : Option ErrorText) → IsErrorOf dir passed o → IsErrorOf dir (d ∷ passed) o
  kept dir None none = λ code text p. none code text (back dir code text p)
  kept dir (Some error) is = (inr is.0, λ code text p. is.1 code text (back dir code text p))

  no_error : (by : AbortedBy) (code : ℕ) → IsErrorBy d by code → ⊥
  no_error by code e = other code e.1 (spelled_once d.payload m (Message.Error code e.1) spells e.2)

  first_aside : (o : Option (AbortedBy × ℕ)) → IsFirstError IsErrorBy passed o → IsFirstError IsErrorBy (d ∷ passed) o
  first_aside None none = (no_error, none)
  first_aside (Some error) first = inl first

  stopped_aside : has_stopped (d ∷ passed) ≡ has_stopped passed
  stopped_aside = by d.dir refl m refl where
    by : (dir : Dir) → d.dir ≡ dir → (n : Message) → m ≡ n → has_stopped (d ∷ passed) ≡ has_stopped passed
    by Out way n is = stopped_out d passed way
    by In way (Message.Request asked) is = stopped_with d m passed (way, spells) ∙ rw (is) (no_request asked.side) where
      no_request : (side : Side) → ((side_opcode side == 5) || has_stopped passed) ≡ has_stopped passed
      no_request Get = refl
      no_request Put = refl
    by In way (Message.Error code text) is = absurd (other code text is)
    by In way _ is = stopped_with d m passed (way, spells) ∙ rw (is) refl

pub errors_aside : (errors : Errors) (passed : List Datagram) (d : Datagram) (m : Message) → AreErrors errors passed → Spells d.payload m
    → ((code : ℕ) (text : List ℕ) → m ≡ Message.Error code text → ⊥) → AreErrors errors (d ∷ passed)
errors_aside errors passed d m are spells other = record {
  sent = kept d passed m spells other Out errors.sent are.sent;
  heard = kept d passed m spells other In errors.heard are.heard;
  first = first_aside d passed m spells other errors.first are.first;
  stopped = stopped_aside d passed m spells other ∙ are.stopped;
}
