-- Which messages answer a request, by computation.
use Rattle.std.proofs.Common.{◌≡◌, ◌==◌, Bool, true, false, Option, Some, None, refl, ap, if◌then◌else◌}
use Rattle.std.proofs.lemmas.Bool.{eqb-true}
use Rattle.tftp_packet.specs.{Message, Side, Get, Put}
use Rattle.law_end.specs.{Answer, Agrees, Begins, IsAnswer}

abbrev pub answer_of : Side → Message → Option Answer
answer_of side (Message.Oack options) = Some (Agrees options)
answer_of Get (Message.Data k bytes) = Some Begins
answer_of Put (Message.Ack j) = if j == 0 then Some Begins else None
answer_of _ _ = None

ack_answers : (b : Bool) (a : Answer) → (if b then Some Begins else None) ≡ Some a → (b ≡ true) × (a ≡ Begins)
ack_answers true a e = (refl, cc)
ack_answers false a e = absurd (cc)

pub answer_is : (side : Side) (m : Message) (a : Answer) → IsAnswer side m a → answer_of side m ≡ Some a
answer_is Get (Message.Oack options) (Agrees other) is = ap (λ o. Some (Agrees o)) is
answer_is Put (Message.Oack options) (Agrees other) is = ap (λ o. Some (Agrees o)) is
answer_is Get (Message.Data k bytes) Begins is = refl
answer_is Put (Message.Ack j) Begins is = ap (λ n. if n == 0 then Some Begins else None) is
answer_is Get (Message.Oack options) Begins is = absurd is
answer_is Put (Message.Oack options) Begins is = absurd is
answer_is Get (Message.Data k bytes) (Agrees other) is = absurd is
answer_is Put (Message.Data k bytes) a is = absurd is
answer_is Get (Message.Ack j) a is = absurd is
answer_is Put (Message.Ack j) (Agrees other) is = absurd is
answer_is Get (Message.Request r) a is = absurd is
answer_is Put (Message.Request r) a is = absurd is
answer_is Get (Message.Error code text) a is = absurd is
answer_is Put (Message.Error code text) a is = absurd is

pub answer_there : (side : Side) (m : Message) (a : Answer) → answer_of side m ≡ Some a → IsAnswer side m a
answer_there Get (Message.Oack options) (Agrees other) e = cc
answer_there Put (Message.Oack options) (Agrees other) e = cc
answer_there Get (Message.Oack options) Begins e = absurd (cc)
answer_there Put (Message.Oack options) Begins e = absurd (cc)
answer_there Get (Message.Data k bytes) Begins e = tt
answer_there Get (Message.Data k bytes) (Agrees other) e = absurd (cc)
answer_there Put (Message.Ack j) Begins e = eqb-true j 0 (ack_answers (j == 0) Begins e).0
answer_there Put (Message.Ack j) (Agrees other) e = let is = (ack_answers (j == 0) (Agrees other) e).1 in absurd (cc)
answer_there Put (Message.Data k bytes) a e = absurd (cc)
answer_there Get (Message.Ack j) a e = absurd (cc)
answer_there Get (Message.Request r) a e = absurd (cc)
answer_there Put (Message.Request r) a e = absurd (cc)
answer_there Get (Message.Error code text) a e = absurd (cc)
answer_there Put (Message.Error code text) a e = absurd (cc)
