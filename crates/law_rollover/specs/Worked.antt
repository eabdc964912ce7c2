-- What a receiver does past the end of a round, in blocks and by the numbers that pass.
use Rattle.std.specs.Prelude.{[], ◌∷◌}
use Rattle.law_model.specs.Model.{History, Sent, Took, Data, Ack}

abbrev pub past_the_round : History
past_the_round =
    Took (Data 65535) ∷ Sent (Ack 65536) ∷ Took (Data 65536) ∷ Took (Data 65535) ∷ Took (Data 40000) ∷ Took (Data 20000)
    ∷ []

abbrev pub past_the_round_by_zero : History
past_the_round_by_zero =
    Took (Data 65535) ∷ Sent (Ack 0) ∷ Took (Data 0) ∷ Took (Data 65535) ∷ Took (Data 40000) ∷ Took (Data 20000) ∷ []

abbrev pub past_the_round_by_one : History
past_the_round_by_one =
    Took (Data 65535) ∷ Sent (Ack 1) ∷ Took (Data 1) ∷ Took (Data 65535) ∷ Took (Data 40000) ∷ Took (Data 20000) ∷ []
