-- What is written of a capture text: the normal text of what it means, and nothing of any other; `rollover` is what comes after
-- block 65535, where anything does.
use Rattle.std.specs.Prelude.{◌≡◌, ◌⊎◌, ℕ, List, Option, Result, Ok, Err}
use Rattle.net_streams.specs.Streams.{Sink, Stops, Wrote}
use Rattle.tftp_packet.specs.{Rollover}
use Rattle.law_model.specs.Model.{Meaning}
use Rattle.tftp_judge.specs.{WantsMemory, Verdict}
use Rattle.tftp_normal.specs.declared.fault.NormalFault.{NormalFault}
use Rattle.tftp_normal.specs.declared.fault.NormalFault.TheVariants as fault
use Rattle.tftp_normal.specs.Normal.{normal_text_by}

-- After what waited the normal text, whole, or where a write failed a part of these from their start; nothing where memory
-- was wanting, or the text is not accepted.
abbrev pub Normalises : {W : Type 0} → Option Rollover → (W → Option (List ℕ)) → Sink W → Sink W → Result Meaning Verdict → Result (Unit {0}) NormalFault → Type 0
Normalises rollover contents old new (Ok m) (Ok done) = Wrote contents old new (normal_text_by rollover m)
Normalises rollover contents old new (Ok m) (Err fault.Write) = Stops contents old new (normal_text_by rollover m)
Normalises rollover contents old new (Ok m) (Err fault.Memory) = new ≡ old
Normalises rollover contents old new (Ok m) (Err (fault.Verdict verdict)) = ⊥
Normalises rollover contents old new (Err verdict) (Ok done) = ⊥
Normalises rollover contents old new (Err verdict) (Err fault.Write) = ⊥
Normalises rollover contents old new (Err verdict) (Err fault.Memory) = ⊥
Normalises rollover contents old new (Err verdict) (Err (fault.Verdict other)) = (other ≡ verdict) × (new ≡ old)

-- Of a text that is accepted with this meaning: its normal text, whole, or in part where a write failed; or memory was
-- wanting, and nothing was written.
abbrev pub WritesNormal : {W : Type 0} → Option Rollover → (W → Option (List ℕ)) → Sink W → Sink W → Meaning → Result (Unit {0}) NormalFault → Type 0
WritesNormal rollover contents old new m result =
    Normalises rollover contents old new (Ok m) result ⊎ ((verdict : Verdict) × WantsMemory (Err verdict) × Normalises rollover contents old new (Err verdict) result)
