-- What is written of a capture text: the file of what it means, and nothing of any other.
use Rattle.std.specs.Prelude.{◌≡◌, ◌⊎◌, ℕ, List, Option, Result, Ok, Err}
use Rattle.net_streams.specs.Streams.{Sink, Stops, Wrote}
use Rattle.law_model.specs.Model.{Meaning}
use Rattle.tftp_judge.specs.TextVerdict.{WantsMemory}
use Rattle.tftp_judge.specs.declared.extraction.OutFault.{OutFault}
use Rattle.tftp_judge.specs.declared.extraction.OutFault.TheVariants as fault
use Rattle.tftp_judge.specs.declared.verdict.Verdict.{Verdict}

-- After what waited the file, whole, or where a write failed a part of these from their start; nothing where the text is
-- not accepted.
abbrev pub Extracts : {W : Type 0} → (W → Option (List ℕ)) → Sink W → Sink W → Result Meaning Verdict → Result (Unit {0}) OutFault → Type 0
Extracts contents old new (Ok m) (Ok done) = Wrote contents old new m.file
Extracts contents old new (Ok m) (Err fault.Write) = Stops contents old new m.file
Extracts contents old new (Ok m) (Err (fault.Verdict verdict)) = ⊥
Extracts contents old new (Err verdict) (Ok done) = ⊥
Extracts contents old new (Err verdict) (Err fault.Write) = ⊥
Extracts contents old new (Err verdict) (Err (fault.Verdict other)) = (other ≡ verdict) × (new ≡ old)

-- Of a text that is accepted with this meaning: its file, whole, or in part where a write failed; or memory ran out,
-- and nothing was written.
abbrev pub WritesFile : {W : Type 0} → (W → Option (List ℕ)) → Sink W → Sink W → Meaning → Result (Unit {0}) OutFault → Type 0
WritesFile contents old new m result =
    Extracts contents old new (Ok m) result ⊎ ((verdict : Verdict) × WantsMemory (Err verdict) × Extracts contents old new (Err verdict) result)
