-- What was written of a text that is accepted.
use Rattle.std.proofs.Common.{◌≡◌, ◌⊎◌, ℕ, List, Option, Result, Ok, Err, inl, inr, refl, sym, subst}
use Rattle.net_streams.specs.Streams.{Sink}
use Rattle.law_model.specs.Model.{Meaning}
use Rattle.tftp_judge.specs.{Extracts, WritesFile, WantsMemory, OutFault, Verdict}
use Rattle.tftp_judge.specs.declared.extraction.OutFault.TheVariants as fault

abbrev Exact : Result Meaning Verdict → Meaning → Type 0
Exact said m = (said ≡ Ok m) ⊎ WantsMemory said

-- where memory ran out before anything was written
pub wanted_file : {W : Type 0} (contents : W → Option (List ℕ)) (old new : Sink W) (m : Meaning) (verdict : Verdict) (result : Result (Unit {0}) OutFault) → result ≡ Err (fault.Verdict verdict) → new ≡ old
    → Exact (Err verdict) m → WritesFile contents old new m result
wanted_file contents old new m verdict result is same (inl other) = absurd (cc)
wanted_file contents old new m verdict result is same (inr wants) = inr (verdict, wants, subst (Extracts contents old new (Err verdict)) (sym is) (refl, same))

-- and where its file was
pub exact_file : {W : Type 0} (contents : W → Option (List ℕ)) (old new : Sink W) (m o : Meaning) (result : Result (Unit {0}) OutFault) → Extracts contents old new (Ok o) result → Exact (Ok o) m
    → WritesFile contents old new m result
exact_file contents old new m o result is (inl same) = let one : o ≡ m = cc in inl (subst (λ x. Extracts contents old new (Ok x) result) one is)
exact_file contents old new m o result is (inr wants) = absurd wants
