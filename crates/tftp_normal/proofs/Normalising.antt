-- What was written of a text that a judge accepts.
use Rattle.std.proofs.Common.{◌≡◌, ℕ, List, ◌++◌, Bool, true, false, Option, Some, None, Result, Ok, Err, OnOk, ◌⊎◌, inl, inr, refl, sym, subst}
use Rattle.std.specs.Io.KnownBytes.{Appends}
use Rattle.net_streams.specs.Streams.{Sink}
use Rattle.tftp_packet.specs.{Rollover}
use Rattle.law_model.specs.Model.{Meaning}
use Rattle.tftp_judge.specs.{IsTextVerdictBy, WantsMemory, Verdict}
use Rattle.tftp_normal.specs.declared.fault.NormalFault.TheVariants as fault
use Rattle.tftp_normal.specs.{IsAcceptedBy, normal_text_by, Normalises, WritesNormal, NormalFault}
use Rattle.law_end.specs.{IsWritable}
use Rattle.tftp_normal.proofs.Texts.{capture_plain, shown_text}

pub not_true : (b : Bool) → (b ≡ true → ⊥) → b ≡ false
not_true true none = absurd (none refl)
not_true false none = refl

-- the blocks of what a text means can be numbered
pub writable_of : (rollover : Option Rollover) (text : List ℕ) (m : Meaning) → IsTextVerdictBy rollover text (Ok m) → IsWritable rollover m
writable_of None text m (h, ds, capture, (lawful, shown, writable)) = subst (λ r. IsWritable r m) (capture_plain text h ds capture) writable
writable_of (Some r) text m (h, ds, capture, (taken, are, (lawful, shown, writable))) = writable

module _ (rollover : Option Rollover) {W : Type 0} (contents : W → Option (List ℕ)) (old new : Sink W) where
  -- where the call succeeds
  pub written_normal : (m : Meaning) (text : List ℕ) (result : Result (Unit {0}) NormalFault) → IsTextVerdictBy rollover text (Ok m) → Normalises rollover contents old new (Ok m) result
      → OnOk result ((o : Meaning) × IsAcceptedBy rollover text o × Appends (contents old.inner) (contents new.inner) (old.waits ++ normal_text_by rollover o))
  written_normal m text (Ok done) said is = (m, shown_text rollover text m said, is.3)
  written_normal m text (Err fault) said is = tt

  -- of a text that is accepted, where memory ran out before anything was written
  pub wanted_normal : (m : Meaning) (verdict : Verdict) (result : Result (Unit {0}) NormalFault) → result ≡ Err (fault.Verdict verdict) → new ≡ old
      → (◌≡◌ {A = Result Meaning Verdict} (Err verdict) (Ok m)) ⊎ WantsMemory (Err verdict) → WritesNormal rollover contents old new m result
  wanted_normal m verdict result is same (inl other) = absurd (cc)
  wanted_normal m verdict result is same (inr wants) = inr (verdict, wants, subst (Normalises rollover contents old new (Err verdict)) (sym is) (refl, same))

  -- and where its normal text was
  pub exact_normal : (m o : Meaning) (result : Result (Unit {0}) NormalFault) → Normalises rollover contents old new (Ok o) result
      → (◌≡◌ {A = Result Meaning Verdict} (Ok o) (Ok m)) ⊎ WantsMemory (Ok o) → WritesNormal rollover contents old new m result
  exact_normal m o result is (inl same) = let one : o ≡ m = cc in inl (subst (λ x. Normalises rollover contents old new (Ok x) result) one is)
  exact_normal m o result is (inr wants) = absurd wants
