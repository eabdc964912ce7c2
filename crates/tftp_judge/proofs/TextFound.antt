-- What was found in the bytes of a reader.
use Rattle.std.proofs.Common.{◌≡◌, ◌≤◌, ◌⊎◌, ℕ, inl, inr, Bool, true, false, true≢false, List, [], ◌∷◌, ◌++◌, length, Option, Some, None, Result, Err, refl, sym, ap, ◌∙◌, subst, arith, append_assoc, append-nil}
use Rattle.std.specs.Io.KnownBytes.{Consumes, IsAtEnd, prepend_known}
use Rattle.tftp_capture.specs.{Numbered, FailsToBegin, FaultTells, IsAtTextEnd, IsReadFault, CaptureFault}
use Rattle.net_streams.specs.Streams.{most_ahead}
use Rattle.tftp_capture.specs.declared.fault.CaptureFault.TheVariants.{Text, Read, Memory}
use Rattle.tftp_capture.proofs.Headers.{at_end_rest}
use Rattle.tftp_packet.specs.{Rollover}
use Rattle.law_model.specs.Model.{Meaning}
use Rattle.tftp_judge.specs.{EndsText, IsOfText, IsReadVerdictBy, IsTextVerdictBy, SaysReadFailed, WantsMemory, Verdict, Capture, Refused}
use Rattle.tftp_judge.specs.declared.refusal.Refusal.TheVariants as refusal
use Rattle.tftp_judge.proofs.FirstFaults.{LawfulIn, Wants, fault_alone, fault_here, fault_kinds, fault_longer, fault_read, none_in, wants_first}
use Rattle.tftp_judge.proofs.OneTextVerdict.{one_text_verdict}

-- bytes were taken and some read ahead, none where a read failed or the text has ended
pub record Closed (before after : Option (List ℕ)) (taken held : List ℕ) (AtEnd Drained : Type 0) : Type 0 where
  pub ahead : List ℕ
  pub consumed : Consumes before after (taken ++ ahead)
  pub ended : AtEnd → (ahead ≡ []) × IsAtEnd after
  pub drained : Drained → ahead ≡ []
  pub all_held : (ahead ≡ []) ⊎ (ahead ≡ held)

no_front : (ahead rest : List ℕ) → ahead ++ rest ≡ [] → (ahead ≡ []) × (rest ≡ [])
no_front [] rest e = (refl, e)
no_front (b ∷ bs) rest e = absurd (omega (arith, ap length e))

-- what is read ahead is consumed too
pub closed : (before after : Option (List ℕ)) (taken ahead : List ℕ) (AtEnd Drained : Type 0) → Consumes before (prepend_known ahead after) taken → (AtEnd → IsAtEnd (prepend_known ahead after)) → (Drained → ahead ≡ [])
    → Closed before after taken ahead AtEnd Drained
closed None after taken ahead AtEnd Drained consumed end drained = record { ahead = []; consumed = tt; ended = λ h. (refl, at_end_rest after ahead (end h)); drained = λ h. refl; all_held = inl refl }
closed (Some x) None taken ahead AtEnd Drained consumed end drained = absurd consumed
closed (Some x) (Some y) taken ahead AtEnd Drained consumed end drained = record {
  ahead = ahead;
  consumed = consumed ∙ sym (append_assoc taken ahead y);
  ended = λ h. no_front ahead y (end h);
  drained = drained;
  all_held = inr refl;
}

-- what is said of the bytes that were taken stays, whatever follows; and it is said of all that was read
pub record Stays (rollover : Option Rollover) (taken ahead : List ℕ) (r : Result Meaning Verdict) : Type 0 where
  pub longer : (more : List ℕ) → IsTextVerdictBy rollover (taken ++ more) r
  pub read : IsReadVerdictBy rollover (taken ++ ahead) r

-- what is said is said of the bytes that were taken alone, which are all; they are the text, or a read failed
pub record Ends (rollover : Option Rollover) (after : Option (List ℕ)) (taken ahead : List ℕ) (r : Result Meaning Verdict) : Type 0 where
  pub all : ahead ≡ []
  pub is : IsTextVerdictBy rollover taken r
  pub read : IsReadVerdictBy rollover taken r
  pub why : IsAtEnd after ⊎ SaysReadFailed r

-- what is said of the bytes that were read, and whether a read failed
pub record Found (rollover : Option Rollover) (before after : Option (List ℕ)) (failed : Bool) (r : Result Meaning Verdict) : Type 0 where
  pub taken : List ℕ
  pub ahead : List ℕ
  pub consumed : Consumes before after (taken ++ ahead)
  pub said : Stays rollover taken ahead r ⊎ Ends rollover after taken ahead r
  pub ended : EndsText r → IsAtEnd after
  pub failing : SaysReadFailed r → failed ≡ true
  pub latched : failed ≡ true → SaysReadFailed r

-- an answer is of the text, or that a read failed, or being out of memory
pub answers : (r : Result Meaning Verdict) → IsOfText r ⊎ (SaysReadFailed r ⊎ WantsMemory r)
answers (Err (Refused (refusal.Memory count))) = inr (inr tt)
answers (Err (Capture (Read line))) = inr (inl tt)
answers (Err (Capture (Memory line))) = inr (inr tt)
answers _ = inl tt

pub rest_of : (b : Option (List ℕ)) (text bytes : List ℕ) → Consumes (Some text) b bytes → (rest : List ℕ) × (b ≡ Some rest) × (text ≡ bytes ++ rest)
rest_of None text bytes c = absurd c
rest_of (Some rest) text bytes c = (rest, refl, c)

module _ (rollover : Option Rollover) (before after : Option (List ℕ)) (failed : Bool) (r : Result Meaning Verdict) (found : Found rollover before after failed r) where
  pub found_judged : (read : List ℕ) × Consumes before after read × IsReadVerdictBy rollover read r
  found_judged = elim found.said as (λ _. (read : List ℕ) × Consumes before after read × IsReadVerdictBy rollover read r) [
    | inl stays ↦ (found.taken ++ found.ahead, found.consumed, stays.read)
    | inr ends ↦ (found.taken, subst (Consumes before after) (ap (λ l. found.taken ++ l) ends.all ∙ append-nil found.taken) found.consumed, ends.read)
  ]

  pub found_ended : EndsText r → IsAtEnd after
  found_ended = found.ended

  pub found_tally : failed ≡ true → SaysReadFailed r
  found_tally = found.latched

  pub found_whole : (text : List ℕ) → before ≡ Some text → failed ≡ false → IsTextVerdictBy rollover text r
  found_whole text all clean =
      let (rest, left, are) = rest_of after text (found.taken ++ found.ahead) (subst (λ b. Consumes b after (found.taken ++ found.ahead)) all found.consumed) in
      elim found.said as (λ _. IsTextVerdictBy rollover text r) [
        | inl stays ↦ subst (λ t. IsTextVerdictBy rollover t r) (sym (are ∙ append_assoc found.taken found.ahead rest)) (stays.longer (found.ahead ++ rest))
        | inr ends ↦ elim ends.why as (λ _. IsTextVerdictBy rollover text r) [
          | inl over ↦
              let none : rest ≡ [] = subst IsAtEnd left over in
              let whole : text ≡ found.taken = are ∙ ap (λ l. (found.taken ++ l) ++ rest) ends.all ∙ ap (λ l. l ++ rest) (append-nil found.taken) ∙ ap (λ l. found.taken ++ l) none ∙ append-nil found.taken in
              subst (λ t. IsTextVerdictBy rollover t r) (sym whole) ends.is
          | inr reads ↦ absurd (true≢false (sym (found.failing reads) ∙ clean))
        ]
      ]

  pub found_exact : (text : List ℕ) (v : Result Meaning Verdict) → before ≡ Some text → failed ≡ false → IsOfText v → IsTextVerdictBy rollover text v → (r ≡ v) ⊎ WantsMemory r
  found_exact text v all clean of is = elim (answers r) as (λ _. (r ≡ v) ⊎ WantsMemory r) [
    | inl also ↦ inl (one_text_verdict rollover text r v also of (found_whole text all clean) is)
    | inr (inl reads) ↦ absurd (true≢false (sym (found.failing reads) ∙ clean))
    | inr (inr wants) ↦ inr wants
  ]

-- ---- the kinds of faults

-- a fault that stays whatever follows, or that is said of the bytes that were taken alone
pub found_by_fault : (rollover : Option Rollover) (after : Option (List ℕ)) (text ahead : List ℕ) (ds : List Numbered) (fault : CaptureFault) → FaultTells fault text ds → Wants fault text ahead ds → length ahead ≤ most_ahead
    → (IsAtTextEnd fault → (ahead ≡ []) × IsAtEnd after) → (IsReadFault fault → ahead ≡ []) → ((more : List ℕ) → LawfulIn rollover (text ++ more) ds) → Stays rollover text ahead (Err (Capture fault)) ⊎ Ends rollover after text ahead (Err (Capture fault))
found_by_fault rollover after text ahead ds fault tells wants near end drained lawful = elim (fault_kinds fault) as (λ _. Stays rollover text ahead (Err (Capture fault)) ⊎ Ends rollover after text ahead (Err (Capture fault))) [
  | inl may ↦ inl (record { longer = λ more. fault_longer rollover text ahead ds fault tells wants more may (lawful more); read = fault_read rollover text ahead ds fault tells wants may near (lawful ahead) })
  | inr (inl ends) ↦ inr (record { all = (end ends).0; is = here; read = fault_alone rollover text fault here (inl ends); why = inl (end ends).1 })
  | inr (inr reads) ↦ inr (record { all = drained reads; is = here; read = fault_alone rollover text fault here (inr reads); why = inr reads })
]
  where
    here : IsTextVerdictBy rollover text (Err (Capture fault))
    here = fault_here rollover text ahead ds fault tells wants (subst (λ t. LawfulIn rollover t ds) (append-nil text) (lawful []))

-- ---- a text whose header is not read

-- a failed read is told by a fault that says so
pub failed_or : (fault : CaptureFault) (failed : Bool) → ((IsReadFault fault → ⊥) → failed ≡ false) → failed ≡ true → IsReadFault fault
failed_or (Text line fault) failed clean is = absurd (true≢false (sym is ∙ clean (λ x. x)))
failed_or (Read line) failed clean is = tt
failed_or (Memory line) failed clean is = absurd (true≢false (sym is ∙ clean (λ x. x)))

pub found_no_header : (rollover : Option Rollover) (before after : Option (List ℕ)) (failed : Bool) (fault : CaptureFault) → FailsToBegin before after fault → (EndsText (Err (Capture fault)) → IsAtEnd after) → (IsReadFault fault → failed ≡ true)
    → ((IsReadFault fault → ⊥) → failed ≡ false) → Found rollover before after failed (Err (Capture fault))
found_no_header rollover before after failed fault fails end read clean = record {
  taken = fails.taken;
  ahead = fails.ahead;
  consumed = fails.consumed;
  said = found_by_fault rollover after fails.taken fails.ahead [] fault fails.tells (wants_first fails.taken fails.ahead [] fault fails.memory) fails.near (λ h. (fails.ended h, end h)) fails.drained (λ more. none_in rollover (fails.taken ++ more));
  ended = end;
  failing = λ h. read h;
  latched = failed_or fault failed clean;
}
