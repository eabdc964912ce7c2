-- What is told of a text with what is missing of it.
use Rattle.std.proofs.Common.{◌≡◌, ◌⊎◌, inl, inr, ◌+◌, ◌++◌, ℕ, List, [], ◌∷◌, Bool, true, false, if◌then◌else◌, Option, None, Some, Result, Ok, Err, refl, sym, ap, ◌∙◌, subst, append-nil, IfOk, OnOk, is_err}
use Rattle.std.proofs.lemmas.Bool.{false≢true, true≢false}
use Rattle.std.specs.Io.{appended_bytes}
use Rattle.std.specs.Io.KnownBytes.{Consumes, IsAtEnd}
use Rattle.net_streams.specs.Streams.{Sink}
use Rattle.tftp_capture.specs.declared.fault.CaptureFault.TheVariants.{Read}
use Rattle.law_model.specs.Model.{Meaning}
use Rattle.tftp_judge.specs.{Capture, IsTextVerdictBy, SaysReadFailed, Verdict}
use Rattle.judge_losses.specs.{AreMissingOf, Place}
use Rattle.tftp_commands.specs.{IsChecked, IsCheckedWithLosses, IsFoundIn, IsToldOf, Output, Prints, Runs, Status, checked, given, losses_line, memory_line, newlines, says_unlawful, verdict_status, with_losses}
use Rattle.tftp_commands.specs.Checked.{verdict_line}
use Rattle.tftp_commands.specs.Losses.{IsRefusedWith, IsToldWithLosses, SaysMemory, with_further}
use Rattle.tftp_commands.specs.declared.status.Status.TheVariants as status

-- a further line stands behind an unlawful datagram alone
pub with_more : (said : Result Meaning Verdict) (found : List Place) → says_unlawful said ≡ true → with_losses said found ≡ with_further (checked said) (losses_line found)
with_more said found h = ap (λ (b : Bool). if b then with_further (checked said) (losses_line found) else checked said) h

pub with_none : (said : Result Meaning Verdict) (found : List Place) → says_unlawful said ≡ false → with_losses said found ≡ checked said
with_none said found h = ap (λ (b : Bool). if b then with_further (checked said) (losses_line found) else checked said) h

-- what was found is right, also where no place was
pub found_right : (text : List ℕ) (places : List Place) → AreMissingOf text places → IsFoundIn text places
found_right text [] found = tt
found_right text (place ∷ further) found = found

-- what is said of a text, and not that a read failed, is told
pub told_of : (text : List ℕ) (said : Result Meaning Verdict) (found : List Place) (output : Output) → IsTextVerdictBy None text said → (SaysReadFailed said → ⊥) → IsFoundIn text found
    → output ≡ with_losses said found → IsToldOf text output
told_of text said found output is_said reads right is = record {
  said = said;
  judged = record {
    is_said = is_said;
    at_end = λ _. refl;
    failed = (λ h. absurd (reads h), λ h. absurd (false≢true h));
  };
  found = found;
  right = right;
  is = is;
}

pub refused_told : (text : List ℕ) (verdict : Verdict) (output : Output) → IsTextVerdictBy None text (Err verdict) → (SaysReadFailed (Err verdict) → ⊥) → IsRefusedWith verdict text output → IsToldWithLosses text output
refused_told text verdict output is_said reads p = elim p [
  | inl told ↦ inl (told_of text (Err verdict) told.0 output is_said reads told.1 told.2)
  | inr memory ↦ inr memory
]

further_behind : (b : Bool) (plain : Output) (line : List ℕ)
    → (further : List ℕ) × ((if b then with_further plain line else plain).bytes ≡ plain.bytes ++ further) × ((if b then with_further plain line else plain).status ≡ plain.status)
further_behind true plain line = (line, refl, refl)
further_behind false plain line = ([], sym (append-nil plain.bytes), refl)

-- what is told begins with what `check` says
pub begins_with_check : (text : List ℕ) (output : Output) → IsToldOf text output
    → (plain : Output) × (further : List ℕ) × IsChecked None (given text) plain × (output.bytes ≡ plain.bytes ++ further) × (output.status ≡ plain.status)
begins_with_check text output told =
    let behind = further_behind (says_unlawful told.said) (checked told.said) (losses_line told.found) in (
      checked told.said,
      behind.0,
      record { said = told.said; judged = told.judged; is = refl },
      ap (λ (o : Output). o.bytes) told.is ∙ behind.1,
      ap (λ (o : Output). o.status) told.is ∙ behind.2,
    )

-- a line of the places that were found, or of none
pub line_found : {L E : Type 0} (bytes : L → List ℕ) (r : Result L E) (text : List ℕ) (places : List Place) → IsFoundIn text places
    → IfOk r (λ line. (bytes line ≡ losses_line places) ⊎ (bytes line ≡ losses_line [])) → IfOk r (λ line. (found : List Place) × IsFoundIn text found × (bytes line ≡ losses_line found))
line_found bytes (Ok line) text places right p = elim p [
  | inl is ↦ (places, right, is)
  | inr is ↦ ([], tt, is)
]
line_found bytes (Err e) text places right p = tt

pub line_none : {L E : Type 0} (bytes : L → List ℕ) (r : Result L E) (text : List ℕ) → IfOk r (λ line. bytes line ≡ losses_line [])
    → IfOk r (λ line. (found : List Place) × IsFoundIn text found × (bytes line ≡ losses_line found))
line_none bytes (Ok line) text is = ([], tt, is)
line_none bytes (Err e) text is = tt

on_ok : {A E : Type 0} (r : Result A E) (P : Type 0) → is_err r ≡ false → OnOk r P → P
on_ok (Ok x) P not p = p
on_ok (Err e) P not p = absurd (true≢false not)

-- what was read behind nothing is all that was read
appended_none : (old new : List ℕ) → old ≡ [] → appended_bytes old new ≡ new
appended_none [] [] e = refl
appended_none [] (byte ∷ bytes) e = refl
appended_none (byte ∷ bytes) new e = cc

-- what was read to the end is all that there was
whole_text : (left : Option (List ℕ)) (text read : List ℕ) → Consumes (Some text) left read → IsAtEnd left → read ≡ text
whole_text None text read p q = absurd p
whole_text (Some rest) text read p q = sym (p ∙ ap (λ l. read ++ l) q ∙ append-nil read)

module _ {W : Type 0} (contents : W → Option (List ℕ)) (old new : Sink W) (result : Status) where
  -- ---- what is said of a verdict

  abbrev says_refused : Verdict → List ℕ → Type 0
  says_refused verdict text = (output : Output) × IsRefusedWith verdict text output × Prints contents old new output result

  pub refused_plain : (verdict : Verdict) (text : List ℕ) → says_unlawful (Err verdict) ≡ false → Prints contents old new (checked (Err verdict)) result → says_refused verdict text
  refused_plain verdict text not p = (checked (Err verdict), inl ([], tt, sym (with_none (Err verdict) [] not)), p)

  pub refused_memory : (verdict : Verdict) (text : List ℕ) → Prints contents old new (record { bytes = memory_line; status = status.Fault }) result → says_refused verdict text
  refused_memory verdict text p = (record { bytes = memory_line; status = status.Fault }, inr refl, p)

  pub refused_further : (verdict : Verdict) (text line : List ℕ) (found : List Place) (said : Status) → says_unlawful (Err verdict) ≡ true → IsFoundIn text found → line ≡ losses_line found → said ≡ verdict_status verdict
      → Prints contents old new (record { bytes = verdict_line verdict ++ line; status = said }) result → says_refused verdict text
  refused_further verdict text line found said is right are status_is p = (
    with_further (checked (Err verdict)) (losses_line found),
    inl (found, right, sym (with_more (Err verdict) found is)),
    subst (λ l. Prints contents old new (record { bytes = verdict_line verdict ++ l; status = verdict_status verdict }) result) are
        (subst (λ s. Prints contents old new (record { bytes = verdict_line verdict ++ line; status = s }) result) status_is p),
  )

  -- ---- what is said of a run

  module _ {R : Type 0} (remaining : R → Option (List ℕ)) (unread read : R × Bool) where
    abbrev runs : Type 0
    runs = Runs remaining contents IsCheckedWithLosses unread read old new result

    abbrev consumes : List ℕ → Type 0
    consumes text = Consumes (remaining unread.0) (remaining read.0) text

    pub runs_failed : (before items text : List ℕ) → before ≡ [] → text ≡ items → consumes (appended_bytes before items) → read.1 ≡ true
        → Prints contents old new (checked (Err (Capture (Read (1 + newlines text))))) result → runs
    runs_failed before items text none are consumed failed p = record {
      said = (
        items,
        checked (Err (Capture (Read (1 + newlines items)))),
        subst consumes (appended_none before items none) consumed,
        record { whole = λ clean. absurd (false≢true (sym clean ∙ failed)); failed = λ _. refl },
        subst (λ t. Prints contents old new (checked (Err (Capture (Read (1 + newlines t))))) result) are p,
      );
      whole = λ whole tells clean. absurd (false≢true (sym clean ∙ failed));
    }

    pub runs_memory : (before items : List ℕ) → consumes (appended_bytes before items) → read.1 ≡ false
        → Prints contents old new (record { bytes = memory_line; status = status.Fault }) result → runs
    runs_memory before items consumed clean p = record {
      said = (
        appended_bytes before items,
        record { bytes = memory_line; status = status.Fault },
        consumed,
        record { whole = λ _. inr refl; failed = λ failed. absurd (false≢true (sym clean ∙ failed)) },
        p,
      );
      whole = λ whole tells _. (record { bytes = memory_line; status = status.Fault }, record { whole = λ _. inr refl; failed = λ failed. absurd (false≢true failed) }, p);
    }

    whole_told : (left : Option (List ℕ)) (text : List ℕ) (output : Output) → IsAtEnd left → IsToldWithLosses text output → (IsAtEnd left × IsToldOf text output) ⊎ SaysMemory output
    whole_told left text output end p = elim p [
      | inl told ↦ inl (end, told)
      | inr memory ↦ inr memory
    ]

    pub runs_told : {A E : Type 0} (r : Result A E) (before items text : List ℕ) → before ≡ [] → text ≡ items → is_err r ≡ false → consumes (appended_bytes before items)
        → OnOk r (IsAtEnd (remaining read.0)) → read.1 ≡ false → (output : Output) × IsToldWithLosses text output × Prints contents old new output result → runs
    runs_told r before items text none are ok consumed end clean told =
        let all : consumes items = subst consumes (appended_none before items none) consumed in
        let ended : IsAtEnd (remaining read.0) = on_ok r (IsAtEnd (remaining read.0)) ok end in
        let of : IsToldWithLosses items told.0 = subst (λ t. IsToldWithLosses t told.0) are told.1 in
        record {
          said = (
            items,
            told.0,
            all,
            record { whole = λ _. whole_told (remaining read.0) items told.0 ended of; failed = λ failed. absurd (false≢true (sym clean ∙ failed)) },
            told.2,
          );
          whole = λ whole tells _. (
              let same : items ≡ whole = whole_text (remaining read.0) whole items (subst (λ known. Consumes known (remaining read.0) items) tells all) ended in (
                told.0,
                record {
                  whole = λ _. whole_told (Some []) whole told.0 refl (subst (λ t. IsToldWithLosses t told.0) same of);
                  failed = λ failed. absurd (false≢true failed);
                },
                told.2,
              )
              );
        }
