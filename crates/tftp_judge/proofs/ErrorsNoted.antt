-- What is kept of ERRORs after one more.
use Rattle.std.proofs.Common.{◌≡◌, ◌⊎◌, ℕ, true, List, ◌∷◌, Option, Some, None, inl, inr, refl, sym, subst, ap, ◌∙◌, is_some}
use Rattle.std.proofs.lemmas.Bool.{cases_eq}
use Rattle.tftp_packet.specs.{Message}
use Rattle.tftp_packet.specs.Hosts.{Datagram}
use Rattle.tftp_packet.specs.{Dir, In, Out}
use Rattle.law_model.specs.Rules.{Passed}
use Rattle.tftp_ends.specs.{Says}
use Rattle.tftp_ends.proofs.Passing.{another_way, stopped_out, stopped_with}
use Rattle.tftp_packet.proofs.HostsLemmas.Ways.{in_not_out, out_not_in}
use Rattle.law_end.specs.{by_of, GoesOn, AbortedBy, Local, Peer, IsErrorBy, IsFirstError}
use Rattle.law_end.proofs.Soundness.SameOrNot.{same_text}
use Rattle.law_end.proofs.Spelled.{spelled_once}
use Rattle.tftp_judge.specs.{ErrorText, Errors, IsErrorOf, AreErrors}

-- where nothing is kept this is, and else what was kept
abbrev pub KeepsFirst : {X : Type 0} → Option X → Option X → X → Type 0
KeepsFirst old new x = (old ≡ None → new ≡ Some x) × ((y : _) → old ≡ Some y → new ≡ Some y)

code_is : (code other : ℕ) (text words : List ℕ) → Message.Error code text ≡ Message.Error other words → code ≡ other
code_is code other text words e = cc

text_is : (code other : ℕ) (text words : List ℕ) → Message.Error code text ≡ Message.Error other words → text ≡ words
text_is code other text words e = cc

module _ (passed : List Datagram) (d : Datagram) (dir : Dir) (code : ℕ) (text : List ℕ) (says : Says d dir (Message.Error code text)) where
  is_now : (c : ℕ) (t : List ℕ) → Passed dir (Message.Error c t) (d ∷ passed) → (Message.Error c t ≡ Message.Error code text) ⊎ Passed dir (Message.Error c t) passed
  is_now c t (inl now) = inl (spelled_once d.payload (Message.Error c t) (Message.Error code text) now.1 says.1)
  is_now c t (inr before) = inr before

  -- an end that does not go on has sent this ERROR, if any
  same_error : (error : ErrorText) → Passed dir (Message.Error error.0 error.1) passed → (GoesOn passed dir (Message.Error code text) → ⊥) → Message.Error code text ≡ Message.Error error.0 error.1
  same_error error p ended = elim (cases_eq code error.0) [
    | inl codes ↦ elim (same_text text error.1) [
      | inl texts ↦ ap (λ n. Message.Error n text) codes ∙ ap (Message.Error error.0) texts
      | inr differs ↦ absurd (goes_on (λ e. differs (text_is code error.0 text error.1 e)))
    ]
    | inr differs ↦ absurd (goes_on (λ e. differs (code_is code error.0 text error.1 e)))
  ]
    where
      goes_on : (Message.Error code text ≡ Message.Error error.0 error.1 → ⊥) → ⊥
      goes_on other = ended (Message.Error error.0 error.1, (error.0, error.1, refl), p, other, inr (code, text, refl))

  error_noted : (old new : Option ErrorText) → IsErrorOf dir passed old → (GoesOn passed dir (Message.Error code text) → ⊥) → KeepsFirst old new (code, text) → IsErrorOf dir (d ∷ passed) new
  error_noted None new none ended keeps = subst (IsErrorOf dir (d ∷ passed)) (sym (keeps.0 refl)) (
    inl says,
    λ c t p. elim (is_now c t p) [
      | inl now ↦ (code_is c code t text now, text_is c code t text now)
      | inr before ↦ absurd (none c t before)
    ],
  )
  error_noted (Some error) new is ended keeps = subst (IsErrorOf dir (d ∷ passed)) (sym (keeps.1 error refl)) (
    inr is.0,
    λ c t p. elim (is_now c t p) [
      | inl now ↦ let same = now ∙ same_error error is.0 ended in (code_is c error.0 t error.1 same, text_is c error.0 t error.1 same)
      | inr before ↦ is.1 c t before
    ],
  )

  error_other : (way : Dir) → (dir ≡ way → ⊥) → (old new : Option ErrorText) → IsErrorOf way passed old → new ≡ old → IsErrorOf way (d ∷ passed) new
  error_other way other None new none same = subst (IsErrorOf way (d ∷ passed)) (sym same) (λ c t p. none c t (another_way d dir way (Message.Error code text) (Message.Error c t) passed says other p))
  error_other way other (Some error) new is same =
      subst (IsErrorOf way (d ∷ passed)) (sym same) (inr is.0, λ c t p. is.1 c t (another_way d dir way (Message.Error code text) (Message.Error c t) passed says other p))

  first_noted : (old new : Option (AbortedBy × ℕ)) → IsFirstError IsErrorBy passed old → KeepsFirst old new (by_of dir, code) → IsFirstError IsErrorBy (d ∷ passed) new
  first_noted None new none keeps = subst (IsFirstError IsErrorBy (d ∷ passed)) (sym (keeps.0 refl)) (inr (none, (ap by_of says.0, text, says.1)))
  first_noted (Some error) new first keeps = subst (IsFirstError IsErrorBy (d ∷ passed)) (sym (keeps.1 error refl)) (inl first)

some_kept : {X : Type 0} (old new : Option X) (x : X) → KeepsFirst old new x → true ≡ is_some new
some_kept None new x keeps = sym (ap is_some (keeps.0 refl))
some_kept (Some y) new x keeps = sym (ap is_some (keeps.1 y refl))

module _ (old new : Errors) (passed : List Datagram) (d : Datagram) (code : ℕ) (text : List ℕ) (are : AreErrors old passed) where
  pub noted_out : Says d Out (Message.Error code text) → (GoesOn passed Out (Message.Error code text) → ⊥)
      → KeepsFirst old.sent new.sent (code, text) → new.heard ≡ old.heard → KeepsFirst old.first new.first (Local, code) → AreErrors new (d ∷ passed)
  noted_out says ended sent heard first = record {
    sent = error_noted passed d Out code text says old.sent new.sent are.sent ended sent;
    heard = error_other passed d Out code text says In out_not_in old.heard new.heard are.heard heard;
    first = first_noted passed d Out code text says old.first new.first are.first first;
    stopped = stopped_out d passed says.0 ∙ are.stopped ∙ ap is_some (sym heard);
  }

  pub noted_in : Says d In (Message.Error code text) → (GoesOn passed In (Message.Error code text) → ⊥)
      → new.sent ≡ old.sent → KeepsFirst old.heard new.heard (code, text) → KeepsFirst old.first new.first (Peer, code) → AreErrors new (d ∷ passed)
  noted_in says ended sent heard first = record {
    sent = error_other passed d In code text says Out in_not_out old.sent new.sent are.sent sent;
    heard = error_noted passed d In code text says old.heard new.heard are.heard ended heard;
    first = first_noted passed d In code text says old.first new.first are.first first;
    stopped = stopped_with d (Message.Error code text) passed says ∙ some_kept old.heard new.heard (code, text) heard;
  }
