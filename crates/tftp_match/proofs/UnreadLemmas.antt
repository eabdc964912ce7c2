-- Why a capture is not read.
use Rattle.std.proofs.Common.{◌≡◌, ◌++◌, inl, inr, ℕ, List, [], Option, Some, None, IfErr, IfOk, IfSome, Result, Ok, Err, ap, append-nil, append_assoc, refl, subst, sym, ◌∙◌}
use Rattle.std.specs.Io.KnownBytes.{Consumes, IsAtEnd}
use Rattle.std.proofs.KnownBytes.{Consumes-trans}
use Rattle.net_streams.specs.Streams.{standing_after}
use Rattle.tftp_capture.specs.{CaptureFault, Continues, FailsToBegin, FaultTells, HasFault, IsAtTextEnd, ReaderState, StandingTells, filled_if}
use Rattle.tftp_capture.specs.declared.datagram.Datagram.{Datagram as Owned}
use Rattle.tftp_capture.specs.declared.fault.CaptureFault.TheVariants.{Text, Read, Memory}
use Rattle.tftp_capture.proofs.Staying.{stays}
use Rattle.tftp_judge.proofs.FirstFaults.{fault_kinds}
use Rattle.tftp_judge.proofs.TextFound.{rest_of}
use Rattle.audit_recording.specs.Session.Opened.{IsReadFaultOf}
use Rattle.audit_recording.specs.declared.session.fault.ReadFault.{ReadFault}
use Rattle.tftp_match.specs.Unread.{IsTextFault}
use Rattle.tftp_match.proofs.CapturesLemmas.{whole_read}

-- ---- a text's fault

-- a fault of the bytes that were taken is the text's: it stays whatever follows, or nothing does
fault_of_text : (text taken more : List ℕ) (after : Option (List ℕ)) (fault : CaptureFault) → Consumes (Some text) after (taken ++ more) → FaultTells fault taken [] → (IsAtTextEnd fault → more ≡ []) → (IsAtTextEnd fault → IsAtEnd after) → IsTextFault text fault
fault_of_text text taken more after (Read line) consumed tells none end = tt
fault_of_text text taken more after (Memory line) consumed tells none end = tt
fault_of_text text taken more after (Text line fault) consumed tells none end =
    let (rest, left, are) = rest_of after text (taken ++ more) consumed in
    elim (fault_kinds (Text line fault)) as (λ _. HasFault text [] line fault) [
      | inl other ↦ subst (λ t. HasFault t [] line fault) (sym (are ∙ append_assoc taken more rest)) (stays taken (more ++ rest) [] line fault other tells)
      | inr (inl cut) ↦ subst (λ t. HasFault t [] line fault) (sym (whole_read text (taken ++ more) after consumed (end cut) ∙ ap (λ l. taken ++ l) (none cut) ∙ append-nil taken)) tells
      | inr (inr reads) ↦ absurd reads
    ]

-- its header was not read
pub not_begun : (text : List ℕ) (after : Option (List ℕ)) (fault : CaptureFault) → FailsToBegin (Some text) after fault → (IsAtTextEnd fault → IsAtEnd after) → IsTextFault text fault
not_begun text after fault fails end = fault_of_text text fails.taken fails.ahead after fault fails.consumed fails.tells fails.ended end

-- its first datagram was not read
pub not_given : (text taken : List ℕ) (mid after : Option (List ℕ)) (old new : ReaderState) (fault : CaptureFault) (d : Owned) → Consumes (Some text) mid taken → Continues old new mid after (filled_if (Err fault) d) taken [] → new.standing ≡ standing_after (Err fault)
    → (IsAtTextEnd fault → IsAtEnd after) → IsTextFault text fault
not_given text taken mid after old new fault d first goes failed end =
    let all : List ℕ = taken ++ goes.taken in
    let tells : FaultTells fault all [] = subst (λ s. StandingTells s new all []) failed goes.stands in
    fault_of_text text all [] after fault (subst (Consumes (Some text) after) (sym (append-nil all)) (Consumes-trans (Some text) mid after taken goes.taken first goes.consumed)) tells (λ cut. refl) end

-- ---- a recording's fault

-- what fails of all that a file held fails of it
pub fault_of_file : (file held : Option (List ℕ)) (fault : ReadFault) → IfSome file (λ bytes. held ≡ Some bytes) → IsReadFaultOf held fault → IsReadFaultOf file fault
fault_of_file (Some bytes) held fault is why = subst (λ h. IsReadFaultOf h fault) is why
fault_of_file None held (ReadFault.NoRecording words) is (left, fault, fails, same) = (left, fault, record { taken = fails.taken; ahead = fails.ahead; consumed = tt; tells = fails.tells; text = fails.text }, same)
fault_of_file None held (ReadFault.Format kind) is (left, fault, fails, same) = (left, fault, record { taken = fails.taken; ahead = fails.ahead; consumed = tt; tells = fails.tells; text = fails.text }, same)
fault_of_file None held (ReadFault.Memory frame) is (inl none) = inl none
fault_of_file None held (ReadFault.Memory frame) is (inr (history, (recording, bytes, left, consumed, stands), many)) = inr (history, (recording, bytes, left, tt, stands), many)
fault_of_file None held ReadFault.TooMany is (history, (recording, bytes, left, consumed, stands), many) = (history, (recording, bytes, left, tt, stands), many)

-- ---- what is told

-- where nothing is there, the fault was told
pub unread_is : {A F E : Type 0} (outcome : Result A F) (result : Result (Option A) E) (IsOne T : F → Type 0) (Same : Type 0) → ((value : A) → outcome ≡ Ok value → (result ≡ Ok (Some value)) × Same) → IfErr outcome (λ f. IfOk result (λ found. (found ≡ None) × T f))
    → result ≡ Ok None → IfErr outcome IsOne → (f : F) × IsOne f × T f
unread_is (Ok v) result IsOne T Same some none is why = let both = sym is ∙ (some v refl).0 in absurd (cc)
unread_is (Err f) result IsOne T Same some none is why = (f, why, (subst (λ r. IfOk r (λ found. (found ≡ None) × T f)) is none).1)
