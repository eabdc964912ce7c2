-- What is known of a text by its header, and of one that has none.
use Rattle.std.proofs.Common.{◌≡◌, inl, inr, ℕ, Bool, false, List, [], ◌∷◌, ◌++◌, length, Option, None, Some, Err, refl, sym, ap, ◌∙◌, subst, arith, append_assoc, append-nil}
use Rattle.std.specs.Io.KnownBytes.{Consumes, IsAtEnd, prepend_known}
use Rattle.tftp_packet.specs.{End, Rollover}
use Rattle.tftp_capture.specs.{Begins, BeginsWith, HasFault, Numbered, FailsToBegin, GoesOn, IsAtTextEnd, ReaderState, CaptureFault}
use Rattle.net_streams.specs.{Open}
use Rattle.tftp_capture.specs.declared.fault.CaptureFault.TheVariants.{Text, Read, Memory}
use Rattle.tftp_capture.proofs.Beginnings.{agree, begins_more, fault_after}
use Rattle.tftp_capture.proofs.Staying.{stays}
use Rattle.tftp_packet.specs.Hosts.{Header}
use Rattle.tftp_judge.specs.{Capture}
use Rattle.tftp_judge.proofs.FirstFaults.{fault_kinds}
use Rattle.tftp_judge.proofs.TextFound.{rest_of}
use Rattle.judge_pair.specs.MatchTexts.{AreReadAs, HasBegun, IsStopped, NamesEnd}
use Rattle.judge_pair.proofs.MatchTextsLemmas.Fronts.{all_of}

none_read : (rollover : Option Rollover) (h : Header) → AreReadAs rollover h [] []
none_read None h = refl
none_read (Some r) h = tt

module _ (rollover : Option Rollover) where
  pub has_begun : (before after : Option (List ℕ)) (failed : Bool) (reader : ReaderState) (taken : List ℕ) → Consumes before (prepend_known reader.lines.ahead after) taken → GoesOn reader.header reader.lines reader.count taken [] → reader.standing ≡ Open → failed ≡ false
      → HasBegun rollover before after failed reader
  has_begun before after failed reader taken consumed on ready clean = record {
    ready = ready;
    clean = clean;
    header = refl;
    has = record { taken = taken; datagrams = []; consumed = consumed; goes_on = on; is = none_read rollover reader.header };
  }

  pub header_of_text : (before after : Option (List ℕ)) (failed : Bool) (reader : ReaderState) → HasBegun rollover before after failed reader → (text : List ℕ) → before ≡ Some text → (h : Header) (ds : List Numbered) → Begins text h ds → h ≡ reader.header
  header_of_text before after failed reader begun text is h ds begins =
      let has = begun.has in
      let (more, left, are) = rest_of (prepend_known reader.lines.ahead after) text has.taken (subst (λ b. Consumes b (prepend_known reader.lines.ahead after) has.taken) is has.consumed) in
      (agree text h reader.header ds has.datagrams begins (subst (λ t. Begins t reader.header has.datagrams) (sym are) (begins_more has.taken more has.goes_on.lines reader.header has.datagrams has.goes_on.stands))).0

  pub names_end : (before after : Option (List ℕ)) (failed : Bool) (reader : ReaderState) (e : End) → HasBegun rollover before after failed reader → reader.header.named ≡ e → NamesEnd before e
  names_end before after failed reader e begun named = λ text is h ds begins. ap (λ (x : Header). x.named) (header_of_text before after failed reader begun text is h ds begins) ∙ named

-- ---- no header was read

none_before : (ds : List Numbered) → BeginsWith [] ds → ds ≡ []
none_before [] front = refl
none_before (d ∷ ds) (rest, is) = absurd (omega (arith, ap length is))

pub is_stopped : (before after : Option (List ℕ)) (fault : CaptureFault) → FailsToBegin before after fault → (IsAtTextEnd fault → IsAtEnd after) → IsStopped before (Err (Capture fault))
is_stopped before after (Read line) fails end of = absurd of
is_stopped before after (Memory line) fails end of = absurd of
is_stopped before after (Text line fault) fails end of = (
  tt,
  λ text is h ds begins.
      let c = subst (λ b. Consumes b after (fails.taken ++ fails.ahead)) is fails.consumed in
      let (rest, left, are) = rest_of after text (fails.taken ++ fails.ahead) c in
      let broken : HasFault text [] line fault =
      elim (fault_kinds (Text line fault)) as (λ _. HasFault text [] line fault) [
        | inl other ↦ subst (λ t. HasFault t [] line fault) (sym (are ∙ append_assoc fails.taken fails.ahead rest)) (stays fails.taken (fails.ahead ++ rest) [] line fault other fails.tells)
        | inr (inl cut) ↦
            subst (λ t. HasFault t [] line fault) (sym (all_of after text (fails.taken ++ fails.ahead) c (end cut) ∙ ap (λ l. fails.taken ++ l) (fails.ended cut) ∙ append-nil fails.taken)) fails.tells
        | inr (inr reads) ↦ absurd reads
      ] in
      none_before ds (fault_after text h [] ds line fault broken begins),
)

-- ---- nothing was read, for memory was wanting before

pub not_begun : (before : Option (List ℕ)) → FailsToBegin before before (Memory 1)
not_begun before = record {
  taken = [];
  ahead = [];
  consumed = none_taken before;
  tells = tt;
  drained = λ h. refl;
  ended = λ h. refl;
  near = omega arith;
  memory = (refl, refl, refl);
} where
  none_taken : (b : Option (List ℕ)) → Consumes b b []
  none_taken None = tt
  none_taken (Some text) = refl
