-- A reader of frames goes on from one history to the next.
use Rattle.std.proofs.Common.{◌≡◌, ◌≢◌, ◌<◌, ◌≤◌, ◌⊎◌, inl, inr, ℕ, ◌+◌, List, [], ◌∷◌, ◌++◌, length, length-append, refl, sym, ap, ◌∙◌, subst, append_assoc, arith, Option, Some, None, true, false, Ok, Err}
use Rattle.std.specs.Io.KnownBytes.{prepend_known, Consumes, IsAtEnd}
use Rattle.std.proofs.KnownBytes.{Consumes-nil, prepend_known-nil}
use Rattle.net_pcap.specs.{FrameParts, Announces, Says, Mode, Stands, start, given, said_of, next_mode, PiecesState, StepEnds, FailsToBegin, FillTells, ReaderState, RunsOut, StandsFor, Continues, Found, Unopened, FaultKind, Memory, NotARecording}
use Rattle.net_streams.specs.{Failed, Open, Over}
use Rattle.net_pcap.specs.declared.found.Found.TheVariants as found
use Rattle.net_pcap.specs.declared.layout.Layout.TheVariants.{Classic, Blocks}
use Rattle.net_pcap.proofs.Steps.{reach_said}

nothing : Stands [] start 0 []
nothing = record { pieces = []; are = refl; follows = (refl, refl); counted = refl }

-- a header gives no frame
opening : (f : Found) (piece taken : List ℕ) → Says Unopened [] taken (said_of f piece) → given (said_of f piece) ≡ []
opening (found.Opens layout) piece taken says = refl
opening _ piece taken says = absurd says

opening_opens : (f : Found) (piece taken : List ℕ) → Says Unopened [] taken (said_of f piece) → (next_mode start (said_of f piece)).layout ≢ Unopened
opening_opens (found.Opens (Classic classic)) piece taken says = λ e. let x : ⊥ = cc in x
opening_opens (found.Opens (Blocks order)) piece taken says = λ e. let x : ⊥ = cc in x
opening_opens _ piece taken says = absurd says

rest_ahead : (before after : Option (List ℕ)) (taken ahead : List ℕ) → Consumes before (prepend_known ahead after) taken → Consumes before after (taken ++ ahead)
rest_ahead None after taken ahead c = tt
rest_ahead (Some x) None taken ahead c = absurd c
rest_ahead (Some x) (Some y) taken ahead c = c ∙ sym (append_assoc taken ahead y)

module _ (state new : PiecesState) (before after : Option (List ℕ)) (piece : List ℕ) (none : state.ahead ≡ []) (mode : state.mode ≡ start) (count : state.count ≡ 0) where
  goes : Stands ([] ++ []) state.mode state.count []
  goes = subst (λ (m : Mode). Stands [] m state.count []) (sym mode) (subst (λ (n : ℕ). Stands [] start n []) (sym count) nothing)

  from_start : Consumes before (prepend_known state.ahead before) []
  from_start = subst (λ (k : Option (List ℕ)). Consumes before k []) (sym (ap (λ a. prepend_known a before) none ∙ prepend_known-nil before)) (Consumes-nil before)

  pub begins_ok : (f : Found) → (taken : List ℕ) × Consumes (prepend_known state.ahead before) after taken × StepEnds state new (Ok (Some f)) piece taken
      → (taken : List ℕ) × Consumes before after taken × (Stands taken new.mode new.count [] × (length {A = FrameParts} [] ≡ 0))
  begins_ok f (taken, consumed, ends) =
      let reached = reach_said [] [] taken piece [] state new before _ after from_start goes consumed f ends in
      let says = subst (λ (m : Mode). Says m.layout m.interfaces taken (said_of f piece)) mode ends.0 in
      (reached.0, reached.1, (subst (Stands reached.0 new.mode new.count) (opening f piece taken says) reached.2, refl))

  pub begins_opened : (f : Found) → (taken : List ℕ) × Consumes (prepend_known state.ahead before) after taken × StepEnds state new (Ok (Some f)) piece taken → new.mode.layout ≢ Unopened
  begins_opened f (taken, consumed, ends) =
      let says = subst (λ (m : Mode). Says m.layout m.interfaces taken (said_of f piece)) mode ends.0 in
      let next : new.mode ≡ next_mode start (said_of f piece) = ends.1 ∙ ap (λ (m : Mode). next_mode m (said_of f piece)) mode in
      subst (λ (m : Mode). m.layout ≢ Unopened) (sym next) (opening_opens f piece taken says)

  pub begins_none : {A : Type 0} → (taken : List ℕ) × Consumes (prepend_known state.ahead before) after taken × StepEnds state new (Ok None) piece taken → A
  begins_none (taken, consumed, ends) = absurd (ends.1 (ap (λ (m : Mode). m.layout) mode))

  pub begins_err : (kind : FaultKind) (ahead : List ℕ) (end : Option (List ℕ)) → after ≡ prepend_known ahead end → (taken : List ℕ) × Consumes (prepend_known state.ahead before) after taken × StepEnds state new (Err kind) piece taken
      → (kind ≡ NotARecording → IsAtEnd after ⊎ (12 ≤ length piece)) → FailsToBegin before end (record { kind = kind; frame = 1 })
  begins_err kind ahead end is (taken, consumed, ends) text =
      let direct : Consumes before after taken = subst (λ (k : Option (List ℕ)). Consumes k after taken) (ap (λ a. prepend_known a before) none ∙ prepend_known-nil before) consumed in
      record {
        taken = taken;
        ahead = ahead;
        consumed = rest_ahead before end taken ahead (subst (λ (k : Option (List ℕ)). Consumes before k taken) is direct);
        tells = record { fails = record { good = []; part = taken; mode = state.mode; count = state.count; are = refl; stands = goes; rest = ends.0 }; number = refl };
        text = λ h. elim (text h) as (λ _. IsAtEnd (prepend_known ahead end) ⊎ (12 ≤ length taken)) [ inl e ↦ inl (subst IsAtEnd is e) | inr long ↦ inr (subst (λ (l : List ℕ). 12 ≤ length l) (sym (ends.1 (inl h))) long) ];
      }

consumes_nothing : (r : Option (List ℕ)) → Consumes r r ([] ++ [])
consumes_nothing None = tt
consumes_nothing (Some x) = refl

no_size : (size : ℕ) → Announces Unopened [] size → length {A = ℕ} [] < size
no_size size announced = let long = announced.0 in absurd (omega arith)

no_recording : Memory ≡ NotARecording → ⊥
no_recording e = cc

-- memory was refused before anything was read
pub refused_at_once : (r : Option (List ℕ)) → FailsToBegin r r (record { kind = Memory; frame = 1 })
refused_at_once r = record {
  taken = [];
  ahead = [];
  consumed = consumes_nothing r;
  tells = record { fails = record { good = []; part = []; mode = start; count = 0; are = refl; stands = nothing; rest = inl no_size }; number = refl };
  text = λ h. absurd (no_recording h);
}

-- ---- the next frame

module _ (old : ReaderState) (pieces new : PiecesState) (count : ℕ) (before after : Option (List ℕ)) (parts : FrameParts) (bytes : List ℕ) (frames : List FrameParts)
    (is : record { pieces = pieces; count = count; standing = Open } ≡ old) (stands : StandsFor old bytes frames) where
  open_now : Stands bytes pieces.mode pieces.count frames × (count ≡ length frames)
  open_now = subst (λ (r : ReaderState). StandsFor r bytes frames) (sym is) stands

  ahead_is : prepend_known pieces.ahead before ≡ prepend_known old.pieces.ahead before
  ahead_is = ap (λ (r : ReaderState). prepend_known r.pieces.ahead before) is

  consumed_now : (taken : List ℕ) → Consumes (prepend_known pieces.ahead before) (prepend_known new.ahead after) taken → Consumes (prepend_known old.pieces.ahead before) (prepend_known new.ahead after) taken
  consumed_now taken c = subst (λ (k : Option (List ℕ)). Consumes k (prepend_known new.ahead after) taken) ahead_is c

  pub continues_frame : ((more : List ℕ) (given_before : List FrameParts) → Stands more pieces.mode pieces.count given_before
      → (taken : List ℕ) × Consumes (prepend_known pieces.ahead before) (prepend_known new.ahead after) taken × FillTells (Ok true) new parts (more ++ taken) given_before)
      → Continues (record { pieces = new; count = count + 1; standing = Open }) (prepend_known old.pieces.ahead before) (prepend_known new.ahead after) (Ok true) parts bytes frames
  continues_frame tells =
      let (taken, consumed, goes) = tells bytes frames open_now.0 in
      record { taken = taken; consumed = consumed_now taken consumed; stands = (goes, omega (arith, open_now.1, length-append {A = FrameParts} frames (parts ∷ []))) }

  pub continues_end : ((more : List ℕ) (given_before : List FrameParts) → Stands more pieces.mode pieces.count given_before
      → (taken : List ℕ) × Consumes (prepend_known pieces.ahead before) (prepend_known new.ahead after) taken × FillTells (Ok false) new parts (more ++ taken) given_before)
      → Continues (record { pieces = new; count = count; standing = Over }) (prepend_known old.pieces.ahead before) (prepend_known new.ahead after) (Ok false) parts bytes frames
  continues_end tells =
      let (taken, consumed, goes) = tells bytes frames open_now.0 in
      record { taken = taken; consumed = consumed_now taken consumed; stands = goes }

  pub continues_fault : (kind : FaultKind) → ((more : List ℕ) (given_before : List FrameParts) → Stands more pieces.mode pieces.count given_before
      → (taken : List ℕ) × Consumes (prepend_known pieces.ahead before) (prepend_known new.ahead after) taken × FillTells (Err kind) new parts (more ++ taken) given_before)
      → Continues (record { pieces = new; count = count; standing = Failed (record { kind = kind; frame = count + 1 }) }) (prepend_known old.pieces.ahead before) (prepend_known new.ahead after) (Err (record { kind = kind; frame = count + 1 })) parts bytes frames
  continues_fault kind tells =
      let (taken, consumed, goes) = tells bytes frames open_now.0 in
      record { taken = taken; consumed = consumed_now taken consumed; stands = (record { fails = goes.0; number = ap (λ n. n + 1) open_now.1 }, goes.1) }

  pub short_fault : (room : ℕ) → ((more : List ℕ) (given_before : List FrameParts) → Stands more pieces.mode pieces.count given_before
      → (taken : List ℕ) × Consumes (prepend_known pieces.ahead before) (prepend_known new.ahead after) taken × RunsOut room pieces.room (more ++ taken) given_before)
      → (taken : List ℕ) × Consumes (prepend_known old.pieces.ahead before) (prepend_known new.ahead after) taken × RunsOut room old.pieces.room (bytes ++ taken) frames
  short_fault room wants =
      let (taken, consumed, out) = wants bytes frames open_now.0 in
      (taken, consumed_now taken consumed, subst (λ (r : ReaderState). RunsOut room r.pieces.room (bytes ++ taken) frames) is out)
