-- What a writer was given, piece by piece.
use Rattle.std.proofs.Common.{◌≡◌, ℕ, List, [], ◌++◌, Bool, true, false, true≢false, Option, Some, None, Result, Ok, Err, refl, sym, ap, ◌∙◌, subst, append-nil}
use Rattle.std.proofs.KnownBytes.{Appends-nil}
use Rattle.net_streams.specs.Streams.{Added, Gathers, IsFresh, Sink, Stops, Writes, Wrote}
use Rattle.net_streams.proofs.StreamsLemmas.Gathering.{gathers_written, prefix_after}
use Rattle.tftp_commands.specs.{IsWritten, Output, Prints, Status}
use Rattle.tftp_commands.specs.declared.status.Status.TheVariants as status

-- bytes were gathered, and then what waited was written, and more
pub written_after : (c0 c1 c2 : Option (List ℕ)) (failed : Bool) (h0 h1 bytes last : List ℕ) (status result : Status) → Gathers c0 c1 h0 h1 bytes
    → IsWritten c1 c2 failed (record { bytes = h1 ++ last; status = status }) result → IsWritten c0 c2 failed (record { bytes = h0 ++ (bytes ++ last); status = status }) result
written_after c0 c1 c2 false h0 h1 bytes last status result p q = (gathers_written c0 c1 c2 h0 h1 bytes last p q.0, q.1)
written_after c0 c1 c2 true h0 h1 bytes last status result p q = (prefix_after c0 c1 c2 h0 h1 bytes last p q.0, q.1)

-- bytes were gathered, and then all that waited was written
pub written_all : (c0 c1 c2 : Option (List ℕ)) (failed : Bool) (h0 h1 bytes : List ℕ) (status result : Status) → Gathers c0 c1 h0 h1 bytes
    → IsWritten c1 c2 failed (record { bytes = h1; status = status }) result → IsWritten c0 c2 failed (record { bytes = h0 ++ bytes; status = status }) result
written_all c0 c1 c2 failed h0 h1 bytes status result p q =
    let wide : IsWritten c1 c2 failed (record { bytes = h1 ++ []; status = status }) result = subst (λ (l : List ℕ). IsWritten c1 c2 failed (record { bytes = l; status = status }) result) (sym (append-nil h1)) q in
    subst (λ (l : List ℕ). IsWritten c0 c2 failed (record { bytes = h0 ++ l; status = status }) result) (append-nil bytes) (written_after c0 c1 c2 failed h0 h1 bytes [] status result p wide)

module _ {W : Type 0} (contents : W → Option (List ℕ)) (s t : Sink W) where
  -- an output of these bytes
  abbrev printing : Sink W → Sink W → List ℕ → Status → Status → Type 0
  printing old new bytes said result = Prints contents old new (record { bytes = bytes; status = said }) result

  -- what waited was written, and then the bytes
  pub printed : (bytes : List ℕ) (said : Status) → Wrote contents s t bytes → printing s t (s.waits ++ bytes) said said
  printed bytes said p = (subst (λ b. IsWritten (contents s.inner) (contents t.inner) b (record { bytes = s.waits ++ bytes; status = said }) said) (sym p.1) (p.3, refl), λ _. p.2)

  -- or a part of these was
  pub cut : (bytes : List ℕ) (said : Status) → s.failed ≡ false → Stops contents s t bytes → printing s t (s.waits ++ bytes) said status.Fault
  cut bytes said clean p = (
    subst (λ b. IsWritten (contents s.inner) (contents t.inner) b (record { bytes = s.waits ++ bytes; status = said }) status.Fault) (sym p.failed) (p.part clean, refl),
    λ passed. absurd (true≢false (sym p.failed ∙ passed)),
  )

  -- however a call ends that writes bytes where nothing waited, and of which the status is that of a fault
  pub printed_fault : {E : Type 0} (r : Result (Unit {0}) E) (bytes : List ℕ) → IsFresh s → Writes contents s t r bytes → printing s t bytes status.Fault status.Fault
  printed_fault (Ok x) bytes fresh p = subst (λ l. printing s t (l ++ bytes) status.Fault status.Fault) fresh.0 (printed bytes status.Fault p)
  printed_fault (Err e) bytes fresh p = subst (λ l. printing s t (l ++ bytes) status.Fault status.Fault) fresh.0 (cut bytes status.Fault fresh.1 p)

  -- bytes were added, and then what waited was printed
  pub printed_after : (u : Sink W) (bytes : List ℕ) (said result : Status) → Added contents s t bytes → printing t u t.waits said result → printing s u (s.waits ++ bytes) said result
  printed_after u bytes said result p q = (written_all (contents s.inner) (contents t.inner) (contents u.inner) u.failed s.waits t.waits bytes said result p.2 q.0, q.1)

  -- ---- where no bytes were to come

  pub printed_waits : (said : Status) → Wrote contents s t [] → printing s t s.waits said said
  printed_waits said p = subst (λ l. printing s t l said said) (append-nil s.waits) (printed [] said p)

  pub cut_waits : (said : Status) → s.failed ≡ false → Stops contents s t [] → printing s t s.waits said status.Fault
  cut_waits said clean p = subst (λ l. printing s t l said status.Fault) (append-nil s.waits) (cut [] said clean p)

  -- ---- where nothing waited

  pub printed_fresh : (bytes : List ℕ) (said : Status) → IsFresh s → Wrote contents s t bytes → printing s t bytes said said
  printed_fresh bytes said fresh p = subst (λ l. printing s t (l ++ bytes) said said) fresh.0 (printed bytes said p)

  pub cut_fresh : (bytes : List ℕ) (said : Status) → IsFresh s → Stops contents s t bytes → printing s t bytes said status.Fault
  cut_fresh bytes said fresh p = subst (λ l. printing s t (l ++ bytes) said status.Fault) fresh.0 (cut bytes said fresh.1 p)

  pub after_fresh : (u : Sink W) (bytes : List ℕ) (said result : Status) → IsFresh s → Added contents s t bytes → printing t u t.waits said result → printing s u bytes said result
  after_fresh u bytes said result fresh p q = subst (λ l. printing s u (l ++ bytes) said result) fresh.0 (printed_after u bytes said result p q)

  -- nothing was to be printed
  pub printed_none : (said result : Status) → IsFresh s → t ≡ s → result ≡ said → printing s t [] said result
  printed_none said result fresh same is =
      let here : printing s s [] said result =
      (subst (λ b. IsWritten (contents s.inner) (contents s.inner) b (record { bytes = []; status = said }) result) (sym fresh.1) (Appends-nil (contents s.inner), is), λ _. fresh.0) in
      subst (λ w. printing s w [] said result) (sym same) here

-- an output is written in one way
pub written_once : (held : List ℕ) (new other : Option (List ℕ)) (output : Output) (status also : Status) → IsWritten (Some held) new false output status → IsWritten (Some held) other false output also
    → (new ≡ other) × (status ≡ also)
written_once held (Some xs) (Some ys) output status also one two = (ap Some (one.0 ∙ sym two.0), one.1 ∙ sym two.1)
written_once held None other output status also one two = absurd one.0
written_once held (Some xs) None output status also one two = absurd two.0
