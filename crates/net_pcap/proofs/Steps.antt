-- Pieces, one after another.
use Rattle.std.proofs.Common.{◌≡◌, ◌≤◌, ◌<◌, ◌^◌, inl, inr, ℕ, ◌+◌, List, length, [], ◌∷◌, ◌++◌, length-append, refl, sym, ap, ◌∙◌, subst, append_assoc, append-nil, arith, ◌⊎◌, Option, Some, None, Ok, Err, flat_map}
use Rattle.std.specs.Io.KnownBytes.{prepend_known, Consumes}
use Rattle.std.proofs.KnownBytes.{Consumes-trans}
use Rattle.std.proofs.lemmas.Grind.{flat_map-append}
use Rattle.net_pcap.specs.{FrameParts, Said, Says, Mode, Follows, Stands, IsRecordingTo, next_mode, given, said_of, FailsAfter, RunsOut, IsLonger, FrontEnds, RestEnds, Stops, PiecesState, StepEnds, WantsMemory, Found, Interface, FaultKind, NotARecording, Truncated, Bad, TooMany, Read, Memory}
use Rattle.net_pcap.specs.declared.found.Found.TheVariants as found

pub stops_of : (kind : FaultKind) (mode : Mode) (count : ℕ) (part : List ℕ) → FrontEnds mode.layout (Err kind) part → Stops kind mode count part
stops_of Bad mode count part h = inl h
stops_of TooMany mode count part h = absurd h
stops_of Memory mode count part h = inl h
stops_of _ mode count part h = h

follows_more : (mode end : Mode) (pieces : List (List ℕ)) (frames : List FrameParts) (piece : List ℕ) (said : Said) → Follows mode pieces end frames → Says end.layout end.interfaces piece said
    → Follows mode (pieces ++ piece ∷ []) (next_mode end said) (frames ++ given said)
follows_more mode end [] frames piece said (same, none) says =
    (said, [], subst (λ (m : Mode). Says m.layout m.interfaces piece said) same says, ap (λ l. l ++ given said) none ∙ sym (append-nil (given said)), (ap (λ (m : Mode). next_mode m said) same, refl))
follows_more mode end (p ∷ pieces) frames piece said (first, rest, one, are, more) says =
    (first, rest ++ given said, one, ap (λ l. l ++ given said) are ∙ append_assoc (given first) rest (given said), follows_more (next_mode mode first) end pieces rest piece said more says)

-- one piece more, and what it gives
pub stands_more : (bytes piece : List ℕ) (mode : Mode) (count : ℕ) (frames : List FrameParts) (said : Said) → Stands bytes mode count frames → Says mode.layout mode.interfaces piece said
    → Stands (bytes ++ piece) (next_mode mode said) (count + 1) (frames ++ given said)
stands_more bytes piece mode count frames said stands says =
    let joined : flat_map (λ p. p) (stands.pieces ++ piece ∷ []) ≡ flat_map (λ p. p) stands.pieces ++ piece = flat_map-append (λ p. p) stands.pieces (piece ∷ []) ∙ ap (λ x. flat_map (λ p. p) stands.pieces ++ x) (append-nil piece) in
    record {
      pieces = stands.pieces ++ piece ∷ [];
      are = ap (λ x. x ++ piece) stands.are ∙ sym joined;
      follows = follows_more _ mode stands.pieces frames piece said stands.follows says;
      counted = omega (arith, stands.counted, length-append {A = List ℕ} stands.pieces (piece ∷ []));
    }

-- the same facts of the value that the fields show
pub step_fails : (kind : FaultKind) (shown old : PiecesState) (before after : Option (List ℕ)) (piece : List ℕ) → shown ≡ old
    → Consumes (prepend_known shown.ahead before) after piece → FrontEnds shown.mode.layout (Err kind) piece
    → (taken : List ℕ) × Consumes (prepend_known old.ahead before) after taken × (Stops kind old.mode old.count taken × ((kind ≡ NotARecording) ⊎ (kind ≡ Memory) → taken ≡ piece))
step_fails kind shown old before after piece is consumed ends =
    (piece, subst (λ (s : PiecesState). Consumes (prepend_known s.ahead before) after piece) is consumed, (stops_of kind old.mode old.count piece (subst (λ (s : PiecesState). FrontEnds s.mode.layout (Err kind) piece) is ends), λ h. refl))

stops_rest : (kind : FaultKind) (mode : Mode) (count : ℕ) (piece taken : List ℕ) → RestEnds mode.layout mode.interfaces (Err kind) piece taken → Stops kind mode count taken × ((kind ≡ NotARecording) ⊎ (kind ≡ Memory) → taken ≡ piece)
stops_rest Truncated mode count piece taken h = (h, λ e. absurd (elim e as (λ _. ⊥) [ inl a ↦ (let x : ⊥ = cc in x) | inr a ↦ (let x : ⊥ = cc in x) ]))
stops_rest Bad mode count piece taken h = (h, λ e. absurd (elim e as (λ _. ⊥) [ inl a ↦ (let x : ⊥ = cc in x) | inr a ↦ (let x : ⊥ = cc in x) ]))
stops_rest Read mode count piece taken h = (h, λ e. absurd (elim e as (λ _. ⊥) [ inl a ↦ (let x : ⊥ = cc in x) | inr a ↦ (let x : ⊥ = cc in x) ]))
stops_rest Memory mode count piece taken h = (inl h.0, λ e. h.1)
stops_rest _ mode count piece taken h = absurd h

no_skip : (f : Found) (interface : Interface) (taken piece : List ℕ) → f ≡ found.Names interface → (f ≡ found.Skips) ⊎ (taken ≡ piece) → taken ≡ piece
no_skip f interface taken piece named (inl skips) = absurd (let x : ⊥ = cc in x)
no_skip f interface taken piece named (inr same) = same

-- the same once the rest of the piece was read
module _ (shown old : PiecesState) (before middle after : Option (List ℕ)) (front more piece : List ℕ) (is : shown ≡ old) (first : Consumes (prepend_known shown.ahead before) middle front) (second : Consumes middle after more) where
  all_of : Consumes (prepend_known old.ahead before) after (front ++ more)
  all_of = subst (λ (s : PiecesState). Consumes (prepend_known s.ahead before) after (front ++ more)) is (Consumes-trans (prepend_known shown.ahead before) middle after front more first second)

  pub rest_fails : (kind : FaultKind) → RestEnds shown.mode.layout shown.mode.interfaces (Err kind) piece (front ++ more)
      → (taken : List ℕ) × Consumes (prepend_known old.ahead before) after taken × (Stops kind old.mode old.count taken × ((kind ≡ NotARecording) ⊎ (kind ≡ Memory) → taken ≡ piece))
  rest_fails kind ends = (front ++ more, all_of, stops_rest kind old.mode old.count piece (front ++ more) (subst (λ (s : PiecesState). RestEnds s.mode.layout s.mode.interfaces (Err kind) piece (front ++ more)) is ends))

  pub rest_full : (f : Found) → RestEnds shown.mode.layout shown.mode.interfaces (Ok f) piece (front ++ more) → (interface : Interface) × (f ≡ found.Names interface)
      → (taken : List ℕ) × Consumes (prepend_known old.ahead before) after taken × (Stops Memory old.mode old.count taken × ((Memory ≡ NotARecording) ⊎ (Memory ≡ Memory) → taken ≡ piece))
  rest_full f (says, held) (interface, named) =
      let there = subst (λ (s : PiecesState). Says s.mode.layout s.mode.interfaces (front ++ more) (said_of f piece)) is says in
      (front ++ more, all_of, (inr (interface, subst (λ (g : Found). Says old.mode.layout old.mode.interfaces (front ++ more) (said_of g piece)) named there), λ e. no_skip f interface (front ++ more) piece named held))

  pub rest_says : (f : Found) (new : PiecesState) → RestEnds shown.mode.layout shown.mode.interfaces (Ok f) piece (front ++ more) → new.mode ≡ next_mode shown.mode (said_of f piece) → new.count ≡ shown.count + 1 → shown.count < 2 ^ 40
      → (taken : List ℕ) × Consumes (prepend_known old.ahead before) after taken × StepEnds old new (Ok (Some f)) piece taken
  rest_says f new ends mode count few =
      (front ++ more, all_of, subst (λ (s : PiecesState). StepEnds s new (Ok (Some f)) piece (front ++ more)) is (ends.0, mode, count, few))

  pub rest_place : (room : ℕ) (f : Found) → RestEnds shown.mode.layout shown.mode.interfaces (Ok f) piece (front ++ more) → (interface : Interface) × (f ≡ found.Names interface) → shown.room ≤ length shown.mode.interfaces → WantsMemory room old.room old.mode piece
  rest_place room f (says, held) (interface, named) full =
      let there = subst (λ (l : List ℕ). Says shown.mode.layout shown.mode.interfaces l (said_of f piece)) (no_skip f interface (front ++ more) piece named held) says in
      let here : WantsMemory room shown.room shown.mode piece = inr (interface, subst (λ (g : Found). Says shown.mode.layout shown.mode.interfaces piece (said_of g piece)) named there, full) in
      subst (λ (s : PiecesState). WantsMemory room s.room s.mode piece) is here

-- the same of memory that is wanted for the bytes of a piece
pub wants_bytes : (low room : ℕ) (shown old : PiecesState) (piece : List ℕ) → shown ≡ old → low ≤ room → IsLonger room shown.mode.layout piece → WantsMemory low old.room old.mode piece
wants_bytes low room shown old piece is roomier (size, longer, full) = inl (subst (λ (s : PiecesState). IsLonger low s.mode.layout piece) is (size, longer, omega (arith, roomier, full)))

-- where there is less room, memory is wanted as well
wants_more : (low room few places : ℕ) (mode : Mode) (part : List ℕ) → low ≤ room → few ≤ places → WantsMemory room places mode part → WantsMemory low few mode part
wants_more low room few places mode part roomier further (inl (size, is, full)) = inl (size, is, omega (arith, roomier, full))
wants_more low room few places mode part roomier further (inr (interface, says, full)) = inr (interface, says, omega (arith, further, full))

-- ---- from what was reached to the answer

module _ (bytes taken more piece : List ℕ) (frames : List FrameParts) (old new : PiecesState) (start middle end : Option (List ℕ))
    (consumed : Consumes start middle taken) (goes : Stands (bytes ++ taken) old.mode old.count frames) (then_consumed : Consumes middle end more) where
  both : Consumes start end (taken ++ more)
  both = Consumes-trans start middle end taken more consumed then_consumed

  pub reach_said : (found : Found) → StepEnds old new (Ok (Some found)) piece more
      → (all : List ℕ) × Consumes start end all × Stands (bytes ++ all) new.mode new.count (frames ++ given (said_of found piece))
  reach_said found (says, mode, count, few) =
      let grown = stands_more (bytes ++ taken) more old.mode old.count frames (said_of found piece) goes says in
      let here = subst (λ (b : List ℕ). Stands b (next_mode old.mode (said_of found piece)) (old.count + 1) (frames ++ given (said_of found piece))) (append_assoc bytes taken more) grown in
      let there = subst (λ (m : Mode). Stands (bytes ++ (taken ++ more)) m (old.count + 1) (frames ++ given (said_of found piece))) (sym mode) here in
      (taken ++ more, both, subst (λ (n : ℕ). Stands (bytes ++ (taken ++ more)) new.mode n (frames ++ given (said_of found piece))) (sym count) there)

  pub reach_none : StepEnds old new (Ok None) piece more → (all : List ℕ) × Consumes start end all × IsRecordingTo new.mode (bytes ++ all) frames
  reach_none (none, opened, mode, count, few) =
      let same : bytes ++ taken ≡ bytes ++ (taken ++ more) = ap (λ l. bytes ++ l) (sym (append-nil taken) ∙ ap (λ l. taken ++ l) (sym none)) in
      (taken ++ more, both, (record { mode = old.mode; count = old.count; stands = subst (λ (b : List ℕ). Stands b old.mode old.count frames) same goes; opened = opened; few = few }, sym mode))

  pub reach_short : (low room few places : ℕ) → low ≤ room → few ≤ places → more ≡ piece → WantsMemory room places old.mode piece → (all : List ℕ) × Consumes start end all × RunsOut low few (bytes ++ all) frames
  reach_short low room few places roomier further is wants = (
    taken ++ more,
    both,
    record { good = bytes ++ taken; part = more; mode = old.mode; count = old.count; are = sym (append_assoc bytes taken more); stands = goes; rest = wants_more low room few places old.mode more roomier further (subst (WantsMemory room places old.mode) (sym is) wants) },
  )

  pub reach_fault : (kind : FaultKind) → new.mode ≡ old.mode → Stops kind old.mode old.count more → (all : List ℕ) × Consumes start end all × FailsAfter new.mode (bytes ++ all) frames kind
  reach_fault kind kept stops = (taken ++ more, both, (record { good = bytes ++ taken; part = more; mode = old.mode; count = old.count; are = sym (append_assoc bytes taken more); stands = goes; rest = stops }, sym kept))
