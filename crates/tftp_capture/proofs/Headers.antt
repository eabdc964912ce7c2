-- The header of a text, line by line.
use Rattle.std.proofs.Common.{◌≡◌, ◌≢◌, ℕ, ◌+◌, ◌-◌, ◌^◌, ◌≤◌, lit≤, List, [], ◌∷◌, ◌++◌, length, Option, None, Some, Ok, Err, refl, sym, ap, ◌∙◌, subst, arith, append_assoc, length-append}
use Rattle.std.specs.Io.KnownBytes.{Consumes, IsAtEnd, prepend_known}
use Rattle.std.proofs.KnownBytes.{Consumes-trans}
use Rattle.tftp_packet.specs.{End}
use Rattle.tftp_capture.specs.{BadHeader, BadEnd, BadService, Truncated, CaptureFault, Version, One, Two, LineError, Due, IsPort, Says, Stands, end_line, head_line, longest, longest_line, service_line, whole_lines, FailsToBegin, FaultTells, HasService, IsAtTextEnd, IsReadFault, FirstTells, LineEnds, LineState, ReachesLine, fault_at}
use Rattle.net_streams.specs.Streams.{most_ahead}
use Rattle.tftp_capture.specs.declared.fault.CaptureFault.TheVariants as faults
use Rattle.tftp_capture.specs.declared.line_error.LineError.TheVariants.{Text, Read, Memory}
use Rattle.tftp_capture.specs.CaptureText.Due.{Head, EndLine, ServiceLine, Body}
use Rattle.tftp_capture.proofs.Texts.{IsSkippable, said-push, says-head, says-end, says-service, stands-line, stands-nothing}
use Rattle.tftp_capture.proofs.Faults.{fault_in_line, fault_at_end, no_first_want}
use Rattle.tftp_capture.proofs.Histories.{reached, stop_tells, number_is, part_is, within_is, taken_is, bytes_are}

-- these bytes were taken, and this is due after them
pub record Begun (k0 k1 : Option (List ℕ)) (state : LineState) (due : Due) : Type 0 where
  pub text : List ℕ
  pub lines : List (List ℕ)
  pub consumed : Consumes k0 k1 text
  pub stands : Stands text lines [] due []
  pub line_count : state.count ≡ length lines
  pub byte_count : state.taken ≡ length text
  pub limit : longest_line state.version ≡ longest due

-- these bytes were taken, and have the fault
pub record Tells (k0 k1 : Option (List ℕ)) (ahead : List ℕ) (fault : CaptureFault) : Type 0 where
  pub text : List ℕ
  pub consumed : Consumes k0 k1 text
  pub tells : FaultTells fault text []
  pub memory : FirstTells fault text ahead

pub head_stop : (k0 k1 : Option (List ℕ)) (line bytes ahead : List ℕ) (error : LineError) → Consumes k0 k1 bytes → LineEnds {T = Unit {0}} (Err error) line 131070 (2 ^ 40 - 0) bytes
    → Tells k0 k1 ahead (fault_at error 1)
head_stop k0 k1 line bytes ahead error consumed ends = record {
  text = bytes;
  consumed = consumed;
  tells = fault_in_line [] [] Head [] (λ o. o) stands-nothing line bytes error ends;
  memory = no_first_want error line bytes _ _ 1 ends bytes ahead;
}

pub head_bad : (k0 k1 : Option (List ℕ)) (line bytes ahead : List ℕ) → Consumes k0 k1 bytes → LineEnds {T = Unit {0}} (Ok tt) line 131070 (2 ^ 40 - 0) bytes → ((version : Version) → line ≢ head_line version) → Tells k0 k1 ahead (faults.Text 1 BadHeader)
head_bad k0 k1 line bytes ahead consumed ends other = record {
  text = bytes;
  consumed = consumed;
  tells = rw ends.0 (fault_at_end [] [] Head [] (λ o. o) stands-nothing line BadHeader ends.1 (omega (arith, ends.2), refl, (refl, other)));
  memory = tt;
}

-- no version has shorter lines than the first
no_shorter : (version : Version) → 131070 ≤ longest_line version
no_shorter One = lit≤ tt
no_shorter Two = lit≤ tt

-- what is held once the version is known
abbrev pub in_version : Version → LineState → LineState
in_version version state = record state { version = version }

known_head : (k0 k1 : Option (List ℕ)) (version : Version) (state : LineState) (bytes : List ℕ) → Consumes k0 k1 bytes → LineEnds {T = Unit {0}} (Ok tt) state.line 131070 (2 ^ 40 - 0) bytes → state.line ≡ head_line version
    → state.taken ≡ 0 + length state.line + 1 → state.count ≡ 0 + 1 → Begun k0 k1 (in_version version state) (EndLine version)
known_head k0 k1 version state bytes consumed ends is taken count = record {
  text = bytes;
  lines = state.line ∷ [];
  consumed = consumed;
  stands = rw ends.0 (stands-line [] state.line [] Head (EndLine version) [] [] (2 ^ 40 - 0) (no_shorter version) ends.1 ends.2 stands-nothing (rw is (says-head version)));
  line_count = count;
  byte_count = omega (arith, taken, ap length ends.0, length-append state.line (10 ∷ []));
  limit = refl;
}

pub head_ok : (k0 r : Option (List ℕ)) (version : Version) (state known : LineState) (bytes : List ℕ) → Consumes k0 (prepend_known state.ahead r) bytes → LineEnds {T = Unit {0}} (Ok tt) state.line 131070 (2 ^ 40 - 0) bytes
    → state.line ≡ head_line version → state.taken ≡ 0 + length state.line + 1 → state.count ≡ 0 + 1 → known ≡ in_version version state → Begun k0 (prepend_known known.ahead r) known (EndLine version)
head_ok k0 r version state known bytes consumed ends is taken count e =
    subst (λ s. Begun k0 (prepend_known s.ahead r) s (EndLine version)) (sym e) (known_head k0 (prepend_known state.ahead r) version state bytes consumed ends is taken count)

module _ (k0 k1 k2 : Option (List ℕ)) (old new : LineState) (due : Due) (skippable : IsSkippable due) (begun : Begun k0 k1 old due) where
  pub said_stop : (error : LineError) → ReachesLine {T = Unit {0}} (Err error) old new k1 k2 → Tells k0 k2 new.ahead (fault_at error (new.count + 1))
  said_stop error reach = record {
    text = begun.text ++ (whole_lines reach.skipped ++ reach.bytes);
    consumed = Consumes-trans _ _ _ _ _ begun.consumed reach.consumed;
    tells = stop_tells begun.text begun.lines due [] skippable begun.stands old new k1 k2 begun.byte_count begun.limit error reach begun.line_count;
    memory = no_first_want error new.line reach.bytes _ _ (new.count + 1) reach.ends _ new.ahead;
  }

  module _ (reach : ReachesLine {T = Unit {0}} (Ok tt) old new k1 k2) where
    pub next_begun : (due' : Due) → longest due ≡ longest due' → Says ((begun.lines ++ reach.skipped) ++ new.line ∷ []) due' [] → Begun k0 k2 new due'
    next_begun due' alike says =
        let before = reached begun.text begun.lines due [] skippable begun.stands old new k1 k2 begun.byte_count begun.limit (Ok tt) reach in
        let after = stands-line (begun.text ++ whole_lines reach.skipped) new.line (begun.lines ++ reach.skipped) due due' [] []
        (2 ^ 40 - length (begun.text ++ whole_lines reach.skipped)) (omega (arith, alike))
        (part_is begun.text begun.lines due [] skippable begun.stands old new k1 k2 begun.byte_count begun.limit reach begun.line_count)
        (within_is begun.text begun.lines due [] skippable begun.stands old new k1 k2 begun.byte_count begun.limit reach begun.line_count)
        before says in
        record {
          text = begun.text ++ (whole_lines reach.skipped ++ reach.bytes);
          lines = (begun.lines ++ reach.skipped) ++ new.line ∷ [];
          consumed = Consumes-trans _ _ _ _ _ begun.consumed reach.consumed;
          stands = rw (taken_is begun.text begun.lines due [] skippable begun.stands old new k1 k2 begun.byte_count begun.limit reach begun.line_count) after;
          line_count = number_is begun.text begun.lines due [] skippable begun.stands old new k1 k2 begun.byte_count begun.limit reach begun.line_count ∙ sym (length-append (begun.lines ++ reach.skipped) (new.line ∷ []));
          byte_count = bytes_are begun.text begun.lines due [] skippable begun.stands old new k1 k2 begun.byte_count begun.limit reach begun.line_count;
          limit = ap longest_line reach.version ∙ begun.limit ∙ alike;
        }

    pub says_before : Says (begun.lines ++ reach.skipped) due []
    says_before = (reached begun.text begun.lines due [] skippable begun.stands old new k1 k2 begun.byte_count begun.limit (Ok tt) reach).says

-- the second line that says something
pub end_bad : (k0 k1 k2 : Option (List ℕ)) (version : Version) (old new : LineState) → Begun k0 k1 old (EndLine version) → ReachesLine {T = Unit {0}} (Ok tt) old new k1 k2 → ((named : End) → new.line ≢ end_line named) → Tells k0 k2 new.ahead (faults.Text new.count BadEnd)
end_bad k0 k1 k2 version old new begun reach other =
    let before = reached begun.text begun.lines (EndLine version) [] tt begun.stands old new k1 k2 begun.byte_count begun.limit (Ok tt) reach in
    let within = within_is begun.text begun.lines (EndLine version) [] tt begun.stands old new k1 k2 begun.byte_count begun.limit reach begun.line_count in
    let wrong = fault_at_end (begun.text ++ whole_lines reach.skipped) (begun.lines ++ reach.skipped) (EndLine version) [] (λ o. o) before new.line BadEnd
    (part_is begun.text begun.lines (EndLine version) [] tt begun.stands old new k1 k2 begun.byte_count begun.limit reach begun.line_count)
    (omega (arith, within, length-append (begun.text ++ whole_lines reach.skipped) new.line), refl, (refl, reach.said, other)) in
    record {
      text = begun.text ++ (whole_lines reach.skipped ++ reach.bytes);
      consumed = Consumes-trans _ _ _ _ _ begun.consumed reach.consumed;
      tells = rw (taken_is begun.text begun.lines (EndLine version) [] tt begun.stands old new k1 k2 begun.byte_count begun.limit reach begun.line_count, number_is begun.text begun.lines (EndLine version) [] tt begun.stands old new k1 k2 begun.byte_count begun.limit reach begun.line_count) wrong;
      memory = tt;
    }

pub end_ok : (k0 k1 k2 : Option (List ℕ)) (version : Version) (old new : LineState) (named : End) → Begun k0 k1 old (EndLine version) → ReachesLine {T = Unit {0}} (Ok tt) old new k1 k2 → new.line ≡ end_line named → Begun k0 k2 new (ServiceLine version named)
end_ok k0 k1 k2 version old new named begun reach is =
    next_begun k0 k1 k2 old new (EndLine version) tt begun reach (ServiceLine version named) refl
    (rw is (says-end version (begun.lines ++ reach.skipped) named (says_before k0 k1 k2 old new (EndLine version) tt begun reach)))

-- the third
pub service_bad : (k0 k1 k2 : Option (List ℕ)) (version : Version) (old new : LineState) (named : End) → Begun k0 k1 old (ServiceLine version named) → ReachesLine {T = Unit {0}} (Ok tt) old new k1 k2
    → ((port : ℕ) → IsPort port → new.line ≢ service_line port) → Tells k0 k2 new.ahead (faults.Text new.count BadService)
service_bad k0 k1 k2 version old new named begun reach other =
    let before = reached begun.text begun.lines (ServiceLine version named) [] tt begun.stands old new k1 k2 begun.byte_count begun.limit (Ok tt) reach in
    let within = within_is begun.text begun.lines (ServiceLine version named) [] tt begun.stands old new k1 k2 begun.byte_count begun.limit reach begun.line_count in
    let wrong = fault_at_end (begun.text ++ whole_lines reach.skipped) (begun.lines ++ reach.skipped) (ServiceLine version named) [] (λ o. o) before new.line BadService
    (part_is begun.text begun.lines (ServiceLine version named) [] tt begun.stands old new k1 k2 begun.byte_count begun.limit reach begun.line_count)
    (omega (arith, within, length-append (begun.text ++ whole_lines reach.skipped) new.line), refl, (refl, reach.said, other)) in
    record {
      text = begun.text ++ (whole_lines reach.skipped ++ reach.bytes);
      consumed = Consumes-trans _ _ _ _ _ begun.consumed reach.consumed;
      tells = rw (taken_is begun.text begun.lines (ServiceLine version named) [] tt begun.stands old new k1 k2 begun.byte_count begun.limit reach begun.line_count, number_is begun.text begun.lines (ServiceLine version named) [] tt begun.stands old new k1 k2 begun.byte_count begun.limit reach begun.line_count) wrong;
      memory = tt;
    }

pub service_ok : (k0 k1 k2 : Option (List ℕ)) (version : Version) (old new : LineState) (named : End) (port : ℕ) → Begun k0 k1 old (ServiceLine version named) → ReachesLine {T = Unit {0}} (Ok tt) old new k1 k2 → IsPort port → new.line ≡ service_line port
    → Begun k0 k2 new (Body version (record { named = named; service = port; rollover = None }))
service_ok k0 k1 k2 version old new named port begun reach h is =
    next_begun k0 k1 k2 old new (ServiceLine version named) tt begun reach (Body version (record { named = named; service = port; rollover = None })) refl
    (rw is (says-service version (begun.lines ++ reach.skipped) named port h (says_before k0 k1 k2 old new (ServiceLine version named) tt begun reach)))

-- the third line stands where it was read
pub service_at : (k0 k1 k2 : Option (List ℕ)) (version : Version) (old new : LineState) (named : End) (port : ℕ) (begun : Begun k0 k1 old (ServiceLine version named)) (reach : ReachesLine {T = Unit {0}} (Ok tt) old new k1 k2) (h : IsPort port) (is : new.line ≡ service_line port)
    → HasService (service_ok k0 k1 k2 version old new named port begun reach h is).text (record { named = named; service = port; rollover = None }) new.count
unfolding service_ok next_begun
service_at k0 k1 k2 version old new named port begun reach h is =
    let before = says_before k0 k1 k2 old new (ServiceLine version named) tt begun reach in
    let number : 2 + length before.0 ≡ new.count = omega (arith, number_is begun.text begun.lines (ServiceLine version named) [] tt begun.stands old new k1 k2 begun.byte_count begun.limit reach begun.line_count, ap length before.2) in
    record {
      version = version;
      lines = (begun.lines ++ reach.skipped) ++ new.line ∷ [];
      after_head = before.0 ++ service_line port ∷ [];
      at_end = before.1;
      others = [];
      divided = (service_ok k0 k1 k2 version old new named port begun reach h is).stands.divided;
      begins = ap (λ l. (begun.lines ++ reach.skipped) ++ l ∷ []) is ∙ ap (λ l. l ++ service_line port ∷ []) before.2;
      are = said-push 2 before.0 (service_line port) refl ∙ ap (λ l. l ++ (2 + length before.0, service_line port) ∷ []) before.3 ∙ ap (λ n. (before.1, end_line named) ∷ (n, service_line port) ∷ []) number;
    }

-- ---- what was read ahead

pub consumed_nil : (r k : Option (List ℕ)) (bytes : List ℕ) → Consumes (prepend_known [] r) k bytes → Consumes r k bytes
consumed_nil None k bytes p = tt
consumed_nil (Some x) k bytes p = p

-- nothing is ahead of the end
none_ahead : (ahead rest : List ℕ) → ahead ++ rest ≡ [] → ahead ≡ []
none_ahead [] rest e = refl
none_ahead (b ∷ bs) rest e = absurd (omega (arith, ap length e))

-- what is known of the bytes ahead is known of none
first_alone : (fault : CaptureFault) (text ahead : List ℕ) → FirstTells fault text ahead → FirstTells fault text []
first_alone (faults.Text line fault) text ahead m = tt
first_alone (faults.Read line) text ahead m = tt
first_alone (faults.Memory line) text ahead (at, none, empty) = (at, none, refl)

pub fails_to_begin : (r0 r1 : Option (List ℕ)) (ahead : List ℕ) (fault : CaptureFault) → length ahead ≤ most_ahead → (IsReadFault fault → ahead ≡ []) → (IsAtTextEnd fault → IsAtEnd (prepend_known ahead r1))
    → Tells (prepend_known [] r0) (prepend_known ahead r1) ahead fault → FailsToBegin r0 r1 fault
fails_to_begin None r1 ahead fault near none end t = record { taken = t.text; ahead = []; consumed = tt; tells = t.tells; drained = λ _. refl; ended = λ _. refl; near = lit≤ tt; memory = first_alone fault t.text ahead t.memory }
fails_to_begin (Some x) None ahead fault near none end t = absurd t.consumed
fails_to_begin (Some x) (Some y) ahead fault near none end t = record {
  taken = t.text;
  ahead = ahead;
  consumed = t.consumed ∙ sym (append_assoc t.text ahead y);
  tells = t.tells;
  drained = none;
  ended = λ h. none_ahead ahead y (end h);
  near = near;
  memory = t.memory;
}

pub at_end_rest : (r : Option (List ℕ)) (ahead : List ℕ) → IsAtEnd (prepend_known ahead r) → IsAtEnd r
at_end_rest None ahead p = tt
at_end_rest (Some y) [] p = p
at_end_rest (Some y) (b ∷ bs) p = absurd (omega (arith, ap length p))

pub at_text_end : (error : LineError) (n : ℕ) → IsAtTextEnd (fault_at error n) → error ≡ Text Truncated
at_text_end (Text fault) n h = ap Text h
at_text_end Read n h = absurd h
at_text_end Memory n h = absurd h

pub at_read : (error : LineError) (n : ℕ) → IsReadFault (fault_at error n) → error ≡ Read
at_read (Text fault) n h = absurd h
at_read Read n h = refl
at_read Memory n h = absurd h

consumes_nothing : (r : Option (List ℕ)) → Consumes (prepend_known [] r) (prepend_known [] r) []
consumes_nothing None = tt
consumes_nothing (Some x) = refl

-- memory was refused before anything was read
pub refused_at_once : (r : Option (List ℕ)) → FailsToBegin r r (faults.Memory 1)
refused_at_once r = fails_to_begin r r [] (faults.Memory 1) (lit≤ tt) (λ h. absurd h) (λ h. absurd h) (record { text = []; consumed = consumes_nothing r; tells = tt; memory = (refl, refl, refl) })
