-- What a reader's answers tell of the bytes that were taken.
use Rattle.std.proofs.Common.{◌≡◌, ℕ, ◌+◌, ◌-◌, ◌^◌, ◌<◌, List, [], ◌∷◌, ◌++◌, length, All, Option, None, Some, Result, Ok, Err, refl, sym, ap, ◌∙◌, subst, arith, append_assoc, append-nil, length-append}
use Rattle.std.specs.Io.KnownBytes.{Consumes}
use Rattle.std.proofs.KnownBytes.{Consumes-trans}
use Rattle.tftp_capture.specs.{LineError, Due, Numbered, SaysDatagram, Stands, longest, longest_line, total_line, whole_lines, BodyEnds, datagram_of, Answers, FaultTells, GoesOn, MemoryTells, IsPartOfLine, IsSkipped, LineState, ReachesLine, TextEnds, fault_at}
use Rattle.tftp_capture.specs.declared.line_error.LineError.TheVariants.{Text, Read, Memory}
use Rattle.tftp_capture.specs.declared.datagram.Datagram.{Datagram as Owned}
use Rattle.tftp_capture.specs.CaptureText.{Datagram, Header}
use Rattle.tftp_capture.specs.CaptureText.Due.{Body, Nothing}
use Rattle.tftp_capture.proofs.Texts.{IsSkippable, not_over, says-datagram, stands-line, stands-skips}
use Rattle.tftp_capture.proofs.Faults.{body_fault, end_fault, fault_in_line, no_want}

module _ (text : List ℕ) (lines : List (List ℕ)) (due : Due) (datagrams : List Numbered) (skippable : IsSkippable due) (stands : Stands text lines [] due datagrams) (old new : LineState) (k0 k1 : Option (List ℕ)) (byte_count : old.taken ≡ length text) (limit : longest_line old.version ≡ longest due) where
  -- after the lines that say nothing
  pub reached : (r : Result (Unit {0}) LineError) (reach : ReachesLine r old new k0 k1) → Stands (text ++ whole_lines reach.skipped) (lines ++ reach.skipped) [] due datagrams
  reached r reach = stands-skips text lines reach.skipped due datagrams skippable (subst (λ n. All (IsSkipped n) reach.skipped) limit reach.nothing) (rw byte_count at reach.short) stands

  pub room_is : (r : Result (Unit {0}) LineError) (reach : ReachesLine r old new k0 k1) → 2 ^ 40 - (old.taken + length (whole_lines reach.skipped)) ≡ 2 ^ 40 - length (text ++ whole_lines reach.skipped)
  room_is r reach = ap (λ n. 2 ^ 40 - n) (ap (λ n. n + length (whole_lines reach.skipped)) byte_count ∙ sym (length-append text (whole_lines reach.skipped)))

  -- reading stopped before a line that says something
  pub stop_tells : (error : LineError) (reach : ReachesLine {T = Unit {0}} (Err error) old new k0 k1) → old.count ≡ length lines
      → FaultTells (fault_at error (new.count + 1)) (text ++ (whole_lines reach.skipped ++ reach.bytes)) datagrams
  stop_tells error reach line_count =
      let at : length (lines ++ reach.skipped) ≡ new.count = length-append lines reach.skipped ∙ ap (λ n. n + length reach.skipped) (sym line_count) ∙ sym reach.count_before in
      let tells = fault_in_line (text ++ whole_lines reach.skipped) (lines ++ reach.skipped) due datagrams (not_over due skippable) (reached (Err error) reach) new.line reach.bytes error (rw (room_is (Err error) reach, limit) at reach.ends) in
      rw (at, append_assoc text (whole_lines reach.skipped) reach.bytes) at tells

  module _ (reach : ReachesLine {T = Unit {0}} (Ok tt) old new k0 k1) (line_count : old.count ≡ length lines) where
    pub number_is : new.count ≡ length (lines ++ reach.skipped) + 1
    number_is = omega (arith, reach.count, line_count, length-append lines reach.skipped)

    pub part_is : IsPartOfLine new.line (longest due) (2 ^ 40 - length (text ++ whole_lines reach.skipped))
    part_is = rw (room_is (Ok tt) reach, limit) at reach.ends.1

    pub within_is : length new.line < 2 ^ 40 - length (text ++ whole_lines reach.skipped)
    within_is = rw (room_is (Ok tt) reach) at reach.ends.2

    pub taken_is : text ++ (whole_lines reach.skipped ++ reach.bytes) ≡ (text ++ whole_lines reach.skipped) ++ (new.line ++ 10 ∷ [])
    taken_is = ap (λ l. text ++ (whole_lines reach.skipped ++ l)) reach.ends.0 ∙ sym (append_assoc text (whole_lines reach.skipped) (new.line ++ 10 ∷ []))

    pub bytes_are : new.taken ≡ length (text ++ (whole_lines reach.skipped ++ reach.bytes))
    bytes_are = omega (arith, reach.taken, byte_count, length-append text (whole_lines reach.skipped ++ reach.bytes), length-append (whole_lines reach.skipped) reach.bytes)

module _ (header : Header) (old new : LineState) (count : ℕ) (text : List ℕ) (datagrams : List Numbered) (k0 k1 : Option (List ℕ)) (goes : GoesOn header old count text datagrams) where
  pub stop_answers : (error : LineError) → ReachesLine {T = Unit {0}} (Err error) old new k0 k1 → Answers k0 k1 (Err (fault_at error (new.count + 1))) header new count text datagrams
  stop_answers error reach = record {
    taken = whole_lines reach.skipped ++ reach.bytes;
    consumed = reach.consumed;
    tells = stop_tells text goes.lines (Body old.version header) datagrams tt goes.stands old new k0 k1 goes.byte_count refl error reach goes.line_count;
    memory = no_want error new.line reach.bytes _ _ (new.count + 1) reach.ends _ datagrams;
  }

  module _ (reach : ReachesLine {T = Unit {0}} (Ok tt) old new k0 k1) where
    lines_after : List (List ℕ)
    lines_after = (goes.lines ++ reach.skipped) ++ new.line ∷ []

    datagram_stands : (d : Datagram) → SaysDatagram old.version new.line d → Stands (text ++ (whole_lines reach.skipped ++ reach.bytes)) lines_after [] (Body old.version header) (datagrams ++ (new.count, d) ∷ [])
    unfolding lines_after
    datagram_stands d says =
        let before = reached text goes.lines (Body old.version header) datagrams tt goes.stands old new k0 k1 goes.byte_count refl (Ok tt) reach in
        let number = number_is text goes.lines (Body old.version header) datagrams tt goes.stands old new k0 k1 goes.byte_count refl reach goes.line_count in
        let after = stands-line (text ++ whole_lines reach.skipped) new.line (goes.lines ++ reach.skipped) (Body old.version header) (Body old.version header) datagrams (datagrams ++ (length (goes.lines ++ reach.skipped) + 1, d) ∷ [])
        (2 ^ 40 - length (text ++ whole_lines reach.skipped)) (omega arith)
        (part_is text goes.lines (Body old.version header) datagrams tt goes.stands old new k0 k1 goes.byte_count refl reach goes.line_count)
        (within_is text goes.lines (Body old.version header) datagrams tt goes.stands old new k0 k1 goes.byte_count refl reach goes.line_count)
        before (says-datagram old.version (goes.lines ++ reach.skipped) new.line header datagrams d reach.said says before.says) in
        let taken = taken_is text goes.lines (Body old.version header) datagrams tt goes.stands old new k0 k1 goes.byte_count refl reach goes.line_count in
        subst (λ n. Stands (text ++ (whole_lines reach.skipped ++ reach.bytes)) ((goes.lines ++ reach.skipped) ++ new.line ∷ []) [] (Body old.version header) (datagrams ++ (n, d) ∷ [])) (sym number) (rw taken after)

    lines_number : new.count ≡ length lines_after
    unfolding lines_after
    lines_number =
        let number = number_is text goes.lines (Body old.version header) datagrams tt goes.stands old new k0 k1 goes.byte_count refl reach goes.line_count in
        number ∙ sym (length-append (goes.lines ++ reach.skipped) (new.line ∷ []))

    pub datagram_answers : (d : Owned) → SaysDatagram new.version new.line (datagram_of d) → Answers k0 k1 (Ok (Some d)) header new count text datagrams
    datagram_answers d says =
        record {
          taken = whole_lines reach.skipped ++ reach.bytes;
          consumed = reach.consumed;
          tells = record {
            lines = lines_after;
            stands =
                subst (λ v. Stands (text ++ (whole_lines reach.skipped ++ reach.bytes)) lines_after [] (Body v header) (datagrams ++ (new.count, datagram_of d) ∷ [])) (sym reach.version)
                (datagram_stands (datagram_of d) (subst (λ v. SaysDatagram v new.line (datagram_of d)) reach.version says));
            line_count = lines_number;
            byte_count = bytes_are text goes.lines (Body old.version header) datagrams tt goes.stands old new k0 k1 goes.byte_count refl reach goes.line_count;
            datagram_count = ap (λ n. n + 1) goes.datagram_count ∙ sym (length-append datagrams ((new.count, datagram_of d) ∷ []));
          };
          memory = tt;
        }

    total_stands : new.line ≡ total_line count → Stands (text ++ (whole_lines reach.skipped ++ reach.bytes)) ((goes.lines ++ reach.skipped) ++ new.line ∷ []) [] (Nothing old.version header) datagrams
    total_stands is =
        let before = reached text goes.lines (Body old.version header) datagrams tt goes.stands old new k0 k1 goes.byte_count refl (Ok tt) reach in
        let line : new.line ≡ total_line (length datagrams) = is ∙ ap total_line goes.datagram_count in
        let after = stands-line (text ++ whole_lines reach.skipped) new.line (goes.lines ++ reach.skipped) (Body old.version header) (Nothing old.version header) datagrams datagrams
        (2 ^ 40 - length (text ++ whole_lines reach.skipped)) (omega arith)
        (part_is text goes.lines (Body old.version header) datagrams tt goes.stands old new k0 k1 goes.byte_count refl reach goes.line_count)
        (within_is text goes.lines (Body old.version header) datagrams tt goes.stands old new k0 k1 goes.byte_count refl reach goes.line_count)
        before (goes.lines ++ reach.skipped, ap (λ l. (goes.lines ++ reach.skipped) ++ l ∷ []) line, before.says) in
        rw (taken_is text goes.lines (Body old.version header) datagrams tt goes.stands old new k0 k1 goes.byte_count refl reach goes.line_count) after

    pub capture_answers : (state : LineState) (k2 : Option (List ℕ)) (bytes : List ℕ) → new.line ≡ total_line count → Consumes k1 k2 bytes → bytes ≡ [] → Answers k0 k2 (Ok None) header state count text datagrams
    capture_answers state k2 bytes is consumed none = record {
      taken = (whole_lines reach.skipped ++ reach.bytes) ++ bytes;
      consumed = Consumes-trans _ _ _ _ _ reach.consumed consumed;
      tells = (old.version, (goes.lines ++ reach.skipped) ++ new.line ∷ [], rw (none, append-nil (whole_lines reach.skipped ++ reach.bytes)) (total_stands is));
      memory = tt;
    }

    -- the text's end is looked for without memory
    end_memory : (bytes : List ℕ) (error : LineError) → TextEnds {T = Unit {0}} (Err error) new.taken bytes → MemoryTells (fault_at error (new.count + 1)) (text ++ ((whole_lines reach.skipped ++ reach.bytes) ++ bytes)) datagrams
    end_memory bytes (Text fault) ends = tt
    end_memory bytes Read ends = tt
    end_memory bytes Memory ends = absurd ends

    pub end_answers : (state : LineState) (k2 : Option (List ℕ)) (bytes : List ℕ) (error : LineError) → new.line ≡ total_line count → Consumes k1 k2 bytes → TextEnds {T = Unit {0}} (Err error) new.taken bytes
        → Answers k0 k2 (Err (fault_at error (new.count + 1))) header state count text datagrams
    end_answers state k2 bytes error is consumed ends =
        let size = bytes_are text goes.lines (Body old.version header) datagrams tt goes.stands old new k0 k1 goes.byte_count refl reach goes.line_count in
        let number : length ((goes.lines ++ reach.skipped) ++ new.line ∷ []) ≡ new.count =
        length-append (goes.lines ++ reach.skipped) (new.line ∷ []) ∙ sym (number_is text goes.lines (Body old.version header) datagrams tt goes.stands old new k0 k1 goes.byte_count refl reach goes.line_count) in
        let tells = end_fault old.version (text ++ (whole_lines reach.skipped ++ reach.bytes)) bytes ((goes.lines ++ reach.skipped) ++ new.line ∷ []) header datagrams error (total_stands is) (rw size at ends) in
        record {
          taken = (whole_lines reach.skipped ++ reach.bytes) ++ bytes;
          consumed = Consumes-trans _ _ _ _ _ reach.consumed consumed;
          tells = rw (number, append_assoc text (whole_lines reach.skipped ++ reach.bytes) bytes) at tells;
          memory = end_memory bytes error ends;
        }

    content_tells : (error : LineError) → BodyEnds new.version (Err error) new.line count → FaultTells (fault_at error new.count) (text ++ (whole_lines reach.skipped ++ reach.bytes)) datagrams
    content_tells (Text fault) ends =
        let before = reached text goes.lines (Body old.version header) datagrams tt goes.stands old new k0 k1 goes.byte_count refl (Ok tt) reach in
        let wrong = body_fault old.version (text ++ whole_lines reach.skipped) new.line (goes.lines ++ reach.skipped) header datagrams before
        (part_is text goes.lines (Body old.version header) datagrams tt goes.stands old new k0 k1 goes.byte_count refl reach goes.line_count)
        (within_is text goes.lines (Body old.version header) datagrams tt goes.stands old new k0 k1 goes.byte_count refl reach goes.line_count)
        reach.said fault (rw (reach.version, goes.datagram_count) at ends) in
        rw (taken_is text goes.lines (Body old.version header) datagrams tt goes.stands old new k0 k1 goes.byte_count refl reach goes.line_count, number_is text goes.lines (Body old.version header) datagrams tt goes.stands old new k0 k1 goes.byte_count refl reach goes.line_count) wrong
    content_tells Read ends = absurd ends
    content_tells Memory ends = tt

    content_memory : (error : LineError) → BodyEnds new.version (Err error) new.line count → MemoryTells (fault_at error new.count) (text ++ (whole_lines reach.skipped ++ reach.bytes)) datagrams
    content_memory (Text fault) ends = tt
    content_memory Read ends = tt
    content_memory Memory ends = record {
      version = old.version;
      header = header;
      datagram = ends.0;
      lines = lines_after;
      stands = datagram_stands ends.0 (subst (λ v. SaysDatagram v new.line ends.0) reach.version ends.1);
      at_line = lines_number;
    }

    pub content_answers : (error : LineError) → BodyEnds new.version (Err error) new.line count → Answers k0 k1 (Err (fault_at error new.count)) header new count text datagrams
    content_answers error ends = record {
      taken = whole_lines reach.skipped ++ reach.bytes;
      consumed = reach.consumed;
      tells = content_tells error ends;
      memory = content_memory error ends;
    }
