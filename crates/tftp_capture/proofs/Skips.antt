-- Lines that say nothing, taken one after another.
use Rattle.std.proofs.Common.{◌≡◌, ℕ, ◌+◌, ◌^◌, ◌<◌, ◌≤◌, true, false, List, [], ◌∷◌, ◌++◌, length, take, drop, get_or, All, Option, Ok, sym, ap, ◌∙◌, subst, arith, append_assoc, append-nil, take-append-drop, length-append, length-drop, length-take-le, refl}
use Rattle.std.specs.Io.KnownBytes.{prepend_known, Consumes}
use Rattle.std.proofs.KnownBytes.{Consumes-trans, Keeps-refl}
use Rattle.std.proofs.lemmas.List.Concat.{flat_map-append}
use Rattle.std.proofs.lemmas.List.Elements.{All-append, All-nil, All-push}
use Rattle.std.proofs.Math.Seq.{take-add, take-append_seam}
use Rattle.tftp_capture.specs.{longest_line, says_nothing, whole_lines, BeginsWithLine, HasNoEnd, HoldsLine, BeginsSilent, IsSilent, IsSkipped, LineEnds, LineState, ReachesLine, Skipped, StandsSilent}
use Rattle.tftp_capture.proofs.Bytes.{held_some, line_ended}

pub whole_lines-push : (lines : List (List ℕ)) (line : List ℕ) → whole_lines (lines ++ line ∷ []) ≡ whole_lines lines ++ (line ++ 10 ∷ [])
whole_lines-push lines line = flat_map-append (λ (l : List ℕ). l ++ 10 ∷ []) lines (line ∷ []) ∙ ap (λ l. whole_lines lines ++ l) (append-nil (line ++ 10 ∷ []))

pub skipped_more : (old mid new : LineState) (k0 k1 k2 : Option (List ℕ)) (room : ℕ) (bytes : List ℕ) → Skipped old mid k0 k1
    → Consumes k1 k2 bytes → LineEnds {T = Unit {0}} (Ok tt) new.line (longest_line mid.version) room bytes → says_nothing new.line ≡ true
    → new.taken ≡ mid.taken + length new.line + 1 → new.count ≡ mid.count + 1 → new.version ≡ mid.version → Skipped old new k0 k2
skipped_more old mid new k0 k1 k2 room bytes s consumed ends nothing taken count same =
    let are = whole_lines-push s.skipped new.line in
    let size : length (whole_lines (s.skipped ++ new.line ∷ [])) ≡ length (whole_lines s.skipped) + (length new.line + 1) =
    ap length are ∙ length-append (whole_lines s.skipped) (new.line ++ 10 ∷ []) ∙ ap (λ n. length (whole_lines s.skipped) + n) (length-append new.line (10 ∷ [])) in
    record {
      skipped = s.skipped ++ new.line ∷ [];
      nothing = All-push (IsSkipped (longest_line old.version)) s.skipped new.line s.nothing (record { nothing = nothing; no_end = ends.1.no_end; narrow = subst (λ v. length new.line ≤ longest_line v) s.version ends.1.narrow });
      consumed = rw are (Consumes-trans _ _ _ _ _ s.consumed (rw ends.0 at consumed));
      taken = omega (arith, s.taken, taken, size);
      count = omega (arith, s.count, count, length-append s.skipped (new.line ∷ []));
      version = same ∙ s.version;
    }

pub skipped_on : (old mid new : LineState) (k0 k1 k2 : Option (List ℕ)) → Skipped old mid k0 k1 → Skipped mid new k1 k2 → Skipped old new k0 k2
skipped_on old mid new k0 k1 k2 s t =
    let are : whole_lines (s.skipped ++ t.skipped) ≡ whole_lines s.skipped ++ whole_lines t.skipped = flat_map-append (λ (l : List ℕ). l ++ 10 ∷ []) s.skipped t.skipped in
    record {
      skipped = s.skipped ++ t.skipped;
      nothing = All-append (IsSkipped (longest_line old.version)) s.skipped t.skipped s.nothing (subst (λ v. All (IsSkipped (longest_line v)) t.skipped) s.version t.nothing);
      consumed = rw are (Consumes-trans _ _ _ _ _ s.consumed t.consumed);
      taken = omega (arith, s.taken, t.taken, ap length are, length-append (whole_lines s.skipped) (whole_lines t.skipped));
      count = omega (arith, s.count, t.count, length-append s.skipped t.skipped);
      version = t.version ∙ s.version;
    }

-- ---- lines among the bytes that are held

-- bytes up to their first LF, and what comes behind it
pub divided : (bytes : List ℕ) (count : ℕ) → count < length bytes → get_or bytes count 0 ≡ 10 → bytes ≡ take count bytes ++ 10 ∷ drop (count + 1) bytes
divided bytes count within here =
    sym (take-append-drop (count + 1) bytes) ∙ ap (λ l. l ++ drop (count + 1) bytes) (line_ended bytes count within here) ∙ append_assoc (take count bytes) (10 ∷ []) (drop (count + 1) bytes)

-- lines that say nothing, and then the rest
pub record Passes (bytes rest : List ℕ) : Type 0 where
  pub silent : List (List ℕ)
  pub are : bytes ≡ whole_lines silent ++ rest
  pub nothing : All IsSilent silent

pub passes_one : (bytes rest : List ℕ) (count : ℕ) → Passes bytes rest → count < length rest → get_or rest count 0 ≡ 10 → HasNoEnd (take count rest) → says_nothing (take count rest) ≡ true
    → Passes bytes (drop (count + 1) rest)
passes_one bytes rest count p within here no_end nothing =
    let line = take count rest in
    let more = drop (count + 1) rest in
    record {
      silent = p.silent ++ line ∷ [];
      are =
          p.are ∙ ap (λ l. whole_lines p.silent ++ l) (divided rest count within here ∙ sym (append_assoc line (10 ∷ []) more)) ∙ sym (append_assoc (whole_lines p.silent) (line ++ 10 ∷ []) more)
          ∙ ap (λ l. l ++ more) (sym (whole_lines-push p.silent line));
      nothing = All-push IsSilent p.silent line p.nothing (record { nothing = nothing; no_end = no_end });
    }

pub held_line : (bytes rest : List ℕ) (count : ℕ) → Passes bytes rest → count < length rest → get_or rest count 0 ≡ 10 → HasNoEnd (take count rest) → says_nothing (take count rest) ≡ false → HoldsLine bytes
held_line bytes rest count p within here no_end says = record {
  silent = p.silent;
  line = take count rest;
  more = drop (count + 1) rest;
  are = p.are ∙ ap (λ l. whole_lines p.silent ++ l) (divided rest count within here);
  nothing = p.nothing;
  no_end = no_end;
  says = says;
}

-- ---- lines at the beginning of what is held that say nothing, taken as they are

pub begins_none : (longest : ℕ) (bytes : List ℕ) → BeginsSilent longest bytes 0 0
begins_none longest bytes = record {
  silent = [];
  are = refl;
  within = omega arith;
  nothing = All-nil (IsSkipped longest);
  counted = refl;
}

pub begins_more : (longest : ℕ) (bytes : List ℕ) (at count size : ℕ) → BeginsSilent longest bytes at count → StandsSilent (drop at bytes) size → size ≤ longest + 1
    → BeginsSilent longest bytes (at + size) (count + 1)
begins_more longest bytes at count size b s narrow =
    let long : length s.line + 1 ≡ size = omega (arith, ap length s.are, length-append s.line (10 ∷ []), length-take-le size (drop at bytes) s.within) in
    record {
      silent = b.silent ++ s.line ∷ [];
      are = take-add at size bytes ∙ ap (λ l. l ++ take size (drop at bytes)) b.are ∙ ap (λ l. whole_lines b.silent ++ l) s.are ∙ sym (whole_lines-push b.silent s.line);
      within = omega (arith, b.within, s.within, length-drop at bytes);
      nothing = All-push (IsSkipped longest) b.silent s.line b.nothing (record { nothing = s.silent.nothing; no_end = s.silent.no_end; narrow = omega (arith, long, narrow) });
      counted = omega (arith, b.counted, length-append b.silent (s.line ∷ []));
    }

pub skipped_held : (old new : LineState) (size count : ℕ) (known : Option (List ℕ)) → BeginsSilent (longest_line old.version) old.ahead size count
    → new.ahead ≡ drop size old.ahead → new.taken ≡ old.taken + size → new.count ≡ old.count + count → new.version ≡ old.version
    → Skipped old new (prepend_known old.ahead known) (prepend_known new.ahead known)
skipped_held old new size count known b ahead taken counted version = record {
  skipped = b.silent;
  nothing = b.nothing;
  consumed = rw (ahead, ← b.are) (held_some (prepend_known old.ahead known) known old.ahead size (Keeps-refl (prepend_known old.ahead known)));
  taken = omega (arith, taken, ap length b.are, length-take-le size old.ahead b.within);
  count = omega (arith, counted, b.counted);
  version = version;
}

-- ---- a line that lies in what is held, taken as it is

pub reaches_held : (old new : LineState) (size : ℕ) (known : Option (List ℕ)) → (b : BeginsWithLine old.ahead size) → size ≤ longest_line old.version → old.taken + size < 2 ^ 40
    → new.line ≡ take size old.ahead → new.ahead ≡ drop (size + 1) old.ahead → new.taken ≡ old.taken + (size + 1) → new.count ≡ old.count + 1 → new.version ≡ old.version
    → ReachesLine {T = Unit {0}} (Ok tt) old new (prepend_known old.ahead known) (prepend_known new.ahead known)
reaches_held old new size known b narrow fits line ahead taken count version =
    let whole : take (size + 1) old.ahead ≡ b.line ++ 10 ∷ [] =
    let long : size + 1 ≡ length (b.line ++ 10 ∷ []) = omega (arith, b.sized, length-append b.line (10 ∷ [])) in
    ap (λ n. take n old.ahead) long ∙ ap (take (length (b.line ++ 10 ∷ []))) (b.are ∙ sym (append_assoc b.line (10 ∷ []) b.more)) ∙ take-append_seam (b.line ++ 10 ∷ []) b.more in
    let same : new.line ≡ b.line = line ∙ ap (λ n. take n old.ahead) (sym b.sized) ∙ ap (take (length b.line)) b.are ∙ take-append_seam b.line (10 ∷ b.more) in
    let long : length new.line ≡ size = ap length same ∙ b.sized in
    record {
      skipped = [];
      bytes = take (size + 1) old.ahead;
      nothing = All-nil (IsSkipped (longest_line old.version));
      consumed = rw ahead (held_some (prepend_known old.ahead known) known old.ahead (size + 1) (Keeps-refl (prepend_known old.ahead known)));
      short = omega (arith, fits);
      ends = (
        whole ∙ ap (λ l. l ++ 10 ∷ []) (sym same),
        record {
          no_end = subst HasNoEnd (sym same) b.no_end;
          narrow = omega (arith, long, narrow);
          short = omega (arith, long, fits);
        },
        omega (arith, long, fits),
      );
      said = ap says_nothing same ∙ b.says;
      taken = omega (arith, taken, ap length whole, length-append b.line (10 ∷ []), b.sized);
      count = omega (arith, count);
      count_before = tt;
      version = version;
    }
