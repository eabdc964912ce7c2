-- Bytes given to a writer piece by piece.
use Rattle.std.proofs.Common.{◌≡◌, ◌≢◌, ℕ, suc, ◌+◌, ◌<◌, arith, length-drop, get_or, flat_map, drop-cons, List, [], ◌∷◌, ◌++◌, length, take, drop, Option, Result, Ok, Err, OnOk, is_err, IsErr, true, false, true≢false, refl, sym, ap, ◌∙◌, subst, append_assoc, append-nil, take-append-drop}
use Rattle.std.specs.Io.KnownBytes.{Appends, Keeps}
use Rattle.std.proofs.KnownBytes.{Appends-nil, Appends-trans, Appends-kept}
use Rattle.std.proofs.lemmas.List.{take_more}
use Rattle.std.proofs.lemmas.List.Concat.{flat_map-append}
use Rattle.net_streams.specs.Streams.{Added, Adds, AppendsPrefix, Ends, Gathers, Sink, Stops, Writes, WritesPart, WritesWhole, Wrote}

pub gathers_none : (c : Option (List ℕ)) (held : List ℕ) → Gathers c c held held []
gathers_none c held = record { written = []; are = append-nil held; appended = Appends-nil c }

-- the piece waits too
pub gathers_kept : (c : Option (List ℕ)) (held bytes : List ℕ) → Gathers c c held (held ++ bytes) bytes
gathers_kept c held bytes = record { written = []; are = refl; appended = Appends-nil c }

pub gathers_more : (c0 c1 c2 : Option (List ℕ)) (h0 h1 h2 first second : List ℕ) → Gathers c0 c1 h0 h1 first → Gathers c1 c2 h1 h2 second → Gathers c0 c2 h0 h2 (first ++ second)
gathers_more c0 c1 c2 h0 h1 h2 first second p q = record {
  written = p.written ++ q.written;
  are = sym (append_assoc h0 first second) ∙ ap (λ l. l ++ second) p.are ∙ append_assoc p.written h1 second ∙ ap (λ l. p.written ++ l) q.are ∙ sym (append_assoc p.written q.written h2);
  appended = Appends-trans _ _ _ _ _ p.appended q.appended;
}

more_left : (rest more : List ℕ) → rest ≢ [] → rest ++ more ≢ []
more_left [] more h e = h refl
more_left (b ∷ bs) more h e = absurd (omega (arith, ap length e))

pub prefix_of : (c0 c1 : Option (List ℕ)) (bytes more : List ℕ) → AppendsPrefix c0 c1 bytes → AppendsPrefix c0 c1 (bytes ++ more)
prefix_of c0 c1 bytes more p = record {
  written = p.written;
  rest = p.rest ++ more;
  are = ap (λ l. l ++ more) p.are ∙ append_assoc p.written p.rest more;
  left = more_left p.rest more p.left;
  appended = p.appended;
}

-- some pieces were gathered, then one failed
pub gathers_prefix : (c0 c1 c2 : Option (List ℕ)) (h0 h1 first second more : List ℕ) → Gathers c0 c1 h0 h1 first → AppendsPrefix c1 c2 (h1 ++ second) → AppendsPrefix c0 c2 (h0 ++ (first ++ (second ++ more)))
gathers_prefix c0 c1 c2 h0 h1 first second more p q = record {
  written = p.written ++ q.written;
  rest = q.rest ++ more;
  are =
      sym (append_assoc h0 first (second ++ more)) ∙ ap (λ l. l ++ (second ++ more)) p.are ∙ append_assoc p.written h1 (second ++ more)
      ∙ ap (λ l. p.written ++ l) (sym (append_assoc h1 second more) ∙ ap (λ l. l ++ more) q.are ∙ append_assoc q.written q.rest more)
      ∙ sym (append_assoc p.written q.written (q.rest ++ more));
  left = more_left q.rest more q.left;
  appended = Appends-trans _ _ _ _ _ p.appended q.appended;
}

-- some pieces were gathered, then the last one failed
pub prefix_after : (c0 c1 c2 : Option (List ℕ)) (h0 h1 first second : List ℕ) → Gathers c0 c1 h0 h1 first → AppendsPrefix c1 c2 (h1 ++ second) → AppendsPrefix c0 c2 (h0 ++ (first ++ second))
prefix_after c0 c1 c2 h0 h1 first second p q = rw append-nil at (gathers_prefix c0 c1 c2 h0 h1 first second [] p q)

-- some pieces were gathered, and then what waited was written, and more
pub gathers_written : (c0 c1 c2 : Option (List ℕ)) (h0 h1 bytes last : List ℕ) → Gathers c0 c1 h0 h1 bytes → Appends c1 c2 (h1 ++ last) → Appends c0 c2 (h0 ++ (bytes ++ last))
gathers_written c0 c1 c2 h0 h1 bytes last p q =
    let are : p.written ++ (h1 ++ last) ≡ h0 ++ (bytes ++ last) = sym (append_assoc p.written h1 last) ∙ ap (λ l. l ++ last) (sym p.are) ∙ append_assoc h0 bytes last in
    subst (Appends c0 c2) are (Appends-trans _ _ _ _ _ p.appended q)

-- what waited was written, and then a part of the bytes
pub prefix_written : (c0 c1 c2 : Option (List ℕ)) (held bytes : List ℕ) → Appends c0 c1 held → AppendsPrefix c1 c2 bytes → AppendsPrefix c0 c2 (held ++ bytes)
prefix_written c0 c1 c2 held bytes p q = record {
  written = held ++ q.written;
  rest = q.rest;
  are = ap (λ l. held ++ l) q.are ∙ sym (append_assoc held q.written q.rest);
  left = q.left;
  appended = Appends-trans _ _ _ _ _ p q.appended;
}

rest_left : (n : ℕ) (bytes : List ℕ) → n < length bytes → drop n bytes ≢ []
rest_left n bytes h e = absurd (omega (arith, ap length e, length-drop n bytes))

-- a write took no byte, or failed, after the first n
pub prefix_kept : (c0 c1 c2 : Option (List ℕ)) (n : ℕ) (bytes : List ℕ) → n < length bytes → Appends c0 c1 (take n bytes) → Keeps c1 c2 → AppendsPrefix c0 c2 bytes
prefix_kept c0 c1 c2 n bytes h p q = record {
  written = take n bytes;
  rest = drop n bytes;
  are = sym (take-append-drop n bytes);
  left = rest_left n bytes h;
  appended = Appends-kept _ _ _ _ p q;
}

pub prefix_none : (c0 c1 c2 : Option (List ℕ)) (n : ℕ) (bytes : List ℕ) → n < length bytes → Appends c0 c1 (take n bytes) → Appends c1 c2 [] → AppendsPrefix c0 c2 bytes
prefix_none c0 c1 c2 n bytes h p q = record {
  written = take n bytes;
  rest = drop n bytes;
  are = sym (take-append-drop n bytes);
  left = rest_left n bytes h;
  appended = rw append-nil at (Appends-trans _ _ _ _ _ p q);
}

-- the pieces before a place, the one there, and the others
pub pieces_more : {P : Type 0} (f : P → List ℕ) (ps : List P) (i : ℕ) (d : P) → i < length ps → flat_map f (take (i + 1) ps) ≡ flat_map f (take i ps) ++ f (get_or ps i d)
pieces_more f ps i d h = ap (flat_map f) (take_more ps i d h) ∙ flat_map-append f (take i ps) (get_or ps i d ∷ []) ∙ ap (λ l. flat_map f (take i ps) ++ l) (append-nil (f (get_or ps i d)))

pub pieces_rest : {P : Type 0} (f : P → List ℕ) (ps : List P) (i : ℕ) (d : P) → i < length ps → flat_map f ps ≡ flat_map f (take i ps) ++ (f (get_or ps i d) ++ flat_map f (drop (suc i) ps))
pieces_rest f ps i d h = ap (flat_map f) (sym (take-append-drop i ps) ∙ ap (λ l. take i ps ++ l) (drop-cons ps i d h)) ∙ flat_map-append f (take i ps) (get_or ps i d ∷ drop (suc i) ps)

pub pieces_failed : {P : Type 0} (f : P → List ℕ) (ps : List P) (i : ℕ) (d : P) (c0 c1 c2 : Option (List ℕ)) (h0 h1 : List ℕ) → i < length ps
    → Gathers c0 c1 h0 h1 (flat_map f (take i ps)) → AppendsPrefix c1 c2 (h1 ++ f (get_or ps i d)) → AppendsPrefix c0 c2 (h0 ++ flat_map f ps)
pieces_failed f ps i d c0 c1 c2 h0 h1 within p q =
    rw (pieces_rest f ps i d within) (gathers_prefix c0 c1 c2 h0 h1 (flat_map f (take i ps)) (f (get_or ps i d)) (flat_map f (drop (suc i) ps)) p q)

pub pieces_gathered : {P : Type 0} (f : P → List ℕ) (ps : List P) (i : ℕ) (d : P) (c0 c1 c2 : Option (List ℕ)) (h0 h1 h2 : List ℕ) → i < length ps
    → Gathers c0 c1 h0 h1 (flat_map f (take i ps)) → Gathers c1 c2 h1 h2 (f (get_or ps i d)) → Gathers c0 c2 h0 h2 (flat_map f (take (i + 1) ps))
pieces_gathered f ps i d c0 c1 c2 h0 h1 h2 within p q = rw (pieces_more f ps i d within) (gathers_more c0 c1 c2 h0 h1 h2 (flat_map f (take i ps)) (f (get_or ps i d)) p q)

-- ---- what a call does, however it ends

module _ {W : Type 0} (contents : W → Option (List ℕ)) where
  -- a write had failed before
  pub stops_again : (s : Sink W) (bytes : List ℕ) → s.failed ≡ true → Stops contents s s bytes
  stops_again s bytes failed = record { failed = failed; before = λ _. refl; part = λ clean. absurd (true≢false (sym failed ∙ clean)) }

  -- a write fails now
  pub stops_now : (s t : Sink W) (bytes : List ℕ) → s.failed ≡ false → t.failed ≡ true → WritesPart contents s t bytes → Stops contents s t bytes
  stops_now s t bytes clean failed p = record { failed = failed; before = λ e. absurd (true≢false (sym e ∙ clean)); part = λ _. p }

  -- the same where more bytes were to come
  pub stops_short : (s t : Sink W) (head tail line : List ℕ) → head ++ tail ≡ line → Stops contents s t head → Stops contents s t line
  stops_short s t head tail line are p = record {
    failed = p.failed;
    before = p.before;
    part = λ clean. subst (WritesPart contents s t) are (rw append_assoc at (prefix_of _ _ (s.waits ++ head) tail (p.part clean)));
  }

  -- bytes were added, and then a write fails
  pub stops_after : (s t u : Sink W) (first second : List ℕ) → Added contents s t first → Stops contents t u second → Stops contents s u (first ++ second)
  stops_after s t u first second p q = stops_now s u (first ++ second) p.0 q.failed (prefix_after _ _ _ _ _ _ _ p.2 (q.part p.1))

  -- what waited was written, and then the bytes were, or were in part
  pub written_after : {E : Type 0} (s t : Sink W) (between : Option (List ℕ)) (r : Result (Unit {0}) E) (bytes : List ℕ) → s.failed ≡ false → Appends (contents s.inner) between s.waits
      → WritesWhole between (contents t.inner) r bytes → t.failed ≡ is_err r → t.waits ≡ [] → Writes contents s t r bytes
  written_after s t between (Ok x) bytes clean first second failed empty = (clean, failed, empty, Appends-trans _ _ _ _ _ first second)
  written_after s t between (Err e) bytes clean first second failed empty = stops_now s t bytes clean failed (prefix_written _ _ _ _ _ first second)

  -- what was written was added, and nothing waits
  pub wrote_added : (s t : Sink W) (bytes : List ℕ) → Wrote contents s t bytes → Added contents s t bytes
  wrote_added s t bytes p = (p.0, p.1, record { written = s.waits ++ bytes; are = sym (append-nil (s.waits ++ bytes)) ∙ ap (λ l. (s.waits ++ bytes) ++ l) (sym p.2); appended = p.3 })

  module _ {A E : Type 0} where
    pub adds_err : (s t : Sink W) (r : Result A E) (bytes : List ℕ) → IsErr r → Stops contents s t bytes → Adds contents s t r bytes
    adds_err s t (Ok x) bytes is p = absurd (true≢false (sym is))
    adds_err s t (Err e) bytes is p = p

    pub writes_err : (s t : Sink W) (r : Result A E) (bytes : List ℕ) → IsErr r → Stops contents s t bytes → Writes contents s t r bytes
    writes_err s t (Ok x) bytes is p = absurd (true≢false (sym is))
    writes_err s t (Err e) bytes is p = p

    -- the same text, written another way
    pub adds_same : (s t : Sink W) (r : Result A E) (one other : List ℕ) → one ≡ other → Adds contents s t r one → Adds contents s t r other
    adds_same s t r one other e p = subst (Adds contents s t r) e p

    -- bytes were added, and then others were, or were not
    pub adds_more : (s t u : Sink W) (r : Result A E) (first second : List ℕ) → Added contents s t first → Adds contents t u r second → Adds contents s u r (first ++ second)
    adds_more s t u (Ok x) first second p q = (p.0, q.1, gathers_more _ _ _ _ _ _ _ _ p.2 q.2)
    adds_more s t u (Err e) first second p q = stops_after s t u first second p q

    -- the first pieces of a line were added, and then the others were, or were not
    pub line_added : (s t u : Sink W) (r : Result A E) (head tail line : List ℕ) → head ++ tail ≡ line → Added contents s t head → Adds contents t u r tail → Adds contents s u r line
    line_added s t u r head tail line are p q = adds_same s u r (head ++ tail) line are (adds_more s t u r head tail p q)

    -- bytes were added, and then what waited was written with more, or was not
    pub writes_more : (s t u : Sink W) (r : Result A E) (first second : List ℕ) → Added contents s t first → Writes contents t u r second → Writes contents s u r (first ++ second)
    writes_more s t u (Ok x) first second p q = (p.0, q.1, q.2, gathers_written _ _ _ _ _ _ _ p.2 q.3)
    writes_more s t u (Err e) first second p q = stops_after s t u first second p q

    -- bytes were added, and then what waited was written, or was not
    pub writes_flushed : (s t u : Sink W) (r : Result A E) (bytes : List ℕ) → Added contents s t bytes → Writes contents t u r [] → Writes contents s u r bytes
    writes_flushed s t u r bytes p q = subst (Writes contents s u r) (append-nil bytes) (writes_more s t u r bytes [] p q)

    pub writes_adds : (s t : Sink W) (r : Result A E) (bytes : List ℕ) → Writes contents s t r bytes → Adds contents s t r bytes
    writes_adds s t (Ok x) bytes p = wrote_added s t bytes p
    writes_adds s t (Err e) bytes p = p

    pub writes_empty : (s t : Sink W) (r : Result A E) (bytes : List ℕ) → Writes contents s t r bytes → OnOk r (t.waits ≡ [])
    writes_empty s t (Ok x) bytes p = p.2
    writes_empty s t (Err e) bytes p = tt

    -- what follows of bytes that were added, and of such that were written
    pub adds_then : (s t : Sink W) (P : Type 0) (r : Result A E) (bytes : List ℕ) → (Added contents s t bytes → P) → Adds contents s t r bytes → OnOk r P
    adds_then s t P (Ok x) bytes f q = f q
    adds_then s t P (Err e) bytes f q = tt

    pub writes_then : (s t : Sink W) (P : Type 0) (r : Result A E) (bytes : List ℕ) → (Appends (contents s.inner) (contents t.inner) (s.waits ++ bytes) → P) → Writes contents s t r bytes → OnOk r P
    writes_then s t P (Ok x) bytes f q = f q.3
    writes_then s t P (Err e) bytes f q = tt

    -- what a call did that succeeded, and what one did that failed
    pub added : (s t : Sink W) (r : Result A E) (bytes : List ℕ) → is_err r ≡ false → Adds contents s t r bytes → Added contents s t bytes
    added s t (Ok x) bytes e p = p
    added s t (Err y) bytes e p = absurd (true≢false e)

    pub not_added : (s t : Sink W) (r : Result A E) (bytes : List ℕ) → is_err r ≡ true → Adds contents s t r bytes → Stops contents s t bytes
    not_added s t (Ok x) bytes e p = absurd (true≢false (sym e))
    not_added s t (Err y) bytes e p = p

  -- what waited was written, and the writer inside given back
  pub ends_written : {E : Type 0} (s t : Sink W) (r : Result (Unit {0}) E) → Writes contents s t r [] → Ends contents s t.inner r
  ends_written s t (Ok x) p = (p.0, rw append-nil at p.3)
  ends_written s t (Err e) p = (λ failed. ap (λ (k : Sink W). k.inner) (p.before failed), λ clean. rw append-nil at (p.part clean))
