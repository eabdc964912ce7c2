-- Datagrams that are put one after another.
use Rattle.std.proofs.Common.{◌≡◌, ℕ, ◌+◌, List, [], ◌∷◌, ◌++◌, length-append, map as each, Option, Result, Ok, Err, IsErr, MatchResult, true, false, true≢false, refl, sym, subst, ap, ◌∙◌, arith, append-nil, append_assoc}
use Rattle.std.proofs.lemmas.List.{map-append}
use Rattle.std.proofs.lemmas.List.Concat.{flat_map-append}
use Rattle.tftp_capture.specs.{datagram_line, whole_lines}
use Rattle.net_streams.specs.Streams.{Adds, Gathers, Sink, Stops, WritesPart}
use Rattle.net_streams.proofs.StreamsLemmas.Gathering.{gathers_none, gathers_more, gathers_prefix, stops_after, stops_now}
use Rattle.tftp_packet.specs.Hosts.{Datagram}
use Rattle.tftp_normal.specs.{lines_of, HasPut, Puts}

pub lines_both : (ds es : List Datagram) → lines_of (ds ++ es) ≡ lines_of ds ++ lines_of es
lines_both ds es = ap whole_lines (map-append datagram_line ds es) ∙ flat_map-append (λ (l : List ℕ). l ++ 10 ∷ []) (each datagram_line ds) (each datagram_line es)

module _ {W : Type 0} (contents : W → Option (List ℕ)) where
  pub put_none : (c : Sink W) (s : ℕ) → HasPut contents c c s s []
  put_none c s = record { gathers = gathers_none (contents c.inner) c.waits; counted = omega arith }

  pub put_more : (c0 c1 c2 : Sink W) (s t u : ℕ) (ds es : List Datagram) → HasPut contents c0 c1 s t ds → HasPut contents c1 c2 t u es → HasPut contents c0 c2 s u (ds ++ es)
  put_more c0 c1 c2 s t u ds es p q = record {
    gathers = subst (Gathers (contents c0.inner) (contents c2.inner) c0.waits c2.waits) (sym (lines_both ds es)) (gathers_more _ _ _ _ _ _ (lines_of ds) (lines_of es) p.gathers q.gathers);
    counted = let first = p.counted in let second = q.counted in let both = length-append ds es in omega (arith, first, second, both);
  }

  -- some were put, and then others were not
  pub put_failed : (c0 c1 c2 : Sink W) (s t : ℕ) (ds es more : List Datagram) → HasPut contents c0 c1 s t ds → WritesPart contents c1 c2 (lines_of es) → WritesPart contents c0 c2 (lines_of (ds ++ (es ++ more)))
  put_failed c0 c1 c2 s t ds es more p q =
      let both : lines_of (ds ++ (es ++ more)) ≡ lines_of ds ++ (lines_of es ++ lines_of more) = lines_both ds (es ++ more) ∙ ap (λ l. lines_of ds ++ l) (lines_both es more) in
      subst (WritesPart contents c0 c2) (sym both) (gathers_prefix _ _ _ _ _ (lines_of ds) (lines_of es) (lines_of more) p.gathers q)

  module _ {E : Type 0} where
    -- a write fails now
    pub puts_err : (c0 c1 : Sink W) (r : Result (Unit {0}) E) (s u : ℕ) (ds : List Datagram) → IsErr r → c0.failed ≡ false → c1.failed ≡ true → WritesPart contents c0 c1 (lines_of ds) → Puts contents c0 c1 r s u ds
    puts_err c0 c1 (Ok x) s u ds is clean failed p = absurd (true≢false (sym is))
    puts_err c0 c1 (Err e) s u ds is clean failed p = stops_now contents c0 c1 (lines_of ds) clean failed p

    pub puts_stop : (c0 c1 : Sink W) (r : Result (Unit {0}) E) (s u : ℕ) (ds : List Datagram) → IsErr r → Stops contents c0 c1 (lines_of ds) → Puts contents c0 c1 r s u ds
    puts_stop c0 c1 (Ok x) s u ds is p = absurd (true≢false (sym is))
    puts_stop c0 c1 (Err e) s u ds is p = p

    -- one was put, or was not
    pub put_one : (c0 c1 : Sink W) (r : Result (Unit {0}) E) (s u : ℕ) (d : Datagram) → Adds contents c0 c1 r (datagram_line d ++ 10 ∷ []) → MatchResult r (λ _. u ≡ s + 1) (λ _. u ≡ s) → Puts contents c0 c1 r s u (d ∷ [])
    put_one c0 c1 (Ok x) s u d p e = (
      p.0,
      p.1,
      record { gathers = subst (Gathers (contents c0.inner) (contents c1.inner) c0.waits c1.waits) (sym (append-nil (datagram_line d ++ 10 ∷ []))) p.2; counted = e },
    )
    put_one c0 c1 (Err e) s u d p same = subst (Stops contents c0 c1) (sym (append-nil (datagram_line d ++ 10 ∷ []))) p

    -- some were put, and then others were, or were not
    pub puts_after : (c0 c1 c2 : Sink W) (r : Result (Unit {0}) E) (s t u : ℕ) (ds es : List Datagram) → (c0.failed ≡ false) × (c1.failed ≡ false) × HasPut contents c0 c1 s t ds → Puts contents c1 c2 r t u es
        → Puts contents c0 c2 r s u (ds ++ es)
    puts_after c0 c1 c2 (Ok x) s t u ds es p q = (p.0, q.1, put_more c0 c1 c2 s t u ds es p.2 q.2)
    puts_after c0 c1 c2 (Err e) s t u ds es p q = subst (Stops contents c0 c2) (sym (lines_both ds es)) (stops_after contents c0 c1 c2 (lines_of ds) (lines_of es) (p.0, p.1, p.2.gathers) q)

    pub puts_same : (c0 c1 : Sink W) (r : Result (Unit {0}) E) (s u : ℕ) (ds es : List Datagram) → ds ≡ es → Puts contents c0 c1 r s u ds → Puts contents c0 c1 r s u es
    puts_same c0 c1 r s u ds es is p = subst (Puts contents c0 c1 r s u) is p

  -- ---- what was put of all that is to be put, and what is left

  pub record Putting (before now : Sink W) (old new : ℕ) (rest all : List Datagram) : Type 0 where
    pub done : List Datagram
    pub put : HasPut contents before now old new done
    pub whole : done ++ rest ≡ all

  pub putting_first : (c : Sink W) (s : ℕ) (all : List Datagram) → Putting c c s s all all
  putting_first c s all = record { done = []; put = put_none c s; whole = refl }

  pub putting_next : (c0 c1 c2 : Sink W) (s t u : ℕ) (ds rest all : List Datagram) → Putting c0 c1 s t (ds ++ rest) all → HasPut contents c1 c2 t u ds → Putting c0 c2 s u rest all
  putting_next c0 c1 c2 s t u ds rest all p q = record { done = p.done ++ ds; put = put_more c0 c1 c2 s t u p.done ds p.put q; whole = append_assoc p.done ds rest ∙ p.whole }

  pub putting_failed : (c0 c1 c2 : Sink W) (s t : ℕ) (ds rest all : List Datagram) → Putting c0 c1 s t (ds ++ rest) all → WritesPart contents c1 c2 (lines_of ds) → WritesPart contents c0 c2 (lines_of all)
  putting_failed c0 c1 c2 s t ds rest all p q = subst (λ l. WritesPart contents c0 c2 (lines_of l)) p.whole (put_failed c0 c1 c2 s t p.done ds rest p.put q)

  pub putting_all : (c0 c1 : Sink W) (s t : ℕ) (all : List Datagram) → Putting c0 c1 s t [] all → HasPut contents c0 c1 s t all
  putting_all c0 c1 s t all p = subst (HasPut contents c0 c1 s t) (sym (append-nil p.done) ∙ p.whole) p.put
