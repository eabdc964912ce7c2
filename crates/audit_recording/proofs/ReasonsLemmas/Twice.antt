-- What is kept of datagrams that may have been recorded twice.
use Rattle.std.proofs.Common.{◌≡◌, ◌≤◌, ◌⊎◌, ◌&&◌, ◌||◌, not, nat_lt, nat_eq, ℕ, Bool, true, false, List, [], ◌∷◌, Some, inl, inr, refl, sym, ap, subst, ◌∙◌, arith, ◌++◌, cond, Result, Ok, Err, OnOk, is_ok}
use Rattle.std.proofs.lemmas.Bool.{and_from, and_parts, false≢true}
use Rattle.std.proofs.lemmas.Bool.Decides.{nat_tests}
use Rattle.std.proofs.lemmas.Slice.Eq.{bytes_eq-Decides}
use Rattle.std.specs.Str.{bytes_eq}
use Rattle.audit_flows.specs.Lines.{same_endpoint}
use Rattle.audit_flows.proofs.LinesLemmas.Endpoints.{is_same, same_itself}
use Rattle.audit_recording.specs.declared.blame.twice.Twice.{Twice}
use Rattle.audit_recording.specs.Reasons.Twice.{IsTwiceAfter, IsTwiceOf, Sent, are_beside_equals, is_equal, is_equal_to, is_kept, newest}

either_way : (b : Bool) → (b ≡ true) ⊎ (b ≡ false)
either_way true = inl refl
either_way false = inr refl

-- ---- where one has stood alone, it has

still : (x a b : Bool) → x ≡ true → x ≡ not b → x ≡ not (a && b)
still x true b is broken = broken
still x false b is broken = is

pub stays_broken : (t : Twice) (d : Sent) (older : List Sent) → t.is_broken ≡ true → IsTwiceAfter t older → IsTwiceOf t d older
stays_broken t d [] broken is = absurd (false≢true (sym is.0 ∙ broken))
stays_broken t d (e ∷ rest) broken is = record {
  broken = still t.is_broken (is_equal e d || is_equal_to e (newest rest)) (are_beside_equals (Some e) rest) broken is.broken;
  some = λ whole. absurd (false≢true (sym whole ∙ broken));
  row = λ whole. absurd (false≢true (sym whole ∙ broken));
  ends = λ whole. absurd (false≢true (sym whole ∙ broken));
  last = λ whole. absurd (false≢true (sym whole ∙ broken));
}

-- ---- the one before stood alone exactly if it passed once

turned : (d e : Sent) → is_equal d e ≡ true → is_equal e d ≡ true
turned d e same =
    let parts = and_parts (same_endpoint d.source e.source) (same_endpoint d.target e.target && bytes_eq d.payload e.payload) same in
    let more = and_parts (same_endpoint d.target e.target) (bytes_eq d.payload e.payload) parts.1 in
    and_from _ _ (subst (λ s. same_endpoint s d.source ≡ true) (is_same d.source e.source parts.0) (same_itself d.source))
    (and_from _ _ (subst (λ s. same_endpoint s d.target ≡ true) (is_same d.target e.target more.0) (same_itself d.target))
    ((bytes_eq-Decides e.payload d.payload).1 (sym ((bytes_eq-Decides d.payload e.payload).0 more.1))))

apart : (d e : Sent) → is_equal e d ≡ false → is_equal d e ≡ false
apart d e other = elim (either_way (is_equal d e)) [
  | inl same ↦ absurd (false≢true (sym other ∙ turned d e same))
  | inr off ↦ off
]

alone : (b equal before rest : Bool) (row : ℕ) → 1 ≤ row → b ≡ nat_eq row 1 → equal ≡ false → nat_lt 1 row ≡ before → false ≡ not rest
    → b ≡ not ((equal || before) && rest)
alone b true before rest row some is other was whole = absurd (false≢true (sym other))
alone b false before false row some is other was whole = absurd (false≢true whole)
alone b false true true row some is other was whole = grind (arith, nat_tests)
alone b false false true row some is other was whole = grind (arith, nat_tests)

pub goes_on : (t new : Twice) (d : Sent) (older : List Sent) → t.is_broken ≡ false → is_kept t.ends t.last.items d ≡ false
    → new.is_broken ≡ nat_eq t.row 1 → new.row ≡ 1 → new.ends ≡ Some (d.source, d.target) → new.last.items ≡ d.payload
    → IsTwiceAfter t older → IsTwiceOf new d older
goes_on t new d [] whole other broken row ends last is = record {
  broken = broken ∙ ap (λ r. nat_eq r 1) is.1;
  some = λ _. omega arith;
  row = λ _. ap (nat_lt 1) row;
  ends = λ _. ends;
  last = λ _. last;
}
goes_on t new d (e ∷ rest) whole other broken row ends last is =
    let kept : is_kept t.ends t.last.items d ≡ is_equal e d =
    ap (λ o. is_kept o t.last.items d) (is.ends whole) ∙ ap (λ l. is_kept (Some (e.source, e.target)) l d) (is.last whole) in
    let off : is_equal e d ≡ false = sym kept ∙ other in
    record {
      broken = alone new.is_broken (is_equal e d) (is_equal_to e (newest rest)) (are_beside_equals (Some e) rest) t.row
          (is.some whole) broken off (is.row whole) (sym whole ∙ is.broken);
      some = λ _. omega arith;
      row = λ _. ap (nat_lt 1) row ∙ sym (apart d e off);
      ends = λ _. ends;
      last = λ _. last;
    }

-- ---- where there was memory

pub if_put : {T E P : Type 0} (r : Result T E) (items kept added : List ℕ) → items ≡ cond (is_ok r) (kept ++ added) kept → (items ≡ kept ++ added → P) → OnOk r P
if_put (Ok x) items kept added is make = make is
if_put (Err e) items kept added is make = tt
