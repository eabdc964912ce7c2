-- Parts give one content, and those that it was cut into give it in any order.
use Rattle.std.proofs.Common.{◌≡◌, ◌≢◌, ℕ, ◌+◌, ◌<◌, ◌≤◌, Bool, true, false, inl, inr, List, [], ◌∷◌, ◌++◌, length, slice_index, refl, sym, ap, ◌∙◌, subst, arith, append_assoc, append-nil, length-append}
use Rattle.std.specs.List.{AllByRecursion}
use Rattle.std.proofs.lemmas.Bool.{cases_lt}
use Rattle.std.proofs.lemmas.List.{ext_get_or, get_or-append-add, get_or_append_left}
use Rattle.net_udp.specs.Fragments.Whole.{Content, Part}
use Rattle.net_udp.specs.Fragments.{Among, AreSame, Covers, EndsRightly, FirstNames, Give, HasPart, InRow, IsCutInto, end_of}
use Rattle.net_udp.proofs.FragmentsLemmas.Members.{all_at, all_from, among_at, byte_of, first_part, last_ends, member}

size_of : (parts : List Part) (whole : Content) (p : Part) → p.more ≡ false → HasPart whole p → end_of p ≡ length whole.bytes
size_of parts whole p e h = last_ends p.more (end_of p) (length whole.bytes) e h.ends

same_bytes : (parts : List Part) (one other : Content) → Give parts one → Give parts other → one.bytes ≡ other.bytes
same_bytes parts one other g h =
    let m = member (λ p. p.more ≡ false) parts g.last in
    let e : length one.bytes ≡ length other.bytes = sym (size_of parts one m.0 m.1 (all_at (HasPart one) parts m.0 g.each m.2)) ∙ size_of parts other m.0 m.1 (all_at (HasPart other) parts m.0 h.each m.2) in
    ext_get_or 0 one.bytes other.bytes e (λ k within.
    let c = member (Covers k) parts (g.covered k within) in
    byte_of one c.0 k (all_at (HasPart one) parts c.0 g.each c.2) c.1 ∙ sym (byte_of other c.0 k (all_at (HasPart other) parts c.0 h.each c.2) c.1))

same_protocol : (parts : List Part) (one other : Content) → Give parts one → Give parts other → one.protocol ≡ other.protocol
same_protocol parts one other g h =
    let m = first_part parts one g in
    sym ((all_at (HasPart one) parts m.0 g.each m.2).first m.1) ∙ (all_at (HasPart other) parts m.0 h.each m.2).first m.1

abbrev content : ℕ → List ℕ → Content
content protocol bytes = record { protocol = protocol; bytes = bytes }

same_content : (one other : Content) → one.protocol ≡ other.protocol → one.bytes ≡ other.bytes → one ≡ other
same_content one other e f = ap (λ (n : ℕ). content n one.bytes) e ∙ ap (content other.protocol) f

pub one_content : (parts : List Part) (one other : Content) → Give parts one → Give parts other → one ≡ other
one_content parts one other g h = same_content one other (same_protocol parts one other g h) (same_bytes parts one other g h)

-- ---- parts in a row

nonempty : (xs : List ℕ) → xs ≢ [] → 1 ≤ length xs
nonempty [] h = absurd (h refl)
nonempty (x ∷ xs) h = omega arith

first_fits : (place : ℕ) (p : Part) (ps : List Part) (bytes : List ℕ) → InRow place (p ∷ ps) bytes → length p.content ≤ length bytes
first_fits place p [] bytes r = omega (arith, ap length r.2)
first_fits place p (q ∷ ps) bytes r = omega (arith, ap length r.5, length-append p.content r.0)

-- what the parts of a row have in the content, after what stands before them
record Row (front : List ℕ) (whole : Content) (parts : List Part) : Type 0 where
  each : AllByRecursion (HasPart whole) parts
  covered : (k : ℕ) → length front ≤ k → k < length whole.bytes → Among (Covers k) parts
  last : Among (λ p. p.more ≡ false) parts

part_there : (front bytes rest : List ℕ) (p : Part) (place i : ℕ) → p.place ≡ place → place ≡ length front → i < length p.content → bytes ≡ p.content ++ rest
    → slice_index (front ++ bytes) (p.place + i) ≡ slice_index p.content i
part_there front bytes rest p place i e f within are =
    let at : p.place + i ≡ length front + i = omega arith in
    rw (at, are) (get_or-append-add front (p.content ++ rest) i 0 ∙ get_or_append_left p.content rest 0 i within)

right_end_last : (more : Bool) (end size : ℕ) → more ≡ false → end ≡ size → EndsRightly more end size
right_end_last true end size e h = cc
right_end_last false end size e h = h

right_end_inner : (more : Bool) (end size : ℕ) → more ≡ true → end < size → EndsRightly more end size
right_end_inner true end size e h = h
right_end_inner false end size e h = cc

not_none : (xs : List ℕ) → xs ≢ [] → length xs ≡ 0 → ⊥
not_none xs h e = absurd (omega (arith, nonempty xs h, e))

row : (protocol : ℕ) (front bytes : List ℕ) (place : ℕ) (parts : List Part) → place ≡ length front → (place ≡ 0 → FirstNames protocol parts) → InRow place parts bytes → Row front (content protocol (front ++ bytes)) parts
row protocol front bytes place [] e names r = absurd r
row protocol front bytes place (p ∷ []) e names r = record {
  each = (
    record {
      bytes = λ i within. part_there front bytes [] p place i r.0 e within (r.2 ∙ sym (append-nil p.content));
      ends = right_end_last p.more (end_of p) (length (front ++ bytes)) r.1 (omega (arith, r.0, ap length r.2, length-append front bytes));
      first = λ at. names (sym r.0 ∙ at);
    },
    tt,
  );
  covered = λ k low high. inl (omega (arith, r.0), omega (arith, r.0, ap length r.2, length-append front bytes));
  last = inl r.1;
}
row protocol front bytes place (p ∷ q ∷ ps) e names r =
    let rest = r.0 in
    let joined : (front ++ p.content) ++ rest ≡ front ++ bytes = append_assoc front p.content rest ∙ ap (λ l. front ++ l) (sym r.5) in
    let sized : place + length p.content ≡ length (front ++ p.content) = omega (arith, length-append front p.content) in
    let inner : place + length p.content ≡ 0 → FirstNames protocol (q ∷ ps) = λ at. absurd (not_none p.content r.3 (omega (arith, at))) in
    let more : Row (front ++ p.content) (content protocol (front ++ bytes)) (q ∷ ps) =
    subst (λ w. Row (front ++ p.content) (content protocol w) (q ∷ ps)) joined (row protocol (front ++ p.content) rest (place + length p.content) (q ∷ ps) sized inner r.6) in
    let some : 1 ≤ length rest = omega (arith, nonempty q.content r.4, first_fits (place + length p.content) q ps rest r.6) in
    let long : length (front ++ bytes) ≡ length front + (length p.content + length rest) = length-append front bytes ∙ ap (λ n. length front + n) (ap length r.5 ∙ length-append p.content rest) in
    record {
      each = (
        record {
          bytes = λ i within. part_there front bytes rest p place i r.1 e within r.5;
          ends = right_end_inner p.more (end_of p) (length (front ++ bytes)) r.2 (omega (arith, r.1));
          first = λ at. names (sym r.1 ∙ at);
        },
        more.each,
      );
      covered = λ k low high.
          elim (cases_lt k (end_of p)) [
            | inl below ↦ inl (omega (arith, r.1), below)
            | inr above ↦ inr (more.covered k (omega (arith, r.1, length-append front p.content)) high)
          ];
      last = inr more.last;
    }

pub row_gives : (parts : List Part) (whole : Content) → IsCutInto whole parts → Give parts whole
row_gives parts whole r =
    let found = row whole.protocol [] whole.bytes 0 parts refl (λ e. r.1) r.0 in
    record { each = found.each; covered = λ k within. found.covered k (omega arith) within; last = found.last }

pub in_any_order : (parts others : List Part) (whole : Content) → IsCutInto whole parts → AreSame parts others → Give others whole
in_any_order parts others whole r s =
    let g = row_gives parts whole r in
    record {
      each = all_from (HasPart whole) others (λ p a. all_at (HasPart whole) parts p g.each (s.back p a));
      covered = λ k within. let m = member (Covers k) parts (g.covered k within) in among_at (Covers k) others m.0 m.1 (s.there m.0 m.2);
      last = let m = member (λ p. p.more ≡ false) parts g.last in among_at (λ p. p.more ≡ false) others m.0 m.1 (s.there m.0 m.2);
    }
