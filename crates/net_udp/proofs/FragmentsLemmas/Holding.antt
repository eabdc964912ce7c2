-- What is held of parts: what it says of the content, and one more part.
use Rattle.std.proofs.Common.{◌≡◌, ◌≢◌, ℕ, zero, suc, ◌+◌, ◌-◌, ◌<◌, ◌≤◌, Bool, true, false, ◌⊎◌, inl, inr, List, ◌∷◌, length, slice_index, slice_index_or, Some, None, refl, sym, ap, ◌∙◌, subst, arith}
use Rattle.std.specs.List.{AllByRecursion}
use Rattle.std.proofs.lemmas.Bool.{cases_lt, cases_Bool}
use Rattle.std.proofs.lemmas.List.{get_or-map, length-map}
use Rattle.net_udp.specs.Fragments.Whole.{Content, Part}
use Rattle.net_udp.specs.Fragments.{Among, Covers, EndsRightly, Give, HasPart, end_of, Agrees, AreLaid, Held, HoldsPart, IsComplete, IsHeld, StandsFor, cell}
use Rattle.net_udp.proofs.FragmentsLemmas.Members.{all_at, all_weaker, among_weaker, byte_of, ends_within, first_part, inner_ends, last_ends, member}

some_is : (a b : ℕ) → Some a ≡ Some b → a ≡ b
some_is a b e = cc

pub not_both : (b : Bool) → b ≡ true → b ≡ false → ⊥
not_both b e f = cc

pub by_end : (more : Bool) (end size : ℕ) → (more ≡ false → end ≡ size) → (more ≡ true → end < size) → EndsRightly more end size
by_end true end size last inner = inner refl
by_end false end size last inner = last refl

first_or_not : (place : ℕ) → (place ≡ 0) ⊎ (place ≢ 0)
first_or_not zero = inl refl
first_or_not (suc n) = inr (λ e. absurd (omega (arith, e)))

-- ---- all of the content

pub whole_given : (h : Held) (parts : List Part) (whole : Content) → StandsFor h parts → h.ended ≡ true → IsHeld h whole → Give parts whole
whole_given h parts whole s ended are =
    let size : length h.cells ≡ length whole.bytes = ap length are.0 ∙ length-map whole.bytes (λ (b : ℕ). Some b) in
    let at : (k : ℕ) → k < length whole.bytes → cell h k ≡ Some (slice_index whole.bytes k) = λ k within. ap (λ l. slice_index_or l k None) are.0 ∙ get_or-map (λ (b : ℕ). Some b) whole.bytes k 0 None within in
    record {
      each = all_weaker (HoldsPart h) (HasPart whole) (λ p held. record {
        bytes = λ i within. some_is _ _ (sym (at (p.place + i) (omega (arith, held.within))) ∙ held.bytes i within);
        ends = by_end p.more (end_of p) (length whole.bytes) (λ e. (held.last e).1 ∙ size) (λ e. omega (arith, held.inner e ended));
        first = λ e. some_is _ _ (sym (held.first e) ∙ are.1);
      }) parts s.each;
      covered = λ k within. among_weaker (λ p. Covers k p × (slice_index p.content (k - p.place) ≡ slice_index whole.bytes k)) (Covers k) (λ p c. c.0) parts (s.brought k (slice_index whole.bytes k) (at k within));
      last = s.last ended;
    }

-- the size of the content, where its last part is held
known_size : (h : Held) (parts : List Part) (whole : Content) → AllByRecursion (HasPart whole) parts → StandsFor h parts → Among (λ p. p.more ≡ false) parts → (h.ended ≡ true) × (length whole.bytes ≡ length h.cells)
known_size h parts whole all s a =
    let m = member (λ p. p.more ≡ false) parts a in
    let held = all_at (HoldsPart h) parts m.0 s.each m.2 in
    let has = all_at (HasPart whole) parts m.0 all m.2 in
    ((held.last m.1).0, sym (last_ends m.0.more (end_of m.0) (length whole.bytes) m.1 has.ends) ∙ (held.last m.1).1)

pub complete : (h : Held) (parts : List Part) (whole : Content) → StandsFor h parts → Give parts whole → IsComplete h
complete h parts whole s g =
    let known = known_size h parts whole g.each s g.last in
    record {
      last = known.0;
      full = λ k within.
          let m = member (Covers k) parts (g.covered k (omega (arith, known.1))) in
          let held = all_at (HoldsPart h) parts m.0 s.each m.2 in
          let e : m.0.place + (k - m.0.place) ≡ k = omega (arith, m.1) in
          (slice_index m.0.content (k - m.0.place), rw e at (held.bytes (k - m.0.place) (omega (arith, m.1))));
      named = let m = first_part parts whole g in (m.0.protocol, (all_at (HoldsPart h) parts m.0 s.each m.2).first m.1);
    }

-- ---- parts of one content agree

pub agreed : (h : Held) (parts : List Part) (p : Part) (whole : Content) → 1 ≤ length p.content → StandsFor h parts → AllByRecursion (HasPart whole) parts → HasPart whole p → Agrees h p
agreed h parts p whole some s all has = record {
  bytes = λ i b within e.
      let m = member (λ q. Covers (p.place + i) q × (slice_index q.content (p.place + i - q.place) ≡ b)) parts (s.brought (p.place + i) b e) in
      sym m.1.1 ∙ sym (byte_of whole m.0 (p.place + i) (all_at (HasPart whole) parts m.0 all m.2) m.1.0) ∙ has.bytes i within;
  ends = (
    (λ e. subst (λ n. EndsRightly p.more (end_of p) n) (known_size h parts whole all s (s.last e)).1 has.ends),
    (λ e last. elim (cases_lt (length h.cells) (end_of p)) [
      | inl below ↦ below
      | inr above ↦
          let m = member (λ q. end_of q ≡ length h.cells) parts (s.reach (omega arith)) in
          let held = all_at (HoldsPart h) parts m.0 s.each m.2 in
          let there = all_at (HasPart whole) parts m.0 all m.2 in
          let size = last_ends p.more (end_of p) (length whole.bytes) last has.ends in
          elim (cases_Bool m.0.more) [
            | inl inner ↦ let short = inner_ends m.0.more (end_of m.0) (length whole.bytes) inner there.ends in absurd (omega (arith, m.1))
            | inr outer ↦ absurd (not_both h.ended (held.last outer).0 e)
          ]
    ]),
  );
  names = λ n at e.
      let m = member (λ q. (q.place ≡ 0) × (q.protocol ≡ n)) parts (s.named n e) in
      has.first at ∙ sym ((all_at (HasPart whole) parts m.0 all m.2).first m.1.0) ∙ m.1.1;
}

-- ---- one more part

pub record Added (h : Held) (p : Part) (new : Held) : Type 0 where
  pub laid : AreLaid h.cells p.place p.content new.cells
  pub kept : h.ended ≡ true → new.ended ≡ true
  pub set : p.more ≡ false → new.ended ≡ true
  pub only : new.ended ≡ true → (h.ended ≡ true) ⊎ (p.more ≡ false)
  pub first : p.place ≡ 0 → new.protocol ≡ Some p.protocol
  pub other : p.place ≢ 0 → new.protocol ≡ h.protocol

module _ (h : Held) (p : Part) (new : Held) (agrees : Agrees h p) (added : Added h p new) where
  -- where the last part had come, nothing is longer
  same_size : h.ended ≡ true → length new.cells ≡ length h.cells
  same_size e =
      let within = ends_within p.more (end_of p) (length h.cells) (agrees.ends.0 e) in
      elim added.laid.exact [ inl same ↦ same | inr grown ↦ omega (arith, grown, within, added.laid.longer) ]

  last_size : p.more ≡ false → end_of p ≡ length new.cells
  last_size e =
      elim (cases_Bool h.ended) [
        | inl ended ↦ last_ends p.more (end_of p) (length h.cells) e (agrees.ends.0 ended) ∙ sym (same_size ended)
        | inr before ↦ let past = agrees.ends.1 before e in elim added.laid.exact [ inl same ↦ absurd (omega (arith, same, past, added.laid.reached)) | inr grown ↦ sym grown ]
      ]

  cell_kept : (k b : ℕ) → cell h k ≡ Some b → cell new k ≡ Some b
  cell_kept k b e =
      elim (cases_lt k p.place) [
        | inl low ↦ added.laid.before k low ∙ e
        | inr from ↦ elim (cases_lt k (end_of p)) [
          | inl high ↦
              let at : p.place + (k - p.place) ≡ k = omega arith in
              let i : k - p.place < length p.content = omega arith in
              let same : b ≡ slice_index p.content (k - p.place) = agrees.bytes (k - p.place) b i (ap (λ n. cell h n) at ∙ e) in
              let there : cell new k ≡ Some (slice_index p.content (k - p.place)) = ap (λ n. cell new n) (sym at) ∙ added.laid.there (k - p.place) i in
              there ∙ ap (λ n. Some n) (sym same)
          | inr past ↦ added.laid.behind k past ∙ e
        ]
      ]

  name_kept : (n : ℕ) → h.protocol ≡ Some n → new.protocol ≡ Some n
  name_kept n e = elim (first_or_not p.place) [
    | inl at ↦ added.first at ∙ ap (λ m. Some m) (agrees.names n at e)
    | inr away ↦ added.other away ∙ e
  ]

  still : (q : Part) → HoldsPart h q → HoldsPart new q
  still q held = record {
    bytes = λ i within. cell_kept (q.place + i) (slice_index q.content i) (held.bytes i within);
    within = omega (arith, held.within, added.laid.longer);
    last = λ e. (added.kept (held.last e).0, (held.last e).1 ∙ sym (same_size (held.last e).0));
    inner = λ e ended. elim (added.only ended) [
      | inl before ↦ omega (arith, held.inner e before, added.laid.longer)
      | inr last ↦ elim (cases_Bool h.ended) [
        | inl before ↦ omega (arith, held.inner e before, added.laid.longer)
        | inr before ↦ let past = agrees.ends.1 before last in omega (arith, past, held.within, added.laid.reached)
      ]
    ];
    first = λ e. name_kept q.protocol (held.first e);
  }

  pub stands_more : (parts : List Part) → StandsFor h parts → StandsFor new (p ∷ parts)
  stands_more parts s = record {
    each = (
      record {
        bytes = added.laid.there;
        within = added.laid.reached;
        last = λ e. (added.set e, last_size e);
        inner = λ e ended. elim (added.only ended) [
          | inl before ↦ let short = inner_ends p.more (end_of p) (length h.cells) e (agrees.ends.0 before) in omega (arith, short, added.laid.longer)
          | inr last ↦ absurd (not_both p.more e last)
        ];
        first = added.first;
      },
      all_weaker (HoldsPart h) (HoldsPart new) still parts s.each,
    );
    brought = λ k b e.
        elim (cases_lt k p.place) [
          | inl low ↦ inr (s.brought k b (sym (added.laid.before k low) ∙ e))
          | inr from ↦ elim (cases_lt k (end_of p)) [
            | inl high ↦
                let at : p.place + (k - p.place) ≡ k = omega arith in
                let i : k - p.place < length p.content = omega arith in
                inl ((from, high), some_is _ _ (sym (added.laid.there (k - p.place) i) ∙ ap (λ n. cell new n) at ∙ e))
            | inr past ↦ inr (s.brought k b (sym (added.laid.behind k past) ∙ e))
          ]
        ];
    reach = λ some. elim added.laid.exact [
      | inl same ↦ inr (subst (λ n. Among (λ q. end_of q ≡ n) parts) (sym same) (s.reach (omega (arith, some, same))))
      | inr grown ↦ inl (sym grown)
    ];
    last = λ e. elim (added.only e) [ inl before ↦ inr (s.last before) | inr last ↦ inl last ];
    named = λ n e. elim (first_or_not p.place) [
      | inl at ↦ inl (at, some_is _ _ (sym (added.first at) ∙ e))
      | inr away ↦ inr (s.named n (sym (added.other away) ∙ e))
    ];
  }
