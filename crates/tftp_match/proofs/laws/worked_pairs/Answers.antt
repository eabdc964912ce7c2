use Rattle.std.proofs.Common.{◌≡◌, ◌<◌, ◌==◌, ◌++◌, ◌∷◌, [], ℕ, List, ap, arith, codes, get_or, inl, inr, refl, rules, subst, sym, ◌∙◌}
use Rattle.std.proofs.lemmas.Bool.{false≢true}
use Rattle.tftp_packet.specs.{Request, RequestParts, Spells}
use Rattle.tftp_packet.specs.Spelling.{octet_read}
use Rattle.audit_recording.specs.declared.session.requests.Asked.{Asked}
use Rattle.tftp_match.specs.Candidates.{AreMeant, ArePairs, AreThose, HaveOne, HaveOneRequest, IsMeant, kept, left_out, nothing, numbers_in}
use Rattle.tftp_match.specs.Worked.{Asks}
use Rattle.tftp_match.proofs.CandidatesLemmas.{one_request}
use Rattle.tftp_match.proofs.laws.worked_pairs.Goals as goal

abbrev payload_of : List ℕ → List ℕ
payload_of name = 0 ∷ 1 ∷ name ++ 0 ∷ codes "octet" ++ 0 ∷ []

reads_a : Spells (payload_of (codes "a")) (Request (octet_read (codes "a")))
reads_a = (
  search rules,
  record {
    mode_text = codes "octet";
    pairs = [];
    bytes = refl;
    strung = search rules;
    named = search rules;
    apart = search rules;
    mode = refl;
    options = refl;
    short = search rules;
  },
)

reads_b : Spells (payload_of (codes "b")) (Request (octet_read (codes "b")))
reads_b = (
  search rules,
  record {
    mode_text = codes "octet";
    pairs = [];
    bytes = refl;
    strung = search rules;
    named = search rules;
    apart = search rules;
    mode = refl;
    options = refl;
    short = search rules;
  },
)

same : (name : List ℕ) (x y : Asked) (i j : ℕ) → Spells (payload_of name) (Request (octet_read name)) → Asks x i name → Asks y j name → HaveOneRequest x.payload.now y.payload.now
same name x y i j reads p q = record { request = octet_read name; spelled = rw p.payload reads; again = rw q.payload reads }

names_of : (name other : List ℕ) (x y : Asked) (i j : ℕ) → Spells (payload_of name) (Request (octet_read name)) → Spells (payload_of other) (Request (octet_read other)) → Asks x i name → Asks y j other → HaveOneRequest x.payload.now y.payload.now → name ≡ other
names_of name other x y i j reads reads_other p q h =
    let one = one_request (payload_of name) (octet_read name) h.request reads (rw p.payload at h.spelled) in
    let two = one_request (payload_of other) (octet_read other) h.request reads_other (rw q.payload at h.again) in
    ap (λ (r : RequestParts). r.name) (one ∙ sym two)

a_is_not_b : codes "a" ≡ codes "b" → ⊥
a_is_not_b e = false≢true (sym (ap (λ l. get_or l 0 0 == 97) e))

pub returns-clause-pairs : goal.returns-clause-pairs
returns-clause-pairs c first second one other p q r s =
    let found : AreThose HaveOne numbers_in ((first, one) ∷ (first, other) ∷ (second, one) ∷ (second, other) ∷ []) ((first.number, other.number) ∷ (second.number, one.number) ∷ []) =
    left_out (first, one) _ _ (λ h. a_is_not_b (names_of _ _ first one _ _ reads_a reads_b p r h))
    (kept (first, other) _ _ (same _ first other _ _ reads_a p s)
    (kept (second, one) _ _ (same _ second one _ _ reads_b q r)
    (left_out (second, other) _ _ (λ h. a_is_not_b (sym (names_of _ _ second other _ _ reads_b reads_a q s h))) nothing))) in
    let numbers : ((first.number, other.number) ∷ (second.number, one.number) ∷ []) ≡ ((1, 2) ∷ (2, 1) ∷ []) = rw p.is_number (rw q.is_number (rw r.is_number (rw s.is_number refl))) in
    subst (λ ns. ArePairs (first ∷ second ∷ []) (one ∷ other ∷ []) ns) numbers found

first_of_one : (k : ℕ) → k < 1 → k ≡ 0
first_of_one k h = omega arith

not_sole : (n : ℕ) → n ≡ 2 → n ≡ 1 → ⊥
not_sole n two one = omega arith

not_meant : (first second one : Asked) → Asks first 1 (codes "a") → Asks one 1 (codes "b") → IsMeant (first ∷ second ∷ []) (one ∷ []) first.payload.now → ⊥
not_meant first second one p r meant = elim meant [
  | inl sole ↦ not_sole 2 refl sole.0
  | inr (k, x, within, at, h) ↦ (
      let is : one ≡ x = rw (first_of_one k within) at at in
      a_is_not_b (names_of _ _ first one _ _ reads_a reads_b p r (subst (λ y. HaveOneRequest first.payload.now y.payload.now) (sym is) h)))
]

pub returns-clause-meant : goal.returns-clause-meant
returns-clause-meant c first second one p q r =
    let found : AreThose (λ asked. IsMeant (first ∷ second ∷ []) (one ∷ []) asked.payload.now) (λ asked. asked.number) (first ∷ second ∷ []) (second.number ∷ []) =
    left_out first _ _ (not_meant first second one p r)
    (kept second _ _ (inr (0, one, omega arith, refl, same _ second one _ _ reads_b q r)) nothing) in
    let numbers : (second.number ∷ []) ≡ (2 ∷ []) = rw q.is_number refl in
    subst (λ ns. AreMeant (first ∷ second ∷ []) (one ∷ []) ns) numbers found

pub returns-clause-sole : goal.returns-clause-sole
returns-clause-sole c first one asks again = rw (sym asks.is_number) (kept first [] [] (inl (refl, refl)) nothing)
