-- What an end did before it first took an ERROR, and that ERROR.
use Rattle.std.proofs.Common.{◌≡◌, ℕ, ◌⊎◌, Bool, true, false, List, [], ◌∷◌, Contains, inl, inr, refl, sym, subst, ◌∙◌}
use Rattle.std.proofs.lemmas.Bool.{true≢false}
use Rattle.std.specs.List.{list_any}
use Rattle.law_model.specs.Model.{Deed, Sent, Took, MachinePacket, HasSent, Req, Oack, Data, Ack, Error, History, HasTaken, takes_error, heard, MayComeError, IsOneSided, Meaning}
use Rattle.tftp_packet.specs.{End, Client}
use Rattle.law_model.proofs.ModelLemmas.Members.{contains_first, contains_later, contains_cases, contains_none}

-- this end has taken an ERROR
abbrev pub stopped : History → Bool
stopped h = list_any takes_error h

-- it has, or it has not
abbrev pub Either : History → Type 0
Either h = (stopped h ≡ true) ⊎ (stopped h ≡ false)

pub either : (h : History) → Either h
either h = by (stopped h) refl where
  by : (b : Bool) → stopped h ≡ b → Either h
  by true is = inl is
  by false is = inr is

pub heard_all : (h : History) → stopped h ≡ false → heard h ≡ h
heard_all [] going = refl
heard_all (d ∷ h) going = rw (going) refl

pub still_stopped : (d : Deed) (h : History) → stopped h ≡ true → stopped (d ∷ h) ≡ true
still_stopped d h over = by (takes_error d) refl where
  by : (b : Bool) → takes_error d ≡ b → stopped (d ∷ h) ≡ true
  by true is = rw (is) refl
  by false is = rw (is, over) refl

-- where an ERROR was taken, no more is heard
pub heard_stopped : (d : Deed) (h : History) → stopped (d ∷ h) ≡ true → heard (d ∷ h) ≡ heard h
heard_stopped d h over = rw (over) refl

pub taken_stops : (code : ℕ) (text : List ℕ) (h : History) → HasTaken h (Error code text) → stopped h ≡ true
taken_stops code text [] at = absurd (contains_none (Took (Error code text)) at)
taken_stops code text (d ∷ h) at = elim (contains_cases d h (Took (Error code text)) at) [
  | inl same ↦ subst (λ x. stopped (x ∷ h) ≡ true) (sym same) refl
  | inr before ↦ still_stopped d h (taken_stops code text h before)
]

-- the deed that stops an end is an ERROR that comes
pub first_error : (d : Deed) (h : History) → stopped (d ∷ h) ≡ true → stopped h ≡ false → (code : ℕ) × (text : List ℕ) × (d ≡ Took (Error code text))
first_error (Took (Error code text)) h over going = (code, text, refl)
first_error _ h over going = absurd (true≢false (sym over ∙ going))

pub stopped_took : (h : History) → stopped h ≡ true → (code : ℕ) × (text : List ℕ) × HasTaken h (Error code text)
stopped_took [] over = absurd (true≢false (sym over))
stopped_took (d ∷ h) over = elim (either h) [
  | inl before ↦ let took = stopped_took h before in (took.0, took.1, contains_later d h (Took (Error took.0 took.1)) took.2)
  | inr going ↦ let first = first_error d h over going in (first.0, first.1, subst (λ x. Contains (x ∷ h) (Took (Error first.0 first.1))) (sym first.2) (contains_first (Took (Error first.0 first.1)) h))
]

pub going_before : (d : Deed) (h : History) → stopped (d ∷ h) ≡ false → stopped h ≡ false
going_before d h going = elim (either h) [ inl over ↦ absurd (true≢false (sym (still_stopped d h over) ∙ going)) | inr is ↦ is ]

-- what was heard stays heard
pub heard_more : (d : Deed) (h : History) (x : Deed) → Contains (heard h) x → Contains (heard (d ∷ h)) x
heard_more d h x at = elim (either (d ∷ h)) [
  | inl over ↦ subst (λ v. Contains v x) (sym (heard_stopped d h over)) at
  | inr going ↦ subst (λ v. Contains v x) (sym (heard_all (d ∷ h) going)) (contains_later d h x (subst (λ v. Contains v x) (heard_all h (going_before d h going)) at))
]

-- what was heard was done
pub heard_done : (h : History) (x : Deed) → Contains (heard h) x → Contains h x
heard_done [] x at = at
heard_done (d ∷ h) x at = elim (either (d ∷ h)) [
  | inl over ↦ contains_later d h x (heard_done h x (subst (λ v. Contains v x) (heard_stopped d h over) at))
  | inr going ↦ subst (λ v. Contains v x) (heard_all (d ∷ h) going) at
]

-- what comes adds nothing that was sent
pub heard_sent : (p q : MachinePacket) (h : History) → HasSent (heard (Took p ∷ h)) q → HasSent (heard h) q
heard_sent p q h at = elim (either (Took p ∷ h)) [
  | inl over ↦ subst (λ v. HasSent v q) (heard_stopped (Took p) h over) at
  | inr going ↦ elim (contains_cases (Took p) h (Sent q) (subst (λ v. HasSent v q) (heard_all (Took p ∷ h) going) at)) [
    | inl same ↦ absurd (cc)
    | inr before ↦ subst (λ v. HasSent v q) (sym (heard_all h (going_before (Took p) h going))) before
  ]
]

-- ---- the ERROR that came to a lawful history

pub lawful_tail : (m : Meaning) (wire : List ℕ) (e : End) (d : Deed) (h : History) → IsOneSided m wire e (d ∷ h) → IsOneSided m wire e h
lawful_tail m wire e (Sent p) h lawful = lawful.1
lawful_tail m wire e (Took p) h lawful = lawful.1

lawful_error : (m : Meaning) (wire : List ℕ) (e : End) (d : Deed) (h : History) (code : ℕ) (text : List ℕ) → IsOneSided m wire e (d ∷ h) → d ≡ Took (Error code text) → MayComeError e h code text
lawful_error m wire e d h code text lawful is = (subst (λ x. IsOneSided m wire e (x ∷ h)) is lawful).0

-- the ERROR that came: it came after a request, and no other came
pub record Stop (e : End) (h : History) : Type 0 where
  pub code : ℕ
  pub text : List ℕ
  pub came : HasTaken h (Error code text)
  pub asked : e ≡ Client → HasSent (heard h) Req
  pub only : (c : ℕ) (words : List ℕ) → HasTaken h (Error c words) → (c ≡ code) × (words ≡ text)

pub stop : (m : Meaning) (wire : List ℕ) (e : End) (h : History) → IsOneSided m wire e h → stopped h ≡ true → Stop e h
stop m wire e [] lawful over = absurd (true≢false (sym over))
stop m wire e (d ∷ h) lawful over = elim (either h) [ inl before ↦ more (stop m wire e h (lawful_tail m wire e d h lawful) before) | inr going ↦ first going (first_error d h over going) ]
  where
    more : Stop e h → Stop e (d ∷ h)
    more s = record {
      code = s.code;
      text = s.text;
      came = contains_later d h (Took (Error s.code s.text)) s.came;
      asked = λ is. subst (λ v. HasSent v Req) (sym (heard_stopped d h over)) (s.asked is);
      only = λ c words at. elim (contains_cases d h (Took (Error c words)) at) [
        | inl now ↦ let same = (lawful_error m wire e d h c words lawful now).same s.code s.text s.came in (sym same.0, sym same.1)
        | inr before ↦ s.only c words before
      ];
    }

    first : stopped h ≡ false → ((code : ℕ) × (text : List ℕ) × (d ≡ Took (Error code text))) → Stop e (d ∷ h)
    first going (code, text, now) = record {
      code = code;
      text = text;
      came = subst (λ x. Contains (x ∷ h) (Took (Error code text))) (sym now) (contains_first (Took (Error code text)) h);
      asked = λ is. subst (λ v. HasSent v Req) (sym (heard_stopped d h over ∙ heard_all h going)) ((lawful_error m wire e d h code text lawful now).asked is);
      only = λ c words at. elim (contains_cases d h (Took (Error c words)) at) [
        | inl too ↦ let is : Error c words ≡ Error code text = cc in (cc, cc)
        | inr before ↦ absurd (true≢false (sym (taken_stops c words h before) ∙ going))
      ];
    }

pub asked_heard : (m : Meaning) (wire : List ℕ) (e : End) (h : History) → IsOneSided m wire e h → e ≡ Client → HasSent h Req → HasSent (heard h) Req
asked_heard m wire e h lawful client at = elim (either h) [ inl over ↦ (stop m wire e h lawful over).asked client | inr going ↦ subst (λ v. HasSent v Req) (sym (heard_all h going)) at ]
