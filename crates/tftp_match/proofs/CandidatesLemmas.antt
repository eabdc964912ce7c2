-- Which transfers of two recordings have the same request.
use Rattle.std.proofs.Common.{◌≡◌, ◌↔◌, ◌++◌, ◌∷◌, ◌+◌, ◌<◌, ◌≤◌, [], ℕ, Bool, true, false, List, IsTrue, Some, None, ap, append-nil, append_assoc, arith, get_or, inl, inr, length, map, flat_map, refl, sym, take, ◌∙◌}
use Rattle.std.proofs.lemmas.Bool.{false≢true}
use Rattle.std.proofs.Math.Nat.{eq-or-lt_of_le}
use Rattle.std.proofs.lemmas.List.{flat_map_more, get_or_default, take_more}
use Rattle.tftp_packet.specs.{Request, RequestParts, Spells, WrittenRequest, parts}
use Rattle.tftp_packet.proofs.Unique.{one_message}
use Rattle.audit_recording.specs.declared.session.requests.Asked.{Asked}
use Rattle.tftp_match.specs.Candidates.{AreThose, HasSome, HaveOneRequest, IsRequestIn, kept, left_out, nothing}

-- ---- requests

same_parts : (a b : RequestParts) → Request a ≡ Request b → a ≡ b
same_parts a b e = cc

-- a payload spells one request
pub one_request : (payload : List ℕ) (a b : RequestParts) → Spells payload (Request a) → Spells payload (Request b) → a ≡ b
one_request payload a b p q = same_parts a b (one_message payload (Request a) (Request b) p.1 q.1)

-- what the other asks too is what the payload asks
pub asked_again : (payload again : List ℕ) (q : RequestParts) → Spells payload (Request q) → HaveOneRequest payload again → Spells again (Request q)
asked_again payload again q spells h = rw (one_request payload q h.request spells h.spelled) h.again

pub asks_same : (payload : List ℕ) (view : WrittenRequest) (asked : RequestParts) (is : Bool) → IsRequestIn payload (Some (parts view)) → (IsTrue is ↔ (asked ≡ parts view)) → (IsTrue is ↔ Spells payload (Request asked))
asks_same payload view asked is spells same = ((λ t. rw (same.0 t) spells), (λ s. same.1 (one_request payload asked (parts view) s spells)))

pub asks_none : (payload : List ℕ) (asked : RequestParts) → IsRequestIn payload None → (IsTrue false ↔ Spells payload (Request asked))
asks_none payload asked none = ((λ t. absurd (false≢true t)), (λ s. absurd (none asked s)))

-- ---- which of a list have a property

-- of two lists one behind the other
pub those_both : {A B : Type 0} {Has : A → Type 0} {told : A → B} {xs ys : List A} {ss ts : List B} → AreThose Has told xs ss → AreThose Has told ys ts → AreThose Has told (xs ++ ys) (ss ++ ts)
those_both nothing q = q
those_both (kept x all those has p) q = kept x _ _ has (those_both p q)
those_both (left_out x all those hasnt p) q = left_out x _ _ hasnt (those_both p q)

-- of one more, which has it
pub one_more : {A B : Type 0} {Has : A → Type 0} {told : A → B} (xs : List A) (i : ℕ) (d : A) (ss : List B) → i < length xs → Has (get_or xs i d) → AreThose Has told (take i xs) ss → AreThose Has told (take (i + 1) xs) (ss ++ told (get_or xs i d) ∷ [])
one_more xs i d ss within has p = rw (take_more xs i d within) (those_both p (kept (get_or xs i d) [] [] has nothing))

-- of one more, which has it not
pub other_more : {A B : Type 0} {Has : A → Type 0} {told : A → B} (xs : List A) (i : ℕ) (d : A) (ss : List B) → i < length xs → (Has (get_or xs i d) → ⊥) → AreThose Has told (take i xs) ss → AreThose Has told (take (i + 1) xs) ss
other_more xs i d ss within hasnt p = rw (take_more xs i d within) (rw (append-nil ss) at (those_both p (left_out (get_or xs i d) [] [] hasnt nothing)))

-- what was pushed behind others is of those so far and of one more
pub pushed_more : {A B : Type 0} {Has : A → Type 0} {told : A → B} (xs : List A) (i : ℕ) (d : A) (others was now ss : List B) → now ≡ was ++ told (get_or xs i d) ∷ [] → was ≡ others ++ ss → i < length xs → Has (get_or xs i d) → AreThose Has told (take i xs) ss → (added : List B) × (now ≡ others ++ added) × AreThose Has told (take (i + 1) xs) added
pushed_more {told = told} xs i d others was now ss pushed is within has p =
    (ss ++ told (get_or xs i d) ∷ [], pushed ∙ ap (λ l. l ++ told (get_or xs i d) ∷ []) is ∙ append_assoc others ss (told (get_or xs i d) ∷ []), one_more xs i d ss within has p)

pub none_has : {A B : Type 0} {Has : A → Type 0} {told : A → B} (xs : List A) → ((x : A) → Has x → ⊥) → AreThose Has told xs []
none_has [] hasnt = nothing
none_has (x ∷ xs) hasnt = left_out x xs [] (hasnt x) (none_has xs hasnt)

-- of what is made of each
pub those_mapped : {A B C : Type 0} {Has : C → Type 0} {told : C → B} (f : A → C) {xs : List A} {ss : List B} → AreThose (λ x. Has (f x)) (λ x. told (f x)) xs ss → AreThose Has told (map f xs) ss
those_mapped f nothing = nothing
those_mapped f (kept x all those has p) = kept (f x) (map f all) those has (those_mapped f p)
those_mapped f (left_out x all those hasnt p) = left_out (f x) (map f all) those hasnt (those_mapped f p)

-- of what is made of one more
pub made_more : {A B C : Type 0} {Has : C → Type 0} {told : C → B} (f : A → List C) (xs : List A) (i : ℕ) (d : A) (ss ts now : List B) → i < length xs → AreThose Has told (flat_map f (take i xs)) ss → AreThose Has told (f (get_or xs i d)) ts → now ≡ ss ++ ts → AreThose Has told (flat_map f (take (i + 1) xs)) now
made_more f xs i d ss ts now within p q is =
    let more : flat_map f (take (i + 1) xs) ≡ flat_map f (take i xs) ++ f (get_or xs i d) = ap (flat_map f) (take_more xs i d within) ∙ sym (flat_map_more f [] (take i xs) (get_or xs i d)) in
    rw more (rw is (those_both p q))

-- ---- whether some of the others has the request

-- none has what is no request
pub among_nothing : (payload : List ℕ) (others : List Asked) → IsRequestIn payload None → (IsTrue false ↔ HasSome others payload)
among_nothing payload others none = ((λ t. absurd (false≢true t)), (λ (k, x, within, at, h). absurd (none h.request h.spelled)))

-- the one at this place has it
pub among_found : (payload : List ℕ) (others : List Asked) (i : ℕ) (d : Asked) (q : RequestParts) → i < length others → Spells payload (Request q) → Spells (get_or others i d).payload.now (Request q) → (IsTrue true ↔ HasSome others payload)
among_found payload others i d q within spells again = ((λ t. (i, get_or others i d, within, get_or_default others i (get_or others i d) d within, record { request = q; spelled = spells; again = again })), (λ h. refl))

-- none before this place has it
abbrev pub NoneBefore : List ℕ → List Asked → ℕ → Type 0
NoneBefore payload others i = (k : ℕ) (x : Asked) → k < i → get_or others k x ≡ x → HaveOneRequest payload x.payload.now → ⊥

at_most : (k i : ℕ) → k < i + 1 → k ≤ i
at_most k i below = omega arith

-- nor has the next
pub among_more : (payload : List ℕ) (others : List Asked) (i : ℕ) (d : Asked) (q : RequestParts) (is : Bool) → i < length others → Spells payload (Request q) → is ≡ false → (IsTrue is ↔ Spells (get_or others i d).payload.now (Request q)) → NoneBefore payload others i → NoneBefore payload others (i + 1)
among_more payload others i d q is within spells isnt asks before k x below at h = elim (eq-or-lt_of_le (at_most k i below)) [
  | inl same ↦ (
      let here : get_or others i d ≡ x = get_or_default others i d x within ∙ (rw same at at) in
      false≢true (sym isnt ∙ asks.1 (rw here (asked_again payload x.payload.now q spells h))))
  | inr less ↦ before k x less at h
]

-- none has it where none of all has
pub among_none : (payload : List ℕ) (others : List Asked) (i : ℕ) → length others ≤ i → NoneBefore payload others i → (IsTrue false ↔ HasSome others payload)
among_none payload others i all before = ((λ t. absurd (false≢true t)), (λ (k, x, within, at, h). absurd (before k x (omega arith) at h)))
