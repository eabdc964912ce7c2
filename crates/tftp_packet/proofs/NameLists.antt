-- Names of which two are equal, in two lists one after the other.
use Rattle.std.proofs.Common.{◌≡◌, inl, inr, ◌⊎◌, ℕ, List, [], ◌∷◌, ◌++◌, refl, subst}
use Rattle.std.specs.List.{AllByRecursion}
use Rattle.tftp_packet.specs.{AnyOf, HasTwo, HasCommon}

pub any_left : {X : Type 0} (P : X → Type 0) (xs ys : List X) → AnyOf P xs → AnyOf P (xs ++ ys)
any_left P [] ys any = absurd any
any_left P (x ∷ xs) ys (inl here) = inl here
any_left P (x ∷ xs) ys (inr later) = inr (any_left P xs ys later)

pub any_right : {X : Type 0} (P : X → Type 0) (xs ys : List X) → AnyOf P ys → AnyOf P (xs ++ ys)
any_right P [] ys any = any
any_right P (x ∷ xs) ys any = inr (any_right P xs ys any)

any_split : {X : Type 0} (P : X → Type 0) (xs ys : List X) → AnyOf P (xs ++ ys) → AnyOf P xs ⊎ AnyOf P ys
any_split P [] ys any = inr any
any_split P (x ∷ xs) ys (inl here) = inl (inl here)
any_split P (x ∷ xs) ys (inr later) = elim (any_split P xs ys later) [ inl a ↦ inl (inr a) | inr b ↦ inr b ]

pub two_left : (xs ys : List (List ℕ)) → HasTwo xs → HasTwo (xs ++ ys)
two_left [] ys two = absurd two
two_left (x ∷ xs) ys (inl any) = inl (any_left (λ later. x ≡ later) xs ys any)
two_left (x ∷ xs) ys (inr later) = inr (two_left xs ys later)

pub two_right : (xs ys : List (List ℕ)) → HasTwo ys → HasTwo (xs ++ ys)
two_right [] ys two = two
two_right (x ∷ xs) ys two = inr (two_right xs ys two)

pub two_across : (key : List ℕ) (xs ys : List (List ℕ)) → AnyOf (λ x. key ≡ x) xs → AnyOf (λ y. key ≡ y) ys → HasTwo (xs ++ ys)
two_across key [] ys a b = absurd a
two_across key (x ∷ xs) ys (inl here) b = inl (any_right (λ later. x ≡ later) xs ys (subst (λ k. AnyOf (λ y. k ≡ y) ys) here b))
two_across key (x ∷ xs) ys (inr later) b = inr (two_across key xs ys later b)

pub two_skipped : (key : List ℕ) (xs ys : List (List ℕ)) → HasTwo (xs ++ ys) → HasTwo (xs ++ key ∷ ys)
two_skipped key [] ys two = inr two
two_skipped key (x ∷ xs) ys (inl any) = elim (any_split (λ later. x ≡ later) xs ys any) [
  | inl a ↦ inl (any_left (λ later. x ≡ later) xs (key ∷ ys) a)
  | inr b ↦ inl (any_right (λ later. x ≡ later) xs (key ∷ ys) (inr b))
]
two_skipped key (x ∷ xs) ys (inr later) = inr (two_skipped key xs ys later)

-- two that are equal stand both behind, where none in front is equal to another
pub two_behind : (xs ys : List (List ℕ)) → (HasTwo xs → ⊥) → ((key : List ℕ) → AnyOf (λ x. key ≡ x) xs → AnyOf (λ y. key ≡ y) ys → ⊥) → HasTwo (xs ++ ys) → HasTwo ys
two_behind [] ys none apart two = two
two_behind (x ∷ xs) ys none apart (inl any) = elim (any_split (λ later. x ≡ later) xs ys any) [
  | inl a ↦ absurd (none (inl a))
  | inr b ↦ absurd (apart x (inl refl) b)
]
two_behind (x ∷ xs) ys none apart (inr later) = two_behind xs ys (λ two. none (inr two)) (λ key a b. apart key (inr a) b) later

pub all_more : {X : Type 0} (P : X → Type 0) (xs : List X) (x : X) → AllByRecursion P xs → P x → AllByRecursion P (xs ++ x ∷ [])
all_more P [] x all p = (p, tt)
all_more P (y ∷ xs) x all p = (all.0, all_more P xs x all.1 p)

pub any_of : {X : Type 0} (P : X → Type 0) (Q : X → Type 0) (xs : List X) → ((x : X) → P x → Q x) → AnyOf P xs → AnyOf Q xs
any_of P Q [] f any = any
any_of P Q (x ∷ xs) f (inl here) = inl (f x here)
any_of P Q (x ∷ xs) f (inr later) = inr (any_of P Q xs f later)

-- a name that is common stands twice in both lists together
pub two_of_common : (xs ys : List (List ℕ)) → HasCommon xs ys → HasTwo (xs ++ ys)
two_of_common xs [] common = absurd common
two_of_common xs (key ∷ ys) (inl here) = two_across key xs (key ∷ ys) here (inl refl)
two_of_common xs (key ∷ ys) (inr later) = two_skipped key xs ys (two_of_common xs ys later)

pub two_apart : (xs ys : List (List ℕ)) → (HasTwo xs → ⊥) → (HasCommon xs ys → ⊥) → HasTwo (xs ++ ys) → HasTwo ys
two_apart xs ys none apart = two_behind xs ys none (λ key a b. apart (any_of (λ y. key ≡ y) (λ y. AnyOf (λ x. y ≡ x) xs) ys (λ y e. subst (λ k. AnyOf (λ x. k ≡ x) xs) e a) b))
