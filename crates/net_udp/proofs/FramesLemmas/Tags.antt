-- What stands behind a type, one after another.
use Rattle.std.proofs.Common.{◌≡◌, ◌↔◌, ℕ, zero, suc, ◌<◌, ◌≤◌, true, false, List, length, length-drop, drop, refl, sym, ap, subst, ◌∙◌, arith, Some, None}
use Rattle.std.proofs.lemmas.Bool.{false≢true}
use Rattle.net_udp.specs.Frames.{is_shim, shim_size, next_type, IsOver, LeadsOver, LeadsTo}

same_type : (n m : ℕ) → Some n ≡ Some m → n ≡ m
same_type n m e = cc

-- one type is named
pub over_one : (type : ℕ) (bytes : List ℕ) (next other : ℕ) → IsOver type bytes next → IsOver type bytes other → next ≡ other
over_one type bytes next other p q = same_type next other (sym p.2 ∙ q.2)

-- what stands behind a type, and what follows it
pub step : (type : ℕ) (bytes : List ℕ) (next last : ℕ) (content : List ℕ) → IsOver type bytes next → LeadsTo type bytes last content ↔ LeadsTo next (drop (shim_size type) bytes) last content
step type bytes next last content over = ((λ s. forth s.0 s.1), λ s. (suc s.0, (next, over, s.1)))
  where
    forth : (shims : ℕ) → LeadsOver shims type bytes last content → LeadsTo next (drop (shim_size type) bytes) last content
    forth zero s = absurd (false≢true (sym s.0 ∙ over.0))
    forth (suc shims) s = (shims, subst (λ (n : ℕ). LeadsOver shims n (drop (shim_size type) bytes) last content) (over_one type bytes s.0 next s.1 over) s.2)

-- nothing is led to over one that is cut or not read
pub cut_shim : (type : ℕ) (bytes : List ℕ) (last : ℕ) (content : List ℕ) → is_shim type bytes ≡ true → ((next : ℕ) → IsOver type bytes next → ⊥) → LeadsTo type bytes last content → ⊥
cut_shim type bytes last content shim unread s = none s.0 s.1
  where
    none : (shims : ℕ) → LeadsOver shims type bytes last content → ⊥
    none zero p = false≢true (sym p.0 ∙ shim)
    none (suc shims) p = unread p.0 p.1

pub short_shim : (type : ℕ) (bytes : List ℕ) (last : ℕ) (content : List ℕ) → is_shim type bytes ≡ true → length bytes < shim_size type → LeadsTo type bytes last content → ⊥
short_shim type bytes last content shim short = cut_shim type bytes last content shim (λ next over. omega (arith, short, over.1))

pub unread_shim : (type : ℕ) (bytes : List ℕ) (last : ℕ) (content : List ℕ) → is_shim type bytes ≡ true → next_type type bytes ≡ None → LeadsTo type bytes last content → ⊥
unread_shim type bytes last content shim none = cut_shim type bytes last content shim (λ next over. let bad : None ≡ Some next = sym none ∙ over.2 in cc)

one : (shims others type : ℕ) (bytes : List ℕ) (last final : ℕ) (content more : List ℕ) → LeadsOver shims type bytes last content → LeadsOver others type bytes final more → (last ≡ final) × (content ≡ more)
one zero zero type bytes last final content more p q = (p.1 ∙ sym q.1, p.2 ∙ sym q.2)
one zero (suc others) type bytes last final content more p q = absurd (false≢true (sym p.0 ∙ q.1.0))
one (suc shims) zero type bytes last final content more p q = absurd (false≢true (sym q.0 ∙ p.1.0))
one (suc shims) (suc others) type bytes last final content more p q =
    one shims others q.0 (drop (shim_size type) bytes) last final content more
    (subst (λ (n : ℕ). LeadsOver shims n (drop (shim_size type) bytes) last content) (over_one type bytes p.0 q.0 p.1 q.1) p.2) q.2

-- a type leads to one type and one content
pub leads_one : (type : ℕ) (bytes : List ℕ) (last final : ℕ) (content more : List ℕ) → LeadsTo type bytes last content → LeadsTo type bytes final more → (last ≡ final) × (content ≡ more)
leads_one type bytes last final content more p q = one p.0 q.0 type bytes last final content more p.1 q.1

-- the loop's step
pub next_tag : (type : ℕ) (bytes : List ℕ) (next size : ℕ) (rest : List ℕ) → size ≡ shim_size type → rest ≡ drop size bytes → is_shim type bytes ≡ true → size ≤ length bytes → next_type type bytes ≡ Some next
    → (last : ℕ) (content : List ℕ) → LeadsTo type bytes last content ↔ LeadsTo next rest last content
next_tag type bytes next size rest size_is rest_is shim long named last content =
    let all : rest ≡ drop (shim_size type) bytes = rest_is ∙ ap (λ n. drop n bytes) size_is in
    let whole : shim_size type ≤ length bytes = subst (λ (n : ℕ). n ≤ length bytes) size_is long in
    subst (λ (r : List ℕ). LeadsTo type bytes last content ↔ LeadsTo next r last content) (sym all) (step type bytes next last content (shim, whole, named))

-- a type behind which none of them stands
pub no_tag : (type : ℕ) (bytes : List ℕ) → is_shim type bytes ≡ false → LeadsTo type bytes type bytes
no_tag type bytes plain = (zero, (plain, refl, refl))

-- what is led to is no longer
pub within : (shims type : ℕ) (bytes : List ℕ) (last : ℕ) (content : List ℕ) → LeadsOver shims type bytes last content → length content ≤ length bytes
within zero type bytes last content p = omega (arith, ap length p.2)
within (suc shims) type bytes last content p =
    let shorter = within shims p.0 (drop (shim_size type) bytes) last content p.2 in
    omega (arith, shorter, length-drop (shim_size type) bytes)
