-- What waits under keys that nothing tells apart.
use Rattle.std.proofs.Common.{◌≡◌, Bool, true, [], ◌∷◌, Some, cond, refl, sym, ap, ◌∙◌}
use Rattle.std.specs.Map.{lookup}
use Rattle.std.specs.Ordering.{is_eq}
use Rattle.std.specs.declared.cmp.Ordering.{Ordering}
use Rattle.std.specs.declared.cmp.Ordering.TheVariants.{Equal}
use Rattle.std.proofs.lemmas.Cmp.{tied_itself}
use Rattle.net_udp.specs.Fragments.{key_cmp, same_key, key_total, Sets, set_at}
use Rattle.net_udp.specs.declared.fragments.key.Key.{Key}

equal_if : (o : Ordering) → is_eq o ≡ true → o ≡ Equal
equal_if Equal e = refl
equal_if _ e = cc

pub same_itself : (key : Key) → same_key key key ≡ true
same_itself key = ap is_eq (tied_itself key_total key)

-- what is the same as one of two keys that are the same is the same as the other
pub same_tests : (key other : Key) → same_key key other ≡ true → (k : Key) → same_key key k ≡ same_key other k
same_tests key other e k = ap is_eq (key_total.congr key other k (equal_if (key_cmp key other) e))

pub same_back : (key other : Key) → same_key key other ≡ true → same_key other key ≡ true
same_back key other e = sym (same_tests key other e key) ∙ same_itself key

pub same_on : (a b c : Key) → same_key a b ≡ true → same_key a c ≡ true → same_key b c ≡ true
same_on a b c e f = sym (same_tests a b e c) ∙ f

lookup_same : (p q : Key → Bool) → ((k : Key) → p k ≡ q k) → (sets : Sets) → lookup p sets ≡ lookup q sets
lookup_same p q e [] = refl
lookup_same p q e (x ∷ xs) = ap (λ b. cond b (Some x.1) (lookup p xs)) (e x.0) ∙ ap (λ o. cond (q x.0) (Some x.1) o) (lookup_same p q e xs)

pub same_set_at : (key other : Key) (sets : Sets) → same_key key other ≡ true → set_at key sets ≡ set_at other sets
same_set_at key other sets e = lookup_same (same_key key) (same_key other) (same_tests key other e) sets
