-- What is said at a point is what was found there.
use Rattle.std.proofs.Common.{◌≡◌, Option, Some, None, refl, ap, subst, ◌∙◌}
use Rattle.std.specs.Prelude.{IfSome, is_some, option_map}
use Rattle.audit_rows.specs.Viewing.{found_in}
use Rattle.audit_rows.specs.declared.found.Found.{Found}
use Rattle.audit_rows.specs.declared.viewed.Viewed.{Viewed}

some_found : (o : Option Viewed) (f : Option Found) → found_in o ≡ f → is_some o ≡ is_some f
some_found None f is = ap is_some is
some_found (Some v) f is = ap is_some is

some_mapped : {A : Type 0} (make : A → Found) (o : Option A) → is_some (option_map make o) ≡ is_some o
some_mapped make None = refl
some_mapped make (Some a) = refl

-- something is said where something was found
pub seen : {A : Type 0} (o : Option Viewed) (make : A → Found) (said : Option A) → found_in o ≡ option_map make said → is_some o ≡ is_some said
seen o make said is = some_found o (option_map make said) is ∙ some_mapped make said

-- and it is that
pub kept : {A : Type 0} (o : Option Viewed) (make : A → Found) (said : Option A) (a : A) → found_in o ≡ option_map make said → said ≡ Some a → found_in o ≡ Some (make a)
kept o make said a is known = is ∙ ap (λ s. option_map make s) known

pub on_some : {A : Type 0} (P : A → Type 0) (o : Option A) (a : A) → o ≡ Some a → IfSome o P → P a
on_some P o a is holds = subst (λ q. IfSome q P) is holds
