-- What one more step adds to the view of an end.
use Rattle.std.proofs.Common.{◌≡◌, ◌⊎◌, List, ◌∷◌, Contains, inl, inr, refl}
use Rattle.tftp_packet.specs.{End, Client, Server}
use Rattle.law_model.specs.Model.{Deed, Step, view_of}
use Rattle.law_model.proofs.ModelLemmas.Members.{contains_first, contains_later, contains_cases}

-- what an end did it has done ever after
pub view_later : (e a : End) (p : Deed) (steps : List Step) (d : Deed) → Contains (view_of e steps) d → Contains (view_of e (record { actor = a; deed = p } ∷ steps)) d
view_later Client Client p steps d at = contains_later p _ d at
view_later Client Server p steps d at = at
view_later Server Client p steps d at = at
view_later Server Server p steps d at = contains_later p _ d at

pub view_first : (e : End) (p : Deed) (steps : List Step) → Contains (view_of e (record { actor = e; deed = p } ∷ steps)) p
view_first Client p steps = contains_first p _
view_first Server p steps = contains_first p _

pub view_cases : (e a : End) (p : Deed) (steps : List Step) (d : Deed) → Contains (view_of e (record { actor = a; deed = p } ∷ steps)) d → ((a ≡ e) × (p ≡ d)) ⊎ Contains (view_of e steps) d
view_cases Client Client p steps d at = elim (contains_cases p _ d at) [ inl is ↦ inl (refl, is) | inr more ↦ inr more ]
view_cases Client Server p steps d at = inr at
view_cases Server Client p steps d at = inr at
view_cases Server Server p steps d at = elim (contains_cases p _ d at) [ inl is ↦ inl (refl, is) | inr more ↦ inr more ]

-- the last deed of a view stands in the last step, or in one before
pub view_split : (e a : End) (p : Deed) (steps : List Step) (last : Deed) (before : List Deed) → view_of e (record { actor = a; deed = p } ∷ steps) ≡ last ∷ before → (view_of e steps ≡ before) ⊎ (view_of e steps ≡ last ∷ before)
view_split Client Client p steps last before is = inl (cc)
view_split Client Server p steps last before is = inr is
view_split Server Client p steps last before is = inr is
view_split Server Server p steps last before is = inl (cc)
