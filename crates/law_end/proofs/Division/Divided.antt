-- What a division says of its datagrams, one at a time.
use Rattle.std.proofs.Common.{◌≡◌, zero, suc, ◌⊎◌, List, [], ◌∷◌, Any, inl, inr, refl, sym, subst, arith}
use Rattle.law_model.specs.Model.{Deed}
use Rattle.law_end.specs.{Main, Labelled, Division, datagrams_of, view_in}
use Rattle.tftp_packet.specs.Hosts.{Datagram}

pub divided_more : (division : Division) (d : Datagram) (ds : List Datagram) → datagrams_of division ≡ d ∷ ds → (p : Labelled) × (rest : Division) × (division ≡ p ∷ rest) × (p.datagram ≡ d) × (datagrams_of rest ≡ ds)
divided_more [] d ds e = absurd (cc)
divided_more (p ∷ rest) d ds e = (p, rest, refl, cc, cc)

pub divided_none : (division : Division) → datagrams_of division ≡ [] → division ≡ []
divided_none [] e = refl
divided_none (p ∷ rest) e = absurd (cc)

-- a main datagram stands in the view
pub view_main : (p : Labelled) (deed : Deed) (rest : Division) → p.label ≡ Main deed → view_in (p ∷ rest) ≡ deed ∷ view_in rest
view_main p deed rest e = subst (λ x. view_in (record { datagram = p.datagram; label = x } ∷ rest) ≡ deed ∷ view_in rest) (sym e) refl

module _ {X : Type 0} where
  pub any_none : (P : X → Type 0) → Any P [] → ⊥
  any_none P (k, x, low, at, holds) = absurd (omega arith)

  pub any_cases : (P : X → Type 0) (y : X) (ys : List X) → Any P (y ∷ ys) → P y ⊎ Any P ys
  any_cases P y ys (zero, x, low, at, holds) = inl (subst P (sym at) holds)
  any_cases P y ys (suc k, x, low, at, holds) = inr (k, x, omega arith, at, holds)

  pub any_first : (P : X → Type 0) (y : X) (ys : List X) → P y → Any P (y ∷ ys)
  any_first P y ys holds = (0, y, omega arith, refl, holds)

  pub any_later : (P : X → Type 0) (y : X) (ys : List X) → Any P ys → Any P (y ∷ ys)
  any_later P y ys (k, x, low, at, holds) = (suc k, x, omega arith, at, holds)
