-- What holds of two lists with one order, whatever they are of.
use Rattle.std.proofs.Common.{◌≡◌, ◌⊎◌, ◌≤◌, List, [], ◌∷◌, length, inl, inr, refl, sym, subst, ap, arith}
use Rattle.std.proofs.lemmas.Bool.{cases_lt}
use Rattle.tftp_packet.specs.{End, Client, Server}
use Rattle.law_model.specs.Model.Roles.{other_end}
use Rattle.law_pair.specs.{Event, seen_at, AreAllOpen, HaveOneOrder}

module _ {X : Type 0} (Open : List X → X → Type 0) where
  pub nothing : HaveOneOrder Open [] []
  nothing = record { events = []; open_each = tt; client_list = refl; server_list = refl }

  -- one more at an end
  pub at_client : (x : X) (client server : List X) → Open server x → HaveOneOrder Open client server → HaveOneOrder Open (x ∷ client) server
  at_client x client server is merged = record {
    events = record { place = Client; it = x } ∷ merged.events;
    open_each = (subst (λ (xs : List X). Open xs x) (sym merged.server_list) is, merged.open_each);
    client_list = ap (λ (xs : List X). x ∷ xs) merged.client_list;
    server_list = merged.server_list;
  }

  pub at_server : (x : X) (client server : List X) → Open client x → HaveOneOrder Open client server → HaveOneOrder Open client (x ∷ server)
  at_server x client server is merged = record {
    events = record { place = Server; it = x } ∷ merged.events;
    open_each = (subst (λ (xs : List X). Open xs x) (sym merged.client_list) is, merged.open_each);
    client_list = merged.client_list;
    server_list = ap (λ (xs : List X). x ∷ xs) merged.server_list;
  }

  -- what holds of nothing, and still with one more at either end, holds
  module _ (P : List X → List X → Type 0) (none : P [] [])
      (client_step : (x : X) (client server : List X) → Open server x → HaveOneOrder Open client server → P client server → P (x ∷ client) server)
      (server_step : (x : X) (client server : List X) → Open client x → HaveOneOrder Open client server → P client server → P client (x ∷ server)) where
    event_step : (e : End) (x : X) (events : List (Event X)) → Open (seen_at (other_end e) events) x → HaveOneOrder Open (seen_at Client events) (seen_at Server events) → P (seen_at Client events) (seen_at Server events)
        → P (seen_at Client (record { place = e; it = x } ∷ events)) (seen_at Server (record { place = e; it = x } ∷ events))
    event_step Client x events now merged before = client_step x (seen_at Client events) (seen_at Server events) now merged before
    event_step Server x events now merged before = server_step x (seen_at Client events) (seen_at Server events) now merged before

    in_order : (events : List (Event X)) → AreAllOpen Open events → P (seen_at Client events) (seen_at Server events)
    in_order [] all = none
    in_order (s ∷ events) all = event_step s.place s.it events all.0 (record { events = events; open_each = all.1; client_list = refl; server_list = refl }) (in_order events all.1)

    pub by_order : (client server : List X) → HaveOneOrder Open client server → P client server
    by_order client server merged = subst (λ (xs : List X). P xs server) merged.client_list (subst (P (seen_at Client merged.events)) merged.server_list (in_order merged.events merged.open_each))

  -- the two ends the other way round
  pub turned : (client server : List X) → HaveOneOrder Open client server → HaveOneOrder Open server client
  turned = by_order (λ client server. HaveOneOrder Open server client) nothing
      (λ x client server now merged before. at_server x server client now before) (λ x client server now merged before. at_client x server client now before)

  -- what came to the one was sent by the other
  module _ (Came Went : List X → Type 0) (none : Came [] → ⊥) (later : (x : X) (xs : List X) → Went xs → Went (x ∷ xs))
      (step : (x : X) (own other : List X) → Open other x → Came (x ∷ own) → Went other ⊎ Came own) where
    pub to_client_went : (client server : List X) → HaveOneOrder Open client server → Came client → Went server
    to_client_went = by_order (λ client server. Came client → Went server) (λ came. absurd (none came))
        (λ x client server now merged before came. elim (step x client server now came) [ inl went ↦ went | inr came ↦ before came ])
        (λ x client server now merged before came. later x server (before came))

-- ---- where neither can go on, no merge has more

module _ {X : Type 0} where
  -- what the list was at some time
  abbrev pub IsEarlier : List X → List X → Type 0
  IsEarlier a [] = a ≡ []
  IsEarlier a (x ∷ xs) = (a ≡ x ∷ xs) ⊎ IsEarlier a xs

  pub earlier_all : (xs : List X) → IsEarlier xs xs
  earlier_all [] = refl
  earlier_all (x ∷ xs) = inl refl

  pub earlier_rest : (x : X) (a xs : List X) → IsEarlier (x ∷ a) xs → IsEarlier a xs
  earlier_rest x a [] is = absurd (cc)
  earlier_rest x a (y ∷ xs) is = elim is [
    | inl same ↦ let e : a ≡ xs = cc in inr (subst (λ (z : List X). IsEarlier z xs) (sym e) (earlier_all xs))
    | inr before ↦ inr (earlier_rest x a xs before)
  ]

  pub earlier_length : (a xs : List X) → IsEarlier a xs → length a ≤ length xs
  earlier_length a [] is = let e = ap length is in omega (arith, e)
  earlier_length a (x ∷ xs) is = elim is [
    | inl same ↦ let e = ap length same in omega (arith, e)
    | inr before ↦ let low = earlier_length a xs before in omega (arith, low)
  ]

  -- of two that it was, those of one length are the same
  pub earlier_one : (a b xs : List X) → IsEarlier a xs → IsEarlier b xs → length a ≡ length b → a ≡ b
  earlier_one a b [] one other e = cc
  earlier_one a b (x ∷ xs) one other e = elim one [
    | inl same ↦ elim other [ inl too ↦ cc | inr before ↦ let low = earlier_length b xs before in let long = ap length same in absurd (omega (arith, e, low, long)) ]
    | inr before ↦ elim other [ inl same ↦ let low = earlier_length a xs before in let long = ap length same in absurd (omega (arith, e, low, long)) | inr too ↦ earlier_one a b xs before too e ]
  ]

  pub earlier_below : (a b xs : List X) → IsEarlier a xs → IsEarlier b xs → length a ≤ length b → IsEarlier a b
  earlier_below a b [] one other low = subst (IsEarlier a) (sym other) one
  earlier_below a b (x ∷ xs) one other low = elim other [
    | inl same ↦ subst (IsEarlier a) (sym same) one
    | inr before ↦ elim one [ inl same ↦ let less = earlier_length b xs before in let long = ap length same in absurd (omega (arith, low, less, long)) | inr too ↦ earlier_below a b xs too before low ]
  ]

-- what comes after this part of the list waits for more than the other end's list
abbrev pub IsShutAt : {X : Type 0} → (List X → X → Type 0) → List X → List X → List X → Type 0
IsShutAt {X} Open a whole b = (x : X) → IsEarlier (x ∷ a) whole → Open b x → ⊥

module _ {X : Type 0} (Open : List X → X → Type 0) (open_later : (x y : X) (xs : List X) → Open xs x → Open (y ∷ xs) x) where
  still_open : (x : X) (a b : List X) → IsEarlier a b → Open a x → Open b x
  still_open x a [] is now = subst (λ (z : List X). Open z x) is now
  still_open x a (y ∷ b) is now = elim is [ inl same ↦ subst (λ (z : List X). Open z x) same now | inr before ↦ open_later x y b (still_open x a b before now) ]

  one_up : (a whole b all : List X) → IsShutAt Open a whole b → IsEarlier a whole → IsEarlier b all → (x : X) (own other : List X) → IsEarlier (x ∷ own) whole → IsEarlier other all → Open other x
      → length own ≤ length a → length other ≤ length b → length (x ∷ own) ≤ length a
  one_up a whole b all shut is other_is x own other more less now low other_low = elim (cases_lt (length own) (length a)) [
    | inr above ↦
        let same = earlier_one own a whole (earlier_rest x own whole more) is (omega (arith, above, low)) in
        absurd (shut x (subst (λ (z : List X). IsEarlier (x ∷ z) whole) same more) (still_open x other b (earlier_below other b all less other_is other_low) now))
    | inl below ↦ omega (arith, below)
  ]

  pub no_longer : (a b client server : List X) → IsEarlier a client → IsEarlier b server → IsShutAt Open a client b → IsShutAt Open b server a
      → (own other : List X) → HaveOneOrder Open own other → IsEarlier own client → IsEarlier other server → (length own ≤ length a) × (length other ≤ length b)
  no_longer a b client server a_is b_is client_shut server_shut =
      by_order Open (λ own other. IsEarlier own client → IsEarlier other server → (length own ≤ length a) × (length other ≤ length b)) (λ one two. (omega arith, omega arith))
      (λ x own other now merged before more less.
      let low = before (earlier_rest x own client more) less in
      (one_up a client b server client_shut a_is b_is x own other more less now low.0 low.1, low.1))
      (λ x own other now merged before less more.
      let low = before less (earlier_rest x other server more) in
      (low.0, one_up b server a client server_shut b_is a_is x other own more less now low.1 low.0))
