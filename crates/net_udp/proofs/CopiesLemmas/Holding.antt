-- What holds of the packets that are held, told of the memory that holds them.
use Rattle.std.proofs.Common.{◌≡◌, ◌<◌, ◌≤◌, ◌↔◌, ℕ, zero, suc, Bool, true, false, IsTrue, MatchBool, List, [], ◌∷◌, length, take, map, Option, Some, None, slice_index_or, refl, sym, ap, subst, ◌∙◌, arith}
use Rattle.std.specs.List.{Any, AllWithin, HoldsAt, slice_get}
use Rattle.std.specs.Option.{option_map}
use Rattle.std.proofs.lemmas.Bool.{false≢true}
use Rattle.std.proofs.lemmas.List.{get_or-map, length-map, take-map, take-take}
use Rattle.std.proofs.lemmas.Option.{slice_get-map}
use Rattle.net_udp.specs.Copies.{Packet, StandsFor, shown}
use Rattle.net_udp.specs.declared.copies.recent.Held.{Held}

-- a list with an element at a place has some element
some_held : (hs : List Held) (k : ℕ) → k < length hs → Held
some_held [] k l = absurd (omega (arith, l))
some_held (h ∷ hs) k l = h

-- a test that tells of each packet whether it has P tells of all whether one has
pub any_shown : (P : Packet → Type 0) (r : Bool) (hs : List Held) → MatchBool r ((k : ℕ) × (k < length hs) × HoldsAt (λ h. P (shown h)) hs k) (AllWithin (λ h. P (shown h) → ⊥) hs 0 (length hs)) → IsTrue r ↔ Any P (map shown hs)
any_shown P true hs found =
    let h = some_held hs found.0 found.1 in
    let x = shown (slice_index_or hs found.0 h) in
    (λ _. (found.0, x, subst (λ n. found.0 < n) (sym (length-map hs shown)) found.1, get_or-map shown hs found.0 h x found.1, found.2 h), λ _. refl)
any_shown P false hs none = (
  λ e. absurd (false≢true e),
  λ (k, x, l, e, p).
      let low = subst (λ n. k < n) (length-map hs shown) l in
      let h = some_held hs k low in
      absurd (none k h (omega arith) low (subst P (sym e ∙ get_or-map shown hs k h x low) p)),
)

get_take : {X : Type 0} (n : ℕ) (xs : List X) (x : X) → slice_get xs n ≡ Some x → slice_get (take (suc n) xs) n ≡ Some x
get_take zero [] x e = e
get_take zero (y ∷ ys) x e = e
get_take (suc n) [] x e = e
get_take (suc n) (y ∷ ys) x e = get_take n ys x e

-- what was mapped to something is there
mapped : {X Y : Type 0} (f : X → Y) (o : Option X) (y : Y) → option_map f o ≡ Some y → (x : X) × (o ≡ Some x) × (f x ≡ y)
mapped f None y e = let no : ⊥ = cc in absurd no
mapped f (Some x) y e = let same : f x ≡ y = cc in (x, refl, same)

-- with a packet more in place of the oldest, what is held stands for the packets that came
pub holds_more : (hs : List Held) (new : Held) (packet : Packet) (room : ℕ) (came : List Packet) → shown new ≡ packet → ((h : Held) → slice_get hs 15 ≡ Some h → length h.bytes.items ≤ room) → map shown hs ≡ take 16 came → StandsFor (record { held = map shown (new ∷ take 15 hs); room = room }) (packet ∷ came)
holds_more hs new packet room came same fits held = record {
  held = ap (λ p. p ∷ map shown (take 15 hs)) same ∙ ap (λ ps. packet ∷ ps) (sym (take-map shown 15 hs) ∙ ap (take 15) held ∙ take-take 15 16 came (omega arith));
  room = λ p at.
      let there : slice_get (map shown hs) 15 ≡ Some p = ap (λ ps. slice_get ps 15) held ∙ get_take 15 came p at in
      let oldest = mapped shown (slice_get hs 15) p (sym (slice_get-map shown hs 15) ∙ there) in
      subst (λ (q : Packet). length q.bytes ≤ room) oldest.2 (fits oldest.0 oldest.1);
}
