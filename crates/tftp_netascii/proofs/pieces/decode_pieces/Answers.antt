use Rattle.std.proofs.Common.{◌≡◌, ℕ, ◌<◌, Bool, true, false, List, [], ◌∷◌, length, get_or, take, refl, ap, arith, Bor}
use Rattle.std.specs.List.{flat_map}
use Rattle.std.proofs.lemmas.List.{length-append}
use Rattle.std.proofs.lemmas.List.Folds.{length-flat_map-take}
use Rattle.tftp_netascii.specs.{StandsFor, held_count}
use Rattle.tftp_netascii.proofs.pieces.decode_pieces.Goals as goal

-- pieces that join to nothing are empty, and so are those before each
none_before : {X : Type 0} (f : X → List ℕ) (xs : List X) (i : ℕ) (d : X) → i < length xs → flat_map f xs ≡ [] → length (flat_map f (take i xs)) ≡ 0
none_before f xs i d h none = omega (arith, length-flat_map-take f xs i d h, ap length none)

none_here : {X : Type 0} (f : X → List ℕ) (xs : List X) (i : ℕ) (d : X) → i < length xs → flat_map f xs ≡ [] → length (f (get_or xs i d)) ≡ 0
none_here f xs i d h none = omega (arith, length-flat_map-take f xs i d h, ap length none)

held_of_nothing : (holds : Bool) (fed written : List ℕ) → StandsFor holds fed written → length fed ≡ 0 → held_count holds ≡ 0
held_of_nothing false fed written stands none = refl
held_of_nothing true fed written (before, e, reads) none = absurd (let long = length-append before (13 ∷ []) in omega (arith, ap length e))

pub returns-in_err-feed-clause-succeeds : goal.returns-in_err-feed-clause-succeeds
returns-in_err-feed-clause-succeeds c none = absurd (
    let d : Bor (List ℕ) = record { ref_ptr = (0, 0); now = [] } in
    let before = none_before (λ piece. piece.now) c.args.pieces.now c.loop-piece.piece-index d c.loop-piece-test.true none in
    let here = none_here (λ piece. piece.now) c.args.pieces.now c.loop-piece.piece-index d c.loop-piece-test.true none in
    let held = held_of_nothing c.loop-piece.decoder _ c.loop-piece.file.items c.loop-piece.invariant before in
    omega (arith, here, held, c.in_err-feed.ensures.full))
