-- The headers of IPv6 that are skipped, one after another.
use Rattle.std.proofs.Common.{◌≡◌, ◌≢◌, ◌↔◌, inl, inr, ℕ, zero, suc, ◌<◌, ◌≤◌, ◌==◌, ◌&&◌, ◌||◌, nat_lt, Bool, true, false, List, length, length-drop, drop, refl, sym, ap, ◌∙◌, subst, arith, Some}
use Rattle.std.proofs.lemmas.Bool.{false≢true, or_cases}
use Rattle.std.proofs.lemmas.Bool.Decides.{Decides-eqb}
use Rattle.net_udp.specs.Frames.{at, Reached, is_extension, is_atomic, fragment_header, fragment_of, is_read_part, is_skippable, skipped_size, IsSkipped, Stops, StopsAfter, ReachesOver}
use Rattle.net_udp.specs.declared.frames.packet.Fragment.{Fragment}

-- the number of a fragment header is none of the others
no_extension : (next : ℕ) → next ≡ fragment_header → is_extension next ≡ true → ⊥
no_extension next is test = false≢true (ap is_extension (sym is) ∙ test)

-- what is skipped is an extension header
both_hold : (a b : Bool) → (a && b) ≡ true → a ≡ true
both_hold true b e = refl
both_hold false b e = cc

named : (next n : ℕ) → is_extension n ≡ true → (next == n) ≡ true → is_extension next ≡ true
named next n known e = ap is_extension ((Decides-eqb next n).0 e) ∙ known

is_named : (next : ℕ) (bytes : List ℕ) → is_skippable next bytes ≡ true → is_extension next ≡ true
is_named next bytes e = elim (or_cases (next == 0 || next == 60) (((next == 51) && nat_lt 0 (at bytes 1)) || ((next == 43) && (at bytes 3 == 0))) e) [
  | inl options ↦ elim (or_cases (next == 0) (next == 60) options) [ inl hops ↦ named next 0 refl hops | inr target ↦ named next 60 refl target ]
  | inr other ↦ elim (or_cases ((next == 51) && nat_lt 0 (at bytes 1)) ((next == 43) && (at bytes 3 == 0)) other) [
    | inl authenticates ↦ named next 51 refl (both_hold (next == 51) (nat_lt 0 (at bytes 1)) authenticates)
    | inr routes ↦ named next 43 refl (both_hold (next == 43) (at bytes 3 == 0) routes)
  ]
]

pub skipped_does_not_stop : (next : ℕ) (bytes : List ℕ) (r : Reached) → IsSkipped next bytes → Stops next bytes r → ⊥
skipped_does_not_stop next bytes r (long, fits, inl test) (inl (plain, other, is)) = false≢true (sym plain ∙ is_named next bytes test)
skipped_does_not_stop next bytes r (long, fits, inl test) (inr (is_part, room, part, units, is)) = no_extension next is_part (is_named next bytes test)
skipped_does_not_stop next bytes r (long, fits, inr (is_whole, whole)) (inl (plain, other, is)) = other is_whole
skipped_does_not_stop next bytes r (long, fits, inr (is_whole, whole)) (inr (is_part, room, part, units, is)) = false≢true (sym part ∙ whole)

-- a header that is skipped, and what follows it
pub step : (next : ℕ) (bytes : List ℕ) (r : Reached) → IsSkipped next bytes → ReachesOver next bytes r ↔ ReachesOver (at bytes 0) (drop (skipped_size next bytes) bytes) r
step next bytes r skipped = ((λ s. forth s.0 s.1), λ s. (suc s.0, (skipped, s.1)))
  where
    forth : (headers : ℕ) → StopsAfter headers next bytes r → ReachesOver (at bytes 0) (drop (skipped_size next bytes) bytes) r
    forth zero s = absurd (skipped_does_not_stop next bytes r skipped s)
    forth (suc headers) s = (headers, s.1)

-- nothing is reached over a header that is cut
pub cut_header : (next : ℕ) (bytes : List ℕ) (r : Reached) → (IsSkipped next bytes → ⊥) → (Stops next bytes r → ⊥) → ReachesOver next bytes r → ⊥
cut_header next bytes r not_skipped not_there s = none s.0 s.1
  where
    none : (headers : ℕ) → StopsAfter headers next bytes r → ⊥
    none zero p = not_there p
    none (suc headers) p = not_skipped p.0

pub no_stop_in_extension : (next : ℕ) (bytes : List ℕ) (r : Reached) → next ≢ fragment_header → is_extension next ≡ true → Stops next bytes r → ⊥
no_stop_in_extension next bytes r other test (inl (plain, _, is)) = false≢true (sym plain ∙ test)
no_stop_in_extension next bytes r other test (inr (is_part, room, part, units, is)) = other is_part

-- nothing is reached over a header that is not read
pub unread : (next : ℕ) (bytes : List ℕ) (r : Reached) → next ≢ fragment_header → is_extension next ≡ true → is_skippable next bytes ≡ false → ReachesOver next bytes r → ⊥
unread next bytes r other test kept = cut_header next bytes r (λ skipped. elim skipped.2 [ inl skip ↦ false≢true (sym kept ∙ skip) | inr part ↦ other part.0 ]) (no_stop_in_extension next bytes r other test)

pub no_stop_in_fragment : (next : ℕ) (bytes : List ℕ) (r : Reached) → next ≡ fragment_header → length bytes < 8 → Stops next bytes r → ⊥
no_stop_in_fragment next bytes r is_fragment short (inl (plain, other, is)) = other is_fragment
no_stop_in_fragment next bytes r is_fragment short (inr (is_part, room, part, units, is)) = omega (arith, room)

-- nor in a fragment that is not read
pub no_stop_in_part : (next : ℕ) (bytes : List ℕ) (r : Reached) → next ≡ fragment_header → is_read_part bytes ≡ false → Stops next bytes r → ⊥
no_stop_in_part next bytes r is_fragment odd (inl (plain, other, is)) = other is_fragment
no_stop_in_part next bytes r is_fragment odd (inr (is_part, room, part, units, is)) = false≢true (sym odd ∙ units)

pub unread_part : (bytes : List ℕ) (r : Reached) → is_atomic bytes ≡ false → is_read_part bytes ≡ false → ReachesOver fragment_header bytes r → ⊥
unread_part bytes r part odd =
    cut_header fragment_header bytes r (λ skipped. elim skipped.2 [ inl skip ↦ false≢true skip | inr whole ↦ false≢true (sym part ∙ whole.1) ]) (no_stop_in_part fragment_header bytes r refl odd)

-- a fragment header that is not skipped is one of a part
pub stops_at_part : (next : ℕ) (bytes : List ℕ) (part : Fragment) (content : List ℕ) → next ≡ fragment_header → 8 ≤ length bytes → (IsSkipped next bytes → ⊥) → is_read_part bytes ≡ true → part ≡ fragment_of bytes → content ≡ drop 8 bytes
    → Stops next bytes (record { protocol = at bytes 0; fragment = Some part; content = content })
stops_at_part next bytes part content is_fragment long not_skipped units part_is content_is =
    inr (is_fragment, long, atom (is_atomic bytes) refl, units, λ i. record { protocol = at bytes 0; fragment = Some (part_is i); content = content_is i })
  where
    eight : skipped_size next bytes ≡ 8
    eight = ap (λ n. skipped_size n bytes) is_fragment

    atom : (b : Bool) → is_atomic bytes ≡ b → is_atomic bytes ≡ false
    atom true e = absurd (not_skipped (long, omega (arith, eight, long), inr (is_fragment, e)))
    atom false e = e

stops_one : (next : ℕ) (bytes : List ℕ) (r s : Reached) → Stops next bytes r → Stops next bytes s → r ≡ s
stops_one next bytes r s (inl (_, _, is)) (inl (_, _, as_well)) = is ∙ sym as_well
stops_one next bytes r s (inl (_, other, is)) (inr (is_part, _, _, _, as_well)) = absurd (other is_part)
stops_one next bytes r s (inr (is_part, _, _, _, is)) (inl (_, other, as_well)) = absurd (other is_part)
stops_one next bytes r s (inr (_, _, _, _, is)) (inr (_, _, _, _, as_well)) = is ∙ sym as_well

one : (headers others next : ℕ) (bytes : List ℕ) (r s : Reached) → StopsAfter headers next bytes r → StopsAfter others next bytes s → r ≡ s
one zero zero next bytes r s p q = stops_one next bytes r s p q
one zero (suc others) next bytes r s p q = absurd (skipped_does_not_stop next bytes r q.0 p)
one (suc headers) zero next bytes r s p q = absurd (skipped_does_not_stop next bytes s p.0 q)
one (suc headers) (suc others) next bytes r s p q = one headers others (at bytes 0) (drop (skipped_size next bytes) bytes) r s p.1 q.1

-- one thing is reached
pub reaches_one : (next : ℕ) (bytes : List ℕ) (r s : Reached) → ReachesOver next bytes r → ReachesOver next bytes s → r ≡ s
reaches_one next bytes r s p q = one p.0 q.0 next bytes r s p.1 q.1

-- the loop's step
pub next_header : (next : ℕ) (bytes : List ℕ) (size : ℕ) (rest : List ℕ) → IsSkipped next bytes → size ≡ skipped_size next bytes → rest ≡ drop size bytes → (r : Reached) → ReachesOver next bytes r ↔ ReachesOver (at bytes 0) rest r
next_header next bytes size rest skipped size_is rest_is r =
    let all : rest ≡ drop (skipped_size next bytes) bytes = rest_is ∙ ap (λ n. drop n bytes) size_is in
    subst (λ (x : List ℕ). ReachesOver next bytes r ↔ ReachesOver (at bytes 0) x r) (sym all) (step next bytes r skipped)

-- what is reached is no longer
pub within : (headers next : ℕ) (bytes : List ℕ) (r : Reached) → StopsAfter headers next bytes r → length r.content ≤ length bytes
within zero next bytes r (inl (_, _, is)) = omega (arith, ap (λ (x : Reached). length x.content) is)
within zero next bytes r (inr (_, _, _, _, is)) = omega (arith, ap (λ (x : Reached). length x.content) is, length-drop 8 bytes)
within (suc headers) next bytes r p =
    let shorter = within headers (at bytes 0) (drop (skipped_size next bytes) bytes) r p.1 in
    omega (arith, shorter, length-drop (skipped_size next bytes) bytes)
