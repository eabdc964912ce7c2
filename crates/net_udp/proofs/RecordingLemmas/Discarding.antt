-- What is known of who makes the checksums of hosts, with each frame that tells it.
use Rattle.std.proofs.Common.{◌≡◌, ◌≢◌, Bool, true, false, inl, inr, List, ◌∷◌, Option, Some, None, refl, sym, ap, ◌∙◌, subst, MatchBool}
use Rattle.std.proofs.lemmas.Bool.{cases_Bool, false≢true}
use Rattle.std.proofs.lemmas.Cmp.{tied_itself}
use Rattle.std.proofs.lemmas.Map.Lookups.{exact_bytes}
use Rattle.std.specs.Ordering.{is_eq}
use Rattle.std.specs.declared.cmp.Ordering.{Ordering}
use Rattle.std.specs.declared.cmp.Ordering.TheVariants.{Equal}
use Rattle.std.specs.declared.net.ip_addr.IpAddr.{IpAddr}
use Rattle.std.specs.declared.net.ip_addr.IpAddr.TheVariants.{V4, V6}
use Rattle.net_udp.specs.Fragments.Key.{address_cmp}
use Rattle.net_udp.specs.Fragments.KeyOrder.{address_total}
use Rattle.net_udp.specs.declared.frames.checksum.Checksum.TheVariants.{Absent, Partial, Right, Wrong}
use Rattle.net_udp.specs.declared.frames.checksum.Checksum.{Checksum}
use Rattle.net_udp.specs.Recording.{IsDiscarded, IsKnown, IsUnknown, Knows, Makers, discarded_by, learned, maker_of, same_host}
use Rattle.net_udp.specs.declared.recording.senders.Maker.{Maker}
use Rattle.net_udp.specs.declared.recording.sent.Sent.{Sent}
use Rattle.net_udp.specs.declared.recording.senders.Maker.TheVariants.{Host, Card}

-- ---- addresses that nothing tells apart are one

equal_if : (o : Ordering) → is_eq o ≡ true → o ≡ Equal
equal_if Equal e = refl
equal_if _ e = cc

exact_address : (a b : IpAddr) → address_cmp a b ≡ Equal → a ≡ b
exact_address (V4 a) (V4 b) e = ap (λ octets. V4 (record { octets = octets })) (exact_bytes a.octets b.octets e)
exact_address (V6 a) (V6 b) e = ap (λ segments. V6 (record { segments = segments })) (exact_bytes a.segments b.segments e)
exact_address (V4 a) (V6 b) e = cc
exact_address (V6 a) (V4 b) e = cc

same_one : (a b : IpAddr) → same_host a b ≡ true → a ≡ b
same_one a b e = exact_address a b (equal_if (address_cmp a b) e)

other_one : (a b : IpAddr) → same_host a b ≡ false → a ≢ b
other_one a b other same = false≢true (sym other ∙ ap (λ (x : IpAddr). same_host a x) (sym same) ∙ ap is_eq (tied_itself address_total a))

-- ---- what a frame tells

abbrev tells : Option Sent → IpAddr → Checksum → Type 0
tells sent host checksum = sent ≡ Some (record { host = host; checksum = checksum })

-- nothing of the host that makes a difference
still_known : (maker : Option Maker) (host : IpAddr) (sent : Option Sent) (before : List (Option Sent)) → (tells sent host Right → ⊥) → (tells sent host Partial → ⊥) → IsKnown maker host before → IsKnown maker host (sent ∷ before)
still_known None host sent before no_right no_left known = ((λ h. elim h [ inl e ↦ no_right e | inr b ↦ known.0 b ]), (λ h. elim h [ inl e ↦ no_left e | inr b ↦ known.1 b ]))
still_known (Some Host) host sent before no_right no_left known = (inr known.0, (λ h. elim h [ inl e ↦ no_left e | inr b ↦ known.1 b ]))
still_known (Some Card) host sent before no_right no_left known = inr known

host_told : (sent : Sent) (host : IpAddr) (checksum : Checksum) → tells (Some sent) host checksum → sent.host ≡ host
host_told sent host checksum e = cc

checksum_is : (sent : Sent) (host : IpAddr) (checksum : Checksum) → tells (Some sent) host checksum → sent.checksum ≡ checksum
checksum_is sent host checksum e = cc

told : (sent : Sent) (checksum : Checksum) → sent.checksum ≡ checksum → tells (Some sent) sent.host checksum
told sent checksum e = ap (λ (c : Checksum). Some (record { host = sent.host; checksum = c })) e

-- of its own host, where that teaches nothing, and where it does
not_learned : (checksum : Checksum) (maker : Option Maker) (sent : Sent) (before : List (Option Sent)) → sent.checksum ≡ checksum → learned checksum maker ≡ None → IsKnown maker sent.host before → IsKnown maker sent.host (Some sent ∷ before)
not_learned Right None sent before is e known = cc
not_learned Right (Some Host) sent before is e known = (inr known.0, (λ h. elim h [ inl f ↦ (let x : Right ≡ Partial = sym is ∙ checksum_is sent sent.host Partial f in cc) | inr b ↦ known.1 b ]))
not_learned Right (Some Card) sent before is e known = inr known
not_learned Partial None sent before is e known = cc
not_learned Partial (Some Host) sent before is e known = cc
not_learned Partial (Some Card) sent before is e known = inr known
not_learned Absent maker sent before is e known =
    still_known maker sent.host (Some sent) before (λ f. let x : Absent ≡ Right = sym is ∙ checksum_is sent sent.host Right f in cc) (λ f. let x : Absent ≡ Partial = sym is ∙ checksum_is sent sent.host Partial f in cc) known
not_learned Wrong maker sent before is e known =
    still_known maker sent.host (Some sent) before (λ f. let x : Wrong ≡ Right = sym is ∙ checksum_is sent sent.host Right f in cc) (λ f. let x : Wrong ≡ Partial = sym is ∙ checksum_is sent sent.host Partial f in cc) known

is_learned : (checksum : Checksum) (maker : Option Maker) (now : Maker) (sent : Sent) (before : List (Option Sent)) → sent.checksum ≡ checksum → learned checksum maker ≡ Some now → IsKnown maker sent.host before → IsKnown (Some now) sent.host (Some sent ∷ before)
is_learned Right None Host sent before is e known = (inl (told sent Right is), (λ h. elim h [ inl f ↦ (let x : Right ≡ Partial = sym is ∙ checksum_is sent sent.host Partial f in cc) | inr b ↦ known.1 b ]))
is_learned Right None Card sent before is e known = cc
is_learned Right (Some maker) now sent before is e known = cc
is_learned Partial None Card sent before is e known = inl (told sent Partial is)
is_learned Partial None Host sent before is e known = cc
is_learned Partial (Some Host) Card sent before is e known = inl (told sent Partial is)
is_learned Partial (Some Host) Host sent before is e known = cc
is_learned Partial (Some Card) now sent before is e known = cc
is_learned Absent maker now sent before is e known = cc
is_learned Wrong maker now sent before is e known = cc

-- ---- of each host

pub knows_nothing_new : (makers : Makers) (before : List (Option Sent)) → Knows makers before → Knows makers (None ∷ before)
knows_nothing_new makers before knows = λ host. still_known (maker_of host makers) host None before (λ e. cc) (λ e. cc) (knows host)

pub knows_as_before : (makers : Makers) (sent : Sent) (maker : Option Maker) (before : List (Option Sent)) → maker ≡ maker_of sent.host makers → learned sent.checksum maker ≡ None → Knows makers before → Knows makers (Some sent ∷ before)
knows_as_before makers sent maker before is e knows = λ host. elim (cases_Bool (same_host sent.host host)) [
  | inl same ↦
      subst (λ (x : IpAddr). IsKnown (maker_of x makers) x (Some sent ∷ before)) (same_one sent.host host same)
      (not_learned sent.checksum (maker_of sent.host makers) sent before refl (ap (learned sent.checksum) (sym is) ∙ e) (knows sent.host))
  | inr other ↦
      still_known (maker_of host makers) host (Some sent) before (λ f. other_one sent.host host other (host_told sent host Right f)) (λ f. other_one sent.host host other (host_told sent host Partial f)) (knows host)
]

pub knows_more : (old new : Makers) (sent : Sent) (maker : Option Maker) (now : Maker) (before : List (Option Sent)) → maker ≡ maker_of sent.host old → learned sent.checksum maker ≡ Some now
    → maker_of sent.host new ≡ Some now → ((host : IpAddr) → same_host sent.host host ≡ false → maker_of host new ≡ maker_of host old) → Knows old before → Knows new (Some sent ∷ before)
knows_more old new sent maker now before is e here there knows = λ host. elim (cases_Bool (same_host sent.host host)) [
  | inl same ↦
      subst (λ (x : IpAddr). IsKnown (maker_of x new) x (Some sent ∷ before)) (same_one sent.host host same)
      (subst (λ (m : Option Maker). IsKnown m sent.host (Some sent ∷ before)) (sym here)
      (is_learned sent.checksum (maker_of sent.host old) now sent before refl (ap (learned sent.checksum) (sym is) ∙ e) (knows sent.host)))
  | inr other ↦
      subst (λ (m : Option Maker). IsKnown m host (Some sent ∷ before)) (sym (there host other))
      (still_known (maker_of host old) host (Some sent) before (λ f. other_one sent.host host other (host_told sent host Right f)) (λ f. other_one sent.host host other (host_told sent host Partial f)) (knows host))
]

-- a host of which nothing was known
unknown_by : (checksum : Checksum) (maker : Option Maker) (now : Maker) (sent : Sent) (before : List (Option Sent)) → sent.checksum ≡ checksum → learned checksum maker ≡ Some now → maker ≡ None → IsKnown maker sent.host before → IsUnknown before (Some sent)
unknown_by Right None now sent before is e none known = (inl is, known.0, known.1)
unknown_by Partial None now sent before is e none known = (inr is, known.0, known.1)
unknown_by checksum (Some maker) now sent before is e none known = cc
unknown_by Absent None now sent before is e none known = cc
unknown_by Wrong None now sent before is e none known = cc

pub unknown : (makers : Makers) (sent : Sent) (maker : Option Maker) (now : Maker) (before : List (Option Sent)) → maker ≡ maker_of sent.host makers → learned sent.checksum maker ≡ Some now → maker_of sent.host makers ≡ None → Knows makers before → IsUnknown before (Some sent)
unknown makers sent maker now before is e none knows = unknown_by sent.checksum (maker_of sent.host makers) now sent before refl (ap (learned sent.checksum) (sym is) ∙ e) none (knows sent.host)

-- ---- what is discarded

discards_by : (checksum : Checksum) (maker : Option Maker) (sent : Sent) (before : List (Option Sent)) → sent.checksum ≡ checksum → IsKnown maker sent.host before → MatchBool (discarded_by checksum maker) (IsDiscarded before (Some sent)) (IsDiscarded before (Some sent) → ⊥)
discards_by Wrong (Some Host) sent before is known = (is, known.0, known.1)
discards_by Wrong (Some Card) sent before is known = λ h. h.2 known
discards_by Wrong None sent before is known = λ h. known.0 h.1
discards_by Absent maker sent before is known = λ h. let x : Absent ≡ Wrong = sym is ∙ h.0 in cc
discards_by Right maker sent before is known = λ h. let x : Right ≡ Wrong = sym is ∙ h.0 in cc
discards_by Partial maker sent before is known = λ h. let x : Partial ≡ Wrong = sym is ∙ h.0 in cc

pub discards : (makers : Makers) (sent : Sent) (maker : Option Maker) (result : Bool) (before : List (Option Sent)) → maker ≡ maker_of sent.host makers → result ≡ discarded_by sent.checksum maker → Knows makers before
    → MatchBool result (IsDiscarded before (Some sent)) (IsDiscarded before (Some sent) → ⊥)
discards makers sent maker result before is e knows =
    subst (λ (b : Bool). MatchBool b (IsDiscarded before (Some sent)) (IsDiscarded before (Some sent) → ⊥)) (sym (e ∙ ap (discarded_by sent.checksum) is))
    (discards_by sent.checksum (maker_of sent.host makers) sent before refl (knows sent.host))

-- what is discarded is so or not
pub one_of_two : (P : Type 0) (a b : Bool) → MatchBool a P (P → ⊥) → MatchBool b P (P → ⊥) → a ≡ b
one_of_two P true true g h = refl
one_of_two P true false g h = absurd (h g)
one_of_two P false true g h = absurd (g h)
one_of_two P false false g h = refl
