-- The captures of a recording can be written.
use Rattle.std.proofs.Common.{◌≡◌, ℕ, Bool, true, false, List, [], ◌∷◌, ◌++◌, Some, filter, map, reverse, max, refl, sym, ap, ◌∙◌, subst, All}
use mathlib.Core.List.{reverse-cons}
use Rattle.std.proofs.lemmas.List.Elements.{All-from_recursion}
use Rattle.std.specs.List.{AllByRecursion}
use Rattle.tftp_capture.specs.{IsLawful, IsPort}
use Rattle.tftp_packet.specs.{Dir, In, Out}
use Rattle.audit_views.specs.Parties.{host_name}
use Rattle.audit_views.proofs.PartiesLemmas.Addresses.{is_host}
use Rattle.audit_recording.specs.Audit.{IsSoundDatagram, IsSoundEnd}
use Rattle.audit_recording.specs.Judges.{opened}
use Rattle.audit_flows.proofs.TransfersLemmas.Ends.{placed_where}
use Rattle.audit_flows.specs.Lines.{Placed, clock, transfer_of, Recorded}
use Rattle.audit_flows.specs.{Place, Opens, Transfer}
use Rattle.audit_flows.specs.Transfers.{place_of, placed, opened_it}
use Rattle.audit_views.specs.Views.{captured}

-- ---- all of a list

each_more : {X : Type 0} (P : X → Type 0) (xs ys : List X) → AllByRecursion P xs → AllByRecursion P ys → AllByRecursion P (xs ++ ys)
each_more P [] ys some others = others
each_more P (x ∷ xs) ys some others = (some.0, each_more P xs ys some.1 others)

each_reversed : {X : Type 0} (P : X → Type 0) (xs : List X) → AllByRecursion P xs → AllByRecursion P (reverse xs)
each_reversed P [] each = tt
each_reversed P (x ∷ xs) each = subst (AllByRecursion P) (sym (reverse-cons x xs)) (each_more P (reverse xs) (x ∷ []) (each_reversed P xs each.1) (each.0, tt))

-- of those that pass the test, taken through f
each_taken : {X Y : Type 0} (P : X → Type 0) (Q : Y → Type 0) (test : X → Bool) (f : X → Y) (xs : List X) → ((x : X) → P x → Q (f x)) → AllByRecursion P xs
    → AllByRecursion Q (map f (filter test xs))
each_taken P Q test f [] holds each = tt
each_taken P Q test f (x ∷ xs) holds each = by (each_taken P Q test f xs holds each.1) (test x) refl where
  by : AllByRecursion Q (map f (filter test xs)) → (b : Bool) → test x ≡ b → AllByRecursion Q (map f (filter test (x ∷ xs)))
  by others true passes = rw passes (holds x each.0, others)
  by others false fails = rw fails others

-- ---- datagrams

-- each datagram that has its place is sound
pub placed_sound : (named : List ℕ) (passed : List Recorded) → AllByRecursion IsSoundDatagram passed → AllByRecursion (λ (p : Placed). IsSoundDatagram p.datagram) (placed named passed)
placed_sound named [] each = tt
placed_sound named (d ∷ older) each = (each.0, placed_sound named older each.1)

captured_lawful : (dir : Dir) (d : Recorded) → IsSoundDatagram d → IsLawful (captured host_name dir d)
captured_lawful Out d sound = record { local = sound.source.1; host = is_host d.target.address sound.target.0; remote = sound.target.1; bytes = sound.bytes; fits = sound.fits }
captured_lawful In d sound = record { local = sound.target.1; host = is_host d.source.address sound.source.0; remote = sound.source.1; bytes = sound.bytes; fits = sound.fits }

-- what passes the test, captured in some way, is lawful, in the order in which it passed
pub all_lawful : (test : Placed → Bool) (way : Placed → Dir) (placed : List Placed) → AllByRecursion (λ (p : Placed). IsSoundDatagram p.datagram) placed
    → All IsLawful (reverse (map (λ (p : Placed). captured host_name (way p) p.datagram) (filter test placed)))
all_lawful test way placed each =
    All-from_recursion IsLawful (reverse (map (λ (p : Placed). captured host_name (way p) p.datagram) (filter test placed)))
    (each_reversed IsLawful (map (λ (p : Placed). captured host_name (way p) p.datagram) (filter test placed))
    (each_taken (λ (p : Placed). IsSoundDatagram p.datagram) IsLawful test (λ (p : Placed). captured host_name (way p) p.datagram) placed (λ p sound. captured_lawful (way p) p.datagram sound) each))

-- ---- where a transfer was asked for

opens_as : (n : ℕ) (d : Recorded) (moment : ℕ) (place : Place) (x : Transfer) → opened_it n (record { datagram = d; moment = moment; place = place }) ≡ true → transfer_of place ≡ Some x → place ≡ Opens x
opens_as n d moment (Opens y) x opens is = let same : y ≡ x = cc in ap Opens same
opens_as n d moment _ x opens is = absurd (cc)

-- both its endpoints are sound
pub opened_ends : (named : List ℕ) (passed : List Recorded) (n : ℕ) (x : Transfer) → AllByRecursion IsSoundDatagram passed → opened n (placed named passed) ≡ Some x → IsSoundEnd x.client × IsSoundEnd x.asked
opened_ends named [] n x each is = absurd (cc)
opened_ends named (d ∷ older) n x each is = by (opened_ends named older n x each.1) (opened_it n p) refl where
  moment : ℕ
  moment = max d.time (clock (placed named older))

  p : Placed
  p = record { datagram = d; moment = moment; place = place_of named (placed named older) moment d }

  by : (opened n (placed named older) ≡ Some x → IsSoundEnd x.client × IsSoundEnd x.asked) → (b : Bool) → opened_it n p ≡ b → IsSoundEnd x.client × IsSoundEnd x.asked
  by before true opens =
      let here : opened n (placed named (d ∷ older)) ≡ transfer_of p.place = rw opens refl in
      let it : p.place ≡ Opens x = opens_as n d moment p.place x opens (sym here ∙ is) in
      let ends = (placed_where named (placed named older) moment d).opens x it in
      (subst IsSoundEnd (sym ends.0) each.0.source, subst IsSoundEnd (sym ends.1) each.0.target)
  by before false other =
      let there : opened n (placed named (d ∷ older)) ≡ opened n (placed named older) = rw other refl in
      before (sym there ∙ is)

-- the port that was asked is one
pub asked_port : (named : List ℕ) (passed : List Recorded) (n : ℕ) (x : Transfer) → AllByRecursion IsSoundDatagram passed → opened n (placed named passed) ≡ Some x → IsPort x.asked.port
asked_port named passed n x each is = (opened_ends named passed n x each is).1.1
