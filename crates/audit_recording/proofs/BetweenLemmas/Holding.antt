-- What is held until it is known who the server is, and is then given to the judge of the sides.
use Rattle.std.proofs.Common.{◌≡◌, true, false, List, [], ◌∷◌, ◌++◌, length, Some, None, refl, sym, ap, ◌∙◌, subst, append_assoc, append-nil, map, reverse, Option, Result}
use Rattle.std.proofs.lemmas.List.{length-map, length-reverse, map-append, reverse-append, reverse-reverse}
use Rattle.tftp_packet.specs.{Rollover}
use Rattle.law_tap.specs.{TapDatagram, TapSides, AreApart}
use Rattle.law_model.specs.Model.{Meaning}
use Rattle.judge_tap.specs.{passing_of, TapDatagram as Owned, TapRefusal}
use Rattle.audit_views.specs.Parties.{host_name}
use Rattle.audit_flows.specs.Lines.{Placed, is_of}
use Rattle.audit_flows.specs.{Transfer}
use Rattle.audit_flows.specs.Transfers.{is_settled}
use Rattle.audit_views.specs.Views.{IsFed}
use Rattle.audit_views.specs.{Held}
use Rattle.audit_recording.specs.Between.{are_apart, between_capture, is_to_itself, passed_of, sides_by, sides_of, sides_with, AreHeld, Between, BetweenBy, HasPassed, IsBetweenAfterBy, IsBetweenFoundBy, IsGoingOnBy, IsWaiting, View, counted_by, given_to, passed_as}
use Rattle.audit_recording.proofs.BetweenLemmas.Feeding.{captured_too, passed_fed}
use Rattle.audit_views.proofs.ViewsLemmas.Settling.{settled_stays}
use Rattle.audit_views.proofs.ViewsLemmas.Holding.{ends_too, same_own, server_too, settled_too}
use Rattle.audit_recording.proofs.BetweenLemmas.Settling.{itself, sides_stay}
use Rattle.audit_recording.proofs.BetweenLemmas.Sides.{to_itself}

-- ---- the oldest of those that are held are given first

-- so much was given, and the rest is held
pub record IsGivenSoFar (b : Between) (given : List TapDatagram) (held : List Owned) : Type 0 where
  pub done : List TapDatagram
  pub are : reverse given ≡ done ++ map passing_of held
  pub passed : HasPassed b (reverse done)

pub given_none : (b : Between) (given : List TapDatagram) (held : List Owned) → AreHeld held given → HasPassed b [] → IsGivenSoFar b given held
given_none b given held are passed = record { done = []; are = sym are; passed = passed }

pub given_one : (old new : Between) (given : List TapDatagram) (d : Owned) (held : List Owned)
    → ((before : List TapDatagram) → HasPassed old before → HasPassed new (passing_of d ∷ before))
    → IsGivenSoFar old given (d ∷ held) → IsGivenSoFar new given held
given_one old new given d held takes so = record {
  done = so.done ++ passing_of d ∷ [];
  are = so.are ∙ sym (append_assoc so.done (passing_of d ∷ []) (map passing_of held));
  passed = subst (HasPassed new) (sym (reverse-append so.done (passing_of d ∷ []))) (takes (reverse so.done) so.passed);
}

pub given_all : (b : Between) (given : List TapDatagram) → IsGivenSoFar b given [] → HasPassed b given
given_all b given so = subst (HasPassed b) (ap reverse (sym (so.are ∙ append-nil so.done)) ∙ reverse-reverse given) so.passed

-- ---- one more is held, as the newest

pub held_newest : (x : Transfer) (held : List Owned) (d : Owned) (p : Placed) (older : List Placed) (h : Held)
    → IsFed host_name p h → is_of x.number p ≡ true → passing_of d ≡ passed_as h
    → AreHeld held (between_capture x older) → AreHeld (held ++ d ∷ []) (between_capture x (p ∷ older))
held_newest x held d p older h fed of_it passed are =
    let given : List TapDatagram = between_capture x older in
    map-append passing_of held (d ∷ [])
    ∙ ap (λ l. l ++ passing_of d ∷ []) are
    ∙ ap (λ t. reverse given ++ t ∷ []) (passed ∙ sym (passed_fed p h fed))
    ∙ sym (reverse-append (passed_of p.datagram ∷ []) given)
    ∙ ap reverse (sym (captured_too x p older of_it))

-- ---- one that is not of the transfer at its client

pub passes_by : (rollover : Option Rollover) (v : View) (p : Placed) (older : List Placed) → is_of v.transfer.number p ≡ false → IsBetweenAfterBy rollover v older → IsBetweenAfterBy rollover v (p ∷ older)
passes_by rollover v p older off = by v.judge where
  same : between_capture v.transfer (p ∷ older) ≡ between_capture v.transfer older
  same = ap (map (λ (q : Placed). passed_of q.datagram)) (same_own v.transfer.number (is_of v.transfer.number) (itself v.transfer.number) p older off)

  by : (o : Option Between) → BetweenBy rollover o v older → BetweenBy rollover o v (p ∷ older)
  by None waits = record {
    own = waits.own;
    number = waits.number;
    ends = ends_too v.transfer.number (is_of v.transfer.number) (itself v.transfer.number) p older off v.ends waits.number waits.ends;
    unsettled = sym (settled_too v.transfer.number (is_of v.transfer.number) (itself v.transfer.number) p older off) ∙ waits.unsettled;
    held = subst (AreHeld v.held) (sym same) waits.held;
  }
  by (Some b) goes = record {
    settled = sym (settled_too v.transfer.number (is_of v.transfer.number) (itself v.transfer.number) p older off) ∙ goes.settled;
    none = goes.none;
    sides = goes.sides ∙ ap (λ server. sides_by rollover (sides_with v.transfer server)) (server_too v.transfer.number (is_of v.transfer.number) (itself v.transfer.number) p older off);
    passed = subst (HasPassed b) (sym same) goes.passed;
  }

-- ---- the judge goes on

pub goes_on_too : (rollover : Option Rollover) (old new : Between) (v w : View) (p : Placed) (older : List Placed) → w.transfer ≡ v.transfer → w.held ≡ v.held → new.sides ≡ old.sides → is_of v.transfer.number p ≡ true
    → IsGoingOnBy rollover old v older → HasPassed new (passed_of p.datagram ∷ between_capture v.transfer older) → IsGoingOnBy rollover new w (p ∷ older)
goes_on_too rollover old new v w p older of held same is goes passed = record {
  settled = ap (λ (x : Transfer). is_settled x.number (p ∷ older)) of ∙ settled_stays v.transfer.number (p ∷ []) older goes.settled;
  none = held ∙ goes.none;
  sides = same ∙ goes.sides ∙ ap (sides_by rollover) (sym (sides_stay v.transfer (p ∷ []) older goes.settled) ∙ ap (λ (x : Transfer). sides_of x (p ∷ older)) (sym of));
  passed = subst (HasPassed new) (sym (captured_too v.transfer p older is) ∙ ap (λ (x : Transfer). between_capture x (p ∷ older)) (sym of)) passed;
}

-- ---- what is held is the transfer's

pub as_many : (rollover : Option Rollover) (v : View) (placed : List Placed) → IsWaiting rollover v placed → length v.held ≡ length (between_capture v.transfer placed)
as_many rollover v placed waits = sym (length-map v.held passing_of) ∙ ap length waits.held ∙ length-reverse (between_capture v.transfer placed)

-- ---- in the end

pub is_waiting : (rollover : Option Rollover) (v : View) (placed : List Placed) → v.judge ≡ None → IsBetweenAfterBy rollover v placed → IsWaiting rollover v placed
is_waiting rollover v placed none after = subst (λ (o : Option Between). BetweenBy rollover o v placed) none after

pub is_going_on : (rollover : Option Rollover) (v : View) (b : Between) (placed : List Placed) → v.judge ≡ Some b → IsBetweenAfterBy rollover v placed → IsGoingOnBy rollover b v placed
is_going_on rollover v b placed is after = subst (λ (o : Option Between). BetweenBy rollover o v placed) is after

pub given_by : (v : View) (b : Between) → v.judge ≡ Some b → given_to v ≡ counted_by b
given_by v b is = rw is refl

pub given_held : (v : View) → v.judge ≡ None → given_to v ≡ length v.held
given_held v none = rw none refl

pub one_side : (rollover : Option Rollover) (b : Between) (v : View) (placed : List Placed) → b.sides ≡ sides_by rollover (sides_of v.transfer placed) → is_to_itself v.transfer placed ≡ true → are_apart b.sides ≡ false
one_side rollover b v placed sides itself = ap are_apart sides ∙ to_itself v.transfer placed itself

-- the sides that are known while it waits
pub waiting_sides : (rollover : Option Rollover) (v : View) (b : Between) (placed : List Placed) → b.sides ≡ sides_by v.rollover (sides_of v.transfer placed) → IsWaiting rollover v placed
    → b.sides ≡ sides_by rollover (sides_of v.transfer placed)
waiting_sides rollover v b placed sides waits = sides ∙ ap (λ (o : Option Rollover). sides_by o (sides_of v.transfer placed)) waits.own

-- ---- what is found

pub are_sides_apart : (rollover : Option Rollover) (s : TapSides) → AreApart s → AreApart (sides_by rollover s)
are_sides_apart rollover s apart = record { server = apart.server; asked = apart.asked }

-- what is found by the sides with the rollover is found by it
pub found_there : (rollover : Option Rollover) (b : Between) (x : Transfer) (placed : List Placed) (said : Result Meaning TapRefusal) → b.sides ≡ sides_by rollover (sides_of x placed)
    → (AreApart b.sides → IsBetweenFoundBy b.sides.rollover b.sides (between_capture x placed) said) → AreApart (sides_of x placed)
    → IsBetweenFoundBy rollover (sides_of x placed) (between_capture x placed) said
found_there rollover b x placed said sides found apart =
    by rollover (subst (λ (s : TapSides). IsBetweenFoundBy s.rollover s (between_capture x placed) said) sides (found (subst AreApart (sym sides) (are_sides_apart rollover (sides_of x placed) apart)))) where
      by : (o : Option Rollover) → IsBetweenFoundBy o (sides_by o (sides_of x placed)) (between_capture x placed) said → IsBetweenFoundBy o (sides_of x placed) (between_capture x placed) said
      by None is = is
      by (Some r) is = is
