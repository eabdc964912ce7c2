-- The sides of a recording's transfers are addresses of hosts.
use Rattle.std.proofs.Common.{◌≡◌, ℕ, Bool, true, false, List, [], ◌∷◌, Option, Some, None, refl, sym, ◌∙◌, subst, IfSome, option_map}
use Rattle.std.specs.List.{AllByRecursion}
use Rattle.law_model.specs.Rules.{first_of, or_this}
use Rattle.audit_recording.specs.Between.{is_to_itself, server_or_asked, sides_of}
use Rattle.audit_recording.proofs.BetweenLemmas.Sides.{apart_from_both}
use Rattle.law_tap.specs.{AreApart}
use Rattle.audit_recording.specs.Audit.{IsSoundDatagram, IsSoundEnd}
use Rattle.audit_recording.proofs.AuditLemmas.Writing.{opened_ends, placed_sound}
use Rattle.audit_recording.specs.Judges.{opened}
use Rattle.audit_flows.specs.Lines.{Placed, Recorded}
use Rattle.audit_flows.specs.{Endpoint, Transfer}
use Rattle.audit_flows.specs.Transfers.{placed, answered_by, comes, goes_on, server_of, went_on_with}

-- ---- what was found among sound datagrams

found_sound : (test : Placed → Bool) (all : List Placed) → AllByRecursion (λ (p : Placed). IsSoundDatagram p.datagram) all
    → IfSome (first_of test all) (λ (p : Placed). IsSoundDatagram p.datagram)
found_sound test [] each = tt
found_sound test (p ∷ older) each = by (first_of test older) (found_sound test older each.1) (test p) where
  by : (o : Option Placed) → IfSome o (λ (q : Placed). IsSoundDatagram q.datagram) → (b : Bool) → IfSome (or_this o b p) (λ (q : Placed). IsSoundDatagram q.datagram)
  by (Some q) sound b = sound
  by None sound true = each.0
  by None sound false = tt

source_sound : (o : Option Placed) → IfSome o (λ (p : Placed). IsSoundDatagram p.datagram) → IfSome (option_map (λ (p : Placed). p.datagram.source) o) IsSoundEnd
source_sound None sound = tt
source_sound (Some p) sound = sound.source

target_sound : (o : Option Placed) → IfSome o (λ (p : Placed). IsSoundDatagram p.datagram) → IfSome (option_map (λ (p : Placed). p.datagram.target) o) IsSoundEnd
target_sound None sound = tt
target_sound (Some p) sound = sound.target

server_sound : (n : ℕ) (all : List Placed) → AllByRecursion (λ (p : Placed). IsSoundDatagram p.datagram) all → IfSome (server_of n all) IsSoundEnd
server_sound n all each = by (went_on_with n all) refl where
  by : (o : Option Endpoint) → went_on_with n all ≡ o → IfSome (server_of n all) IsSoundEnd
  by None is =
      let same : server_of n all ≡ answered_by n all = rw is refl in
      subst (λ (o : Option Endpoint). IfSome o IsSoundEnd) (sym same) (source_sound (first_of (comes n) all) (found_sound (comes n) all each))
  by (Some s) is =
      let same : server_of n all ≡ Some s = rw is refl in
      subst (λ (o : Option Endpoint). IfSome o IsSoundEnd) (is ∙ sym same) (target_sound (first_of (goes_on n) all) (found_sound (goes_on n) all each))

or_asked : (x : Transfer) (server : Option Endpoint) → IsSoundEnd x.asked → IfSome server IsSoundEnd → IsSoundEnd (server_or_asked x server)
or_asked x None asked sound = asked
or_asked x (Some s) asked sound = sound

-- ---- the sides

pub sides_apart : (named : List ℕ) (passed : List Recorded) (n : ℕ) (x : Transfer) → AllByRecursion IsSoundDatagram passed → opened n (placed named passed) ≡ Some x
    → is_to_itself x (placed named passed) ≡ false → AreApart (sides_of x (placed named passed))
sides_apart named passed n x sound opens off =
    let ends = opened_ends named passed n x sound opens in
    let server = or_asked x (server_of x.number (placed named passed)) ends.1 (server_sound x.number (placed named passed) (placed_sound named passed sound)) in
    apart_from_both x (placed named passed) ends.0.0 ends.1.0 server.0 off
