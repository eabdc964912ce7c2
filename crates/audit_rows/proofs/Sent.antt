-- Whom a row accuses sent the refused datagram, and is an end of the transfer.
use Rattle.std.proofs.Common.{arith, ◌≡◌, ◌&&◌, ◌||◌, ◌==◌, not, Bool, true, false, List, [], ◌∷◌, ◌++◌, Option, Some, None, refl, sym, ap, subst, ◌∙◌, if◌then◌else◌}
use Rattle.std.specs.Prelude.{length, option_map}
use Rattle.tftp_packet.specs.{End}
use Rattle.audit_flows.specs.Lines.{Placed}
use Rattle.audit_flows.specs.{Endpoint, Nowhere, Transfer}
use Rattle.audit_recording.specs.{Accused, Telling}
use Rattle.audit_recording.specs.declared.blame.blame.Blamed.{Blamed}
use Rattle.audit_recording.specs.declared.blame.reason.Reason.{Reason}
use Rattle.audit_recording.specs.Rows.Accusing.{accused_in_row, role_at}
use Rattle.audit_recording.specs.Rows.Told.{is_refused, telling_depends}
use Rattle.audit_rows.specs.Accusing.{accused_of_row, is_listed}
use Rattle.audit_rows.specs.Charging.{unless_listed}

abbrev by : Endpoint → End → Accused
by source role = record { role = role; end = source }

-- who is accused of a datagram, and by what
pub record IsSent (x : Transfer) (whole : List Placed) (t : Telling) (o : Option Blamed) (reasons : List Reason) (a : Accused) : Type 0 where
  pub datagram : Blamed
  pub blamed : o ≡ Some datagram
  pub source : a.end ≡ datagram.source
  pub role : role_at x whole datagram.source ≡ Some a.role
  pub refused : is_refused t.said ≡ true
  pub sure : reasons ≡ []

record IsBy (so : Bool) (who : Option End) (from : Endpoint) (a : Accused) : Type 0 where
  sure : so ≡ true
  role : who ≡ Some a.role
  source : a.end ≡ from

is_by : (so : Bool) (role : Option End) (source : Endpoint) (a : Accused) → (if so then option_map (by source) role else None) ≡ Some a → IsBy so role source a
is_by false role source a is = let none : None ≡ Some a = is in absurd (cc)
is_by true None source a is = let none : None ≡ Some a = is in absurd (cc)
is_by true (Some r) source a is = let this : a ≡ by source r = cc in record { sure = refl; role = ap (λ b. Some b.role) (sym this); source = ap (λ b. b.end) this }

first_holds : (a b : Bool) → (a && b) ≡ true → a ≡ true
first_holds true b is = refl
first_holds false b is = is

pub sent : (x : Transfer) (whole : List Placed) (t : Telling) (o : Option Blamed) (reasons : List Reason) (a : Accused) → accused_of_row x whole t o reasons ≡ Some a
    → IsSent x whole t o reasons a
sent x whole t None reasons a is = let none : None ≡ Some a = is in absurd (cc)
sent x whole t (Some b) (reason ∷ more) a is = let none : None ≡ Some a = is in absurd (cc)
sent x whole t (Some b) [] a is =
    let found = is_by (is_refused t.said && not (telling_depends t)) (role_at x whole b.source) b.source a is in
    record {
      datagram = b;
      blamed = refl;
      source = found.source;
      role = found.role;
      refused = first_holds (is_refused t.said) (not (telling_depends t)) found.sure;
      sure = refl;
    }

pub end_of : (x : Transfer) (whole : List Placed) (t : Telling) (o : Option Blamed) (reasons : List Reason) (a : Accused) → accused_of_row x whole t o reasons ≡ Some a
    → role_at x whole a.end ≡ Some a.role
end_of x whole t o reasons a is =
    let it = sent x whole t o reasons a is in
    subst (λ e. role_at x whole e ≡ Some a.role) (sym it.source) it.role

-- ---- a row accuses as its refusal does

sure_so : (refused depends : Bool) (who : Option Accused)
    → (if refused && not depends then who else None) ≡ (if refused then (if depends || false then None else who) else None)
sure_so true true who = refl
sure_so true false who = refl
sure_so false depends who = refl

doubted_so : (refused depends : Bool) (who : Option Accused) → None ≡ (if refused then (if depends || true then None else who) else None)
doubted_so true true who = refl
doubted_so true false who = refl
doubted_so false depends who = refl

abbrev whom : Transfer → List Placed → Endpoint → Option Accused
whom x whole source = option_map (by source) (role_at x whole source)

pub as_refused : (x : Transfer) (whole : List Placed) (t : Telling) (b : Blamed) (reasons : List Reason) (p : Placed) → p.datagram.source ≡ b.source
    → accused_of_row x whole t (Some b) reasons ≡ accused_in_row x whole p t (is_listed reasons)
as_refused x whole t b [] p is =
    sure_so (is_refused t.said) (telling_depends t) (whom x whole b.source)
    ∙ ap (λ e. if is_refused t.said then (if telling_depends t || false then None else whom x whole e) else None) (sym is)
as_refused x whole t b (reason ∷ more) p is = doubted_so (is_refused t.said) (telling_depends t) (whom x whole p.datagram.source)

-- ---- reasons that are known later

none_unless : (more : List Reason) → unless_listed more None ≡ None
none_unless [] = refl
none_unless (reason ∷ more) = refl

pub later : (x : Transfer) (whole : List Placed) (t : Telling) (o : Option Blamed) (reasons more : List Reason)
    → accused_of_row x whole t o (reasons ++ more) ≡ unless_listed more (accused_of_row x whole t o reasons)
later x whole t None reasons more = sym (none_unless more)
later x whole t (Some b) (reason ∷ reasons) more = sym (none_unless more)
later x whole t (Some b) [] [] = refl
later x whole t (Some b) [] (reason ∷ more) = refl

-- ---- by the source of the datagram alone

abbrev pub sent_from : Endpoint → Placed
sent_from source = record { datagram = record { time = 0; source = source; target = source; payload = []; is_spelled = true }; moment = 0; place = Nowhere }

pub listed : (reasons : List Reason) → not (length reasons == 0) ≡ is_listed reasons
listed [] = refl
listed (reason ∷ more) = let e : (length (reason ∷ more) == 0) ≡ false = grind arith in ap not e

pub by_row : (x y : Transfer) (whole : List Placed) (t : Telling) (o : Option Blamed) (b : Blamed) (reasons : List Reason) (doubtful : Bool) (who : Option Accused)
    → o ≡ Some b → y ≡ x → doubtful ≡ is_listed reasons → who ≡ accused_in_row y whole (sent_from b.source) t doubtful → who ≡ accused_of_row x whole t o reasons
by_row x y whole t o b reasons doubtful who blamed same so is =
    is ∙ ap (λ z. accused_in_row z whole (sent_from b.source) t doubtful) same
    ∙ ap (λ d. accused_in_row x whole (sent_from b.source) t d) so
    ∙ sym (as_refused x whole t b reasons (sent_from b.source) refl)
    ∙ ap (λ p. accused_of_row x whole t p reasons) (sym blamed)
