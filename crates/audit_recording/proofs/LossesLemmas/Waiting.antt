-- Whether a frame waits that may be of a host, from those that are kept.
use Rattle.std.proofs.Common.{◌≡◌, ◌<◌, ◌||◌, ℕ, Bool, true, false, cond, List, [], ◌∷◌, Option, Some, None, MatchBool, length, is_some, inl, inr, refl, sym, ap, ◌∙◌, arith}
use Rattle.std.specs.BTreeMap.{BTreeMap, get, is_at}
use Rattle.std.specs.Map.{lookup}
use Rattle.std.specs.Ordering.{nat_cmp}
use Rattle.std.proofs.lemmas.Bool.{false≢true, or_right}
use Rattle.audit_flows.specs.{Address}
use Rattle.audit_recording.specs.declared.session.host_losses.HostLosses.{HostLosses}
use Rattle.audit_recording.specs.declared.session.losses.Losses.{Losses}
use Rattle.audit_recording.specs.Losses.Noted.{Event, Unread, is_of_host, is_of_none, waiting_at}
use Rattle.audit_recording.specs.Losses.Kept.{AreLosses, KeepsWaiting, of_host, time_where, waits_at}
use Rattle.audit_recording.specs.Session.Over.{IsWaitingAt}
use Rattle.audit_recording.proofs.LossesLemmas.Answering.{or_cases, waits_where}
use Rattle.audit_recording.proofs.LossesLemmas.Keeping.{waits_number}

pub nothing_at : {X : Type 0} (frames : BTreeMap ℕ X) (n : ℕ) → ((0 < length frames.entries) → ⊥) → get nat_cmp frames n ≡ None
nothing_at frames n none = ap (λ es. lookup (is_at (nat_cmp n)) es) (empty frames.entries none) where
  empty : {Y : Type 0} (ys : List Y) → ((0 < length ys) → ⊥) → ys ≡ []
  empty [] none = refl
  empty (y ∷ ys) none = absurd (none (omega arith))

abbrev pub HasOne : Option HostLosses → Type 0
HasOne o = (n : ℕ) × (time : ℕ) × (waits_at o n ≡ Some time)

abbrev pub HasNone : Option HostLosses → Type 0
HasNone o = (n : ℕ) → waits_at o n ≡ None

one_waits : (o : Option HostLosses) (mine : Unread → Bool) (history : List Event) → KeepsWaiting o mine history → HasOne o
    → (f : Unread) × (waiting_at f.frame history ≡ Some f) × (mine f ≡ true)
one_waits o mine history keeps one =
    let it = waits_where mine (waiting_at one.0 history) one.1 (sym (keeps one.0) ∙ one.2) in
    (it.0, ap (λ m. waiting_at m history) (waits_number one.0 history it.0 it.1) ∙ it.1, it.2)

none_waits : (o : Option HostLosses) (mine : Unread → Bool) (history : List Event) → KeepsWaiting o mine history → HasNone o
    → (f : Unread) → waiting_at f.frame history ≡ Some f → mine f ≡ true → ⊥
none_waits o mine history keeps none f waits own =
    let kept : waits_at o f.frame ≡ Some f.time = keeps f.frame ∙ ap (time_where mine) waits ∙ ap (λ b. cond b (Some f.time) None) own in
    false≢true (sym (ap is_some (none f.frame)) ∙ ap is_some kept)

pub own_waits : (l : Losses) (history : List Event) (host : Address) → AreLosses l history → HasOne (of_host l.of_hosts host) → IsWaitingAt host history
own_waits l history host are mine =
    let it = one_waits (of_host l.of_hosts host) (is_of_host host) history (are.hosts host).waits mine in
    (it.0, it.1, ap (λ b. b || is_of_none it.0) it.2)

pub unknown_told : (l : Losses) (history : List Event) (host : Address) (unknown : Bool) → AreLosses l history → HasNone (of_host l.of_hosts host)
    → MatchBool unknown (HasOne (Some l.of_unknown)) (HasNone (Some l.of_unknown)) → MatchBool unknown (IsWaitingAt host history) (IsWaitingAt host history → ⊥)
unknown_told l history host true are none other =
    let it = one_waits (Some l.of_unknown) is_of_none history are.unknown.waits other in
    (it.0, it.1, or_right (is_of_host host it.0) (is_of_none it.0) it.2)
unknown_told l history host false are none other = λ waits. elim (or_cases (is_of_host host waits.0) (is_of_none waits.0) waits.2) [
  | inl own ↦ none_waits (of_host l.of_hosts host) (is_of_host host) history (are.hosts host).waits none waits.0 waits.1 own
  | inr unknown ↦ none_waits (Some l.of_unknown) is_of_none history are.unknown.waits other waits.0 waits.1 unknown
]
