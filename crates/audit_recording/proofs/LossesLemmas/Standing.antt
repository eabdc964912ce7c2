-- What is kept of all frames that can't be read, with one event more.
use Rattle.std.proofs.Common.{◌≡◌, ◌≤◌, ◌<◌, ◌+◌, ◌==◌, ◌||◌, ◌∷◌, ℕ, Bool, true, false, cond, List, [], Option, Some, None, is_some, option_map, nat_lt, inl, inr, refl, sym, ap, subst, ◌∙◌, arith, rules}
use Rattle.std.specs.BTreeMap.{BTreeMap, get}
use Rattle.std.specs.Cmp.Rules.{comparing}
use Rattle.std.specs.Ordering.{is_eq, nat_cmp}
use Rattle.std.specs.declared.net.ip_addr.IpAddr.{IpAddr}
use Rattle.std.proofs.lemmas.Bool.{false≢true}
use Rattle.std.proofs.lemmas.Bool.Decides.{nat_tests}
use Rattle.audit_flows.specs.{Address, Endpoint}
use Rattle.audit_flows.specs.Lines.{same_address}
use Rattle.audit_flows.proofs.LinesLemmas.Endpoints.{is_same_address}
use Rattle.audit_views.specs.Parties.Naming.{address_of}
use Rattle.audit_recording.specs.declared.session.host_losses.HostLosses.{HostLosses}
use Rattle.audit_recording.specs.declared.session.losses.Losses.{Losses}
use Rattle.audit_recording.specs.declared.session.losses.Waiting.{Waiting}
use Rattle.audit_recording.specs.Losses.Noted.{Event, IsAfterAll, IsAsked, IsLost, Unread, found_late, is_of_host, is_of_none, longest_wait, lost_by, waiting_at}
use Rattle.audit_recording.specs.Losses.Noted.Event.{Asks, Finds, GivesUp, Loses, Waits}
use Rattle.audit_recording.specs.Losses.Kept.{AreLosses, AreOf, Changes, HasAskedIn, HasLost, HasWaited, LosesMore, StandFor, kept_of, of_host, time_where}
use Rattle.audit_recording.proofs.LossesLemmas.Keeping.{asked_more, began, by_test, ended, lost_alike, lost_more, not_began, not_ended, others_began, others_ended, some_is}

-- ---- keys

key_is : (a b : ℕ) → is_eq (nat_cmp a b) ≡ (a == b)
key_is a b = sym (search (comparing, rules))

pub by_number : {V : Type 0} (old new : BTreeMap ℕ V) (frame : ℕ) (value : Option V) → ((n : ℕ) → get nat_cmp new n ≡ cond (is_eq (nat_cmp frame n)) value (get nat_cmp old n))
    → (n : ℕ) → get nat_cmp new n ≡ cond (frame == n) value (get nat_cmp old n)
by_number old new frame value updates n = updates n ∙ ap (λ b. cond b value (get nat_cmp old n)) (key_is frame n)

-- ---- two hosts, which may be one

how_at : (old new : BTreeMap Endpoint HostLosses) (host h : Address) (How : Option HostLosses → Option HostLosses → Type 0) → Changes old new host How → same_address host h ≡ true
    → How (of_host old h) (of_host new h)
how_at old new host h How changes same = subst (λ a. How (of_host old a) (of_host new a)) (is_same_address host h same) changes.there

or_left : (x y : Bool) → x ≡ true → (x || y) ≡ true
or_left x y is = ap (λ b. b || y) is

or_right : (x y : Bool) → y ≡ true → (x || y) ≡ true
or_right true y is = refl
or_right false y is = is

or_none : (x y : Bool) → x ≡ false → y ≡ false → (x || y) ≡ false
or_none x y one other = ap (λ b. b || y) one ∙ other

both : (old middle new : BTreeMap Endpoint HostLosses) (source target : Address) (How : Option HostLosses → Option HostLosses → Type 0) (P Q : Address → Option HostLosses → Type 0)
    → ((h : Address) (o n : Option HostLosses) → (same_address source h || same_address target h) ≡ true → How o n → P h o → Q h n)
    → ((h : Address) (o n : Option HostLosses) → (same_address source h || same_address target h) ≡ true → How o n → Q h o → Q h n)
    → ((h : Address) (o : Option HostLosses) → (same_address source h || same_address target h) ≡ false → P h o → Q h o)
    → Changes old middle source How → Changes middle new target How
    → ((h : Address) → P h (of_host old h)) → (h : Address) → Q h (of_host new h)
both old middle new source target How P Q does again none first second was h = by_test (same_address source h)
    (λ same.
    let done : Q h (of_host middle h) = does h (of_host old h) (of_host middle h) (or_left (same_address source h) (same_address target h) same) (how_at old middle source h How first same) (was h) in
    by_test (same_address target h)
    (λ too. again h (of_host middle h) (of_host new h) (or_left (same_address source h) (same_address target h) same) (how_at middle new target h How second too) done)
    (λ off. subst (Q h) (sym (second.others h off)) done))
    (λ other.
    let still : P h (of_host middle h) = subst (P h) (sym (first.others h other)) (was h) in
    by_test (same_address target h)
    (λ same. does h (of_host middle h) (of_host new h) (or_right (same_address source h) (same_address target h) same) (how_at middle new target h How second same) still)
    (λ off. subst (Q h) (sym (second.others h off)) (none h (of_host middle h) (or_none (same_address source h) (same_address target h) other off) still)))

-- ---- whose it is

pub of_two : (f : Unread) (source target : IpAddr) (one other : Address) → f.hosts ≡ Some (source, target) → one ≡ address_of source → other ≡ address_of target
    → (h : Address) → is_of_host h f ≡ (same_address one h || same_address other h)
of_two f source target one other is from to h =
    ap (λ (hosts : Option (IpAddr × IpAddr)). is_of_host h (record { frame = f.frame; hosts = hosts; time = f.time })) is
    ∙ ap (λ a. same_address a h || same_address (address_of target) h) (sym from)
    ∙ ap (λ a. same_address one h || same_address a h) (sym to)

pub two_are_known : (f : Unread) (source target : IpAddr) → f.hosts ≡ Some (source, target) → is_of_none f ≡ false
two_are_known f source target is = ap (λ (hosts : Option (IpAddr × IpAddr)). is_of_none (record { frame = f.frame; hosts = hosts; time = f.time })) is

pub of_no_host : (f : Unread) → f.hosts ≡ None → (h : Address) → is_of_host h f ≡ false
of_no_host f is h = ap (λ (hosts : Option (IpAddr × IpAddr)). is_of_host h (record { frame = f.frame; hosts = hosts; time = f.time })) is

pub of_unknown : (f : Unread) → f.hosts ≡ None → is_of_none f ≡ true
of_unknown f is = ap (λ (hosts : Option (IpAddr × IpAddr)). is_of_none (record { frame = f.frame; hosts = hosts; time = f.time })) is

-- ---- a frame that is lost

lost_in : (o n : Option HostLosses) (mine : Unread → Bool) (at : Address → Bool) (before after waiting : List Event) (f : Unread) → LosesMore f before after → mine f ≡ true
    → HasLost o n f.frame f.time → AreOf o mine at before waiting → AreOf n mine at after waiting
lost_in o n mine at before after waiting f more own has are = record {
  lost = lost_alike n n (λ g. IsLost g after × (mine g ≡ true)) (λ g. IsLost g after × (mine g ≡ true)) (λ r. IsAsked at r before) (λ r. IsAsked at r after)
      (λ k. refl) refl (λ g is. is) (λ g is. is) (more.asked at)
      (lost_more o n (λ g. IsLost g before × (mine g ≡ true)) (λ g. IsLost g after × (mine g ≡ true)) (λ r. IsAsked at r before) f (more.lost, own)
      (λ g was. (more.keeps g was.0, was.1))
      (λ g is. elim (more.only g is.0) [ inl same ↦ inl same | inr was ↦ inr (was, is.1) ])
      has are.lost);
  waits = λ k. has.waits k ∙ are.waits k;
}

lost_again : (o n : Option HostLosses) (mine : Unread → Bool) (at : Address → Bool) (before after waiting : List Event) (f : Unread) → LosesMore f before after → mine f ≡ true
    → HasLost o n f.frame f.time → AreOf o mine at after waiting → AreOf n mine at after waiting
lost_again o n mine at before after waiting f more own has are = record {
  lost = lost_more o n (λ g. IsLost g after × (mine g ≡ true)) (λ g. IsLost g after × (mine g ≡ true)) (λ r. IsAsked at r after) f (more.lost, own)
      (λ g is. is) (λ g is. inr is) has are.lost;
  waits = λ k. has.waits k ∙ are.waits k;
}

not_lost : (o : Option HostLosses) (mine : Unread → Bool) (at : Address → Bool) (before after waiting : List Event) (f : Unread) → LosesMore f before after → mine f ≡ false
    → AreOf o mine at before waiting → AreOf o mine at after waiting
not_lost o mine at before after waiting f more off are = record {
  lost = lost_alike o o (λ g. IsLost g before × (mine g ≡ true)) (λ g. IsLost g after × (mine g ≡ true)) (λ r. IsAsked at r before) (λ r. IsAsked at r after)
      (λ k. refl) refl
      (λ g was. (more.keeps g was.0, was.1))
      (λ g is. elim (more.only g is.0) [
        | inl same ↦ absurd (false≢true (sym off ∙ subst (λ (x : Unread). mine x ≡ true) same is.1))
        | inr was ↦ (was, is.1)
      ])
      (more.asked at) are.lost;
  waits = are.waits;
}

pub lost_between : (l : Losses) (middle new : BTreeMap Endpoint HostLosses) (before after waiting : List Event) (f : Unread) (source target : Address)
    → ((h : Address) → is_of_host h f ≡ (same_address source h || same_address target h)) → is_of_none f ≡ false → LosesMore f before after
    → Changes l.of_hosts middle source (λ o n. HasLost o n f.frame f.time) → Changes middle new target (λ o n. HasLost o n f.frame f.time)
    → StandFor l before waiting → StandFor (record { of_hosts = new; of_unknown = l.of_unknown; waiting = l.waiting }) after waiting
lost_between l middle new before after waiting f source target whose known more first second are = record {
  hosts = both l.of_hosts middle new source target (λ o n. HasLost o n f.frame f.time)
      (λ h o. AreOf o (is_of_host h) (λ a. same_address a h) before waiting) (λ h o. AreOf o (is_of_host h) (λ a. same_address a h) after waiting)
      (λ h o n own has was. lost_in o n (is_of_host h) (λ a. same_address a h) before after waiting f more (whose h ∙ own) has was)
      (λ h o n own has was. lost_again o n (is_of_host h) (λ a. same_address a h) before after waiting f more (whose h ∙ own) has was)
      (λ h o off was. not_lost o (is_of_host h) (λ a. same_address a h) before after waiting f more (whose h ∙ off) was)
      first second are.hosts;
  unknown = not_lost (Some l.of_unknown) is_of_none (λ a. true) before after waiting f more known are.unknown;
  waits = are.waits;
}

pub lost_of_none : (l : Losses) (new : HostLosses) (before after waiting : List Event) (f : Unread) → f.hosts ≡ None → LosesMore f before after
    → HasLost (Some l.of_unknown) (Some new) f.frame f.time
    → StandFor l before waiting → StandFor (record { of_hosts = l.of_hosts; of_unknown = new; waiting = l.waiting }) after waiting
lost_of_none l new before after waiting f none more has are = record {
  hosts = λ h. not_lost (of_host l.of_hosts h) (is_of_host h) (λ a. same_address a h) before after waiting f more (of_no_host f none h) (are.hosts h);
  unknown = lost_in (Some l.of_unknown) (Some new) is_of_none (λ a. true) before after waiting f more (of_unknown f none) has are.unknown;
  waits = are.waits;
}

pub loses_more : (e : Event) (history : List Event) (f : Unread) → lost_by e history ≡ Some f → ((at : Address → Bool) (r : ℕ) → IsAsked at r (e ∷ history) → IsAsked at r history)
    → LosesMore f history (e ∷ history)
loses_more e history f is asked = record {
  lost = inl is;
  keeps = λ g was. inr was;
  only = λ g is-lost. elim is-lost [ inl it ↦ inl (some_is (sym it ∙ is)) | inr was ↦ inr was ];
  asked = asked;
}

-- ---- nothing that is lost

no_more_of : (o : Option HostLosses) (mine : Unread → Bool) (at : Address → Bool) (before after waiting seen : List Event) → ((g : Unread) → IsLost g before → IsLost g after)
    → ((g : Unread) → IsLost g after → IsLost g before) → ((r : ℕ) → IsAsked at r after → IsAsked at r before) → ((n : ℕ) → waiting_at n seen ≡ waiting_at n waiting)
    → AreOf o mine at before waiting → AreOf o mine at after seen
no_more_of o mine at before after waiting seen keeps only asked same are = record {
  lost = lost_alike o o (λ g. IsLost g before × (mine g ≡ true)) (λ g. IsLost g after × (mine g ≡ true)) (λ r. IsAsked at r before) (λ r. IsAsked at r after)
      (λ k. refl) refl (λ g was. (keeps g was.0, was.1)) (λ g is. (only g is.0, is.1)) asked are.lost;
  waits = λ n. are.waits n ∙ ap (time_where mine) (sym (same n));
}

pub no_more : (l : Losses) (before after waiting seen : List Event) → ((g : Unread) → IsLost g before → IsLost g after) → ((g : Unread) → IsLost g after → IsLost g before)
    → ((at : Address → Bool) (r : ℕ) → IsAsked at r after → IsAsked at r before) → ((n : ℕ) → waiting_at n seen ≡ waiting_at n waiting)
    → StandFor l before waiting → StandFor l after seen
no_more l before after waiting seen keeps only asked same are = record {
  hosts = λ h. no_more_of (of_host l.of_hosts h) (is_of_host h) (λ a. same_address a h) before after waiting seen keeps only (asked (λ a. same_address a h)) same (are.hosts h);
  unknown = no_more_of (Some l.of_unknown) is_of_none (λ a. true) before after waiting seen keeps only (asked (λ a. true)) same are.unknown;
  waits = λ n. are.waits n ∙ ap (option_map kept_of) (sym (same n));
}

pub nothing_lost : (e : Event) (history : List Event) → lost_by e history ≡ None → (g : Unread) → IsLost g (e ∷ history) → IsLost g history
nothing_lost e history none g is = elim is [ inl it ↦ absurd (false≢true (ap is_some (sym none ∙ it))) | inr was ↦ was ]

-- ---- a frame that waits no longer

ended_in : (o n : Option HostLosses) (mine : Unread → Bool) (at : Address → Bool) (history : List Event) (frame : ℕ) → HasWaited o n frame None
    → AreOf o mine at history history → AreOf n mine at history (GivesUp frame ∷ history)
ended_in o n mine at history frame has are = record {
  lost = lost_alike o n (λ g. IsLost g history × (mine g ≡ true)) (λ g. IsLost g history × (mine g ≡ true)) (λ r. IsAsked at r history) (λ r. IsAsked at r history)
      has.lost has.asked (λ g is. is) (λ g is. is) (λ r is. is) are.lost;
  waits = ended o n mine history frame has (λ k off. are.waits k);
}

ended_again : (o n : Option HostLosses) (mine : Unread → Bool) (at : Address → Bool) (history : List Event) (frame : ℕ) → HasWaited o n frame None
    → AreOf o mine at history (GivesUp frame ∷ history) → AreOf n mine at history (GivesUp frame ∷ history)
ended_again o n mine at history frame has are = record {
  lost = lost_alike o n (λ g. IsLost g history × (mine g ≡ true)) (λ g. IsLost g history × (mine g ≡ true)) (λ r. IsAsked at r history) (λ r. IsAsked at r history)
      has.lost has.asked (λ g is. is) (λ g is. is) (λ r is. is) are.lost;
  waits = ended o n mine history frame has (others_ended o mine history frame are.waits);
}

not_ended_in : (o : Option HostLosses) (mine : Unread → Bool) (at : Address → Bool) (history : List Event) (frame : ℕ) → time_where mine (waiting_at frame history) ≡ None
    → AreOf o mine at history history → AreOf o mine at history (GivesUp frame ∷ history)
not_ended_in o mine at history frame none are = record { lost = are.lost; waits = not_ended o mine history frame none are.waits }

not_mine : (mine : Unread → Bool) (w : Option Unread) (g : Unread) → w ≡ Some g → mine g ≡ false → time_where mine w ≡ None
not_mine mine w g is off = ap (time_where mine) is ∙ ap (λ b. cond b (Some g.time) None) off

ended_kept : (b : Bool) (x : Option Waiting) (w : Option Unread) → x ≡ option_map kept_of w → cond b None x ≡ option_map kept_of (cond b None w)
ended_kept true x w is = refl
ended_kept false x w is = is

waits_ended : (l : Losses) (left : BTreeMap ℕ Waiting) (history : List Event) (frame : ℕ) → ((n : ℕ) → get nat_cmp left n ≡ cond (frame == n) None (get nat_cmp l.waiting n))
    → ((n : ℕ) → get nat_cmp l.waiting n ≡ option_map kept_of (waiting_at n history))
    → (n : ℕ) → get nat_cmp left n ≡ option_map kept_of (waiting_at n (GivesUp frame ∷ history))
waits_ended l left history frame removed waits n = removed n ∙ ended_kept (frame == n) (get nat_cmp l.waiting n) (waiting_at n history) (waits n)

pub ended_between : (l : Losses) (middle new : BTreeMap Endpoint HostLosses) (left : BTreeMap ℕ Waiting) (history : List Event) (frame : ℕ) (g : Unread) (source target : Address)
    → waiting_at frame history ≡ Some g → ((h : Address) → is_of_host h g ≡ (same_address source h || same_address target h)) → is_of_none g ≡ false
    → Changes l.of_hosts middle source (λ o n. HasWaited o n frame None) → Changes middle new target (λ o n. HasWaited o n frame None)
    → ((n : ℕ) → get nat_cmp left n ≡ cond (frame == n) None (get nat_cmp l.waiting n))
    → AreLosses l history → StandFor (record { of_hosts = new; of_unknown = l.of_unknown; waiting = left }) history (GivesUp frame ∷ history)
ended_between l middle new left history frame g source target is whose known first second removed are = record {
  hosts = both l.of_hosts middle new source target (λ o n. HasWaited o n frame None)
      (λ h o. AreOf o (is_of_host h) (λ a. same_address a h) history history) (λ h o. AreOf o (is_of_host h) (λ a. same_address a h) history (GivesUp frame ∷ history))
      (λ h o n own has was. ended_in o n (is_of_host h) (λ a. same_address a h) history frame has was)
      (λ h o n own has was. ended_again o n (is_of_host h) (λ a. same_address a h) history frame has was)
      (λ h o off was. not_ended_in o (is_of_host h) (λ a. same_address a h) history frame (not_mine (is_of_host h) (waiting_at frame history) g is (whose h ∙ off)) was)
      first second are.hosts;
  unknown = not_ended_in (Some l.of_unknown) is_of_none (λ a. true) history frame (not_mine is_of_none (waiting_at frame history) g is known) are.unknown;
  waits = waits_ended l left history frame removed are.waits;
}

pub ended_of_none : (l : Losses) (new : HostLosses) (left : BTreeMap ℕ Waiting) (history : List Event) (frame : ℕ) (g : Unread) → waiting_at frame history ≡ Some g → g.hosts ≡ None
    → HasWaited (Some l.of_unknown) (Some new) frame None
    → ((n : ℕ) → get nat_cmp left n ≡ cond (frame == n) None (get nat_cmp l.waiting n))
    → AreLosses l history → StandFor (record { of_hosts = l.of_hosts; of_unknown = new; waiting = left }) history (GivesUp frame ∷ history)
ended_of_none l new left history frame g is none has removed are = record {
  hosts = λ h. not_ended_in (of_host l.of_hosts h) (is_of_host h) (λ a. same_address a h) history frame (not_mine (is_of_host h) (waiting_at frame history) g is (of_no_host g none h)) (are.hosts h);
  unknown = ended_in (Some l.of_unknown) (Some new) is_of_none (λ a. true) history frame has are.unknown;
  waits = waits_ended l left history frame removed are.waits;
}

pub none_ended : (l : Losses) (left : BTreeMap ℕ Waiting) (history : List Event) (frame : ℕ) → waiting_at frame history ≡ None
    → ((n : ℕ) → get nat_cmp left n ≡ cond (frame == n) None (get nat_cmp l.waiting n))
    → AreLosses l history → StandFor (record { of_hosts = l.of_hosts; of_unknown = l.of_unknown; waiting = left }) history (GivesUp frame ∷ history)
none_ended l left history frame none removed are = record {
  hosts = λ h. not_ended_in (of_host l.of_hosts h) (is_of_host h) (λ a. same_address a h) history frame (ap (time_where (is_of_host h)) none) (are.hosts h);
  unknown = not_ended_in (Some l.of_unknown) is_of_none (λ a. true) history frame (ap (time_where is_of_none) none) are.unknown;
  waits = waits_ended l left history frame removed are.waits;
}

-- ---- a frame that waits

began_in : (o n : Option HostLosses) (mine : Unread → Bool) (at : Address → Bool) (history : List Event) (f : Unread) → HasWaited o n f.frame (Some f.time) → mine f ≡ true
    → AreOf o mine at history (GivesUp f.frame ∷ history) → AreOf n mine at (Waits f ∷ history) (Waits f ∷ history)
began_in o n mine at history f has own are = record {
  lost = lost_alike o n (λ g. IsLost g history × (mine g ≡ true)) (λ g. IsLost g (Waits f ∷ history) × (mine g ≡ true)) (λ r. IsAsked at r history) (λ r. IsAsked at r history)
      has.lost has.asked (λ g was. (inr was.0, was.1)) (λ g is. (nothing_lost (Waits f) history refl g is.0, is.1)) (λ r is. is) are.lost;
  waits = began o n mine history f has own (others_ended o mine history f.frame are.waits);
}

began_again : (o n : Option HostLosses) (mine : Unread → Bool) (at : Address → Bool) (history : List Event) (f : Unread) → HasWaited o n f.frame (Some f.time) → mine f ≡ true
    → AreOf o mine at (Waits f ∷ history) (Waits f ∷ history) → AreOf n mine at (Waits f ∷ history) (Waits f ∷ history)
began_again o n mine at history f has own are = record {
  lost = lost_alike o n (λ g. IsLost g (Waits f ∷ history) × (mine g ≡ true)) (λ g. IsLost g (Waits f ∷ history) × (mine g ≡ true)) (λ r. IsAsked at r history) (λ r. IsAsked at r history)
      has.lost has.asked (λ g is. is) (λ g is. is) (λ r is. is) are.lost;
  waits = began o n mine history f has own (others_began o mine history f are.waits);
}

not_began_in : (o : Option HostLosses) (mine : Unread → Bool) (at : Address → Bool) (history : List Event) (f : Unread) → mine f ≡ false
    → AreOf o mine at history (GivesUp f.frame ∷ history) → AreOf o mine at (Waits f ∷ history) (Waits f ∷ history)
not_began_in o mine at history f off are = record {
  lost = lost_alike o o (λ g. IsLost g history × (mine g ≡ true)) (λ g. IsLost g (Waits f ∷ history) × (mine g ≡ true)) (λ r. IsAsked at r history) (λ r. IsAsked at r history)
      (λ k. refl) refl (λ g was. (inr was.0, was.1)) (λ g is. (nothing_lost (Waits f) history refl g is.0, is.1)) (λ r is. is) are.lost;
  waits = not_began o mine history f off are.waits;
}

began_kept : (b : Bool) (f : Unread) (x : Option Waiting) (w : Option Unread) → x ≡ option_map kept_of (cond b None w) → cond b (Some (kept_of f)) x ≡ option_map kept_of (cond b (Some f) w)
began_kept true f x w is = refl
began_kept false f x w is = is

waits_began : (l : Losses) (more : BTreeMap ℕ Waiting) (history : List Event) (f : Unread) → ((n : ℕ) → get nat_cmp more n ≡ cond (f.frame == n) (Some (kept_of f)) (get nat_cmp l.waiting n))
    → ((n : ℕ) → get nat_cmp l.waiting n ≡ option_map kept_of (waiting_at n (GivesUp f.frame ∷ history)))
    → (n : ℕ) → get nat_cmp more n ≡ option_map kept_of (waiting_at n (Waits f ∷ history))
waits_began l more history f inserted waits n = inserted n ∙ began_kept (f.frame == n) f (get nat_cmp l.waiting n) (waiting_at n history) (waits n)

pub began_between : (l : Losses) (middle new : BTreeMap Endpoint HostLosses) (more : BTreeMap ℕ Waiting) (history : List Event) (f : Unread) (source target : Address)
    → ((h : Address) → is_of_host h f ≡ (same_address source h || same_address target h)) → is_of_none f ≡ false
    → Changes l.of_hosts middle source (λ o n. HasWaited o n f.frame (Some f.time)) → Changes middle new target (λ o n. HasWaited o n f.frame (Some f.time))
    → ((n : ℕ) → get nat_cmp more n ≡ cond (f.frame == n) (Some (kept_of f)) (get nat_cmp l.waiting n))
    → StandFor l history (GivesUp f.frame ∷ history) → AreLosses (record { of_hosts = new; of_unknown = l.of_unknown; waiting = more }) (Waits f ∷ history)
began_between l middle new more history f source target whose known first second inserted are = record {
  hosts = both l.of_hosts middle new source target (λ o n. HasWaited o n f.frame (Some f.time))
      (λ h o. AreOf o (is_of_host h) (λ a. same_address a h) history (GivesUp f.frame ∷ history)) (λ h o. AreOf o (is_of_host h) (λ a. same_address a h) (Waits f ∷ history) (Waits f ∷ history))
      (λ h o n own has was. began_in o n (is_of_host h) (λ a. same_address a h) history f has (whose h ∙ own) was)
      (λ h o n own has was. began_again o n (is_of_host h) (λ a. same_address a h) history f has (whose h ∙ own) was)
      (λ h o off was. not_began_in o (is_of_host h) (λ a. same_address a h) history f (whose h ∙ off) was)
      first second are.hosts;
  unknown = not_began_in (Some l.of_unknown) is_of_none (λ a. true) history f known are.unknown;
  waits = waits_began l more history f inserted are.waits;
}

pub began_of_none : (l : Losses) (new : HostLosses) (more : BTreeMap ℕ Waiting) (history : List Event) (f : Unread) → f.hosts ≡ None
    → HasWaited (Some l.of_unknown) (Some new) f.frame (Some f.time)
    → ((n : ℕ) → get nat_cmp more n ≡ cond (f.frame == n) (Some (kept_of f)) (get nat_cmp l.waiting n))
    → StandFor l history (GivesUp f.frame ∷ history) → AreLosses (record { of_hosts = l.of_hosts; of_unknown = new; waiting = more }) (Waits f ∷ history)
began_of_none l new more history f none has inserted are = record {
  hosts = λ h. not_began_in (of_host l.of_hosts h) (is_of_host h) (λ a. same_address a h) history f (of_no_host f none h) (are.hosts h);
  unknown = began_in (Some l.of_unknown) (Some new) is_of_none (λ a. true) history f has (of_unknown f none) are.unknown;
  waits = waits_began l more history f inserted are.waits;
}

-- ---- a request

any_asked : (at : Address → Bool) (r : ℕ) (history : List Event) → IsAsked at r history → IsAsked (λ host. true) r history
any_asked at r [] is = is
any_asked at r (Asks h frame ∷ older) (inl is) = inl (refl, is.1)
any_asked at r (Asks h frame ∷ older) (inr is) = inr (any_asked at r older is)
any_asked at r (Loses f ∷ older) is = any_asked at r older is
any_asked at r (Waits f ∷ older) is = any_asked at r older is
any_asked at r (Finds frame clock ∷ older) is = any_asked at r older is
any_asked at r (GivesUp frame ∷ older) is = any_asked at r older is

asked_in : (o n : Option HostLosses) (mine : Unread → Bool) (at : Address → Bool) (history : List Event) (host : Address) (frame : ℕ) → HasAskedIn o n frame → IsAfterAll frame history
    → AreOf o mine at history history → AreOf n mine at (Asks host frame ∷ history) (Asks host frame ∷ history)
asked_in o n mine at history host frame has after are = record {
  lost = asked_more o n (λ g. IsLost g history × (mine g ≡ true)) (λ g. IsLost g (Asks host frame ∷ history) × (mine g ≡ true))
      (λ r. IsAsked at r history) (λ r. IsAsked at r (Asks host frame ∷ history)) frame has
      (λ g was. (inr was.0, was.1)) (λ g is. (nothing_lost (Asks host frame) history refl g is.0, is.1))
      (λ r is. elim is [ inl it ↦ inl it.1 | inr was ↦ inr was ])
      (λ g is. after.0 g is.0) (λ r is. after.1 r (any_asked at r history is)) are.lost;
  waits = λ k. has.waits k ∙ are.waits k;
}

not_asked_in : (o : Option HostLosses) (mine : Unread → Bool) (at : Address → Bool) (history : List Event) (host : Address) (frame : ℕ) → at host ≡ false
    → AreOf o mine at history history → AreOf o mine at (Asks host frame ∷ history) (Asks host frame ∷ history)
not_asked_in o mine at history host frame off are = record {
  lost = lost_alike o o (λ g. IsLost g history × (mine g ≡ true)) (λ g. IsLost g (Asks host frame ∷ history) × (mine g ≡ true))
      (λ r. IsAsked at r history) (λ r. IsAsked at r (Asks host frame ∷ history)) (λ k. refl) refl
      (λ g was. (inr was.0, was.1)) (λ g is. (nothing_lost (Asks host frame) history refl g is.0, is.1))
      (λ r is. elim is [ inl it ↦ absurd (false≢true (sym off ∙ it.0)) | inr was ↦ was ]) are.lost;
  waits = are.waits;
}

pub asked_at_host : (l : Losses) (new : BTreeMap Endpoint HostLosses) (unknown : HostLosses) (history : List Event) (host : Address) (frame : ℕ) → IsAfterAll frame history
    → Changes l.of_hosts new host (λ o n. HasAskedIn o n frame) → HasAskedIn (Some l.of_unknown) (Some unknown) frame
    → AreLosses l history → AreLosses (record { of_hosts = new; of_unknown = unknown; waiting = l.waiting }) (Asks host frame ∷ history)
asked_at_host l new unknown history host frame after changes has are = record {
  hosts = λ h. by_test (same_address host h)
      (λ same. asked_in (of_host l.of_hosts h) (of_host new h) (is_of_host h) (λ a. same_address a h) history host frame (how_at l.of_hosts new host h (λ o n. HasAskedIn o n frame) changes same) after (are.hosts h))
      (λ off. subst (λ o. AreOf o (is_of_host h) (λ a. same_address a h) (Asks host frame ∷ history) (Asks host frame ∷ history)) (sym (changes.others h off))
      (not_asked_in (of_host l.of_hosts h) (is_of_host h) (λ a. same_address a h) history host frame off (are.hosts h)));
  unknown = asked_in (Some l.of_unknown) (Some unknown) is_of_none (λ a. true) history host frame has after are.unknown;
  waits = are.waits;
}

-- ---- what was kept of a frame that waited

pub none_was : (w : Option Unread) → None ≡ option_map kept_of w → w ≡ None
none_was None is = refl
none_was (Some g) is = absurd (false≢true (ap is_some is))

pub some_was : (w : Option Unread) (k : Waiting) → Some k ≡ option_map kept_of w → (g : Unread) × (w ≡ Some g) × (g.hosts ≡ k.hosts) × (g.time ≡ k.time)
some_was None k is = absurd (false≢true (sym (ap is_some is)))
some_was (Some g) k is = (let same = some_is is in (g, refl, sym (ap (λ (x : Waiting). x.hosts) same), sym (ap (λ (x : Waiting). x.time) same)))

-- the frame that waited, by what was kept of it
pub same_frame : (g : Unread) (frame : ℕ) (k : Waiting) → g.frame ≡ frame → g.hosts ≡ k.hosts → g.time ≡ k.time → g ≡ record { frame = frame; hosts = k.hosts; time = k.time }
same_frame g frame k number hosts time = λ i. record { frame = number i; hosts = hosts i; time = time i }

-- whether it was found late
pub is_found_late : (w : Option Unread) (g : Unread) (clock : ℕ) → w ≡ Some g → g.time + longest_wait < clock → found_late clock w ≡ Some g
is_found_late w g clock is late =
    let after : nat_lt (g.time + longest_wait) clock ≡ true = grind (arith, nat_tests) in
    ap (found_late clock) is ∙ ap (λ b. cond b (Some g) None) after

pub is_found_soon : (w : Option Unread) (g : Unread) (clock : ℕ) → w ≡ Some g → clock ≤ g.time + longest_wait → found_late clock w ≡ None
is_found_soon w g clock is soon =
    let before : nat_lt (g.time + longest_wait) clock ≡ false = grind (arith, nat_tests) in
    ap (found_late clock) is ∙ ap (λ b. cond b (Some g) None) before
