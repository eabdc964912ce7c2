-- What the transfers of a recording were asked for. Lists have the newest first.
use Rattle.std.proofs.Common.{◌≡◌, ◌+◌, ◌++◌, zero, suc, ℕ, Bool, true, false, true≢false, List, [], ◌∷◌, length, Option, Some, None, IfSome, IsSome, is_some, ◌⊎◌, inl, inr, refl, sym, ap, subst, ◌∙◌}
use Rattle.std.specs.BTreeMap.{get}
use Rattle.std.proofs.lemmas.List.{length-append}
use Rattle.std.specs.List.{slice_get}
use Rattle.std.specs.Ordering.{nat_cmp}
use Rattle.net_udp.specs.Recording.{Step}
use Rattle.law_model.specs.Rules.{or_this}
use Rattle.audit_flows.proofs.LinesLemmas.Lines.{by_test}
use Rattle.audit_flows.specs.Transfers.{opened_it}
use Rattle.audit_recording.specs.Blame.Frames.{Carried, Framed, datagrams_of, framed_after, whole_of}
use Rattle.audit_recording.specs.Judges.{opened}
use Rattle.audit_recording.specs.Session.Kept.{IsSessionOf}
use Rattle.audit_recording.specs.Session.Noted.{Noticed}
use Rattle.audit_recording.specs.Session.Requests.{AreAsked, IsAskedAs}
use Rattle.audit_recording.specs.Session.Texts.{opened_numbers, ordinal}
use Rattle.audit_recording.specs.Session.Trails.{IsBegunBy, IsTrailKept, opening_of}
use Rattle.audit_recording.specs.declared.blame.trail.Trail.{Trail}
use Rattle.audit_recording.specs.declared.session.requests.Asked.{Asked}
use Rattle.audit_recording.specs.declared.session.session.Session.{Session}
use Rattle.audit_recording.proofs.JudgesLemmas.Keeping.{opened_elsewhere, opened_number}
use Rattle.audit_recording.proofs.SessionLemmas.Finding.{trail_there}
use Rattle.audit_recording.proofs.SessionLemmas.Ordered.{count_is, ordinal_at}

-- ---- the datagram that opened a transfer

it_there : {X : Type 0} (o : Option X) → IsSome o → (x : X) × (o ≡ Some x)
it_there None some = absurd (true≢false (sym some))
it_there (Some x) some = (x, refl)

this_opens : (o : Option Framed) (b : Bool) (f : Framed) → b ≡ true → IsSome (or_this o b f)
this_opens (Some g) b f is = refl
this_opens None true f is = refl
this_opens None false f is = absurd (true≢false (sym is))

older_opens : (o : Option Framed) (b : Bool) (f : Framed) → IsSome o → IsSome (or_this o b f)
older_opens (Some g) b f some = refl
older_opens None b f some = absurd (true≢false (sym some))

pub opening_some : (n : ℕ) (named : List ℕ) (carried : List Carried) → IsSome (opened n (whole_of named carried)) → IsSome (opening_of n named carried)
opening_some n named [] some = absurd (true≢false (sym some))
opening_some n named (c ∷ older) some =
    let f = framed_after named older c in
    by_test (opened_it n f.placed)
    (λ is. this_opens (opening_of n named older) (opened_it n f.placed) f is)
    (λ off. older_opens (opening_of n named older) (opened_it n f.placed) f
    (opening_some n named older (subst IsSome (opened_elsewhere n f.placed (whole_of named older) off) some)))

-- ---- the request of one

module _ (session : Session) (named : List ℕ) (history : List Step) (carried : List Carried) (s : Noticed) (is : IsSessionOf session named [] history carried s) where
  pub is_asked : (key number : ℕ) (t : Trail) (a : Asked) → get nat_cmp session.trails key ≡ Some t → ordinal key (whole_of named carried) ≡ number → a.number ≡ number → a.payload.now ≡ t.request.items
      → IsAskedAs named carried number a
  is_asked key number t a was place numbered request =
      let held : IsTrailKept session.audit.judge.judging named [] (whole_of named carried) carried key (Some t) = trail_there session named [] history carried s is key t was in
      let same : t.transfer.number ≡ key = opened_number key (whole_of named carried) t.transfer held.0 in
      let first = it_there (opening_of key named carried) (opening_some key named carried (ap is_some held.0)) in
      let begun : IfSome (opening_of key named carried) (IsBegunBy t) = subst (λ n. IfSome (opening_of n named carried) (IsBegunBy t)) same held.2.begun in
      let by_it : IsBegunBy t first.0 = subst (λ o. IfSome o (IsBegunBy t)) first.1 begun in
      record { numbered = numbered; key = key; which = place; opening = first.0; opens = first.1; request = request ∙ sym by_it.1 }

-- ---- the requests of the first ones

abbrev pub AreFirst : List ℕ → List Carried → ℕ → List Asked → Type 0
AreFirst named carried count asked = ((k : ℕ) (a : Asked) → slice_get asked k ≡ Some a → IsAskedAs named carried (k + 1) a) × (length asked ≡ count)

pub none_asked : (named : List ℕ) (carried : List Carried) → AreFirst named carried 0 []
none_asked named carried = (λ k a is. absurd (cc), refl)

one_more : (xs : List Asked) (one a : Asked) (k : ℕ) → slice_get (xs ++ one ∷ []) k ≡ Some a → (slice_get xs k ≡ Some a) ⊎ ((k ≡ length xs) × (one ≡ a))
one_more [] one a zero is = inr (refl, cc)
one_more [] one a (suc k) is = absurd (cc)
one_more (x ∷ xs) one a zero is = inl is
one_more (x ∷ xs) one a (suc k) is = by (one_more xs one a k is) where
  by : (slice_get xs k ≡ Some a) ⊎ ((k ≡ length xs) × (one ≡ a)) → (slice_get (x ∷ xs) (suc k) ≡ Some a) ⊎ ((suc k ≡ length (x ∷ xs)) × (one ≡ a))
  by (inl there) = inl there
  by (inr last) = inr (ap suc last.0, last.1)

pub asked_more : (named : List ℕ) (carried : List Carried) (count : ℕ) (xs : List Asked) (one : Asked) → AreFirst named carried count xs → IsAskedAs named carried (count + 1) one → AreFirst named carried (count + 1) (xs ++ one ∷ [])
asked_more named carried count xs one first is = (
  λ k a there. by k a (one_more xs one a k there),
  length-append xs (one ∷ []) ∙ ap (λ n. n + 1) first.1,
) where
  by : (k : ℕ) (a : Asked) → (slice_get xs k ≡ Some a) ⊎ ((k ≡ length xs) × (one ≡ a)) → IsAskedAs named carried (k + 1) a
  by k a (inl there) = first.0 k a there
  by k a (inr last) =
      subst (λ (b : Asked). IsAskedAs named carried (k + 1) b) last.1 (subst (λ n. IsAskedAs named carried (n + 1) one) (sym (last.0 ∙ first.1)) is)

-- all of them
pub all_asked : (named : List ℕ) (carried : List Carried) (keys : List ℕ) (xs : List Asked) → keys ≡ opened_numbers (whole_of named carried) → AreFirst named carried (length keys) xs → AreAsked named carried xs
all_asked named carried keys xs are first = record { each = first.0; all = first.1 ∙ ap length are ∙ sym (count_is (whole_of named carried)) }

-- the place of a key
pub place_of : (named : List ℕ) (carried : List Carried) (keys : List ℕ) (k key : ℕ) → keys ≡ opened_numbers (whole_of named carried) → slice_get keys k ≡ Some key → ordinal key (whole_of named carried) ≡ k + 1
place_of named carried keys k key are there = ordinal_at named (datagrams_of carried) k key (subst (λ l. slice_get l k ≡ Some key) are there)
