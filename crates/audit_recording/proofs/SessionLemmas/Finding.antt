-- Whether the text of a transfer is found, and why not.
use Rattle.std.proofs.Common.{arith, ◌≡◌, ◌≢◌, ◌==◌, ◌+◌, ◌-◌, zero, suc, ℕ, true, false, true≢false, cond, List, [], ◌∷◌, length, Option, Some, None, IsSome, is_some, Result, Ok, Err, IfErr, IfOk, IsErrAnd, inl, inr, refl, sym, ap, subst, ◌∙◌, if◌then◌else◌}
use Rattle.std.specs.BTreeMap.{get, is_at}
use Rattle.std.specs.declared.alloc.AllocError.{AllocError}
use Rattle.std.specs.List.{slice_get}
use Rattle.std.specs.Map.{keys_of, lookup}
use Rattle.std.specs.Ordering.{nat_cmp}
use Rattle.std.proofs.lemmas.Bool.{eq-eqb, eqb-false, eqb-true}
use Rattle.net_udp.specs.Recording.{Step}
use Rattle.tftp_packet.specs.{End}
use Rattle.audit_flows.proofs.LinesLemmas.Lines.{by_test}
use Rattle.audit_flows.specs.Lines.{Placed}
use Rattle.audit_flows.specs.{Transfer}
use Rattle.audit_views.specs.Texts.{IsComment, Notes}
use Rattle.audit_recording.specs.Blame.Frames.{Carried, datagrams_of, whole_of}
use Rattle.audit_recording.specs.Judges.{opened}
use Rattle.audit_recording.specs.Session.Kept.{IsSessionOf}
use Rattle.audit_recording.specs.Session.Noted.{Noticed}
use Rattle.audit_recording.specs.Session.Texts.{IsHeadingFault, IsNoneNumbered, IsNumbered, IsTextAt, IsTextFault, IsTextKept, heading_text, is_wanted, opened_numbers, ordinal, server_in, worded_in}
use Rattle.audit_recording.specs.Session.Trails.{IsTrailKept}
use Rattle.audit_recording.specs.declared.blame.trail.Trail.{Trail}
use Rattle.audit_recording.specs.declared.session.fault.TextFault.{TextFault}
use Rattle.audit_recording.specs.declared.session.fault.TextFault.TheVariants.{LongName, NoTransfer, NotWhole}
use Rattle.audit_recording.specs.declared.session.session.Session.{Session}
use Rattle.audit_recording.specs.declared.session.text.TextAt.{TextAt}
use Rattle.audit_recording.proofs.JudgesLemmas.Keeping.{opened_number, same_number}
use Rattle.audit_recording.proofs.SessionLemmas.Ordered.{count_is, opened_at, ordinal_at}

-- ---- the key at a place

-- a key is there
pub key_there : (es : List (ℕ × Trail)) (k key : ℕ) → slice_get (keys_of es) k ≡ Some key → IsSome (lookup (is_at (nat_cmp key)) es)
key_there [] k key is = absurd (cc)
key_there (e ∷ es) zero key is =
    let same : e.0 ≡ key = cc in
    ap (λ b. is_some (cond b (Some e.1) (lookup (is_at (nat_cmp key)) es))) (same_number key e.0 ∙ eq-eqb key e.0 (sym same))
key_there (e ∷ es) (suc k) key is = by_test (is_at (nat_cmp key) e.0)
    (λ it. ap (λ b. is_some (cond b (Some e.1) (lookup (is_at (nat_cmp key)) es))) it)
    (λ off. ap (λ b. is_some (cond b (Some e.1) (lookup (is_at (nat_cmp key)) es))) off ∙ key_there es k key is)

some_is_not_none : {X : Type 0} (x : X) (o : Option X) → o ≡ None → o ≡ Some x → ⊥
some_is_not_none x o none some = let both : None ≡ Some x = sym none ∙ some in absurd (cc)

is_more : (n k : ℕ) → n ≡ k + 1 → (n == 0) ≡ false
is_more n k same = by_test (n == 0) (λ is. let none : n ≡ 0 = eqb-true n 0 is in absurd (omega arith)) (λ off. off)

module _ (number : ℕ) (xs : List ℕ) where
  abbrev pub at_it : Option ℕ
  at_it = if number == 0 then None else slice_get xs (number - 1)

  pub is_one : (key : ℕ) → at_it ≡ Some key → (slice_get xs (number - 1) ≡ Some key) × ((number == 0) ≡ false)
  is_one key is = by_test (number == 0)
      (λ none. let both : None ≡ Some key = sym (ap (λ b. if b then None else slice_get xs (number - 1)) none) ∙ is in absurd (cc))
      (λ some. (sym (ap (λ b. if b then None else slice_get xs (number - 1)) some) ∙ is, some))

  not_there : (k key : ℕ) → at_it ≡ None → slice_get xs k ≡ Some key → k + 1 ≡ number → ⊥
  not_there k key none there same = by_test (number == 0)
      (λ zero_is. true≢false (sym zero_is ∙ is_more number k (sym same)))
      (λ some.
      let before : k ≡ number - 1 = omega arith in
      let at : slice_get xs (number - 1) ≡ Some key = subst (λ j. slice_get xs j ≡ Some key) before there in
      some_is_not_none key (slice_get xs (number - 1)) (sym (ap (λ b. if b then None else slice_get xs (number - 1)) some) ∙ none) at)

-- it is the key of the transfer with that number
pub numbered_by : (number key : ℕ) (xs : List ℕ) (named : List ℕ) (carried : List Carried) → at_it number xs ≡ Some key → xs ≡ opened_numbers (whole_of named carried) → ordinal key (whole_of named carried) ≡ number
numbered_by number key xs named carried is are =
    let there = is_one number xs key is in
    let more : number ≢ 0 = eqb-false number 0 there.1 in
    let place : ordinal key (whole_of named carried) ≡ (number - 1) + 1 = ordinal_at named (datagrams_of carried) (number - 1) key (subst (λ l. slice_get l (number - 1) ≡ Some key) are there.0) in
    omega (arith, place, more)

-- there is none with that number
pub none_by : (number count : ℕ) (xs : List ℕ) (named : List ℕ) (carried : List Carried) → at_it number xs ≡ None → xs ≡ opened_numbers (whole_of named carried) → count ≡ length xs
    → IsNoneNumbered number (whole_of named carried) (NoTransfer number count)
none_by number count xs named carried none are many = (
  refl,
  many ∙ ap length are ∙ sym (count_is (whole_of named carried)),
  λ key some place.
      let there = opened_at named (datagrams_of carried) key some in
      not_there number xs there.0 key none (subst (λ l. slice_get l there.0 ≡ Some key) (sym are) there.1) (sym (ordinal_at named (datagrams_of carried) there.0 key there.1) ∙ place),
)

-- ---- faults that are handed on

abbrev pub failed : (A : Type 0) → TextFault → Result A TextFault
failed A f = Err f

pub same_fault : {A F : Type 0} (r : Result A F) (e : F) (P : F → Type 0) → IsErrAnd r (λ f. f ≡ e) → P e → IfErr r P
same_fault (Ok x) e P is p = tt
same_fault (Err f) e P is p = subst P (sym is) p

pub ok_so : {A F : Type 0} (r : Result A F) (P Q : A → Type 0) → IfOk r P → ((x : A) → P x → Q x) → IfOk r Q
ok_so (Ok x) P Q p so = so x p
ok_so (Err f) P Q p so = tt

-- memory ran out
pub no_memory : {A : Type 0} (r : Result A TextFault) (e : AllocError) (number : ℕ) (all : List Placed) → IsErrAnd r (λ f. f ≡ TextFault.Alloc e) → IfErr r (IsNoneNumbered number all)
no_memory (Ok x) e number all is = tt
no_memory (Err f) e number all is = subst (IsNoneNumbered number all) (sym is) tt

pub memory_not_long : {A : Type 0} (r : Result A TextFault) (e : AllocError) → IsErrAnd r (λ f. f ≡ TextFault.Alloc e) → r ≡ failed A LongName → ⊥
memory_not_long (Ok x) e is same = absurd is
memory_not_long (Err f) e is same = let long : f ≡ LongName = cc in let both : LongName ≡ TextFault.Alloc e = sym long ∙ is in absurd (cc)

pub memory_other : {A : Type 0} (r : Result A TextFault) (e : AllocError) → IsErrAnd r (λ f. f ≡ TextFault.Alloc e) → IsHeadingFault r
memory_other (Ok x) e is = absurd is
memory_other (Err f) e is = (
  λ n count same. let none : f ≡ NoTransfer n count = cc in let both : NoTransfer n count ≡ TextFault.Alloc e = sym none ∙ is in absurd (cc),
  λ same. let whole : f ≡ NotWhole = cc in let both : NotWhole ≡ TextFault.Alloc e = sym whole ∙ is in absurd (cc),
)

-- ---- what is kept of it

module _ (session : Session) (named out : List ℕ) (history : List Step) (carried : List Carried) (s : Noticed) (is : IsSessionOf session named out history carried s) where
  pub trail_there : (key : ℕ) (t : Trail) → get nat_cmp session.trails key ≡ Some t → IsTrailKept session.audit.judge.judging named out (whole_of named carried) carried key (Some t)
  trail_there key t was = subst (IsTrailKept session.audit.judge.judging named out (whole_of named carried) carried key) was (is.trails key)

  pub text_there : (key : ℕ) (n : Notes) → get nat_cmp session.kept.texts key ≡ Some n → IsTextKept session.kept.wanted (whole_of named carried) (worded_in named carried) key (Some n)
  text_there key n was = subst (IsTextKept session.kept.wanted (whole_of named carried) (worded_in named carried) key) was (is.texts.texts key)

  pub same_transfer : (key : ℕ) (t : Trail) (n : Notes) → get nat_cmp session.trails key ≡ Some t → get nat_cmp session.kept.texts key ≡ Some n → t.transfer ≡ n.transfer
  same_transfer key t n was kept =
      let both : Some t.transfer ≡ Some n.transfer = sym (trail_there key t was).0 ∙ (text_there key n kept).0 in cc

  pub is_text : (key number : ℕ) (end : End) (file : List ℕ) (t : Trail) (n : Notes) (found : TextAt) → get nat_cmp session.trails key ≡ Some t → get nat_cmp session.kept.texts key ≡ Some n → found.text.now ≡ n
      → found.heading ≡ heading_text number file end t.transfer.client (server_in t.transfer named carried) → IsTextAt found named carried key number end file
  is_text key number end file t n found was kept same heading =
      let kept_now : get nat_cmp session.kept.texts key ≡ Some found.text.now = kept ∙ ap Some (sym same) in
      record {
        opened = (text_there key found.text.now kept_now).0;
        fed = (text_there key found.text.now kept_now).2;
        heading = subst (λ (x : Transfer). found.heading ≡ heading_text number file end x.client (server_in x named carried)) (same_transfer key t found.text.now was kept_now) heading;
      }

  pub is_numbered : (key number : ℕ) (t : Trail) → get nat_cmp session.trails key ≡ Some t → ordinal key (whole_of named carried) ≡ number → IsNumbered t number named carried
  is_numbered key number t was place =
      let held = trail_there key t was in
      let same : t.transfer.number ≡ key = opened_number key (whole_of named carried) t.transfer held.0 in
      (ap (λ k. opened k (whole_of named carried)) same ∙ held.0, ap (λ k. ordinal k (whole_of named carried)) same ∙ place, (session.audit.judge.judging, held.2.own))

  no_text : (key number : ℕ) (x : Transfer) → opened key (whole_of named carried) ≡ Some x → ordinal key (whole_of named carried) ≡ number → is_wanted session.kept.wanted number ≡ true
      → IsTextKept session.kept.wanted (whole_of named carried) (worded_in named carried) key None → ⊥
  no_text key number x there place wanted (inl none) = some_is_not_none x (opened key (whole_of named carried)) none there
  no_text key number x there place wanted (inr off) = true≢false (sym wanted ∙ (ap (is_wanted session.kept.wanted) (sym place) ∙ off))

  -- one that is wanted has its text
  pub wanted_there : (key number : ℕ) (t : Trail) → get nat_cmp session.trails key ≡ Some t → ordinal key (whole_of named carried) ≡ number → is_wanted session.kept.wanted number ≡ true
      → get nat_cmp session.kept.texts key ≡ None → ⊥
  wanted_there key number t was place wanted none = no_text key number t.transfer (trail_there key t was).0 place wanted
      (subst (IsTextKept session.kept.wanted (whole_of named carried) (worded_in named carried) key) none (is.texts.texts key))

  -- its heading is too long, or memory ran out
  pub heading_fault : (A : Type 0) (key number : ℕ) (end : End) (file : List ℕ) (t : Trail) (f : TextFault) → get nat_cmp session.trails key ≡ Some t → ordinal key (whole_of named carried) ≡ number
      → IsHeadingFault (failed A f) → (failed A f ≡ failed A LongName → IsComment (heading_text number file end t.transfer.client (server_in t.transfer named carried)) → ⊥)
      → IsTextFault session.notes.fault named carried s number end file f
  heading_fault A key number end file t (NoTransfer n count) was place other long = absurd (other.0 n count refl)
  heading_fault A key number end file t NotWhole was place other long = absurd (other.1 refl)
  heading_fault A key number end file t LongName was place other long = (t, is_numbered key number t was place, long refl)
  heading_fault A key number end file t (TextFault.Alloc error) was place other long = tt

  pub none_is_fault : (number : ℕ) (end : End) (file : List ℕ) (f : TextFault) → IsNoneNumbered number (whole_of named carried) f → IsTextFault session.notes.fault named carried s number end file f
  none_is_fault number end file (NoTransfer n count) none = none
  none_is_fault number end file NotWhole none = absurd none
  none_is_fault number end file LongName none = absurd none
  none_is_fault number end file (TextFault.Alloc error) none = tt
