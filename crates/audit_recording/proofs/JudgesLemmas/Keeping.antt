-- What is kept of all transfers, with one datagram more.
use Rattle.std.proofs.Common.{rules, arith, All, ◌≡◌, ◌≤◌, ◌<◌, ◌+◌, ◌^◌, ℕ, Bool, true, false, cond, List, [], ◌∷◌, length, Option, Some, None, ◌⊎◌, inl, inr, refl, sym, ap, subst, ◌∙◌, ◌==◌, ◌&&◌, ◌||◌, not, IsSome, if◌then◌else◌}
use Rattle.std.specs.BTreeMap.{get, is_at, BTreeMap, IsLowerBound, IsUnchanged}
use Rattle.std.specs.Map.{lookup}
use Rattle.std.specs.Ordering.{is_eq, is_gt, nat_cmp}
use Rattle.std.proofs.lemmas.Bool.{eqb-true, or_parts, or_right}
use Rattle.std.proofs.lemmas.List.Elements.{All-head, All-tail}
use Rattle.audit_flows.specs.Lines.{Recorded, Placed, newest_of, transfer_of, may_be_answer_of}
use Rattle.audit_flows.specs.{Place, Opens, Transfer}
use Rattle.audit_flows.specs.Transfers.{place_of, placed, is_about, opened_it, is_it}
use Rattle.audit_flows.proofs.LinesLemmas.Lines.{by_test}
use Rattle.audit_flows.proofs.TransfersLemmas.Numbers.{none_answers_before, none_before, opening_number, length_placed}
use Rattle.audit_views.specs.Views.{Naming}
use Rattle.audit_recording.specs.Judges.{AreCrowded, AreHanded, AreKept, HaveAtMost, IsCrowded, IsKept, IsNew, IsWatching, Judges, RecordingJudge, StandsAfter, Watched, WereOpened, is_among, opened}
use Rattle.audit_recording.specs.Judges.Kept.{fed_at_client, fed_at_server, fed_between}
use Rattle.audit_recording.specs.declared.judges.judging.Judging.{Judging}
use Rattle.audit_recording.proofs.JudgesLemmas.Watching.{watching_on, watching_unheard}

pub same_number : (m n : ℕ) → is_eq (nat_cmp m n) ≡ (m == n)
same_number m n = search rules

pub is_itself : (n : ℕ) → (n == n) ≡ true
is_itself n = search rules

-- ---- which transfers were opened

abbrev found_opening : Option Placed → Option Transfer
found_opening None = None
found_opening (Some p) = transfer_of p.place

opened_as : (n : ℕ) (placed : List Placed) → opened n placed ≡ found_opening (newest_of (opened_it n) placed)
opened_as n placed = by (newest_of (opened_it n) placed) refl where
  by : (found : Option Placed) → newest_of (opened_it n) placed ≡ found → opened n placed ≡ found_opening (newest_of (opened_it n) placed)
  by None is = rw is refl
  by (Some p) is = rw is refl

pub opened_elsewhere : (n : ℕ) (p : Placed) (older : List Placed) → opened_it n p ≡ false → opened n (p ∷ older) ≡ opened n older
opened_elsewhere n p older off =
    opened_as n (p ∷ older) ∙ ap (λ b. found_opening (if b then Some p else newest_of (opened_it n) older)) off ∙ sym (opened_as n older)

pub opened_here : (n : ℕ) (p : Placed) (older : List Placed) → opened_it n p ≡ true → opened n (p ∷ older) ≡ transfer_of p.place
opened_here n p older is = opened_as n (p ∷ older) ∙ ap (λ b. found_opening (if b then Some p else newest_of (opened_it n) older)) is

pub opens_at : (n : ℕ) (d : Recorded) (now : ℕ) (place : Place) (x : Transfer) → place ≡ Opens x → opened_it n (record { datagram = d; moment = now; place = place }) ≡ (x.number == n)
opens_at n d now place x is = ap (λ (q : Place). opened_it n (record { datagram = d; moment = now; place = q })) is

numbered : (n : ℕ) (d : Recorded) (now : ℕ) (place : Place) (x : Transfer) → opened_it n (record { datagram = d; moment = now; place = place }) ≡ true → transfer_of place ≡ Some x → x.number ≡ n
numbered n d now (Opens y) x is of = let this : y ≡ x = cc in eqb-true x.number n (subst (λ (z : Transfer). (z.number == n) ≡ true) this is)
numbered n d now _ x is of = absurd (cc)

opens_some : (n : ℕ) (d : Recorded) (now : ℕ) (place : Place) → opened_it n (record { datagram = d; moment = now; place = place }) ≡ true → IsSome (transfer_of place)
opens_some n d now (Opens x) is = refl
opens_some n d now _ is = absurd (cc)

opens_about : (n : ℕ) (d : Recorded) (now : ℕ) (place : Place) → is_about n (record { datagram = d; moment = now; place = place }) ≡ false → opened_it n (record { datagram = d; moment = now; place = place }) ≡ false
opens_about n d now (Opens x) off = off
opens_about n d now _ off = refl

pub opened_number : (n : ℕ) (placed : List Placed) (x : Transfer) → opened n placed ≡ Some x → x.number ≡ n
opened_number n [] x is = absurd (cc)
opened_number n (p ∷ older) x is = by_test (opened_it n p)
    (λ yes. numbered n p.datagram p.moment p.place x yes (sym (opened_here n p older yes) ∙ is))
    (λ no. opened_number n older x (sym (opened_elsewhere n p older no) ∙ is))

pub opened_stays : (n : ℕ) (p : Placed) (older : List Placed) → IsSome (opened n older) → IsSome (opened n (p ∷ older))
opened_stays n p older some = by_test (opened_it n p)
    (λ is. subst IsSome (sym (opened_here n p older is)) (opens_some n p.datagram p.moment p.place is))
    (λ off. subst IsSome (sym (opened_elsewhere n p older off)) some)

pub opened_none : (n : ℕ) (placed : List Placed) → All (λ (p : Placed). is_about n p ≡ false) placed → opened n placed ≡ None
opened_none n [] none = refl
opened_none n (p ∷ older) none =
    opened_elsewhere n p older (opens_about n p.datagram p.moment p.place (All-head (λ (q : Placed). is_about n q ≡ false) p older none))
    ∙ opened_none n older (All-tail (λ (q : Placed). is_about n q ≡ false) p older none)

-- ---- a datagram that opens none

kept_opened : (judging : Judging) (name : Naming) (out : List ℕ) (one other fed : List Placed) (n : ℕ) (o : Option Watched) → opened n other ≡ opened n one → IsKept judging name out one fed n o → IsKept judging name out other fed n o
kept_opened judging name out one other fed n None same (inl none) = inl (same ∙ none)
kept_opened judging name out one other fed n None same (inr gone) = inr gone
kept_opened judging name out one other fed n (Some w) same kept = (same ∙ kept.0, kept.1, kept.2)

-- ---- a datagram that opens one

pub opens_one : (old new : BTreeMap ℕ Watched) (w : Watched) (x : Transfer) (judging : Judging) (name : Naming) (out : List ℕ) (p : Placed) (older : List Placed) → p.place ≡ Opens x → IsNew x.number out older → IsWatching w judging x name []
    → ((n : ℕ) → get nat_cmp new n ≡ cond (is_eq (nat_cmp x.number n)) (Some w) (get nat_cmp old n))
    → AreKept old judging name out older older → AreKept new judging name out (p ∷ older) older
opens_one old new w x judging name out p older opens unknown fresh updates kept = λ n. by_test (x.number == n)
    (λ is. subst (IsKept judging name out (p ∷ older) older n) (sym (updates n ∙ ap (λ b. cond b (Some w) (get nat_cmp old n)) (same_number x.number n ∙ is)))
    (let on : IsWatching w judging x name older = watching_unheard w judging x name older unknown.0 fresh in (
      opened_here n p older (opens_at n p.datagram p.moment p.place x opens ∙ is) ∙ ap transfer_of opens ∙ ap Some (sym on.transfer),
      subst (λ k. is_among k out ≡ false) (eqb-true x.number n is) unknown.1,
      subst (λ (y : Transfer). IsWatching w judging y name older) (sym on.transfer) on,
    )))
    (λ off. subst (IsKept judging name out (p ∷ older) older n) (sym (updates n ∙ ap (λ b. cond b (Some w) (get nat_cmp old n)) (same_number x.number n ∙ off)))
    (kept_opened judging name out older (p ∷ older) older n (get nat_cmp old n) (opened_elsewhere n p older (opens_at n p.datagram p.moment p.place x opens ∙ off)) (kept n)))

-- ---- a datagram is handed to one

kept_fed : (judging : Judging) (name : Naming) (out : List ℕ) (all one other : List Placed) (n : ℕ) → IsKept judging name out all one n None → IsKept judging name out all other n None
kept_fed judging name out all one other n (inl none) = inl none
kept_fed judging name out all one other n (inr gone) = inr gone

module _ (got : ℕ → Bool) (old new : BTreeMap ℕ Watched) (judging : Judging) (name : Naming) (out : List ℕ) (p : Placed) (older : List Placed) (m : ℕ) (fresh : got m ≡ false) where
  handed_others : (n : ℕ) → (m == n) ≡ false → get nat_cmp new n ≡ get nat_cmp old n → AreHanded got old judging name out p older
      → IsKept judging name out (p ∷ older) (if ((m == n) || got n) then p ∷ older else older) n (get nat_cmp new n)
  handed_others n off same kept = subst (IsKept judging name out (p ∷ older) (if ((m == n) || got n) then p ∷ older else older) n) (sym same)
      (subst (λ b. IsKept judging name out (p ∷ older) (if b then p ∷ older else older) n (get nat_cmp old n)) (sym (ap (λ b. b || got n) off)) (kept n))

  pub handed_one : (w v : Watched) → get nat_cmp old m ≡ Some w → ((n : ℕ) → get nat_cmp new n ≡ cond (is_eq (nat_cmp m n)) (Some v) (get nat_cmp old n))
      → v.transfer ≡ w.transfer → IsWatching v judging w.transfer name (p ∷ older)
      → AreHanded got old judging name out p older → AreHanded (λ n. is_it n (Some m) || got n) new judging name out p older
  handed_one w v was updates same stands kept = λ n. by_test (m == n)
      (λ is. subst (λ k. IsKept judging name out (p ∷ older) (if ((m == k) || got k) then p ∷ older else older) k (get nat_cmp new k)) (eqb-true m n is) here)
      (λ off. handed_others n off (updates n ∙ ap (λ b. cond b (Some v) (get nat_cmp old n)) (same_number m n ∙ off)) kept) where
        held : IsKept judging name out (p ∷ older) older m (Some w)
        held = subst (λ b. IsKept judging name out (p ∷ older) (if b then p ∷ older else older) m (Some w)) fresh (subst (IsKept judging name out (p ∷ older) (if got m then p ∷ older else older) m) was (kept m))

        here : IsKept judging name out (p ∷ older) (if ((m == m) || got m) then p ∷ older else older) m (get nat_cmp new m)
        here = subst (IsKept judging name out (p ∷ older) (if ((m == m) || got m) then p ∷ older else older) m)
            (sym (updates m ∙ ap (λ b. cond b (Some v) (get nat_cmp old m)) (same_number m m ∙ is_itself m)))
            (subst (λ b. IsKept judging name out (p ∷ older) (if (b || got m) then p ∷ older else older) m (Some v)) (sym (is_itself m))
            (held.0 ∙ ap Some (sym same), held.1, subst (λ (y : Transfer). IsWatching v judging y name (p ∷ older)) (sym same) stands))

  pub held_one : (w : Watched) → get nat_cmp old m ≡ Some w → AreHanded got old judging name out p older → (w.transfer.number ≡ m) × IsWatching w judging w.transfer name older
  held_one w was kept =
      let held : IsKept judging name out (p ∷ older) older m (Some w) = subst (λ b. IsKept judging name out (p ∷ older) (if b then p ∷ older else older) m (Some w)) fresh (subst (IsKept judging name out (p ∷ older) (if got m then p ∷ older else older) m) was (kept m)) in
      (opened_number m (p ∷ older) w.transfer held.0, held.2)

pub or_none : (b : Bool) → (b || false) ≡ b
or_none true = refl
or_none false = refl

pub handed_alone : (watched : BTreeMap ℕ Watched) (judging : Judging) (name : Naming) (out : List ℕ) (p : Placed) (older : List Placed) (m : ℕ)
    → AreHanded (λ n. is_it n (Some m) || false) watched judging name out p older → AreHanded (λ n. is_it n (Some m)) watched judging name out p older
handed_alone watched judging name out p older m kept = λ n. subst (λ b. IsKept judging name out (p ∷ older) (if b then p ∷ older else older) n (get nat_cmp watched n)) (or_none (m == n)) (kept n)

pub not_own : (may own : Bool) → (may && not own) ≡ true → own ≡ false
not_own true false is = refl
not_own true true is = absurd (cc)
not_own false own is = absurd (cc)

-- ---- it was handed to all of which it says something

no_answer : (may own : Bool) → own ≡ false → (may && not own) ≡ false → may ≡ false
no_answer may own off none = by_test may (λ yes. absurd (cc)) (λ no. no)

pub handed_all : (watched : BTreeMap ℕ Watched) (judging : Judging) (name : Naming) (out : List ℕ) (p : Placed) (older : List Placed) (own answered : Option ℕ)
    → ((n : ℕ) → is_about n p ≡ is_it n own) → ((n : ℕ) → is_it n answered ≡ (is_it n (may_be_answer_of p older) && not (is_it n own)))
    → AreHanded (λ n. is_it n answered || is_it n own) watched judging name out p older → AreKept watched judging name out (p ∷ older) (p ∷ older)
handed_all watched judging name out p older own answered about apart kept = λ n. by n (get nat_cmp watched n) (kept n) where
  by : (n : ℕ) (o : Option Watched) → IsKept judging name out (p ∷ older) (if (is_it n answered || is_it n own) then p ∷ older else older) n o → IsKept judging name out (p ∷ older) (p ∷ older) n o
  by n None is = kept_fed judging name out (p ∷ older) (if (is_it n answered || is_it n own) then p ∷ older else older) (p ∷ older) n is
  by n (Some w) is = by_test (is_it n answered || is_it n own)
      (λ yes. subst (λ b. IsKept judging name out (p ∷ older) (if b then p ∷ older else older) n (Some w)) yes is)
      (λ no.
      let parts = or_parts (is_it n answered) (is_it n own) no in
      let own_no : is_it n own ≡ false = parts.1 in
      let here : IsKept judging name out (p ∷ older) older n (Some w) = subst (λ b. IsKept judging name out (p ∷ older) (if b then p ∷ older else older) n (Some w)) no is in
      let number : w.transfer.number ≡ n = opened_number n (p ∷ older) w.transfer here.0 in
      let off : is_about w.transfer.number p ≡ false = ap (λ k. is_about k p) number ∙ about n ∙ own_no in
      let away : is_it w.transfer.number (may_be_answer_of p older) ≡ false = ap (λ k. is_it k (may_be_answer_of p older)) number ∙ no_answer (is_it n (may_be_answer_of p older)) (is_it n own) own_no (sym (apart n) ∙ parts.0) in
      (here.0, here.1, watching_on w judging w.transfer name p older off away here.2))

-- ---- how many datagrams a judge has

pub crowded_same : (old new : BTreeMap ℕ Watched) → IsUnchanged old new → AreCrowded new → AreCrowded old
crowded_same old new same crowded = record {
  number = crowded.number;
  one = crowded.one;
  kept = ap (λ es. lookup (is_at (nat_cmp crowded.number)) es) (sym same) ∙ crowded.kept;
  crowded = crowded.crowded;
}

pub empty_get : (watched : BTreeMap ℕ Watched) (n : ℕ) → length watched.entries ≡ 0 → get nat_cmp watched n ≡ None
empty_get watched n none = ap (λ es. lookup (is_at (nat_cmp n)) es) (empty watched.entries none) where
  empty : {X : Type 0} (xs : List X) → length xs ≡ 0 → xs ≡ []
  empty [] none = refl
  empty (x ∷ xs) none = absurd (cc)

pub crowded_more : (old new : BTreeMap ℕ Watched) (w : Watched) (m : ℕ) → (IsCrowded w.judges → ⊥)
    → ((n : ℕ) → get nat_cmp new n ≡ cond (is_eq (nat_cmp m n)) (Some w) (get nat_cmp old n)) → AreCrowded new → AreCrowded old
crowded_more old new w m none updates crowded = by_test (m == crowded.number)
    (λ is. let this : Some w ≡ Some crowded.one = sym (updates crowded.number ∙ ap (λ b. cond b (Some w) (get nat_cmp old crowded.number)) (same_number m crowded.number ∙ is)) ∙ crowded.kept in
    let same : w ≡ crowded.one = cc in
    absurd (none (subst (λ (v : Watched). IsCrowded v.judges) (sym same) crowded.crowded)))
    (λ off. record {
      number = crowded.number;
      one = crowded.one;
      kept = sym (updates crowded.number ∙ ap (λ b. cond b (Some w) (get nat_cmp old crowded.number)) (same_number m crowded.number ∙ off)) ∙ crowded.kept;
      crowded = crowded.crowded;
    })

-- ---- what was handed out was opened

pub handed_more : (out : List ℕ) (p : Placed) (older : List Placed) → WereOpened out older → WereOpened out (p ∷ older)
handed_more out p older handed = λ n is. opened_stays n p older (handed n is)

pub handed_one_more : (out : List ℕ) (m : ℕ) (x : Transfer) (all : List Placed) → opened m all ≡ Some x → WereOpened out all → WereOpened (m ∷ out) all
handed_one_more out m x all is handed = λ n among. by_test (m == n)
    (λ same. subst (λ k. IsSome (opened k all)) (eqb-true m n same) (subst IsSome (sym is) refl))
    (λ off. handed n (sym (ap (λ b. b || is_among n out) off) ∙ among))

pub not_handed : (out : List ℕ) (all : List Placed) (n : ℕ) → WereOpened out all → opened n all ≡ None → is_among n out ≡ false
not_handed out all n handed none = by_test (is_among n out)
    (λ is. let some : false ≡ true = subst IsSome none (handed n is) in absurd (cc))
    (λ off. off)

-- ---- before an opening

pub new_before : (named out : List ℕ) (recorded : List Recorded) (now : ℕ) (d : Recorded) (x : Transfer) → WereOpened out (placed named recorded) → place_of named (placed named recorded) now d ≡ Opens x
    → IsNew x.number out (placed named recorded)
new_before named out recorded now d x handed opens =
    let number : x.number ≡ length (placed named recorded) = opening_number named (placed named recorded) now d x opens in
    let same : length (placed named recorded) ≡ length recorded = length_placed named recorded in
    let up : length recorded ≤ x.number = omega arith in
    let none = none_before named recorded x.number up in
    ((none, none_answers_before named recorded x.number up), not_handed out (placed named recorded) x.number handed (opened_none x.number (placed named recorded) none))

-- ---- one is handed out

pub kept_here : (watched : BTreeMap ℕ Watched) (judging : Judging) (name : Naming) (out : List ℕ) (all : List Placed) (k : ℕ) (w : Watched) → get nat_cmp watched k ≡ Some w → AreKept watched judging name out all all
    → (w.transfer.number ≡ k) × ((opened w.transfer.number all ≡ Some w.transfer) × IsWatching w judging w.transfer name all)
kept_here watched judging name out all k w was kept =
    let held : IsKept judging name out all all k (Some w) = subst (IsKept judging name out all all k) was (kept k) in
    let number : w.transfer.number ≡ k = opened_number k all w.transfer held.0 in
    (number, (ap (λ n. opened n all) number ∙ held.0, held.2))

kept_out : (judging : Judging) (name : Naming) (out : List ℕ) (m : ℕ) (all : List Placed) (n : ℕ) (o : Option Watched) → (m == n) ≡ false → IsKept judging name out all all n o → IsKept judging name (m ∷ out) all all n o
kept_out judging name out m all n None off (inl none) = inl none
kept_out judging name out m all n None off (inr gone) = inr (or_right (m == n) (is_among n out) gone)
kept_out judging name out m all n (Some w) off kept = (kept.0, ap (λ b. b || is_among n out) off ∙ kept.1, kept.2)

pub once_here : (watched : BTreeMap ℕ Watched) (judging : Judging) (name : Naming) (out : List ℕ) (all : List Placed) (k : ℕ) (w : Watched) → get nat_cmp watched k ≡ Some w → AreKept watched judging name out all all
    → is_among w.transfer.number out ≡ false
once_here watched judging name out all k w was kept =
    let held : IsKept judging name out all all k (Some w) = subst (IsKept judging name out all all k) was (kept k) in
    ap (λ n. is_among n out) (opened_number k all w.transfer held.0) ∙ held.1

pub kept_less : (old new : BTreeMap ℕ Watched) (judging : Judging) (name : Naming) (out : List ℕ) (all : List Placed) (k : ℕ) (w : Watched) → get nat_cmp old k ≡ Some w
    → ((n : ℕ) → get nat_cmp new n ≡ cond (is_eq (nat_cmp k n)) None (get nat_cmp old n)) → AreKept old judging name out all all → AreKept new judging name (w.transfer.number ∷ out) all all
kept_less old new judging name out all k w was updates kept = λ n. by_test (k == n)
    (λ is. subst (IsKept judging name (w.transfer.number ∷ out) all all n) (sym (updates n ∙ ap (λ b. cond b None (get nat_cmp old n)) (same_number k n ∙ is)))
    (inr (ap (λ m. (m == n) || is_among n out) (kept_here old judging name out all k w was kept).0 ∙ ap (λ b. b || is_among n out) is)))
    (λ off. subst (IsKept judging name (w.transfer.number ∷ out) all all n) (sym (updates n ∙ ap (λ b. cond b None (get nat_cmp old n)) (same_number k n ∙ off)))
    (kept_out judging name out w.transfer.number all n (get nat_cmp old n) (ap (λ m. m == n) (kept_here old judging name out all k w was kept).0 ∙ off) (kept n)))

pub none_kept : (watched : BTreeMap ℕ Watched) (judging : Judging) (name : Naming) (out : List ℕ) (all : List Placed) (n : ℕ) → ((0 < length watched.entries) → ⊥) → IsKept judging name out all all n (get nat_cmp watched n)
    → (opened n all ≡ None) ⊎ (is_among n out ≡ true)
none_kept watched judging name out all n none kept = subst (IsKept judging name out all all n) (empty_get watched n (no_length watched.entries none)) kept where
  no_length : {X : Type 0} (xs : List X) → ((0 < length xs) → ⊥) → length xs ≡ 0
  no_length [] none = refl
  no_length (x ∷ xs) none = absurd (none (omega arith))

pub least_kept : (watched : BTreeMap ℕ Watched) (judging : Judging) (name : Naming) (out : List ℕ) (all : List Placed) (k n : ℕ) → IsLowerBound nat_cmp watched k → IsSome (opened n all) → is_among n out ≡ false
    → IsKept judging name out all all n (get nat_cmp watched n) → k ≤ n
least_kept watched judging name out all k n least some here kept = at_most k n (least n (by (get nat_cmp watched n) kept)) where
  by : (o : Option Watched) → IsKept judging name out all all n o → IsSome o
  by None (inl none) = let no : false ≡ true = subst IsSome none some in absurd (cc)
  by None (inr gone) = let both : true ≡ false = sym gone ∙ here in absurd (cc)
  by (Some w) kept = refl

  at_most : (k n : ℕ) → is_gt (nat_cmp k n) ≡ false → k ≤ n
  at_most k n off = search rules

-- ---- a judge has no more datagrams than have passed

at_least : (m n k : ℕ) → m ≤ n → n ≤ k → m ≤ k
at_least m n k le up = grind arith

many_fed : (j : Judges) (n : ℕ) → HaveAtMost j n → IsCrowded j → 2 ^ 40 ≤ n
many_fed j n few (inl many) = at_least (2 ^ 40) (fed_at_client j.client) n many few.client
many_fed j n few (inr (inl many)) = at_least (2 ^ 40) (fed_at_server j.server) n many few.server
many_fed j n few (inr (inr many)) = at_least (2 ^ 40) (fed_between j.between) n many few.between

crowded_passed : (watched : BTreeMap ℕ Watched) (judging : Judging) (name : Naming) (out : List ℕ) (all : List Placed) → AreKept watched judging name out all all → AreCrowded watched → 2 ^ 40 ≤ length all
crowded_passed watched judging name out all kept crowded =
    let is = (kept_here watched judging name out all crowded.number crowded.one crowded.kept kept).1.1 in
    many_fed crowded.one.judges (length all) is.judges.counted crowded.crowded

full_count : (count n : ℕ) → count ≡ n → count + 1 ≡ 2 ^ 64 → 2 ^ 40 ≤ n
full_count count n is full = omega (arith, is, full)

-- so many have passed where no more can be counted
pub many_passed : (judge : RecordingJudge) (named : List ℕ) (name : Naming) (out : List ℕ) (recorded : List Recorded) → StandsAfter judge named name out recorded
    → (judge.attribution.count + 1 ≡ 2 ^ 64) ⊎ AreCrowded judge.watched → 2 ^ 40 ≤ length recorded
many_passed judge named name out recorded stands (inl full) = full_count judge.attribution.count (length recorded) (stands.attribution.count ∙ length_placed named recorded) full
many_passed judge named name out recorded stands (inr crowded) =
    subst (λ n. 2 ^ 40 ≤ n) (length_placed named recorded) (crowded_passed judge.watched judge.judging name out (placed named recorded) stands.transfers crowded)
