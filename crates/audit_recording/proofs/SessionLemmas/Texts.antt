-- What is kept of the texts that are wanted, with one datagram more; and that its frame and time can stand in a comment.
use Rattle.std.proofs.Common.{arith, ◌≡◌, ◌≢◌, ◌≤◌, ◌<◌, ◌==◌, ◌+◌, ◌-◌, ◌^◌, ◌/◌, ◌%◌, ◌++◌, ℕ, Bool, true, false, true≢false, cond, All, List, [], ◌∷◌, filter, add-one, codes, decimal, length, replicate, Option, Some, None, inl, inr, refl, sym, ap, subst, ◌∙◌}
use Rattle.std.specs.BTreeMap.{BTreeMap, get}
use Rattle.std.specs.Ordering.{is_eq, nat_cmp}
use Rattle.std.proofs.lemmas.Bool.{eqb-true}
use Rattle.std.proofs.lemmas.List.Elements.{All-append, All-head, All-replicate, All-tail}
use Rattle.std.proofs.lemmas.Fmt.{length-decimal-le}
use Rattle.std.proofs.lemmas.List.{length-append, length-replicate}
use Rattle.tftp_capture.specs.{HasNoEnd, IsPort}
use Rattle.tftp_capture.proofs.Canonical.{no_lf, no_lf_text, plain_decimal}
use Rattle.audit_flows.specs.Lines.{Placed, Recorded, opens, transfer_of}
use Rattle.audit_flows.specs.{Endpoint, Opens, Place, Transfer}
use Rattle.audit_flows.proofs.TransfersLemmas.Ends.{placed_where}
use Rattle.audit_flows.specs.Transfers.{is_about, opened_it}
use Rattle.audit_flows.proofs.LinesLemmas.Lines.{by_test}
use Rattle.audit_views.specs.Parties.{host_name}
use Rattle.audit_views.specs.Texts.{AreNotesAfter, IsComment, Notes, Worded, placed_in}
use Rattle.audit_views.proofs.TextsLemmas.Notes.{passes_by}
use Rattle.audit_recording.specs.Blame.Frames.{Carried, datagrams_of, framed_after, whole_of}
use Rattle.audit_recording.specs.Blame.Kept.{is_about_it}
use Rattle.audit_recording.specs.Judges.{IsNew, opened}
use Rattle.audit_recording.specs.Session.Texts.{AreTextsBegun, AreTextsKept, IsShort, IsTextKept, fraction_text, frame_text, is_wanted, opened_count, ordinal, time_text, worded_in, worded_of}
use Rattle.audit_recording.specs.declared.session.kept.Kept.{Kept}
use Rattle.audit_recording.specs.declared.session.kept.Wanted.{Wanted}
use Rattle.audit_recording.proofs.JudgesLemmas.Keeping.{new_before, opened_elsewhere, opened_here, opened_none, opened_number, opens_at, same_number}

pub placed_worded : (named : List ℕ) (carried : List Carried) → placed_in (worded_in named carried) ≡ whole_of named carried
placed_worded named [] = refl
placed_worded named (c ∷ carried) = ap (λ l. (framed_after named carried c).placed ∷ l) (placed_worded named carried)

-- ---- how many were opened

abbrev pub at_place : Recorded → ℕ → Place → Placed
at_place d now place = record { datagram = d; moment = now; place = place }

pub counted_one : (d : Recorded) (now : ℕ) (place : Place) (older : List Placed) → opens (at_place d now place) ≡ true → opened_count (at_place d now place ∷ older) ≡ opened_count older + 1
counted_one d now place older is =
    ap (λ (b : Bool). length (cond b (at_place d now place ∷ filter opens older) (filter opens older))) is ∙ sym (add-one (opened_count older))

pub counted_none : (p : Placed) (older : List Placed) → opens p ≡ false → opened_count (p ∷ older) ≡ opened_count older
counted_none p older off = ap (λ (b : Bool). length (cond b (p ∷ filter opens older) (filter opens older))) off

pub opens_none : (n : ℕ) (d : Recorded) (now : ℕ) (place : Place) → opens (at_place d now place) ≡ false → opened_it n (at_place d now place) ≡ false
opens_none n d now (Opens x) off = absurd (true≢false off)
opens_none n d now _ off = refl

pub ordinal_here : (n : ℕ) (p : Placed) (older : List Placed) → opened_it n p ≡ true → ordinal n (p ∷ older) ≡ opened_count (p ∷ older)
ordinal_here n p older is = ap (λ (b : Bool). cond b (opened_count (p ∷ older)) (ordinal n older)) is

pub ordinal_elsewhere : (n : ℕ) (p : Placed) (older : List Placed) → opened_it n p ≡ false → ordinal n (p ∷ older) ≡ ordinal n older
ordinal_elsewhere n p older off = ap (λ (b : Bool). cond b (opened_count (p ∷ older)) (ordinal n older)) off

-- ---- what is kept of one

module _ (wanted : Wanted) (fed : List Worded) where
  elsewhere_kept : (n : ℕ) (p : Placed) (older : List Placed) (o : Option Notes) → opened_it n p ≡ false → IsTextKept wanted older fed n o → IsTextKept wanted (p ∷ older) fed n o
  elsewhere_kept n p older None off (inl none) = inl (opened_elsewhere n p older off ∙ none)
  elsewhere_kept n p older None off (inr not) = inr (ap (is_wanted wanted) (ordinal_elsewhere n p older off) ∙ not)
  elsewhere_kept n p older (Some t) off kept = (opened_elsewhere n p older off ∙ kept.0, ap (is_wanted wanted) (ordinal_elsewhere n p older off) ∙ kept.1, kept.2)

  none_before_opening : (n : ℕ) (all : List Placed) (o : Option Notes) → opened n all ≡ None → IsTextKept wanted all fed n o → o ≡ None
  none_before_opening n all None none kept = refl
  none_before_opening n all (Some t) none kept = let both : None ≡ Some t.transfer = sym none ∙ kept.0 in absurd (cc)

passed_by : (wanted : Wanted) (all : List Placed) (fed : List Worded) (w : Worded) (n : ℕ) (o : Option Notes) → is_about n w.placed ≡ false → IsTextKept wanted all fed n o → IsTextKept wanted all (w ∷ fed) n o
passed_by wanted all fed w n None off kept = kept
passed_by wanted all fed w n (Some t) off kept =
    (kept.0, kept.1, passes_by t host_name w fed (ap (λ k. is_about k w.placed) (opened_number n all t.transfer kept.0) ∙ off) kept.2)

none_fed_there : (wanted : Wanted) (all : List Placed) (one other : List Worded) (n : ℕ) (o : Option Notes) → o ≡ None → IsTextKept wanted all one n o → IsTextKept wanted all other n o
none_fed_there wanted all one other n None is kept = kept
none_fed_there wanted all one other n (Some t) is kept = absurd (cc)

-- ---- a datagram that opens none

pub no_text_begun : (kept : Kept) (named : List ℕ) (c : Carried) (carried : List Carried) → opens (framed_after named carried c).placed ≡ false → AreTextsKept kept named carried → AreTextsBegun kept named c carried
no_text_begun kept named c carried off are =
    let p : Placed = (framed_after named carried c).placed in
    let older = whole_of named carried in
    record {
      opened = are.opened ∙ sym (counted_none p older off);
      texts = λ n. elsewhere_kept kept.wanted (worded_in named carried) n p older (get nat_cmp kept.texts n) (opens_none n p.datagram p.moment p.place off) (are.texts n);
    }

-- ---- a datagram that opens one

-- it went to a port that is none of 0
pub asked_port : (named : List ℕ) (c : Carried) (carried : List Carried) (x : Transfer) → Opens x ≡ (framed_after named carried c).placed.place → IsPort c.datagram.target.port → x.asked.port ≢ 0
asked_port named c carried x opens port none =
    let p : Placed = (framed_after named carried c).placed in
    let asked : x.asked ≡ c.datagram.target = ((placed_where named (whole_of named carried) p.moment c.datagram).opens x (sym opens)).1 in
    let same : c.datagram.target.port ≡ 0 = sym (ap (λ (e : Endpoint). e.port) asked) ∙ none in
    let some = port.0 in omega (arith, same, some)

fed_unheard : (t : Notes) (named : List ℕ) (carried : List Carried) → All (λ (p : Placed). is_about t.transfer.number p ≡ false) (whole_of named carried) → AreNotesAfter t host_name [] → AreNotesAfter t host_name (worded_in named carried)
fed_unheard t named [] none new = new
fed_unheard t named (c ∷ carried) none new =
    let p : Placed = (framed_after named carried c).placed in
    passes_by t host_name (worded_of (framed_after named carried c)) (worded_in named carried) (All-head (λ (q : Placed). is_about t.transfer.number q ≡ false) p (whole_of named carried) none)
    (fed_unheard t named carried (All-tail (λ (q : Placed). is_about t.transfer.number q ≡ false) p (whole_of named carried) none) new)

module _ (old : Kept) (x : Transfer) (named : List ℕ) (c : Carried) (carried : List Carried) (is_opened : (framed_after named carried c).placed.place ≡ Opens x) (are : AreTextsKept old named carried) where
  abbrev pub newest : Placed
  newest = (framed_after named carried c).placed

  abbrev pub before : List Placed
  before = whole_of named carried

  unknown : IsNew x.number [] before
  unknown = new_before named [] (datagrams_of carried) newest.moment c.datagram x (λ n is. absurd (true≢false (sym is))) is_opened

  is_opening : opens newest ≡ true
  is_opening = ap (λ (q : Place). opens (at_place newest.datagram newest.moment q)) is_opened

  pub counts_it : opened_count (newest ∷ before) ≡ old.opened + 1
  counts_it = counted_one newest.datagram newest.moment newest.place before is_opening ∙ ap (λ k. k + 1) (sym are.opened)

  here : (n : ℕ) → opened_it n newest ≡ (x.number == n)
  here n = opens_at n newest.datagram newest.moment newest.place x is_opened

  is_it : (n : ℕ) → (x.number == n) ≡ true → opened n (newest ∷ before) ≡ Some x
  is_it n is = opened_here n newest before (here n ∙ is) ∙ ap transfer_of is_opened

  place_of_it : (n : ℕ) → (x.number == n) ≡ true → ordinal n (newest ∷ before) ≡ old.opened + 1
  place_of_it n is = ordinal_here n newest before (here n ∙ is) ∙ counts_it

  was_none : (n : ℕ) → (x.number == n) ≡ true → get nat_cmp old.texts n ≡ None
  was_none n is = subst (λ k. get nat_cmp old.texts k ≡ None) (eqb-true x.number n is)
      (none_before_opening old.wanted (worded_in named carried) x.number before (get nat_cmp old.texts x.number) (opened_none x.number before unknown.0.0) (are.texts x.number))

  -- its text is not wanted
  pub unwanted_begun : (new : Kept) → new ≡ record old { opened = new.opened } → new.opened ≡ old.opened + 1 → is_wanted old.wanted new.opened ≡ false → AreTextsBegun new named c carried
  unwanted_begun new same more not = subst (λ (k : Kept). AreTextsBegun k named c carried) (sym same) (record {
    opened = more ∙ sym counts_it;
    texts = λ n. by_test (x.number == n)
        (λ is. subst (IsTextKept old.wanted (newest ∷ before) (worded_in named carried) n) (sym (was_none n is)) (inr (ap (is_wanted old.wanted) (place_of_it n is ∙ sym more) ∙ not)))
        (λ off. elsewhere_kept old.wanted (worded_in named carried) n newest before (get nat_cmp old.texts n) (here n ∙ off) (are.texts n));
  })

  -- it has its text
  pub wanted_begun : (new : Kept) (t : Notes) → new.wanted ≡ old.wanted → new.opened ≡ old.opened + 1 → is_wanted old.wanted new.opened ≡ true → t.transfer ≡ x → AreNotesAfter t host_name []
      → ((n : ℕ) → get nat_cmp new.texts n ≡ cond (is_eq (nat_cmp x.number n)) (Some t) (get nat_cmp old.texts n)) → AreTextsBegun new named c carried
  wanted_begun new t same more is_one of fresh updates = record {
    opened = more ∙ sym counts_it;
    texts = λ n. subst (λ (v : Wanted). IsTextKept v (newest ∷ before) (worded_in named carried) n (get nat_cmp new.texts n)) (sym same) (by_test (x.number == n)
        (λ is. subst (IsTextKept old.wanted (newest ∷ before) (worded_in named carried) n) (sym (updates n ∙ ap (λ b. cond b (Some t) (get nat_cmp old.texts n)) (same_number x.number n ∙ is))) (
          is_it n is ∙ ap Some (sym of),
          ap (is_wanted old.wanted) (place_of_it n is ∙ sym more) ∙ is_one,
          fed_unheard t named carried (subst (λ (y : Transfer). All (λ (p : Placed). is_about y.number p ≡ false) before) (sym of) unknown.0.0) fresh,
        ))
        (λ off. subst (IsTextKept old.wanted (newest ∷ before) (worded_in named carried) n) (sym (updates n ∙ ap (λ b. cond b (Some t) (get nat_cmp old.texts n)) (same_number x.number n ∙ off)))
        (elsewhere_kept old.wanted (worded_in named carried) n newest before (get nat_cmp old.texts n) (here n ∙ off) (are.texts n))));
  }

-- ---- the newest datagram is fed

pub text_there : (kept : Kept) (named : List ℕ) (c : Carried) (carried : List Carried) → AreTextsBegun kept named c carried → (m : ℕ) (t : Notes) → get nat_cmp kept.texts m ≡ Some t → AreNotesAfter t host_name (worded_in named carried)
text_there kept named c carried begun m t was = (subst (IsTextKept kept.wanted (whole_of named (c ∷ carried)) (worded_in named carried) m) was (begun.texts m)).2

module _ (old : Kept) (named : List ℕ) (c : Carried) (carried : List Carried) (begun : AreTextsBegun old named c carried) where
  abbrev word : Worded
  word = worded_of (framed_after named carried c)

  passes_there : (n : ℕ) → is_about_it n (framed_after named carried c) ≡ false → IsTextKept old.wanted (whole_of named (c ∷ carried)) (worded_in named (c ∷ carried)) n (get nat_cmp old.texts n)
  passes_there n off = passed_by old.wanted (whole_of named (c ∷ carried)) (worded_in named carried) word n (get nat_cmp old.texts n) off (begun.texts n)

  -- it is about none
  pub about_none_fed : ((n : ℕ) → is_about_it n (framed_after named carried c) ≡ false) → AreTextsKept old named (c ∷ carried)
  about_none_fed off = record { opened = begun.opened; texts = λ n. passes_there n (off n) }

  module _ (m : ℕ) (about : (n : ℕ) → is_about_it n (framed_after named carried c) ≡ (m == n)) where
    -- it is about one that has none
    pub none_fed : get nat_cmp old.texts m ≡ None → AreTextsKept old named (c ∷ carried)
    none_fed none = record {
      opened = begun.opened;
      texts = λ n. by_test (m == n)
          (λ is. none_fed_there old.wanted (whole_of named (c ∷ carried)) (worded_in named carried) (worded_in named (c ∷ carried)) n (get nat_cmp old.texts n)
          (subst (λ k. get nat_cmp old.texts k ≡ None) (eqb-true m n is) none) (begun.texts n))
          (λ off. passes_there n (about n ∙ off));
    }

    -- it is fed to the one that it is about
    pub one_fed : (texts : BTreeMap ℕ Notes) (t u : Notes) → get nat_cmp old.texts m ≡ Some t → ((n : ℕ) → get nat_cmp texts n ≡ cond (is_eq (nat_cmp m n)) (Some u) (get nat_cmp old.texts n))
        → u.transfer ≡ t.transfer → (AreNotesAfter t host_name (worded_in named carried) → AreNotesAfter u host_name (worded_in named (c ∷ carried)))
        → AreTextsKept (record old { texts = texts }) named (c ∷ carried)
    one_fed texts t u was updates same fed = record {
      opened = begun.opened;
      texts = λ n. by_test (m == n)
          (λ is. subst (IsTextKept old.wanted (whole_of named (c ∷ carried)) (worded_in named (c ∷ carried)) n) (sym (updates n ∙ ap (λ b. cond b (Some u) (get nat_cmp old.texts n)) (same_number m n ∙ is)))
          (let held : IsTextKept old.wanted (whole_of named (c ∷ carried)) (worded_in named carried) n (Some t) =
          subst (IsTextKept old.wanted (whole_of named (c ∷ carried)) (worded_in named carried) n) (subst (λ k. get nat_cmp old.texts k ≡ Some t) (eqb-true m n is) was) (begun.texts n) in
          (held.0 ∙ ap Some (sym same), held.1, fed held.2)))
          (λ off. subst (IsTextKept old.wanted (whole_of named (c ∷ carried)) (worded_in named (c ∷ carried)) n) (sym (updates n ∙ ap (λ b. cond b (Some u) (get nat_cmp old.texts n)) (same_number m n ∙ off)))
          (passes_there n (about n ∙ off)));
    }

-- ---- its frame and time can stand in a comment

digits_no_end : (n : ℕ) → n < 2 ^ 64 → HasNoEnd (decimal n)
digits_no_end n small = no_lf (decimal n) (plain_decimal n small)

digits_short : (n : ℕ) → n < 2 ^ 64 → length (decimal n) ≤ 20
digits_short n small = length-decimal-le 20 n (omega arith) (omega arith) small

fraction_no_end : (n : ℕ) → n < 2 ^ 64 → HasNoEnd (fraction_text n)
fraction_no_end n small = All-append (λ b. b ≢ 10) (replicate (9 - length (decimal n)) 48) (decimal n) (All-replicate (λ (b : ℕ). b ≢ 10) (9 - length (decimal n)) 48 (λ is. absurd (cc))) (digits_no_end n small)

fraction_short : (n : ℕ) → n < 2 ^ 64 → length (fraction_text n) ≤ 29
fraction_short n small =
    let zeros : List ℕ = replicate (9 - length (decimal n)) 48 in
    let many : length zeros ≡ 9 - length (decimal n) = length-replicate (9 - length (decimal n)) 48 in
    let all : length (fraction_text n) ≡ length zeros + length (decimal n) = length-append zeros (decimal n) in
    let few = digits_short n small in
    omega arith

pub seconds_short : (time : ℕ) → time < 2 ^ 64 → IsShort (time_text (Some time))
seconds_short time small =
    let seconds = time / 1000000000 in
    let rest = time % 1000000000 in
    let below : seconds < 2 ^ 64 = omega arith in
    let under : rest < 2 ^ 64 = omega arith in
    let word = length-append (codes " time ") (decimal seconds ++ (codes "." ++ fraction_text rest)) in
    let digits = length-append (decimal seconds) (codes "." ++ fraction_text rest) in
    let point = length-append (codes ".") (fraction_text rest) in
    let few = digits_short seconds below in
    let nine = fraction_short rest under in (
      All-append (λ b. b ≢ 10) (codes " time ") (decimal seconds ++ (codes "." ++ fraction_text rest)) (no_lf_text (codes " time ") refl)
          (All-append (λ b. b ≢ 10) (decimal seconds) (codes "." ++ fraction_text rest) (digits_no_end seconds below)
          (All-append (λ b. b ≢ 10) (codes ".") (fraction_text rest) (no_lf_text (codes ".") refl) (fraction_no_end rest under))),
      omega arith,
    )

pub no_time_short : IsShort (time_text None)
no_time_short = (no_lf_text [] refl, omega arith)

pub frame_comment : (frame : ℕ) (time : Option ℕ) → frame < 2 ^ 64 → IsShort (time_text time) → IsComment (frame_text frame time)
frame_comment frame time small rest =
    let word = length-append (codes "frame ") (decimal frame ++ time_text time) in
    let digits = length-append (decimal frame) (time_text time) in
    let few = digits_short frame small in
    let short = rest.1 in (
      All-append (λ b. b ≢ 10) (codes "frame ") (decimal frame ++ time_text time) (no_lf_text (codes "frame ") refl)
          (All-append (λ b. b ≢ 10) (decimal frame) (time_text time) (digits_no_end frame small) rest.0),
      omega arith,
    )
