-- In which order transfers are told.
use Rattle.std.proofs.Common.{◌≡◌, ◌≤◌, ◌<◌, ◌==◌, ◌∷◌, ◌++◌, ◌||◌, suc, [], ℕ, Bool, true, false, true≢false, nat_le, max, length, List, Option, Some, None, IsSome, refl, sym, ap, ◌∙◌, subst, append_assoc, arith}
use Rattle.std.specs.List.{AllByRecursion}
use Rattle.std.proofs.lemmas.Bool.{eqb-true, eq-eqb, leb-true, leb-false}
use Rattle.audit_flows.specs.Lines.{Placed, Recorded, clock}
use Rattle.audit_flows.specs.{Opens, Place, Transfer}
use Rattle.audit_flows.specs.Transfers.{opened_it, place_of, placed}
use Rattle.audit_flows.proofs.LinesLemmas.Lines.{by_test}
use Rattle.audit_flows.proofs.TransfersLemmas.Numbers.{length_placed, none_before, opening_number}
use Rattle.audit_recording.specs.Audit.Audited.{placed_after}
use Rattle.audit_recording.specs.Blame.Frames.{Carried, datagrams_of, whole_of}
use Rattle.audit_recording.specs.Judges.{is_among, opened}
use Rattle.audit_recording.specs.declared.judges.judging.Judging.{Judging}
use Rattle.audit_recording.proofs.JudgesLemmas.Keeping.{opened_elsewhere, opened_none}
use Rattle.tftp_rows.specs.Whole.{AreInOrder, AreTold, IsPartOf, Part, Telling, numbers_of}

-- ---- an opening has the number of datagrams before it

pub opens_so : (n : ℕ) (d : Recorded) (now : ℕ) (place : Place) → opened_it n (record { datagram = d; moment = now; place = place }) ≡ true → (x : Transfer) × (place ≡ Opens x) × (x.number ≡ n)
opens_so n d now (Opens x) is = (x, refl, eqb-true x.number n is)
opens_so n d now _ is = absurd (cc)

pub newest_number : (named : List ℕ) (recorded : List Recorded) (d : Recorded) (n : ℕ) → opened_it n (placed_after named (placed named recorded) d) ≡ true → n ≡ length recorded
newest_number named recorded d n is =
    let older = placed named recorded in
    let now = max d.time (clock older) in
    let so = opens_so n d now (place_of named older now d) is in
    sym so.2 ∙ (opening_number named older now d so.0 so.1 ∙ length_placed named recorded)

pub length_datagrams : (carried : List Carried) → length (datagrams_of carried) ≡ length carried
length_datagrams [] = refl
length_datagrams (c ∷ carried) = ap suc (length_datagrams carried)

at_least : (later carried : List Carried) → length carried ≤ length (datagrams_of (later ++ carried))
at_least [] carried = rw (length_datagrams carried) (omega arith)
at_least (c ∷ later) carried = let more = at_least later carried in omega arith

-- what was opened by fewer datagrams was opened by then
pub opened_by_then : (named : List ℕ) (later carried : List Carried) (n : ℕ) → n < length carried → IsSome (opened n (whole_of named (later ++ carried))) → IsSome (opened n (whole_of named carried))
opened_by_then named [] carried n low some = some
opened_by_then named (c ∷ later) carried n low some =
    let older = whole_of named (later ++ carried) in
    let p : Placed = placed_after named older c.datagram in
    by_test (opened_it n p)
    (λ is.
    let here : n ≡ length (datagrams_of (later ++ carried)) = newest_number named (datagrams_of (later ++ carried)) c.datagram n is in
    let least = at_least later carried in
    absurd (omega arith))
    (λ off. opened_by_then named later carried n low (subst IsSome (opened_elsewhere n p older off) some))

-- a transfer has fewer datagrams before it than there are
pub opened_below : (named : List ℕ) (carried : List Carried) (n : ℕ) (x : Transfer) → opened n (whole_of named carried) ≡ Some x → n < length carried
opened_below named carried n x is = by_test (nat_le (length carried) n)
    (λ up.
    let most : length (datagrams_of carried) ≤ n = rw (length_datagrams carried) (leb-true (length carried) n up) in
    let none = opened_none n (whole_of named carried) (none_before named (datagrams_of carried) n most) in
    let no : Some x ≡ None = sym is ∙ none in absurd (cc))
    (λ below. let low = leb-false (length carried) n below in omega arith)

-- ---- what is told later has a greater number

pub neither : (a b : Bool) → (a || b) ≡ false → (a ≡ false) × (b ≡ false)
neither false b off = (refl, off)
neither true b off = absurd (true≢false off)

pub below_unless_same : (m n : ℕ) → m ≤ n → (m == n) ≡ false → m < n
below_unless_same m n most other = let apart : m ≡ n → ⊥ = λ same. true≢false (sym (eq-eqb m n same) ∙ other) in omega arith

-- a part of a part is a part
pub part_of : (p q all : Part) → IsPartOf p q → IsPartOf q all → IsPartOf p all
part_of p q all one more = record {
  next_frames = more.next_frames ++ one.next_frames;
  next_carried = more.next_carried ++ one.next_carried;
  frames = more.frames ∙ (ap (λ l. more.next_frames ++ l) one.frames ∙ sym (append_assoc more.next_frames one.next_frames p.history));
  datagrams = more.datagrams ∙ (ap (λ l. more.next_carried ++ l) one.datagrams ∙ sym (append_assoc more.next_carried one.next_carried p.carried));
}

-- what was told stays so, whatever is read next
pub told_longer : (name : List ℕ) (judging : Judging) (named : List ℕ) (end : Option Part) (all longer : Part) (ts : List Telling) → IsPartOf all longer
    → AreTold name judging named end all ts → AreTold name judging named end longer ts
told_longer name judging named end all longer [] more told = tt
told_longer name judging named end all longer (t ∷ older) more told = (told.0, part_of told.0 all longer told.1 more, told.2, told.3)

-- each of these that were told is before one that was not
before_it : (name : List ℕ) (judging : Judging) (named : List ℕ) (end : Option Part) (all : Part) (n : ℕ) (ts : List Telling) → AreTold name judging named end all ts
    → IsSome (opened n (whole_of named all.carried)) → is_among n (numbers_of ts) ≡ false → AllByRecursion (λ m. m < n) (numbers_of ts)
before_it name judging named end all n [] told some not = tt
before_it name judging named end all n (u ∷ us) told some not =
    let later = told.1.next_carried in
    let carried = told.0.carried in
    let others = neither (u.transfer.number == n) (is_among n (numbers_of us)) not in
    let here : IsSome (opened n (whole_of named (later ++ carried))) = subst (λ l. IsSome (opened n (whole_of named l))) told.1.datagrams some in (
      by_test (nat_le (length carried) n)
          (λ up.
          let most = leb-true (length carried) n up in
          let below = opened_below named carried u.transfer.number u.transfer told.2.next.opens in omega arith)
          (λ down.
          let low = leb-false (length carried) n down in
          let first : u.transfer.number ≤ n = told.2.next.oldest n (opened_by_then named later carried n (omega arith) here) others.1 in
          below_unless_same u.transfer.number n first others.0),
      before_it name judging named end all n us (told_longer name judging named end told.0 all us told.1 told.3) some others.1,
    )

pub are_in_order : (name : List ℕ) (judging : Judging) (named : List ℕ) (end : Option Part) (all : Part) (ts : List Telling) → AreTold name judging named end all ts → AreInOrder ts
are_in_order name judging named end all [] told = tt
are_in_order name judging named end all (t ∷ older) told = (
  before_it name judging named end told.0 t.transfer.number older told.3 (subst IsSome (sym told.2.next.opens) refl) told.2.next.first_time,
  are_in_order name judging named end told.0 older told.3,
)
