-- What the two ends of a talk said before, with one datagram more.
use Rattle.std.proofs.Common.{◌≡◌, ℕ, Bool, true, false, List, [], ◌∷◌, Option, Some, None, refl, sym, ap, ◌∙◌, ◌+◌, ◌==◌, ◌&&◌, ◌||◌, not, nat_le, if◌then◌else◌}
use Rattle.std.specs.List.{list_any}
use Rattle.std.proofs.lemmas.Bool.{eq-eqb, eqb-true}
use Rattle.audit_flows.specs.Lines.{Placed, Recorded, before_talk, is_between, is_other_talk, is_talk, is_within, may_follow, number_of, passes_in, writes_by, IsHistoryOf, TellsOf}
use Rattle.audit_flows.specs.declared.lines.endpoint.Endpoint.{Endpoint}
use Rattle.audit_flows.specs.declared.lines.place.Place.TheVariants.{Talks}
use Rattle.audit_flows.specs.declared.lines.history.History.{History}
use Rattle.audit_flows.specs.declared.lines.place.Place.{Place}
use Rattle.audit_flows.specs.declared.lines.place.Transfer.{Transfer}
use Rattle.audit_flows.specs.Lines.Kept.{IsNextHistory, all_by, far_by, up_to}
use Rattle.audit_flows.proofs.LinesLemmas.Lines.{by_test}

abbrev now_at : Recorded → ℕ → Place → Placed
now_at d m place = record { datagram = d; moment = m; place = place }

-- ---- what is no talk of the two changes nothing

no_follow : (c o : Endpoint) (d : Recorded) (m : ℕ) (place : Place) (w : Bool) (payload : List ℕ) → is_talk c o (now_at d m place) ≡ false → may_follow c o w payload (now_at d m place) ≡ false
no_follow c o d m (Talks y) w payload off = rw off refl
no_follow c o d m _ w payload off = refl

no_other : (c o : Endpoint) (d : Recorded) (m : ℕ) (place : Place) (n : ℕ) → is_talk c o (now_at d m place) ≡ false → is_other_talk c o n (now_at d m place) ≡ false
no_other c o d m (Talks y) n off = rw off refl
no_other c o d m _ n off = refl

follow_same : (c o : Endpoint) (p : Placed) (line : List Placed) (w : Bool) (payload : List ℕ) → is_talk c o p ≡ false → list_any (may_follow c o w payload) (p ∷ line) ≡ list_any (may_follow c o w payload) line
follow_same c o p line w payload off = ap (λ b. b || list_any (may_follow c o w payload) line) (no_follow c o p.datagram p.moment p.place w payload off)

before_same : (c o : Endpoint) (p : Placed) (line : List Placed) (n : ℕ) → is_talk c o p ≡ false → before_talk c o n (p ∷ line) ≡ before_talk c o n line
before_same c o p line n off = ap (λ b. if b then p ∷ line else before_talk c o n line) (no_other c o p.datagram p.moment p.place n off)

pub history_same : (c o : Endpoint) (p : Placed) (line : List Placed) (h : Option History) → is_talk c o p ≡ false → IsHistoryOf c o line h → IsHistoryOf c o (p ∷ line) h
history_same c o p line None off is = ap (λ b. b || list_any (is_talk c o) line) off ∙ is
history_same c o p line (Some h) off is = record {
  whole = λ w payload. follow_same c o p line w payload off ∙ is.whole w payload;
  before = λ w payload. ap (list_any (may_follow c o w payload)) (before_same c o p line h.number off) ∙ is.before w payload;
  others = λ n other w payload. ap (list_any (may_follow c o w payload)) (before_same c o p line n off) ∙ is.others n other w payload;
}

-- ---- where the two have not talked

or_none : (a b : Bool) → (a || b) ≡ false → (a ≡ false) × (b ≡ false)
or_none true b e = absurd (cc)
or_none false b e = (refl, e)

none_before : (c o : Endpoint) (n : ℕ) (line : List Placed) → list_any (is_talk c o) line ≡ false → before_talk c o n line ≡ []
none_before c o n [] none = refl
none_before c o n (p ∷ line) none =
    let both = or_none (is_talk c o p) (list_any (is_talk c o) line) none in
    before_same c o p line n both.0 ∙ none_before c o n line both.1

none_follow : (c o : Endpoint) (w : Bool) (payload : List ℕ) (line : List Placed) → list_any (is_talk c o) line ≡ false → list_any (may_follow c o w payload) line ≡ false
none_follow c o w payload [] none = refl
none_follow c o w payload (p ∷ line) none =
    let both = or_none (is_talk c o p) (list_any (is_talk c o) line) none in
    follow_same c o p line w payload both.0 ∙ none_follow c o w payload line both.1

-- ---- what the history says of the line

pub told_all : (c o : Endpoint) (line : List Placed) (h : Option History) (w : Bool) (payload : List ℕ) → IsHistoryOf c o line h → list_any (may_follow c o w payload) line ≡ all_by h w payload
told_all c o line None w payload is = none_follow c o w payload line is
told_all c o line (Some h) w payload is = is.whole w payload

pub told_up_to : (c o : Endpoint) (line : List Placed) (h : Option History) (n : ℕ) (w : Bool) (payload : List ℕ) → IsHistoryOf c o line h → list_any (may_follow c o w payload) (before_talk c o n line) ≡ up_to n h w payload
told_up_to c o line None n w payload is = ap (list_any (may_follow c o w payload)) (none_before c o n line is)
told_up_to c o line (Some h) n w payload is = by_test (h.number == n)
    (λ same. ap (λ m. list_any (may_follow c o w payload) (before_talk c o m line)) (sym (eqb-true h.number n same)) ∙ is.before w payload
    ∙ sym (ap (λ b. if b then is_within h.before w payload else is_within h.whole w payload) same))
    (λ other. is.others n other w payload
    ∙ sym (ap (λ b. if b then is_within h.before w payload else is_within h.whole w payload) other))

-- ---- one talk more

other_is : (c o : Endpoint) (d : Recorded) (m n : ℕ) (y : Transfer) → is_between c o d ≡ true → is_other_talk c o n (now_at d m (Talks y)) ≡ not (y.number == n)
other_is c o d m n y between = rw between refl

pub history_more : (c o : Endpoint) (d : Recorded) (m : ℕ) (y : Transfer) (line : List Placed) (old : Option History) (h : History) → is_between c o d ≡ true
    → IsHistoryOf c o line old → IsNextHistory old y (writes_by c y d) (number_of d.payload) h → TellsOf c o (now_at d m (Talks y) ∷ line) h
history_more c o d m y line old h between is next =
    let p : Placed = now_at d m (Talks y) in
    let same : h.number ≡ y.number = next.talked in
    let whole : (w : Bool) (payload : List ℕ) → list_any (may_follow c o w payload) (now_at d m (Talks y) ∷ line) ≡ is_within h.whole w payload = λ w payload.
    ap (λ b. (b && (passes_in (writes_by c y d) w payload && nat_le (number_of payload) (far_by y (number_of d.payload) + 1))) || list_any (may_follow c o w payload) line) between
    ∙ ap (λ b. (passes_in (writes_by c y d) w payload && nat_le (number_of payload) (far_by y (number_of d.payload) + 1)) || b) (told_all c o line old w payload is)
    ∙ sym (next.whole w payload) in
    record {
      whole = whole;
      before = λ w payload. ap (λ (n : ℕ). list_any (may_follow c o w payload) (before_talk c o n (now_at d m (Talks y) ∷ line))) same
          ∙ ap (λ (b : Bool). list_any (may_follow c o w payload) (if b then p ∷ line else before_talk c o y.number line)) (other_is c o d m y.number y between ∙ ap not (eq-eqb y.number y.number refl))
          ∙ told_up_to c o line old y.number w payload is
          ∙ sym (next.before w payload);
      others = λ n other w payload. ap (λ (b : Bool). list_any (may_follow c o w payload) (if b then p ∷ line else before_talk c o n line))
          (other_is c o d m n y between ∙ ap not (sym (ap (λ (k : ℕ). k == n) same) ∙ other))
          ∙ whole w payload;
    }
