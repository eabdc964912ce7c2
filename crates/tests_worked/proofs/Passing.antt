-- What has passed, read off a list of datagrams with what they spell, the newest first.
use Rattle.std.proofs.Common.{◌≡◌, ℕ, ◌&&◌, ◌||◌, ◌⊎◌, Bool, true, false, List, [], ◌∷◌, Option, Some, None, option_map, inl, inr, refl, sym, subst, ap, ◌∙◌, if◌then◌else◌}
use Rattle.std.specs.List.{list_any}
use Rattle.std.proofs.lemmas.Bool.{and_parts, or_cases, false≢true}
use Rattle.tftp_packet.specs.{Message, RequestParts, Spells, Side}
use Rattle.tftp_packet.specs.Hosts.{Datagram, Header}
use Rattle.tftp_packet.specs.{Dir, In, Out}
use Rattle.law_model.specs.Rules.{goes_out, or_this, first_of, asks, route_of, is_of_transfer, transfer_of, Passed, brings_error, usable}
use Rattle.law_model.specs.{Terms, NoReply}
use Rattle.law_end.specs.{FirstAsked, Answer, Answers, NotAnswered, FirstAnswer, plain_terms, terms_after, AreTerms}
use Rattle.law_end.proofs.FirstBroken.Answering.{answer_of, answer_is, answer_there}
use Rattle.law_end.proofs.Spelled.{spelled_once}
use Rattle.tests_worked.proofs.Payloads.{Spelled, datagrams, AllSpelled}
use Rattle.tftp_ends.proofs.KeptIds.{two_ways}

-- ---- which way, and what it is

abbrev pub same_dir : Dir → Dir → Bool
same_dir In In = true
same_dir Out Out = true
same_dir _ _ = false

pub dir_is : (a b : Dir) → same_dir a b ≡ true → a ≡ b
dir_is In Out e = absurd (false≢true e)
dir_is Out In e = absurd (false≢true e)
dir_is _ _ e = refl

abbrev pub as_block : Message → Option (ℕ × List ℕ)
as_block (Message.Data k bytes) = Some (k, bytes)
as_block _ = None

abbrev pub as_ack : Message → Option ℕ
as_ack (Message.Ack j) = Some j
as_ack _ = None

-- it is there, and passes the test
abbrev pub holds : {X : Type 0} → (X → Bool) → Option X → Bool
holds test (Some x) = test x
holds test None = false

pub block_is : (test : ℕ × List ℕ → Bool) (m : Message) → holds test (as_block m) ≡ true → (k : ℕ) × (bytes : List ℕ) × (m ≡ Message.Data k bytes) × (test (k, bytes) ≡ true)
block_is test (Message.Data k bytes) t = (k, bytes, refl, t)
block_is test _ t = absurd (false≢true t)

pub ack_is : (test : ℕ → Bool) (m : Message) → holds test (as_ack m) ≡ true → (j : ℕ) × (m ≡ Message.Ack j) × (test j ≡ true)
ack_is test (Message.Ack j) t = (j, refl, t)
ack_is test _ t = absurd (false≢true t)

pub passed_as : (passed : List Datagram) (dir way : Dir) (m n : Message) → same_dir way dir ≡ true → m ≡ n → Passed dir m passed → Passed way n passed
passed_as passed dir way m n same is p = subst (λ x. Passed x n passed) (sym (dir_is way dir same)) (subst (λ x. Passed dir x passed) is p)

-- ---- the datagrams of the transfer

abbrev pub kept_if : Bool → Spelled → List Spelled → List Spelled
kept_if true e es = e ∷ es
kept_if false e es = es

abbrev pub main_of : Header → List Spelled → List Spelled
main_of h [] = []
main_of h (e ∷ es) = kept_if (is_of_transfer (route_of h (datagrams es) e.0)) e (main_of h es)

main_if : (b : Bool) (e : Spelled) (es : List Spelled) (passed : List Datagram) → datagrams es ≡ passed → datagrams (kept_if b e es) ≡ (if b then e.0 ∷ passed else passed)
main_if true e es passed is = ap (λ ds. e.0 ∷ ds) is
main_if false e es passed is = is

pub main_is : (h : Header) (es : List Spelled) → datagrams (main_of h es) ≡ transfer_of h (datagrams es)
main_is h [] = refl
main_is h (e ∷ es) = main_if (is_of_transfer (route_of h (datagrams es) e.0)) e (main_of h es) (transfer_of h (datagrams es)) (main_is h es)

spelled_if : (b : Bool) (e : Spelled) (es : List Spelled) → Spells e.0.payload e.1 → AllSpelled es → AllSpelled (kept_if b e es)
spelled_if true e es s all = (s, all)
spelled_if false e es s all = all

pub main_spelled : (h : Header) (es : List Spelled) → AllSpelled es → AllSpelled (main_of h es)
main_spelled h [] s = tt
main_spelled h (e ∷ es) s = spelled_if (is_of_transfer (route_of h (datagrams es) e.0)) e (main_of h es) s.0 (main_spelled h es s.1)

-- ---- what of them the other end can have used

abbrev pub stopped_in : List Spelled → Bool
stopped_in es = list_any (λ (e : Spelled). brings_error e.0) es

-- none of what went out after an ERROR came in
abbrev pub used_of : List Spelled → List Spelled
used_of [] = []
used_of (e ∷ es) = if goes_out e.0 && stopped_in es then used_of es else e ∷ used_of es

stopped_is : (es : List Spelled) → stopped_in es ≡ list_any brings_error (datagrams es)
stopped_is [] = refl
stopped_is (e ∷ es) = ap (λ b. brings_error e.0 || b) (stopped_is es)

used_if : (b : Bool) (e : Spelled) (es : List Spelled) (ds : List Datagram) → datagrams es ≡ ds → datagrams (if b then es else e ∷ es) ≡ (if b then ds else e.0 ∷ ds)
used_if true e es ds is = is
used_if false e es ds is = ap (λ xs. e.0 ∷ xs) is

pub used_is : (es : List Spelled) → datagrams (used_of es) ≡ usable (datagrams es)
used_is [] = refl
used_is (e ∷ es) = used_if (goes_out e.0 && stopped_in es) e (used_of es) (usable (datagrams es)) (used_is es)
    ∙ ap (λ b. if goes_out e.0 && b then usable (datagrams es) else e.0 ∷ usable (datagrams es)) (stopped_is es)

all_if : (b : Bool) (e : Spelled) (es : List Spelled) → Spells e.0.payload e.1 → AllSpelled es → AllSpelled (if b then es else e ∷ es)
all_if true e es s all = all
all_if false e es s all = (s, all)

pub all_used : (es : List Spelled) → AllSpelled es → AllSpelled (used_of es)
all_used [] s = tt
all_used (e ∷ es) s = all_if (goes_out e.0 && stopped_in es) e (used_of es) s.0 (all_used es s.1)

-- ---- tests of what has passed

abbrev pub every : (Dir → Message → Bool) → List Spelled → Bool
every test [] = true
every test (e ∷ es) = test e.0.dir e.1 && every test es

abbrev pub some : (Dir → Message → Bool) → List Spelled → Bool
some test [] = false
some test (e ∷ es) = test e.0.dir e.1 || some test es

every_here : (test : Dir → Message → Bool) (e : Spelled) (dir : Dir) (m : Message) → Spells e.0.payload e.1 → (e.0.dir ≡ dir) × Spells e.0.payload m → test e.0.dir e.1 ≡ true → test dir m ≡ true
every_here test e dir m s at t = subst (λ x. test x m ≡ true) at.0 (subst (λ x. test e.0.dir x ≡ true) (spelled_once e.0.payload e.1 m s at.1) t)

pub every_in : (test : Dir → Message → Bool) (es : List Spelled) (dir : Dir) (m : Message) → AllSpelled es → every test es ≡ true → Passed dir m (datagrams es) → test dir m ≡ true
every_in test [] dir m s t p = absurd p
every_in test (e ∷ es) dir m s t p =
    let parts = and_parts (test e.0.dir e.1) (every test es) t in
    elim p [ inl here ↦ every_here test e dir m s.0 here parts.0 | inr before ↦ every_in test es dir m s.1 parts.1 before ]

pub some_in : (test : Dir → Message → Bool) (es : List Spelled) → AllSpelled es → some test es ≡ true → (dir : Dir) × (m : Message) × (test dir m ≡ true) × Passed dir m (datagrams es)
some_in test [] s t = absurd (false≢true t)
some_in test (e ∷ es) s t = elim (or_cases (test e.0.dir e.1) (some test es) t) [
  | inl here ↦ (e.0.dir, e.1, here, inl (refl, s.0))
  | inr before ↦ let p = some_in test es s.1 before in (p.0, p.1, p.2, inr p.3)
]

-- of the datagrams of the transfer
pub every_is : (h : Header) (es : List Spelled) (test : Dir → Message → Bool) (dir : Dir) (m : Message) → AllSpelled es → every test (main_of h es) ≡ true
    → Passed dir m (transfer_of h (datagrams es)) → test dir m ≡ true
every_is h es test dir m s t p = every_in test (main_of h es) dir m (main_spelled h es s) t (subst (Passed dir m) (sym (main_is h es)) p)

pub some_is : (h : Header) (es : List Spelled) (test : Dir → Message → Bool) → AllSpelled es → some test (main_of h es) ≡ true
    → (dir : Dir) × (m : Message) × (test dir m ≡ true) × Passed dir m (transfer_of h (datagrams es))
some_is h es test s t =
    let p = some_in test (main_of h es) (main_spelled h es s) t in
    (p.0, p.1, p.2, subst (Passed p.0 p.1) (main_is h es) p.3)

-- ---- the first request

abbrev pub first_asked : Header → List Spelled → Option Spelled
first_asked h es = first_of (λ (e : Spelled). asks h e.0) es

or_this_is : (o : Option Spelled) (b : Bool) (e : Spelled) → or_this (option_map (λ (x : Spelled). x.0) o) b e.0 ≡ option_map (λ (x : Spelled). x.0) (or_this o b e)
or_this_is (Some x) b e = refl
or_this_is None true e = refl
or_this_is None false e = refl

pub first_is : (h : Header) (es : List Spelled) → first_of (asks h) (datagrams es) ≡ option_map (λ (x : Spelled). x.0) (first_asked h es)
first_is h [] = refl
first_is h (e ∷ es) = ap (λ o. or_this o (asks h e.0) e.0) (first_is h es) ∙ or_this_is (first_asked h es) (asks h e.0) e

IsSpelled : Option Spelled → Type 0
IsSpelled None = Unit {0}
IsSpelled (Some e) = Spells e.0.payload e.1

or_this_spelled : (o : Option Spelled) (b : Bool) (e : Spelled) → IsSpelled o → Spells e.0.payload e.1 → IsSpelled (or_this o b e)
unfolding IsSpelled
or_this_spelled (Some x) b e o s = o
or_this_spelled None true e o s = s
or_this_spelled None false e o s = tt

first_spelled : (h : Header) (es : List Spelled) → AllSpelled es → IsSpelled (first_asked h es)
unfolding IsSpelled
first_spelled h [] s = tt
first_spelled h (e ∷ es) s = or_this_spelled (first_asked h es) (asks h e.0) e (first_spelled h es s.1) s.0

-- what the first request says
abbrev pub asked_by : Option Spelled → Option Message
asked_by o = option_map (λ (x : Spelled). x.1) o

asked_in : (o : Option Spelled) (d : Datagram) (asked : RequestParts) → IsSpelled o → option_map (λ (x : Spelled). x.0) o ≡ Some d → Spells d.payload (Message.Request asked) → asked_by o ≡ Some (Message.Request asked)
unfolding IsSpelled
asked_in None d asked s e t = absurd (cc)
asked_in (Some x) d asked s e t =
    let same : x.0 ≡ d = cc in
    ap Some (spelled_once x.0.payload x.1 (Message.Request asked) s (subst (λ y. Spells y.payload (Message.Request asked)) (sym same) t))

pub asked_is : (h : Header) (es : List Spelled) (asked : RequestParts) → AllSpelled es → FirstAsked h (datagrams es) asked → asked_by (first_asked h es) ≡ Some (Message.Request asked)
asked_is h es asked s (d, first, t) = asked_in (first_asked h es) d asked (first_spelled h es s) (sym (first_is h es) ∙ first) t

-- the first request, where it is known
pub asked_there : (h : Header) (es : List Spelled) (first : Spelled) (asked : RequestParts) → first_asked h es ≡ Some first → Spells first.0.payload (Message.Request asked) → FirstAsked h (datagrams es) asked
asked_there h es first asked is s = (first.0, first_is h es ∙ ap (option_map (λ (x : Spelled). x.0)) is, s)

asked_out : (o : Option Spelled) (asked : RequestParts) → IsSpelled o → asked_by o ≡ Some (Message.Request asked) → (d : Datagram) × (option_map (λ (x : Spelled). x.0) o ≡ Some d) × Spells d.payload (Message.Request asked)
unfolding IsSpelled
asked_out None asked s e = absurd (cc)
asked_out (Some x) asked s e = let is : x.1 ≡ Message.Request asked = cc in (x.0, refl, subst (Spells x.0.payload) is s)

pub asked_back : (h : Header) (es : List Spelled) (asked : RequestParts) → AllSpelled es → asked_by (first_asked h es) ≡ Some (Message.Request asked) → FirstAsked h (datagrams es) asked
asked_back h es asked s e = let (d, is, t) = asked_out (first_asked h es) asked (first_spelled h es s) e in (d, first_is h es ∙ is, t)

-- ---- the first answer to it

abbrev pub or_now : Option Answer → Option Answer → Option Answer
or_now (Some first) now = Some first
or_now None now = now

abbrev pub first_answer : Side → List Spelled → Option Answer
first_answer side [] = None
first_answer side (e ∷ es) = or_now (first_answer side es) (answer_of side e.1)

answers_is : (side : Side) (e : Spelled) (a : Answer) → Spells e.0.payload e.1 → Answers side e.0 a → answer_of side e.1 ≡ Some a
answers_is side e a s (m, t, is) = ap (answer_of side) (spelled_once e.0.payload e.1 m s t) ∙ answer_is side m a is

now_none : (o now : Option Answer) → o ≡ None → now ≡ None → or_now o now ≡ None
now_none None now e f = f
now_none (Some x) now e f = e

now_some : (o now : Option Answer) (a : Answer) → (o ≡ Some a) ⊎ ((o ≡ None) × (now ≡ Some a)) → or_now o now ≡ Some a
now_some None now a e = elim e [ inl some ↦ absurd (cc) | inr none ↦ none.1 ]
now_some (Some x) now a e = elim e [ inl some ↦ some | inr none ↦ let is = none.0 in absurd (cc) ]

none_now : (o now : Option Answer) → or_now o now ≡ None → (o ≡ None) × (now ≡ None)
none_now None now e = (refl, e)
none_now (Some x) now e = absurd (cc)

some_now : (o now : Option Answer) (a : Answer) → or_now o now ≡ Some a → (o ≡ Some a) ⊎ ((o ≡ None) × (now ≡ Some a))
some_now None now a e = inr (refl, e)
some_now (Some x) now a e = inl e

none_in : (side : Side) (es : List Spelled) → AllSpelled es → NotAnswered side (datagrams es) → first_answer side es ≡ None
none_in side [] s none = refl
none_in side (e ∷ es) s none =
    now_none (first_answer side es) (answer_of side e.1) (none_in side es s.1 none.1)
    (elim (two_ways (answer_of side e.1)) [ inl is ↦ is | inr is ↦ absurd (none.0 is.0 (e.1, s.0, answer_there side e.1 is.0 is.1)) ])

first_in : (side : Side) (es : List Spelled) (a : Answer) → AllSpelled es → FirstAnswer side (datagrams es) a → first_answer side es ≡ Some a
first_in side [] a s first = absurd first
first_in side (e ∷ es) a s first =
    now_some (first_answer side es) (answer_of side e.1) a
    (elim first [ inl before ↦ inl (first_in side es a s.1 before) | inr now ↦ inr (none_in side es s.1 now.0, answers_is side e a s.0 now.1) ])

none_there : (side : Side) (es : List Spelled) → AllSpelled es → first_answer side es ≡ None → NotAnswered side (datagrams es)
none_there side [] s is = tt
none_there side (e ∷ es) s is =
    let none = none_now (first_answer side es) (answer_of side e.1) is in
    (λ a answers. let now : None ≡ Some a = sym none.1 ∙ answers_is side e a s.0 answers in absurd (cc), none_there side es s.1 none.0)

first_there : (side : Side) (es : List Spelled) (a : Answer) → AllSpelled es → first_answer side es ≡ Some a → FirstAnswer side (datagrams es) a
first_there side [] a s is = absurd (cc)
first_there side (e ∷ es) a s is = elim (some_now (first_answer side es) (answer_of side e.1) a is) [
  | inl before ↦ inl (first_there side es a s.1 before)
  | inr now ↦ inr (none_there side es s.1 now.0, (e.1, s.0, answer_there side e.1 a now.1))
]

-- of the datagrams of the transfer
pub unanswered_is : (h : Header) (side : Side) (es : List Spelled) → AllSpelled es → NotAnswered side (transfer_of h (datagrams es)) → first_answer side (main_of h es) ≡ None
unanswered_is h side es s none = none_in side (main_of h es) (main_spelled h es s) (subst (NotAnswered side) (sym (main_is h es)) none)

pub answered_is : (h : Header) (side : Side) (es : List Spelled) (a : Answer) → AllSpelled es → FirstAnswer side (transfer_of h (datagrams es)) a → first_answer side (main_of h es) ≡ Some a
answered_is h side es a s first = first_in side (main_of h es) a (main_spelled h es s) (subst (λ ds. FirstAnswer side ds a) (sym (main_is h es)) first)

pub unanswered_there : (h : Header) (side : Side) (es : List Spelled) → AllSpelled es → first_answer side (main_of h es) ≡ None → NotAnswered side (transfer_of h (datagrams es))
unanswered_there h side es s is = subst (NotAnswered side) (main_is h es) (none_there side (main_of h es) (main_spelled h es s) is)

pub answered_there : (h : Header) (side : Side) (es : List Spelled) (a : Answer) → AllSpelled es → first_answer side (main_of h es) ≡ Some a → FirstAnswer side (transfer_of h (datagrams es)) a
answered_there h side es a s is = subst (λ ds. FirstAnswer side ds a) (main_is h es) (first_there side (main_of h es) a (main_spelled h es s) is)

-- ---- what is known of the transfer

abbrev pub terms_by : Header → RequestParts → Option Answer → Terms
terms_by h asked None = plain_terms h asked.side NoReply
terms_by h asked (Some answer) = terms_after h asked answer

abbrev pub terms_from : Header → List Spelled → Option Message → Option Terms
terms_from h es (Some (Message.Request asked)) = Some (terms_by h asked (first_answer asked.side (main_of h es)))
terms_from h es _ = None

abbrev pub terms_of : Header → List Spelled → Option Terms
terms_of h es = terms_from h es (asked_by (first_asked h es))

pub terms_are : (h : Header) (es : List Spelled) (t : Terms) → AllSpelled es → AreTerms h (datagrams es) t → terms_of h es ≡ Some t
terms_are h es t s known = elim known.2 [
  | inl none ↦ from (ap (λ o. Some (terms_by h known.0 o)) (unanswered_is h known.0.side es s none.0) ∙ ap Some (sym none.1))
  | inr answered ↦ from (ap (λ o. Some (terms_by h known.0 o)) (answered_is h known.0.side es answered.0 s answered.1) ∙ ap Some (sym answered.2))
]
  where
    from : Some (terms_by h known.0 (first_answer known.0.side (main_of h es))) ≡ Some t → terms_of h es ≡ Some t
    from e = ap (terms_from h es) (asked_is h es known.0 s known.1) ∙ e

-- and back
pub terms_back : (h : Header) (es : List Spelled) (t : Terms) → AllSpelled es → terms_of h es ≡ Some t → AreTerms h (datagrams es) t
terms_back h es t s is = by (asked_by (first_asked h es)) refl is
  where
    same : (a b : Terms) → Some a ≡ Some b → b ≡ a
    same a b e = cc

    answered : (asked : RequestParts) → asked_by (first_asked h es) ≡ Some (Message.Request asked) → (o : Option Answer) → first_answer asked.side (main_of h es) ≡ o → Some (terms_by h asked o) ≡ Some t → AreTerms h (datagrams es) t
    answered asked first None none e = (asked, asked_back h es asked s first, inl (unanswered_there h asked.side es s none, same (terms_by h asked None) t e))
    answered asked first (Some answer) some e = (asked, asked_back h es asked s first, inr (answer, answered_there h asked.side es answer s some, same (terms_by h asked (Some answer)) t e))

    by : (o : Option Message) → asked_by (first_asked h es) ≡ o → terms_from h es o ≡ Some t → AreTerms h (datagrams es) t
    by (Some (Message.Request asked)) first e = answered asked first (first_answer asked.side (main_of h es)) refl e
    by _ first e = absurd (cc)
