-- A transfer of a client's whose captures follow one another is doubtful, or its view is such as it should be.
use Rattle.std.proofs.Common.{◌≡◌, ◌⊎◌, ℕ, true, false, List, [], ◌∷◌, ◌++◌, Contains, Some, inl, inr, refl, sym, ap, subst, ◌∙◌, ◌==◌, not}
use Rattle.std.proofs.lemmas.Bool.{false≢true, or_left, or_right, and_from, eq-eqb, eqb-true}
use Rattle.audit_flows.specs.Lines.{Recorded, Placed, same_endpoint, is_of, is_late, is_another, live, line, latest_in, transfer_of}
use Rattle.audit_flows.specs.{Endpoint, Place, Opens, Repeats, Talks, Transfer}
use Rattle.audit_flows.specs.Transfers.{client_view, place_of, placed, some_of}
use Rattle.audit_spared.specs.Spared.Seen.{is_with}
use Rattle.audit_flows.proofs.LinesLemmas.Endpoints.{same_itself}
use Rattle.audit_flows.proofs.LinesLemmas.Lines.{by_test}
use Rattle.audit_flows.proofs.TransfersLemmas.AllLines.{line_here}
use Rattle.audit_spared.proofs.FairLemmas.Thinned.{filter_dropped}
use Rattle.audit_spared.specs.Spared.{is_doubted_there, needs_doubt}
use Rattle.audit_spared.proofs.SparedLemmas.Basics.{doubted_more}
use Rattle.audit_spared.proofs.SparedLemmas.Stands.{new, IsPlain, talks, State, doubted, asking, waiting, misled, answered, reopened, taken, mixed, Asking, Waiting, Misled, Answered, Reopened, Taken, Mixed, AreWith, Has}
use Rattle.audit_spared.proofs.SparedLemmas.Stands.IsPlain.{asks as asked}
use Rattle.audit_spared.proofs.SparedLemmas.Whole.{AreAll, kept_of}

pub of_transfer : (n : ℕ) (d : Recorded) (now : ℕ) (place : Place) (z : Transfer) → transfer_of place ≡ Some z → is_of n (new d now place) ≡ (z.number == n)
of_transfer n d now (Opens y) z is = let this : y ≡ z = cc in ap (λ x. x.number == n) this
of_transfer n d now (Repeats y) z is = let this : y ≡ z = cc in ap (λ x. x.number == n) this
of_transfer n d now (Talks y) z is = let this : y ≡ z = cc in ap (λ x. x.number == n) this
of_transfer n d now _ z is = absurd (cc)

pub rest_same : (p : Placed) (xs ys : List Placed) → p ∷ xs ≡ p ∷ ys → xs ≡ ys
rest_same p xs ys e = cc

-- it passed after its client had asked for another
pub late_is : (c : Endpoint) (k : List Recorded) (older kp rest : List Placed) (x z : Transfer) (d : Recorded) (now : ℕ) → Has c k (new d now (Talks z) ∷ older) (new d now (Talks z) ∷ kp) rest x → z.client ≡ c
    → (x.number == z.number) ≡ false → is_late (new d now (Talks z)) older ≡ true
late_is c k older kp rest x z d now has client other =
    let there : line c (new d now (Talks z) ∷ older) ≡ new d now (Talks z) ∷ live now (line c older) = line_here c (new d now (Talks z)) older (ap (λ e. same_endpoint e c) client ∙ same_itself c) in
    let rest_is : live now (line c older) ≡ kp ++ rest = rest_same (new d now (Talks z)) (live now (line c older)) (kp ++ rest) (sym there ∙ has.whole) in
    ap (λ e. is_another z (latest_in (live now (line e older)))) client
    ∙ ap (λ l. is_another z (latest_in l)) rest_is
    ∙ ap (is_another z) has.latest
    ∙ ap not other

-- ---- a transfer that a late request opened

-- The datagram is of a transfer that a late request opened, and of which is talked what was of the transfer before; all that is no
-- request passes with one endpoint.
pub record TakenAt (lawful : List Recorded → Type 0) (c : Endpoint) (n : ℕ) (q : Placed) (older : List Placed) : Type 0 where
  pub k : List Recorded
  pub kp : List Placed
  pub rest : List Placed
  pub x : Transfer
  pub has : Has c k (q ∷ older) (q ∷ kp) rest x
  pub good : lawful k
  pub taken : Taken c k (q ∷ older) (q ∷ kp) rest x
  pub one : Endpoint
  pub with : AreWith c one (q ∷ kp)
  pub number : x.number ≡ n

-- the newest, if it is the transfer's, is such
abbrev pub TopTaken : (List Recorded → Type 0) → Endpoint → ℕ → List Placed → Type 0
TopTaken lawful c n [] = Unit {0}
TopTaken lawful c n (q ∷ older) = is_of n q ≡ true → TakenAt lawful c n q older

-- Of a transfer that is asked for or was answered the view is good; and where a request may come late, all that is no request passes
-- with one endpoint.
pub record IsStated (lawful : List Recorded → Type 0) (c : Endpoint) (good : List Placed → Type 0) (Late : Type 0) : Type 0 where
  pub is_asked : (k : List Recorded) (older kp rest : List Placed) (x : Transfer) → Has c k older kp rest x → lawful k → Asking c k older kp rest x → good (client_view x.number older)
  pub is_waiting : (k : List Recorded) (older kp rest : List Placed) (x : Transfer) → Has c k older kp rest x → lawful k → Waiting c k older kp rest x → good (client_view x.number older)
  pub is_misled : (k : List Recorded) (older kp rest : List Placed) (x : Transfer) → Has c k older kp rest x → lawful k → Misled c k older kp rest x → good (client_view x.number older)
  pub is_answered : (k : List Recorded) (older kp rest : List Placed) (x : Transfer) → Has c k older kp rest x → lawful k → Answered c k older kp rest x → good (client_view x.number older)
  pub is_reopened : (k : List Recorded) (older kp rest : List Placed) (x : Transfer) → Has c k older kp rest x → lawful k → Reopened c k older kp rest x → good (client_view x.number older)
  pub is_taken : (k : List Recorded) (older kp rest : List Placed) (x : Transfer) → Has c k older kp rest x → lawful k → Taken c k older kp rest x → Late × (o : Endpoint) × AreWith c o kp
  pub is_mixed : (k : List Recorded) (older kp rest : List Placed) (x : Transfer) → Has c k older kp rest x → lawful k → Mixed c k kp → ⊥

module _ (lawful : List Recorded → Type 0) (c : Endpoint) (good : List Placed → Type 0) (Late : Type 0) (good_none : good []) (stated : IsStated lawful c good Late) where
  -- a transfer is doubtful, or its view is good
  pub data Spared (n : ℕ) (older : List Placed) : Type 0 where
    doubtful : is_doubted_there n older ≡ true → Spared n older
    late : some_of n is_late older ≡ true → Spared n older
    opened_late : Late → TopTaken lawful c n older → Spared n older
    fair : good (client_view n older) → Spared n older

  pub spared_more : (n : ℕ) (p : Placed) (older : List Placed) → is_of n p ≡ false → Spared n older → Spared n (p ∷ older)
  spared_more n p older off (doubtful is) = doubtful (doubted_more n p older is)
  spared_more n p older off (late is) = late (or_right _ (some_of n is_late older) is)
  spared_more n p older off (opened_late may top) = opened_late may (λ of. absurd (false≢true (sym off ∙ of)))
  spared_more n p older off (fair is) = fair (subst good (sym (filter_dropped (is_of n) p older off)) is)

  state_spared : (k : List Recorded) (older kp rest : List Placed) (x : Transfer) (d : Recorded) (now : ℕ) (place : Place) → Has c k (new d now place ∷ older) (new d now place ∷ kp) rest x
      → lawful k → Spared x.number (new d now place ∷ older)
  state_spared k older kp rest x d now place has may = by has.state where
    by : State c k (new d now place ∷ older) (new d now place ∷ kp) rest x → Spared x.number (new d now place ∷ older)
    by (doubted is) = doubtful is
    by (asking a) = fair (stated.is_asked k (new d now place ∷ older) (new d now place ∷ kp) rest x has may a)
    by (waiting a) = fair (stated.is_waiting k (new d now place ∷ older) (new d now place ∷ kp) rest x has may a)
    by (misled a) = fair (stated.is_misled k (new d now place ∷ older) (new d now place ∷ kp) rest x has may a)
    by (answered a) = fair (stated.is_answered k (new d now place ∷ older) (new d now place ∷ kp) rest x has may a)
    by (reopened a) = fair (stated.is_reopened k (new d now place ∷ older) (new d now place ∷ kp) rest x has may a)
    by (taken a) =
        let (is_late_one, o, with) = stated.is_taken k (new d now place ∷ older) (new d now place ∷ kp) rest x has may a in
        opened_late is_late_one (λ of. record { k = k; kp = kp; rest = rest; x = x; has = has; good = may; taken = a; one = o; with = with; number = refl })
    by (mixed a) = absurd (stated.is_mixed k (new d now place ∷ older) (new d now place ∷ kp) rest x has may a)

  spared_now : (n : ℕ) (k : List Recorded) (older kp rest : List Placed) (x : Transfer) (d : Recorded) (now : ℕ) (place : Place) → Has c k (new d now place ∷ older) (new d now place ∷ kp) rest x
      → lawful k → is_of n (new d now place) ≡ true → Spared n (new d now place ∷ older)
  spared_now n k older kp rest x d now place has may of = by has.plain.0 where
    same : (z : Transfer) → transfer_of place ≡ Some z → x.number ≡ z.number → Spared n (new d now place ∷ older)
    same z at number =
        let this : z.number ≡ n = eqb-true z.number n (sym (of_transfer n d now place z at) ∙ of) in
        subst (λ i. Spared i (new d now place ∷ older)) (number ∙ this) (state_spared k older kp rest x d now place has may)

    by : IsPlain c (new d now place) → Spared n (new d now place ∷ older)
    by (asked z request at) = same z at (let both : Some x ≡ Some z = sym (has.top request) ∙ at in let one : x ≡ z = cc in ap (λ t. t.number) one)
    by (talks z at client) = by_test (x.number == z.number)
        (λ is. same z (ap transfer_of at) (eqb-true x.number z.number is))
        (λ other.
        let lately : is_late (new d now place) older ≡ true = subst (λ p. is_late (new d now p) older ≡ true) (sym at)
        (late_is c k older kp rest x z d now (subst (λ p. Has c k (new d now p ∷ older) (new d now p ∷ kp) rest x) at has) client other) in
        late (or_left _ (some_of n is_late older) (and_from (is_of n (new d now place)) (is_late (new d now place) older) of lately)))

  pub spared_one : (n : ℕ) (k : List Recorded) (older kp rest : List Placed) (x : Transfer) (d : Recorded) (now : ℕ) (place : Place) → is_with c d ≡ true → place ≡ place_of [] older now d
      → Has c k (new d now place ∷ older) (new d now place ∷ kp) rest x → lawful k → is_of n (new d now place) ≡ true → Spared n older → Spared n (new d now place ∷ older)
  spared_one n k older kp rest x d now place with placed_there has may of before = spared_now n k older kp rest x d now place has may of

  pub spared_none : (n : ℕ) → Spared n []
  spared_none n = fair good_none

-- ---- at each datagram

pub doubted_whole : (n : ℕ) (newer older : List Placed) → is_doubted_there n older ≡ true → is_doubted_there n (newer ++ older) ≡ true
doubted_whole n [] older is = is
doubted_whole n (p ∷ newer) older is = doubted_more n p (newer ++ older) (doubted_whole n newer older is)

module _ (lawful : Endpoint → List Recorded → Type 0) (clients : List Endpoint) (recorded : List Recorded) (g : AreAll lawful clients recorded)
    (c : Endpoint) (good : List Placed → Type 0) (Late : Type 0) (good_none : good []) (stated : IsStated (lawful c) c good Late) where
  -- a doubt is there, or a late request opened the transfer, or the view up to this datagram is good
  pub doubted_or : Contains clients c → (newer older : List Placed) (p : Placed) → placed [] recorded ≡ newer ++ p ∷ older → (x : Transfer) → transfer_of p.place ≡ Some x → x.client ≡ c
      → (needs_doubt x.number (placed [] recorded) p older ≡ true) ⊎ ((Late × TakenAt (lawful c) c x.number p older) ⊎ good (client_view x.number (p ∷ older)))
  doubted_or is_client newer older p are x at is = by (kept_of lawful clients recorded g c
      (Spared (lawful c) c good Late good_none stated) (spared_none (lawful c) c good Late good_none stated) (spared_more (lawful c) c good Late good_none stated) (spared_one (lawful c) c good Late good_none stated)
      is_client newer older p are x at is)
    where
      by : Spared (lawful c) c good Late good_none stated x.number (p ∷ older) → (needs_doubt x.number (placed [] recorded) p older ≡ true) ⊎ ((Late × TakenAt (lawful c) c x.number p older) ⊎ good (client_view x.number (p ∷ older)))
      by (doubtful there) = inl (or_left (is_doubted_there x.number (placed [] recorded)) (some_of x.number is_late (p ∷ older))
          (subst (λ l. is_doubted_there x.number l ≡ true) (sym are) (doubted_whole x.number newer (p ∷ older) there)))
      by (late there) = inl (or_right (is_doubted_there x.number (placed [] recorded)) (some_of x.number is_late (p ∷ older)) there)
      by (opened_late may top) = inr (inl (may, top (of_transfer x.number p.datagram p.moment p.place x at ∙ eq-eqb x.number x.number refl)))
      by (fair there) = inr (inr there)
