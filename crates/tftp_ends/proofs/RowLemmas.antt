-- Peers in rows: what one more makes, and where one is found.
use Rattle.std.proofs.Common.{◌≡◌, ◌≢◌, ℕ, zero, suc, Bool, true, false, List, [], ◌∷◌, ◌++◌, ◌+◌, ◌-◌, ◌<◌, ◌≤◌, ◌%◌, ◌||◌, length, take, map, refl, sym, ap, ◌∙◌, subst, ⊎_elim, arith, length-set, add-zero}
use Rattle.std.proofs.Math.ListN.{set, get_or}
use Rattle.std.proofs.Math.ListN as listn
use Rattle.std.proofs.lemmas.Bool.{cases_eq, cases_Bool}
use Rattle.std.proofs.lemmas.List.{length-map, map-append, get_or_append_left, get_or-set_same, get_or-set_other, get_or-map, map-set, set-get_or, take_more}
use Rattle.std.proofs.lemmas.List.Folds.{list_any-append}
use Rattle.tftp_packet.specs.Hosts.{PeerId, same_peer}
use Rattle.tftp_ends.specs.{is_noted, Linked, AreLinked, IsLatest, mark_of, peers_of, rows_of}
use Rattle.tftp_ends.proofs.NotedPeers.{is_same, same_itself}

-- ---- one peer more is linked

module _ (rows latest befores : List ℕ) (index row : ℕ) (is : row ≡ get_or rows index 0) (low : row < length latest) (within : index < length befores)
    (lasts : (r : ℕ) → r < length latest → IsLatest rows r index (get_or latest r 0)) where
  abbrev latest_on : List ℕ
  latest_on = set latest row (index + 1)

  here : IsLatest rows row (index + 1) (index + 1)
  here = record {
    low = omega arith;
    there = λ _. ap (λ n. get_or rows n 0) (let e : index + 1 - 1 ≡ index = omega arith in e) ∙ sym is;
    after = λ k below _. below;
  }

  elsewhere : (r s : ℕ) → r ≢ row → IsLatest rows r index s → IsLatest rows r (index + 1) s
  elsewhere r s other last =
      let small = last.low in
      record {
        low = omega (arith, small);
        there = last.there;
        after = λ k below in_row. ⊎_elim (λ same. absurd (other (sym in_row ∙ ap (λ n. get_or rows n 0) same ∙ sym is))) (λ apart. last.after k (omega (arith, below, apart)) in_row) (cases_eq k index);
      }

  pub lasts_on : (r : ℕ) → r < length latest_on → IsLatest rows r (index + 1) (get_or latest_on r 0)
  lasts_on r below =
      let same_size = length-set latest row (index + 1) in
      ⊎_elim
      (λ same. subst (λ n. IsLatest rows n (index + 1) (get_or latest_on n 0)) (sym same) (subst (IsLatest rows row (index + 1)) (sym (get_or-set_same latest row (index + 1) 0 low)) here))
      (λ other. subst (IsLatest rows r (index + 1)) (sym (get_or-set_other latest row r (index + 1) 0 other)) (elsewhere r (get_or latest r 0) other (lasts r (omega (arith, below, same_size)))))
      (cases_eq r row)

  pub befores_on : ((j : ℕ) → j < index → IsLatest rows (get_or rows j 0) j (get_or befores j 0))
      → (j : ℕ) → j < index + 1 → IsLatest rows (get_or rows j 0) j (get_or (set befores index (get_or latest row 0)) j 0)
  befores_on all j below =
      ⊎_elim
      (λ same. subst (λ n. IsLatest rows (get_or rows n 0) n (get_or (set befores index (get_or latest row 0)) n 0)) (sym same)
      (subst (IsLatest rows (get_or rows index 0) index) (sym (get_or-set_same befores index (get_or latest row 0) 0 within)) (subst (λ r. IsLatest rows r index (get_or latest row 0)) is (lasts row low))))
      (λ other. subst (IsLatest rows (get_or rows j 0) j) (sym (get_or-set_other befores index j (get_or latest row 0) 0 other)) (all j (omega (arith, below, other))))
      (cases_eq j index)

-- a part that is written as it was
pub kept_part : {X : Type 0} (f : Linked → X) (links : List Linked) (index : ℕ) (d x : Linked) → f x ≡ f (get_or links index d) → map f (set links index x) ≡ map f links
kept_part f links index d x same =
    map-set f links index x ∙ ap (λ y. set (map f links) index y) (same ∙ sym (listn.get_or-map f links index d)) ∙ set-get_or (map f links) index (f d)

pub link_on : (latest : List ℕ) (links : List Linked) (index row : ℕ) (d x : Linked) → AreLinked latest links index → row ≡ get_or (rows_of (length latest) links) index 0 → row < length latest → index < length links
    → x.peer ≡ (get_or links index d).peer → x.before ≡ get_or latest row 0 → AreLinked (set latest row (index + 1)) (set links index x) (index + 1)
link_on latest links index row d x linked is low within peer before =
    let count = length latest in
    let rows = rows_of count links in
    let befores = map (λ l. l.before) links in
    let size : length (set latest row (index + 1)) ≡ count = length-set latest row (index + 1) in
    let same_rows : rows_of (length (set latest row (index + 1))) (set links index x) ≡ rows =
    ap (λ n. rows_of n (set links index x)) size ∙ kept_part (λ l. mark_of l.peer % count) links index d x (ap (λ p. mark_of p % count) peer) in
    let same_befores : map (λ l. l.before) (set links index x) ≡ set befores index (get_or latest row 0) =
    map-set (λ l. l.before) links index x ∙ ap (λ n. set befores index n) before in
    let sized = length-map links (λ (l : Linked). l.before) in
    let inside : index < length befores = omega (arith, within, sized) in
    record {
      rows = λ r below. subst (λ l. IsLatest l r (index + 1) (get_or (set latest row (index + 1)) r 0)) (sym same_rows) (lasts_on rows latest befores index row is low inside linked.rows r below);
      befores = λ j below.
          subst (λ l. IsLatest l (get_or l j 0) j (get_or (map (λ l. l.before) (set links index x)) j 0)) (sym same_rows)
          (subst (λ l. IsLatest rows (get_or rows j 0) j (get_or l j 0)) (sym same_befores) (befores_on rows latest befores index row is low inside linked.rows linked.befores j below));
    }

-- ---- where a peer is found

or_false : (b : Bool) → (b || (false || false)) ≡ b
or_false true = refl
or_false false = refl

or_true : (b : Bool) → (b || (true || false)) ≡ true
or_true true = refl
or_true false = refl

module _ (peer : PeerId) (links : List Linked) (count : ℕ) where
  abbrev noted : ℕ → Bool
  noted n = is_noted peer (take n (peers_of links))

  -- the first peers, and one more
  one_more : (k : ℕ) (d : Linked) → k < length links → noted (k + 1) ≡ (noted k || (same_peer peer (get_or links k d).peer || false))
  one_more k d below =
      let sized = length-map links (λ (l : Linked). l.peer) in
      ap (is_noted peer) (take_more (peers_of links) k d.peer (omega (arith, below, sized)) ∙ ap (λ p. take k (peers_of links) ++ p ∷ []) (listn.get_or-map (λ (l : Linked). l.peer) links k d))
      ∙ list_any-append (same_peer peer) (take k (peers_of links)) ((get_or links k d).peer ∷ [])

  pub not_this : (k : ℕ) (d : Linked) → k < length links → same_peer peer (get_or links k d).peer ≡ false → noted (k + 1) ≡ noted k
  not_this k d below apart = one_more k d below ∙ ap (λ b. noted k || (b || false)) apart ∙ or_false (noted k)

  pub is_this : (k : ℕ) (d : Linked) → k < length links → same_peer peer (get_or links k d).peer ≡ true → noted (k + 1) ≡ true
  is_this k d below same = one_more k d below ∙ ap (λ b. noted k || (b || false)) same ∙ or_true (noted k)

  -- peers in other rows
  row_at : (k : ℕ) (d : Linked) → k < length links → get_or (rows_of count links) k 0 ≡ mark_of (get_or links k d).peer % count
  row_at k d below = get_or-map (λ (l : Linked). mark_of l.peer % count) links k d 0 below

  apart_by_row : (k : ℕ) (d : Linked) → k < length links → get_or (rows_of count links) k 0 ≢ mark_of peer % count → same_peer peer (get_or links k d).peer ≡ false
  apart_by_row k d below other =
      ⊎_elim
      (λ same. absurd (other (row_at k d below ∙ ap (λ p. mark_of p % count) (sym (is_same peer (get_or links k d).peer same)))))
      (λ apart. apart)
      (cases_Bool (same_peer peer (get_or links k d).peer))

  pub none_between : (d : Linked) (m i : ℕ) → i + m ≤ length links → ((k : ℕ) → i ≤ k → k < i + m → get_or (rows_of count links) k 0 ≢ mark_of peer % count) → noted (i + m) ≡ noted i
  none_between d zero i most none = ap noted (add-zero i)
  none_between d (suc m) i most none =
      let at : i + suc m ≡ i + m + 1 = omega arith in
      ap noted at
      ∙ not_this (i + m) d (omega (arith, most)) (apart_by_row (i + m) d (omega (arith, most)) (none (i + m) (omega arith) (omega arith)))
      ∙ none_between d m i (omega (arith, most)) (λ k low high. none k low (omega (arith, high)))

  -- all that are noted stand up to the last one in the row
  pub up_to_latest : (d : Linked) (n s : ℕ) → n ≤ length links → IsLatest (rows_of count links) (mark_of peer % count) n s → noted n ≡ noted s
  up_to_latest d n s most last =
      let low = last.low in
      let at : s + (n - s) ≡ n = omega (arith, low) in
      ap noted (sym at) ∙ none_between d (n - s) s (omega (arith, most, low)) (λ k from below in_row. let early = last.after k (omega (arith, below, low)) in_row in omega (arith, early, from))

-- ---- what is noted of all

or_comm : (b c d : Bool) → ((b || (c || false)) || d) ≡ (c || (b || d))
or_comm true true d = refl
or_comm true false d = refl
or_comm false true d = refl
or_comm false false d = refl

or_last : (b c d : Bool) → (b || (c || d)) ≡ (c || (b || d))
or_last true true d = refl
or_last true false d = refl
or_last false true d = refl
or_last false false d = refl

turned : (one other : PeerId) → same_peer one other ≡ same_peer other one
turned one other =
    ⊎_elim
    (λ same. same ∙ sym (subst (λ p. same_peer p one ≡ true) (is_same one other same) (same_itself one)))
    (λ apart. ⊎_elim
    (λ same. apart ∙ sym apart ∙ subst (λ p. same_peer one p ≡ same_peer p one) (sym (is_same other one same)) refl)
    (λ not_same. apart ∙ sym not_same)
    (cases_Bool (same_peer other one)))
    (cases_Bool (same_peer one other))

pub noted_in_two : (peer : PeerId) (ps os : List PeerId) → is_noted peer (ps ++ os) ≡ (is_noted peer ps || is_noted peer os)
noted_in_two peer ps os = list_any-append (same_peer peer) ps os

-- it was noted before
pub noted_again : (peer other : PeerId) (all : List PeerId) → is_noted peer all ≡ true → is_noted other all ≡ (same_peer peer other || is_noted other all)
noted_again peer other all noted =
    ⊎_elim
    (λ same. subst (λ p. is_noted p all ≡ (same_peer peer p || is_noted p all)) (is_same peer other same) (noted ∙ sym (ap (λ b. b || is_noted peer all) (same_itself peer))))
    (λ apart. ap (λ b. b || is_noted other all) (sym apart))
    (cases_Bool (same_peer peer other))

-- it is linked, or put into the tree
pub noted_linked : (peer other : PeerId) (ps os : List PeerId) → is_noted other ((ps ++ peer ∷ []) ++ os) ≡ (same_peer peer other || is_noted other (ps ++ os))
noted_linked peer other ps os =
    noted_in_two other (ps ++ peer ∷ []) os ∙ ap (λ b. b || is_noted other os) (noted_in_two other ps (peer ∷ []))
    ∙ ap (λ b. (is_noted other ps || (b || false)) || is_noted other os) (turned other peer)
    ∙ or_comm (is_noted other ps) (same_peer peer other) (is_noted other os)
    ∙ ap (λ b. same_peer peer other || b) (sym (noted_in_two other ps os))

pub noted_in_tree : (peer other : PeerId) (ps old new : List PeerId) → is_noted other new ≡ (same_peer peer other || is_noted other old)
    → is_noted other (ps ++ new) ≡ (same_peer peer other || is_noted other (ps ++ old))
noted_in_tree peer other ps old new more =
    noted_in_two other ps new ∙ ap (λ b. is_noted other ps || b) more ∙ or_last (is_noted other ps) (same_peer peer other) (is_noted other old)
    ∙ ap (λ b. same_peer peer other || b) (sym (noted_in_two other ps old))

-- ---- room for one more

same_front : (rows more : List ℕ) (row n s : ℕ) → ((k : ℕ) → k < n → get_or more k 0 ≡ get_or rows k 0) → IsLatest rows row n s → IsLatest more row n s
same_front rows more row n s same last =
    let low = last.low in
    record {
      low = low;
      there = λ some. same (s - 1) (omega (arith, low, some)) ∙ last.there some;
      after = λ k below in_row. last.after k below (sym (same k below) ∙ in_row);
    }

part_kept : (f : Linked → ℕ) (links : List Linked) (x : Linked) (k : ℕ) → k < length links → get_or (map f (links ++ x ∷ [])) k 0 ≡ get_or (map f links) k 0
part_kept f links x k below =
    let sized = length-map links f in
    ap (λ l. get_or l k 0) (map-append f links (x ∷ [])) ∙ get_or_append_left (map f links) (map f (x ∷ [])) 0 k (omega (arith, below, sized))

pub pushed : (latest : List ℕ) (links : List Linked) (x : Linked) → AreLinked latest links (length links) → AreLinked latest (links ++ x ∷ []) (length links)
pushed latest links x linked =
    let row = λ (l : Linked). mark_of l.peer % length latest in
    record {
      rows = λ r below. same_front (map row links) (map row (links ++ x ∷ [])) r (length links) (get_or latest r 0) (part_kept row links x) (linked.rows r below);
      befores = λ j below.
          let same = part_kept row links x in
          subst (λ r. IsLatest (map row (links ++ x ∷ [])) r j (get_or (map (λ (l : Linked). l.before) (links ++ x ∷ [])) j 0)) (sym (same j below))
          (subst (IsLatest (map row (links ++ x ∷ [])) (get_or (map row links) j 0) j) (sym (part_kept (λ (l : Linked). l.before) links x j below))
          (same_front (map row links) (map row (links ++ x ∷ [])) (get_or (map row links) j 0) j (get_or (map (λ (l : Linked). l.before) links) j 0)
          (λ k low. same k (omega (arith, low, below))) (linked.befores j below)));
    }
