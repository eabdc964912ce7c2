-- What is merged when neither capture goes on is what there is to say of the two.
use Rattle.std.proofs.Common.{◌≡◌, ◌⊎◌, IfNone, ℕ, zero, suc, ◌+◌, ◌<◌, ◌≤◌, true, List, [], ◌∷◌, ◌++◌, length, take, get_or, Option, Some, None, inl, inr, refl, sym, subst, ap, ◌∙◌, arith, reverse, IfSome}
use Rattle.std.proofs.lemmas.Bool.{cases_lt}
use Rattle.std.proofs.lemmas.List.{length-append, reverse-append}
use Rattle.std.proofs.Math.Seq.{take-suc}
use Rattle.tftp_packet.specs.Hosts.{Datagram, Header}
use Rattle.tftp_packet.specs.{In}
use Rattle.law_model.specs.Rules.{route_of, is_of_transfer, transfer_of}
use Rattle.law_end.specs.{OneEnded}
use Rattle.law_pair.specs.{Capture, AreMergedBy, passed_in, begun, IsNextIn, IsShut, IsLawfulTo, IsPairVerdict, IsSentAmong, IsSentLater, IsUnsent}
use Rattle.law_pair.proofs.MatchedCaptures.{stuck_to}
use Rattle.law_pair.proofs.PairVerdict.{kept_before}
use Rattle.judge_pair.specs.Judge.{WasSent, with_held, Waits, AreMergedBut, IsWaitFor, IsSideAfter, Side, IsLeftAfter, IsRestAfter, Left, AreCarried, AreCountsOf, IsReadOf, GoesNoFurther, IsWhyWaiting}
use Rattle.judge_pair.specs.declared.judge.waiting.Wait.{Wait}
use Rattle.judge_pair.specs.declared.judge.waiting.Wait.TheVariants.{Unsent, SentLater}
use Rattle.judge_pair.specs.Judge.Rest.{Rest}
use Rattle.judge_pair.specs.Counts.{AreCounted, AreLostBetween, AreRepeatedBetween, Counted}
use Rattle.judge_pair.specs.declared.counts.carried.Carried.{Carried}

-- ---- lists

take_none : (xs : List Datagram) → take 0 xs ≡ []
take_none [] = refl
take_none (x ∷ xs) = refl

take_take : (i n : ℕ) (xs : List Datagram) → i ≤ n → take i (take n xs) ≡ take i xs
take_take zero n xs low = take_none (take n xs) ∙ sym (take_none xs)
take_take (suc i) zero xs low = absurd (omega (arith, low))
take_take (suc i) (suc n) [] low = refl
take_take (suc i) (suc n) (x ∷ xs) low = ap (λ (zs : List Datagram). x ∷ zs) (take_take i n xs (omega (arith, low)))

taken : (n : ℕ) (xs : List Datagram) → n ≤ length xs → length (take n xs) ≡ n
taken zero xs low = ap length (take_none xs)
taken (suc n) [] low = absurd (omega (arith, low))
taken (suc n) (x ∷ xs) low = ap suc (taken n xs (omega (arith, low)))

length_take : (n : ℕ) (xs : List Datagram) → length (take n xs) ≤ n
length_take zero xs = let none = ap length (take_none xs) in omega (arith, none)
length_take (suc n) [] = omega arith
length_take (suc n) (x ∷ xs) = let low = length_take n xs in omega (arith, low)

-- where there is one, it is there whatever is put for none
get_or_same : (xs : List Datagram) (n : ℕ) (d e : Datagram) → n < length xs → get_or xs n d ≡ get_or xs n e
get_or_same [] n d e low = absurd (omega (arith, low))
get_or_same (x ∷ xs) zero d e low = refl
get_or_same (x ∷ xs) (suc n) d e low = get_or_same xs n d e (omega (arith, low))

-- ---- one capture

-- what was read of a capture was read of its first n datagrams
read_of_begun : (c : Capture) (read : List Datagram) (n : ℕ) → length read ≤ n → n ≤ length c.datagrams → IsReadOf c read → IsReadOf (begun n c) read
read_of_begun c read n low within is = record {
  within = let all = taken n c.datagrams within in omega (arith, low, all);
  is = ap reverse (take_take (length read) n c.datagrams low) ∙ is.is;
}

-- the datagrams that were merged, and the one behind them
read_parts : (c : Capture) (held : Option Datagram) (part : List Datagram) → IsReadOf c (with_held held part) → IsReadOf c part
read_parts c None part is = is
read_parts c (Some e) part is = let within = is.within in record { within = omega (arith, within); is = by } where
  split : (d : Datagram) → get_or c.datagrams (length part) d ∷ reverse (take (length part) c.datagrams) ≡ e ∷ part
  split d = let within = is.within in sym (ap reverse (take-suc c.datagrams (length part) d (omega (arith, within))) ∙ reverse-append (take (length part) c.datagrams) (get_or c.datagrams (length part) d ∷ [])) ∙ is.is

  by : reverse (take (length part) c.datagrams) ≡ part
  by = let both = split e in cc

next_is : (c : Capture) (e : Datagram) (part : List Datagram) → IsReadOf c (e ∷ part) → (d : Datagram) → get_or c.datagrams (length part) d ≡ e
next_is c e part is d =
    let within = is.within in
    let both : get_or c.datagrams (length part) d ∷ reverse (take (length part) c.datagrams) ≡ e ∷ part =
    sym (ap reverse (take-suc c.datagrams (length part) d (omega (arith, within))) ∙ reverse-append (take (length part) c.datagrams) (get_or c.datagrams (length part) d ∷ [])) ∙ is.is in
    cc

shut : (own other : Capture) (held : Option Datagram) (part other_part : List Datagram) → IsReadOf own (with_held held part) → IsReadOf other other_part
    → Waits own.header part held (transfer_of other.header other_part) → (held ≡ None → length part ≡ length own.datagrams)
    → IsShut own (length part) other (length other_part)
shut own other None part other_part is other_is waits ends d next open_now = let low = next.0 in let all = ends refl in absurd (omega (arith, low, all))
shut own other (Some e) part other_part is other_is waits ends d next open_now =
    let same : e ≡ d = sym (next_is own e part is d) ∙ next.1 in
    let here = (read_parts own (Some e) part is).is in
    let main : is_of_transfer (route_of own.header (reverse (take (length part) own.datagrams)) d) ≡ true =
    subst (λ (x : Datagram). is_of_transfer (route_of own.header (reverse (take (length part) own.datagrams)) x) ≡ true) same
    (subst (λ (ds : List Datagram). is_of_transfer (route_of own.header ds e) ≡ true) (sym here) waits.0) in
    let came : d.dir ≡ In = subst (λ (x : Datagram). x.dir ≡ In) same waits.1 in
    let sent : WasSent d.payload (passed_in (begun (length other_part) other)) = open_now main came in
    absurd (waits.2 (subst (λ (x : Datagram). WasSent x.payload (transfer_of other.header other_part)) (sym same)
    (subst (λ (ds : List Datagram). WasSent d.payload (transfer_of other.header ds)) other_is.is sent)))

-- as many as are lawful
read_is_lawful : (c : Capture) (read : List Datagram) (n : ℕ) → IsReadOf c read → OneEnded c.header read → IsLawfulTo c n → length read ≤ n
read_is_lawful c read n is lawful part = elim (cases_lt n (length read)) [
  | inr fits ↦ fits
  | inl above ↦
      let within = is.within in
      elim part.ends [
        | inl all ↦ omega (arith, all, above, within)
        | inr stops ↦ absurd (stops (kept_before c (n + 1) (length read) (omega (arith, above)) within (subst (OneEnded c.header) (sym is.is) lawful)))
      ]
]

-- ---- both

pub merged_is_verdict : (client server : Capture) (read other_read : List Datagram) (held other_held : Option Datagram) (n k : ℕ) → (but : AreMergedBut held other_held client.header read server.header other_read)
    → IsReadOf client read → IsReadOf server other_read → OneEnded client.header read → OneEnded server.header other_read → IsLawfulTo client n → IsLawfulTo server k
    → GoesNoFurther held read n → GoesNoFurther other_held other_read k → IsPairVerdict client server n k (length but.part) (length but.other_part)
merged_is_verdict client server read other_read held other_held n k but is other_is lawful other_lawful client_part server_part ends other_ends =
    let c : Capture = begun n client in
    let s : Capture = begun k server in
    let low = read_is_lawful client read n is lawful client_part in
    let other_low = read_is_lawful server other_read k other_is other_lawful server_part in
    let of_c = subst (IsReadOf c) but.is (read_of_begun client read n low client_part.within is) in
    let of_s = subst (IsReadOf s) but.other_is (read_of_begun server other_read k other_low server_part.within other_is) in
    let part = read_parts c held but.part of_c in
    let other_part = read_parts s other_held but.other_part of_s in
    record {
      client_part = client_part;
      server_part = server_part;
      matched = stuck_to c s (length but.part) (length but.other_part) part.within other_part.within
          (shut c s held but.part but.other_part of_c other_part but.waits (λ none. all client n read held but.part but.is client_part.within ends none))
          (shut s c other_held but.other_part but.part of_s part but.other_waits (λ none. all server k other_read other_held but.other_part but.other_is server_part.within other_ends none))
          (subst (λ (ds : List Datagram). AreMergedBy ds (passed_in (begun (length but.other_part) s))) (ap (transfer_of client.header) (sym part.is))
          (subst (λ (ds : List Datagram). AreMergedBy (transfer_of client.header but.part) ds) (ap (transfer_of server.header) (sym other_part.is)) but.merged));
    }
  where
    all : (c : Capture) (m : ℕ) (r : List Datagram) (o : Option Datagram) (p : List Datagram) → r ≡ with_held o p → m ≤ length c.datagrams → GoesNoFurther o r m → o ≡ None → length p ≡ length (begun m c).datagrams
    all c m r o p is within end none =
        let same : r ≡ p = is ∙ ap (λ x. with_held x p) none in
        ap length (sym same) ∙ end none ∙ sym (taken m c.datagrams within)

-- ---- what is left

read_before : (c : Capture) (more early : List Datagram) → IsReadOf c (more ++ early) → IsReadOf c early
read_before c [] early is = is
read_before c (e ∷ more) early is = read_before c more early (read_parts c (Some e) (more ++ early) is)

lawful_before : (h : Header) (more early : List Datagram) → OneEnded h (more ++ early) → OneEnded h early
lawful_before h [] early is = is
lawful_before h (e ∷ more) early is = lawful_before h more early is.1

left_ends : (l : Left) (held : Option Datagram) (part early : List Datagram) (h : Header) (read : List Datagram) → IsLeftAfter l held part early h read → GoesNoFurther held early (length read)
left_ends l held part early h read after none =
    let no_more = after.ends none in
    sym (ap length (after.is ∙ ap (λ (m : List Datagram). m ++ early) no_more))

pub rest_is_verdict : (client server : Capture) (r : Rest) (read other_read : List Datagram) → IsRestAfter r client.header read server.header other_read
    → IsReadOf client read → IsReadOf server other_read → IsLawfulTo client (length read) → IsLawfulTo server (length other_read)
    → IsPairVerdict client server r.client.side.judge.fed r.server.side.judge.fed r.client.merged r.server.merged
rest_is_verdict client server r read other_read rest is other_is part other_part =
    let a = rest.client_left in
    let b = rest.server_left in
    subst (λ x. IsPairVerdict client server x r.server.side.judge.fed r.client.merged r.server.merged) (sym a.side.fed)
    (subst (λ x. IsPairVerdict client server (length read) x r.client.merged r.server.merged) (sym b.side.fed)
    (subst (λ x. IsPairVerdict client server (length read) (length other_read) x r.server.merged) (sym a.merged)
    (subst (λ x. IsPairVerdict client server (length read) (length other_read) (length rest.but.part) x) (sym b.merged)
    (merged_is_verdict client server rest.early rest.other_early rest.held rest.other_held (length read) (length other_read) rest.but
    (read_before client a.more rest.early (subst (IsReadOf client) a.is is))
    (read_before server b.more rest.other_early (subst (IsReadOf server) b.is other_is))
    (lawful_before client.header a.more rest.early (subst (OneEnded client.header) a.is a.side.lawful))
    (lawful_before server.header b.more rest.other_early (subst (OneEnded server.header) b.is b.side.lawful))
    part other_part
    (left_ends r.client rest.held rest.but.part rest.early client.header read a)
    (left_ends r.server rest.other_held rest.but.other_part rest.other_early server.header other_read b)))))

pub same_numbers : (client server : Capture) (r : Rest) (n k i j : ℕ) → IsPairVerdict client server r.client.side.judge.fed r.server.side.judge.fed r.client.merged r.server.merged
    → n ≡ r.client.side.judge.fed → k ≡ r.server.side.judge.fed → i ≡ r.client.merged → j ≡ r.server.merged → IsPairVerdict client server n k i j
same_numbers client server r n k i j verdict a b x y =
    subst (λ z. IsPairVerdict client server z k i j) (sym a)
    (subst (λ z. IsPairVerdict client server r.client.side.judge.fed z i j) (sym b)
    (subst (λ z. IsPairVerdict client server r.client.side.judge.fed r.server.side.judge.fed z j) (sym x)
    (subst (λ z. IsPairVerdict client server r.client.side.judge.fed r.server.side.judge.fed r.client.merged z) (sym y) verdict)))

-- ---- why what waits does

module _ (own other : Capture) (part early more read other_read : List Datagram) (is : read ≡ more ++ early) (is_read : IsReadOf own read) (other_is : IsReadOf other other_read) where
  waits_next : (d : Datagram) → early ≡ d ∷ part → IsNextIn (begun (length read) own) (length part) d
  waits_next d parts =
      let first : IsReadOf own (d ∷ part) = subst (IsReadOf own) parts (read_before own more early (subst (IsReadOf own) is is_read)) in
      let all = ap length is ∙ length-append more early in
      let some = ap length parts in
      let low : length (d ∷ part) ≤ length read = omega (arith, all, some) in
      let of = read_of_begun own (d ∷ part) (length read) low is_read.within first in
      let within = of.within in
      (omega (arith, within), next_is (begun (length read) own) d part of d)

  sent_among : (d : Datagram) → IsSentAmong (length other_read) other d → WasSent d.payload (transfer_of other.header other_read)
  sent_among d sent = subst (λ (ds : List Datagram). WasSent d.payload (transfer_of other.header ds)) other_is.is sent

  among_sent : (d : Datagram) → WasSent d.payload (transfer_of other.header other_read) → IsSentAmong (length other_read) other d
  among_sent d sent = subst (λ (ds : List Datagram). WasSent d.payload (transfer_of other.header ds)) (sym other_is.is) sent

  why_waiting : (held : Option Datagram) (why : Option Wait) → early ≡ with_held held part → (held ≡ None → more ≡ []) → IsWaitFor held (transfer_of other.header other_read) why
      → IsWhyWaiting own (length read) (length part) other (length other_read) why
  why_waiting None why parts ends waits = subst (IsWhyWaiting own (length read) (length part) other (length other_read)) (sym waits) (sym (ap length (is ∙ ap (λ (ds : List Datagram). ds ++ early) (ends refl) ∙ parts)))
  why_waiting (Some d) None parts ends waits = absurd waits
  why_waiting (Some d) (Some Unsent) parts ends waits = (d, waits_next d parts, λ sent. waits (sent_among d sent))
  why_waiting (Some d) (Some SentLater) parts ends waits = (d, waits_next d parts, among_sent d waits)

-- why what waits at one end does, by all that the other end has read
abbrev pub IsAnswered : Side → Side → Option Wait → Type 0
IsAnswered own other why = (h : Header) (ds : List Datagram) → IsSideAfter other h ds → IsWaitFor own.held (transfer_of h ds) why

-- of what is left of one capture and of the other
pub why_left : (own other : Capture) (l o : Left) (held other_held : Option Datagram) (part early read other_part other_early other_read : List Datagram) (why : Option Wait) (n i k : ℕ)
    → IsLeftAfter l held part early own.header read → IsLeftAfter o other_held other_part other_early other.header other_read → early ≡ with_held held part → IsReadOf own read → IsReadOf other other_read
    → IsAnswered l.side o.side why
    → n ≡ l.side.judge.fed → i ≡ l.merged → k ≡ o.side.judge.fed → IsWhyWaiting own n i other k why
why_left own other l o held other_held part early read other_part other_early other_read why n i k left other_left parts is other_is waits fed merged other_fed =
    subst (λ x. IsWhyWaiting own x i other k why) (sym (fed ∙ left.side.fed))
    (subst (λ x. IsWhyWaiting own (length read) x other k why) (sym (merged ∙ left.merged))
    (subst (λ x. IsWhyWaiting own (length read) (length part) other x why) (sym (other_fed ∙ other_left.side.fed))
    (why_waiting own other part early left.more read other_read left.is is other_is held why parts left.ends
    (subst (λ o. IsWaitFor o (transfer_of other.header other_read) why) left.waits (waits other.header other_read other_left.side)))))

-- ---- one answer

module _ (own other : Capture) (n i k : ℕ) where
  -- none is left behind the last one
  none_left : (d : Datagram) → i ≡ n → IsNextIn (begun n own) i d → ⊥
  none_left d all next = let low = next.0 in let most = length_take n own.datagrams in omega (arith, all, low, most)

  -- the next datagram is one
  apart : IsUnsent own n i other k → IsSentLater own n i other k → ⊥
  apart (d, next, unsent) (e, also, sent) = unsent (subst (IsSentAmong k other) (sym also.1 ∙ next_one e d next) sent) where
    next_one : (e d : Datagram) → IsNextIn (begun n own) i d → get_or (begun n own).datagrams i e ≡ d
    next_one e d next = get_or_same (begun n own).datagrams i e d next.0 ∙ next.1

  pub one_why : (why also : Option Wait) → IsWhyWaiting own n i other k why → IsWhyWaiting own n i other k also → why ≡ also
  one_why None (Some Unsent) one two = absurd (none_left two.0 one two.1)
  one_why None (Some SentLater) one two = absurd (none_left two.0 one two.1)
  one_why (Some Unsent) None one two = absurd (none_left one.0 two one.1)
  one_why (Some Unsent) (Some SentLater) one two = absurd (apart one two)
  one_why (Some SentLater) None one two = absurd (none_left one.0 two one.1)
  one_why (Some SentLater) (Some Unsent) one two = absurd (apart two one)
  one_why _ _ one two = refl

-- ---- what the network did

passed_by : (own : Capture) (s : Side) (read : List Datagram) → IsSideAfter s own.header read → IsReadOf own read → (n : ℕ) → n ≡ s.judge.fed
    → transfer_of own.header read ≡ passed_in (begun n own)
passed_by own s read after is n fed = ap (transfer_of own.header) (sym (subst (λ x. reverse (take x own.datagrams) ≡ read) (sym (fed ∙ after.fed)) is.is))

pub counts_are : (own : Capture) (s : Side) (read : List Datagram) → IsSideAfter s own.header read → IsReadOf own read → (n : ℕ) → n ≡ s.judge.fed
    → (counts : Option Counted) → counts ≡ s.counts → AreCountsOf own n counts
counts_are own s read after of n fed counts is =
    subst (AreCounted counts) (passed_by own s read after of n fed) (subst (λ (o : Option Counted). AreCounted o (transfer_of own.header read)) (sym is) after.counted)

module _ (client server : Capture) (a b : Side) (read other_read : List Datagram) (mine : IsSideAfter a client.header read) (theirs : IsSideAfter b server.header other_read) (is : IsReadOf client read) (other_is : IsReadOf server other_read) where
  passed_is : (n : ℕ) → n ≡ a.judge.fed → transfer_of client.header read ≡ passed_in (begun n client)
  passed_is = passed_by client a read mine is

  other_passed_is : (k : ℕ) → k ≡ b.judge.fed → transfer_of server.header other_read ≡ passed_in (begun k server)
  other_passed_is = passed_by server b other_read theirs other_is

  pub carried_is : (n k : ℕ) → n ≡ a.judge.fed → k ≡ b.judge.fed → (counts others : Option Counted) → counts ≡ a.counts → others ≡ b.counts → (o : Option Carried)
      → ((h k : Header) (ds es : List Datagram) → IsSideAfter a h ds → IsSideAfter b k es → IfNone o ((a.counts ≡ None) ⊎ (b.counts ≡ None)))
      → IfSome o (λ (c : Carried). (h k : Header) (ds es : List Datagram) → IsSideAfter a h ds → IsSideAfter b k es → AreLostBetween (transfer_of h ds) (transfer_of k es) c.lost)
      → IfSome o (λ (c : Carried). (h k : Header) (ds es : List Datagram) → IsSideAfter a h ds → IsSideAfter b k es → AreRepeatedBetween (transfer_of h ds) (transfer_of k es) c.repeated)
      → AreCarried client n counts server k others o
  carried_is n k fed other_fed counts others same other_same None none lost repeated = elim (none client.header server.header read other_read mine theirs) [
    | inl uncounted ↦ inl (same ∙ uncounted)
    | inr uncounted ↦ inr (other_same ∙ uncounted)
  ]
  carried_is n k fed other_fed counts others same other_same (Some c) none lost repeated =
      let x = passed_is n fed in
      let y = other_passed_is k other_fed in (
        subst (λ (ds : List Datagram). AreLostBetween ds (passed_in (begun k server)) c.lost) x
            (subst (λ (es : List Datagram). AreLostBetween (transfer_of client.header read) es c.lost) y (lost client.header server.header read other_read mine theirs)),
        subst (λ (ds : List Datagram). AreRepeatedBetween ds (passed_in (begun k server)) c.repeated) x
            (subst (λ (es : List Datagram). AreRepeatedBetween (transfer_of client.header read) es c.repeated) y (repeated client.header server.header read other_read mine theirs)),
      )
