-- Where neither capture can go on, no merge has more of either.
use Rattle.std.proofs.Common.{◌≡◌, ℕ, zero, suc, ◌+◌, ◌<◌, ◌≤◌, Bool, true, false, List, [], ◌∷◌, length, take, get_or, inl, inr, refl, sym, subst, ap, ◌∙◌, arith, ◌↔◌, reverse}
use Rattle.std.proofs.lemmas.Bool.{cases_lt, false≢true}
use Rattle.std.proofs.Math.Seq.{take-suc, take-length}
use Rattle.std.proofs.lemmas.List.{reverse-append}
use Rattle.tftp_packet.specs.{Client, Server}
use Rattle.tftp_packet.specs.Hosts.{Datagram}
use Rattle.tftp_packet.specs.{Out}
use Rattle.law_model.specs.Rules.{route_of, is_of_transfer, transfer_of}
use Rattle.law_end.specs.{OneEnded}
use Rattle.law_end.proofs.FirstBroken.FirstAnswered.{main_none, main_some}
use Rattle.law_pair.specs.{Capture, AreConsistent, IsBrought, AreMergedBy, passed_in, begun, IsNextIn, IsOpenIn, AreMatchedTo, IsShut}
use Rattle.law_pair.proofs.Merged.{at_client, turned, IsEarlier, earlier_all, earlier_length, earlier_one, IsShutAt, no_longer}
use Rattle.law_pair.proofs.ByMessages.{by_messages}

-- ---- one datagram more

module _ (c : Capture) (n : ℕ) (d : Datagram) (next : IsNextIn c n d) where
  reversed : reverse (take (suc n) c.datagrams) ≡ d ∷ reverse (take n c.datagrams)
  reversed = ap reverse (take-suc c.datagrams n d next.0) ∙ reverse-append (take n c.datagrams) (get_or c.datagrams n d ∷ []) ∙ ap (λ (x : Datagram). x ∷ reverse (take n c.datagrams)) next.1

  adds_main : is_of_transfer (route_of c.header (reverse (take n c.datagrams)) d) ≡ true → passed_in (begun (suc n) c) ≡ d ∷ passed_in (begun n c)
  adds_main is = ap (transfer_of c.header) reversed ∙ main_some (is_of_transfer (route_of c.header (reverse (take n c.datagrams)) d)) d (passed_in (begun n c)) is

  adds_none : is_of_transfer (route_of c.header (reverse (take n c.datagrams)) d) ≡ false → passed_in (begun (suc n) c) ≡ passed_in (begun n c)
  adds_none is = ap (transfer_of c.header) reversed ∙ main_none (is_of_transfer (route_of c.header (reverse (take n c.datagrams)) d)) d (passed_in (begun n c)) is

begun_suc : (c : Capture) (n : ℕ) → passed_in (begun (n + 1) c) ≡ passed_in (begun (suc n) c)
begun_suc c n = let e : n + 1 ≡ suc n = omega arith in ap (λ k. passed_in (begun k c)) e

the_next : (c : Capture) (n : ℕ) (e : Datagram) → n < length c.datagrams → IsNextIn c n (get_or c.datagrams n e)
the_next c n e low = (low, get_or_other c.datagrams n low) where
  get_or_other : (ds : List Datagram) (k : ℕ) → k < length ds → get_or ds k (get_or c.datagrams n e) ≡ get_or ds k e
  get_or_other [] k less = absurd (omega (arith, less))
  get_or_other (x ∷ ds) zero less = refl
  get_or_other (x ∷ ds) (suc k) less = get_or_other ds k (omega (arith, less))

pub any_datagram : Datagram
any_datagram = record { dir = Out; local = 0; host = []; remote = 0; payload = [] }

abbrev datagram_after : ℕ → Capture → Datagram
datagram_after n c = get_or c.datagrams n any_datagram

abbrev is_main_after : ℕ → Capture → Bool
is_main_after n c = is_of_transfer (route_of c.header (reverse (take n c.datagrams)) (datagram_after n c))

-- what had passed is earlier than all that passed later
passed_more : (c : Capture) (n : ℕ) (a : List Datagram) → n < length c.datagrams → (b : Bool) → is_main_after n c ≡ b → IsEarlier a (passed_in (begun n c)) → IsEarlier a (passed_in (begun (suc n) c))
passed_more c n a low true is before = subst (IsEarlier a) (sym (adds_main c n (datagram_after n c) (the_next c n any_datagram low) is)) (inr before)
passed_more c n a low false is before = subst (IsEarlier a) (sym (adds_none c n (datagram_after n c) (the_next c n any_datagram low) is)) before

passed_later : (c : Capture) (n k : ℕ) → n ≤ k → k ≤ length c.datagrams → IsEarlier (passed_in (begun n c)) (passed_in (begun k c))
passed_later c n zero low within = let same : n ≡ zero = omega arith in subst (λ z. IsEarlier (passed_in (begun n c)) (passed_in (begun z c))) same (earlier_all (passed_in (begun n c)))
passed_later c n (suc k) low within = elim (cases_lt k n) [
  | inl above ↦ let same : n ≡ suc k = omega arith in subst (λ z. IsEarlier (passed_in (begun n c)) (passed_in (begun z c))) same (earlier_all (passed_in (begun n c)))
  | inr below ↦ passed_more c k (passed_in (begun n c)) (omega arith) (is_main_after k c) refl (passed_later c n k below (omega arith))
]

-- ---- it goes on

client_on : (client server : Capture) (i j : ℕ) (d : Datagram) (b : Bool) → is_of_transfer (route_of client.header (reverse (take i client.datagrams)) d) ≡ b → IsNextIn client i d → IsOpenIn client i d (passed_in (begun j server))
    → AreMergedBy (passed_in (begun i client)) (passed_in (begun j server)) → AreMergedBy (passed_in (begun (suc i) client)) (passed_in (begun j server))
client_on client server i j d true is next open_now merged =
    subst (λ (h : List Datagram). AreMergedBy h (passed_in (begun j server))) (sym (adds_main client i d next is)) (at_client IsBrought d (passed_in (begun i client)) (passed_in (begun j server)) (open_now is) merged)
client_on client server i j d false is next open_now merged = subst (λ (h : List Datagram). AreMergedBy h (passed_in (begun j server))) (sym (adds_none client i d next is)) merged

pub client_goes_on_to : (client server : Capture) (i j : ℕ) (d : Datagram) → AreMergedBy (passed_in (begun i client)) (passed_in (begun j server)) → IsNextIn client i d → IsOpenIn client i d (passed_in (begun j server))
    → AreMergedBy (passed_in (begun (i + 1) client)) (passed_in (begun j server))
client_goes_on_to client server i j d merged next open_now =
    subst (λ (h : List Datagram). AreMergedBy h (passed_in (begun j server))) (sym (begun_suc client i)) (client_on client server i j d (is_of_transfer (route_of client.header (reverse (take i client.datagrams)) d)) refl next open_now merged)

pub server_goes_on_to : (client server : Capture) (i j : ℕ) (d : Datagram) → AreMergedBy (passed_in (begun i client)) (passed_in (begun j server)) → IsNextIn server j d → IsOpenIn server j d (passed_in (begun i client))
    → AreMergedBy (passed_in (begun i client)) (passed_in (begun (j + 1) server))
server_goes_on_to client server i j d merged next open_now =
    turned IsBrought (passed_in (begun (j + 1) server)) (passed_in (begun i client))
    (client_goes_on_to server client j i d (turned IsBrought (passed_in (begun i client)) (passed_in (begun j server)) merged) next open_now)

-- ---- it is stuck

module _ (own other : Capture) (i j : ℕ) (shut : IsShut own i other j) where
  -- the next datagram of what is shut is no stray, and answers none
  shut_main : (low : i < length own.datagrams) (b : Bool) → is_main_after i own ≡ b → passed_in (begun (suc i) own) ≡ datagram_after i own ∷ passed_in (begun i own)
  shut_main low true is = adds_main own i (datagram_after i own) (the_next own i any_datagram low) is
  shut_main low false is = absurd (shut (datagram_after i own) (the_next own i any_datagram low) (λ main. absurd (false≢true (sym is ∙ main))))

  shut_list : i ≤ length own.datagrams → IsShutAt IsBrought (passed_in (begun i own)) (passed_in (begun (length own.datagrams) own)) (passed_in (begun j other))
  shut_list within d more brought = elim (cases_lt i (length own.datagrams)) [
    | inr above ↦
        let same : length own.datagrams ≡ i = omega (arith, above, within) in
        let long = earlier_length (d ∷ passed_in (begun i own)) (passed_in (begun i own)) (subst (λ k. IsEarlier (d ∷ passed_in (begun i own)) (passed_in (begun k own))) same more) in
        omega (arith, long)
    | inl below ↦
        let adds = shut_main below (is_main_after i own) refl in
        let later = subst (λ (ds : List Datagram). IsEarlier ds (passed_in (begun (length own.datagrams) own))) adds (passed_later own (suc i) (length own.datagrams) (omega (arith, below)) (omega arith)) in
        let one = earlier_one (d ∷ passed_in (begun i own)) (datagram_after i own ∷ passed_in (begun i own)) (passed_in (begun (length own.datagrams) own)) more later (omega arith) in
        let same : d ≡ datagram_after i own = cc in
        shut (datagram_after i own) (the_next own i any_datagram below) (λ main. subst (IsBrought (passed_in (begun j other))) same brought)
  ]

  shut_number : (x : ℕ) → x ≤ length own.datagrams → length (passed_in (begun x own)) ≤ length (passed_in (begun i own)) → x ≤ i
  shut_number x within low = elim (cases_lt i x) [
    | inr fits ↦ fits
    | inl above ↦
        let adds = ap length (shut_main (omega (arith, above, within)) (is_main_after i own) refl) in
        let long = earlier_length (passed_in (begun (suc i) own)) (passed_in (begun x own)) (passed_later own (suc i) x (omega (arith, above)) within) in
        absurd (omega (arith, low, adds, long))
  ]

brought_later : (d e : Datagram) (ds : List Datagram) → IsBrought ds d → IsBrought (e ∷ ds) d
brought_later d e ds brought came = let (x, s, p) = brought came in (x, s, inr p)

pub stuck_to : (client server : Capture) (i j : ℕ) → i ≤ length client.datagrams → j ≤ length server.datagrams → IsShut client i server j → IsShut server j client i
    → AreMergedBy (passed_in (begun i client)) (passed_in (begun j server)) → AreMatchedTo client server i j
stuck_to client server i j within_client within_server client_shut server_shut merged = record {
  within_client = within_client;
  within_server = within_server;
  merged = merged;
  greatest = λ x y in_client in_server more.
      let low = no_longer IsBrought brought_later (passed_in (begun i client)) (passed_in (begun j server)) (passed_in (begun (length client.datagrams) client)) (passed_in (begun (length server.datagrams) server))
      (passed_later client i (length client.datagrams) within_client (omega arith)) (passed_later server j (length server.datagrams) within_server (omega arith))
      (shut_list client server i j client_shut within_client) (shut_list server client j i server_shut within_server)
      (passed_in (begun x client)) (passed_in (begun y server)) more
      (passed_later client x (length client.datagrams) in_client (omega arith)) (passed_later server y (length server.datagrams) in_server (omega arith)) in
      (shut_number client server i j client_shut x in_client low.0, shut_number server client j i server_shut y in_server low.1);
}

pub matched_to_one : (client server : Capture) (i j x y : ℕ) → AreMatchedTo client server i j → AreMatchedTo client server x y → (i ≡ x) × (j ≡ y)
matched_to_one client server i j x y one other =
    let a = other.greatest i j one.within_client one.within_server one.merged in
    let b = one.greatest x y other.within_client other.within_server other.merged in
    (omega (arith, a.0, b.0), omega (arith, a.1, b.1))

-- ---- the merge decides

all_begun : (c : Capture) → passed_in (begun (length c.datagrams) c) ≡ passed_in c
all_begun c = ap (λ ds. transfer_of c.header (reverse ds)) (take-length c.datagrams)

pub decides_to : (client server : Capture) (i j : ℕ) → client.header.named ≡ Client → server.header.named ≡ Server → client.header.rollover ≡ server.header.rollover → OneEnded client.header (reverse client.datagrams) → OneEnded server.header (reverse server.datagrams)
    → AreMatchedTo client server i j → AreConsistent client server ↔ ((i ≡ length client.datagrams) × (j ≡ length server.datagrams))
decides_to client server i j at_client at_server same lawful_client lawful_server matched = (
  λ consistent.
      let merged = ((by_messages client server).0 consistent).merged in
      let whole = subst (λ (h : List Datagram). AreMergedBy h (passed_in (begun (length server.datagrams) server))) (sym (all_begun client))
      (subst (λ (h : List Datagram). AreMergedBy (passed_in client) h) (sym (all_begun server)) merged) in
      let a = matched.greatest (length client.datagrams) (length server.datagrams) (omega arith) (omega arith) whole in
      let one = matched.within_client in
      let other = matched.within_server in
      (omega (arith, a.0), omega (arith, a.1)),
  λ all. (by_messages client server).1 (record {
    at_client = at_client;
    at_server = at_server;
    same = same;
    client_lawful = lawful_client;
    server_lawful = lawful_server;
    merged = subst (λ (h : List Datagram). AreMergedBy h (passed_in server)) (all_begun client)
        (subst (λ (h : List Datagram). AreMergedBy (passed_in (begun (length client.datagrams) client)) h) (all_begun server)
        (subst (λ k. AreMergedBy (passed_in (begun k client)) (passed_in (begun (length server.datagrams) server))) all.0
        (subst (λ k. AreMergedBy (passed_in (begun i client)) (passed_in (begun k server))) all.1 matched.merged)));
  }),
)
