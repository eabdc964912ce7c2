-- What is said of two captures is one, and it says whether they are consistent.
use Rattle.std.proofs.Common.{◌≡◌, ℕ, zero, suc, ◌+◌, ◌<◌, ◌≤◌, [], ◌∷◌, length, take, get_or, inl, inr, refl, sym, subst, ap, ◌∙◌, arith, ◌↔◌, reverse}
use Rattle.std.proofs.lemmas.Bool.{cases_lt}
use Rattle.std.proofs.Math.Seq.{take-suc, take-length}
use Rattle.std.proofs.lemmas.List.{reverse-append}
use Rattle.tftp_packet.specs.{Client, Server}
use Rattle.law_end.specs.{OneEnded}
use Rattle.law_pair.specs.{Capture, AreConsistent, begun, AreMatchedTo, Keeps, IsLawfulTo, IsPairVerdict, IsWholePair}
use Rattle.law_pair.proofs.ByMessages.{by_messages}
use Rattle.law_pair.proofs.MatchedCaptures.{matched_to_one, decides_to, any_datagram}

one_more : (c : Capture) (n : ℕ) → n < length c.datagrams → reverse (take (suc n) c.datagrams) ≡ get_or c.datagrams n any_datagram ∷ reverse (take n c.datagrams)
one_more c n low = ap reverse (take-suc c.datagrams n any_datagram low) ∙ reverse-append (take n c.datagrams) (get_or c.datagrams n any_datagram ∷ [])

-- what begins a lawful list is lawful
pub kept_before : (c : Capture) (y n : ℕ) → y ≤ n → n ≤ length c.datagrams → Keeps c n → Keeps c y
kept_before c y zero low within keeps = let same : zero ≡ y = omega arith in subst (Keeps c) same keeps
kept_before c y (suc n) low within keeps = elim (cases_lt n y) [
  | inl above ↦ let same : suc n ≡ y = omega arith in subst (Keeps c) same keeps
  | inr below ↦ kept_before c y n below (omega arith) (subst (OneEnded c.header) (one_more c n (omega arith)) keeps).1
]

not_above : (c : Capture) (n x : ℕ) → IsLawfulTo c n → IsLawfulTo c x → x ≤ n
not_above c n x one other = elim (cases_lt n x) [
  | inr fits ↦ fits
  | inl above ↦
      let within = other.within in
      elim one.ends [
        | inl all ↦ omega (arith, all, above, within)
        | inr stops ↦ absurd (stops (kept_before c (n + 1) x (omega (arith, above)) other.within other.keeps))
      ]
]

lawful_one : (c : Capture) (n x : ℕ) → IsLawfulTo c n → IsLawfulTo c x → n ≡ x
lawful_one c n x one other =
    let a = not_above c n x one other in
    let b = not_above c x n other one in
    omega (arith, a, b)

pub pair_one : (client server : Capture) (n k i j x y v w : ℕ) → IsPairVerdict client server n k i j → IsPairVerdict client server x y v w → (n ≡ x) × (k ≡ y) × (i ≡ v) × (j ≡ w)
pair_one client server n k i j x y v w one other =
    let a = lawful_one client n x one.client_part other.client_part in
    let b = lawful_one server k y one.server_part other.server_part in
    let moved = subst (λ z. AreMatchedTo (begun z client) (begun y server) v w) (sym a) other.matched in
    let c = matched_to_one (begun n client) (begun k server) i j v w one.matched (subst (λ z. AreMatchedTo (begun n client) (begun z server) v w) (sym b) moved) in
    (a, b, c.0, c.1)

-- ---- it decides

all_of : (c : Capture) → begun (length c.datagrams) c ≡ c
all_of c = ap (λ ds. record { header = c.header; datagrams = ds }) (take-length c.datagrams)

all_kept : (c : Capture) → OneEnded c.header (reverse c.datagrams) → Keeps c (length c.datagrams)
all_kept c lawful = subst (λ ds. OneEnded c.header (reverse ds)) (sym (take-length c.datagrams)) lawful

pub kept_all : (c : Capture) (n : ℕ) → n ≡ length c.datagrams → Keeps c n → OneEnded c.header (reverse c.datagrams)
kept_all c n is keeps = subst (λ ds. OneEnded c.header (reverse ds)) (take-length c.datagrams) (subst (Keeps c) is keeps)

pub lawful_whole : (c : Capture) (n : ℕ) → IsLawfulTo c n → OneEnded c.header (reverse c.datagrams) → n ≡ length c.datagrams
lawful_whole c n part lawful = lawful_one c n (length c.datagrams) part (record { within = omega arith; keeps = all_kept c lawful; ends = inl refl })

matched_whole : (client server : Capture) (n k i j : ℕ) → n ≡ length client.datagrams → k ≡ length server.datagrams → AreMatchedTo (begun n client) (begun k server) i j → AreMatchedTo client server i j
matched_whole client server n k i j a b matched =
    subst (λ (c : Capture). AreMatchedTo c server i j) (ap (λ z. begun z client) a ∙ all_of client)
    (subst (λ (c : Capture). AreMatchedTo (begun n client) c i j) (ap (λ z. begun z server) b ∙ all_of server) matched)

pub pair_decides : (client server : Capture) (n k i j : ℕ) → client.header.named ≡ Client → server.header.named ≡ Server → client.header.rollover ≡ server.header.rollover → IsPairVerdict client server n k i j → AreConsistent client server ↔ IsWholePair client server n k i j
pair_decides client server n k i j at_client at_server same v = (
  λ consistent.
      let by = (by_messages client server).0 consistent in
      let a = lawful_whole client n v.client_part by.client_lawful in
      let b = lawful_whole server k v.server_part by.server_lawful in
      let matched = matched_whole client server n k i j a b v.matched in
      let ends = (decides_to client server i j at_client at_server same by.client_lawful by.server_lawful matched).0 consistent in
      record { client_lawful = a; server_lawful = b; client_matched = ends.0 ∙ sym a; server_matched = ends.1 ∙ sym b },
  λ whole.
      let matched = matched_whole client server n k i j whole.client_lawful whole.server_lawful v.matched in
      (decides_to client server i j at_client at_server same
      (kept_all client n whole.client_lawful v.client_part.keeps) (kept_all server k whole.server_lawful v.server_part.keeps) matched).1
      (whole.client_matched ∙ whole.client_lawful, whole.server_matched ∙ whole.server_lawful),
)
