-- Of which transfer a datagram is seen.
use Rattle.std.proofs.Common.{◌≡◌, ◌⊎◌, ℕ, Bool, true, List, inl, inr, refl, sym, ◌∙◌, ◌==◌, ◌&&◌, ◌||◌}
use Rattle.std.proofs.lemmas.Bool.{and_parts, eqb-true}
use Rattle.audit_flows.specs.Lines.{Recorded, other_of, Placed, is_of}
use Rattle.audit_flows.specs.declared.lines.place.Place.{Place}
use Rattle.audit_flows.specs.declared.lines.place.Place.TheVariants.{Opens, Repeats, Talks, Apart, Beside, Nowhere}
use Rattle.audit_flows.specs.Transfers.{goes_to_asked, is_at_server, is_server, is_end, server_of, is_beside}

one_number : (n m k : ℕ) → (k == n) ≡ true → (k == m) ≡ true → n ≡ m
one_number n m k is also = sym (eqb-true k n is) ∙ eqb-true k m also

first_part : (a b : Bool) → (a && b) ≡ true → a ≡ true
first_part a b is = (and_parts a b is).0

at_client : (n m : ℕ) (d : Recorded) (now : ℕ) (place : Place) → is_of n (record { datagram = d; moment = now; place = place }) ≡ true
    → is_of m (record { datagram = d; moment = now; place = place }) ≡ true → n ≡ m
at_client n m d now (Opens x) is also = one_number n m x.number is also
at_client n m d now (Repeats x) is also = one_number n m x.number is also
at_client n m d now (Talks x) is also = one_number n m x.number is also
at_client n m d now _ is also = absurd (cc)

pub one_at_client : (n m : ℕ) (p : Placed) → is_of n p ≡ true → is_of m p ≡ true → n ≡ m
one_at_client n m p is also = at_client n m p.datagram p.moment p.place is also

at_server : (n m : ℕ) (one other : List Placed) (d : Recorded) (now : ℕ) (place : Place) → is_at_server n one (record { datagram = d; moment = now; place = place }) ≡ true
    → is_at_server m other (record { datagram = d; moment = now; place = place }) ≡ true → n ≡ m
at_server n m one other d now (Opens x) is also = one_number n m x.number is also
at_server n m one other d now (Repeats x) is also = one_number n m x.number is also
at_server n m one other d now (Talks x) is also =
    one_number n m x.number (first_part (x.number == n) (is_server n one (other_of x.client d) || goes_to_asked x d) is)
    (first_part (x.number == m) (is_server m other (other_of x.client d) || goes_to_asked x d) also)
at_server n m one other d now (Apart c) is also = absurd (cc)
at_server n m one other d now (Beside x) is also =
    one_number n m x.number (first_part (x.number == n) (is_end d.source (server_of n one) || is_end d.target (server_of n one)) is)
    (first_part (x.number == m) (is_end d.source (server_of m other) || is_end d.target (server_of m other)) also)
at_server n m one other d now Nowhere is also = absurd (cc)

pub one_at_server : (n m : ℕ) (one other : List Placed) (p : Placed) → is_at_server n one p ≡ true → is_at_server m other p ≡ true → n ≡ m
one_at_server n m one other p is also = at_server n m one other p.datagram p.moment p.place is also

of_client : (n : ℕ) (placed : List Placed) (d : Recorded) (now : ℕ) (place : Place) → is_at_server n placed (record { datagram = d; moment = now; place = place }) ≡ true
    → (is_of n (record { datagram = d; moment = now; place = place }) ≡ true) ⊎ (is_beside (record { datagram = d; moment = now; place = place }) ≡ true)
of_client n placed d now (Opens x) is = inl is
of_client n placed d now (Repeats x) is = inl is
of_client n placed d now (Talks x) is = inl (first_part (x.number == n) (is_server n placed (other_of x.client d) || goes_to_asked x d) is)
of_client n placed d now (Beside x) is = inr refl
of_client n placed d now _ is = absurd (cc)

pub client_or_beside : (n : ℕ) (placed : List Placed) (p : Placed) → is_at_server n placed p ≡ true → (is_of n p ≡ true) ⊎ (is_beside p ≡ true)
client_or_beside n placed p is = of_client n placed p.datagram p.moment p.place is
