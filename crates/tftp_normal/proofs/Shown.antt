-- The normal capture shows its meaning at the client.
use Rattle.std.proofs.Common.{◌≡◌, ℕ, zero, suc, List, [], ◌∷◌, ◌++◌, map as each, reverse, append_assoc, append-nil, inl, inr, refl, sym, subst, ap, ◌∙◌, arith, Option, Some, None}
use Rattle.std.proofs.lemmas.List.{reverse-append}
use Rattle.std.specs.FinMap as finite
use Rattle.std.specs.FinMap.{len-empty, empty_of_len}
use Rattle.std.specs.Ordering.{nat_cmp}
use Rattle.std.specs.Cmp.Lexicographic.{slice_cmp}
use Rattle.tftp_packet.specs.{OptionValue, Rollover, Side, Get, Put, Client, Server}
use Rattle.tftp_packet.specs.Rounds.{IsNear, first_of}
use Rattle.tftp_packet.proofs.RoundsLemmas.Positions.{around_is_near}
use Rattle.law_model.specs.Model.{Meaning, NothingAgreed, SomethingAgreed, windowsize_of, MachinePacket, Req, Oack, Data, Ack, Sent, Took, MaySendReq, MayAckZeroOn, LetsAckZeroOn, IsComplete, IsView}
use Rattle.law_model.specs.Model.Roles.{sender_of, receiver_of}
use Rattle.law_model.proofs.ModelLemmas.HistoryTests.{none_sent}
use Rattle.law_model.proofs.ModelLemmas.Members.{contains_first, contains_cases, contains_none}
use Rattle.law_model.proofs.ModelLemmas.MadeRuns.{one_sided_view}
use Rattle.law_end.specs.{Division, view_in, datagrams_of, wire_of, blocks_of, CanBeWritten}
use Rattle.tftp_normal.specs.{windows_of, opening_on, opening, windows_after, normal_packets, normal_datagram_by, normal_datagrams_by, normal_header, IsShownBy, IsShownOver}
use Rattle.tftp_normal.proofs.Shortest.{windows_hold}
use Rattle.tftp_normal.proofs.Going.{ids, place, after, after_both, Going, windows, ack_spells, answer_first}
use Rattle.tftp_normal.proofs.ByNumber.{request_payload, oack_payload}

module _ (rollover : Option Rollover) (m : Meaning) (can : CanBeWritten rollover m) where
  asks : MaySendReq Client []
  asks = record { client = refl; no_error = none_sent [] refl; no_data = λ k at. contains_none (Sent (Data k)) at; no_ack = λ j at. contains_none (Sent (Ack j)) at }

  -- block 0 is near at the start
  start_is_near : (r : Rollover) → IsNear (first_of r) 0 0
  start_is_near r = around_is_near r 0 0 (omega arith) (omega arith)

  nothing : finite.len m.agreed ≡ 0 → NothingAgreed m
  nothing none = empty_of_len m.agreed none

  something : (more : ℕ) → finite.len m.agreed ≡ suc more → SomethingAgreed m
  something more some none = let e : finite.len m.agreed ≡ 0 = ap finite.len none ∙ len-empty (slice_cmp nat_cmp) OptionValue in absurd (omega (arith, some, e))

  opened : (side : Side) → m.side ≡ side → (agreed : ℕ) → finite.len m.agreed ≡ agreed → Going rollover m side 0 0 (after rollover m side [] (opening_on side agreed))
  opened Get is zero none = record {
    own = (asks, tt);
    labels = (record { dir = refl; client = refl; server = (refl, λ _. refl); spells = (request_payload rollover m can.request).0 }, tt);
    started = inl (nothing none, contains_first (Sent Req) []);
    no_error = refl;
    going = refl;
    acked = inl refl;
    passed = λ i from to. absurd (omega (arith, from, to));
    below = λ i at. elim (contains_cases (Sent Req) [] (Took (Data i)) at) [ inl same ↦ absurd (cc) | inr before ↦ absurd (contains_none (Took (Data i)) before) ];
    answered = inl (refl, refl);
    highest = refl;
    near = λ _. (tt, tt);
  }
  opened Get is (suc more) some = record {
    own = (
      record {
        receiver = sym (ap receiver_of is);
        no_error = none_sent (Took Oack ∷ Sent Req ∷ []) refl;
        zero = λ _. subst (λ s. MayAckZeroOn s m (Took Oack ∷ Sent Req ∷ [])) (sym is) (something more some, contains_first (Took Oack) (Sent Req ∷ []));
        taken = λ k from to. absurd (omega (arith, from, to));
      },
      (record { client = refl; agreed = something more some; asked = contains_first (Sent Req) [] }, (asks, tt)),
    );
    labels = (
      record { dir = refl; client = refl; server = (refl, inr (answer_first (place rollover m Get Oack) (place rollover m Get Req ∷ []) refl)); spells = ack_spells rollover m can 0 (omega arith) },
      (
        record { dir = refl; client = refl; server = (refl, inl refl); spells = (oack_payload rollover m (can.oack (something more some))).0 },
        (record { dir = refl; client = refl; server = (refl, λ _. refl); spells = (request_payload rollover m can.request).0 }, tt),
      ),
    );
    started = inr (something more some, contains_first (Sent (Ack 0)) (Took Oack ∷ Sent Req ∷ []));
    no_error = refl;
    going = refl;
    acked = inl refl;
    passed = λ i from to. absurd (omega (arith, from, to));
    below = λ i at. elim (contains_cases (Sent (Ack 0)) (Took Oack ∷ Sent Req ∷ []) (Took (Data i)) at) [
      | inl same ↦ absurd (cc)
      | inr b ↦ elim (contains_cases (Took Oack) (Sent Req ∷ []) (Took (Data i)) b) [
        | inl same ↦ absurd (cc)
        | inr b2 ↦ elim (contains_cases (Sent Req) [] (Took (Data i)) b2) [ inl same ↦ absurd (cc) | inr before ↦ absurd (contains_none (Took (Data i)) before) ]
      ]
    ];
    answered = inl (refl, refl);
    highest = refl;
    near = λ r. (start_is_near r, (tt, (tt, tt)));
  }
  opened Put is zero none = record {
    own = (
      record {
        sender = sym (ap sender_of is);
        zero = λ _. subst (λ s. LetsAckZeroOn s m (Sent Req ∷ [])) (sym is) (inl (nothing none, contains_first (Sent Req) []));
        sent = λ k from to. absurd (omega (arith, from, to));
      },
      (asks, tt),
    );
    labels = (
      record { dir = refl; client = refl; server = (refl, inl refl); spells = ack_spells rollover m can 0 (omega arith) },
      (record { dir = refl; client = refl; server = (refl, λ _. refl); spells = (request_payload rollover m can.request).0 }, tt),
    );
    started = inl (nothing none, contains_first (Took (Ack 0)) (Sent Req ∷ []));
    no_error = refl;
    going = refl;
    acked = inl refl;
    passed = λ i from to. absurd (omega (arith, from, to));
    below = λ i at. elim (contains_cases (Took (Ack 0)) (Sent Req ∷ []) (Sent (Data i)) at) [
      | inl same ↦ absurd (cc)
      | inr b ↦ elim (contains_cases (Sent Req) [] (Sent (Data i)) b) [ inl same ↦ absurd (cc) | inr before ↦ absurd (contains_none (Sent (Data i)) before) ]
    ];
    answered = inr (answer_first (place rollover m Put (Ack 0)) (place rollover m Put Req ∷ []) refl);
    highest = refl;
    near = λ r. (start_is_near r, (tt, tt));
  }
  opened Put is (suc more) some = record {
    own = (record { client = refl; agreed = something more some; asked = contains_first (Sent Req) [] }, (asks, tt));
    labels = (
      record { dir = refl; client = refl; server = (refl, inl refl); spells = (oack_payload rollover m (can.oack (something more some))).0 },
      (record { dir = refl; client = refl; server = (refl, λ _. refl); spells = (request_payload rollover m can.request).0 }, tt),
    );
    started = inr (something more some, contains_first (Took Oack) (Sent Req ∷ []));
    no_error = refl;
    going = refl;
    acked = inl refl;
    passed = λ i from to. absurd (omega (arith, from, to));
    below = λ i at. elim (contains_cases (Took Oack) (Sent Req ∷ []) (Sent (Data i)) at) [
      | inl same ↦ absurd (cc)
      | inr b ↦ elim (contains_cases (Sent Req) [] (Sent (Data i)) b) [ inl same ↦ absurd (cc) | inr before ↦ absurd (contains_none (Sent (Data i)) before) ]
    ];
    answered = inr (answer_first (place rollover m Put Oack) (place rollover m Put Req ∷ []) refl);
    highest = refl;
    near = λ _. (tt, (tt, tt));
  }

  abbrev division : Division
  division = after rollover m m.side [] (normal_packets m)

  gone : Going rollover m m.side (blocks_of m) (blocks_of m) division
  gone =
      let first = opened m.side refl (finite.len m.agreed) refl in
      let held = windows_hold (blocks_of m) (windowsize_of m) can.window_size in
      let all = windows rollover m can m.side refl (windows_of m) 0 (after rollover m m.side [] (opening m)) first (omega arith) (omega (arith, held.0)) (omega (arith, held.1)) in
      subst (Going rollover m m.side (blocks_of m) (blocks_of m)) (sym (after_both rollover m m.side [] (opening m) (windows_after (windowsize_of m) (blocks_of m) 0 (windows_of m)))) all

  complete : (side : Side) → m.side ≡ side → Going rollover m side (blocks_of m) (blocks_of m) division → IsComplete m (wire_of m) Client (view_in division)
  complete Get is g = record {
    took = λ receives k from to. g.passed k from to;
    acknowledged = λ receives. elim g.acked [ inl none ↦ absurd (omega (arith, none)) | inr some ↦ some ];
    was_told = λ sends. (let other : Client ≡ Server = sends ∙ ap sender_of is in absurd (cc));
  }
  complete Put is g = record {
    took = λ receives. (let other : Client ≡ Server = receives ∙ ap receiver_of is in absurd (cc));
    acknowledged = λ receives. (let other : Client ≡ Server = receives ∙ ap receiver_of is in absurd (cc));
    was_told = λ sends. elim g.acked [ inl none ↦ absurd (omega (arith, none)) | inr some ↦ some ];
  }

  turned : (earlier : Division) (ps : List MachinePacket) → datagrams_of (after rollover m m.side earlier ps) ≡ reverse (each (normal_datagram_by rollover m) ps) ++ datagrams_of earlier
  turned earlier [] = refl
  turned earlier (p ∷ ps) =
      turned (place rollover m m.side p ∷ earlier) ps
      ∙ sym (append_assoc (reverse (each (normal_datagram_by rollover m) ps)) (normal_datagram_by rollover m p ∷ []) (datagrams_of earlier))
      ∙ ap (λ l. l ++ datagrams_of earlier) (sym (reverse-append (normal_datagram_by rollover m p ∷ []) (each (normal_datagram_by rollover m) ps)))

  whole : datagrams_of division ≡ reverse (normal_datagrams_by rollover m)
  whole = turned [] (normal_packets m) ∙ append-nil (reverse (normal_datagrams_by rollover m))

  run : IsView m (wire_of m) Client (view_in division)
  run = one_sided_view m (wire_of m) Client (view_in division) gone.own

-- over the wire that is written for it, as it is or by numbers
pub shown : (rollover : Option Rollover) (m : Meaning) → CanBeWritten rollover m → IsShownOver rollover normal_header m (wire_of m) (normal_datagrams_by rollover m)
shown None m can =
    let going = gone None m can in
    record {
      seen = record {
        fits = can.fits;
        view = view_in (division None m can);
        run = run None m can;
        dressed = record { ids = ids; division = division None m can; whole = whole None m can; main = refl; labels = going.labels };
      };
      complete = complete None m can m.side refl going;
    }
shown (Some r) m can =
    let going = gone (Some r) m can in
    record {
      seen = record {
        fits = can.fits;
        view = view_in (division (Some r) m can);
        run = run (Some r) m can;
        near = going.near r;
        dressed = record { ids = ids; division = division (Some r) m can; whole = whole (Some r) m can; main = refl; labels = going.labels };
      };
      complete = complete (Some r) m can m.side refl going;
    }

pub shows : (rollover : Option Rollover) (m : Meaning) → CanBeWritten rollover m → IsShownBy rollover normal_header m (normal_datagrams_by rollover m)
shows None m can = record { writable = can.fits.numbered; wire = wire_of m; shown = shown None m can }
shows (Some r) m can = (can.fits.numbered, wire_of m, shown (Some r) m can)
