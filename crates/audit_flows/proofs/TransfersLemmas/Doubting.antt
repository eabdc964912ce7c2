-- What a datagram makes doubtful, where it begins a line.
use Rattle.std.proofs.Common.{◌≡◌, ℕ, false, List, [], None, refl, nat_lt}
use Rattle.audit_flows.specs.Lines.{transfer_of, Recorded, Placed, live, line, doubts_of, follows_strays}
use Rattle.audit_flows.specs.declared.lines.place.Place.{Place}
use Rattle.audit_flows.specs.declared.lines.place.Place.TheVariants.{Opens, Repeats, Talks, Apart, Beside, Nowhere}
use Rattle.audit_flows.specs.declared.lines.place.Transfer.{Transfer}
use Rattle.audit_flows.specs.declared.lines.doubts.Doubts.{Doubts}

abbrev pub first_of_line : Recorded → ℕ → List Placed → Transfer → Doubts
first_of_line d now older x = record {
  may_be_earlier = false;
  agrees_late = false;
  rests_on_terms = false;
  says_unknown_id = false;
  is_late = false;
  is_disordered = nat_lt d.time now;
  is_asked_again = false;
  may_be_answer_of = None;
  comes_in = false;
  goes_on_with_first = false;
  speaks_first = false;
  says_first_word = false;
  follows_unknown_id = false;
  follows_strays = follows_strays (record { datagram = d; moment = now; place = Opens x }) older;
  follows_unanswered = false;
  follows_request = false;
}

abbrev pub none : Doubts
none = record {
  may_be_earlier = false;
  agrees_late = false;
  rests_on_terms = false;
  says_unknown_id = false;
  is_late = false;
  is_disordered = false;
  is_asked_again = false;
  may_be_answer_of = None;
  comes_in = false;
  goes_on_with_first = false;
  speaks_first = false;
  says_first_word = false;
  follows_unknown_id = false;
  follows_strays = false;
  follows_unanswered = false;
  follows_request = false;
}

pub first_doubted : (d : Recorded) (now : ℕ) (older : List Placed) (x : Transfer) → live now (line x.client older) ≡ []
    → first_of_line d now older x ≡ doubts_of (record { datagram = d; moment = now; place = Opens x }) older
first_doubted d now older x silent = rw silent refl

-- of what is of no transfer at a client nothing is doubtful
pub none_doubted : (d : Recorded) (now : ℕ) (older : List Placed) (place : Place) → transfer_of place ≡ None → none ≡ doubts_of (record { datagram = d; moment = now; place = place }) older
none_doubted d now older (Opens x) is = absurd (cc)
none_doubted d now older (Repeats x) is = absurd (cc)
none_doubted d now older (Talks x) is = absurd (cc)
none_doubted d now older (Apart c) is = refl
none_doubted d now older (Beside x) is = refl
none_doubted d now older Nowhere is = refl
