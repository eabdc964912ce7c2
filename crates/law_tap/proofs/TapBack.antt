-- What passed may pass where what is kept of it may, and the rest came in time.
use Rattle.std.proofs.Common.{◌≡◌, ◌⊎◌, ◌↔◌, ℕ, Bool, true, false, List, [], ◌∷◌, Contains, inl, inr, refl, sym, subst, ap, ◌∙◌, ◌&&◌, ◌||◌, not}
use Rattle.std.specs.List.{list_any}
use Rattle.std.proofs.lemmas.Bool.{true≢false, cases_Bool}
use Rattle.tftp_packet.specs.{Side, Get, Put, End, Client, Server}
use Rattle.law_model.specs.Model.{Meaning, MachinePacket, Req, Oack, Data, Ack, Error, HasSent, is_error, heard, LetsStartOn, MayComeOack, MayComeData, IsOneSided}
use Rattle.law_model.specs.Model.Machines.{other_end, receiver_of}
use Rattle.law_tap.specs.{Pass, as_at, MayPass, MayPassEach, is_left_out, before_error, same_end, is_request, pass_tests, kept_at, IsAnsweredInTime, IsInTime, AreInTime}
use Rattle.law_tap.proofs.Passed.{at_sent, sent_passed}
use Rattle.law_tap.proofs.OneTap.{Has}
use Rattle.law_tap.proofs.AtReceiver.{receiver_is}
use Rattle.law_tap.proofs.KeptOf.{any_here, any_skip, any_of, before_all, before_less, before_there, kept_out, kept_in, kept_there}
use Rattle.law_tap.proofs.TapKept.{sent_before, before_sent, has_kept, any_kept, kept_one_sided}

-- ---- where each ERROR of an end is kept

module _ (o r : End) (G : List Pass → Type 0) (down : (x : Pass) (passed : List Pass) → list_any (pass_tests.ends o) (x ∷ passed) ≡ true → G (x ∷ passed) → G passed)
    (stays : (x : Pass) (passed : List Pass) → G passed → pass_tests.ends o x ≡ true → is_left_out pass_tests r x (kept_at r passed) ≡ false) where
  record SameBefore (passed : List Pass) : Type 0 where
    ends : list_any (pass_tests.ends o) (kept_at r passed) ≡ list_any (pass_tests.ends o) passed
    before : (y : Pass) → Contains (before_error pass_tests o (kept_at r passed)) y → Contains (before_error pass_tests o passed) y

  same_more : (x : Pass) (passed : List Pass) → G (x ∷ passed) → (G passed → SameBefore passed) → SameBefore (x ∷ passed)
  same_more x passed g rest = elim (cases_Bool (list_any (pass_tests.ends o) (x ∷ passed))) [ inl some ↦ over some (down x passed some g) (rest (down x passed some g)) | inr none ↦ going none ]
    where
      going : list_any (pass_tests.ends o) (x ∷ passed) ≡ false → SameBefore (x ∷ passed)
      going none =
          let quiet = any_kept r o x passed none in
          record {
            ends = quiet ∙ sym none;
            before = λ y at. subst (λ v. Contains v y) (sym (before_all pass_tests o (x ∷ passed) none)) (kept_there pass_tests r (x ∷ passed) y (subst (λ v. Contains v y) (before_all pass_tests o (kept_at r (x ∷ passed)) quiet) at));
          }

      back : list_any (pass_tests.ends o) (x ∷ passed) ≡ true → SameBefore passed → (y : Pass) → Contains (before_error pass_tests o (kept_at r passed)) y → Contains (before_error pass_tests o (x ∷ passed)) y
      back some s y at = subst (λ v. Contains v y) (sym (before_less pass_tests o x passed some)) (s.before y at)

      over : list_any (pass_tests.ends o) (x ∷ passed) ≡ true → G passed → SameBefore passed → SameBefore (x ∷ passed)
      over some g s = elim (cases_Bool (is_left_out pass_tests r x (kept_at r passed))) [
        | inl out ↦ elim (cases_Bool (pass_tests.ends o x)) [
          | inl own ↦ absurd (true≢false (sym out ∙ stays x passed g own))
          | inr other ↦ record {
            ends = ap (list_any (pass_tests.ends o)) (kept_out pass_tests r x passed out) ∙ s.ends ∙ sym (any_skip (pass_tests.ends o) x passed other);
            before = λ y at. back some s y (subst (λ v. Contains (before_error pass_tests o v) y) (kept_out pass_tests r x passed out) at);
          }
        ]
        | inr kept ↦
            let still = both some s in
            record {
              ends = ap (list_any (pass_tests.ends o)) (kept_in pass_tests r x passed kept) ∙ still ∙ sym some;
              before = λ y at. back some s y (subst (λ v. Contains v y) (before_less pass_tests o x (kept_at r passed) still) (subst (λ v. Contains (before_error pass_tests o v) y) (kept_in pass_tests r x passed kept) at));
            }
      ]
        where
          both : list_any (pass_tests.ends o) (x ∷ passed) ≡ true → SameBefore passed → list_any (pass_tests.ends o) (x ∷ kept_at r passed) ≡ true
          both some s = elim (cases_Bool (pass_tests.ends o x)) [
            | inl own ↦ any_here (pass_tests.ends o) x (kept_at r passed) own
            | inr other ↦ any_skip (pass_tests.ends o) x (kept_at r passed) other ∙ s.ends ∙ sym (any_skip (pass_tests.ends o) x passed other) ∙ some
          ]

  same_before : (passed : List Pass) → G passed → SameBefore passed
  same_before [] g = record { ends = refl; before = λ y at. at }
  same_before (x ∷ passed) g = same_more x passed g (same_before passed)

-- on a read each ERROR of the server is kept
kept_server : (x : Pass) (passed : List Pass) → pass_tests.ends Server x ≡ true → is_left_out pass_tests Client x (kept_at Client passed) ≡ false
kept_server x passed own = by x.from own where
  by : (f : End) → (same_end Server f && is_error x.packet) ≡ true → is_left_out pass_tests Client (record { from = f; packet = x.packet }) (kept_at Client passed) ≡ false
  by Client own = absurd (true≢false (sym own))
  by Server own = refl

pub before_get : (passed : List Pass) (y : Pass) → Contains (before_error pass_tests Server (kept_at Client passed)) y → Contains (before_error pass_tests Server passed) y
before_get passed = (same_before Server Client (λ l. Unit {0}) (λ x l some g. tt) (λ x l g. kept_server x l) passed tt).before

-- on a write each ERROR of the client that comes after an answer
abbrev Answered : List Pass → Type 0
Answered passed = (q : MachinePacket) × (is_error q ≡ false) × Has (before_error pass_tests Client passed) Server q

answered_down : (x : Pass) (passed : List Pass) → list_any (pass_tests.ends Client) (x ∷ passed) ≡ true → Answered (x ∷ passed) → Answered passed
answered_down x passed some (q, plain, at) = (q, plain, subst (λ v. Has v Server q) (before_less pass_tests Client x passed some) at)

kept_client : (x : Pass) (passed : List Pass) → Answered passed → pass_tests.ends Client x ≡ true → is_left_out pass_tests Server x (kept_at Server passed) ≡ false
kept_client x passed (q, plain, at) own = by x.from x.packet own where
  some : list_any pass_tests.answers (kept_at Server passed) ≡ true
  some = any_of pass_tests.answers (kept_at Server passed) (record { from = Server; packet = q }) (has_kept Server passed Server q plain (before_there pass_tests Client passed _ at)) refl

  by : (f : End) (p : MachinePacket) → (same_end Client f && is_error p) ≡ true → is_left_out pass_tests Server (record { from = f; packet = p }) (kept_at Server passed) ≡ false
  by Client (Error code text) own = rw (some) refl
  by _ _ own = absurd (true≢false (sym own))

pub before_put : (passed : List Pass) (q : MachinePacket) → is_error q ≡ false → Has (before_error pass_tests Client passed) Server q
    → (y : Pass) → Contains (before_error pass_tests Client (kept_at Server passed)) y → Contains (before_error pass_tests Client passed) y
before_put passed q plain at = (same_before Client Server Answered answered_down kept_client passed (q, plain, at)).before

-- ---- the packets

module _ (m : Meaning) (wire : List ℕ) where
  oack_back : (r e : End) (passed : List Pass) → MayComeOack m e (as_at e (kept_at r passed)) → MayComeOack m e (as_at e passed)
  oack_back r e passed may = record { client = may.client; agreed = may.agreed; asked = at_sent e Req passed (kept_there pass_tests r passed _ (sent_passed e Req (kept_at r passed) may.asked)) }

  data_back : (e : End) (passed : List Pass) (k : ℕ) → e ≡ receiver_of m.side → IsAnsweredInTime m.side passed
      → MayComeData m wire e (heard (as_at e (kept_at (receiver_of m.side) passed))) k → MayComeData m wire e (heard (as_at e passed)) k
  data_back e passed k is time may = by m.side refl time is may.started may.in_window.1 where
    by : (side : Side) → m.side ≡ side → IsAnsweredInTime side passed → e ≡ receiver_of side
        → LetsStartOn m.side m (heard (as_at e (kept_at (receiver_of m.side) passed)))
        → (may.in_window.0 ≡ 0) ⊎ HasSent (heard (as_at e (kept_at (receiver_of m.side) passed))) (Ack may.in_window.0) → MayComeData m wire e (heard (as_at e passed)) k
    by side same time is start window = record {
      receiver = may.receiver;
      from_one = may.from_one;
      in_wire = may.in_wire;
      started = subst (λ s. LetsStartOn s m (heard (as_at e passed))) (sym same) (started side time is (subst (λ s. LetsStartOn s m (heard (as_at e (kept_at (receiver_of s) passed)))) same start));
      in_window = (may.in_window.0, elim window [ inl none ↦ inl none | inr at ↦ inr (sent side time is (Ack may.in_window.0) (subst (λ s. HasSent (heard (as_at e (kept_at (receiver_of s) passed))) (Ack may.in_window.0)) same at)) ], may.in_window.2);
    }
      where
        sent : (side : Side) → IsAnsweredInTime side passed → e ≡ receiver_of side → (p : MachinePacket) → HasSent (heard (as_at e (kept_at (receiver_of side) passed))) p → HasSent (heard (as_at e passed)) p
        sent Get time is p at = before_sent e passed p (subst (λ x. Has (before_error pass_tests (other_end x) passed) x p) (sym is)
            (before_get passed (record { from = Client; packet = p }) (subst (λ x. Has (before_error pass_tests (other_end x) (kept_at Client passed)) x p) is (sent_before e (kept_at Client passed) p at))))
        sent Put time is p at = before_sent e passed p (subst (λ x. Has (before_error pass_tests (other_end x) passed) x p) (sym is)
            (put time (record { from = Server; packet = p }) (subst (λ x. Has (before_error pass_tests (other_end x) (kept_at Server passed)) x p) is (sent_before e (kept_at Server passed) p at))))
          where
            put : IsAnsweredInTime Put passed → (y : Pass) → Contains (before_error pass_tests Client (kept_at Server passed)) y → Contains (before_error pass_tests Client passed) y
            put (inl oack) = before_put passed Oack refl oack
            put (inr ack) = before_put passed (Ack 0) refl ack

        started : (side : Side) → IsAnsweredInTime side passed → e ≡ receiver_of side → LetsStartOn side m (heard (as_at e (kept_at (receiver_of side) passed))) → LetsStartOn side m (heard (as_at e passed))
        started Get time is l = elim l [ inl plain ↦ inl (plain.0, sent Get time is Req plain.1) | inr oacked ↦ inr (oacked.0, sent Get time is (Ack 0) oacked.1) ]
        started Put time is l = elim l [ inl plain ↦ inl (plain.0, sent Put time is (Ack 0) plain.1) | inr oacked ↦ inr (oacked.0, sent Put time is Oack oacked.1) ]

  never_out : (r f : End) (p : MachinePacket) (rest : List Pass) → is_request p ≡ false → is_error p ≡ false → is_left_out pass_tests r (record { from = f; packet = p }) rest ≡ false
  never_out r f p rest plain quiet = by (same_end Client f) (same_end r f) where
    by : (a b : Bool) → ((a && is_request p) && list_any pass_tests.asks rest) || ((b && is_error p) || ((a && is_error p) && not (list_any pass_tests.answers rest))) ≡ false
    by true true = rw (plain, quiet) refl
    by true false = rw (plain, quiet) refl
    by false true = rw (quiet) refl
    by false false = refl

  kept_pass : (r f : End) (p : MachinePacket) (passed : List Pass) → is_request p ≡ false → is_error p ≡ false
      → MayPassEach m wire (kept_at r (record { from = f; packet = p } ∷ passed)) → MayPass m wire (kept_at r passed) f p
  kept_pass r f p passed plain quiet may = (subst (MayPassEach m wire) (kept_in pass_tests r (record { from = f; packet = p }) passed (never_out r f p (kept_at r passed) plain quiet)) may).0

  pass_back : (f : End) (p : MachinePacket) (passed : List Pass) → IsInTime m wire passed f p → MayPassEach m wire (kept_at (receiver_of m.side) (record { from = f; packet = p } ∷ passed)) → MayPass m wire passed f p
  pass_back f Req passed time may = ap other_end time
  pass_back f Oack passed time may = oack_back (receiver_of m.side) (other_end f) passed (kept_pass (receiver_of m.side) f Oack passed refl refl may)
  pass_back f (Ack j) passed time may = time
  pass_back f (Error code text) passed time may = time
  pass_back f (Data k) passed time may =
      let allowed = kept_pass (receiver_of m.side) f (Data k) passed refl refl may in
      data_back (other_end f) passed k allowed.receiver time allowed

  kept_rest : (r : End) (x : Pass) (passed : List Pass) → MayPassEach m wire (kept_at r (x ∷ passed)) → MayPassEach m wire (kept_at r passed)
  kept_rest r x passed may = elim (cases_Bool (is_left_out pass_tests r x (kept_at r passed))) [
    | inl out ↦ subst (MayPassEach m wire) (kept_out pass_tests r x passed out) may
    | inr stays ↦ (subst (MayPassEach m wire) (kept_in pass_tests r x passed stays) may).1
  ]

  pub may_back : (passed : List Pass) → MayPassEach m wire (kept_at (receiver_of m.side) passed) → AreInTime m wire passed → MayPassEach m wire passed
  may_back [] may time = tt
  may_back (x ∷ passed) may time = (pass_back x.from x.packet passed time.0 may, may_back passed (kept_rest (receiver_of m.side) x passed may) time.1)

  -- ---- and all that may pass comes in time

  pub in_time : (e : End) (p : MachinePacket) (passed : List Pass) → MayPass m wire passed e p → IsInTime m wire passed e p
  in_time Client Req passed may = refl
  in_time Server Req passed may = absurd (cc)
  in_time e Oack passed may = tt
  in_time e (Ack j) passed may = may
  in_time e (Error code text) passed may = may
  in_time e (Data k) passed may = by m.side may.receiver may.started where
    by : (side : Side) → other_end e ≡ receiver_of side → LetsStartOn side m (heard (as_at (other_end e) passed)) → IsAnsweredInTime side passed
    by Get is start = tt
    by Put is start = elim start [ inl plain ↦ inr (there (Ack 0) plain.1) | inr oacked ↦ inl (there Oack oacked.1) ] where
      there : (p : MachinePacket) → HasSent (heard (as_at (other_end e) passed)) p → Has (before_error pass_tests Client passed) Server p
      there p at = subst (λ x. Has (before_error pass_tests (other_end x) passed) x p) is (sent_before (other_end e) passed p at)

  all_in_time : (passed : List Pass) → MayPassEach m wire passed → AreInTime m wire passed
  all_in_time [] may = tt
  all_in_time (x ∷ passed) may = (in_time x.from x.packet passed may.0, all_in_time passed may.1)

  pub kept_tells : (passed : List Pass) → MayPassEach m wire passed
      ↔ (IsOneSided m wire (receiver_of m.side) (as_at (receiver_of m.side) (kept_at (receiver_of m.side) passed)) × AreInTime m wire passed)
  kept_tells passed = (
    λ may. (kept_one_sided m wire passed may, all_in_time passed may),
    λ both. may_back passed ((receiver_is m wire (kept_at (receiver_of m.side) passed)).0 both.0).0 both.1,
  )
