-- The first answer to a request is the one that the meaning tells.
use Rattle.std.proofs.Common.{◌≡◌, ◌⊎◌, ℕ, zero, suc, List, [], ◌∷◌, inl, inr, refl, sym, subst, arith}
use Rattle.tftp_packet.specs.{Message, RequestParts, Spells, Side, Get, Put, End, OptionMap}
use Rattle.tftp_packet.specs.Hosts.{Datagram, Header}
use Rattle.tftp_packet.specs.{Dir, In, Out}
use Rattle.tftp_packet.proofs.Unique.{one_message}
use Rattle.law_model.specs.Model.{Meaning, request_of, SomethingAgreed, NothingAgreed, Req, Oack, Data, Ack, Deed, Sent, Took, History, HasSent, HasTaken, message_of, IsStartedOn, MayAckZeroOn, MaySend, Error, LetsStartOn, LetsAckZeroOn, MayCome, IsOneSided, heard}
use Rattle.law_model.specs.Rules.{Route, route_of, is_of_transfer, transfer_of, Passed}
use Rattle.std.proofs.Common.{false}
use Rattle.law_model.proofs.ModelLemmas.Stops.{heard_done}
use Rattle.law_model.proofs.ModelLemmas.Members.{contains_later, contains_cases, contains_none}
use Rattle.law_end.specs.Dress.{StrayAnswer}
use Rattle.law_end.specs.{Label, Main, Stray, Division, datagrams_of, view_in, packet_of, label_route, SaysAs, AreRouted, Answer, Agrees, Begins, IsAnswer, NotAnswered, FirstAnswer}
use Rattle.law_end.proofs.Accord.PassedIsDone.{told_passed, with_main, with_stray}

-- ---- what a view tells of the deeds before

module _ (m : Meaning) (wire : List ℕ) (e : End) where
  more_start : (side : Side) (d : Deed) (v : History) → IsStartedOn side m v → IsStartedOn side m (d ∷ v)
  more_start Get d v s = elim s [ inl x ↦ inl (x.0, contains_later d v (Took Req) x.1) | inr x ↦ inr (x.0, contains_later d v (Took (Ack 0)) x.1) ]
  more_start Put d v s = elim s [ inl x ↦ inl (x.0, contains_later d v (Took (Ack 0)) x.1) | inr x ↦ inr (x.0, contains_later d v (Took Oack) x.1) ]

  more_lets : (side : Side) (d : Deed) (v : History) → LetsStartOn side m v → LetsStartOn side m (d ∷ v)
  more_lets Get d v s = elim s [ inl x ↦ inl (x.0, contains_later d v (Sent Req) x.1) | inr x ↦ inr (x.0, contains_later d v (Sent (Ack 0)) x.1) ]
  more_lets Put d v s = elim s [ inl x ↦ inl (x.0, contains_later d v (Sent (Ack 0)) x.1) | inr x ↦ inr (x.0, contains_later d v (Sent Oack) x.1) ]

  pub used_start : (side : Side) (v : History) → LetsStartOn side m (heard v) → LetsStartOn side m v
  used_start Get v s = elim s [ inl x ↦ inl (x.0, heard_done v (Sent Req) x.1) | inr x ↦ inr (x.0, heard_done v (Sent (Ack 0)) x.1) ]
  used_start Put v s = elim s [ inl x ↦ inl (x.0, heard_done v (Sent (Ack 0)) x.1) | inr x ↦ inr (x.0, heard_done v (Sent Oack) x.1) ]

  pub used_zero : (side : Side) (v : History) → LetsAckZeroOn side m (heard v) → LetsAckZeroOn side m v
  used_zero Get v z = (z.0, heard_done v (Sent Oack) z.1)
  used_zero Put v z = elim z [ inl x ↦ inl (x.0, heard_done v (Sent Req) x.1) | inr x ↦ inr (x.0, x.1, heard_done v (Sent (Data x.1)) x.2) ]

  more_zero : (side : Side) (d : Deed) (v : History) → MayAckZeroOn side m v → MayAckZeroOn side m (d ∷ v)
  more_zero Get d v z = (z.0, contains_later d v (Took Oack) z.1)
  more_zero Put d v z = elim z [ inl x ↦ inl (x.0, contains_later d v (Took Req) x.1) | inr x ↦ inr (x.0, x.1, contains_later d v (Took (Data x.1)) x.2) ]

  more_lets_zero : (side : Side) (d : Deed) (v : History) → LetsAckZeroOn side m v → LetsAckZeroOn side m (d ∷ v)
  more_lets_zero Get d v z = (z.0, contains_later d v (Sent Oack) z.1)
  more_lets_zero Put d v z = elim z [ inl x ↦ inl (x.0, contains_later d v (Sent Req) x.1) | inr x ↦ inr (x.0, x.1, contains_later d v (Sent (Data x.1)) x.2) ]

  -- a block that was sent says what was taken before it
  pub sent_data : (k : ℕ) (v : History) → IsOneSided m wire e v → HasSent v (Data k) → IsStartedOn m.side m v
  sent_data k [] own at = absurd (contains_none (Sent (Data k)) at)
  sent_data k (Sent p ∷ v) own at = elim (contains_cases (Sent p) v (Sent (Data k)) at) [
    | inl same ↦ let is : p ≡ Data k = cc in more_start m.side (Sent p) v (subst (MaySend m wire e v) is own.0).started
    | inr before ↦ more_start m.side (Sent p) v (sent_data k v own.1 before)
  ]
  sent_data k (Took p ∷ v) own at = elim (contains_cases (Took p) v (Sent (Data k)) at) [ inl same ↦ absurd (cc) | inr before ↦ more_start m.side (Took p) v (sent_data k v own.1 before) ]

  -- a block that was taken says what was sent before it
  pub took_data : (k : ℕ) (v : History) → IsOneSided m wire e v → HasTaken v (Data k) → LetsStartOn m.side m v
  took_data k [] own at = absurd (contains_none (Took (Data k)) at)
  took_data k (Took p ∷ v) own at = elim (contains_cases (Took p) v (Took (Data k)) at) [
    | inl same ↦ let is : p ≡ Data k = cc in more_lets m.side (Took p) v (used_start m.side v (subst (MayCome m wire e v) is own.0).started)
    | inr before ↦ more_lets m.side (Took p) v (took_data k v own.1 before)
  ]
  took_data k (Sent p ∷ v) own at = elim (contains_cases (Sent p) v (Took (Data k)) at) [ inl same ↦ absurd (cc) | inr before ↦ more_lets m.side (Sent p) v (took_data k v own.1 before) ]

  pub sent_zero : (v : History) → IsOneSided m wire e v → HasSent v (Ack 0) → MayAckZeroOn m.side m v
  sent_zero [] own at = absurd (contains_none (Sent (Ack 0)) at)
  sent_zero (Sent p ∷ v) own at = elim (contains_cases (Sent p) v (Sent (Ack 0)) at) [
    | inl same ↦ let is : p ≡ Ack 0 = cc in more_zero m.side (Sent p) v ((subst (MaySend m wire e v) is own.0).zero refl)
    | inr before ↦ more_zero m.side (Sent p) v (sent_zero v own.1 before)
  ]
  sent_zero (Took p ∷ v) own at = elim (contains_cases (Took p) v (Sent (Ack 0)) at) [ inl same ↦ absurd (cc) | inr before ↦ more_zero m.side (Took p) v (sent_zero v own.1 before) ]

  pub took_zero : (v : History) → IsOneSided m wire e v → HasTaken v (Ack 0) → LetsAckZeroOn m.side m v
  took_zero [] own at = absurd (contains_none (Took (Ack 0)) at)
  took_zero (Took p ∷ v) own at = elim (contains_cases (Took p) v (Took (Ack 0)) at) [
    | inl same ↦ let is : p ≡ Ack 0 = cc in more_lets_zero m.side (Took p) v (used_zero m.side v ((subst (MayCome m wire e v) is own.0).zero refl))
    | inr before ↦ more_lets_zero m.side (Took p) v (took_zero v own.1 before)
  ]
  took_zero (Sent p ∷ v) own at = elim (contains_cases (Sent p) v (Took (Ack 0)) at) [ inl same ↦ absurd (cc) | inr before ↦ more_lets_zero m.side (Sent p) v (took_zero v own.1 before) ]

  -- a first block or ACK 0 tells that nothing is agreed, or comes after an OACK
  abbrev pub Told : History → Type 0
  Told v = NothingAgreed m ⊎ (SomethingAgreed m × (HasSent v Oack ⊎ HasTaken v Oack))

  -- on a read a block that goes out
  pub data_out : m.side ≡ Get → (v : History) → IsOneSided m wire e v → IsStartedOn m.side m v → Told v
  data_out get v own s = elim (subst (λ side. IsStartedOn side m v) get s) [ inl x ↦ inl x.0 | inr x ↦ inr (x.0, inl (subst (λ side. LetsAckZeroOn side m v) get (took_zero v own x.1)).1) ]

  -- and one that comes in
  pub data_in : m.side ≡ Get → (v : History) → IsOneSided m wire e v → LetsStartOn m.side m v → Told v
  data_in get v own s = elim (subst (λ side. LetsStartOn side m v) get s) [ inl x ↦ inl x.0 | inr x ↦ inr (x.0, inr (subst (λ side. MayAckZeroOn side m v) get (sent_zero v own x.1)).1) ]

  zero_out : m.side ≡ Put → (v : History) → IsOneSided m wire e v → MayAckZeroOn m.side m v → Told v
  zero_out put v own z = elim (subst (λ side. MayAckZeroOn side m v) put z) [
    | inl x ↦ inl x.0
    | inr x ↦ elim (subst (λ side. LetsStartOn side m v) put (took_data x.1 v own x.2)) [ inl y ↦ inl y.0 | inr y ↦ inr (y.0, inl y.1) ]
  ]

  zero_in : m.side ≡ Put → (v : History) → IsOneSided m wire e v → LetsAckZeroOn m.side m v → Told v
  zero_in put v own z = elim (subst (λ side. LetsAckZeroOn side m v) put z) [
    | inl x ↦ inl x.0
    | inr x ↦ elim (subst (λ side. IsStartedOn side m v) put (sent_data x.1 v own x.2)) [ inl y ↦ inl y.0 | inr y ↦ inr (y.0, inr y.1) ]
  ]

-- ---- the first answer

-- where nothing has answered no OACK has passed
pub no_oack : (side : Side) (dir : Dir) (o : OptionMap) (passed : List Datagram) → NotAnswered side passed → Passed dir (Message.Oack o) passed → ⊥
no_oack side dir o [] none p = p
no_oack side dir o (d ∷ passed) none p = elim p [ inl now ↦ none.0 (Agrees o) (Message.Oack o, now.1, refl) | inr before ↦ no_oack side dir o passed none.1 before ]

module _ (h : Header) (m : Meaning) (wire : List ℕ) where
  abbrev pub IsReply : Side → List Datagram → Type 0
  IsReply side passed = NotAnswered side passed ⊎ ((SomethingAgreed m × FirstAnswer side passed (Agrees m.agreed)) ⊎ (NothingAgreed m × FirstAnswer side passed Begins))

  -- it answers nothing
  stays_none : (side : Side) (d : Datagram) (passed : List Datagram) (x : Message) → Spells d.payload x → ((a : Answer) → IsAnswer side x a → ⊥) → IsReply side passed → IsReply side (d ∷ passed)
  stays_none side d passed x s other r = elim r [
    | inl none ↦ inl ((λ a answers. other a (subst (λ y. IsAnswer side y a) (one_message d.payload answers.0 x answers.1.1 s.1) answers.2)), none)
    | inr some ↦ elim some [ inl y ↦ inr (inl (y.0, inl y.1)) | inr y ↦ inr (inr (y.0, inl y.1)) ]
  ]

  begins : (side : Side) (d : Datagram) (passed : List Datagram) (x : Message) → Spells d.payload x → IsAnswer side x Begins → (NotAnswered side passed → NothingAgreed m) → IsReply side passed → IsReply side (d ∷ passed)
  begins side d passed x s is plain r = elim r [
    | inl none ↦ inr (inr (plain none, inr (none, (x, s, is))))
    | inr some ↦ elim some [ inl y ↦ inr (inl (y.0, inl y.1)) | inr y ↦ inr (inr (y.0, inl y.1)) ]
  ]

  agrees : (side : Side) (d : Datagram) (passed : List Datagram) → Spells d.payload (Message.Oack m.agreed) → SomethingAgreed m → IsReply side passed → IsReply side (d ∷ passed)
  agrees side d passed s some r = elim r [
    | inl none ↦ inr (inl (some, inr (none, (Message.Oack m.agreed, s, refl))))
    | inr done ↦ elim done [ inl y ↦ inr (inl (y.0, inl y.1)) | inr y ↦ inr (inr (y.0, inl y.1)) ]
  ]

  no_request : (side : Side) (r : RequestParts) (a : Answer) → IsAnswer side (Message.Request r) a → ⊥
  no_request Get r a is = is
  no_request Put r a is = is

  no_error : (side : Side) (code : ℕ) (text : List ℕ) (a : Answer) → IsAnswer side (Message.Error code text) a → ⊥
  no_error Get code text a is = is
  no_error Put code text a is = is

  module _ (division : Division) (routed : AreRouted h m wire division) (own : IsOneSided m wire h.named (view_in division)) (d : Datagram) where
    abbrev ps : List Datagram
    ps = transfer_of h (datagrams_of division)

    -- what begins the blocks, and is the first answer, says that nothing is agreed
    pub plain : (side : Side) → Told m wire h.named (view_in division) → NotAnswered side ps → NothingAgreed m
    plain side told none = elim told [
      | inl nothing ↦ nothing
      | inr some ↦ absurd (elim some.1 [
        | inl sent ↦ no_oack side Out m.agreed ps none (told_passed h m wire division routed (Sent Oack) sent)
        | inr taken ↦ no_oack side In m.agreed ps none (told_passed h m wire division routed (Took Oack) taken)
      ])
    ]

    data_reply : (side : Side) → m.side ≡ side → (k : ℕ) → Spells d.payload (message_of m wire (Data k)) → (m.side ≡ Get → Told m wire h.named (view_in division)) → IsReply side ps → IsReply side (d ∷ ps)
    data_reply Get get k s told r = begins Get d ps (message_of m wire (Data k)) s tt (plain Get (told get)) r
    data_reply Put put k s told r = stays_none Put d ps (message_of m wire (Data k)) s (λ a is. is) r

    ack_reply : (side : Side) → m.side ≡ side → (j : ℕ) → Spells d.payload (Message.Ack j) → (m.side ≡ Put → j ≡ 0 → Told m wire h.named (view_in division)) → IsReply side ps → IsReply side (d ∷ ps)
    ack_reply Get get j s told r = stays_none Get d ps (Message.Ack j) s (λ a is. is) r
    ack_reply Put put zero s told r = begins Put d ps (Message.Ack 0) s refl (plain Put (told put refl)) r
    ack_reply Put put (suc j) s told r = stays_none Put d ps (Message.Ack (suc j)) s (λ a is. later a is) r where
      later : (a : Answer) → IsAnswer Put (Message.Ack (suc j)) a → ⊥
      later Begins is = omega (arith, is)
      later (Agrees o) is = is

    main_reply : (deed : Deed) → Spells d.payload (message_of m wire (packet_of deed)) → IsOneSided m wire h.named (deed ∷ view_in division) → IsReply m.side ps → IsReply m.side (d ∷ ps)
    main_reply (Sent Req) s all r = stays_none m.side d ps (message_of m wire Req) s (no_request m.side (request_of m)) r
    main_reply (Took Req) s all r = stays_none m.side d ps (message_of m wire Req) s (no_request m.side (request_of m)) r
    main_reply (Sent Oack) s all r = agrees m.side d ps s all.0.agreed r
    main_reply (Took Oack) s all r = agrees m.side d ps s all.0.agreed r
    main_reply (Sent (Data k)) s all r = data_reply m.side refl k s (λ get. data_out m wire h.named get (view_in division) own all.0.started) r
    main_reply (Took (Data k)) s all r = data_reply m.side refl k s (λ get. data_in m wire h.named get (view_in division) own (used_start m wire h.named m.side (view_in division) all.0.started)) r
    main_reply (Sent (Ack j)) s all r = ack_reply m.side refl j s (λ put none. zero_out m wire h.named put (view_in division) own (all.0.zero none)) r
    main_reply (Took (Ack j)) s all r = ack_reply m.side refl j s (λ put none. zero_in m wire h.named put (view_in division) own (used_zero m wire h.named m.side (view_in division) (all.0.zero none))) r
    main_reply (Sent (Error code text)) s all r = stays_none m.side d ps (message_of m wire (Error code text)) s (no_error m.side code text) r
    main_reply (Took (Error code text)) s all r = stays_none m.side d ps (message_of m wire (Error code text)) s (no_error m.side code text) r

  reply_step : (d : Datagram) (label : Label) (earlier : Division) → AreRouted h m wire earlier → route_of h (datagrams_of earlier) d ≡ label_route label → SaysAs m wire d label
      → IsOneSided m wire h.named (view_in (record { datagram = d; label = label } ∷ earlier)) → (IsOneSided m wire h.named (view_in earlier) → IsReply m.side (transfer_of h (datagrams_of earlier)))
      → IsReply m.side (transfer_of h (d ∷ datagrams_of earlier))
  reply_step d (Main (Sent p)) earlier routed is says all before = subst (IsReply m.side) (sym (with_main h m wire earlier d (Sent p) is)) (main_reply earlier routed all.1 d (Sent p) says.1 all (before all.1))
  reply_step d (Main (Took p)) earlier routed is says all before = subst (IsReply m.side) (sym (with_main h m wire earlier d (Took p) is)) (main_reply earlier routed all.1 d (Took p) says.1 all (before all.1))
  reply_step d Stray earlier routed is says all before = subst (IsReply m.side) (sym (with_stray h m wire earlier d (route_false Route.Stray is refl))) (before all) where
    route_false : (r : Route) → route_of h (datagrams_of earlier) d ≡ r → is_of_transfer r ≡ false → is_of_transfer (route_of h (datagrams_of earlier) d) ≡ false
    route_false r e f = subst (λ x. is_of_transfer x ≡ false) (sym e) f
  reply_step d StrayAnswer earlier routed is says all before = subst (IsReply m.side) (sym (with_stray h m wire earlier d (route_false Route.StrayAnswer is refl))) (before all) where
    route_false : (r : Route) → route_of h (datagrams_of earlier) d ≡ r → is_of_transfer r ≡ false → is_of_transfer (route_of h (datagrams_of earlier) d) ≡ false
    route_false r e f = subst (λ x. is_of_transfer x ≡ false) (sym e) f

  -- nothing has answered; or something is agreed, and that was the first answer; or nothing is, and the first answer began the blocks
  pub reply_is : (division : Division) → AreRouted h m wire division → IsOneSided m wire h.named (view_in division) → IsReply m.side (transfer_of h (datagrams_of division))
  reply_is [] routed own = inl tt
  reply_is (p ∷ earlier) routed own = reply_step p.datagram p.label earlier routed.2 routed.0 routed.1 own (reply_is earlier routed.2)
