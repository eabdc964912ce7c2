-- What has passed in the transfer is what the end did: its view, read off the datagrams.
use Rattle.std.proofs.Common.{◌≡◌, ℕ, ◌+◌, ◌≤◌, Bool, true, false, List, [], ◌∷◌, Contains, inl, inr, refl, sym, subst, ap, ◌∙◌, arith, if◌then◌else◌}
use Rattle.std.proofs.lemmas.Bool.{false≢true, true≢false}
use Rattle.tftp_packet.specs.{Message, Spells, side_opcode, Side, Get, Put, opcode_of}
use Rattle.tftp_packet.specs.Hosts.{Datagram, Header}
use Rattle.tftp_packet.specs.{Dir, In, Out}
use Rattle.tftp_packet.proofs.Unique.{one_message}
use Rattle.law_model.specs.Model.{Meaning, blksize_of, windowsize_of, block, MachinePacket, Req, Oack, Data, Ack, Deed, Sent, Took, History, HasSent, HasTaken, message_of, MaySendAck, Error, MayComeData, MayComeAck, is_error, takes_error, heard}
use Rattle.law_model.specs.Model.Machines.{sender_of, receiver_of}
use Rattle.law_model.specs.Rules.{route_of, is_of_transfer, transfer_of, goes_out, begins_error, Passed, BlockPassed, IsSender, IsReceiver, AckBreaks, BlockBreaks, usable, brings_error}
use Rattle.law_model.specs.{EndRule, Terms}
use Rattle.std.specs.List.{list_any}
use Rattle.std.proofs.Common.{◌&&◌, ◌||◌, ◌==◌}
use Rattle.law_model.proofs.ModelLemmas.Stops.{stopped, either, heard_all, heard_stopped, heard_more, heard_sent}
use Rattle.law_model.proofs.ModelLemmas.Members.{contains_first, contains_later, contains_cases, contains_none}
use Rattle.law_end.specs.Dress.{StrayAnswer}
use Rattle.law_end.specs.{Label, Main, Stray, Division, datagrams_of, view_in, dir_of, packet_of, packet_route, label_route, SaysAs, AreRouted}

-- the view has a deed that went this way and said this
abbrev pub Told : Meaning → List ℕ → History → Dir → Message → Type 0
Told m wire view dir x = (deed : Deed) × Contains view deed × (dir_of deed ≡ dir) × (message_of m wire (packet_of deed) ≡ x)

-- ---- what the other end can have used

usable_past : (d : Datagram) (passed : List Datagram) → (goes_out d && list_any brings_error passed) ≡ true → usable (d ∷ passed) ≡ usable passed
usable_past d passed e = rw (e) refl

usable_now : (d : Datagram) (passed : List Datagram) → (goes_out d && list_any brings_error passed) ≡ false → usable (d ∷ passed) ≡ d ∷ usable passed
usable_now d passed e = rw (e) refl

-- all that came in
pub usable_in : (x : Message) (passed : List Datagram) → Passed In x passed → Passed In x (usable passed)
usable_in x [] p = p
usable_in x (d ∷ passed) p = by (goes_out d && list_any brings_error passed) refl (λ q. usable_in x passed q) where
  by : (b : Bool) → (goes_out d && list_any brings_error passed) ≡ b → (Passed In x passed → Passed In x (usable passed)) → Passed In x (usable (d ∷ passed))
  by true is more = subst (Passed In x) (sym (usable_past d passed is)) (elim p [ inl now ↦ absurd (true≢false (sym is ∙ rw (now.0) refl)) | inr before ↦ more before ])
  by false is more = subst (Passed In x) (sym (usable_now d passed is)) (elim p [ inl now ↦ inl now | inr before ↦ inr (more before) ])

pub usable_passed : (dir : Dir) (x : Message) (passed : List Datagram) → Passed dir x (usable passed) → Passed dir x passed
usable_passed dir x [] p = p
usable_passed dir x (d ∷ passed) p = by (goes_out d && list_any brings_error passed) refl (λ q. usable_passed dir x passed q) where
  by : (b : Bool) → (goes_out d && list_any brings_error passed) ≡ b → (Passed dir x (usable passed) → Passed dir x passed) → Passed dir x (d ∷ passed)
  by true is more = inr (more (subst (Passed dir x) (usable_past d passed is) p))
  by false is more = elim (subst (Passed dir x) (usable_now d passed is) p) [ inl now ↦ inl now | inr before ↦ inr (more before) ]

kept_true : (b : Bool) (d : Datagram) (passed : List Datagram) → b ≡ true → (if b then d ∷ passed else passed) ≡ d ∷ passed
kept_true true d passed e = refl
kept_true false d passed e = absurd (false≢true e)

kept_false : (b : Bool) (d : Datagram) (passed : List Datagram) → b ≡ false → (if b then d ∷ passed else passed) ≡ passed
kept_false true d passed e = absurd (true≢false e)
kept_false false d passed e = refl

main_route : (p : MachinePacket) → is_of_transfer (packet_route p) ≡ true
main_route Req = refl
main_route _ = refl

module _ (h : Header) (m : Meaning) (wire : List ℕ) where
  -- the datagrams of the transfer, with one more
  pub with_main : (earlier : Division) (d : Datagram) (deed : Deed) → route_of h (datagrams_of earlier) d ≡ label_route (Main deed)
      → transfer_of h (d ∷ datagrams_of earlier) ≡ d ∷ transfer_of h (datagrams_of earlier)
  with_main earlier d deed is = kept_true (is_of_transfer (route_of h (datagrams_of earlier) d)) d (transfer_of h (datagrams_of earlier)) (ap is_of_transfer is ∙ main_route (packet_of deed))

  pub with_stray : (earlier : Division) (d : Datagram) → is_of_transfer (route_of h (datagrams_of earlier) d) ≡ false → transfer_of h (d ∷ datagrams_of earlier) ≡ transfer_of h (datagrams_of earlier)
  with_stray earlier d is = kept_false (is_of_transfer (route_of h (datagrams_of earlier) d)) d (transfer_of h (datagrams_of earlier)) is

  later : (view : History) (deed : Deed) (dir : Dir) (x : Message) → Told m wire view dir x → Told m wire (deed ∷ view) dir x
  later view deed dir x (other, at, way, says) = (other, contains_later deed view other at, way, says)

  passed_step : (d : Datagram) (label : Label) (earlier : Division) → route_of h (datagrams_of earlier) d ≡ label_route label → SaysAs m wire d label
      → ((dir : Dir) (x : Message) → Passed dir x (transfer_of h (datagrams_of earlier)) → Told m wire (view_in earlier) dir x)
      → (dir : Dir) (x : Message) → Passed dir x (transfer_of h (d ∷ datagrams_of earlier)) → Told m wire (view_in (record { datagram = d; label = label } ∷ earlier)) dir x
  passed_step d (Main deed) earlier is says before dir x p = elim (subst (Passed dir x) (with_main earlier d deed is) p) [
    | inl now ↦ (deed, contains_first deed (view_in earlier), sym says.0 ∙ now.0, one_message d.payload (message_of m wire (packet_of deed)) x says.1.1 now.1.1)
    | inr past ↦ later (view_in earlier) deed dir x (before dir x past)
  ]
  passed_step d Stray earlier is says before dir x p = before dir x (subst (Passed dir x) (with_stray earlier d (ap is_of_transfer is)) p)
  passed_step d StrayAnswer earlier is says before dir x p = before dir x (subst (Passed dir x) (with_stray earlier d (ap is_of_transfer is)) p)

  -- what has passed is a deed of the view
  pub passed_told : (division : Division) → AreRouted h m wire division → (dir : Dir) (x : Message) → Passed dir x (transfer_of h (datagrams_of division)) → Told m wire (view_in division) dir x
  passed_told [] routed dir x p = absurd p
  passed_told (p ∷ earlier) routed dir x q = passed_step p.datagram p.label earlier routed.0 routed.1 (passed_told earlier routed.2) dir x q

  told_step : (d : Datagram) (label : Label) (earlier : Division) → route_of h (datagrams_of earlier) d ≡ label_route label → SaysAs m wire d label
      → ((deed : Deed) → Contains (view_in earlier) deed → Passed (dir_of deed) (message_of m wire (packet_of deed)) (transfer_of h (datagrams_of earlier)))
      → (deed : Deed) → Contains (view_in (record { datagram = d; label = label } ∷ earlier)) deed → Passed (dir_of deed) (message_of m wire (packet_of deed)) (transfer_of h (d ∷ datagrams_of earlier))
  told_step d (Main now) earlier is says before deed at = subst (Passed (dir_of deed) (message_of m wire (packet_of deed))) (sym (with_main earlier d now is))
      (elim (contains_cases now (view_in earlier) deed at) [
        | inl same ↦ inl (subst (λ x. (d.dir ≡ dir_of x) × Spells d.payload (message_of m wire (packet_of x))) same says)
        | inr past ↦ inr (before deed past)
      ])
  told_step d Stray earlier is says before deed at = subst (Passed (dir_of deed) (message_of m wire (packet_of deed))) (sym (with_stray earlier d (ap is_of_transfer is))) (before deed at)
  told_step d StrayAnswer earlier is says before deed at = subst (Passed (dir_of deed) (message_of m wire (packet_of deed))) (sym (with_stray earlier d (ap is_of_transfer is))) (before deed at)

  -- and each deed of the view has passed
  pub told_passed : (division : Division) → AreRouted h m wire division → (deed : Deed) → Contains (view_in division) deed → Passed (dir_of deed) (message_of m wire (packet_of deed)) (transfer_of h (datagrams_of division))
  told_passed [] routed deed at = absurd (contains_none deed at)
  told_passed (p ∷ earlier) routed deed at = told_step p.datagram p.label earlier routed.0 routed.1 (told_passed earlier routed.2) deed at

  -- ---- what the other end can have used

  -- an ERROR begins as one, and no other packet does
  begins : (d : Datagram) (p : MachinePacket) → Spells d.payload (message_of m wire p) → begins_error d ≡ is_error p
  begins d Req s = by m.side d.payload s.1.bytes where
    by : {rest : List ℕ} (side : Side) (p : List ℕ) → p ≡ 0 ∷ side_opcode side ∷ rest → (opcode_of p == 5) ≡ false
    by Get p is = subst (λ x. (opcode_of x == 5) ≡ false) (sym is) refl
    by Put p is = subst (λ x. (opcode_of x == 5) ≡ false) (sym is) refl
  begins d Oack s = subst (λ p. (opcode_of p == 5) ≡ false) (sym s.1.bytes) refl
  begins d (Data k) (b, (x, y, pair, is)) = subst (λ p. (opcode_of p == 5) ≡ false) (sym is) refl
  begins d (Ack j) (b, (x, y, pair, is)) = subst (λ p. (opcode_of p == 5) ≡ false) (sym is) refl
  begins d (Error code text) (b, (x, y, pair, string, is)) = subst (λ p. (opcode_of p == 5) ≡ true) (sym is) refl

  brings : (d : Datagram) (deed : Deed) → SaysAs m wire d (Main deed) → brings_error d ≡ takes_error deed
  brings d (Sent p) says = rw (says.0) refl
  brings d (Took p) says = rw (says.0) (begins d p says.1)

  brought : (division : Division) → AreRouted h m wire division → list_any brings_error (transfer_of h (datagrams_of division)) ≡ stopped (view_in division)
  brought [] routed = refl
  brought (p ∷ earlier) routed = by p.datagram p.label routed.0 routed.1 (brought earlier routed.2) where
    by : (d : Datagram) (label : Label) → route_of h (datagrams_of earlier) d ≡ label_route label → SaysAs m wire d label → list_any brings_error (transfer_of h (datagrams_of earlier)) ≡ stopped (view_in earlier)
        → list_any brings_error (transfer_of h (d ∷ datagrams_of earlier)) ≡ stopped (view_in (record { datagram = d; label = label } ∷ earlier))
    by d (Main deed) is says before = ap (list_any brings_error) (with_main earlier d deed is) ∙ both (brings_error d) (takes_error deed) (brings d deed says) before
      where
        both : (a b : Bool) → a ≡ b → {x y : Bool} → x ≡ y → (a || x) ≡ (b || y)
        both a b e f = rw (e, f) refl
    by d Stray is says before = ap (list_any brings_error) (with_stray earlier d (ap is_of_transfer is)) ∙ before
    by d StrayAnswer is says before = ap (list_any brings_error) (with_stray earlier d (ap is_of_transfer is)) ∙ before

  -- what this end had sent before an ERROR came is what had gone out before it
  pub used_passed : (division : Division) → AreRouted h m wire division → (q : MachinePacket) → HasSent (heard (view_in division)) q → Passed Out (message_of m wire q) (usable (transfer_of h (datagrams_of division)))
  used_passed [] routed q at = absurd (contains_none (Sent q) at)
  used_passed (p ∷ earlier) routed q at = by p.datagram p.label routed.0 routed.1 at (brought earlier routed.2) (used_passed earlier routed.2 q) where
    by : (d : Datagram) (label : Label) → route_of h (datagrams_of earlier) d ≡ label_route label → SaysAs m wire d label → HasSent (heard (view_in (record { datagram = d; label = label } ∷ earlier))) q
        → list_any brings_error (transfer_of h (datagrams_of earlier)) ≡ stopped (view_in earlier)
        → (HasSent (heard (view_in earlier)) q → Passed Out (message_of m wire q) (usable (transfer_of h (datagrams_of earlier))))
        → Passed Out (message_of m wire q) (usable (transfer_of h (d ∷ datagrams_of earlier)))
    by d (Main (Took p)) is says at same more = subst (λ l. Passed Out (message_of m wire q) (usable l)) (sym (with_main earlier d (Took p) is))
        (subst (Passed Out (message_of m wire q)) (sym (usable_now d (transfer_of h (datagrams_of earlier)) (rw (says.0) refl))) (inr (more (heard_sent p q (view_in earlier) at))))
    by d (Main (Sent p)) is says at same more = subst (λ l. Passed Out (message_of m wire q) (usable l)) (sym (with_main earlier d (Sent p) is)) (elim (either (view_in earlier)) [
      | inl over ↦ subst (Passed Out (message_of m wire q)) (sym (usable_past d (transfer_of h (datagrams_of earlier)) (rw (says.0) (same ∙ over)))) (more (subst (λ v. HasSent v q) (heard_stopped (Sent p) (view_in earlier) over) at))
      | inr going ↦ subst (Passed Out (message_of m wire q)) (sym (usable_now d (transfer_of h (datagrams_of earlier)) (rw (says.0) (same ∙ going))))
          (elim (contains_cases (Sent p) (view_in earlier) (Sent q) (subst (λ v. HasSent v q) (heard_all (Sent p ∷ view_in earlier) going) at)) [
            | inl now ↦ let it : p ≡ q = cc in inl (says.0, subst (λ x. Spells d.payload (message_of m wire x)) it says.1)
            | inr before ↦ inr (more (subst (λ v. HasSent v q) (sym (heard_all (view_in earlier) going)) before))
          ])
    ])
    by d Stray is says at same more = subst (λ l. Passed Out (message_of m wire q) (usable l)) (sym (with_stray earlier d (ap is_of_transfer is))) (more at)
    by d StrayAnswer is says at same more = subst (λ l. Passed Out (message_of m wire q) (usable l)) (sym (with_stray earlier d (ap is_of_transfer is))) (more at)

  pub passed_used : (division : Division) → AreRouted h m wire division → (x : Message) → Passed Out x (usable (transfer_of h (datagrams_of division))) → Told m wire (heard (view_in division)) Out x
  passed_used [] routed x p = absurd p
  passed_used (p ∷ earlier) routed x at = by p.datagram p.label routed.0 routed.1 (brought earlier routed.2) (passed_used earlier routed.2 x) at where
    more : (deed : Deed) → Told m wire (heard (view_in earlier)) Out x → Told m wire (heard (deed ∷ view_in earlier)) Out x
    more deed (other, was, way, says) = (other, heard_more deed (view_in earlier) other was, way, says)

    by : (d : Datagram) (label : Label) → route_of h (datagrams_of earlier) d ≡ label_route label → SaysAs m wire d label
        → list_any brings_error (transfer_of h (datagrams_of earlier)) ≡ stopped (view_in earlier)
        → (Passed Out x (usable (transfer_of h (datagrams_of earlier))) → Told m wire (heard (view_in earlier)) Out x)
        → Passed Out x (usable (transfer_of h (d ∷ datagrams_of earlier))) → Told m wire (heard (view_in (record { datagram = d; label = label } ∷ earlier))) Out x
    by d (Main (Took p)) is says same before at = elim (subst (Passed Out x) (ap usable (with_main earlier d (Took p) is) ∙ usable_now d (transfer_of h (datagrams_of earlier)) (rw (says.0) refl)) at) [
      | inl now ↦ let both : In ≡ Out = sym says.0 ∙ now.0 in absurd (cc)
      | inr past ↦ more (Took p) (before past)
    ]
    by d (Main (Sent p)) is says same before at = elim (either (view_in earlier)) [
      | inl over ↦ more (Sent p) (before (subst (Passed Out x) (ap usable (with_main earlier d (Sent p) is) ∙ usable_past d (transfer_of h (datagrams_of earlier)) (rw (says.0) (same ∙ over))) at))
      | inr going ↦ elim (subst (Passed Out x) (ap usable (with_main earlier d (Sent p) is) ∙ usable_now d (transfer_of h (datagrams_of earlier)) (rw (says.0) (same ∙ going))) at) [
        | inl now ↦ (Sent p, subst (λ v. Contains v (Sent p)) (sym (heard_all (Sent p ∷ view_in earlier) going)) (contains_first (Sent p) (view_in earlier)), refl, one_message d.payload (message_of m wire p) x says.1.1 now.1.1)
        | inr past ↦ more (Sent p) (before past)
      ]
    ]
    by d Stray is says same before at = before (subst (Passed Out x) (ap usable (with_stray earlier d (ap is_of_transfer is))) at)
    by d StrayAnswer is says same before at = before (subst (Passed Out x) (ap usable (with_stray earlier d (ap is_of_transfer is))) at)

  -- ---- by kinds

  -- only a block says a block
  pub data_only : (q : MachinePacket) (k : ℕ) (bytes : List ℕ) → message_of m wire q ≡ Message.Data k bytes → (q ≡ Data k) × (bytes ≡ block (blksize_of m) wire k)
  data_only (Data j) k bytes e =
      let same : j ≡ k = cc in
      let text : block (blksize_of m) wire j ≡ bytes = cc in
      (ap Data same, sym text ∙ ap (block (blksize_of m) wire) same)
  data_only _ k bytes e = absurd (cc)

  ack_only : (q : MachinePacket) (j : ℕ) → message_of m wire q ≡ Message.Ack j → q ≡ Ack j
  ack_only (Ack i) j e = let same : i ≡ j = cc in ap Ack same
  ack_only _ j e = absurd (cc)

  sent_of : (view : History) (x : Message) → Told m wire view Out x → (q : MachinePacket) × HasSent view q × (message_of m wire q ≡ x)
  sent_of view x (Sent q, at, way, says) = (q, at, says)
  sent_of view x (Took q, at, way, says) = absurd (cc)

  taken_of : (view : History) (x : Message) → Told m wire view In x → (q : MachinePacket) × HasTaken view q × (message_of m wire q ≡ x)
  taken_of view x (Took q, at, way, says) = (q, at, says)
  taken_of view x (Sent q, at, way, says) = absurd (cc)

  -- what had gone out by then, this end had sent
  pub used_told : (division : Division) → AreRouted h m wire division → (x : Message) → Passed Out x (usable (transfer_of h (datagrams_of division))) → (q : MachinePacket) × HasSent (heard (view_in division)) q × (message_of m wire q ≡ x)
  used_told division routed x p = sent_of (heard (view_in division)) x (passed_used division routed x p)

  pub used_ack : (division : Division) → AreRouted h m wire division → (j : ℕ) → Passed Out (Message.Ack j) (usable (transfer_of h (datagrams_of division))) → HasSent (heard (view_in division)) (Ack j)
  used_ack division routed j p = let (q, at, says) = used_told division routed (Message.Ack j) p in subst (HasSent (heard (view_in division))) (ack_only q j says) at

  module _ (division : Division) (routed : AreRouted h m wire division) where
    abbrev through : List Datagram
    through = transfer_of h (datagrams_of division)

    -- so each kind, one way and back
    pub block_sent : (k : ℕ) (bytes : List ℕ) → Passed Out (Message.Data k bytes) through → HasSent (view_in division) (Data k)
    block_sent k bytes p =
        let (q, at, says) = sent_of (view_in division) (Message.Data k bytes) (passed_told division routed Out (Message.Data k bytes) p) in
        subst (HasSent (view_in division)) (data_only q k bytes says).0 at

    pub ack_went : (j : ℕ) → Passed Out (Message.Ack j) through → HasSent (view_in division) (Ack j)
    ack_went j p =
        let (q, at, says) = sent_of (view_in division) (Message.Ack j) (passed_told division routed Out (Message.Ack j) p) in
        subst (HasSent (view_in division)) (ack_only q j says) at

    pub block_came : (k : ℕ) (bytes : List ℕ) → Passed In (Message.Data k bytes) through → HasTaken (view_in division) (Data k)
    block_came k bytes p =
        let (q, at, says) = taken_of (view_in division) (Message.Data k bytes) (passed_told division routed In (Message.Data k bytes) p) in
        subst (HasTaken (view_in division)) (data_only q k bytes says).0 at

    pub ack_came_in : (j : ℕ) → Passed In (Message.Ack j) through → HasTaken (view_in division) (Ack j)
    ack_came_in j p =
        let (q, at, says) = taken_of (view_in division) (Message.Ack j) (passed_told division routed In (Message.Ack j) p) in
        subst (HasTaken (view_in division)) (ack_only q j says) at

    pub sent_block : (k : ℕ) → HasSent (view_in division) (Data k) → BlockPassed Out k through
    sent_block k at = (block (blksize_of m) wire k, told_passed division routed (Sent (Data k)) at)

    pub taken_block : (k : ℕ) → HasTaken (view_in division) (Data k) → BlockPassed In k through
    taken_block k at = (block (blksize_of m) wire k, told_passed division routed (Took (Data k)) at)

    -- ---- two rules that no lawful deed breaks

    pub not_both : (t : Terms) → IsSender t → IsReceiver t → ⊥
    not_both t sends takes = by t.side (sym sends ∙ takes) where
      by : (side : Side) → sender_of side ≡ receiver_of side → ⊥
      by Get e = cc
      by Put e = cc

    -- AckAhead, where the ACK came in
    pub ack_not_ahead_in : (t : Terms) (j : ℕ) → IsSender t → MayComeAck m h.named (heard (view_in division)) j → AckBreaks t through j EndRule.AckAhead → ⊥
    ack_not_ahead_in t j sends may (reached, inr takes, ahead) = not_both t sends takes.0
    ack_not_ahead_in t j sends may (reached, inl top, ahead) =
        let high = top.1.most j (block (blksize_of m) wire j, used_passed division routed (Data j) (may.sent j (omega arith) (omega arith))) in
        omega arith

    -- and where it went out
    pub ack_not_ahead_out : (t : Terms) (j : ℕ) → IsReceiver t → MaySendAck m h.named (view_in division) j → AckBreaks t through j EndRule.AckAhead → ⊥
    ack_not_ahead_out t j takes may (reached, inl sends, ahead) = not_both t sends.0 takes
    ack_not_ahead_out t j takes may (reached, inr front, ahead) = let at = taken_block (reached + 1) (may.taken (reached + 1) (omega arith) (omega arith)) in front.1.next (at.0, usable_in (Message.Data (reached + 1) at.0) through at.1)

    -- WindowOverrun, where the block came in
    pub within_window_in : (t : Terms) (k : ℕ) (bytes : List ℕ) → IsReceiver t → t.windowsize ≡ windowsize_of m → MayComeData m wire h.named (heard (view_in division)) k → BlockBreaks t through k bytes EndRule.WindowOverrun → ⊥
    within_window_in t k bytes takes size may (acked, inl sends, past) = not_both t sends.0 takes
    within_window_in t k bytes takes size may (acked, inr most, past) =
        let w = may.in_window in
        let near = w.2 in
        let low : w.0 ≤ acked = elim w.1 [ inl none ↦ omega arith | inr at ↦ most.1.most w.0 (used_passed division routed (Ack w.0) at) ] in
        omega arith
