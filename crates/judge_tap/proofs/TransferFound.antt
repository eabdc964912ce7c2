-- What is found of a datagram of a transfer between the ends, and what is kept of it.
use Rattle.std.proofs.Common.{◌≡◌, ◌⊎◌, ℕ, true, false, List, [], ◌∷◌, Option, Some, None, Result, Ok, Err, inl, inr, refl, sym, subst, ap, ◌∙◌, arith, ◌↔◌, ◌&&◌, not, nat_lt, IfOk}
use Rattle.std.proofs.lemmas.Bool.{true≢false, ltb-true, ltb-false, cases_Bool}
use Rattle.tftp_packet.specs.{Message, RequestParts, Spells, FirstFault, meaning, Packet, PacketFault, End}
use Rattle.tftp_judge.specs.{NoneBreaks, Finds, PassError}
use Rattle.tftp_packet.specs.Hosts.{Datagram, Header}
use Rattle.law_model.specs.Rules.{is_of_transfer, or_this, route_of}
use Rattle.law_model.specs.Model.Roles.{receiver_of}
use Rattle.law_end.specs.{Broken, NoErrorBy, number_of, Rule}
use Rattle.law_end.specs.declared.rule.Rule.TheVariants as rule
use Rattle.law_end.proofs.Division.RouteTests.{same_is}
use Rattle.law_end.proofs.Spelled.{spelled_once}
use Rattle.law_tap.specs.{TapDatagram, TapSides, side_of, AreApart, tap_tests, FirstTapAsked, header_at, is_of_ports, kept_between, recorded_at, TapRoute}
use Rattle.law_tap.proofs.TapMade.{ports_off}
use Rattle.law_tap.proofs.TapTests.{asks_says}
use Rattle.judge_tap.specs.{FindsRule, IsOtherError, IsReadOf, OwnBreaks, IsErrorAtTap, IsReadUnless, ReceiverBreaks, TransferBreaks, smaller_of}
use Rattle.tftp_judge.specs.declared.pass_error.PassError.TheVariants.{Broken as Breaks, Memory}
use Rattle.judge_tap.proofs.OwnFound.{asked_same, other_error}

-- what breaks another rule than one of ports at an end is of the transfer there
content_on : (h : Header) (earlier : List Datagram) (d : Datagram) (broken : Rule) → is_of_ports broken ≡ false → Broken h earlier d broken → is_of_transfer (route_of h earlier d) ≡ true
content_on h earlier d (rule.Port port) content b = absurd (true≢false content)
content_on h earlier d rule.NoRequest content b = ap is_of_transfer b.1
content_on h earlier d (rule.Malformed fault) content b = b.0
content_on h earlier d _ content b = b.says.routed

-- ---- the first of the rules of two kinds

both_none : (One Other : Rule → Type 0) → NoneBreaks One → NoneBreaks Other → NoneBreaks (λ r. One r ⊎ Other r)
both_none One Other one other r b = elim b [ inl x ↦ one r x | inr y ↦ other r y ]

-- those of them that are none of ports
abbrev pub Content : (Rule → Type 0) → Rule → Type 0
Content There r = (is_of_ports r ≡ false) × There r

-- Of all that is found at an end those of ports are not told. Where one of them is broken there, no other one is, and an own one
-- is.
module _ (One There : Rule → Type 0) (After : Type 0) (split : (p r : Rule) → is_of_ports p ≡ true → There p → is_of_ports r ≡ false → There r → ⊥) where
  none_content : (p : Rule) → is_of_ports p ≡ true → There p → NoneBreaks (Content There)
  none_content p ports there r c = split p r ports there c.0 c.1

  pub found_both : (own : Option Rule) (found : Result (Unit {0}) PassError) → (NoneBreaks (λ r. One r ⊎ Content There r) → (p : Rule) → is_of_ports p ≡ true → There p → ⊥) → FindsRule One own → Finds There After found
      → Finds (λ r. One r ⊎ Content There r) After (smaller_of own found)
  found_both None (Ok u) stand none f = (both_none One (Content There) none (λ r c. f.0 r c.1), f.1)
  found_both None (Err Memory) stand none f = both_none One (Content There) none (λ r c. f r c.1)
  found_both None (Err (Breaks other)) stand none f = elim (cases_Bool (is_of_ports other)) [
    | inl ports ↦ absurd (stand (both_none One (Content There) none (none_content other ports f.0)) other ports f.0)
    | inr content ↦ (inr (content, f.0), λ r low b. elim b [ inl x ↦ none r x | inr y ↦ f.1 r low y.1 ])
  ]
  found_both (Some own) (Ok u) stand o f = (inl o.0, λ r low b. elim b [ inl x ↦ o.1 r low x | inr y ↦ f.0 r y.1 ])
  found_both (Some own) (Err Memory) stand o f = (inl o.0, λ r low b. elim b [ inl x ↦ o.1 r low x | inr y ↦ f r y.1 ])
  found_both (Some own) (Err (Breaks other)) stand o f = elim (cases_Bool (is_of_ports other)) [
    | inl ports ↦ rw (ports) (inl o.0, λ r low b. elim b [ inl x ↦ o.1 r low x | inr y ↦ none_content other ports f.0 r y ])
    | inr content ↦ elim (cases_Bool (nat_lt (number_of other) (number_of own))) [
      | inl lower ↦
          let less = ltb-true (number_of other) (number_of own) lower in
          rw (content, lower) (inr (content, f.0), λ r low b. elim b [ inl x ↦ o.1 r (omega (arith, less, low)) x | inr y ↦ f.1 r low y.1 ])
      | inr upper ↦
          let least = ltb-false (number_of other) (number_of own) upper in
          rw (content, upper) (inl o.0, λ r low b. elim b [ inl x ↦ o.1 r low x | inr y ↦ f.1 r (omega (arith, least, low)) y.1 ])
    ]
  ]

pub memory_smaller : (own : Option Rule) (found : Result (Unit {0}) PassError) → smaller_of own found ≡ Err Memory → found ≡ Err Memory
memory_smaller None found is = is
memory_smaller (Some own) (Ok v) is = cc
memory_smaller (Some own) (Err Memory) is = refl
memory_smaller (Some own) (Err (Breaks other)) is = elim (cases_Bool (not (is_of_ports other) && nat_lt (number_of other) (number_of own))) [ inl lower ↦ absurd (by_true lower) | inr upper ↦ absurd (by_false upper) ] where
  by_true : (not (is_of_ports other) && nat_lt (number_of other) (number_of own)) ≡ true → ⊥
  by_true lower = let same = rw (lower) at is in cc

  by_false : (not (is_of_ports other) && nat_lt (number_of other) (number_of own)) ≡ false → ⊥
  by_false upper = let same = rw (upper) at is in cc

-- the same of rules that are broken together
pub found_map : (One Other : Rule → Type 0) (After : Type 0) → ((r : Rule) → One r → Other r) → ((r : Rule) → Other r → One r) → (found : Result (Unit {0}) PassError) → Finds One After found → Finds Other After found
found_map One Other After to back (Ok u) f = (λ r b. f.0 r (back r b), f.1)
found_map One Other After to back (Err (Breaks other)) f = (to other f.0, λ r low b. f.1 r low (back r b))
found_map One Other After to back (Err Memory) f = λ r b. f r (back r b)

-- ---- after the first request

module _ (s : TapSides) (passed : List TapDatagram) (asked : RequestParts) (first : FirstTapAsked s passed asked) (route : TapRoute) (d : TapDatagram) where
  to_transfer : (r : Rule) → OwnBreaks s passed route d r ⊎ Content (ReceiverBreaks s asked.side passed d) r → TransferBreaks s passed route d r
  to_transfer r (inl b) = inl b
  to_transfer r (inr b) = inr (record { of_content = b.0; asked = asked; first = first; stays = b.1.0; breaks = b.1.1 })

  of_transfer : (r : Rule) → TransferBreaks s passed route d r → OwnBreaks s passed route d r ⊎ Content (ReceiverBreaks s asked.side passed d) r
  of_transfer r (inl b) = inl b
  of_transfer r (inr k) = inr (k.of_content, subst (λ (q : RequestParts). ReceiverBreaks s q.side passed d r) (asked_same s passed k.asked asked k.first first) (k.stays, k.breaks))

  -- a rule of ports and another one are not broken together at an end
  split : (p r : Rule) → is_of_ports p ≡ true → ReceiverBreaks s asked.side passed d p → is_of_ports r ≡ false → ReceiverBreaks s asked.side passed d r → ⊥
  split p r ports there content other =
      let h = header_at s asked.side in
      let kept = kept_between s asked.side passed in
      let now = recorded_at s (receiver_of asked.side) d in
      true≢false (sym (content_on h kept now r content other.1) ∙ ports_off h kept now p ports there.1)

  pub transfer_found : (After : Type 0) (own : Option Rule) (found : Result (Unit {0}) PassError) → (NoneBreaks (TransferBreaks s passed route d) → (p : Rule) → ReceiverBreaks s asked.side passed d p → ⊥)
      → FindsRule (OwnBreaks s passed route d) own → Finds (ReceiverBreaks s asked.side passed d) After found → Finds (TransferBreaks s passed route d) After (smaller_of own found)
  transfer_found After own found stand o f = found_map (λ r. OwnBreaks s passed route d r ⊎ Content (ReceiverBreaks s asked.side passed d) r) (TransferBreaks s passed route d) After to_transfer of_transfer (smaller_of own found)
      (found_both (OwnBreaks s passed route d) (ReceiverBreaks s asked.side passed d) After split own found (λ none p ports. stand (λ r b. none r (of_transfer r b)) p) o f)

  -- where none is broken, an ERROR is the first one again, and it can be read
  pub no_other_error : AreApart s → NoneBreaks (TransferBreaks s passed route d) → (e : End) → d.source ≡ side_of s e → (m : Message) → Spells d.payload m → IsOtherError s passed e m → ⊥
  no_other_error apart none e source m says other = none rule.AfterError (inl (inl (other_error s apart passed asked first route d e source m says m says other)))

  pub no_fault_in : NoneBreaks (TransferBreaks s passed route d) → (fault : PacketFault) → FirstFault d.payload fault → ⊥
  no_fault_in none fault is = none (rule.Malformed fault) (inl (inl is))

  -- so it can be read
  pub reads_in : NoneBreaks (TransferBreaks s passed route d) → (read : Result Packet PacketFault) → IsReadOf d.payload read → (m : Message) × Spells d.payload m
  reads_in none (Ok p) is = (meaning p, is)
  reads_in none (Err fault) is = absurd (no_fault_in none fault is)

  -- the first request stays the first
  pub asked_stays : FirstTapAsked s (d ∷ passed) asked
  asked_stays = (first.0, ap (λ o. or_this o ((tap_tests s).asks d) d) first.1, first.2)

pub asked_first : (s : TapSides) (d : TapDatagram) (asked : RequestParts) → d.source ≡ s.client → Spells d.payload (Message.Request asked) → FirstTapAsked s (d ∷ []) asked
asked_first s d asked source says = (d, rw (same_is d.source s.client source, asks_says d.payload (Message.Request asked) says) refl, says)

-- ---- the first ERROR

no_error_in : (s : TapSides) (d : TapDatagram) (m : Message) → Spells d.payload m → ((code : ℕ) (text : List ℕ) → m ≡ Message.Error code text → ⊥) → (end : End) (code : ℕ) → IsErrorAtTap s d end code → ⊥
no_error_in s d m says other end code e = other code e.1 (spelled_once d.payload m (Message.Error code e.1) says e.2)

pub none_after : (s : TapSides) (passed : List TapDatagram) (d : TapDatagram) (m : Message) → Spells d.payload m → ((code : ℕ) (text : List ℕ) → m ≡ Message.Error code text → ⊥) → NoErrorBy (IsErrorAtTap s) passed → NoErrorBy (IsErrorAtTap s) (d ∷ passed)
none_after s passed d m says other none = (no_error_in s d m says other, none)

pub request_no_error : (s : TapSides) (d : TapDatagram) (asked : RequestParts) → Spells d.payload (Message.Request asked) → NoErrorBy (IsErrorAtTap s) (d ∷ [])
request_no_error s d asked says = none_after s [] d (Message.Request asked) says (λ code text is. cc) tt

-- ---- one step

-- what is read of a payload
pub read_of : (payload : List ℕ) (r : Result Packet PacketFault) → IfOk r (λ p. Spells payload (meaning p)) → ((f : PacketFault) → (r ≡ Err f) ↔ FirstFault payload f) → IsReadOf payload r
read_of payload (Ok p) found fault = found
read_of payload (Err f) found fault = (fault f).0 refl

-- the answer, and that what breaks no rule can be read
reads_always : (payload : List ℕ) (found : Result (Unit {0}) PassError) → (m : Message) × Spells payload m → IsReadUnless found payload
reads_always payload (Ok u) read = read
reads_always payload (Err Memory) read = read
reads_always payload (Err (Breaks r)) read = tt

pub answer_read : (s : TapSides) (passed : List TapDatagram) (route : TapRoute) (d : TapDatagram) (own : Option Rule) (found : Result (Unit {0}) PassError) (read : Result Packet PacketFault)
    → IsReadOf d.payload read → FindsRule (OwnBreaks s passed route d) own → IsReadUnless (smaller_of own found) d.payload
answer_read s passed route d own found (Ok p) is o = reads_always d.payload (smaller_of own found) (meaning p, is)
answer_read s passed route d None found (Err fault) is none = absurd (none (rule.Malformed fault) (inl is))
answer_read s passed route d (Some own) (Ok u) (Err fault) is o = tt
answer_read s passed route d (Some own) (Err Memory) (Err fault) is o = tt
answer_read s passed route d (Some own) (Err (Breaks other)) (Err fault) is o = elim (cases_Bool (not (is_of_ports other) && nat_lt (number_of other) (number_of own))) [ inl lower ↦ rw (lower) tt | inr upper ↦ rw (upper) tt ]

pub found_err : (Breaking : Rule → Type 0) (One Other : Type 0) (e : PassError) → Finds Breaking One (Err e) → Finds Breaking Other (Err e)
found_err Breaking One Other (Breaks r) f = f
found_err Breaking One Other Memory f = f
