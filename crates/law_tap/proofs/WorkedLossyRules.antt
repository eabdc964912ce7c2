-- The worked lists and the rules with losses.
use Rattle.std.proofs.Common.{◌≡◌, ◌⊎◌, ℕ, ◌+◌, ◌/◌, ◌%◌, ◌≤◌, true, false, List, [], ◌∷◌, length, Option, Some, None, codes, inl, inr, refl, sym, subst, ap, ◌∙◌, arith}
use Rattle.std.proofs.lemmas.Nat.{mod_below, div-add-mod'}
use Rattle.std.specs.Cmp.Lexicographic.{nat_list_cmp_total}
use Rattle.std.specs.FinMap as map
use Rattle.std.specs.FinMap.{same_map, nat_cmp-IsAntisymmetric, slice_cmp-IsAntisymmetric}
use Rattle.tftp_packet.specs.{OptionMap, OptionValue, no_options, RequestParts, Message, Spells, End, Client, Server}
use Rattle.tftp_nego.specs.{MayAgree, number_or}
use Rattle.law_model.specs.Model.{request_of, two_bytes}
use Rattle.law_model.specs.{EndRule, PortRule}
use Rattle.law_end.specs.{Rule}
use Rattle.law_end.proofs.Division.Divided.{any_none, any_cases, any_first, any_later}
use Rattle.law_end.proofs.Division.RouteTests.{same_is}
use Rattle.law_end.proofs.Soundness.MadeMeaning.{none_found, none_may_be_agreed}
use Rattle.law_end.proofs.Spelled.{spelled_once}
use Rattle.law_tap.specs.{TapDatagram, TapSides, AreApart, asks_in, is_passing, TapBroken, BreaksNoTapRule, worked_sides, hi_passes, ack_passes, read_between}
use Rattle.law_tap.specs.Losses.{nothing, kept, lost}
use Rattle.law_tap.specs.LossesBetween.{IsLawfulBetweenWithLosses, IsCertainBetween}
use Rattle.law_tap.specs.LossyRules.{lossy_route, IsSaidBy, IsSaid, IsNumber, IsBlockLength, Explains, NothingExplains, block_size, LossyBroken}
use Rattle.law_tap.specs.WorkedLosses.{server_acknowledges, ack_above, ho_passes, second_passes, zero_passes, block_between}
use Rattle.law_tap.specs.WorkedTap.{request_passes, stray_passes, answer_passes}
use Rattle.law_tap.proofs.LossyCertain.{broken_is_certain}
use Rattle.law_tap.proofs.StandingRules.{standing_is_certain}
use Rattle.law_tap.proofs.TapTests.{source_is}
use Rattle.law_tap.proofs.WorkedLosses.{request_says, first_block_says, ack_says}
use Rattle.law_tap.proofs.WorkedLossesBetween.{read_between_lossy}
use Rattle.law_tap.proofs.WorkedTap.{read_shown, read_passes, sides_apart}

-- ---- the ways of the transfer

request_goes : (s : TapSides) (d : TapDatagram) → d.source ≡ s.client → asks_in d.payload ≡ true → d.destination ≡ s.asked → is_passing (lossy_route s d) ≡ true
request_goes s d source asks to = rw (same_is d.source s.client source, asks, same_is d.destination s.asked to) refl

client_goes : (s : TapSides) (d : TapDatagram) → d.source ≡ s.client → asks_in d.payload ≡ false → d.destination ≡ s.server → is_passing (lossy_route s d) ≡ true
client_goes s d source plain to = rw (same_is d.source s.client source, plain, same_is d.destination s.server to) refl

server_goes : (s : TapSides) → AreApart s → (d : TapDatagram) → d.source ≡ s.server → d.destination ≡ s.client → is_passing (lossy_route s d) ≡ true
server_goes s apart d source to = rw (source_is s apart d Server Client source, source_is s apart d Server Server source, same_is d.destination s.client to) refl

-- ---- what is said

abbrev pub asked : RequestParts
asked = request_of two_bytes

request_said : IsSaidBy worked_sides Client (Message.Request asked) request_passes
request_said = record { goes = request_goes worked_sides request_passes refl refl refl; source = refl; spells = request_says }

hi_said : IsSaidBy worked_sides Server (Message.Data 1 (104 ∷ 105 ∷ [])) hi_passes
hi_said = record { goes = server_goes worked_sides sides_apart hi_passes refl refl; source = refl; spells = first_block_says 104 105 (omega arith) (omega arith) }

pub ho_said : IsSaidBy worked_sides Server (Message.Data 1 (104 ∷ 111 ∷ [])) ho_passes
ho_said = record { goes = server_goes worked_sides sides_apart ho_passes refl refl; source = refl; spells = first_block_says 104 111 (omega arith) (omega arith) }

above_said : IsSaidBy worked_sides Client (Message.Ack 2) ack_above
above_said = record {
  goes = client_goes worked_sides ack_above refl refl refl;
  source = refl;
  spells = ((omega arith, (omega arith, (omega arith, tt))), (0, 2, (omega arith, omega arith), refl));
}

second_said : IsSaidBy worked_sides Server (Message.Data 2 (104 ∷ 105 ∷ [])) second_passes
second_said = record {
  goes = server_goes worked_sides sides_apart second_passes refl refl;
  source = refl;
  spells = ((omega arith, (omega arith, (omega arith, (omega arith, (omega arith, tt))))), (0, 2, (omega arith, omega arith), refl));
}

zero_said : IsSaidBy worked_sides Client (Message.Ack 0) zero_passes
zero_said = record {
  goes = client_goes worked_sides zero_passes refl refl refl;
  source = refl;
  spells = ((omega arith, (omega arith, (omega arith, tt))), (0, 0, (omega arith, omega arith), refl));
}

pub asked_before : IsSaid worked_sides block_between Client (Message.Request asked)
asked_before = any_later (IsSaidBy worked_sides Client (Message.Request asked)) hi_passes (request_passes ∷ []) (any_first (IsSaidBy worked_sides Client (Message.Request asked)) request_passes [] request_said)

pub hi_before : IsSaid worked_sides block_between Server (Message.Data 1 (104 ∷ 105 ∷ []))
hi_before = any_first (IsSaidBy worked_sides Server (Message.Data 1 (104 ∷ 105 ∷ []))) hi_passes (request_passes ∷ []) hi_said

-- ---- with no option asked for a block has 512 bytes

nothing_agreed : (agreed : OptionMap) → MayAgree worked_sides.rollover asked agreed → agreed ≡ no_options
nothing_agreed agreed may = same_map nat_list_cmp_total (slice_cmp-IsAntisymmetric nat_cmp-IsAntisymmetric) agreed no_options (λ name. by name (map.get agreed name) refl ∙ sym (none_found name)) where
  by : (name : List ℕ) (o : Option OptionValue) → map.get agreed name ≡ o → map.get agreed name ≡ None
  by name None is = is
  by name (Some value) is =
      let answer = may.asked name value is in
      let both : None ≡ Some (OptionValue.Num answer.0) = sym (none_found name) ∙ answer.2 in
      absurd (cc)

plain_size : (agreed : OptionMap) → MayAgree worked_sides.rollover asked agreed → block_size agreed ≡ 512
plain_size agreed may = ap block_size (nothing_agreed agreed may) ∙ ap (number_or 512) (none_found (codes "blksize"))

above_unexplained : NothingExplains worked_sides asked (ack_above ∷ block_between)
above_unexplained agreed total x =
    let size = plain_size agreed x.may in
    let high = x.numbers 2 (Client, inl (any_first (IsSaidBy worked_sides Client (Message.Ack 2)) ack_above block_between above_said)) in
    elim (x.blocks Server 1 (104 ∷ 105 ∷ []) (any_later (IsSaidBy worked_sides Server (Message.Data 1 (104 ∷ 105 ∷ []))) ack_above block_between hi_before)) [
      | inl whole ↦ let is = whole.1 in omega (arith, is, size)
      | inr last ↦ let at = last.0 in omega (arith, at, high)
    ]

second_unexplained : NothingExplains worked_sides asked (second_passes ∷ block_between)
second_unexplained agreed total x =
    let size = plain_size agreed x.may in
    let high = x.numbers 2 (Server, inr (104 ∷ 105 ∷ [], any_first (IsSaidBy worked_sides Server (Message.Data 2 (104 ∷ 105 ∷ []))) second_passes block_between second_said)) in
    elim (x.blocks Server 1 (104 ∷ 105 ∷ []) (any_later (IsSaidBy worked_sides Server (Message.Data 1 (104 ∷ 105 ∷ []))) second_passes block_between hi_before)) [
      | inl whole ↦ let is = whole.1 in omega (arith, is, size)
      | inr last ↦ let at = last.0 in omega (arith, at, high)
    ]

zero_unexplained : NothingExplains worked_sides asked (zero_passes ∷ request_passes ∷ [])
zero_unexplained agreed total x =
    x.zero refl Client (any_first (IsSaidBy worked_sides Client (Message.Ack 0)) zero_passes (request_passes ∷ []) zero_said) (nothing_agreed agreed x.may)

-- ---- nothing else is said

says_one : (d : TapDatagram) (e : End) (n x : Message) → Spells d.payload n → IsSaidBy worked_sides e x d → x ≡ n
says_one d e n x spells said = spelled_once d.payload x n said.spells spells

either_says : (d : TapDatagram) (n : Message) → Spells d.payload n → (e : End) (x : Message) → IsSaid worked_sides (d ∷ request_passes ∷ []) e x → (x ≡ n) ⊎ (x ≡ Message.Request asked)
either_says d n spells e x said = elim (any_cases (IsSaidBy worked_sides e x) d (request_passes ∷ []) said) [
  | inl now ↦ inl (says_one d e n x spells now)
  | inr before ↦ elim (any_cases (IsSaidBy worked_sides e x) request_passes [] before) [
    | inl now ↦ inr (says_one request_passes e (Message.Request asked) x request_says now)
    | inr none ↦ absurd (any_none (IsSaidBy worked_sides e x) none)
  ]
]

usual : block_size no_options ≡ 512
usual = ap (number_or 512) (none_found (codes "blksize"))

abbrev hi : Message
hi = Message.Data 1 (104 ∷ 105 ∷ [])

hi_or_request : (e : End) (x : Message) → IsSaid worked_sides block_between e x → (x ≡ hi) ⊎ (x ≡ Message.Request asked)
hi_or_request e x said = either_says hi_passes hi hi_said.spells e x said

pub hi_given : (e : End) (options : OptionMap) → IsSaid worked_sides block_between e (Message.Oack options) → (options ≡ no_options) × (no_options ≡ no_options → ⊥)
hi_given e options said = elim (hi_or_request e (Message.Oack options) said) [ inl is ↦ absurd (cc) | inr is ↦ absurd (cc) ]

pub hi_zero : (e : End) → IsSaid worked_sides block_between e (Message.Ack 0) → no_options ≡ no_options → ⊥
hi_zero e said = elim (hi_or_request e (Message.Ack 0) said) [ inl is ↦ absurd (cc) | inr is ↦ absurd (cc) ]

two_long : (1 ≡ 2 / 512 + 1) × (2 ≡ 2 % 512)
two_long = let split = div-add-mod' 2 512 in let low = mod_below 2 512 (omega arith) in (omega (arith, split, low), omega (arith, split, low))

pub hi_few : 2 / block_size no_options + 1 ≤ 65535
hi_few = subst (λ b. 2 / b + 1 ≤ 65535) (sym usual) (let long = two_long.0 in omega (arith, long))

pub hi_numbers : (k : ℕ) → IsNumber worked_sides block_between k → k ≤ 2 / block_size no_options + 1
hi_numbers k (e, inl said) = elim (hi_or_request e (Message.Ack k) said) [ inl is ↦ absurd (cc) | inr is ↦ absurd (cc) ]
hi_numbers k (e, inr (bytes, said)) = elim (hi_or_request e (Message.Data k bytes) said) [ inl is ↦ let first : k ≡ 1 = cc in omega (arith, first) | inr is ↦ absurd (cc) ]

pub hi_blocks : (e : End) (k : ℕ) (bytes : List ℕ) → IsSaid worked_sides block_between e (Message.Data k bytes) → IsBlockLength (block_size no_options) 2 k (length bytes)
hi_blocks e k bytes said = elim (hi_or_request e (Message.Data k bytes) said) [
  | inr is ↦ absurd (cc)
  | inl is ↦
      let first : 1 ≡ k = cc in
      let these : (104 ∷ 105 ∷ []) ≡ bytes = cc in
      subst (λ b. IsBlockLength b 2 k (length bytes)) (sym usual) (subst (λ i. IsBlockLength 512 2 i (length bytes)) first (subst (λ x. IsBlockLength 512 2 1 (length x)) these (inr two_long)))
]

-- an ACK of the one block of an empty file
ack_or_request : (e : End) (x : Message) → IsSaid worked_sides (ack_passes ∷ request_passes ∷ []) e x → (x ≡ Message.Ack 1) ⊎ (x ≡ Message.Request asked)
ack_or_request e x said = either_says ack_passes (Message.Ack 1) ack_says e x said

pub ack_explained : Explains worked_sides asked (ack_passes ∷ request_passes ∷ []) no_options 0
ack_explained = record {
  may = none_may_be_agreed None asked;
  spelled = λ some. absurd (some refl);
  given = λ e options said. elim (ack_or_request e (Message.Oack options) said) [ inl is ↦ absurd (cc) | inr is ↦ absurd (cc) ];
  zero = λ get e said. elim (ack_or_request e (Message.Ack 0) said) [ inl is ↦ let other : ◌≡◌ {A = ℕ} 0 1 = cc in absurd (omega (arith, other)) | inr is ↦ absurd (cc) ];
  size = λ octet size has. let both : None ≡ Some (OptionValue.Num size) = sym (none_found (codes "tsize")) ∙ has in absurd (cc);
  numbered = subst (λ b. 0 / b + 1 ≤ 65535) (sym usual) (let split = div-add-mod' 0 512 in omega (arith, split));
  numbers = numbered_one;
  blocks = λ e k bytes said. elim (ack_or_request e (Message.Data k bytes) said) [ inl is ↦ absurd (cc) | inr is ↦ absurd (cc) ];
}
  where
    numbered_one : (k : ℕ) → IsNumber worked_sides (ack_passes ∷ request_passes ∷ []) k → k ≤ 0 / block_size no_options + 1
    numbered_one k (e, inr (bytes, said)) = elim (ack_or_request e (Message.Data k bytes) said) [ inl is ↦ absurd (cc) | inr is ↦ absurd (cc) ]
    numbered_one k (e, inl said) = elim (ack_or_request e (Message.Ack k) said) [ inl is ↦ let first : k ≡ 1 = cc in omega (arith, first) | inr is ↦ absurd (cc) ]

-- ---- the cases

pub block_lossy : IsLawfulBetweenWithLosses worked_sides block_between
block_lossy = record {
  all = read_between;
  lawful = (two_bytes, two_bytes.file, read_shown.seen);
  left = lost ack_passes _ _ (lost answer_passes _ _ (lost stray_passes _ _ (kept hi_passes _ _ (kept request_passes _ _ nothing))));
}

pub above_broken : LossyBroken worked_sides block_between ack_above (Rule.Block EndRule.AckAhead)
above_broken = inr (inr (record { end = Client; message = Message.Ack 2; says = above_said; asked = asked; request = asked_before; breaks = (omega arith, above_unexplained) }))

pub above_certain : IsCertainBetween worked_sides block_between ack_above
above_certain = broken_is_certain worked_sides block_between ack_above (Rule.Block EndRule.AckAhead) sides_apart above_broken

pub ho_differs : ◌≡◌ {A = List ℕ} (104 ∷ 111 ∷ []) (104 ∷ 105 ∷ []) → ⊥
ho_differs same = let i : ◌≡◌ {A = ℕ} 111 105 = cc in absurd (omega (arith, i))

pub change_broken : LossyBroken worked_sides block_between ho_passes (Rule.Block EndRule.BlockChanged)
change_broken = inr (inr (record { end = Server; message = Message.Data 1 (104 ∷ 111 ∷ []); says = ho_said; asked = asked; request = asked_before; breaks = (104 ∷ 105 ∷ [], hi_before, ho_differs) }))

pub change_certain : IsCertainBetween worked_sides block_between ho_passes
change_certain = broken_is_certain worked_sides block_between ho_passes (Rule.Block EndRule.BlockChanged) sides_apart change_broken

pub ack_uncertain : IsCertainBetween worked_sides (request_passes ∷ []) ack_passes → ⊥
ack_uncertain certain = certain read_between_lossy

pub ack_unbroken : (broken : Rule) → LossyBroken worked_sides (request_passes ∷ []) ack_passes broken → ⊥
ack_unbroken broken b = ack_uncertain (broken_is_certain worked_sides (request_passes ∷ []) ack_passes broken sides_apart b)

pub second_broken : LossyBroken worked_sides block_between second_passes (Rule.Block EndRule.BlockLength)
second_broken = inr (inr (record { end = Server; message = Message.Data 2 (104 ∷ 105 ∷ []); says = second_said; asked = asked; request = asked_before; breaks = second_unexplained }))

pub second_certain : IsCertainBetween worked_sides block_between second_passes
second_certain = broken_is_certain worked_sides block_between second_passes (Rule.Block EndRule.BlockLength) sides_apart second_broken

pub zero_broken : LossyBroken worked_sides (request_passes ∷ []) zero_passes (Rule.Block EndRule.AckZero)
zero_broken = inr (inr (record {
  end = Client;
  message = Message.Ack 0;
  says = zero_said;
  asked = asked;
  request = any_first (IsSaidBy worked_sides Client (Message.Request asked)) request_passes [] request_said;
  breaks = (refl, zero_unexplained);
}))

pub zero_certain : IsCertainBetween worked_sides (request_passes ∷ []) zero_passes
zero_certain = broken_is_certain worked_sides (request_passes ∷ []) zero_passes (Rule.Block EndRule.AckZero) sides_apart zero_broken

-- ---- by the rule's name

pub request_alone : BreaksNoTapRule worked_sides (request_passes ∷ [])
request_alone = read_passes.1.1.1.1

pub sender_acknowledges : TapBroken worked_sides (request_passes ∷ []) server_acknowledges Rule.WrongKind
sender_acknowledges = inr (refl, inl (asked, (request_passes, refl, request_says), Server, refl, (Message.Ack 1, ack_says, tt)))

pub sender_certain : IsCertainBetween worked_sides (request_passes ∷ []) server_acknowledges
sender_certain = standing_is_certain worked_sides (request_passes ∷ []) server_acknowledges Rule.WrongKind sides_apart request_alone sender_acknowledges tt

pub silent_server : TapBroken worked_sides (request_passes ∷ []) ack_passes (Rule.Port PortRule.Wrong)
silent_server = inl refl
