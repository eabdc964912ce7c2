-- What is refused at an end is certain where what was agreed to for an option is known.
use Rattle.std.proofs.Common.{◌≡◌, ℕ, ◌<◌, ◌≤◌, List, ◌∷◌, ◌++◌, length, reverse, Option, Some, None, codes, inl, inr, refl, sym, subst, ap, ◌∙◌, arith}
use Rattle.std.specs.FinMap as map
use Rattle.std.specs.FinMap.{same_map, nat_cmp-IsAntisymmetric, slice_cmp-IsAntisymmetric}
use Rattle.std.specs.Cmp.Lexicographic.{nat_list_cmp_total, slice_cmp}
use Rattle.std.specs.Ordering.{nat_cmp}
use Rattle.tftp_packet.specs.{OptionMap, no_options, OptionValue, Num, Message, RequestParts, Side, Get, Put, Spells, Dir, Out}
use Rattle.tftp_packet.specs.Rounds.{greatest_of}
use Rattle.tftp_packet.specs.Hosts.{Datagram, Header}
use Rattle.tftp_nego.specs.{AreInRange, Holds, NegoFault, number_or, option_or}
use Rattle.tftp_nego.proofs.Numbers.{map_in_range}
use Rattle.tftp_nego.proofs.Tested.{no_fault as fits_so}
use Rattle.law_model.specs.Model.{Meaning, SomethingAgreed, request_of, blksize_of, windowsize_of, block, block_count, Data, Deed, Sent, Took, IsOneSided, LetsAckZeroOn, MayAckZeroOn, Ack, Error, Oack, Req, heard, message_of}
use Rattle.law_model.specs.Model.Roles.{sender_of, receiver_of}
use Rattle.law_model.specs.Rules.{AckBreaks, BlockBreaks, HasPassed, Passed, IsSender, transfer_of}
use Rattle.law_model.specs.{EndRule, Reply, Terms}
use Rattle.law_end.specs.{Agrees, AreRouted, AreTermsAfter, Begins, Broken, Division, FirstAnswer, FirstAsked, Fits, IsRefused, MessageBreaks, Rule, TermsBreak, datagrams_of, dir_of, number_of, packet_of, plain_terms, terms_after, view_in}
use Rattle.law_end.specs.declared.rule.Rule.TheVariants as rule
use Rattle.law_end.proofs.Accord.BlockLengths.{not_beyond, not_misfit}
use Rattle.law_end.proofs.Accord.KnownTerms.{blocks_are}
use Rattle.law_end.proofs.Accord.PassedIsDone.{block_sent, data_only}
use Rattle.law_end.proofs.FirstBroken.FirstAnswered.{first_one, not_both}
use Rattle.law_end.proofs.FirstBroken.FirstRequests.{asked_once}
use Rattle.law_end.proofs.Soundness.MadeMeaning.{answer_spelled, from_eight, size_is as number_at}
use Rattle.law_end.proofs.Soundness.Searches.{oack_from}
use Rattle.law_end.proofs.Division.Divided.{any_first}
use Rattle.law_end.proofs.Spelled.{spelled_once}
use Rattle.law_tap.specs.Losses.{IsCertain}
use Rattle.law_tap.specs.StandingAtEnd.{AsksForNothing, GoesOnWith, IsForOtherEnd, IsKnownOption, KnowsOtherEnd, StandsByOptions}
use Rattle.law_tap.proofs.EndStands.{IsKept, IsSaidSo, agreed_once, before, has_more, is_oack, kept_is_certain, only_oack, something}

-- ---- a deed of a fuller list, after less of what passed

module _ (h : Header) (m : Meaning) (wire : List ℕ) (fits : Fits h.rollover m wire) (rest : Division) (routes : AreRouted h m wire rest) (deed : Deed) (own : IsOneSided m wire h.named (deed ∷ view_in rest))
    (passed : List Datagram) (more : (dir : Dir) (n : Message) → Passed dir n passed → Passed dir n (transfer_of h (datagrams_of rest))) where
  -- what was agreed first there was agreed
  answer_so : (o : OptionMap) → FirstAnswer m.side passed (Agrees o) → o ≡ m.agreed
  answer_so o answer = agreed_once h m wire fits rest routes deed own passed more o (has_more h m wire fits rest routes deed own passed more (Message.Oack o) (oack_from m.side passed o answer))

  -- what was not asked for was not
  not_agreed : (name : List ℕ) → map.get m.requested name ≡ None → map.get m.agreed name ≡ None
  not_agreed name none = by (map.get m.agreed name) refl where
    by : (o : Option OptionValue) → map.get m.agreed name ≡ o → map.get m.agreed name ≡ None
    by None is = is
    by (Some value) is = let (n, given, had, value_is, may) = fits.may_agree.asked name value is in let both : None ≡ Some (Num n) = sym none ∙ had in absurd (cc)

  unasked_so : (name : List ℕ) (default : ℕ) → map.get m.requested name ≡ None → option_or default m.agreed name ≡ default
  unasked_so name default none = ap (number_or default) (not_agreed name none)

  -- the terms have the number of a known option
  module _ (name : List ℕ) (default : ℕ) (part : Terms → ℕ) (plain : (reply : Reply) → part (plain_terms h m.side reply) ≡ default)
      (after : (o : OptionMap) → part (terms_after h (request_of m) (Agrees o)) ≡ option_or default o name) (known : IsKnownOption name (request_of m) passed) where
    number_is : (t : Terms) → AreTermsAfter h (request_of m) passed t → part t ≡ option_or default m.agreed name
    number_is t (inl (none, is)) = elim known [
      | inl unasked ↦ ap part is ∙ plain Reply.NoReply ∙ sym (unasked_so name default unasked)
      | inr agreed ↦ absurd (not_both m.side passed (Agrees agreed.0) none agreed.1)
    ]
    number_is t (inr (Agrees o, answer, is)) = ap part is ∙ after o ∙ ap (λ a. option_or default a name) (answer_so o answer)
    number_is t (inr (Begins, answer, is)) = elim known [
      | inl unasked ↦ ap part is ∙ plain Reply.Plain ∙ sym (unasked_so name default unasked)
      | inr agreed ↦ let both : Begins ≡ Agrees agreed.0 = first_one m.side passed Begins (Agrees agreed.0) answer agreed.1 in absurd (cc)
    ]

  window_is : IsKnownOption (codes "windowsize") (request_of m) passed → (t : Terms) → AreTermsAfter h (request_of m) passed t → t.windowsize ≡ windowsize_of m
  window_is known t are = number_is (codes "windowsize") 1 (λ u. u.windowsize) (λ reply. refl) (λ o. refl) known t are

  size_is : IsKnownOption (codes "blksize") (request_of m) passed → (t : Terms) → AreTermsAfter h (request_of m) passed t → t.blksize ≡ blksize_of m
  size_is known t are = number_is (codes "blksize") 512 (λ u. u.blksize) (λ reply. refl) (λ o. refl) known t are

  some_size : IsKnownOption (codes "blksize") (request_of m) passed → 0 < blksize_of m
  some_size (inl unasked) = let is = unasked_so (codes "blksize") 512 unasked in omega (arith, is)
  some_size (inr (agreed, answer)) =
      let (d, s) = answer_spelled m.side passed agreed answer in
      let eight = from_eight (map.get agreed (codes "blksize")) (subst AreInRange (sym s.1.map) (map_in_range s.1.pairs) (codes "blksize")) in
      let is = ap (λ a. option_or 512 a (codes "blksize")) (answer_so agreed answer) in
      omega (arith, eight, is)

  total_is : (t : Terms) → AreTermsAfter h (request_of m) passed t → (size : ℕ) → t.size ≡ Some size → length wire ≡ size
  total_is t (inl (none, is)) size at = let both : None ≡ Some size = sym (ap (λ (u : Terms). u.size) is) ∙ at in absurd (cc)
  total_is t (inr (Begins, answer, is)) size at = let both : None ≡ Some size = sym (ap (λ (u : Terms). u.size) is) ∙ at in absurd (cc)
  total_is t (inr (Agrees o, answer, is)) size at =
      let (octet, get) = number_at m.mode (map.get o (codes "tsize")) size (sym (ap (λ (u : Terms). u.size) is) ∙ at) in
      fits.size octet size (ap (λ a. map.get a (codes "tsize")) (sym (answer_so o answer)) ∙ get)

  greatest_is : (t : Terms) → AreTermsAfter h (request_of m) passed t → t.greatest ≡ greatest_of h.rollover
  greatest_is t (inl (none, is)) = ap (λ (u : Terms). u.greatest) is
  greatest_is t (inr (Agrees o, answer, is)) = ap (λ (u : Terms). u.greatest) is
  greatest_is t (inr (Begins, answer, is)) = ap (λ (u : Terms). u.greatest) is

  sender_is : (t : Terms) → AreTermsAfter h (request_of m) passed t → IsSender t → h.named ≡ sender_of m.side
  sender_is t (inl (none, is)) sends = subst IsSender is sends
  sender_is t (inr (Agrees o, answer, is)) sends = subst IsSender is sends
  sender_is t (inr (Begins, answer, is)) sends = subst IsSender is sends

  -- ---- the rules

  one_part : (side : Side) → sender_of side ≡ receiver_of side → ⊥
  one_part Get e = absurd (cc)
  one_part Put e = absurd (cc)

  -- a sender in lock step does not go back
  back : (k : ℕ) (bytes : List ℕ) → message_of m wire (packet_of deed) ≡ Message.Data k bytes → IsKnownOption (codes "windowsize") (request_of m) passed
      → (t : Terms) → AreTermsAfter h (request_of m) passed t → BlockBreaks t passed k bytes EndRule.GoneBack → ⊥
  back k bytes says known t are (sends, one, (top, is_top, below)) = by deed own (data_only h m wire (packet_of deed) k bytes says).0 where
    step : windowsize_of m ≡ 1
    step = sym (window_is known t are) ∙ one

    by : (x : Deed) → IsOneSided m wire h.named (x ∷ view_in rest) → packet_of x ≡ Data k → ⊥
    by (Sent (Data j)) is e = elim is_top.member [
      | inl zero ↦ omega (arith, zero, below)
      | inr sent ↦
          let same : j ≡ k = cc in
          let up = is.0.in_step step top (block_sent h m wire rest routes top sent.0 (more Out (Message.Data top sent.0) sent.1)) in
          omega (arith, same, up, below)
    ]
    by (Took (Data j)) is e = one_part m.side (sym (sender_is t are sends) ∙ is.0.receiver)
    by (Sent p) is e = absurd (cc)
    by (Took p) is e = absurd (cc)

  -- a block has the length of its place, and the last one alone the greatest number
  module _ (known : IsKnownOption (codes "blksize") (request_of m) passed) (t : Terms) (are : AreTermsAfter h (request_of m) passed t) where
    same_size : t.blksize ≡ blksize_of m
    same_size = size_is known t are

    some : 0 < t.blksize
    some = let more_than = some_size known in omega (arith, more_than, same_size)

    few : block_count t.blksize wire ≤ t.greatest
    few = subst (λ g. block_count t.blksize wire ≤ g) (sym (greatest_is t are)) (subst (λ b. block_count b wire ≤ greatest_of h.rollover) (sym same_size) fits.numbered)

    blocks : (k : ℕ) (bytes : List ℕ) → HasPassed (Message.Data k bytes) passed → (1 ≤ k) × (k ≤ block_count t.blksize wire) × (bytes ≡ block t.blksize wire k)
    blocks k bytes p = subst (λ b. (1 ≤ k) × (k ≤ block_count b wire) × (bytes ≡ block b wire k)) (sym same_size)
        (blocks_are h m wire fits rest routes (before h m wire rest deed own) k bytes (has_more h m wire fits rest routes deed own passed more (Message.Data k bytes) p))

    numbered_so : (k : ℕ) → (x : Deed) → IsOneSided m wire h.named (x ∷ view_in rest) → packet_of x ≡ Data k → (1 ≤ k) × (k ≤ block_count t.blksize wire)
    numbered_so k (Sent (Data j)) is e = let same : j ≡ k = cc in subst (λ b. (1 ≤ k) × (k ≤ block_count b wire)) (sym same_size) (subst (λ i. (1 ≤ i) × (i ≤ block_count (blksize_of m) wire)) same (is.0.from_one, is.0.in_wire))
    numbered_so k (Took (Data j)) is e = let same : j ≡ k = cc in subst (λ b. (1 ≤ k) × (k ≤ block_count b wire)) (sym same_size) (subst (λ i. (1 ≤ i) × (i ≤ block_count (blksize_of m) wire)) same (is.0.from_one, is.0.in_wire))
    numbered_so k (Sent p) is e = absurd (cc)
    numbered_so k (Took p) is e = absurd (cc)

    module _ (k : ℕ) (bytes : List ℕ) (says : message_of m wire (packet_of deed) ≡ Message.Data k bytes) where
      block_is : (packet_of deed ≡ Data k) × (bytes ≡ block (blksize_of m) wire k)
      block_is = data_only h m wire (packet_of deed) k bytes says

      bounds : (1 ≤ k) × (k ≤ block_count t.blksize wire)
      bounds = numbered_so k deed own block_is.0

      of_wire : bytes ≡ block t.blksize wire k
      of_wire = block_is.1 ∙ ap (λ b. block b wire k) (sym same_size)

      beyond : BlockBreaks t passed k bytes EndRule.BeyondBlock65535 → ⊥
      beyond breaks = not_beyond wire t some few (total_is t are) passed blocks k bounds.0 bounds.1 (subst (λ x. BlockBreaks t passed k x EndRule.BeyondBlock65535) of_wire breaks)

      misfit : BlockBreaks t passed k bytes EndRule.BlockLength → ⊥
      misfit breaks = not_misfit wire t some few (total_is t are) passed blocks k bounds.0 bounds.1 (subst (λ x. BlockBreaks t passed k x EndRule.BlockLength) of_wire breaks)

  -- what was agreed has blocks that can be numbered
  too_great : (options : OptionMap) → message_of m wire (packet_of deed) ≡ Message.Oack options → Holds h.rollover NegoFault.BeyondBlock65535 (request_of m) options → ⊥
  too_great options says holds =
      let agrees : SomethingAgreed m = something h m wire fits rest routes deed own passed more deed own (only_oack h m wire fits rest routes deed own passed more (packet_of deed) options says) in
      let is : options ≡ m.agreed = is_oack h m wire fits rest routes deed own passed more (packet_of deed) options says in
      fits_so h.rollover (request_of m) m.agreed agrees fits.may_agree NegoFault.BeyondBlock65535 (subst (Holds h.rollover NegoFault.BeyondBlock65535 (request_of m)) is holds)

  -- nothing was agreed to, and so no ACK 0 answers an OACK
  nothing_agreed : AsksForNothing (request_of m) → m.agreed ≡ no_options
  nothing_agreed nothing = same_map nat_list_cmp_total (slice_cmp-IsAntisymmetric nat_cmp-IsAntisymmetric) m.agreed no_options
      (λ name. not_agreed name (nothing name) ∙ sym (map.get-empty (slice_cmp nat_cmp) name))

  zero : (j : ℕ) → message_of m wire (packet_of deed) ≡ Message.Ack j → m.side ≡ Get → AsksForNothing (request_of m) → j ≡ 0 → ⊥
  zero j says get nothing none = by deed own says where
    by : (x : Deed) → IsOneSided m wire h.named (x ∷ view_in rest) → message_of m wire (packet_of x) ≡ Message.Ack j → ⊥
    by (Sent (Ack i)) is e = let same : i ≡ j = cc in (subst (λ side. MayAckZeroOn side m (view_in rest)) get (is.0.zero (same ∙ none))).0 (nothing_agreed nothing)
    by (Took (Ack i)) is e = let same : i ≡ j = cc in (subst (λ side. LetsAckZeroOn side m (heard (view_in rest))) get (is.0.zero (same ∙ none))).0 (nothing_agreed nothing)
    by (Sent Req) is e = absurd (cc)
    by (Sent Oack) is e = absurd (cc)
    by (Sent (Data k)) is e = absurd (cc)
    by (Sent (Error code text)) is e = absurd (cc)
    by (Took Req) is e = absurd (cc)
    by (Took Oack) is e = absurd (cc)
    by (Took (Data k)) is e = absurd (cc)
    by (Took (Error code text)) is e = absurd (cc)

  -- a block by its terms
  of_terms : (k : ℕ) (bytes : List ℕ) → message_of m wire (packet_of deed) ≡ Message.Data k bytes → (e : EndRule) → StandsByOptions (request_of m) passed (Message.Data k bytes) (rule.Block e)
      → TermsBreak h (request_of m) passed (Message.Data k bytes) (rule.Block e) → ⊥
  of_terms k bytes says EndRule.GoneBack stands (e, is, t, are, breaks) =
      let same : EndRule.GoneBack ≡ e = cc in back k bytes says stands t are (subst (BlockBreaks t passed k bytes) (sym same) breaks)
  of_terms k bytes says EndRule.BeyondBlock65535 stands (e, is, t, are, breaks) =
      let same : EndRule.BeyondBlock65535 ≡ e = cc in beyond stands t are k bytes says (subst (BlockBreaks t passed k bytes) (sym same) breaks)
  of_terms k bytes says EndRule.BlockLength stands (e, is, t, are, breaks) =
      let same : EndRule.BlockLength ≡ e = cc in misfit stands t are k bytes says (subst (BlockBreaks t passed k bytes) (sym same) breaks)
  of_terms k bytes says _ stands b = absurd stands

  by_message : (n : Message) → message_of m wire (packet_of deed) ≡ n → (broken : Rule) → StandsByOptions (request_of m) passed n broken → MessageBreaks h (request_of m) passed (dir_of deed) n broken → ⊥
  by_message (Message.Data k bytes) says (rule.Block e) stands (inl (is, wrong)) = absurd (cc)
  by_message (Message.Data k bytes) says (rule.Block e) stands (inr (inl (is, after))) = absurd (cc)
  by_message (Message.Data k bytes) says (rule.Block e) stands (inr (inr b)) = of_terms k bytes says e stands b
  by_message (Message.Oack options) says (rule.Block EndRule.BeyondBlock65535) stands (inl (is, wrong)) = absurd (cc)
  by_message (Message.Oack options) says (rule.Block EndRule.BeyondBlock65535) stands (inr (inl (is, after))) = absurd (cc)
  by_message (Message.Oack options) says (rule.Block EndRule.BeyondBlock65535) stands (inr (inr b)) = too_great options says b.1
  by_message (Message.Ack j) says (rule.Block EndRule.AckZero) stands (inl (is, wrong)) = absurd (cc)
  by_message (Message.Ack j) says (rule.Block EndRule.AckZero) stands (inr (inl (is, after))) = absurd (cc)
  by_message (Message.Ack j) says (rule.Block EndRule.AckZero) stands (inr (inr (e, is, t, are, breaks))) =
      let same : EndRule.AckZero ≡ e = cc in zero j says stands.0 stands.1 (subst (AckBreaks t passed j) (sym same) breaks).0
  by_message n says _ stands b = absurd stands

-- ---- the law

module _ (h : Header) (later earlier : List Datagram) (d : Datagram) (broken : Rule) (asked : RequestParts) (n : Message) (refused : IsRefused h earlier d broken) (first : FirstAsked h earlier asked)
    (says : Spells d.payload n) (stands : StandsByOptions asked (transfer_of h earlier) n broken) where
  from : 4 < number_of broken
  from = by n broken stands where
    by : (x : Message) (r : Rule) → StandsByOptions asked (transfer_of h earlier) x r → 4 < number_of r
    by (Message.Data k bytes) (rule.Block EndRule.GoneBack) stands = omega arith
    by (Message.Data k bytes) (rule.Block EndRule.BlockLength) stands = omega arith
    by (Message.Data k bytes) (rule.Block EndRule.BeyondBlock65535) stands = omega arith
    by (Message.Oack options) (rule.Block EndRule.BeyondBlock65535) stands = omega arith
    by (Message.Ack j) (rule.Block EndRule.AckZero) stands = omega arith
    by x _ stands = absurd stands

  said_so : IsSaidSo h earlier d broken
  said_so = by n broken refused.broken.0 stands where
    by : (x : Message) (r : Rule) → Broken h earlier d r → StandsByOptions asked (transfer_of h earlier) x r → IsSaidSo h earlier d r
    by (Message.Data k bytes) (rule.Block e) b stands = inr b
    by (Message.Oack options) (rule.Block e) b stands = inr b
    by (Message.Ack j) (rule.Block e) b stands = inr b
    by x _ b stands = absurd stands

  for_other : IsForOtherEnd n
  for_other = by n broken stands where
    by : (x : Message) (r : Rule) → StandsByOptions asked (transfer_of h earlier) x r → IsForOtherEnd x
    by (Message.Data k bytes) r stands = tt
    by (Message.Oack options) r stands = tt
    by (Message.Ack j) r stands = tt
    by x _ stands = absurd stands

  pub known_options_certain : KnowsOtherEnd h (d ∷ earlier) → IsCertain h (reverse (later ++ d ∷ earlier)) (length earlier)
  known_options_certain known = kept_is_certain h later earlier d broken refused from said_so keep known where
    keep : IsKept h earlier d broken
    keep m wire fits rest routes deed own more first_m x spells message b =
        let same : asked ≡ request_of m = asked_once h earlier asked (request_of m) first first_m in
        let one : n ≡ x = spelled_once d.payload n x says spells in
        by_message h m wire fits rest routes deed own (transfer_of h earlier) more x message broken
        (subst (λ a. StandsByOptions a (transfer_of h earlier) x broken) same (subst (λ y. StandsByOptions asked (transfer_of h earlier) y broken) one stands)) b

  pub own_options_certain : d.dir ≡ Out → IsCertain h (reverse (later ++ d ∷ earlier)) (length earlier)
  own_options_certain out = known_options_certain (inr (any_first GoesOnWith d earlier (record { out = out; message = n; says = says; alone = for_other })))
