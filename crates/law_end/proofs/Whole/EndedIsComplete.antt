-- What has ended by the rules is complete at the named end, for each meaning and wire in accord with it.
use Rattle.std.proofs.Common.{◌≡◌, ℕ, ◌≤◌, List, Some, None, inl, inr, sym, subst, ap, ◌∙◌}
use Rattle.tftp_packet.specs.{RequestParts}
use Rattle.tftp_packet.specs.Hosts.{Datagram, Header}
use Rattle.law_model.specs.Model.{Meaning, request_of, NothingAgreed, blksize_of, block_count, Ack, HasSent, HasTaken, IsOneSided, IsComplete}
use Rattle.law_model.specs.Model.Roles.{sender_of, receiver_of}
use Rattle.law_model.specs.Rules.{transfer_of, IsLast, IsSender, IsReceiver}
use Rattle.law_model.specs.{Terms}
use Rattle.law_end.specs.{Division, datagrams_of, view_in, Accords, AreRouted, NotAnswered, IsEnded, AreTermsAfter}
use Rattle.law_end.proofs.FirstBroken.FirstAnswered.{not_both}
use Rattle.law_end.proofs.Soundness.Settled.{settled}
use Rattle.law_end.proofs.Accord.PassedIsDone.{block_came, ack_went, ack_came_in}
use Rattle.law_end.proofs.Accord.KnownTerms.{State, state, named_is, side_is, numbers}
use Rattle.law_end.proofs.Completeness.NextDeed.{few, as_blocks}
use Rattle.law_end.proofs.Accord.BlockLengths.{the_last}

module _ (h : Header) (m : Meaning) (wire : List ℕ)
    (division : Division) (routed : AreRouted h m wire division) (own : IsOneSided m wire h.named (view_in division))
    (acc : Accords h m wire (datagrams_of division)) (ended : IsEnded h (datagrams_of division)) where
  abbrev ds : List Datagram
  ds = datagrams_of division

  abbrev through : List Datagram
  through = transfer_of h ds

  abbrev t : Terms
  t = ended.terms

  request : ended.known.0 ≡ request_of m
  request = acc.asked ended.known.0 ended.known.1

  known : AreTermsAfter h (request_of m) through t
  known = subst (λ r. AreTermsAfter h r through t) request ended.known.2

  st : State h m wire acc.fits division routed own t
  st = state h m wire acc.fits division routed own t known

  -- a last block that is known tells of an answer
  plain_of : IsLast t through ended.last → NotAnswered m.side through → NothingAgreed m
  plain_of (inl (bytes, p, short)) none =
      let s = settled h ds ended.lawful ended.known.0 ended.known.1 t ended.known in
      absurd (s.answered ended.last bytes p (subst (λ (r : RequestParts). NotAnswered r.side through) (sym request) none))
  plain_of (inr (size, is, at)) none = elim st [
    | inl x ↦ let both : None ≡ Some size = sym (ap (λ (u : Terms). u.size) x.1) ∙ is in absurd (cc)
    | inr x ↦ elim x [ inl y ↦ absurd (not_both m.side through _ none y.1) | inr y ↦ y.0 ]
  ]

  last_is : ended.last ≡ block_count (blksize_of m) wire
  last_is =
      let nu = numbers h m wire acc.fits division routed own (plain_of ended.whole.known) t st in
      the_last wire t nu.some (few h m wire acc.fits division routed own t nu) nu.size through (as_blocks h m wire acc.fits division routed own t nu) ended.last ended.whole.known
      ∙ ap (λ b. block_count b wire) nu.blksize

  receives : h.named ≡ receiver_of m.side → IsReceiver t
  receives is = named_is h m wire acc.fits division routed own t st ∙ is ∙ ap receiver_of (sym (side_is h m wire acc.fits division routed own t st))

  gives : h.named ≡ sender_of m.side → IsSender t
  gives is = named_is h m wire acc.fits division routed own t st ∙ is ∙ ap sender_of (sym (side_is h m wire acc.fits division routed own t st))

  -- the last block by the rules is the last of the wire
  pub completed : IsComplete m wire h.named (view_in division)
  completed = record {
    took = λ is k low up. let b = (ended.whole.front (receives is)).below k low (subst (λ i. k ≤ i) (sym last_is) up) in block_came h m wire division routed k b.0 b.1;
    acknowledged = λ is. subst (λ i. HasSent (view_in division) (Ack i)) last_is (ack_went h m wire division routed ended.last (ended.whole.acknowledged (receives is)));
    was_told = λ is. subst (λ i. HasTaken (view_in division) (Ack i)) last_is (ack_came_in h m wire division routed ended.last (ended.whole.was_told (gives is)));
  }
