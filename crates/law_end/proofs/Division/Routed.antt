-- At either end the labels of a division have their routes.
use Rattle.std.proofs.Common.{◌≡◌, ℕ, List, refl, sym, subst, ap}
use Rattle.tftp_packet.specs.{End, Client, Server}
use Rattle.tftp_packet.specs.Hosts.{Header}
use Rattle.law_model.specs.Model.{Meaning, IsOneSided}
use Rattle.law_end.specs.{Division, view_in, TransferIds, Saying, says_of, HaveLabelsBy, HaveLabels, AreRoutedBy, AreRouted, Starts}
use Rattle.law_end.proofs.Division.Opening.{one_sided_starts}
use Rattle.law_end.proofs.Division.RouteTests.{request_begins, other_begins, IsTold}
use Rattle.law_end.proofs.Division.ClientRoutes.{routed_at_client}
use Rattle.law_end.proofs.Division.ServerRoutes.{no_error_first, routed_at_server}

pub named_is : (h : Header) (e : End) → h.named ≡ e → h ≡ record { named = e; service = h.service; rollover = h.rollover }
named_is h e is = ap (λ x. record { named = x; service = h.service; rollover = h.rollover }) is

-- whatever says the packets
pub routed_by : (h : Header) (says : Saying) → IsTold says → (ids : TransferIds) (division : Division) → HaveLabelsBy h says ids division → Starts h.named (view_in division) → AreRoutedBy h says division
routed_by h says told ids division labels starts = by h.named refl where
  by : (e : End) → h.named ≡ e → AreRoutedBy h says division
  by Client is = subst (λ (x : Header). AreRoutedBy x says division) (sym (named_is h Client is))
      (routed_at_client h.service h.rollover says told ids division (subst (λ (x : Header). HaveLabelsBy x says ids division) (named_is h Client is) labels) (subst (λ x. Starts x (view_in division)) is starts))
  by Server is = subst (λ (x : Header). AreRoutedBy x says division) (sym (named_is h Server is))
      (routed_at_server h.service h.rollover says told ids division (subst (λ (x : Header). HaveLabelsBy x says ids division) (named_is h Server is) labels) (subst (λ x. Starts x (view_in division)) is starts))

-- as a meaning says them a request begins as one, and nothing else does
pub told_of : (m : Meaning) (wire : List ℕ) → IsTold (says_of m wire)
told_of m wire = record {
  request = λ payload s. request_begins payload _ s;
  other = λ p apart payload s. other_begins m wire payload p apart s;
}

-- the labels of a run start with the client's request
pub starts_of : (h : Header) (m : Meaning) (wire : List ℕ) (ids : TransferIds) (division : Division) → HaveLabels h m wire ids division → IsOneSided m wire h.named (view_in division) → Starts h.named (view_in division)
starts_of h m wire ids division labels own = one_sided_starts m wire h.named (view_in division) own
    (λ server. no_error_first h.service h.rollover (says_of m wire) (told_of m wire) ids division (subst (λ (x : Header). HaveLabelsBy x (says_of m wire) ids division) (named_is h Server server) labels))

-- and so they have their routes
pub routed : (h : Header) (m : Meaning) (wire : List ℕ) (ids : TransferIds) (division : Division) → HaveLabels h m wire ids division → IsOneSided m wire h.named (view_in division) → AreRouted h m wire division
routed h m wire ids division labels own = routed_by h (says_of m wire) (told_of m wire) ids division labels (starts_of h m wire ids division labels own)
