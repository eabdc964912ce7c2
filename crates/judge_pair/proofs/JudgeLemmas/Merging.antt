-- What is merged while two captures are read.
use Rattle.std.proofs.Common.{◌≡◌, true, false, List, ◌∷◌, Option, Some, None, inl, inr, sym, subst, ap, ◌∙◌}
use Rattle.tftp_packet.specs.Hosts.{Datagram, Header}
use Rattle.tftp_packet.specs.{In, Out}
use Rattle.law_model.specs.Rules.{route_of, is_of_transfer, transfer_of}
use Rattle.law_pair.specs.{IsBrought, AreMergedBy}
use Rattle.law_pair.proofs.Merged.{at_client, at_server, turned}
use Rattle.judge_pair.specs.Judge.{WasSent, with_held, Waits, AreMergedBut, IsAskedAgain}
use Rattle.tftp_judge.proofs.Accepting.{transfer_kept, transfer_same}

-- ---- the two ends the other way round

pub in_is_not_out : (d : Datagram) → d.dir ≡ In → d.dir ≡ Out → ⊥
in_is_not_out d came went = let e : In ≡ Out = sym came ∙ went in absurd (cc)

pub but_turned : (held other_held : Option Datagram) (h k : Header) (read other_read : List Datagram) → AreMergedBut held other_held h read k other_read → AreMergedBut other_held held k other_read h read
but_turned held other_held h k read other_read but = record {
  part = but.other_part;
  other_part = but.part;
  is = but.other_is;
  other_is = but.is;
  waits = but.other_waits;
  other_waits = but.waits;
  merged = turned IsBrought (transfer_of h but.part) (transfer_of k but.other_part) but.merged;
}

-- ---- one datagram more

-- what came in was not sent by it
sent_but_in : (payload : List _) (d : Datagram) (passed : List Datagram) → d.dir ≡ In → WasSent payload (d ∷ passed) → WasSent payload passed
sent_but_in payload d passed came sent = (sent.0, sent.1, elim sent.2 [ inl this ↦ absurd (in_is_not_out d came this.0) | inr p ↦ p ])

sent_more : (payload : List _) (d : Datagram) (passed : List Datagram) → WasSent payload passed → WasSent payload (d ∷ passed)
sent_more payload d passed sent = (sent.0, sent.1, inr sent.2)

-- what waits at an end sends nothing
module _ (k : Header) (payload : List _) where
  pub sent_with_held : (held : Option Datagram) (part sent : List Datagram) → Waits k part held sent → WasSent payload (transfer_of k (with_held held part)) → WasSent payload (transfer_of k part)
  sent_with_held None part sent waits was = was
  sent_with_held (Some d) part sent waits was = sent_but_in payload d (transfer_of k part) waits.1 (subst (WasSent payload) (transfer_kept k part d waits.0) was)

  pub sent_without_held : (held : Option Datagram) (part sent : List Datagram) → Waits k part held sent → WasSent payload (transfer_of k part) → WasSent payload (transfer_of k (with_held held part))
  sent_without_held None part sent waits was = was
  sent_without_held (Some d) part sent waits was = subst (WasSent payload) (sym (transfer_kept k part d waits.0)) (sent_more payload d (transfer_of k part) was)

module _ (h k : Header) (read other_read : List Datagram) (d : Datagram) where
  -- a stray, or what answers one
  pub merges_stray : (other_held : Option Datagram) → AreMergedBut None other_held h read k other_read → is_of_transfer (route_of h read d) ≡ false → AreMergedBut None other_held h (d ∷ read) k other_read
  merges_stray other_held but is =
      let on : is_of_transfer (route_of h but.part d) ≡ false = subst (λ (ds : List Datagram). is_of_transfer (route_of h ds d) ≡ false) but.is is in
      let same = transfer_same h but.part d on in
      record {
        part = d ∷ but.part;
        other_part = but.other_part;
        is = ap (λ (ds : List Datagram). d ∷ ds) but.is;
        other_is = but.other_is;
        waits = tt;
        other_waits = subst (Waits k but.other_part other_held) (sym same) but.other_waits;
        merged = subst (λ (ds : List Datagram). AreMergedBy ds (transfer_of k but.other_part)) (sym same) but.merged;
      }

  -- what comes in waits, if the other end has not sent it
  pub merges_held : (other_held : Option Datagram) → AreMergedBut None other_held h read k other_read → is_of_transfer (route_of h read d) ≡ true → d.dir ≡ In
      → (WasSent d.payload (transfer_of k other_read) → ⊥) → AreMergedBut (Some d) other_held h (d ∷ read) k other_read
  merges_held other_held but is came unsent = record {
    part = but.part;
    other_part = but.other_part;
    is = ap (λ (ds : List Datagram). d ∷ ds) but.is;
    other_is = but.other_is;
    waits = (
      subst (λ (ds : List Datagram). is_of_transfer (route_of h ds d) ≡ true) but.is is,
      came,
      λ sent. unsent (subst (λ (ds : List Datagram). WasSent d.payload (transfer_of k ds)) (sym but.other_is) (sent_without_held k d.payload other_held but.other_part (transfer_of h but.part) but.other_waits sent)),
    );
    other_waits = but.other_waits;
    merged = but.merged;
  }

  -- what comes in is merged, if the other end has sent it
  pub merges_in : (other_held : Option Datagram) → AreMergedBut None other_held h read k other_read → is_of_transfer (route_of h read d) ≡ true → d.dir ≡ In
      → WasSent d.payload (transfer_of k other_read) → AreMergedBut None other_held h (d ∷ read) k other_read
  merges_in other_held but is came sent =
      let on : is_of_transfer (route_of h but.part d) ≡ true = subst (λ (ds : List Datagram). is_of_transfer (route_of h ds d) ≡ true) but.is is in
      let same = transfer_kept h but.part d on in
      let brought : WasSent d.payload (transfer_of k but.other_part) = sent_with_held k d.payload other_held but.other_part (transfer_of h but.part) but.other_waits (subst (λ (ds : List Datagram). WasSent d.payload (transfer_of k ds)) but.other_is sent) in
      record {
        part = d ∷ but.part;
        other_part = but.other_part;
        is = ap (λ (ds : List Datagram). d ∷ ds) but.is;
        other_is = but.other_is;
        waits = tt;
        other_waits = still other_held but.other_waits same;
        merged = subst (λ (ds : List Datagram). AreMergedBy ds (transfer_of k but.other_part)) (sym same) (at_client IsBrought d (transfer_of h but.part) (transfer_of k but.other_part) (λ _. brought) but.merged);
      }
    where
      still : (o : Option Datagram) → Waits k but.other_part o (transfer_of h but.part) → transfer_of h (d ∷ but.part) ≡ d ∷ transfer_of h but.part → Waits k but.other_part o (transfer_of h (d ∷ but.part))
      still None waits same = tt
      still (Some e) waits same = (waits.0, waits.1, λ was. waits.2 (sent_but_in e.payload d (transfer_of h but.part) came (subst (WasSent e.payload) same was)))

  -- what goes out is merged, and lets go on what it brings
  pub merges_out : (other_held now : Option Datagram) → AreMergedBut None other_held h read k other_read → is_of_transfer (route_of h read d) ≡ true → d.dir ≡ Out
      → IsAskedAgain other_held now (transfer_of h (d ∷ read)) → AreMergedBut None now h (d ∷ read) k other_read
  merges_out other_held now but is went asked =
      by other_held now but.other_part but.other_is but.other_waits but.merged (subst (λ (ds : List Datagram). IsAskedAgain other_held now (transfer_of h (d ∷ ds))) but.is asked)
    where
      on : is_of_transfer (route_of h but.part d) ≡ true
      on = subst (λ (ds : List Datagram). is_of_transfer (route_of h ds d) ≡ true) but.is is

      same : transfer_of h (d ∷ but.part) ≡ d ∷ transfer_of h but.part
      same = transfer_kept h but.part d on

      more : (part : List Datagram) → AreMergedBy (transfer_of h but.part) (transfer_of k part) → AreMergedBy (transfer_of h (d ∷ but.part)) (transfer_of k part)
      more part merged = subst (λ (ds : List Datagram). AreMergedBy ds (transfer_of k part)) (sym same) (at_client IsBrought d (transfer_of h but.part) (transfer_of k part) (λ came. absurd (in_is_not_out d came went)) merged)

      by : (o n : Option Datagram) (part : List Datagram) → other_read ≡ with_held o part → Waits k part o (transfer_of h but.part) → AreMergedBy (transfer_of h but.part) (transfer_of k part)
          → IsAskedAgain o n (transfer_of h (d ∷ but.part)) → AreMergedBut None n h (d ∷ read) k other_read
      by None n part is_read waits merged asked_now = record {
        part = d ∷ but.part;
        other_part = part;
        is = ap (λ (ds : List Datagram). d ∷ ds) but.is;
        other_is = is_read ∙ ap (λ o. with_held o part) (sym asked_now);
        waits = tt;
        other_waits = subst (λ o. Waits k part o (transfer_of h (d ∷ but.part))) (sym asked_now) tt;
        merged = more part merged;
      }
      by (Some e) None part is_read waits merged asked_now = record {
        part = d ∷ but.part;
        other_part = e ∷ part;
        is = ap (λ (ds : List Datagram). d ∷ ds) but.is;
        other_is = is_read;
        waits = tt;
        other_waits = tt;
        merged = subst (λ (ds : List Datagram). AreMergedBy (transfer_of h (d ∷ but.part)) ds) (sym (transfer_kept k part e waits.0))
            (at_server IsBrought e (transfer_of h (d ∷ but.part)) (transfer_of k part) (λ _. asked_now) (more part merged));
      }
      by (Some e) (Some f) part is_read waits merged asked_now = record {
        part = d ∷ but.part;
        other_part = part;
        is = ap (λ (ds : List Datagram). d ∷ ds) but.is;
        other_is = is_read ∙ ap (λ (x : Datagram). x ∷ part) (sym asked_now.0);
        waits = tt;
        other_waits = subst (λ (x : Datagram). Waits k part (Some x) (transfer_of h (d ∷ but.part))) (sym asked_now.0) (waits.0, waits.1, asked_now.1);
        merged = more part merged;
      }
