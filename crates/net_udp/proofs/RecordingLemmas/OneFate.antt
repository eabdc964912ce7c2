-- What becomes of a frame is one thing.
use Rattle.std.proofs.Common.{◌≡◌, Bool, true, false, inl, inr, List, ◌∷◌, Option, Some, None, refl, sym, ap, ◌∙◌, subst}
use Rattle.std.proofs.lemmas.Bool.{false≢true}
use Rattle.net_udp.specs.Copies.{Packet as Recorded}
use Rattle.net_udp.specs.Fragments.{content_of as put_together}
use Rattle.net_udp.specs.declared.fragments.outcome.Outcome.{Outcome}
use Rattle.net_udp.specs.declared.fragments.outcome.Outcome.TheVariants.{Waits as Held, Apart as Torn, Empty as Bare, TooLong as Long, Full as Crowded}
use Rattle.net_udp.specs.Fragments.Whole.{Content}
use Rattle.net_udp.specs.declared.fragments.outcome.Outcome.TheVariants.{Whole}
use Rattle.net_udp.specs.Frames.{SpellsFrame, Packet, HoldsUdp, SpellsUdp, Udp}
use Rattle.net_udp.specs.declared.frames.fault.FrameFault.{FrameFault}
use Rattle.net_udp.specs.declared.frames.fault.UdpFault.{UdpFault}
use Rattle.net_udp.specs.declared.frames.fault.UdpFault.TheVariants.{Protocol as NotUdp}
use Rattle.net_udp.proofs.FramesLemmas.Datagrams.{fault_one, udp_one}
use Rattle.net_udp.proofs.FramesLemmas.Datagrams as datagrams
use Rattle.net_udp.proofs.FramesLemmas.FaultOrder.{first_one, no_fault, packet_one}
use Rattle.net_pcap.specs.{FrameParts}
use Rattle.net_udp.specs.Recording.{HasFault, IsDatagram, IsFate, IsFateBy, IsFateOf, IsSent, IsSentBy, IsSentOf, Says, content_of, sharers, Comes, IsLike, recorded, IsSameDatagram, IsSameFate}
use Rattle.net_udp.specs.declared.recording.fate.Fate.{Fate}
use Rattle.net_udp.specs.declared.recording.fate.Fate.TheVariants.{Discarded, Left, Waits}
use Rattle.net_udp.specs.declared.recording.fate.LeftOut.{LeftOut}
use Rattle.net_udp.specs.declared.recording.sent.Sent.{Sent}
use Rattle.net_udp.specs.declared.recording.fate.LeftOut.TheVariants.{Frame, Udp as NoUdp, Apart, Empty, TooLong, Full}
use Rattle.net_udp.specs.declared.recording.likeness.Likeness.{Likeness}
use Rattle.net_udp.specs.declared.recording.fate.Datagram.{Datagram as Given}
use Rattle.net_udp.specs.declared.recording.fate.Fate.TheVariants.{Datagram}
use Rattle.net_udp.specs.declared.recording.fate.LeftOut.TheVariants.{Copy}
use Rattle.net_udp.specs.declared.recording.likeness.Likeness.TheVariants as likeness
use Rattle.net_udp.proofs.RecordingLemmas.KeptOnce.{IsSame}

-- ---- likeness

like_one : (before : List Recorded) (frame : FrameParts) (p : Packet) (l m : Likeness) → IsLike before frame p l → IsLike before frame p m → l ≡ m
like_one before frame p likeness.New likeness.Doubtful a b = absurd (a b.0)
like_one before frame p likeness.New likeness.Copy a b = absurd (a b.0)
like_one before frame p likeness.Doubtful likeness.New a b = absurd (b a.0)
like_one before frame p likeness.Doubtful likeness.Copy a b = absurd (false≢true (sym a.1 ∙ b.1))
like_one before frame p likeness.Copy likeness.New a b = absurd (b a.0)
like_one before frame p likeness.Copy likeness.Doubtful a b = absurd (false≢true (sym b.1 ∙ a.1))
like_one before frame p _ _ a b = refl

pub comes_one : (before : List Recorded) (frame : FrameParts) (l m : Likeness) (came now : List Recorded) → Comes before frame l came → Comes before frame m now → (l ≡ m) × (came ≡ now)
comes_one before frame l m came now (inl a) (inl b) = (a.1 ∙ sym b.1, a.2 ∙ sym b.2)
comes_one before frame l m came now (inl a) (inr b) = absurd (a.0 b.0 b.1)
comes_one before frame l m came now (inr a) (inl b) = absurd (b.0 a.0 a.1)
comes_one before frame l m came now (inr a) (inr b) =
    let e : b.0 ≡ a.0 = packet_one frame.link frame.bytes b.0 a.0 b.1 a.1 in
    (like_one before frame a.0 l m a.2 (subst (λ (x : Packet). IsLike before frame x m) e b.2), a.3 ∙ ap (λ (x : Packet). recorded frame x ∷ before) (sym e) ∙ sym b.3)

-- ---- what a frame says

same_datagram : (frame : FrameParts) (p : Packet) (udp : Udp) (d e : Given) → IsDatagram frame p udp d → IsDatagram frame p udp e → IsSameDatagram d e
same_datagram frame p udp d e g h = record {
  direction = g.direction ∙ sym h.direction;
  source = g.source ∙ sym h.source;
  source_port = g.source_port ∙ sym h.source_port;
  target = g.target ∙ sym h.target;
  target_port = g.target_port ∙ sym h.target_port;
  payload = g.payload ∙ sym h.payload;
}

module _ (frame : FrameParts) (whole : Option Content) where
  one_packet : (p q : Packet) → SpellsFrame frame.link frame.bytes p → SpellsFrame frame.link frame.bytes q → q ≡ p
  one_packet p q s t = packet_one frame.link frame.bytes q p t s

  one_datagram : (p q : Packet) (udp : Udp) → SpellsFrame frame.link frame.bytes p → SpellsFrame frame.link frame.bytes q → SpellsUdp (content_of q whole).protocol (content_of q whole).bytes udp → SpellsUdp (content_of p whole).protocol (content_of p whole).bytes udp
  one_datagram p q udp s t u = subst (λ (x : Packet). SpellsUdp (content_of x whole).protocol (content_of x whole).bytes udp) (one_packet p q s t) u

  -- a content that is a datagram has no fault, and others have one
  no_fault_of : (p : Packet) (udp : Udp) (fault : UdpFault) → SpellsFrame frame.link frame.bytes p → SpellsUdp (content_of p whole).protocol (content_of p whole).bytes udp → HasFault frame whole fault → ⊥
  no_fault_of p udp fault s u (q, t, holds) = datagrams.no_fault (content_of q whole).protocol (content_of q whole).bytes udp fault (one_datagram q p udp t s u) holds

  one_fault_of : (one other : UdpFault) → HasFault frame whole one → HasFault frame whole other → other ≡ one
  one_fault_of one other (p, s, holds) (q, t, has) =
      fault_one (content_of p whole).protocol (content_of p whole).bytes other one (subst (λ (x : Packet). HoldsUdp other (content_of x whole).protocol (content_of x whole).bytes) (one_packet p q s t) has) holds

  with_datagram : (d : Given) (fate : Fate) → Says frame whole (Datagram d) → Says frame whole fate → IsSameFate (Datagram d) fate
  with_datagram d (Datagram e) (p, udp, s, u, is) (q, other, t, v, has) =
      let same : q ≡ p = one_packet p q s t in
      let one : other ≡ udp = udp_one (content_of p whole).protocol (content_of p whole).bytes other udp (one_datagram p q other s t v) u in
      (e, refl, same_datagram frame p udp d e is (subst (λ (x : Udp). IsDatagram frame p x e) one (subst (λ (x : Packet). IsDatagram frame x other e) same has)))
  with_datagram d (Left (Frame fault)) (p, udp, s, u, is) (inl h) = absurd (no_fault frame.link frame.bytes p fault s h.0)
  with_datagram d (Left (Frame fault)) (p, udp, s, u, is) (inr h) = absurd (no_fault_of p udp NotUdp s u h.1)
  with_datagram d (Left (NoUdp fault)) (p, udp, s, u, is) h = absurd (no_fault_of p udp fault s u h.0)
  with_datagram d _ g h = absurd h

  with_fault : (fault : FrameFault) (fate : Fate) → Says frame whole (Left (Frame fault)) → Says frame whole fate → IsSameFate (Left (Frame fault)) fate
  with_fault fault (Datagram e) (inl g) (q, other, t, v, has) = absurd (no_fault frame.link frame.bytes q fault t g.0)
  with_fault fault (Datagram e) (inr g) (q, other, t, v, has) = absurd (no_fault_of q other NotUdp t v g.1)
  with_fault fault (Left (Frame other)) (inl g) (inl h) = ap (λ (f : FrameFault). Left (Frame f)) (first_one frame.link frame.bytes other fault h g)
  with_fault fault (Left (Frame other)) (inl g) (inr h) = absurd (no_fault frame.link frame.bytes h.1.0 fault h.1.1 g.0)
  with_fault fault (Left (Frame other)) (inr g) (inl h) = absurd (no_fault frame.link frame.bytes g.1.0 other g.1.1 h.0)
  with_fault fault (Left (Frame other)) (inr g) (inr h) = ap (λ (f : FrameFault). Left (Frame f)) (h.0 ∙ sym g.0)
  with_fault fault (Left (NoUdp other)) (inl g) h = absurd (no_fault frame.link frame.bytes h.0.0 fault h.0.1 g.0)
  with_fault fault (Left (NoUdp other)) (inr g) h = absurd (h.1 (one_fault_of NotUdp other g.1 h.0))
  with_fault fault _ g h = absurd h

  with_udp : (fault : UdpFault) (fate : Fate) → Says frame whole (Left (NoUdp fault)) → Says frame whole fate → IsSameFate (Left (NoUdp fault)) fate
  with_udp fault (Datagram e) g (q, other, t, v, has) = absurd (no_fault_of q other fault t v g.0)
  with_udp fault (Left (Frame other)) g (inl h) = absurd (no_fault frame.link frame.bytes g.0.0 other g.0.1 h.0)
  with_udp fault (Left (Frame other)) g (inr h) = absurd (g.1 (one_fault_of NotUdp fault h.1 g.0))
  with_udp fault (Left (NoUdp other)) g h = ap (λ (f : UdpFault). Left (NoUdp f)) (one_fault_of fault other g.0 h.0)
  with_udp fault _ g h = absurd h

  says_one : (fate same : Fate) → Says frame whole fate → Says frame whole same → IsSameFate fate same
  says_one (Datagram d) same g h = with_datagram d same g h
  says_one (Left (Frame fault)) same g h = with_fault fault same g h
  says_one (Left (NoUdp fault)) same g h = with_udp fault same g h
  says_one _ same g h = absurd g

-- ---- what became of a frame

both_left : (why : LeftOut) (fate same : Fate) → fate ≡ Left why → same ≡ Left why → IsSameFate fate same
both_left why fate same e h = subst (λ (x : Fate). IsSameFate x same) (sym e) h

both_wait : (fate same : Fate) → fate ≡ Waits → same ≡ Waits → IsSameFate fate same
both_wait fate same e h = subst (λ (x : Fate). IsSameFate x same) (sym e) h

abbrev pub IsSameIf : Option Outcome → Option Outcome → Type 0
IsSameIf None other = other ≡ None
IsSameIf (Some x) other = (y : Outcome) × (other ≡ Some y) × IsSame x y

fate_with : (frame : FrameParts) (x y : Outcome) (fate same : Fate) → IsSame x y → IsFate frame (Some x) fate → IsFate frame (Some y) same → IsSameFate fate same
fate_with frame Held y fate same e g h = both_wait fate same g (subst (λ (o : Outcome). IsFate frame (Some o) same) e h)
fate_with frame (Whole content frames) y fate same (others, shares, e, is, are) g h =
    says_one frame (Some (put_together content)) fate same g (subst (λ (l : Content). Says frame (Some l) same) (sym is) (subst (λ (o : Outcome). IsFate frame (Some o) same) e h))
fate_with frame (Torn frames) y fate same (shares, e, are) g h = both_left Apart fate same g (subst (λ (o : Outcome). IsFate frame (Some o) same) e h)
fate_with frame Bare y fate same e g h = both_left Empty fate same g (subst (λ (o : Outcome). IsFate frame (Some o) same) e h)
fate_with frame Long y fate same e g h = both_left TooLong fate same g (subst (λ (o : Outcome). IsFate frame (Some o) same) e h)
fate_with frame Crowded y fate same e g h = both_left Full fate same g (subst (λ (o : Outcome). IsFate frame (Some o) same) e h)

fate_one : (frame : FrameParts) (o m : Option Outcome) (fate same : Fate) → IsSameIf o m → IsFate frame o fate → IsFate frame m same → IsSameFate fate same
fate_one frame None m fate same e g h = says_one frame None fate same g (subst (λ (x : Option Outcome). IsFate frame x same) e h)
fate_one frame (Some x) m fate same (y, e, is) g h = fate_with frame x y fate same is g (subst (λ (o : Option Outcome). IsFate frame o same) e h)

none_discarded : (frame : FrameParts) (o : Option Outcome) (d : Given) → IsFate frame o (Discarded d) → ⊥
none_discarded frame None d h = h
none_discarded frame (Some Held) d h = cc
none_discarded frame (Some (Whole content frames)) d h = h
none_discarded frame (Some (Torn frames)) d h = cc
none_discarded frame (Some Bare) d h = cc
none_discarded frame (Some Long) d h = cc
none_discarded frame (Some Crowded) d h = cc

-- with the same datagram, by whether it is discarded
discarded_one : (d e : Given) → IsSameFate (Datagram d) (Datagram e) → IsSameFate (Discarded d) (Discarded e)
discarded_one d e (x, f, is) = (x, (let g : e ≡ x = cc in ap Discarded g), is)

fate_by_one : (b : Bool) (frame : FrameParts) (o m : Option Outcome) (fate same : Fate) → IsSameIf o m → IsFateBy b frame o fate → IsFateBy b frame m same → IsSameFate fate same
fate_by_one false frame o m fate same is g h = fate_one frame o m fate same is g h
fate_by_one true frame o m (Datagram d) same is g h = absurd g
fate_by_one true frame o m fate (Datagram e) is g h = absurd h
fate_by_one true frame o m (Discarded d) (Discarded e) is g h = discarded_one d e (fate_one frame o m (Datagram d) (Datagram e) is g h)
fate_by_one true frame o m (Discarded d) (Left why) is g h = let f = fate_one frame o m (Datagram d) (Left why) is g h in let e : Left why ≡ Datagram f.0 = f.1 in cc
fate_by_one true frame o m (Discarded d) Waits is g h = let f = fate_one frame o m (Datagram d) Waits is g h in let e : Waits ≡ Datagram f.0 = f.1 in cc
fate_by_one true frame o m (Left why) (Discarded e) is g h = let f : Datagram e ≡ Left why = fate_one frame o m (Left why) (Datagram e) is g h in cc
fate_by_one true frame o m (Left why) (Left other) is g h = fate_one frame o m (Left why) (Left other) is g h
fate_by_one true frame o m (Left why) Waits is g h = fate_one frame o m (Left why) Waits is g h
fate_by_one true frame o m Waits (Discarded e) is g h = let f : Datagram e ≡ Waits = fate_one frame o m Waits (Datagram e) is g h in cc
fate_by_one true frame o m Waits (Left other) is g h = fate_one frame o m Waits (Left other) is g h
fate_by_one true frame o m Waits Waits is g h = refl

pub fate_of_one : (frame : FrameParts) (l : Likeness) (o m : Option Outcome) (b : Bool) (fate same : Fate) → IsSameIf o m → IsFateOf frame l o b fate → IsFateOf frame l m b same → IsSameFate fate same
fate_of_one frame likeness.New o m b fate same is g h = fate_by_one b frame o m fate same is g h
fate_of_one frame likeness.Doubtful o m b fate same is g h = fate_by_one b frame o m fate same is g h
fate_of_one frame likeness.Copy o m b fate same is g h = both_left Copy fate same g h

-- ---- what a frame tells of who sent its datagram

sent_by_one : (frame : FrameParts) (whole : Option Content) (s t : Option Sent) → IsSentBy frame whole s → IsSentBy frame whole t → s ≡ t
sent_by_one frame whole None None g h = refl
sent_by_one frame whole None (Some t) g (p, udp, has, host, checksum) = absurd (g p udp has)
sent_by_one frame whole (Some s) None (p, udp, has, host, checksum) h = absurd (h p udp has)
sent_by_one frame whole (Some s) (Some t) (p, udp, (spells, (bytes, has, long, sized, source, target, parts)), host, checksum) (q, other, (spelled, others), other_host, other_checksum) =
    let e : s.host ≡ t.host = host ∙ ap (λ (x : Packet). x.source) (packet_one frame.link frame.bytes p q spells spelled) ∙ sym other_host in
    let f : s.checksum ≡ t.checksum = checksum p bytes spells has sized ∙ sym (other_checksum p bytes spells has sized) in
    λ i. Some (record { host = e i; checksum = f i })

sent_with : (frame : FrameParts) (x y : Outcome) (s t : Option Sent) → IsSame x y → IsSent frame (Some x) s → IsSent frame (Some y) t → s ≡ t
sent_with frame (Whole content frames) y s t (others, shares, e, is, are) g h =
    sent_by_one frame (Some (put_together content)) s t g (subst (λ (l : Content). IsSentBy frame (Some l) t) (sym is) (subst (λ (o : Outcome). IsSent frame (Some o) t) e h))
sent_with frame (Torn frames) y s t (shares, e, are) g h = g ∙ sym (subst (λ (o : Outcome). IsSent frame (Some o) t) e h)
sent_with frame Held y s t e g h = g ∙ sym (subst (λ (o : Outcome). IsSent frame (Some o) t) e h)
sent_with frame Bare y s t e g h = g ∙ sym (subst (λ (o : Outcome). IsSent frame (Some o) t) e h)
sent_with frame Long y s t e g h = g ∙ sym (subst (λ (o : Outcome). IsSent frame (Some o) t) e h)
sent_with frame Crowded y s t e g h = g ∙ sym (subst (λ (o : Outcome). IsSent frame (Some o) t) e h)

sent_in_one : (frame : FrameParts) (o m : Option Outcome) (s t : Option Sent) → IsSameIf o m → IsSent frame o s → IsSent frame m t → s ≡ t
sent_in_one frame None m s t e g h = sent_by_one frame None s t g (subst (λ (x : Option Outcome). IsSent frame x t) e h)
sent_in_one frame (Some x) m s t (y, e, is) g h = sent_with frame x y s t is g (subst (λ (o : Option Outcome). IsSent frame o t) e h)

pub sent_one : (frame : FrameParts) (l : Likeness) (o m : Option Outcome) (s t : Option Sent) → IsSameIf o m → IsSentOf frame l o s → IsSentOf frame l m t → s ≡ t
sent_one frame likeness.New o m s t is g h = sent_in_one frame o m s t is g h
sent_one frame likeness.Doubtful o m s t is g h = sent_in_one frame o m s t is g h
sent_one frame likeness.Copy o m s t is g h = g ∙ sym h

sharers_with : (x y : Outcome) → IsSame x y → sharers (Some x) ≡ sharers (Some y)
sharers_with (Whole content frames) y (others, shares, e, is, are) = are ∙ ap (λ (o : Outcome). sharers (Some o)) (sym e)
sharers_with (Torn frames) y (shares, e, are) = are ∙ ap (λ (o : Outcome). sharers (Some o)) (sym e)
sharers_with _ y e = ap (λ (o : Outcome). sharers (Some o)) (sym e)

pub sharers_one : (o m : Option Outcome) → IsSameIf o m → sharers o ≡ sharers m
sharers_one None m e = ap sharers (sym e)
sharers_one (Some x) m (y, e, is) = sharers_with x y is ∙ ap sharers (sym e)
