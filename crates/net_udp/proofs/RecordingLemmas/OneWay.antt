-- A recording is read in one way.
use Rattle.std.proofs.Common.{◌≡◌, ◌↔◌, ℕ, ◌+◌, Bool, true, false, inl, inr, List, [], ◌∷◌, length, map, reverse, Option, Some, None, refl, sym, ap, ◌∙◌, subst, arith, MatchBool}
use Rattle.std.proofs.lemmas.List.{reverse-reverse}
use Rattle.net_udp.specs.Copies.{Packet as Recorded}
use Rattle.net_udp.specs.Fragments.{Sets}
use Rattle.net_udp.specs.declared.fragments.outcome.Outcome.{Outcome}
use Rattle.net_udp.specs.declared.fragments.key.Key.{Key}
use Rattle.net_udp.specs.Frames.{Packet}
use Rattle.net_udp.specs.declared.frames.packet.Fragment.{Fragment}
use Rattle.net_udp.proofs.FramesLemmas.FaultOrder.{packet_one}
use Rattle.net_pcap.specs.{FrameParts, IsWrong, FaultKind}
use Rattle.net_pcap.proofs.OneFault.{fault_one}
use Rattle.net_pcap.proofs.OneReading.{fault_or_recording, recording_one}
use Rattle.net_udp.specs.Recording.{BroughtState, DoesNothing, IsPart, Takes, TakesPart, arrival_of, key_of, IsDiscarded, IsFateOf, IsHistory, IsSentOf, Step, frames_of, packets_of, sent_in, waiting, Comes, is_copy, AreToldAlike, IsRead, IsReadTo, frames_at}
use Rattle.net_udp.specs.declared.recording.sent.Sent.{Sent}
use Rattle.net_udp.specs.declared.recording.likeness.Likeness.{Likeness}
use Rattle.net_udp.proofs.RecordingLemmas.KeptOnce.{Alike, IsSame, part_alike}
use Rattle.net_udp.proofs.RecordingLemmas.OneFate.{IsSameIf, comes_one, fate_of_one, sent_one, sharers_one}
use Rattle.net_udp.proofs.RecordingLemmas.Discarding.{one_of_two}

no_part : (copy : Bool) (frame : FrameParts) (p : Packet) (f : Fragment) → DoesNothing copy frame → IsPart frame p f → copy ≡ false → ⊥
no_part true frame p f d is e = cc
no_part false frame p f d is e = let x : None ≡ Some f = sym (d p is.0) ∙ is.1 in cc

one_fragment : (f g : Fragment) → Some g ≡ Some f → g ≡ f
one_fragment f g e = cc

same_if : (o m : Option Outcome) (x y : Outcome) → o ≡ Some x → m ≡ Some y → IsSame x y → IsSameIf o m
same_if o m x y e f is = subst (λ (z : Option Outcome). IsSameIf z m) (sym e) (y, f, is)

none_if : (o m : Option Outcome) → o ≡ None → m ≡ None → IsSameIf o m
none_if o m e f = subst (λ (z : Option Outcome). IsSameIf z m) (sym e) f

takes_alike : (copy : Bool) (frame : FrameParts) (n : ℕ) (old new others later : Sets) (b d : BroughtState) → Takes copy old frame n b new → Takes copy others frame n d later → Alike old others
    → Alike new later × (b.old ≡ d.old) × IsSameIf b.outcome d.outcome × ((k : Key) → frames_at k b.ousted ≡ frames_at k d.ousted) × ((b.ousted ≡ []) ↔ (d.ousted ≡ []))
takes_alike copy frame n old new others later b d (inl t) (inl u) alike = (
  subst (λ (s : Sets). Alike s later) (sym t.2) (subst (λ (s : Sets). Alike old s) (sym u.2) alike),
  ap (λ (x : BroughtState). x.old) (t.1 ∙ sym u.1),
  none_if b.outcome d.outcome (ap (λ (x : BroughtState). x.outcome) t.1) (ap (λ (x : BroughtState). x.outcome) u.1),
  (λ k. ap (λ (x : BroughtState). frames_at k x.ousted) (t.1 ∙ sym u.1)),
  ((λ e. ap (λ (x : BroughtState). x.ousted) u.1), (λ e. ap (λ (x : BroughtState). x.ousted) t.1)),
)
takes_alike copy frame n old new others later b d (inl t) (inr u) alike = absurd (no_part copy frame u.0 u.1 t.0 u.2 u.4)
takes_alike copy frame n old new others later b d (inr t) (inl u) alike = absurd (no_part copy frame t.0 t.1 u.0 t.2 t.4)
takes_alike copy frame n old new others later b d (inr (p, f, is, t, one)) (inr (q, g, has, u, other)) alike =
    let e : q ≡ p = packet_one frame.link frame.bytes q p has.0 is.0 in
    let h : g ≡ f = one_fragment f g (sym has.1 ∙ ap (λ (x : Packet). x.fragment) e ∙ is.1) in
    let same : TakesPart (key_of p f) (arrival_of frame n p f) others later d =
    subst (λ (x : Fragment). TakesPart (key_of p x) (arrival_of frame n p x) others later d) h (subst (λ (x : Packet). TakesPart (key_of x g) (arrival_of frame n x g) others later d) e u) in
    let both = part_alike (key_of p f) (arrival_of frame n p f) old new others later b d t same alike in
    (both.0, both.1, same_if b.outcome d.outcome t.outcome same.outcome t.is same.is both.2, both.3, both.4)

-- ---- whole histories

record Both (some others : List Step) : Type 0 where
  told : AreToldAlike some others
  sets : Alike (waiting some) (waiting others)
  came : packets_of some ≡ packets_of others
  sent : sent_in some ≡ sent_in others
  count : length some ≡ length others

abbrev frames_in : List Step → List FrameParts
frames_in history = map (λ step. step.frame) history

no_frames : (frame : FrameParts) (frames : List FrameParts) → [] ≡ frame ∷ frames → ⊥
no_frames frame frames e = cc

same_head : (x y : FrameParts) (xs ys : List FrameParts) → x ∷ xs ≡ y ∷ ys → x ≡ y
same_head x y xs ys e = cc

same_tail : (x y : FrameParts) (xs ys : List FrameParts) → x ∷ xs ≡ y ∷ ys → xs ≡ ys
same_tail x y xs ys e = cc

step_alike : (s t : Step) (before rest : List Step) → s.frame ≡ t.frame → Both before rest → IsHistory (s ∷ before) → IsHistory (t ∷ rest) → Both (s ∷ before) (t ∷ rest)
step_alike s t before rest e both g h =
    let comes : Comes (packets_of before) s.frame t.likeness t.came = subst (λ (f : FrameParts). Comes (packets_of before) f t.likeness t.came) (sym e) (subst (λ (l : List Recorded). Comes l t.frame t.likeness t.came) (sym both.came) h.2) in
    let like = comes_one (packets_of before) s.frame s.likeness t.likeness s.came t.came g.2 comes in
    let takes : Takes (is_copy s.likeness) (waiting rest) s.frame (length before + 1) t.brought t.waits =
    subst (λ (l : Likeness). Takes (is_copy l) (waiting rest) s.frame (length before + 1) t.brought t.waits) (sym like.0)
    (subst (λ (f : FrameParts). Takes (is_copy t.likeness) (waiting rest) f (length before + 1) t.brought t.waits) (sym e)
    (subst (λ (n : ℕ). Takes (is_copy t.likeness) (waiting rest) t.frame (n + 1) t.brought t.waits) (sym both.count) h.0)) in
    let alike = takes_alike (is_copy s.likeness) s.frame (length before + 1) (waiting before) s.waits (waiting rest) t.waits s.brought t.brought g.0 takes both.sets in
    let told : IsSentOf s.frame s.likeness t.brought.outcome t.sent =
    subst (λ (l : Likeness). IsSentOf s.frame l t.brought.outcome t.sent) (sym like.0) (subst (λ (f : FrameParts). IsSentOf f t.likeness t.brought.outcome t.sent) (sym e) h.3) in
    let sent = sent_one s.frame s.likeness s.brought.outcome t.brought.outcome s.sent t.sent alike.2 g.3 told in
    let discards : MatchBool t.is_discarded (IsDiscarded (sent_in before) s.sent) (IsDiscarded (sent_in before) s.sent → ⊥) =
    subst (λ (x : Option Sent). MatchBool t.is_discarded (IsDiscarded (sent_in before) x) (IsDiscarded (sent_in before) x → ⊥)) (sym sent)
    (subst (λ (l : List (Option Sent)). MatchBool t.is_discarded (IsDiscarded l t.sent) (IsDiscarded l t.sent → ⊥)) (sym both.sent) h.4) in
    let discarded = one_of_two (IsDiscarded (sent_in before) s.sent) s.is_discarded t.is_discarded g.4 discards in
    record {
      told = (
        record {
          frame = e;
          likeness = like.0;
          fate = λ fate same is has.
              fate_of_one s.frame s.likeness s.brought.outcome t.brought.outcome s.is_discarded fate same alike.2 is
              (subst (λ (b : Bool). IsFateOf s.frame s.likeness t.brought.outcome b same) (sym discarded)
              (subst (λ (l : Likeness). IsFateOf s.frame l t.brought.outcome t.is_discarded same) (sym like.0) (subst (λ (f : FrameParts). IsFateOf f t.likeness t.brought.outcome t.is_discarded same) (sym e) has)));
          sent = sent;
          sharers = sharers_one s.brought.outcome t.brought.outcome alike.2;
          old = alike.1;
          ousted = alike.3;
          made_room = alike.4;
        },
        both.told,
      );
      sets = alike.0;
      came = like.1;
      sent = λ i. sent i ∷ both.sent i;
      count = omega (arith, both.count);
    }

all_alike : (some others : List Step) → frames_in some ≡ frames_in others → IsHistory some → IsHistory others → Both some others
all_alike [] [] e g h = record { told = tt; sets = record { at = λ key. record { arrivals = []; one = refl; other = refl }; room = refl }; came = refl; sent = refl; count = refl }
all_alike [] (t ∷ rest) e g h = absurd (no_frames t.frame (frames_in rest) e)
all_alike (s ∷ before) [] e g h = absurd (no_frames s.frame (frames_in before) (sym e))
all_alike (s ∷ before) (t ∷ rest) e g h =
    step_alike s t before rest (same_head s.frame t.frame (frames_in before) (frames_in rest) e) (all_alike before rest (same_tail s.frame t.frame (frames_in before) (frames_in rest) e) g.1 h.1) g h

same_frames : (some others : List Step) → frames_of some ≡ frames_of others → frames_in some ≡ frames_in others
same_frames some others e = sym (reverse-reverse (frames_in some)) ∙ ap (λ (l : List FrameParts). reverse l) e ∙ reverse-reverse (frames_in others)

pub whole_one : (bytes : List ℕ) (some others : List Step) → IsRead bytes some → IsRead bytes others → AreToldAlike some others
whole_one bytes some others g h = (all_alike some others (same_frames some others (recording_one bytes (frames_of some) (frames_of others) g.recording h.recording)) g.became h.became).told

pub fails_one : (bytes : List ℕ) (some others : List Step) (one other : FaultKind) → IsWrong one → IsWrong other → IsReadTo one bytes some → IsReadTo other bytes others
    → AreToldAlike some others × (one ≡ other)
fails_one bytes some others one other u v g h =
    let fault = fault_one bytes (frames_of some) (frames_of others) one other u v g.fails h.fails in
    ((all_alike some others (same_frames some others fault.0) g.became h.became).told, fault.1)

pub apart_one : (bytes : List ℕ) (some others : List Step) (kind : FaultKind) → IsWrong kind → IsReadTo kind bytes some → IsRead bytes others → ⊥
apart_one bytes some others kind wrong g h = fault_or_recording bytes (frames_of some) (frames_of others) kind wrong g.fails h.recording
