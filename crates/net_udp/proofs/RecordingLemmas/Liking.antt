-- Which packets are copies, by what is told of them.
use Rattle.std.proofs.Common.{◌≡◌, ◌↔◌, ℕ, Bool, true, false, inr, List, ◌∷◌, Option, Some, IsTrue, refl, sym, subst}
use Rattle.std.proofs.lemmas.Bool.{false≢true}
use Rattle.net_udp.specs.Copies.{Packet as Recorded, IsCopy, RecentState, StandsFor}
use Rattle.net_udp.specs.declared.copies.interface.Interface.{Interface}
use Rattle.net_udp.specs.Frames.{Packet, is_identified, SpellsFrame}
use Rattle.net_udp.specs.declared.frames.packet.Fragment.{Fragment}
use Rattle.net_udp.specs.Fragments.{Sets}
use Rattle.net_pcap.specs.{FrameParts}
use Rattle.net_udp.specs.Recording.{DoesNothing, IsNoPart, Wants, WantsPart, key_of, key_protocol, may_overlap, Comes, IsLike, interface_of, likeness_by, recorded}
use Rattle.net_udp.specs.declared.recording.likeness.Likeness.{Likeness}

-- a packet that was recorded where and when a frame was
pub recorded_there : (frame : FrameParts) (p : Packet) (there : Interface) (time : Option ℕ) → there ≡ interface_of frame → time ≡ frame.time → ◌≡◌ {A = Recorded} (record { interface = there; time = time; bytes = p.packet }) (recorded frame p)
recorded_there frame p there time same moment = λ i. record { interface = same i; time = moment i; bytes = p.packet }

like_by : (came : List Recorded) (frame : FrameParts) (p : Packet) (one identified : Bool) → IsTrue one ↔ IsCopy came (recorded frame p) → identified ≡ is_identified p → IsLike came frame p (likeness_by one identified)
like_by came frame p false identified told e = λ copy. false≢true (told.1 copy)
like_by came frame p true false told e = (told.0 refl, sym e)
like_by came frame p true true told e = (told.0 refl, sym e)

pub like : (came : List Recorded) (frame : FrameParts) (p : Packet) (one identified : Bool) (l : Likeness) → IsTrue one ↔ IsCopy came (recorded frame p) → identified ≡ is_identified p → l ≡ likeness_by one identified → IsLike came frame p l
like came frame p one identified l told e is = subst (IsLike came frame p) (sym is) (like_by came frame p one identified told e)

pub coming : (old new : RecentState) (frame : FrameParts) (p : Packet) (l : Likeness) → SpellsFrame frame.link frame.bytes p
    → ((came : List Recorded) → StandsFor old came → IsLike came frame p l) → ((came : List Recorded) → StandsFor old came → StandsFor new (recorded frame p ∷ came))
    → (before : List Recorded) → StandsFor old before → (came : List Recorded) × Comes before frame l came × StandsFor new came
coming old new frame p l spells like held before stands =
    (recorded frame p ∷ before, inr (p, spells, like before stands, refl), held before stands)

pub does_nothing : (b : Bool) (frame : FrameParts) → IsNoPart frame → DoesNothing b frame
does_nothing true frame h = tt
does_nothing false frame h = h

pub wants_part : (frame : FrameParts) (number at : ℕ) (named time : Option ℕ) (overlap : Bool) (p : Packet) (f : Fragment) (old : Sets) → named ≡ key_protocol p.source p.protocol → overlap ≡ may_overlap p.source → SpellsFrame frame.link frame.bytes p → p.fragment ≡ Some f → time ≡ frame.time → at ≡ number
    → WantsPart (record { source = p.source; target = p.target; protocol = named; id = f.id }) (record { part = record { protocol = p.protocol; place = f.place; more = f.more; content = p.content; may_overlap = overlap }; time = time; frame = at }) old → Wants old frame number
wants_part frame number at named time overlap p f old k v spells is e n wants = (
  p,
  f,
  (spells, is),
  subst (λ (m : ℕ). WantsPart (key_of p f) (record { part = record { protocol = p.protocol; place = f.place; more = f.more; content = p.content; may_overlap = may_overlap p.source }; time = frame.time; frame = m }) old) n
      (subst (λ (t : Option ℕ). WantsPart (key_of p f) (record { part = record { protocol = p.protocol; place = f.place; more = f.more; content = p.content; may_overlap = may_overlap p.source }; time = t; frame = at }) old) e
      (subst (λ (b : Bool). WantsPart (key_of p f) (record { part = record { protocol = p.protocol; place = f.place; more = f.more; content = p.content; may_overlap = b }; time = time; frame = at }) old) v
      (subst (λ (o : Option ℕ). WantsPart (record { source = p.source; target = p.target; protocol = o; id = f.id }) (record { part = record { protocol = p.protocol; place = f.place; more = f.more; content = p.content; may_overlap = overlap }; time = time; frame = at }) old) k wants))),
)
