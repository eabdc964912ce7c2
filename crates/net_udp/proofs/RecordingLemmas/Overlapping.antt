-- The worked example of two fragments of IPv6 that overlap.
use Rattle.std.proofs.Common.{◌≡◌, ◌≢◌, ℕ, true, false, inl, inr, List, [], ◌∷◌, Some, None, Vec, Global, refl, sym, ap, ◌∙◌, subst, arith, rules, Option}
use Rattle.net_udp.specs.Copies.{IsCopy}
use Rattle.net_udp.specs.declared.fragments.extent.Extent.{Extent}
use Rattle.net_udp.specs.declared.fragments.outcome.Outcome.TheVariants.{Waits, Apart, Full}
use Rattle.net_udp.specs.declared.frames.link.LinkType.TheVariants.{RawIpv6}
use Rattle.net_udp.specs.declared.frames.link.Network.TheVariants.{Ipv6}
use Rattle.net_udp.specs.declared.frames.packet.Direction.TheVariants.{Unknown}
use Rattle.net_udp.specs.Fragments.Whole.{Content}
use Rattle.net_udp.specs.Fragments.{Arrival, Give, IsKeptOf, IsSetOf, PutEnds, SetState, Sets, TakeEnds, extent_of, is_long, nothing_held, parts_of, room_under, set_at}
use Rattle.net_udp.specs.Frames.{SpellsFrame}
use Rattle.net_udp.specs.Recording.{IsHistory, LetsGoOld, TakesPart, across_bytes, across_part, across_step, arrival_of, begun_bytes, begun_named, begun_part, begun_set, begun_step, data_key, frame_of_ipv6, last_named, recorded_first, torn_set, worked_time}
use Rattle.net_udp.proofs.FragmentsLemmas.Holding.{Added, not_both, stands_more}
use Rattle.net_udp.proofs.FragmentsLemmas.Puts.{came_apart, empty_set, nothing_agrees}
use Rattle.net_udp.proofs.FragmentsLemmas.Rooms.{no_set, same_set}
use Rattle.net_udp.proofs.FragmentsLemmas.Sets.{now_none}
use Rattle.net_udp.proofs.FramesLemmas.Tunnels.{spells}
use Rattle.net_udp.proofs.RecordingLemmas.Examples.{at_key, at_other, laid, none_before, not_full_waits}

begun_spells : SpellsFrame 229 begun_bytes begun_part
begun_spells =
    spells 229 RawIpv6 begun_bytes Unknown Ipv6 begun_bytes (record { protocol = 17; fragment = Some begun_named; content = begun_part.content }) refl (omega arith, refl, (refl, refl)) (omega arith, refl) (omega arith, omega arith)
    (0, inr (refl, omega arith, refl, refl, refl)) refl refl

across_spells : SpellsFrame 229 across_bytes across_part
across_spells =
    spells 229 RawIpv6 across_bytes Unknown Ipv6 across_bytes (record { protocol = 17; fragment = Some last_named; content = across_part.content }) refl (omega arith, refl, (refl, refl)) (omega arith, refl) (omega arith, omega arith)
    (0, inr (refl, omega arith, refl, refl, refl)) refl refl

abbrev begun : Arrival
begun = arrival_of (frame_of_ipv6 begun_bytes) 1 begun_part begun_named

abbrev across : Arrival
across = arrival_of (frame_of_ipv6 across_bytes) 2 across_part last_named

abbrev waits_begun : Sets
waits_begun = (data_key, begun_set) ∷ []

abbrev waits_torn : Sets
waits_torn = (data_key, torn_set) ∷ []

-- ---- the first waits

begun_added : Added nothing_held begun.part begun_set.held
begun_added = record { laid = laid [] begun_part.content; kept = λ e. absurd (not_both false e refl); set = λ e. absurd (not_both true refl e); only = λ e. absurd (not_both false e refl); first = λ at. refl; other = λ away. absurd (away refl) }

begun_is : IsSetOf begun_set (begun ∷ [])
begun_is = record {
  held = λ e. stands_more nothing_held begun.part begun_set.held (nothing_agrees begun.part (omega arith)) begun_added [] ((empty_set worked_time).held refl);
  frames = λ e. refl;
  extents = λ e x. (λ one. one, λ one. one);
  distinct = λ e two. elim two [ inl one ↦ one.1 | inr none ↦ none ];
  apart = λ e. absurd (not_both false e refl);
  nothing = λ e. absurd (not_both false e refl);
}

some_begun : (l : List Arrival) → (begun ∷ l) ≡ [] → ⊥
some_begun l e = cc

begun_kept : IsKeptOf (Some begun_set) (begun ∷ [])
begun_kept = (some_begun [], refl, begun_is)

not_all : (whole : Content) → Give (parts_of (begun ∷ [])) whole → ⊥
not_all whole give = elim give.last [ inl e ↦ not_both true refl e | inr none ↦ none ]

begun_ends : PutEnds None (Some begun_set) 0 begun Waits
begun_ends = (
  λ arrivals e. subst (λ (l : List Arrival). IsKeptOf (Some begun_set) (begun ∷ l)) (sym e) begun_kept,
  λ arrivals whole e give. not_all whole (subst (λ (l : List Arrival). Give (parts_of (begun ∷ l)) whole) e give),
  refl,
)

nothing_goes : LetsGoOld data_key worked_time [] [] []
nothing_goes = record {
  others = λ other e. refl;
  counted = refl;
  none = λ e. (refl, refl);
  long = λ s e. absurd (no_set s e);
  young = λ s e. absurd (no_set s e);
}

begun_takes : TakesPart data_key begun [] waits_begun begun_step.brought
begun_takes = record {
  young = [];
  roomy = [];
  outcome = Waits;
  lets_go = nothing_goes;
  makes_room = inl (refl, refl, λ may. omega arith);
  others = λ other e. at_other data_key other begun_set e;
  counted = sym (ap room_under (at_key data_key begun_set));
  ends = subst (λ (o : Option SetState). PutEnds None o 0 begun Waits) (sym (at_key data_key begun_set)) begun_ends;
  tried = ((omega arith, omega arith), omega arith);
  not_full = not_full_waits;
  is = refl;
}

begun_history : IsHistory (begun_step ∷ [])
begun_history = (
  inr (begun_part, begun_named, (begun_spells, refl), begun_takes, refl),
  tt,
  inr (begun_part, begun_spells, none_before (record recorded_first { bytes = begun_bytes }), refl),
  refl,
  (λ h. h),
)

-- ---- the second overlaps with it

is_young : is_long worked_time worked_time ≡ false
is_young = refl

none_goes : LetsGoOld data_key worked_time waits_begun waits_begun []
none_goes = record {
  others = λ other e. refl;
  counted = refl;
  none = λ e. absurd (no_set begun_set (sym e ∙ at_key data_key begun_set));
  long = λ s e long. absurd (not_both (is_long worked_time worked_time) (ap (λ (x : SetState). is_long x.began worked_time) (same_set begun_set s (sym (at_key data_key begun_set) ∙ e)) ∙ long) is_young);
  young = λ s e young. (e, refl);
}

differ : extent_of across.part ≢ extent_of begun.part
differ e = absurd (omega (arith, ap (λ (x : Extent). x.place) e))

not_one : IsCopy (record recorded_first { bytes = begun_bytes } ∷ []) (record recorded_first { bytes = across_bytes }) → ⊥
not_one copy = search rules

not_full_apart : (frames : Vec ℕ Global) → Apart frames ≡ Full → ⊥
not_full_apart frames e = cc

module _ (frames : Vec ℕ Global) (f : frames.items ≡ 1 ∷ []) where
  across_ends : TakeEnds begun_set torn_set across.part 2 (Some frames)
  across_ends = (refl, omega arith, f, (λ arrivals a e is. now_none begun_set torn_set arrivals a across.part e (omega arith) refl (inr (refl, inl (omega arith, omega arith, differ))) refl refl refl is), refl)

  across_put : PutEnds (Some begun_set) (Some torn_set) 308 across (Apart frames)
  across_put = (came_apart begun_set torn_set across frames refl across_ends, f, (λ arrivals kept. (across_ends.3 arrivals across refl kept.2).0), refl)

  across_takes : TakesPart data_key across waits_begun waits_torn (across_step frames).brought
  across_takes = record {
    young = waits_begun;
    roomy = waits_begun;
    outcome = Apart frames;
    lets_go = none_goes;
    makes_room = inl (refl, refl, λ may. omega arith);
    counted = omega (arith, ap room_under (at_key data_key begun_set), ap room_under (at_key data_key torn_set));
    others = λ other differs. at_other data_key other torn_set differs ∙ sym (at_other data_key other begun_set differs);
    ends = subst (λ (o : Option SetState). PutEnds o (set_at data_key waits_torn) 308 across (Apart frames)) (sym (at_key data_key begun_set))
        (subst (λ (o : Option SetState). PutEnds (Some begun_set) o 308 across (Apart frames)) (sym (at_key data_key torn_set)) across_put);
    tried = ((omega arith, omega arith), omega arith);
    not_full = not_full_apart frames;
    is = refl;
  }

  pub across_is : IsHistory (across_step frames ∷ begun_step ∷ [])
  across_is = (
    inr (across_part, last_named, (across_spells, refl), across_takes, refl),
    begun_history,
    inr (across_part, across_spells, not_one, refl),
    refl,
    (λ h. h),
  )

pub across_history : (frames : Vec ℕ Global) → frames.items ≡ 1 ∷ [] → IsHistory (across_step frames ∷ begun_step ∷ [])
across_history = across_is
