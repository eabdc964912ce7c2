-- The same fragments wait in two readings, and the same becomes of the next.
use Rattle.std.proofs.Common.{◌≡◌, ◌≢◌, ◌↔◌, ℕ, ◌+◌, ◌<◌, ◌≤◌, Bool, true, false, inl, inr, List, [], ◌∷◌, ◌++◌, length, length-append, map, Option, Some, None, Vec, Global, refl, sym, ap, ◌∙◌, subst, arith}
use Rattle.std.proofs.lemmas.Bool.{cases_lt, cases_Bool}
use Rattle.std.proofs.lemmas.List.{get_or-map, get_or_append_left, length-map}
use Rattle.net_udp.specs.Fragments.{Held, HoldsPart, StandsFor, content_of, same_key, AreApart, AreNone, Arrival, IsSetOf, SetState, parts_of, CountsAt, IsFull, IsKeptOf, IsTried, MayBePut, PutEnds, Sets, frames_of, is_long, least_behind, room_of_all, room_under, set_at, EndsRightly, HasPart, end_of}
use Rattle.net_udp.specs.declared.fragments.outcome.Outcome.{Outcome}
use Rattle.net_udp.specs.declared.fragments.outcome.Outcome.TheVariants.{Waits, Apart, Empty, TooLong, Full}
use Rattle.net_udp.specs.Fragments.Whole.{Content, Part}
use Rattle.net_udp.specs.declared.fragments.content.Content.{Content as Given}
use Rattle.net_udp.specs.declared.fragments.key.Key.{Key}
use Rattle.net_udp.specs.declared.fragments.outcome.Outcome.TheVariants.{Whole}
use Rattle.net_udp.proofs.FragmentsLemmas.Contents.{one_content}
use Rattle.net_udp.proofs.FragmentsLemmas.Members.{all_at, all_weaker, member}
use Rattle.net_udp.proofs.FragmentsLemmas.Holding.{not_both, by_end}
use Rattle.net_udp.proofs.FragmentsLemmas.Sets.{none_made}
use Rattle.net_udp.specs.Recording.{BroughtState, LetsGoOld, MakesRoom, TakesPart, frames_at}
use Rattle.net_udp.proofs.RecordingLemmas.Keys.{same_set_at}

-- ---- parts that are held are of some content

abbrev byte_or : Option ℕ → ℕ
byte_or None = 0
byte_or (Some b) = b

abbrev filled : Held → List ℕ
filled h = map byte_or h.cells

abbrev behind : Bool → List ℕ
behind true = []
behind false = 0 ∷ []

abbrev filled_content : Held → Content
filled_content h = record { protocol = byte_or h.protocol; bytes = filled h ++ behind h.ended }

filled_size : (h : Held) (ended : Bool) → length (filled h ++ behind ended) ≡ length h.cells + length (behind ended)
filled_size h ended = length-append (filled h) (behind ended) ∙ ap (λ n. n + length (behind ended)) (length-map h.cells byte_or)

filled_ends : (h : Held) (ended : Bool) (p : Part) → h.ended ≡ ended → HoldsPart h p → EndsRightly p.more (end_of p) (length (filled h ++ behind ended))
filled_ends h true p e held = by_end p.more (end_of p) (length (filled h ++ behind true)) (λ last. omega (arith, (held.last last).1, filled_size h true)) (λ more. omega (arith, held.inner more e, filled_size h true))
filled_ends h false p e held = by_end p.more (end_of p) (length (filled h ++ behind false)) (λ last. absurd (not_both h.ended (held.last last).0 e)) (λ more. omega (arith, held.within, filled_size h false))

filled_has : (h : Held) (p : Part) → HoldsPart h p → HasPart (filled_content h) p
filled_has h p held = record {
  bytes = λ i within.
      let inside : p.place + i < length h.cells = omega (arith, held.within) in
      get_or_append_left (filled h) (behind h.ended) 0 (p.place + i) (omega (arith, inside, length-map h.cells byte_or)) ∙ get_or-map byte_or h.cells (p.place + i) None 0 inside ∙ ap byte_or (held.bytes i within);
  ends = filled_ends h h.ended p refl held;
  first = λ at. sym (ap byte_or (held.first at));
}

held_not_apart : (h : Held) (parts : List Part) → StandsFor h parts → AreApart parts → ⊥
held_not_apart h parts s apart = apart (filled_content h) (all_weaker (HoldsPart h) (HasPart (filled_content h)) (filled_has h) parts s.each)

set_not_none : (s : SetState) (arrivals : List Arrival) → s.spoiled ≡ false → IsSetOf s arrivals → AreNone (parts_of arrivals) → ⊥
set_not_none s arrivals sound is (inl apart) = held_not_apart s.held (parts_of arrivals) (is.held sound) apart
set_not_none s arrivals sound is (inr two) = is.distinct sound two

-- ---- what is kept of the same fragments

set_frames : (s t : SetState) (arrivals : List Arrival) → IsSetOf s arrivals → IsSetOf t arrivals → s.frames ≡ t.frames
set_frames s t arrivals g h = elim (cases_Bool s.spoiled) [
  | inl a ↦ elim (cases_Bool t.spoiled) [
    | inl b ↦ (g.apart a).0 ∙ sym (h.apart b).0
    | inr b ↦ absurd (set_not_none t arrivals b h (g.apart a).1)
  ]
  | inr a ↦ elim (cases_Bool t.spoiled) [
    | inl b ↦ absurd (set_not_none s arrivals a g (h.apart b).1)
    | inr b ↦ g.frames a ∙ sym (h.frames b)
  ]
]

kept_frames : (o m : Option SetState) (arrivals : List Arrival) → IsKeptOf o arrivals → IsKeptOf m arrivals → frames_of o ≡ frames_of m
kept_frames None None arrivals g h = refl
kept_frames None (Some t) arrivals g h = absurd (h.0 g)
kept_frames (Some s) None arrivals g h = absurd (g.0 h)
kept_frames (Some s) (Some t) arrivals g h = set_frames s t arrivals g.2 h.2

-- up to the furthest end of the parts
held_within : (h k : Held) (parts : List Part) → StandsFor h parts → StandsFor k parts → length k.cells ≤ length h.cells
held_within h k parts s t = elim (cases_lt (length h.cells) (length k.cells)) [
  | inl less ↦
      let m = member (λ q. end_of q ≡ length k.cells) parts (t.reach (omega (arith, less))) in
      let held = all_at (HoldsPart h) parts m.0 s.each m.2 in
      absurd (omega (arith, less, held.within, m.1))
  | inr within ↦ within
]

held_size : (h k : Held) (parts : List Part) → StandsFor h parts → StandsFor k parts → length h.cells ≡ length k.cells
held_size h k parts s t = omega (arith, held_within h k parts s t, held_within k h parts t s)

set_size : (s t : SetState) (arrivals : List Arrival) → IsSetOf s arrivals → IsSetOf t arrivals → length s.held.cells ≡ length t.held.cells
set_size s t arrivals g h = elim (cases_Bool s.spoiled) [
  | inl a ↦ elim (cases_Bool t.spoiled) [
    | inl b ↦ ap (λ (x : Held). length x.cells) (g.nothing a ∙ sym (h.nothing b))
    | inr b ↦ absurd (set_not_none t arrivals b h (g.apart a).1)
  ]
  | inr a ↦ elim (cases_Bool t.spoiled) [
    | inl b ↦ absurd (set_not_none s arrivals a g (h.apart b).1)
    | inr b ↦ held_size s.held t.held (parts_of arrivals) (g.held a) (h.held b)
  ]
]

kept_room : (o m : Option SetState) (arrivals : List Arrival) → IsKeptOf o arrivals → IsKeptOf m arrivals → room_under o ≡ room_under m
kept_room None None arrivals g h = refl
kept_room None (Some t) arrivals g h = absurd (h.0 g)
kept_room (Some s) None arrivals g h = absurd (g.0 h)
kept_room (Some s) (Some t) arrivals g h = omega (arith, set_size s t arrivals g.2 h.2, ap length (set_frames s t arrivals g.2 h.2))

no_snoc : (frames : List ℕ) (n : ℕ) → [] ≡ frames ++ n ∷ [] → ⊥
no_snoc [] n e = cc
no_snoc (x ∷ xs) n e = cc

waits_not_apart : (o : Option SetState) (arrivals : List Arrival) (frames : List ℕ) (n : ℕ) → IsKeptOf o arrivals → frames_of o ≡ frames ++ n ∷ [] → AreNone (parts_of arrivals) → ⊥
waits_not_apart None arrivals frames n kept e apart = no_snoc frames n e
waits_not_apart (Some s) arrivals frames n kept e apart = elim (cases_Bool s.spoiled) [
  | inl a ↦ no_snoc frames n (sym (kept.2.apart a).0 ∙ e)
  | inr a ↦ set_not_none s arrivals a kept.2 apart
]

-- what is kept in two readings is that of the same fragments
pub record Same (o m : Option SetState) : Type 0 where
  pub arrivals : List Arrival
  pub one : IsKeptOf o arrivals
  pub other : IsKeptOf m arrivals

pub record Alike (some others : Sets) : Type 0 where
  pub at : (key : Key) → Same (set_at key some) (set_at key others)
  pub room : room_of_all some ≡ room_of_all others

-- what waits under one key has changed, in both readings alike
alike_changed : (key : Key) (old new others later : Sets) → CountsAt key old new → CountsAt key others later → Alike old others → Same (set_at key new) (set_at key later) → room_of_all new ≡ room_of_all later
alike_changed key old new others later v w alike now =
    let before = alike.at key in
    omega (arith, v, w, alike.room, kept_room (set_at key old) (set_at key others) before.arrivals before.one before.other, kept_room (set_at key new) (set_at key later) now.arrivals now.one now.other)

same_at : (o x m y : Option SetState) → o ≡ x → m ≡ y → Same o m → Same x y
same_at o x m y e f s = record {
  arrivals = s.arrivals;
  one = subst (λ (k : Option SetState). IsKeptOf k s.arrivals) e s.one;
  other = subst (λ (k : Option SetState). IsKeptOf k s.arrivals) f s.other;
}

nothing_same : Same None None
nothing_same = record { arrivals = []; one = refl; other = refl }

-- ---- what becomes of the next

abbrev pub IsSame : Outcome → Outcome → Type 0
IsSame Waits other = other ≡ Waits
IsSame (Whole content frames) other = (d : Given) × (g : Vec ℕ Global) × (other ≡ Whole d g) × (content_of content ≡ content_of d) × (frames.items ≡ g.items)
IsSame (Apart frames) other = (g : Vec ℕ Global) × (other ≡ Apart g) × (frames.items ≡ g.items)
IsSame Empty other = other ≡ Empty
IsSame TooLong other = other ≡ TooLong
IsSame Full other = other ≡ Full

put_not_empty : (p : Part) → MayBePut p → p.content ≡ [] → ⊥
put_not_empty p may e = omega (arith, may.0, ap length e)

put_not_long : (p : Part) → MayBePut p → 65535 < end_of p + least_behind p.more → ⊥
put_not_long p may long = omega (arith, may.1, long)

long_not_empty : (p : Part) → 1 ≤ length p.content → p.content ≡ [] → ⊥
long_not_empty p some e = omega (arith, some, ap length e)

module _ (o x m y : Option SetState) (all most : ℕ) (a : Arrival) (l : List Arrival) (g : IsKeptOf o l) (h : IsKeptOf m l) where
  frames_more : frames_of o ++ a.frame ∷ [] ≡ frames_of m ++ a.frame ∷ []
  frames_more = ap (λ (f : List ℕ). f ++ a.frame ∷ []) (kept_frames o m l g h)

  both_gone : x ≡ None → y ≡ None → Same x y
  both_gone e f = same_at None x None y (sym e) (sym f) nothing_same

  both_stay : x ≡ o → y ≡ m → Same x y
  both_stay e f = same_at o x m y (sym e) (sym f) (record { arrivals = l; one = g; other = h })

  when_waits : (v : Outcome) → PutEnds o x all a Waits → PutEnds m y most a v → MayBePut a.part → IsTried most a.part v → v ≢ Full → Same x y × IsSame Waits v
  when_waits Waits e f t u n = (record { arrivals = a ∷ l; one = e.0 l g; other = f.0 l h }, refl)
  when_waits (Whole content frames) e f t u n = absurd (e.1 l (content_of content) g (f.1 l h).0)
  when_waits (Apart frames) e f t u n = absurd (waits_not_apart x (a ∷ l) (frames_of o) a.frame (e.0 l g) e.2 (f.2 l h))
  when_waits Empty e f t u n = absurd (put_not_empty a.part t u)
  when_waits TooLong e f t u n = absurd (put_not_long a.part t u.1)
  when_waits Full e f t u n = absurd (n refl)

  when_whole : (content : Given) (frames : Vec ℕ Global) (v : Outcome) → PutEnds o x all a (Whole content frames) → PutEnds m y most a v → MayBePut a.part → IsTried most a.part v → v ≢ Full → Same x y × IsSame (Whole content frames) v
  when_whole content frames Waits e f t u n = absurd (f.1 l (content_of content) h (e.1 l g).0)
  when_whole content frames (Whole others shares) e f t u n =
      (both_gone e.0 f.0, (others, shares, refl, one_content (parts_of (a ∷ l)) (content_of content) (content_of others) (e.1 l g).0 (f.1 l h).0, e.2 ∙ frames_more ∙ sym f.2))
  when_whole content frames (Apart others) e f t u n = absurd (none_made (parts_of (a ∷ l)) (content_of content) (f.2 l h) (e.1 l g))
  when_whole content frames Empty e f t u n = absurd (put_not_empty a.part t u)
  when_whole content frames TooLong e f t u n = absurd (put_not_long a.part t u.1)
  when_whole content frames Full e f t u n = absurd (n refl)

  when_apart : (frames : Vec ℕ Global) (v : Outcome) → PutEnds o x all a (Apart frames) → PutEnds m y most a v → MayBePut a.part → IsTried most a.part v → v ≢ Full → Same x y × IsSame (Apart frames) v
  when_apart frames Waits e f t u n = absurd (waits_not_apart y (a ∷ l) (frames_of m) a.frame (f.0 l h) f.2 (e.2 l g))
  when_apart frames (Whole content others) e f t u n = absurd (none_made (parts_of (a ∷ l)) (content_of content) (e.2 l g) (f.1 l h))
  when_apart frames (Apart others) e f t u n = (record { arrivals = a ∷ l; one = e.0 l g; other = f.0 l h }, (others, refl, e.1 ∙ kept_frames o m l g h ∙ sym f.1))
  when_apart frames Empty e f t u n = absurd (put_not_empty a.part t u)
  when_apart frames TooLong e f t u n = absurd (put_not_long a.part t u.1)
  when_apart frames Full e f t u n = absurd (n refl)

  when_empty : (v : Outcome) → PutEnds o x all a Empty → PutEnds m y most a v → a.part.content ≡ [] → IsTried most a.part v → v ≢ Full → Same x y × IsSame Empty v
  when_empty Empty e f t u n = (both_stay e.0 f.0, refl)
  when_empty TooLong e f t u n = absurd (long_not_empty a.part u.0 t)
  when_empty Full e f t u n = absurd (n refl)
  when_empty _ e f t u n = absurd (put_not_empty a.part u.0 t)

  when_long : (v : Outcome) → PutEnds o x all a TooLong → PutEnds m y most a v → IsTried all a.part TooLong → IsTried most a.part v → v ≢ Full → Same x y × IsSame TooLong v
  when_long Empty e f t u n = absurd (long_not_empty a.part t.0 u)
  when_long TooLong e f t u n = (both_stay e.0 f.0, refl)
  when_long Full e f t u n = absurd (n refl)
  when_long _ e f t u n = absurd (put_not_long a.part u.0 t.1)

  put_alike : (w v : Outcome) → PutEnds o x all a w → PutEnds m y most a v → IsTried all a.part w → IsTried most a.part v → w ≢ Full → v ≢ Full → Same x y × IsSame w v
  put_alike Waits v e f t u k n = when_waits v e f t.0 u n
  put_alike (Whole content frames) v e f t u k n = when_whole content frames v e f t.0 u n
  put_alike (Apart frames) v e f t u k n = when_apart frames v e f t.0 u n
  put_alike Empty v e f t u k n = when_empty v e f t u n
  put_alike TooLong v e f t u k n = when_long v e f t u n
  put_alike Full v e f t u k n = absurd (k refl)

-- ---- what is too old

abbrev Went : Option SetState → Option ℕ → Option SetState → List ℕ → Type 0
Went None time new gone = (new ≡ None) × (gone ≡ [])
Went (Some s) time new gone = (is_long s.began time ≡ true → (new ≡ None) × (gone ≡ s.frames)) × (is_long s.began time ≡ false → (new ≡ Some s) × (gone ≡ []))

went : (key : Key) (time : Option ℕ) (old new : Sets) (gone : List ℕ) → LetsGoOld key time old new gone → (o : Option SetState) → set_at key old ≡ o → Went o time (set_at key new) gone
went key time old new gone h None e = h.none e
went key time old new gone h (Some s) e = (h.long s e, h.young s e)

went_alike : (time : Option ℕ) (o x m y : Option SetState) (gone away : List ℕ) (l : List Arrival) → IsKeptOf o l → IsKeptOf m l → Went o time x gone → Went m time y away → Same x y × (gone ≡ away)
went_alike time None x None y gone away l g h v w = (same_at None x None y (sym v.0) (sym w.0) nothing_same, v.1 ∙ sym w.1)
went_alike time None x (Some t) y gone away l g h v w = absurd (h.0 g)
went_alike time (Some s) x None y gone away l g h v w = absurd (g.0 h)
went_alike time (Some s) x (Some t) y gone away l g h v w =
    let began : is_long t.began time ≡ is_long s.began time = ap (λ (b : Option ℕ). is_long b time) (h.1 ∙ sym g.1) in
    elim (cases_Bool (is_long s.began time)) [
      | inl long ↦
          let e = v.0 long in
          let f = w.0 (began ∙ long) in
          (same_at None x None y (sym e.0) (sym f.0) nothing_same, e.1 ∙ set_frames s t l g.2 h.2 ∙ sym f.1)
      | inr young ↦
          let e = v.1 young in
          let f = w.1 (began ∙ young) in
          (same_at (Some s) x (Some t) y (sym e.0) (sym f.0) (record { arrivals = l; one = g; other = h }), e.1 ∙ sym f.1)
    ]

let_go_alike : (key : Key) (time : Option ℕ) (old new others later : Sets) (gone away : List ℕ) → LetsGoOld key time old new gone → LetsGoOld key time others later away → Alike old others → Alike new later × (gone ≡ away)
let_go_alike key time old new others later gone away v w alike =
    let s = alike.at key in
    let here = went_alike time (set_at key old) (set_at key new) (set_at key others) (set_at key later) gone away s.arrivals s.one s.other (went key time old new gone v (set_at key old) refl) (went key time others later away w (set_at key others) refl) in (
      record {
        at = λ k. elim (cases_Bool (same_key key k)) [
          | inl same ↦ same_at _ _ _ _ (same_set_at key k new same) (same_set_at key k later same) here.0
          | inr other ↦ same_at _ _ _ _ (sym (v.others k other)) (sym (w.others k other)) (alike.at k)
        ];
        room = alike_changed key old new others later v.counted w.counted alike here.0;
      },
      here.1,
    )

-- ---- a fragment

alike_at : (old new others later : Sets) → new ≡ old → later ≡ others → Alike old others → Alike new later
alike_at old new others later e f alike = subst (λ (s : Sets). Alike s later) (sym e) (subst (λ (s : Sets). Alike old s) (sym f) alike)

nothing_alike : Alike [] []
nothing_alike = record { at = λ key. nothing_same; room = refl }

alike_frames : (some others : Sets) → Alike some others → (key : Key) → frames_at key some ≡ frames_at key others
alike_frames some others alike key = let s = alike.at key in kept_frames (set_at key some) (set_at key others) s.arrivals s.one s.other

-- some waits where there is no room
some_waits : (p : Part) (sets : Sets) → MayBePut p → IsFull (room_of_all sets) p → sets ≡ [] → ⊥
some_waits p sets may full none = omega (arith, may.1, full, ap room_of_all none)

room_alike : (p : Part) (old new ousted others later gone : Sets) → MakesRoom p old new ousted → MakesRoom p others later gone → Alike old others → Alike new later × Alike ousted gone × ((ousted ≡ []) ↔ (gone ≡ []))
room_alike p old new ousted others later gone (inl g) (inl h) alike = (alike_at old new others later g.1 h.1 alike, alike_at [] ousted [] gone g.0 h.0 nothing_alike, ((λ e. h.0), (λ e. g.0)))
room_alike p old new ousted others later gone (inl g) (inr h) alike = let room = g.2 h.3 in absurd (omega (arith, alike.room, room, h.0))
room_alike p old new ousted others later gone (inr g) (inl h) alike = let room = h.2 g.3 in absurd (omega (arith, alike.room, room, g.0))
room_alike p old new ousted others later gone (inr g) (inr h) alike = (
  alike_at [] new [] later g.2 h.2 nothing_alike,
  alike_at old ousted others gone g.1 h.1 alike,
  ((λ e. absurd (some_waits p old g.3 g.0 (sym g.1 ∙ e))), (λ e. absurd (some_waits p others h.3 h.0 (sym h.1 ∙ e)))),
)

pub part_alike : (key : Key) (a : Arrival) (old new others later : Sets) (b d : BroughtState) → (t : TakesPart key a old new b) → (u : TakesPart key a others later d) → Alike old others
    → Alike new later × (b.old ≡ d.old) × IsSame t.outcome u.outcome × ((k : Key) → frames_at k b.ousted ≡ frames_at k d.ousted) × ((b.ousted ≡ []) ↔ (d.ousted ≡ []))
part_alike key a old new others later b d t u alike =
    let young = let_go_alike key a.time old t.young others u.young b.old d.old t.lets_go u.lets_go alike in
    let roomy = room_alike a.part t.young t.roomy b.ousted u.young u.roomy d.ousted t.makes_room u.makes_room young.0 in
    let s = roomy.0.at key in
    let put = put_alike (set_at key t.roomy) (set_at key new) (set_at key u.roomy) (set_at key later) _ _ a s.arrivals s.one s.other t.outcome u.outcome t.ends u.ends t.tried u.tried t.not_full u.not_full in (
      record {
        at = λ k. elim (cases_Bool (same_key key k)) [
          | inl same ↦ same_at _ _ _ _ (same_set_at key k new same) (same_set_at key k later same) put.0
          | inr other ↦ same_at _ _ _ _ (sym (t.others k other)) (sym (u.others k other)) (roomy.0.at k)
        ];
        room = alike_changed key t.roomy new u.roomy later t.counted u.counted roomy.0 put.0;
      },
      young.1,
      put.1,
      alike_frames b.ousted d.ousted roomy.1,
      roomy.2,
    )
