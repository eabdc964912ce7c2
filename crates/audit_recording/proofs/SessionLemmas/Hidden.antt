-- What is kept of frames behind headers that are not read, with one more.
use Rattle.std.proofs.Common.{◌≡◌, ◌<◌, ◌++◌, ◌∷◌, ℕ, true, false, cond, List, [], None, Some, length, map, filter, flat_map, get_or, zero, suc, arith, set, refl, sym, ap, subst, ◌∙◌}
use Rattle.std.specs.List.{AllByRecursion, list_any, position}
use Rattle.std.proofs.lemmas.Slice.Eq.{bytes_eq-Decides}
use Rattle.net_udp.specs.Frames.Unread.{header_name}
use Rattle.net_udp.specs.declared.frames.unread.UnreadHeader.{UnreadHeader}
use Rattle.audit_recording.specs.declared.session.frames.Frames.{Frames}
use Rattle.audit_recording.specs.declared.session.behind.Kind.{Kind}
use Rattle.audit_recording.specs.Session.Told.{AreFramesOf}
use Rattle.audit_recording.specs.Session.Hidden.{AreBehindOf, Hidden, frames_behind, headers_of, same_header}
use Rattle.std.proofs.lemmas.Bool.{false≢true}
use Rattle.audit_recording.proofs.LossesLemmas.Keeping.{by_test}
use Rattle.audit_recording.proofs.SessionLemmas.Lines.{told_as}
use Rattle.audit_recording.specs.Session.Lines.{behind_lines, behind_told, behind_words, kind_lines, lines_of}
use Rattle.audit_recording.specs.declared.session.behind.Behind.{Behind}
use Rattle.audit_recording.proofs.SessionLemmas.Firsts.{NoneLike, NoTwo, Passes, Turns, any_in_all, known, new, no_two, none_any, none_in_all, or_left, or_right}
use Rattle.audit_recording.proofs.SessionLemmas.Places.{all_map, none_passes, one_stands, place_below, place_passes, told_stays}

-- ---- headers that have one name

names : (u v : UnreadHeader) → same_header u v ≡ true → header_name u ≡ header_name v
names u v is = (bytes_eq-Decides (header_name u) (header_name v)).0 is

named : (u v : UnreadHeader) → header_name u ≡ header_name v → same_header u v ≡ true
named u v is = (bytes_eq-Decides (header_name u) (header_name v)).1 is

passes : Passes same_header
passes u v w is also = named u w (names u v is ∙ names v w also)

turns : Turns same_header
turns u v is = named v u (sym (names u v is))

itself : (u : UnreadHeader) → same_header u u ≡ true
itself u = named u u refl

-- ---- the frames behind one

behind_it : (u : UnreadHeader) (h : Hidden) (hidden : List Hidden) → same_header h.header u ≡ true → frames_behind u (h ∷ hidden) ≡ h.frame ∷ frames_behind u hidden
behind_it u h hidden is = ap (λ b. map (λ (g : Hidden). g.frame) (cond b (h ∷ filter (λ (g : Hidden). same_header g.header u) hidden) (filter (λ (g : Hidden). same_header g.header u) hidden))) is

behind_other : (u : UnreadHeader) (h : Hidden) (hidden : List Hidden) → same_header h.header u ≡ false → frames_behind u (h ∷ hidden) ≡ frames_behind u hidden
behind_other u h hidden off = ap (λ b. map (λ (g : Hidden). g.frame) (cond b (h ∷ filter (λ (g : Hidden). same_header g.header u) hidden) (filter (λ (g : Hidden). same_header g.header u) hidden))) off

turned : (u v : UnreadHeader) → same_header u v ≡ false → same_header v u ≡ false
turned u v off = by_test (same_header v u) (λ is. absurd (false≢true (sym off ∙ turns v u is))) (λ none. none)

none_behind : (u : UnreadHeader) (hidden : List Hidden) → NoneLike same_header u (map (λ h. h.header) hidden) → frames_behind u hidden ≡ []
none_behind u [] none = refl
none_behind u (h ∷ hidden) none = behind_other u h hidden (turned u h.header none.0) ∙ none_behind u hidden none.1

-- ---- one frame more

abbrev Stands : List Hidden → Kind → Type 0
Stands hidden k = AreFramesOf k.frames (frames_behind k.header hidden)

module _ (kinds : List Kind) (h : Hidden) (hidden : List Hidden) (headers : map (λ k. k.header) kinds ≡ headers_of hidden) (frames : AllByRecursion (Stands hidden) kinds) where
  others_stand : (k : Kind) → same_header h.header k.header ≡ false → Stands hidden k → Stands (h ∷ hidden) k
  others_stand k off are = subst (AreFramesOf k.frames) (sym (behind_other k.header h hidden off)) are

  it_stands : (k : Kind) → same_header h.header k.header ≡ true → AreFramesOf k.frames (h.frame ∷ frames_behind k.header hidden) → Stands (h ∷ hidden) k
  it_stands k is are = subst (AreFramesOf k.frames) (sym (behind_it k.header h hidden is)) are

  -- behind a header that is known
  module _ (i : ℕ) (k d : Kind) (at : position (λ k. same_header h.header k.header) kinds ≡ Some i) (was : k.header ≡ (get_or kinds i d).header) where
    there : same_header h.header (get_or kinds i d).header ≡ true
    there = place_passes (λ (k : Kind). same_header h.header k.header) kinds i d at

    below : i < length kinds
    below = place_below (λ (k : Kind). same_header h.header k.header) kinds i d at

    any_there : (ks : List Kind) (i : ℕ) (d : Kind) → i < length ks → same_header h.header (get_or ks i d).header ≡ true → list_any (same_header h.header) (map (λ k. k.header) ks) ≡ true
    any_there [] i d low is = absurd (omega (arith, low))
    any_there (k ∷ ks) zero d low is = or_left (same_header h.header k.header) (list_any (same_header h.header) (map (λ k. k.header) ks)) is
    any_there (k ∷ ks) (suc i) d low is = or_right (same_header h.header k.header) (list_any (same_header h.header) (map (λ k. k.header) ks)) (any_there ks i d (omega (arith, low)) is)

    pub headers_known : map (λ k. k.header) (set kinds i k) ≡ headers_of (h ∷ hidden)
    headers_known =
        told_stays (λ k. k.header) kinds i k d was
        ∙ headers
        ∙ sym (known same_header h.header (map (λ g. g.header) hidden) (any_in_all same_header h.header (map (λ g. g.header) hidden)
        (sym (ap (list_any (same_header h.header)) headers) ∙ any_there kinds i d below there)))

    pub frames_known : AreFramesOf k.frames (h.frame ∷ frames_behind k.header hidden) → AllByRecursion (Stands (h ∷ hidden)) (set kinds i k)
    frames_known are =
        one_stands same_header passes turns h.header (λ (k : Kind). k.header) (Stands hidden) (Stands (h ∷ hidden)) others_stand kinds i k d
        (subst (NoTwo same_header) (sym headers) (no_two same_header (map (λ g. g.header) hidden)))
        below there (it_stands k (subst (λ u. same_header h.header u ≡ true) (sym was) there) are) frames

  -- behind a new one
  module _ (none : position (λ k. same_header h.header k.header) kinds ≡ None) where
    unlike : AllByRecursion (λ (k : Kind). same_header h.header k.header ≡ false) kinds
    unlike = none_passes (λ (k : Kind). same_header h.header k.header) kinds none

    unlike_all : NoneLike same_header h.header (map (λ g. g.header) hidden)
    unlike_all = none_in_all same_header passes h.header (map (λ g. g.header) hidden)
        (subst (NoneLike same_header h.header) headers (all_map (λ (k : Kind). k.header) (λ u. same_header h.header u ≡ false) kinds unlike))

    headers_both : (ks : List Kind) (k : Kind) → map (λ k. k.header) (ks ++ k ∷ []) ≡ map (λ k. k.header) ks ++ k.header ∷ []
    headers_both [] k = refl
    headers_both (first ∷ ks) k = ap (λ l. first.header ∷ l) (headers_both ks k)

    pub headers_new : (f : Frames) → map (λ k. k.header) (kinds ++ record { header = h.header; frames = f } ∷ []) ≡ headers_of (h ∷ hidden)
    headers_new f =
        headers_both kinds (record { header = h.header; frames = f })
        ∙ ap (λ l. l ++ h.header ∷ []) headers
        ∙ sym (new same_header h.header (map (λ g. g.header) hidden) (none_any same_header h.header (map (λ g. g.header) hidden) unlike_all))

    all_stand : (ks : List Kind) (k : Kind) → AllByRecursion (λ (k : Kind). same_header h.header k.header ≡ false) ks → AllByRecursion (Stands hidden) ks → Stands (h ∷ hidden) k
        → AllByRecursion (Stands (h ∷ hidden)) (ks ++ k ∷ [])
    all_stand [] k off are now = (now, tt)
    all_stand (first ∷ ks) k off are now = (others_stand first off.0 are.0, all_stand ks k off.1 are.1 now)

    pub frames_new : (f : Frames) → AreFramesOf f (h.frame ∷ []) → AllByRecursion (Stands (h ∷ hidden)) (kinds ++ record { header = h.header; frames = f } ∷ [])
    frames_new f are = all_stand kinds (record { header = h.header; frames = f }) unlike frames
        (it_stands (record { header = h.header; frames = f }) (itself h.header) (subst (λ l. AreFramesOf f (h.frame ∷ l)) (sym (none_behind h.header hidden unlike_all)) are))

-- ---- what is told

told_alike : (kinds : List Kind) (hidden : List Hidden) → AllByRecursion (Stands hidden) kinds
    → flat_map kind_lines kinds ≡ flat_map (λ header. lines_of (frames_behind header hidden) (behind_words header)) (map (λ k. k.header) kinds)
told_alike [] hidden are = refl
told_alike (k ∷ kinds) hidden are = λ i. told_as k.frames (frames_behind k.header hidden) (behind_words k.header) are.0 i ++ told_alike kinds hidden are.1 i

pub told_behind : (b : Behind) (hidden : List Hidden) → AreBehindOf b hidden → behind_lines b ≡ behind_told hidden
told_behind b hidden are = told_alike b.kinds.items hidden are.frames ∙ ap (flat_map (λ header. lines_of (frames_behind header hidden) (behind_words header))) are.headers
