-- What a text says that is accepted, and what its normal text says.
use Rattle.std.proofs.Common.{◌≡◌, ℕ, suc, ◌+◌, ◌<◌, ◌≤◌, ◌↔◌, inl, inr, List, [], ◌∷◌, map as each, length, All, reverse, Option, Some, None, Ok, refl, sym, subst, ap, ◌∙◌, arith}
use Rattle.std.proofs.lemmas.List.{reverse-reverse}
use Rattle.std.proofs.lemmas.List.Elements.{All-from_recursion}
use Rattle.std.specs.List.{AllByRecursion, AllZip}
use Rattle.hex.specs.Hex.{IsBytes}
use Rattle.hex.proofs.HexLemmas.{decode_of-ok}
use Rattle.tftp_capture.specs.CaptureText.{Header}
use Rattle.tftp_capture.specs.{Numbered, SaysDatagram, SpellsPayload, IsCapture, IsLawful, NamesNoHost, numbered, text_of, Version}
use Rattle.tftp_capture.proofs.Canonical.{canonical_is_read}
use Rattle.tftp_packet.specs.{Rollover}
use Rattle.tftp_packet.specs.Hosts.{Datagram}
use Rattle.law_model.specs.Model.{Meaning, MachinePacket}
use Rattle.law_model.proofs.ModelLemmas.OneSided.{view_one_sided}
use Rattle.law_end.specs.{CanBeWritten, ShowsBy}
use Rattle.law_end.proofs.Whole.Beginnings.{shown_is_lawful}
use Rattle.law_end.proofs.Written.EachOf.{all_reverse}
use Rattle.law_end.proofs.Written.Written.{can_be_written}
use Rattle.law_rollover.specs.{AreBytes, AreUnrolled, ShowsByNumber}
use Rattle.law_rollover.proofs.Unrolling.{length_stays}
use Rattle.law_rollover.proofs.Shown.{dressed_back, dressed_on}
use Rattle.tftp_judge.specs.{IsTextVerdictBy, header_by, unnumbered}
use Rattle.tftp_judge.proofs.OneTextVerdict.{one_text_verdict}
use Rattle.tftp_normal.specs.{normal_packets, normal_datagram_by, normal_datagrams_by, normal_header, normal_text_by, IsAcceptedBy, IsShownBy}
use Rattle.tftp_normal.proofs.Lawful.{lawful}
use Rattle.tftp_normal.proofs.TextLength.{text_fits}
use Rattle.tftp_normal.proofs.Shown.{shows}

unnumbered_again : (n : ℕ) (datagrams : List Datagram) → unnumbered (numbered n datagrams) ≡ datagrams
unnumbered_again n [] = refl
unnumbered_again n (d ∷ datagrams) = ap (λ ds. d ∷ ds) (unnumbered_again (n + 1) datagrams)

-- each datagram of a capture fits into a packet of UDP
said_fit : (version : Version) (bodies : List (ℕ × List ℕ)) (datagrams : List Numbered) → AllZip (λ line d. (line.0 ≡ d.0) × SaysDatagram version line.1 d.1) bodies datagrams
    → AllByRecursion (λ (d : Datagram). length d.payload ≤ 65527) (unnumbered datagrams)
said_fit version [] [] all = tt
said_fit version (line ∷ bodies) (d ∷ datagrams) all = (all.0.1.fits, said_fit version bodies datagrams all.1)
said_fit version [] (d ∷ datagrams) all = absurd all
said_fit version (line ∷ bodies) [] all = tt

capture_fits : (text : List ℕ) (header : Header) (datagrams : List Numbered) → IsCapture text header datagrams → AllByRecursion (λ (d : Datagram). length d.payload ≤ 65527) (unnumbered datagrams)
capture_fits text header datagrams (version, lines, stands) = let (before, are, says) = stands.says in said_fit version says.bodies datagrams says.each

pub capture_plain : (text : List ℕ) (header : Header) (datagrams : List Numbered) → IsCapture text header datagrams → header.rollover ≡ None
capture_plain text header datagrams (version, lines, stands) = stands.says.2.plain

-- and has bytes
all_bytes : (bytes : List ℕ) → IsBytes bytes → AllByRecursion (λ b. b < 256) bytes
all_bytes [] are = tt
all_bytes (b ∷ bytes) are = (are 0, all_bytes bytes (λ i. are (suc i)))

payload_bytes : (digits payload : List ℕ) → SpellsPayload digits payload → AllByRecursion (λ b. b < 256) payload
payload_bytes digits payload (inl none) = subst (λ (p : List ℕ). AllByRecursion (λ b. b < 256) p) (sym none.1) tt
payload_bytes digits payload (inr some) = all_bytes payload (decode_of-ok digits payload some.1).3

said_bytes : (version : Version) (bodies : List (ℕ × List ℕ)) (datagrams : List Numbered) → AllZip (λ line d. (line.0 ≡ d.0) × SaysDatagram version line.1 d.1) bodies datagrams
    → AreBytes (unnumbered datagrams)
said_bytes version [] [] all = tt
said_bytes version (line ∷ bodies) (d ∷ datagrams) all = (payload_bytes all.0.1.digits d.1.payload all.0.1.payload, said_bytes version bodies datagrams all.1)
said_bytes version [] (d ∷ datagrams) all = absurd all
said_bytes version (line ∷ bodies) [] all = tt

capture_bytes : (text : List ℕ) (header : Header) (datagrams : List Numbered) → IsCapture text header datagrams → AreBytes (unnumbered datagrams)
capture_bytes text header datagrams (version, lines, stands) = let (before, are, says) = stands.says in said_bytes version says.bodies datagrams says.each

-- ---- by numbers: what is unrolled

-- a payload with a block in the place of its number is as long
unrolled_fit : (r : Rollover) (h : Header) (datagrams unrolled : List Datagram) → AreUnrolled r h datagrams unrolled → AllByRecursion (λ (d : Datagram). length d.payload ≤ 65527) datagrams
    → AllByRecursion (λ (d : Datagram). length d.payload ≤ 65527) unrolled
unrolled_fit r h [] [] are all = tt
unrolled_fit r h [] (now ∷ unrolled) are all = absurd are
unrolled_fit r h (d ∷ datagrams) [] are all = absurd are
unrolled_fit r h (d ∷ datagrams) (now ∷ unrolled) are all =
    let (high, is_high, same) = are.0 in
    let size : length now.payload ≡ length d.payload = ap (λ (x : Datagram). length x.payload) same ∙ length_stays r high d.payload in
    (omega (arith, size, all.0), unrolled_fit r h datagrams unrolled are.1 all.1)

-- a run that is shown by numbers is shown with the blocks near in their place
pub unrolled_shows : (r : Rollover) (h : Header) (m : Meaning) (wire : List ℕ) (datagrams : List Datagram) → ShowsByNumber r h m wire datagrams
    → (unrolled : List Datagram) × AreUnrolled r h (reverse datagrams) (reverse unrolled) × ShowsBy h m wire unrolled
unrolled_shows r h m wire datagrams shown =
    let seen = shown.seen in
    let (unrolled, are, dressed) = dressed_on r h m wire (λ view run. view_one_sided m wire h.named view run) datagrams seen.view seen.run seen.near seen.dressed in
    (unrolled, are, record { seen = record { fits = seen.fits; view = seen.view; run = seen.run; dressed = dressed }; complete = shown.complete })

-- and back
pub rolled_shows : (r : Rollover) (h : Header) (m : Meaning) (wire : List ℕ) (datagrams unrolled : List Datagram) → AreBytes datagrams → AreUnrolled r h (reverse datagrams) (reverse unrolled)
    → ShowsBy h m wire unrolled → ShowsByNumber r h m wire datagrams
rolled_shows r h m wire datagrams unrolled bytes are shown =
    let seen = shown.seen in
    let (near, dressed) = dressed_back r h m wire (λ view run. view_one_sided m wire h.named view run) datagrams unrolled seen.view bytes seen.run are seen.dressed in
    record { seen = record { fits = seen.fits; view = seen.view; run = seen.run; near = near; dressed = dressed }; complete = shown.complete }

-- ---- what is accepted

pub accepted_can : (rollover : Option Rollover) (text : List ℕ) (m : Meaning) → IsAcceptedBy rollover text m → CanBeWritten rollover m
accepted_can None text m (header, datagrams, says, shown) =
    subst (λ r. CanBeWritten r m) (capture_plain text header datagrams says) (can_be_written header m (unnumbered datagrams) (capture_fits text header datagrams says) shown)
accepted_can (Some r) text m (header, datagrams, says, (writable, wire, shown)) =
    let (unrolled, are, by_blocks) = unrolled_shows r (header_by (Some r) header) m wire (unnumbered datagrams) shown in
    let short = capture_fits text header datagrams says in
    let turned = unrolled_fit r (header_by (Some r) header) (reverse (unnumbered datagrams)) (reverse unrolled) are (all_reverse (λ (d : Datagram). length d.payload ≤ 65527) (unnumbered datagrams) short) in
    let fits = subst (λ ds. AllByRecursion (λ (d : Datagram). length d.payload ≤ 65527) ds) (reverse-reverse unrolled) (all_reverse (λ (d : Datagram). length d.payload ≤ 65527) (reverse unrolled) turned) in
    can_be_written (header_by (Some r) header) m unrolled fits (record { writable = writable; wire = wire; shown = by_blocks })

no_hosts : (rollover : Option Rollover) (m : Meaning) (packets : List MachinePacket) → AllByRecursion NamesNoHost (each (normal_datagram_by rollover m) packets)
no_hosts rollover m [] = tt
no_hosts rollover m (p ∷ packets) = (refl, no_hosts rollover m packets)

module _ (rollover : Option Rollover) (m : Meaning) (can : CanBeWritten rollover m) where
  pub normal_lawful : All IsLawful (normal_datagrams_by rollover m)
  normal_lawful = All-from_recursion IsLawful (normal_datagrams_by rollover m) (lawful rollover m can)

  pub normal_unnamed : All NamesNoHost (normal_datagrams_by rollover m)
  normal_unnamed = All-from_recursion NamesNoHost (normal_datagrams_by rollover m) (no_hosts rollover m (normal_packets m))

  pub normal_says : IsCapture (normal_text_by rollover m) normal_header (numbered 4 (normal_datagrams_by rollover m))
  normal_says =
      canonical_is_read normal_header (normal_datagrams_by rollover m) (omega arith, omega arith) refl normal_lawful normal_unnamed (text_fits rollover m can)

  pub is_accepted : IsAcceptedBy rollover (normal_text_by rollover m) m
  is_accepted =
      (normal_header, numbered 4 (normal_datagrams_by rollover m), normal_says, subst (IsShownBy rollover normal_header m) (sym (unnumbered_again 4 (normal_datagrams_by rollover m))) (shows rollover m can))

pub normal_accepted : (rollover : Option Rollover) (text : List ℕ) (m : Meaning) → IsAcceptedBy rollover text m → IsAcceptedBy rollover (normal_text_by rollover m) m
normal_accepted rollover text m accepted = is_accepted rollover m (accepted_can rollover text m accepted)

-- ---- by the judge's verdict, of which there is one

pub shown_text : (rollover : Option Rollover) (text : List ℕ) (m : Meaning) → IsTextVerdictBy rollover text (Ok m) → IsAcceptedBy rollover text m
shown_text None text m (header, datagrams, says, (_, (wire, shown), writable)) = (header, datagrams, says, record { writable = writable; wire = wire; shown = shown })
shown_text (Some r) text m (header, datagrams, says, (taken, are, (_, (wire, shown), writable))) =
    (header, datagrams, says, (writable, wire, rolled_shows r (header_by (Some r) header) m wire (unnumbered datagrams) taken (capture_bytes text header datagrams says) are shown))

pub judged_text : (rollover : Option Rollover) (text : List ℕ) (m : Meaning) → IsAcceptedBy rollover text m → IsTextVerdictBy rollover text (Ok m)
judged_text None text m (header, datagrams, says, shows) = (header, datagrams, says, (shown_is_lawful header m (unnumbered datagrams) shows, (shows.wire, shows.shown), shows.writable))
judged_text (Some r) text m (header, datagrams, says, (writable, wire, shown)) =
    let (taken, are, by_blocks) = unrolled_shows r (header_by (Some r) header) m wire (unnumbered datagrams) shown in
    (header, datagrams, says, (taken, are, ((m, wire, by_blocks.seen), (wire, by_blocks), writable)))

pub one_meaning : (rollover : Option Rollover) (text : List ℕ) (m o : Meaning) → IsAcceptedBy rollover text m → IsAcceptedBy rollover text o → m ≡ o
one_meaning rollover text m o accepted also = let same = one_text_verdict rollover text (Ok m) (Ok o) tt tt (judged_text rollover text m accepted) (judged_text rollover text o also) in cc

-- so the normal capture determines its meaning
pub injective : (rollover : Option Rollover) (m o : Meaning) → CanBeWritten rollover m → CanBeWritten rollover o → normal_datagrams_by rollover m ≡ normal_datagrams_by rollover o → m ≡ o
injective rollover m o can other same =
    one_meaning rollover (normal_text_by rollover m) m o (is_accepted rollover m can)
    (subst (λ text. IsAcceptedBy rollover text o) (sym (ap (text_of normal_header) same)) (is_accepted rollover o other))

-- a normal text is its own normal text
pub normal_again : (rollover : Option Rollover) (text : List ℕ) (m o : Meaning) → IsAcceptedBy rollover text m → IsAcceptedBy rollover (normal_text_by rollover m) o
    → normal_text_by rollover o ≡ normal_text_by rollover m
normal_again rollover text m o accepted again = ap (normal_text_by rollover) (one_meaning rollover (normal_text_by rollover m) o m again (normal_accepted rollover text m accepted))

-- texts that are accepted have equal normal texts exactly if they have equal meanings
pub same_texts : (rollover : Option Rollover) (text other : List ℕ) (m o : Meaning) → IsAcceptedBy rollover text m → IsAcceptedBy rollover other o
    → normal_text_by rollover m ≡ normal_text_by rollover o ↔ m ≡ o
same_texts rollover text other m o accepted also = (
  λ same. one_meaning rollover (normal_text_by rollover m) m o (normal_accepted rollover text m accepted) (subst (λ t. IsAcceptedBy rollover t o) (sym same) (normal_accepted rollover other o also)),
  λ same. ap (normal_text_by rollover) same,
)
