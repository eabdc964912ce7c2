-- What is said of a text by its first fault.
use Rattle.std.proofs.Common.{◌≡◌, ◌≢◌, ℕ, ◌≤◌, ◌⊎◌, inl, inr, List, [], ◌∷◌, ◌++◌, length, Option, Err, refl, sym, ap, ◌∙◌, subst, arith, append_assoc, append-nil}
use Rattle.tftp_capture.specs.{Begins, BeginsWith, Numbered, FaultTells, FirstTells, MemoryTells, SaysOneMore, CaptureFault, Truncated}
use Rattle.net_streams.specs.Streams.{most_ahead}
use Rattle.tftp_capture.specs.declared.fault.CaptureFault.TheVariants.{Text, Read, Memory}
use Rattle.tftp_capture.proofs.Beginnings.{agree, fault_after, unfinished_has}
use Rattle.tftp_capture.proofs.Staying.{stays}
use Rattle.tftp_packet.specs.Hosts.{Header}
use Rattle.law_end.specs.{IsLawful}
use Rattle.law_end.proofs.Whole.Beginnings.{empty_is_lawful}
use Rattle.tftp_packet.specs.{Rollover}
use Rattle.tftp_judge.specs.{EndsText, IsFaultOf, IsLawfulBy, IsReadVerdictBy, LawfulBefore, MayWantAt, NoFaultBefore, IsTextVerdictBy, SaysReadFailed, header_by, unnumbered, Capture}
use Rattle.tftp_judge.proofs.TakenText.{holds_of, none_taken}
use Rattle.tftp_judge.proofs.WantOfMemory.{before_want, no_fault_before, wanted_at, wants_first_line}
use Rattle.tftp_judge.proofs.OneTextVerdict.{front_lawful}

-- ---- what is said stays, whatever follows

-- what a text begins with, a longer one begins with
pub begins_longer : (text more : List ℕ) (header : Header) (datagrams : List Numbered) → Begins text header datagrams → Begins (text ++ more) header datagrams
begins_longer text more header datagrams b = record {
  read = b.read;
  more = b.more ++ more;
  lines = b.lines;
  are = ap (λ l. l ++ more) b.are ∙ append_assoc b.read b.more more;
  stands = b.stands;
}

-- what is said of the bytes before the reader has seen the text's end
abbrev pub FaultStays : CaptureFault → Type 0
FaultStays (Text line fault) = fault ≢ Truncated
FaultStays (Read line) = ⊥
FaultStays (Memory line) = Unit {0}

pub fault_kinds : (fault : CaptureFault) → FaultStays fault ⊎ (EndsText (Err (Capture fault)) ⊎ SaysReadFailed (Err (Capture fault)))
fault_kinds (Read line) = inr (inr tt)
fault_kinds (Memory line) = inl tt
fault_kinds (Text line Truncated) = inr (inl refl)
fault_kinds _ = inl (λ e. cc)

-- ---- before a fault there are lawful datagrams only

abbrev pub LawfulIn : Option Rollover → List ℕ → List Numbered → Type 0
LawfulIn rollover text ds = (h : Header) (es : List Numbered) → Begins text h es → BeginsWith ds es → IsLawfulBy rollover h (unnumbered es)

-- the datagrams before the fault are known, and lawful
pub lawful_in : (rollover : Option Rollover) (text : List ℕ) (h : Header) (ds : List Numbered) → Begins text h ds → IsLawfulBy rollover h (unnumbered ds) → LawfulIn rollover text ds
lawful_in rollover text h ds begins lawful other es also front =
    subst (λ x. IsLawfulBy rollover x (unnumbered es)) (agree text h other ds es begins also).0 (front_lawful rollover h ds es lawful front)

none_front : (es rest : List Numbered) → [] ≡ es ++ rest → es ≡ []
none_front [] rest e = refl
none_front (n ∷ es) rest e = absurd (omega (arith, ap length e))

-- there are no datagrams before the fault
pub none_in : (rollover : Option Rollover) (text : List ℕ) → LawfulIn rollover text []
none_in rollover text h es begins (rest, is) =
    subst (λ x. IsLawfulBy rollover h (unnumbered x)) (sym (none_front es rest is)) (holds_of rollover IsLawful h [] [] (none_taken rollover h) (empty_is_lawful (header_by rollover h)))

-- for what memory ran out, where it was: for the first line before any byte was read, or for a datagram
abbrev pub Wants : CaptureFault → List ℕ → List ℕ → List Numbered → Type 0
Wants (Text line fault) text ahead ds = Unit {0}
Wants (Read line) text ahead ds = Unit {0}
Wants (Memory line) text ahead ds = ((line ≡ 1) × (text ≡ []) × (ahead ≡ [])) ⊎ SaysOneMore text ds line

pub wants_first : (text ahead : List ℕ) (ds : List Numbered) (fault : CaptureFault) → FirstTells fault text ahead → Wants fault text ahead ds
wants_first text ahead ds (Text line fault) tells = tt
wants_first text ahead ds (Read line) tells = tt
wants_first text ahead ds (Memory line) tells = inl tells

pub wants_more : (text ahead : List ℕ) (ds : List Numbered) (fault : CaptureFault) → MemoryTells fault text ds → Wants fault text ahead ds
wants_more text ahead ds (Text line fault) tells = tt
wants_more text ahead ds (Read line) tells = tt
wants_more text ahead ds (Memory line) tells = inr tells

-- where memory ran out it may be, no fault is before the line, and the datagrams before it are these
abbrev BeforeWant : Option Rollover → CaptureFault → List ℕ → List Numbered → Type 0
BeforeWant rollover (Text line fault) text ds = Unit {0}
BeforeWant rollover (Read line) text ds = Unit {0}
BeforeWant rollover (Memory line) text ds = MayWantAt text line × NoFaultBefore text line × (LawfulIn rollover text ds → LawfulBefore rollover text line)

stays_on : (text more : List ℕ) (ds : List Numbered) (fault : CaptureFault) → FaultStays fault → FaultTells fault text ds → FaultTells fault (text ++ more) ds
stays_on text more ds (Text line fault) other tells = stays text more ds line fault other tells
stays_on text more ds (Read line) other tells = absurd other
stays_on text more ds (Memory line) other tells = tt

module _ (rollover : Option Rollover) where
  before_fault : (text more ahead : List ℕ) (ds : List Numbered) (fault : CaptureFault) → Wants fault text ahead ds → BeforeWant rollover fault (text ++ more) ds
  before_fault text more ahead ds (Text line fault) wants = tt
  before_fault text more ahead ds (Read line) wants = tt
  before_fault text more ahead ds (Memory line) (inl first) =
      let of = wants_first_line rollover (text ++ more) in
      subst (λ n. BeforeWant rollover (Memory n) (text ++ more) ds) (sym first.0) (of.0, of.1, λ lawful. of.2)
  before_fault text more ahead ds (Memory line) (inr said) =
      (wanted_at text more ds line said, no_fault_before text more ds line said, λ lawful h es begins before. lawful h es begins (before_want text more ds line said h es begins before))

  by_fault : (text : List ℕ) (ds : List Numbered) (fault : CaptureFault) → FaultTells fault text ds → BeforeWant rollover fault text ds → LawfulIn rollover text ds → IsFaultOf rollover text fault
  by_fault text ds (Text line fault) tells want lawful = ((ds, tells), λ h es begins. lawful h es begins (fault_after text h ds es line fault tells begins))
  by_fault text ds (Read line) tells want lawful = ((ds, tells.0, tells.1), λ h es begins. lawful h es begins (unfinished_has text h ds es line tells.0 tells.1 begins))
  by_fault text ds (Memory line) tells want lawful = (want.0, want.1, want.2 lawful)

  module _ (text ahead : List ℕ) (ds : List Numbered) (fault : CaptureFault) (tells : FaultTells fault text ds) (wants : Wants fault text ahead ds) where
    -- of the bytes up to the fault
    pub fault_here : LawfulIn rollover text ds → IsFaultOf rollover text fault
    fault_here lawful = by_fault text ds fault tells (subst (λ t. BeforeWant rollover fault t ds) (append-nil text) (before_fault text [] ahead ds fault wants)) lawful

    -- and of those that follow
    pub fault_longer : (more : List ℕ) → FaultStays fault → LawfulIn rollover (text ++ more) ds → IsFaultOf rollover (text ++ more) fault
    fault_longer more may lawful = by_fault (text ++ more) ds fault (stays_on text more ds fault may tells) (before_fault text more ahead ds fault wants) lawful

    -- and of all that was read
    pub fault_read : FaultStays fault → length ahead ≤ most_ahead → LawfulIn rollover (text ++ ahead) ds → IsReadVerdictBy rollover (text ++ ahead) (Err (Capture fault))
    fault_read may near lawful = read_by fault wants near (fault_longer ahead may lawful) where
      read_by : (f : CaptureFault) → Wants f text ahead ds → length ahead ≤ most_ahead → IsFaultOf rollover (text ++ ahead) f → IsReadVerdictBy rollover (text ++ ahead) (Err (Capture f))
      read_by (Text line f) told short is = is
      read_by (Read line) told short is = is
      read_by (Memory line) (inl first) short is =
          let nothing : text ++ ahead ≡ [] = ap (λ t. t ++ ahead) first.1 ∙ first.2 in
          (record { taken = text; ahead = ahead; datagrams = ds; to = (refl, short); wants = inl (nothing, first.0) }, is.2)
      read_by (Memory line) (inr said) short is = (record { taken = text; ahead = ahead; datagrams = ds; to = (refl, short); wants = inr said }, is.2)

  -- a fault that ends the text, or that a read failed, is said of what was read as of the text
  pub fault_alone : (text : List ℕ) (fault : CaptureFault) → IsTextVerdictBy rollover text (Err (Capture fault)) → EndsText (Err (Capture fault)) ⊎ SaysReadFailed (Err (Capture fault)) → IsReadVerdictBy rollover text (Err (Capture fault))
  fault_alone text (Text line f) is ends = is
  fault_alone text (Read line) is ends = is
  fault_alone text (Memory line) is (inl ends) = absurd ends
  fault_alone text (Memory line) is (inr reads) = absurd reads
