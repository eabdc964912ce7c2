-- What is said at a point has the frame of the datagram that its verdict refuses.
use Rattle.std.proofs.Common.{◌≡◌, ℕ, List, Option, Some, None, Ok, Err, refl, sym, ◌∙◌}
use Rattle.std.specs.Prelude.{option_map}
use Rattle.tftp_judge.specs.declared.refusal.Refusal.TheVariants as refusal
use Rattle.judge_tap.specs.declared.refusal.TapRefusal.TheVariants as tap
use Rattle.audit_flows.specs.{Transfer}
use Rattle.audit_recording.specs.Blame.Facts.{blamed_as, blamed_of}
use Rattle.audit_recording.specs.Blame.Frames.{Carried, Framed, seen_as}
use Rattle.audit_recording.specs.declared.blame.blame.Blamed.{Blamed}
use Rattle.audit_recording.specs.Rows.Told.{refused_frame}
use Rattle.audit_recording.specs.declared.rows.row.Point.{Point}
use Rattle.audit_rows.specs.Viewing.{IsViewAt, number_in, said_by, said_in}
use Rattle.audit_rows.specs.declared.found.Found.{Found}
use Rattle.audit_rows.specs.declared.found.Found.TheVariants.{AtEnd, Between}
use Rattle.audit_rows.specs.declared.viewed.Viewed.{Viewed}

-- only a refusal has a frame
has_frame : (found : Found) (o : Option ℕ) (frame : ℕ) → refused_frame (said_by found o) ≡ Some frame → o ≡ Some frame
has_frame (AtEnd (Ok m)) o frame is = let none : None ≡ Some frame = is in absurd (cc)
has_frame (AtEnd (Err (refusal.Unlawful index rule))) o frame is = is
has_frame (AtEnd (Err (refusal.Aborted by code))) o frame is = let none : None ≡ Some frame = is in absurd (cc)
has_frame (AtEnd (Err (refusal.Incomplete count))) o frame is = let none : None ≡ Some frame = is in absurd (cc)
has_frame (AtEnd (Err refusal.NormalTooLong)) o frame is = let none : None ≡ Some frame = is in absurd (cc)
has_frame (AtEnd (Err (refusal.Memory count))) o frame is = let none : None ≡ Some frame = is in absurd (cc)
has_frame (Between (Ok m)) o frame is = let none : None ≡ Some frame = is in absurd (cc)
has_frame (Between (Err (tap.Unlawful index rule stands))) o frame is = is
has_frame (Between (Err (tap.Aborted by code))) o frame is = let none : None ≡ Some frame = is in absurd (cc)
has_frame (Between (Err (tap.Incomplete count))) o frame is = let none : None ≡ Some frame = is in absurd (cc)
has_frame (Between (Err tap.NormalTooLong)) o frame is = let none : None ≡ Some frame = is in absurd (cc)
has_frame (Between (Err (tap.Memory count))) o frame is = let none : None ≡ Some frame = is in absurd (cc)

-- the blamed datagram, and that it is in this frame
record IsIn (o : Option Blamed) (there : ℕ) : Type 0 where
  datagram : Blamed
  blamed : o ≡ Some datagram
  frame : datagram.frame ≡ there

in_frame : (o : Option Blamed) (frame : ℕ) → option_map (λ b. b.frame) o ≡ Some frame → IsIn o frame
in_frame None frame is = let none : None ≡ Some frame = is in absurd (cc)
in_frame (Some b) frame is = let this : Some b.frame ≡ Some frame = is in record { datagram = b; blamed = refl; frame = cc }

-- It is that of the verdict's number.
pub record IsNamed (at : Point) (x : Transfer) (named : List ℕ) (carried : List Carried) (o : Option ℕ) (b : Blamed) : Type 0 where
  pub number : ℕ
  pub datagram : Framed
  pub refuses : o ≡ Some number
  pub seen : seen_as at x.number named carried number ≡ Some datagram
  pub is : b ≡ blamed_of x datagram

record IsOf (x : Transfer) (o : Option Framed) (b : Blamed) : Type 0 where
  datagram : Framed
  seen : o ≡ Some datagram
  is : b ≡ blamed_of x datagram

is_of : (x : Transfer) (o : Option Framed) (b : Blamed) → option_map (blamed_of x) o ≡ Some b → IsOf x o b
is_of x None b is = let none : None ≡ Some b = is in absurd (cc)
is_of x (Some f) b is = let this : Some (blamed_of x f) ≡ Some b = is in record { datagram = f; seen = refl; is = cc }

by_number : (at : Point) (x : Transfer) (named : List ℕ) (carried : List Carried) (o : Option ℕ) (b : Blamed) → blamed_as at x named carried o ≡ Some b
    → IsNamed at x named carried o b
by_number at x named carried None b is = let none : None ≡ Some b = is in absurd (cc)
by_number at x named carried (Some number) b is =
    let it = is_of x (seen_as at x.number named carried number) b is in
    record { number = number; datagram = it.datagram; refuses = refl; seen = it.seen; is = it.is }

pub named_by : (at : Point) (x : Transfer) (named : List ℕ) (carried : List Carried) (v : Viewed) (b : Blamed) → IsViewAt at x named carried v → v.blamed ≡ Some b
    → IsNamed at x named carried (number_in v.found) b
named_by at x named carried v b view is = by_number at x named carried (number_in v.found) b (sym view.blamed ∙ is)

pub record IsFramed (at : Point) (x : Transfer) (named : List ℕ) (carried : List Carried) (o : Option ℕ) (there : ℕ) : Type 0 where
  pub datagram : Blamed
  pub is : IsNamed at x named carried o datagram
  pub frame : datagram.frame ≡ there

pub framed_by : (at : Point) (x : Transfer) (named : List ℕ) (carried : List Carried) (v : Viewed) (frame : ℕ) → IsViewAt at x named carried v
    → refused_frame (said_in v) ≡ Some frame → IsFramed at x named carried (number_in v.found) frame
framed_by at x named carried v frame view is =
    let it = in_frame v.blamed frame (has_frame v.found (option_map (λ b. b.frame) v.blamed) frame is) in
    record { datagram = it.datagram; is = named_by at x named carried v it.datagram view it.blamed; frame = it.frame }
