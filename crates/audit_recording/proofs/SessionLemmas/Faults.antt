-- A fault that is handed on, and what it rests on.
use Rattle.std.proofs.Common.{arith, ◌≡◌, ◌≤◌, ◌^◌, ◌-◌, ◌∷◌, ◌∙◌, ℕ, Bool, true, false, List, Option, Result, Ok, Err, IfErr, IsErrAnd, length, min, ap, inr, refl, subst, sym}
use Rattle.net_udp.specs.Recording.{Step}
use Rattle.audit_flows.specs.{AttributionFault}
use Rattle.audit_recording.specs.Blame.Frames.{Carried}
use Rattle.audit_recording.specs.Session.Kept.{ReadsOn}
use Rattle.audit_recording.specs.Session.Noted.{Noticed}
use Rattle.audit_recording.specs.Session.Opened.{BeginsWith, IsCounted, IsReadFaultOf, counted_as}
use Rattle.audit_recording.specs.declared.session.fault.ReadFault.{ReadFault}
use Rattle.audit_recording.proofs.BlameLemmas.Trailing.{one_counted}

-- what is known of it before
pub same_fault : {A F : Type 0} (r : Result A F) (e : F) (P : F → Type 0) → IsErrAnd r (λ f. f ≡ e) → P e → IfErr r P
same_fault (Ok x) e P is p = tt
same_fault (Err f) e P is p = subst P (sym is) p

-- a result that has it
abbrev pub failed : {A F : Type 0} → F → Result A F
failed e = Err e

-- it is the one that is handed on
pub same_error : {A B F : Type 0} (r : Result A F) (e x : F) → IsErrAnd r (λ f. f ≡ e) → r ≡ Err x → failed {A = B} e ≡ failed {A = B} x
same_error (Ok y) e x is same = absurd (cc)
same_error (Err f) e x is same = let this : f ≡ x = cc in ap Err (sym is ∙ this)

-- where memory was refused, it is not said that there are too many datagrams
pub not_many : {A : Type 0} (r : Result A AttributionFault) → IsErrAnd r (λ f. f ≡ AttributionFault.Memory) → r ≡ Err AttributionFault.TooMany → ⊥
not_many (Ok x) is same = absurd (cc)
not_many (Err fault) is same = let this : fault ≡ AttributionFault.TooMany = cc in let both : AttributionFault.Memory ≡ AttributionFault.TooMany = sym is ∙ this in absurd (cc)

-- ---- behind so many frames

up_to : (n k : ℕ) → n ≡ min k (2 ^ 64 - 1) → n ≤ k
up_to n k is = omega (arith, is)

-- what is answered is what the next frame left
pub counted_back : (before after : ℕ) (r : Result Bool AttributionFault) (t : Result Bool ReadFault) (goes : Bool) → IsCounted before after r t → t ≡ Ok goes → r ≡ Ok goes
counted_back before after (Ok true) t goes (count, same) is = let both : true ≡ goes = cc in ap Ok both
counted_back before after (Ok false) t goes (count, same) is = let both : false ≡ goes = cc in ap Ok both
counted_back before after (Err AttributionFault.Memory) t goes (count, same) is = absurd (cc)
counted_back before after (Err AttributionFault.TooMany) t goes (count, same) is = absurd (cc)

-- what stands after the next frame, which was counted
pub reads_counted : (P Q : List Step → List Carried → Noticed → Type 0) (history : List Step) (carried : List Carried) (s : Noticed) (before after : ℕ) (r : Result Bool AttributionFault) (t : Result Bool ReadFault)
    → IsCounted before after r t → before ≡ counted_as (length history)
    → ((frames : List Step) (datagrams : List Carried) (noticed : Noticed) → after ≡ counted_as (length frames) → P frames datagrams noticed → Q frames datagrams noticed)
    → ReadsOn P history carried s r → ReadsOn Q history carried s t
reads_counted P Q history carried s before after (Ok true) t (count, same) was f p =
    subst (ReadsOn Q history carried s) (sym same) (p.0, p.1, p.2, p.3, f (p.0 ∷ history) p.1 p.2 (one_counted before (length history) after (2 ^ 64 - 1) was count) p.4)
reads_counted P Q history carried s before after (Ok false) t (count, same) was f p = subst (ReadsOn Q history carried s) (sym same) (f history carried s (count ∙ was) p)
reads_counted P Q history carried s before after (Err AttributionFault.Memory) t (count, same) was f p = subst (ReadsOn Q history carried s) (sym same) tt
reads_counted P Q history carried s before after (Err AttributionFault.TooMany) t (count, same) was f p = subst (ReadsOn Q history carried s) (sym same) tt

-- that memory was refused behind so many is right of the file
pub refused_behind : (file : Option (List ℕ)) (history : List Step) (frames : ℕ) → BeginsWith file history → frames ≡ counted_as (length history) → IsReadFaultOf file (ReadFault.Memory frames)
refused_behind file history frames begins is = inr (history, begins, up_to frames (length history) is)

-- and so is what is answered where it does not go on
pub counted_fault : (file : Option (List ℕ)) (history : List Step) (before after : ℕ) (r : Result Bool AttributionFault) (t : Result Bool ReadFault) → IsCounted before after r t → BeginsWith file history
    → before ≡ counted_as (length history) → (r ≡ Err AttributionFault.TooMany → 2 ^ 40 ≤ length history) → IfErr t (IsReadFaultOf file)
counted_fault file history before after (Ok true) t (count, same) begins was many = subst (λ u. IfErr u (IsReadFaultOf file)) (sym same) tt
counted_fault file history before after (Ok false) t (count, same) begins was many = subst (λ u. IfErr u (IsReadFaultOf file)) (sym same) tt
counted_fault file history before after (Err AttributionFault.Memory) t (count, same) begins was many = subst (λ u. IfErr u (IsReadFaultOf file)) (sym same) (refused_behind file history before begins was)
counted_fault file history before after (Err AttributionFault.TooMany) t (count, same) begins was many = subst (λ u. IfErr u (IsReadFaultOf file)) (sym same) (history, begins, many refl)
