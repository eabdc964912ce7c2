-- Faults that become others, and what each rests on later.
use Rattle.std.proofs.Common.{◌≡◌, ℕ, Bool, true, List, Option, Result, Ok, Err, IfErr, IsErrAnd, subst, sym}
use Rattle.tftp_rows.specs.Faults.{IsPrintFault, IsRemarkFault, IsTellFault}
use Rattle.tftp_rows.specs.declared.printing.PrintFault.{PrintFault}
use Rattle.tftp_rows.specs.declared.reading.TellFault.{TellFault}

-- what is known of each fault that this one may become
pub fault_so : {A E F : Type 0} (r : Result A F) (e : E) (gives : E → F → Type 0) (P : F → Type 0) → IsErrAnd r (gives e) → ((f : F) → gives e f → P f) → IfErr r P
fault_so (Ok x) e gives P is so = tt
fault_so (Err f) e gives P is so = so f is

-- what is known of each fault
pub each_fault : {A F : Type 0} (r : Result A F) (P : F → Type 0) → ((f : F) → P f) → IfErr r P
each_fault (Ok x) P so = tt
each_fault (Err f) P so = so f

-- what is known of the fault that is handed on
pub same_fault : {A F : Type 0} (r : Result A F) (e : F) (P : F → Type 0) → IsErrAnd r (λ f. f ≡ e) → P e → IfErr r P
same_fault (Ok x) e P is p = tt
same_fault (Err f) e P is p = subst P (sym is) p

-- what has failed stays so
print_later : (u v : Bool) (fault : PrintFault) → (u ≡ true → v ≡ true) → IsPrintFault u fault → IsPrintFault v fault
print_later u v (PrintFault.Alloc error) later p = p
print_later u v (PrintFault.Write error) later p = later p

pub remark_later : (u v : Bool) (fault : TellFault) → (u ≡ true → v ≡ true) → IsRemarkFault u fault → IsRemarkFault v fault
remark_later u v (TellFault.Alloc error) later p = p
remark_later u v (TellFault.Read fault) later p = absurd p
remark_later u v (TellFault.Print fault) later p = absurd p
remark_later u v TellFault.TooMany later p = absurd p
remark_later u v TellFault.TooManyFrames later p = absurd p
remark_later u v (TellFault.Remark error) later p = later p
remark_later u v (TellFault.Text fault) later p = absurd p
remark_later u v TellFault.Unwritten later p = absurd p

pub tell_later : (file : Option (List ℕ)) (u v : Bool) (told : ℕ) (fault : TellFault) → (u ≡ true → v ≡ true) → IsTellFault file u told fault → IsTellFault file v told fault
tell_later file u v told (TellFault.Alloc error) later p = absurd p
tell_later file u v told (TellFault.Read fault) later p = p
tell_later file u v told (TellFault.Print fault) later p = print_later u v fault later p
tell_later file u v told TellFault.TooMany later p = p
tell_later file u v told TellFault.TooManyFrames later p = p
tell_later file u v told (TellFault.Remark error) later p = absurd p
tell_later file u v told (TellFault.Text fault) later p = absurd p
tell_later file u v told TellFault.Unwritten later p = absurd p
